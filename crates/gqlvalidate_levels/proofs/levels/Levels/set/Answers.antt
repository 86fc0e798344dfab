use Rattle.std.proofs.Common.{◌≡◌, ◌∙◌, ◌∷◌, ap, find, option_map, rules, unwrap_or}
use Rattle.std.specs.Str.{bytes_eq}
use Rattle.gqlvalidate_levels.specs.Levels.{others_than, usual_level}
use Rattle.gqlvalidate_levels.specs.declared.levels.RuleLevel.{RuleLevel}
use Rattle.gqlvalidate_levels.proofs.LevelLemmas.{level_given}
use Rattle.gqlvalidate_levels.proofs.levels.Levels.set.Goals as goal

pub returns : goal.returns
returns c = λ rule.
    let items : c.insert.new.self.items ≡ c.args.given ∷ others_than c.args.given.rule.now c.args.self.now.given.items = search rules in
    ap (λ list. unwrap_or (option_map (λ (g : RuleLevel). g.level) (find (λ (x : RuleLevel). bytes_eq x.rule.now rule) list)) (usual_level rule)) items
    ∙ level_given c.args.given c.args.self.now.given.items rule
