use Rattle.std.proofs.Common.{◌≡◌, ◌∙◌, ◌++◌, ap, find, option_map, rules}
use Rattle.std.specs.Str.{bytes_eq}
use Rattle.gqlvalidate_levels.specs.declared.levels.RuleLevel.{RuleLevel}
use Rattle.gqlvalidate_levels.proofs.LevelLemmas.{given_both}
use Rattle.gqlvalidate_levels.proofs.levels.Levels.under.Goals as goal

pub returns : goal.returns
returns c = λ rule.
    let items : c.extend_from_slice.new.self.items ≡ c.args.over.now.given.items ++ c.args.self.now.given.items = search rules in
    ap (λ list. option_map (λ (g : RuleLevel). g.level) (find (λ (x : RuleLevel). bytes_eq x.rule.now rule) list)) items
    ∙ given_both c.args.over.now.given.items c.args.self.now.given.items rule
