use Rattle.std.proofs.Common.{subst, ◌∙◌}
use Rattle.std.proofs.lemmas.Option.{same_Some}
use Rattle.graphql_cycles.proofs.InputObjectLevelLemmas.{fields_lower}
use Rattle.graphql_cycles.specs.InputObjectLevels.{RequiresLower}
use Rattle.graphql_cycles.proofs.input_object_levels.is_next.Goals as goal

pub returns-in-Some : goal.returns-in-Some
returns-in-Some c = λ next d found.
    let levels = c.args.levels.now in
    let schema = c.args.schema.now in
    let held = c.in-Some.input_object.now in
    subst (RequiresLower levels schema c.args.level) (same_Some held d (c.in-Some.ensures ∙ found))
    (fields_lower levels schema held c.args.level (c.requires_lower.ensures.0 next))
