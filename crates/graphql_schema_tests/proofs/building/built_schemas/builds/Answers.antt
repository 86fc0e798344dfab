use Rattle.std.proofs.Common.{◌≡◌, ◌∙◌, ◌++◌, [], ap, sym}
use Rattle.graphql_schema_tests.proofs.building.built_schemas.builds.Goals as goal

pub returns-in-Ok : goal.returns-in-Ok
returns-in-Ok c = λ yes.
    let r = c.in-Ok.ensures in
    let none : r.added ≡ [] = sym (r.appended ∙ ap (λ l. l ++ r.added) c.new-reports.ensures.empty) ∙ c.is_empty.ensures.0 yes in
    r.silent.0 none
