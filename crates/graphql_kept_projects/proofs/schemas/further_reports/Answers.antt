use Rattle.std.proofs.Common.{subst}
use Rattle.std.proofs.lemmas.List.Elements.{All-weaker}
use Rattle.std.proofs.lemmas.Result.{IfOk-weaker}
use Rattle.graphql_kept_reports.specs.SchemaCuts.{rules_of}
use Rattle.graphql_kept_projects.specs.Schemas.{AreFurtherOfSchema, AreTrueOfLeftSchema, of_left}
use Rattle.graphql_kept_projects.proofs.SchemaLemmas.{rules_in_building}
use Rattle.graphql_kept_projects.proofs.schemas.further_reports.Goals as goal

pub returns-in-Building : goal.returns-in-Building
returns-in-Building c =
    let b = c.args.bounds in
    let sources = c.args.sources.now in
    let first = c.args.reports.now in
    let list = c.in-Building.list in
    let are = rules_in_building first list c.in-Building.is in
    IfOk-weaker c.reports_of_left.result _ _
    (λ further all. All-weaker (AreTrueOfLeftSchema b sources (rules_of list)) (AreFurtherOfSchema b sources first)
    (λ r true. of_left (subst (λ l. AreTrueOfLeftSchema b sources l r) are true)) further.items all)
    c.reports_of_left.ensures
