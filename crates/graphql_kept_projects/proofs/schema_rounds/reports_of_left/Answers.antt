use Rattle.std.proofs.Common.{[]}
use Rattle.graphql_kept_reports.specs.SchemaCuts.{rules_of}
use Rattle.graphql_kept_projects.specs.Schemas.{AreTrueOfLeftSchema, IsInDoubt}
use Rattle.graphql_project_checking.proofs.TruthLemmas.{all_added}
use Rattle.graphql_kept_projects.proofs.SchemaLemmas.{first_in_doubt}
use Rattle.graphql_kept_projects.proofs.schema_rounds.reports_of_left.Goals as goal

pub returns : goal.returns
returns c =
    let first = rules_of c.args.reports.now in
    let in_doubt = first_in_doubt first _ (c.in_ok-faults.ensures [] c.new-doubts.ensures) in
    all_added (AreTrueOfLeftSchema c.args.bounds c.args.whole.now first) c.new-further.result.items c.add_rounds.new.further.items
    (c.in_ok-add_rounds.ensures first in_doubt) c.new-further.ensures.items
