use Rattle.graphql_frontend.specs.Documents.{breaks_more}
use Rattle.graphql_frontend.proofs.documents.first_building_reports.Goals as goal

pub returns-then-is_full_of_building_rules : goal.returns-then-is_full_of_building_rules
returns-then-is_full_of_building_rules c = λ bytes schema tree each.
    let full = c.is_full_of_building_rules.ensures c.if-is_full_of_building_rules.true in
    breaks_more (record { some = full.0; few = full.1; each = each })
