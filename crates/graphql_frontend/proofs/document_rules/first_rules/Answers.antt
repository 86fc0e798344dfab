use Rattle.graphql_frontend.proofs.document_rules.first_rules.Goals as goal

pub returns-then-is_full_of_rules : goal.returns-then-is_full_of_rules
returns-then-is_full_of_rules c = λ schema document each.
    let full = c.is_full_of_rules.ensures c.if-is_full_of_rules.true in
    record { some = full.0; few = full.1; each = each }
