use Rattle.graphql_change_kinds.proofs.FindsLemmas.{found_both, found_words}
use Rattle.graphql_schema_comparison.proofs.fields.compare_fields.Goals as goal

pub returns : goal.returns
returns c =
    found_words (λ merging h. record { own = h.0.0.0.0; typename = h.0.0.1; schema_field = h.0.1; type_by_name = h.1 })
    (found_both (found_both (found_both (found_both c.in_ok-compare_own_fields.ensures c.in_ok-find_added_fields.ensures) c.in_ok-compare_meta_field.ensures)
    c.in_ok-compare_meta_field-2.ensures) c.in_ok-compare_meta_field-3.ensures)
