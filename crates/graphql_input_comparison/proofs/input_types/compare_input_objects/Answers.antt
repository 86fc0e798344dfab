use Rattle.graphql_change_kinds.proofs.FindsLemmas.{found_both, found_words}
use Rattle.graphql_input_comparison.proofs.input_types.compare_input_objects.Goals as goal

pub returns : goal.returns
returns c = found_words (λ merging h. record { kept = h.0; required = h.1 h.0 }) (found_both c.in_ok-compare_old_fields.ensures c.in_ok-compare_new_fields.ensures)
