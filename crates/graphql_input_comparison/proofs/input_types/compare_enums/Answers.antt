use Rattle.graphql_change_kinds.proofs.FindsLemmas.{found_both, found_words}
use Rattle.graphql_input_comparison.proofs.input_types.compare_enums.Goals as goal

pub returns : goal.returns
returns c = found_words (λ merging h. h.0) (found_both c.in_ok-compare_values.ensures c.in_ok-find_added_values.ensures)
