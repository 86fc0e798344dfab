use Rattle.graphql_change_kinds.proofs.FindsLemmas.{found_both, found_words}
use Rattle.graphql_input_comparison.proofs.inputs.compare_inputs.Goals as goal

pub returns : goal.returns
returns c = found_words (λ merging h given. record { ty = h.0 given; default_value = h.1 given }) (found_both c.in_ok-compare_types_of.ensures c.in_ok-compare_defaults.ensures)
