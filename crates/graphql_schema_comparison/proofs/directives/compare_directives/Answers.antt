use Rattle.graphql_change_kinds.proofs.FindsLemmas.{found_both, found_words}
use Rattle.graphql_schema_comparison.proofs.directives.compare_directives.Goals as goal

pub returns : goal.returns
returns c = found_words (λ merging h. h.0) (found_both c.in_ok-compare_old_directives.ensures c.in_ok-find_added_directives.ensures)
