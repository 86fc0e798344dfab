use Rattle.std.proofs.Common.{◌≡◌, ◌+◌, sum_by}
use Rattle.graphql_reach.specs.Reach.{bytes_at}
use Rattle.graphql_reach.proofs.CountLemmas.{entry_bytes}
use Rattle.graphql_reach.proofs.reach.bytes_of_fragments.Given as goal

abbrev pub invariant-loop-fragment : goal.invariant-loop-fragment
invariant-loop-fragment l = l.bytes + sum_by (λ d. bytes_at d.location) l.fragment-iterator ≡ sum_by entry_bytes l.document.fragments.entries
