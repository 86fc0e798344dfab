use Rattle.std.proofs.Common.{◌≡◌, ◌+◌, sum_by}
use Rattle.graphql_reach.specs.Reach.{bytes_at}
use Rattle.graphql_reach.proofs.CountLemmas.{found_bytes}
use Rattle.graphql_reach.proofs.reach.bytes_reached.Given as goal

abbrev pub invariant-loop-name : goal.invariant-loop-name
invariant-loop-name l =
    l.bytes + sum_by (λ name. found_bytes l.document.fragments.entries name.now) l.name-iterator ≡
    bytes_at l.operation.location + sum_by (λ name. found_bytes l.document.fragments.entries name.now) l.initial.name-iterator
