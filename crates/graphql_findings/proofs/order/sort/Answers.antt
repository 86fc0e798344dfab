use Rattle.std.proofs.Common.{◌≡◌, IsSorted, rules}
use Rattle.std.proofs.lemmas.Result.{on_ok_weaker}
use Rattle.graphql_findings.specs.Order.{found_cmp}
use Rattle.graphql_findings.proofs.OrderLemmas.{sorted_by_calls}
use Rattle.graphql_findings.proofs.order.sort.Goals as goal

pub returns-clause-sorted : goal.returns-clause-sorted
returns-clause-sorted c =
    on_ok_weaker {Q = IsSorted found_cmp c.sort_by.new.self.items} c.sort_by.result
    (λ sorted. sorted_by_calls c.sort_by.new.self.items sorted (λ a r q k. search rules))
    c.sort_by.ensures.sorted
