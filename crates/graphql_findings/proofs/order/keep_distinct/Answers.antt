use Rattle.graphql_findings.proofs.OrderLemmas.{distinct_of_sorted}
use Rattle.graphql_findings.proofs.order.keep_distinct.Goals as goal

pub returns : goal.returns
returns c = distinct_of_sorted c.args.found.now.items c.sort.new.found.items c.drop_equals.new.found.items c.in_ok-sort.ensures.same c.in_ok-sort.ensures.sorted c.drop_equals.ensures
