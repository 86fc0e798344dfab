use Rattle.std.proofs.Common.{ap, arith, subst, sum_by, sym}
use Rattle.std.specs.Prelude.{OnOk}
use Rattle.graphql_merging.specs.NumberedFields.{lists_of}
use Rattle.graphql_merging.specs.Works.{Spends, compared_in}
use Rattle.graphql_merging.proofs.WeightLemmas.{none_compared}
use Rattle.graphql_merging.proofs.work.Work.count_arguments.Goals as goal

pub returns-in-Shapes-clause-spends : goal.returns-in-Shapes-clause-spends
returns-in-Shapes-clause-spends g c bounded =
    (bounded, omega (arith, ap (λ pass. sum_by (compared_in pass) (lists_of c.args.groups.now)) c.in-Shapes.is, none_compared (lists_of c.args.groups.now)))

pub returns-in-NamesAndArguments-clause-spends : goal.returns-in-NamesAndArguments-clause-spends
returns-in-NamesAndArguments-clause-spends g c =
    subst (λ pass. OnOk c.count_groups.result (Spends c.args.self.now c.count_groups.new.self (sum_by (compared_in pass) (lists_of c.args.groups.now)))) (sym c.in-NamesAndArguments.is)
    c.count_groups.ensures.spends
