use Rattle.std.proofs.Common.{◌≡◌, None, subst, inl, inr, take, rules}
use Rattle.std.specs.Prelude.{IsSome}
use Rattle.std.proofs.lemmas.List.{take_all}
use Rattle.graphql_documents.specs.Directives.{argument_named}
use Rattle.graphql_field_conflicts.proofs.ArgumentComparisonLemmas.{more_among, reachable_at}
use Rattle.graphql_field_conflicts.specs.Comparisons.{StandAmong}
use Rattle.graphql_field_conflicts.proofs.comparisons.arguments.conflict_of_arguments.Goals as goal

pub loop-i-preserved-then-is_some : goal.loop-i-preserved-then-is_some
loop-i-preserved-then-is_some c =
    let x = c.index-arguments-i.result in
    let known : IsSome (argument_named x.value.value.name (take c.loop-i.i c.args.arguments.now)) = search rules in
    more_among c.args.arguments.now c.loop-i.i x c.args.others.now c.loop-i-test.true c.index-arguments-i.is c.loop-i.invariant (inl known)

pub loop-i-preserved : goal.loop-i-preserved
loop-i-preserved c =
    more_among c.args.arguments.now c.loop-i.i c.index-arguments-i.result c.args.others.now c.loop-i-test.true c.index-arguments-i.is c.loop-i.invariant
    (inr c.in_default.ensures)

pub returns-in-Some : goal.returns-in-Some
returns-in-Some c =
    let x = c.index-arguments-i.result in
    let new : argument_named x.value.value.name (take c.loop-i.i c.args.arguments.now) ≡ None = search rules in
    record {
      argument = x;
      reachable = reachable_at c.args.arguments.now c.loop-i.i x c.args.others.now c.loop-i-test.true c.index-arguments-i.is c.loop-i.invariant new;
      conflicts = c.in-Some.ensures;
    }

pub returns : goal.returns
returns c = subst (λ l. StandAmong l c.args.others.now) (take_all c.loop-i.i c.args.arguments.now c.loop-i-test.false) c.loop-i.invariant
