use Rattle.std.proofs.Common.{take, sym, subst, rules}
use Rattle.graphql_repetitions.specs.References.{nows}
use Rattle.graphql_repetitions.proofs.ReferenceLemmas.{nows_all, nows_more}
use Rattle.graphql_schema_building.specs.Steps.{FindsFirst}
use Rattle.graphql_schema_building.proofs.redefined.directives_by_name.Goals as goal

pub loop-directive-init : goal.loop-directive-init
loop-directive-init c = record { look_up = λ name. search rules }

pub loop-directive-preserved : goal.loop-directive-preserved
loop-directive-preserved c =
    let xs = c.args.directives.now in
    let i = c.loop-directive.directive-index in
    let x = c.directive-item.result in
    subst (FindsFirst c.add_if_new.new.found) (sym (nows_more xs i x c.loop-directive-test.true c.directive-item.is))
    (c.in_ok-add_if_new.ensures (nows (take i xs)) c.loop-directive.invariant)

pub returns : goal.returns
returns c =
    subst (FindsFirst c.loop-directive.found) (nows_all c.args.directives.now c.loop-directive.directive-index c.loop-directive-test.false) c.loop-directive.invariant
