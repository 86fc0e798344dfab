use Rattle.std.proofs.Common.{take, sym, subst, rules}
use Rattle.graphql_repetitions.specs.References.{nows}
use Rattle.graphql_schema_checking.specs.Steps.{AreFirst}
use Rattle.graphql_repetitions.proofs.ReferenceLemmas.{nows_all, nows_more}
use Rattle.graphql_schema_checking.proofs.by_name.first_definitions.Goals as goal

pub loop-definition-init : goal.loop-definition-init
loop-definition-init c = record { look_up = λ name. search rules; values_are = search rules }

pub loop-definition-preserved : goal.loop-definition-preserved
loop-definition-preserved c =
    let xs = c.args.types.now in
    let i = c.loop-definition.definition-index in
    let x = c.definition-item.result in
    subst (AreFirst c.add_if_new.new.first) (sym (nows_more xs i x c.loop-definition-test.true c.definition-item.is))
    (c.in_ok-add_if_new.ensures (nows (take i xs)) c.loop-definition.invariant)

pub returns : goal.returns
returns c =
    subst (AreFirst c.loop-definition.first) (nows_all c.args.types.now c.loop-definition.definition-index c.loop-definition-test.false) c.loop-definition.invariant
