use Rattle.std.proofs.Common.{take, rules, subst}
use Rattle.std.proofs.lemmas.List.{take_all}
use Rattle.graphql_documents.proofs.ListLemmas.{more_is}
use Rattle.graphql_variables.specs.VariablesByName.{FindsFirst}
use Rattle.graphql_variables.proofs.by_name.first_of_each_name.Goals as goal

pub loop-definition-init : goal.loop-definition-init
loop-definition-init c = record { look_up = λ name. search rules }

pub loop-definition-preserved : goal.loop-definition-preserved
loop-definition-preserved c =
    let xs = c.args.definitions.now in
    let i = c.loop-definition.definition-index in
    let x = c.definition-item.result in
    rw (more_is xs i x c.loop-definition-test.true c.definition-item.is)
    (c.in_ok-add_if_new.ensures (take i xs) c.loop-definition.invariant)

pub returns : goal.returns
returns c =
    subst (FindsFirst c.loop-definition.first) (take_all c.loop-definition.definition-index c.args.definitions.now c.loop-definition-test.false) c.loop-definition.invariant
