use Rattle.std.proofs.Common.{refl, sym, subst, OnOk}
use Rattle.std.specs.Prelude.{List, option_to_list}
use Rattle.std.proofs.lemmas.Result.{on_ok_weaker}
use Rattle.graphql_nodes.specs.declared.nodes.Node.{Node}
use Rattle.graphql_documents.specs.declared.documents.executables.Operation.{Operation}
use Rattle.graphql_deprecations.specs.Deprecations.{Usage}
use Rattle.graphql_deprecations.specs.InOrder.{Adds, InTurn, OperationUses}
use Rattle.graphql_deprecations.proofs.AddLemmas.{adds_none, adds_words, turn_one}
use Rattle.graphql_deprecations.proofs.usages.add_in_anonymous_operation.Goals as goal

pub returns-in-Some : goal.returns-in-Some
returns-in-Some c =
    let s = c.args.schema.now in
    let Of : Node Operation → List Usage → Type 0 = λ o. OperationUses s o.value.value in
    let x = c.in-Some.operation in
    let r = c.add_in_operation.result in
    let old = c.args.found.now.items in
    let new = c.add_in_operation.new.found.items in
    subst (λ o. OnOk r (Adds (InTurn Of (option_to_list o)) old new)) (sym c.in-Some.is)
    (on_ok_weaker r (adds_words (turn_one Of x)) (subst (λ o. OnOk r (Adds (OperationUses s o) old new)) c.deref.ensures c.add_in_operation.ensures))

pub returns-in-None : goal.returns-in-None
returns-in-None c =
    let s = c.args.schema.now in
    let Of : Node Operation → List Usage → Type 0 = λ o. OperationUses s o.value.value in
    let old = c.args.found.now.items in
    subst (λ o. Adds (InTurn Of (option_to_list o)) old old) (sym c.in-None.is) (adds_none refl)
