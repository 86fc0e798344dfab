use Rattle.std.proofs.Common.{All, Bor, subst, take_all}
use Rattle.std.proofs.lemmas.List.Elements.{All-weaker}
use Rattle.graphql_documents.specs.Selections.{fragments_of}
use Rattle.graphql_documents.specs.declared.documents.executables.Operation.{Operation}
use Rattle.graphql_nodes.specs.declared.nodes.Node.{Node}
use Rattle.graphql_lone_fields.specs.LoneFields.{HasLoneFields, HasLoneFieldsWithin}
use Rattle.graphql_lone_fields.proofs.LoneFieldLemmas.{lone_at_any_depth}
use Rattle.graphql_lone_fields.proofs.lone_fields.have_lone_fields_in_steps.Goals as goal

pub returns-clause-depth : goal.returns-clause-depth
returns-clause-depth g c = λ yes.
    subst (All (λ (o : Bor (Node Operation)). HasLoneFieldsWithin (fragments_of c.args.document.now) 100 o.now.value.value.selection_set))
    (take_all c.loop-operation.operation-index c.args.operations.now c.loop-operation-test.false) c.loop-operation.invariant.lone

pub returns-clause-lone : goal.returns-clause-lone
returns-clause-lone g c = λ yes.
    All-weaker (λ (o : Bor (Node Operation)). HasLoneFieldsWithin (fragments_of c.args.document.now) 100 o.now.value.value.selection_set)
    (λ (o : Bor (Node Operation)). HasLoneFields (fragments_of c.args.document.now) o.now.value.value.selection_set)
    (λ o within. lone_at_any_depth (fragments_of c.args.document.now) within) c.args.operations.now
    (subst (All (λ (o : Bor (Node Operation)). HasLoneFieldsWithin (fragments_of c.args.document.now) 100 o.now.value.value.selection_set))
    (take_all c.loop-operation.operation-index c.args.operations.now c.loop-operation-test.false) c.loop-operation.invariant.lone)
