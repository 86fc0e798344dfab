-- Operations hold against a schema that keeps what an older one had. Specification: 5.2 Operations.
use Rattle.std.proofs.Common.{[], Option, Some, sym, ap, subst}
use Rattle.std.specs.Prelude.{All, IsSome, is_some}
use Rattle.std.specs.List.{AllZip}
use Rattle.graphql_nodes.specs.Names.{NameText}
use Rattle.graphql_nodes.specs.declared.nodes.Node.{Node}
use Rattle.graphql_nodes.specs.declared.operation_types.OperationType.{OperationType}
use Rattle.graphql_nodes.specs.declared.operation_types.OperationType.TheVariants.{Query, Mutation, Subscription}
use Rattle.graphql_documents.specs.Executables.{operations_of}
use Rattle.graphql_documents.specs.Selections.{fragments_of, selections_of}
use Rattle.graphql_documents.specs.declared.documents.executables.ExecutableDocument.{ExecutableDocument}
use Rattle.graphql_documents.specs.declared.documents.executables.Operation.{Operation}
use Rattle.graphql_documents.specs.declared.documents.schemas.Schema.{Schema}
use Rattle.graphql_specification.specs.Directives.{ApplicationsHold}
use Rattle.graphql_specification.specs.Operations.{OperationHolds, operation_location}
use Rattle.graphql_specification.specs.Selections.{ReachableSelectionsHold}
use Rattle.graphql_document_building.specs.Trees.{root_name}
use Rattle.graphql_schema_changes.specs.Keeps.{IsExecutable}
use Rattle.graphql_sameness_laws.proofs.ZipLemmas.{zip_all}
use Rattle.graphql_kept_rules.proofs.KeptFieldLemmas.{applications_kept, selections_still}
use Rattle.graphql_kept_rules.proofs.KeptVariableLemmas.{definitions_still}
use Rattle.graphql_kept_rules.proofs.PairedDocumentLemmas.{PairedFragments, PairedOperation}
use Rattle.graphql_kept_rules.proofs.SchemasKeptLemmas.{SchemasKept}
use Rattle.graphql_kept_rules.proofs.SpotLemmas.{Spot}
use Rattle.graphql_kept_rules.proofs.TextSelectionLemmas.{fragments_alike}
use Rattle.graphql_kept_rules.proofs.TextVariableLemmas.{variables_used_too}
use Rattle.graphql_kept_rules.specs.SameTexts.{SameText}

pub executable : (schema : Schema) (kind : OperationType) → IsSome (root_name schema kind) → IsExecutable schema (operation_location kind)
executable schema Query h = h
executable schema Mutation h = h
executable schema Subscription h = h

module _ (old new : Schema) (k : SchemasKept old new) (d e : ExecutableDocument) (text : SameText d e)
    (fragments : PairedFragments old new k.keeps (fragments_of d) (fragments_of e)) where
  pub operation_spot : (o p : Node Operation) → PairedOperation old new k.keeps o p → OperationHolds (Some old) d o.value.value →
      Spot old new k.keeps k.outputs (fragments_of d) (fragments_of e) fragments o.value.value.variables.items o.value.value.selection_set p.value.value.selection_set
  operation_spot o p pair h = record {
    pair = pair.sets;
    composite = k.roots o.value.value.operation_type o.value.value.selection_set.ty pair.was_root;
    holds = subst
        (λ root. ReachableSelectionsHold (Some old) [] (fragments_of d) o.value.value.variables.items root (selections_of o.value.value.selection_set))
        pair.was_root h.selections;
  }

  pub operation_still : (o p : Node Operation) → PairedOperation old new k.keeps o p → OperationHolds (Some old) d o.value.value → OperationHolds (Some new) e p.value.value
  operation_still o p pair h = record {
    directives = subst (λ kind. ApplicationsHold (Some new) p.value.value.variables.items (operation_location kind) p.value.value.directives.items) pair.text.operation_type
        (applications_kept old new k o.value.value.variables.items p.value.value.variables.items pair.text.variables (operation_location o.value.value.operation_type)
        (executable old o.value.value.operation_type (ap (λ (x : Option NameText). is_some x) pair.was_root))
        o.value.value.directives.items p.value.value.directives.items pair.text.directives h.directives);
    variables = record {
      definitions = definitions_still old new k o.value.value.variables.items p.value.value.variables.items pair.text.variables h.variables.definitions;
      used = variables_used_too (fragments_of d) (fragments_of e) (fragments_alike d e text) o p pair.text h.variables.used;
    };
    selections = subst
        (λ root. ReachableSelectionsHold (Some new) [] (fragments_of e) p.value.value.variables.items root (selections_of p.value.value.selection_set))
        (sym pair.is_root)
        (selections_still old new k o.value.value.variables.items p.value.value.variables.items pair.text.variables (fragments_of d) (fragments_of e) fragments
        o.value.value.selection_set p.value.value.selection_set (operation_spot o p pair h));
  }

  pub operations_still : AllZip (PairedOperation old new k.keeps) (operations_of d) (operations_of e) →
      All (λ o. OperationHolds (Some old) d o.value.value) (operations_of d) → All (λ o. OperationHolds (Some new) e o.value.value) (operations_of e)
  operations_still zip = zip_all (PairedOperation old new k.keeps) (λ o. OperationHolds (Some old) d o.value.value) (λ o. OperationHolds (Some new) e o.value.value)
      operation_still _ _ zip
