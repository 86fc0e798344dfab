-- Operations that are the same hold as well, and fragments that are the same are used as well. Specification: 5.2 Operations,
-- 5.5.1.4 Fragments Must Be Used.
use Rattle.std.proofs.Common.{◌≡◌, ◌∙◌, [], Option, None, Some, refl, ap, subst, subst₂}
use Rattle.std.specs.Prelude.{option_map}
use Rattle.graphql_nodes.specs.Names.{SameName}
use Rattle.graphql_nodes.specs.declared.nodes.Node.{Node}
use Rattle.graphql_documents.specs.Contents.{SameIfAny}
use Rattle.graphql_documents.specs.Selections.{Reachable, fragments_of, selections_of}
use Rattle.graphql_documents.specs.declared.documents.components.ComponentName.{ComponentName}
use Rattle.graphql_documents.specs.declared.documents.executables.ExecutableDocument.{ExecutableDocument}
use Rattle.graphql_documents.specs.declared.documents.executables.Fragment.{Fragment}
use Rattle.graphql_documents.specs.declared.documents.executables.FragmentSpread.{FragmentSpread}
use Rattle.graphql_documents.specs.declared.documents.executables.Operation.{Operation}
use Rattle.graphql_documents.specs.declared.documents.executables.Selection.TheVariants as kind
use Rattle.graphql_documents.specs.declared.documents.schemas.Schema.{Schema}
use Rattle.graphql_specification.specs.Directives.{ApplicationsHold}
use Rattle.graphql_specification.specs.FragmentsUsed.{IsFragmentUsed}
use Rattle.graphql_specification.specs.Operations.{OperationHolds, operation_location, root_type}
use Rattle.graphql_specification.specs.Selections.{ReachableSelectionsHold}
use Rattle.graphql_document_building.specs.SameDocuments.{SameDocument, SameFragment, SameOperation}
use Rattle.graphql_building_laws.specs.SameSchemas.{SameSchema}
use Rattle.graphql_sameness_laws.proofs.DirectiveLemmas.{applications_too}
use Rattle.graphql_sameness_laws.proofs.ReachLemmas.{reachable_too}
use Rattle.graphql_sameness_laws.proofs.ReachedPlaceLemmas.{reachable_selections_too}
use Rattle.graphql_sameness_laws.proofs.SchemaLookupLemmas.{one_root_operation}
use Rattle.graphql_sameness_laws.proofs.SelectionLemmas.{as_spread, fragments_alike, operation_set, operations_alike}
use Rattle.graphql_sameness_laws.proofs.VariableLemmas.{variables_hold_too}
use Rattle.graphql_sameness_laws.proofs.ZipLemmas.{zip_any}

one_root_type : (oa ob : Option Schema) → SameIfAny SameSchema oa ob → (o p : Node Operation) → SameOperation None o p →
    root_type oa o.value.value ≡ root_type ob p.value.value
one_root_type None None schemas o p same = refl
one_root_type None (Some b) schemas o p same = absurd schemas
one_root_type (Some a) None schemas o p same = absurd schemas
one_root_type (Some a) (Some b) schemas o p same =
    ap (option_map (λ (root : ComponentName). root.name)) (one_root_operation a b schemas o.value.value.operation_type) ∙
    ap (λ kind. root_type (Some b) (record {
      operation_type = kind;
      name = p.value.value.name;
      variables = p.value.value.variables;
      directives = p.value.value.directives;
      selection_set = p.value.value.selection_set;
    })) same.operation_type

module _ (oa ob : Option Schema) (schemas : SameIfAny SameSchema oa ob) (d e : ExecutableDocument) (documents : SameDocument None d e) where
  pub operation_holds_too : (o p : Node Operation) → SameOperation None o p → OperationHolds oa d o.value.value → OperationHolds ob e p.value.value
  operation_holds_too o p same h =
      let alike = fragments_alike d e documents in
      record {
        directives = subst (λ kind. ApplicationsHold ob p.value.value.variables.items (operation_location kind) p.value.value.directives.items) same.operation_type
            (applications_too oa ob schemas o.value.value.variables.items p.value.value.variables.items same.variables (operation_location o.value.value.operation_type)
            o.value.value.directives.items p.value.value.directives.items same.directives h.directives);
        variables = variables_hold_too oa ob schemas (fragments_of d) (fragments_of e) alike o p same h.variables;
        selections = subst
            (λ root. ReachableSelectionsHold ob [] (fragments_of e) p.value.value.variables.items root (selections_of p.value.value.selection_set))
            (one_root_type oa ob schemas o p same)
            (reachable_selections_too oa ob schemas (fragments_of d) (fragments_of e) alike o.value.value.variables.items p.value.value.variables.items same.variables
            [] (root_type oa o.value.value) (selections_of o.value.value.selection_set) (selections_of p.value.value.selection_set) same.selections h.selections);
      }

module _ (d e : ExecutableDocument) (documents : SameDocument None d e) where
  pub fragment_used_too : (f g : Node Fragment) → SameFragment None f g → IsFragmentUsed d f.value.value → IsFragmentUsed e g.value.value
  fragment_used_too f g same =
      zip_any (SameOperation None)
      (λ o. (p : Node FragmentSpread) × Reachable (fragments_of d) o.value.value.selection_set (kind.FragmentSpread p) × SameName p.value.value.fragment_name f.value.value.name)
      (λ o. (p : Node FragmentSpread) × Reachable (fragments_of e) o.value.value.selection_set (kind.FragmentSpread p) × SameName p.value.value.fragment_name g.value.value.name)
      (λ o u alike h.
      let t = reachable_too (fragments_of d) (fragments_of e) (fragments_alike d e documents) h.1 u.value.value.selection_set (operation_set o u alike) in
      let q = as_spread h.0 t.0 t.2 in
      (q.0, subst (Reachable (fragments_of e) u.value.value.selection_set) q.2 t.1, subst₂ SameName q.1.name same.name h.2))
      _ _ (operations_alike d e documents)
