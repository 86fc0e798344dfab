-- What one tree says against schemas that are the same is the same. Specification: 2.2 Document to 2.8 Fragments.
use Rattle.std.proofs.Common.{◌≡◌, ◌∙◌, List, [], ◌∷◌, Option, None, Some, ap, refl, sym, subst, subst₂}
use Rattle.std.specs.Prelude.{option_map}
use Rattle.std.specs.List.{AllZip}
use Rattle.std.specs.Result.{result_ok}
use Rattle.graphql_nodes.specs.Names.{NameText}
use Rattle.graphql_nodes.specs.Nodes.{SameNode}
use Rattle.graphql_nodes.specs.declared.nodes.Node.{Node}
use Rattle.graphql_nodes.specs.declared.operation_types.OperationType.{OperationType}
use Rattle.graphql_documents.specs.Contents.{SameIfAny}
use Rattle.graphql_documents.specs.Schemas.{type_field}
use Rattle.graphql_documents.specs.TypeReferences.{as_written}
use Rattle.graphql_documents.specs.declared.documents.components.Component.{Component}
use Rattle.graphql_documents.specs.declared.documents.components.ComponentName.{ComponentName}
use Rattle.graphql_documents.specs.declared.documents.definitions.FieldDefinition.{FieldDefinition}
use Rattle.graphql_documents.specs.declared.documents.executables.ExecutableDocument.{ExecutableDocument}
use Rattle.graphql_documents.specs.declared.documents.executables.Field.{Field}
use Rattle.graphql_documents.specs.declared.documents.executables.Fragment.{Fragment}
use Rattle.graphql_documents.specs.declared.documents.executables.FragmentSpread.{FragmentSpread}
use Rattle.graphql_documents.specs.declared.documents.executables.InlineFragment.{InlineFragment}
use Rattle.graphql_documents.specs.declared.documents.executables.Operation.{Operation}
use Rattle.graphql_documents.specs.declared.documents.executables.Selection.{Selection}
use Rattle.graphql_documents.specs.declared.documents.executables.Selection.TheVariants as kind
use Rattle.graphql_documents.specs.declared.documents.schemas.Schema.{Schema}
use Rattle.graphql_trees.specs.declared.documents.Document.{Document}
use Rattle.graphql_trees.specs.declared.executable.Field as field_tree
use Rattle.graphql_trees.specs.declared.executable.FragmentDefinition.{FragmentDefinition}
use Rattle.graphql_trees.specs.declared.executable.FragmentSpread as spread_tree
use Rattle.graphql_trees.specs.declared.executable.InlineFragment as inline_fragment_tree
use Rattle.graphql_trees.specs.declared.executable.OperationDefinition.{OperationDefinition}
use Rattle.graphql_trees.specs.declared.executable.Selection as selection_tree
use Rattle.graphql_trees.specs.declared.executable.Selection.TheOpen as Open
use Rattle.graphql_trees.specs.declared.executable.Selection.TheVariants as tree
use Rattle.graphql_leaf_building.specs.Definitions.{VariableSays}
use Rattle.graphql_leaf_building.specs.Directives.{ArgumentSays, DirectiveSays}
use Rattle.graphql_document_building.proofs.SameDocumentLemmas.{document_is_same}
use Rattle.graphql_document_building.proofs.SameLeafLemmas.{argument_is_same, both_said, directive_is_same, variable_is_same}
use Rattle.graphql_document_building.specs.Documents.{DocumentSays, FragmentSays, IsRoot, OperationSays, SaysUnderName}
use Rattle.graphql_document_building.specs.SameDocuments.{SameDocument, SameFieldHead, SameFragment, SameInlineFragmentHead, SameOperation, SameSelection, SameSelections, SameSpread, SameUnderName, next_selection, no_selections, same_field, same_inline_fragment, same_spread}
use Rattle.graphql_document_building.specs.SameLeaves.{SameArgument, SameDirective, SameDirectives, SameField, SameInputValues, SameVariable}
use Rattle.graphql_document_building.specs.Selections as says
use Rattle.graphql_document_building.specs.Selections.{DefinesField, FieldHeadSays, FragmentSpreadSays, InlineFragmentHeadSays, SelectionSays, SelectionsSay}
use Rattle.graphql_document_building.specs.Trees.{anonymous_operations_in, fragments_in, named_operations_in, root_name, selections_in}
use Rattle.graphql_building_laws.specs.SameSchemas.{SameComponent, SameSchema}
use Rattle.graphql_sameness_laws.proofs.SchemaLookupLemmas.{field_alike, one_root_operation}
use Rattle.graphql_sameness_laws.proofs.TypeLemmas.{one_name}
use Rattle.graphql_sameness_laws.proofs.ZipLemmas.{other_side}

-- two lists that are said in two ways
both_listed : {T X : Type 0} (Says Other : T → X → Type 0) (Same : X → X → Type 0) → ((t : T) (a b : X) → Says t a → Other t b → Same a b) →
    (ts : List T) (xs ys : List X) → AllZip Says ts xs → AllZip Other ts ys → AllZip Same xs ys
both_listed Says Other Same one [] [] [] p q = tt
both_listed Says Other Same one [] [] (b ∷ ys) p q = absurd q
both_listed Says Other Same one [] (a ∷ xs) ys p q = absurd p
both_listed Says Other Same one (t ∷ ts) [] ys p q = absurd p
both_listed Says Other Same one (t ∷ ts) (a ∷ xs) [] p q = absurd q
both_listed Says Other Same one (t ∷ ts) (a ∷ xs) (b ∷ ys) p q = (one t a b p.0 q.0, both_listed Says Other Same one ts xs ys p.1 q.1)

-- shared copies of definitions that are the same
copies_alike : (d e f g : Node FieldDefinition) → SameField d e → SameNode d f → SameNode e g → SameField f g
copies_alike d e f g is p q =
    let left : d.value.value ≡ f.value.value = sym p.same_value in
    let right : e.value.value ≡ g.value.value = sym q.same_value in
    record {
      name = subst₂ (λ (v w : FieldDefinition). v.name ≡ w.name) left right is.name;
      arguments = subst₂ (λ (v w : FieldDefinition). SameInputValues v.arguments.items w.arguments.items) left right is.arguments;
      ty = subst₂ (λ (v w : FieldDefinition). as_written v.ty ≡ as_written w.ty) left right is.ty;
      directives = subst₂ (λ (v w : FieldDefinition). SameDirectives v.directives.items w.directives.items) left right is.directives;
      location = p.same_location ∙ is.location ∙ sym q.same_location;
    }

spread_alike : (t : spread_tree.FragmentSpread) (a b : Node FragmentSpread) → FragmentSpreadSays t a → FragmentSpreadSays t b → SameSpread a b
spread_alike t a b p q = record {
  name = p.name ∙ sym q.name;
  directives = both_said DirectiveSays SameDirective directive_is_same t.directives _ _ p.directives q.directives;
  location = p.location ∙ sym q.location;
}

inline_fragment_alike : (parent : NameText) (t : inline_fragment_tree.InlineFragment) (a b : InlineFragment) →
    InlineFragmentHeadSays parent t a → InlineFragmentHeadSays parent t b → SameInlineFragmentHead a b
inline_fragment_alike parent t a b p q = record {
  type_condition = p.type_condition ∙ sym q.type_condition;
  directives = both_said DirectiveSays SameDirective directive_is_same t.directives _ _ p.directives q.directives;
  set_type = p.set_type ∙ sym q.set_type;
}

module _ (r s : Schema) (schemas : SameSchema r s) where
  definition_alike : (parent name : NameText) (d e : Node FieldDefinition) → DefinesField (Some r) parent name d → DefinesField (Some s) parent name e → SameField d e
  definition_alike parent name d e (c, found, is) (c', found', is') =
      let other = other_side (SameComponent SameField) (result_ok (type_field r parent name)) (result_ok (type_field s parent name)) c
      (field_alike r s schemas parent name) (ap result_ok found) in
      let both : Some c' ≡ Some other.0 = sym (ap result_ok found') ∙ other.1 in
      let one : c' ≡ other.0 = cc in
      subst₂ SameField is (ap (λ (c : Component FieldDefinition). c.node) (sym one) ∙ is') other.2.1

  one_root : (operation : OperationType) (a b : NameText) → IsRoot (Some r) operation a → IsRoot (Some s) operation b → a ≡ b
  one_root operation a b p q =
      let alike : root_name r operation ≡ root_name s operation = ap (option_map (λ (root : ComponentName). root.name)) (one_root_operation r s schemas operation) in
      let both : Some a ≡ Some b = sym p ∙ alike ∙ q in
      cc

  head_alike : (parent : NameText) (t : field_tree.Field) (a b : Field) → FieldHeadSays (Some r) parent t a → FieldHeadSays (Some s) parent t b → SameFieldHead None a b
  head_alike parent t a b p q =
      let one = definition_alike parent _ _ _ p.defines q.defines in
      record {
        definition = copies_alike _ _ _ _ one p.same_definition q.same_definition;
        alias = p.alias ∙ sym q.alias;
        name = p.name ∙ sym q.name;
        arguments = both_said ArgumentSays SameArgument argument_is_same (field_tree.out-Field t).arguments _ _ p.arguments q.arguments;
        directives = both_said DirectiveSays SameDirective directive_is_same (field_tree.out-Field t).directives _ _ p.directives q.directives;
        set_type = p.set_type ∙ one_name _ _ one.ty ∙ sym q.set_type;
      }

  -- what a tree says, by its form
  abbrev IsSaid : NameText → selection_tree.Selection → Selection → Type 0
  IsSaid parent t x = elim (selection_tree.out-Selection t) [
    | Open.Field x' ↦ (f : Node Field) × FieldHeadSays (Some s) parent x' f.value.value ×
        SelectionsSay (Some s) f.value.value.selection_set.ty (selections_in (field_tree.out-Field x').selection_set) f.value.value.selection_set.selections.items ×
        (f.location ≡ Some (field_tree.out-Field x').span) × (x ≡ kind.Field f)
    | Open.FragmentSpread x' ↦ (p : Node FragmentSpread) × FragmentSpreadSays x' p × (x ≡ kind.FragmentSpread p)
    | Open.InlineFragment x' ↦ (i : Node InlineFragment) × InlineFragmentHeadSays parent x' i.value.value ×
        SelectionsSay (Some s) i.value.value.selection_set.ty x'.selection_set.selections i.value.value.selection_set.selections.items ×
        (i.location ≡ Some x'.span) × (x ≡ kind.InlineFragment i)
  ]

  said : (parent : NameText) (t : selection_tree.Selection) (x : Selection) → SelectionSays (Some s) parent t x → IsSaid parent t x
  said parent t x (says.field_says x' f head set location) = rw (tree.outs-Field x', IsSaid) (f, head, set, location, refl)
  said parent t x (says.fragment_spread_says x' p spread) = rw (tree.outs-FragmentSpread x', IsSaid) (p, spread, refl)
  said parent t x (says.inline_fragment_says x' i head set location) = rw (tree.outs-InlineFragment x', IsSaid) (i, head, set, location, refl)

  mutual
    selection_alike : (parent : NameText) (t : selection_tree.Selection) (a b : Selection) →
        SelectionSays (Some r) parent t a → SelectionSays (Some s) parent t b → SameSelection None a b
    selection_alike parent t a b (says.field_says x f head set location) q =
        let is = rw (tree.outs-Field x, IsSaid) at (said parent t b q) in
        let same = head_alike parent x f.value.value is.0.value.value head is.1 in
        subst (SameSelection None (kind.Field f)) (sym is.4) (same_field f is.0 same
        (selections_alike f.value.value.selection_set.ty is.0.value.value.selection_set.ty _ _ _ same.set_type set is.2) (location ∙ sym is.3))
    selection_alike parent t a b (says.fragment_spread_says x p spread) q =
        let is = rw (tree.outs-FragmentSpread x, IsSaid) at (said parent t b q) in
        subst (SameSelection None (kind.FragmentSpread p)) (sym is.2) (same_spread p is.0 (spread_alike x p is.0 spread is.1))
    selection_alike parent t a b (says.inline_fragment_says x i head set location) q =
        let is = rw (tree.outs-InlineFragment x, IsSaid) at (said parent t b q) in
        let same = inline_fragment_alike parent x i.value.value is.0.value.value head is.1 in
        subst (SameSelection None (kind.InlineFragment i)) (sym is.4) (same_inline_fragment i is.0 same
        (selections_alike i.value.value.selection_set.ty is.0.value.value.selection_set.ty _ _ _ same.set_type set is.2) (location ∙ sym is.3))

    selections_alike : (parent other : NameText) (ts : List selection_tree.Selection) (xs ys : List Selection) → parent ≡ other →
        SelectionsSay (Some r) parent ts xs → SelectionsSay (Some s) other ts ys → SameSelections None xs ys
    selections_alike parent other [] [] [] e says.no_selections says.no_selections = no_selections
    selections_alike parent other [] [] (b ∷ ys) e says.no_selections q = elim q [ ]
    selections_alike parent other (_ ∷ _) (_ ∷ _) [] e (says.next_selection first rest) q = elim q [ ]
    selections_alike parent other (t ∷ ts) (a ∷ xs) (b ∷ ys) e (says.next_selection first rest) (says.next_selection one more) =
        next_selection (selection_alike parent t a b first (subst (λ p. SelectionSays (Some s) p t b) (sym e) one))
        (selections_alike parent other ts xs ys e rest more)

  operation_alike : (t : OperationDefinition) (a b : Node Operation) → OperationSays (Some r) t a → OperationSays (Some s) t b → SameOperation None a b
  operation_alike t a b p q =
      let set_type : a.value.value.selection_set.ty ≡ b.value.value.selection_set.ty = one_root t.operation_type _ _ p.root q.root in
      record {
        operation_type = p.operation_type ∙ sym q.operation_type;
        name = p.name ∙ sym q.name;
        variables = both_said VariableSays SameVariable variable_is_same t.variables _ _ p.variables q.variables;
        directives = both_said DirectiveSays SameDirective directive_is_same t.directives _ _ p.directives q.directives;
        set_type = set_type;
        selections = selections_alike _ _ _ _ _ set_type p.selections q.selections;
        location = p.location ∙ sym q.location;
      }

  fragment_alike : (t : FragmentDefinition) (a b : Node Fragment) → FragmentSays (Some r) t a → FragmentSays (Some s) t b → SameFragment None a b
  fragment_alike t a b p q =
      let set_type = p.type_condition ∙ sym q.type_condition in
      record {
        name = p.name ∙ sym q.name;
        directives = both_said DirectiveSays SameDirective directive_is_same t.directives _ _ p.directives q.directives;
        set_type = set_type;
        selections = selections_alike _ _ _ _ _ set_type p.selections q.selections;
        location = p.location ∙ sym q.location;
      }

  document_alike : (t : Document) (d e : ExecutableDocument) → DocumentSays (Some r) t d → DocumentSays (Some s) t e → SameDocument None d e
  document_alike t d e p q = record {
    anonymous = both_listed (OperationSays (Some r)) (OperationSays (Some s)) (SameOperation None) operation_alike (anonymous_operations_in t.definitions) _ _ p.anonymous q.anonymous;
    named = both_listed (SaysUnderName (OperationSays (Some r))) (SaysUnderName (OperationSays (Some s))) (SameUnderName (SameOperation None))
        (λ x a b u v. (u.0 ∙ sym v.0, operation_alike x.1 a.1 b.1 u.1 v.1)) (named_operations_in t.definitions) _ _ p.named q.named;
    fragments = both_listed (SaysUnderName (FragmentSays (Some r))) (SaysUnderName (FragmentSays (Some s))) (SameUnderName (SameFragment None))
        (λ x a b u v. (u.0 ∙ sym v.0, fragment_alike x.1 a.1 b.1 u.1 v.1)) (fragments_in t.definitions) _ _ p.fragments q.fragments;
  }

pub said_against_same_schemas : (oa ob : Option Schema) → SameIfAny SameSchema oa ob → (t : Document) (d e : ExecutableDocument) →
    DocumentSays oa t d → DocumentSays ob t e → SameDocument None d e
said_against_same_schemas None None schemas t d e p q = document_is_same None t d e p q
said_against_same_schemas None (Some s) schemas t d e p q = absurd schemas
said_against_same_schemas (Some r) None schemas t d e p q = absurd schemas
said_against_same_schemas (Some r) (Some s) schemas t d e p q = document_alike r s schemas t d e p q
