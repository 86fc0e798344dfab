-- What one tree says, against a schema or without one, is the same but for places in memory.
use Rattle.std.proofs.Common.{◌≡◌, ◌∙◌, List, [], ◌∷◌, Option, None, Some, ap, refl, sym, subst, subst₂}
use Rattle.std.proofs.lemmas.List.Elements.{All-nil}
use Rattle.graphql_nodes.specs.Names.{NameText}
use Rattle.graphql_nodes.specs.Nodes.{SameNode}
use Rattle.graphql_nodes.specs.declared.nodes.Node.{Node}
use Rattle.graphql_nodes.specs.declared.operation_types.OperationType.{OperationType}
use Rattle.graphql_documents.specs.TypeReferences.{as_written, inner_named_type}
use Rattle.graphql_documents.specs.declared.documents.components.Component.{Component}
use Rattle.graphql_documents.specs.declared.documents.definitions.FieldDefinition.{FieldDefinition}
use Rattle.graphql_documents.specs.declared.documents.executables.ExecutableDocument.{ExecutableDocument}
use Rattle.graphql_documents.specs.declared.documents.executables.Field.{Field}
use Rattle.graphql_documents.specs.declared.documents.executables.Fragment.{Fragment}
use Rattle.graphql_documents.specs.declared.documents.executables.FragmentSpread.{FragmentSpread}
use Rattle.graphql_documents.specs.declared.documents.executables.InlineFragment.{InlineFragment}
use Rattle.graphql_documents.specs.declared.documents.executables.Operation.{Operation}
use Rattle.graphql_documents.specs.declared.documents.executables.Selection.{Selection}
use Rattle.graphql_documents.specs.declared.documents.executables.Selection.TheVariants as kind
use Rattle.graphql_documents.specs.declared.documents.schemas.Schema.{Schema}
use Rattle.graphql_trees.specs.declared.documents.Document.{Document}
use Rattle.graphql_trees.specs.declared.executable.Field as field_tree
use Rattle.graphql_trees.specs.declared.executable.FragmentDefinition.{FragmentDefinition}
use Rattle.graphql_trees.specs.declared.executable.FragmentSpread as spread_tree
use Rattle.graphql_trees.specs.declared.executable.InlineFragment as inline_fragment_tree
use Rattle.graphql_trees.specs.declared.executable.OperationDefinition.{OperationDefinition}
use Rattle.graphql_trees.specs.declared.executable.Selection as selection_tree
use Rattle.graphql_trees.specs.declared.executable.Selection.TheOpen as Open
use Rattle.graphql_trees.specs.declared.executable.Selection.TheVariants as tree
use Rattle.graphql_leaf_building.specs.Definitions.{VariableSays}
use Rattle.graphql_leaf_building.specs.Directives.{ArgumentSays, DirectiveSays}
use Rattle.graphql_document_building.proofs.SameLeafLemmas.{argument_is_same, both_said, directive_is_same, variable_is_same}
use Rattle.graphql_document_building.proofs.SameFieldLemmas.{HasNoDefault, field_of_no_text_is_same}
use Rattle.graphql_document_building.proofs.TypeTextLemmas.{one_name_within}
use Rattle.graphql_document_building.specs.Documents.{DocumentSays, FragmentSays, IsRoot, OperationSays, SaysUnderName}
use Rattle.graphql_document_building.specs.SameDocuments.{SameDefinition, SameDocument, SameFieldHead, SameFragment, SameInlineFragmentHead, SameOperation, SameSelection, SameSelections, SameSpread, SameUnderName, next_selection, no_selections, same_field, same_inline_fragment, same_spread}
use Rattle.graphql_document_building.specs.SameLeaves.{SameArgument, SameDirective, SameDirectives, SameInputValues, SameVariable}
use Rattle.graphql_document_building.specs.Selections as says
use Rattle.graphql_document_building.specs.Selections.{DefinesField, FieldHeadSays, FragmentSpreadSays, InlineFragmentHeadSays, SelectionSays, SelectionsSay}
use Rattle.graphql_document_building.specs.Trees.{anonymous_operations_in, fragments_in, named_operations_in, selections_in}

spread_is_same : (t : spread_tree.FragmentSpread) (a b : Node FragmentSpread) → FragmentSpreadSays t a → FragmentSpreadSays t b → SameSpread a b
spread_is_same t a b p q = record {
  name = p.name ∙ sym q.name;
  directives = both_said DirectiveSays SameDirective directive_is_same t.directives _ _ p.directives q.directives;
  location = p.location ∙ sym q.location;
}

inline_fragment_is_same : (parent : NameText) (t : inline_fragment_tree.InlineFragment) (a b : InlineFragment) →
    InlineFragmentHeadSays parent t a → InlineFragmentHeadSays parent t b → SameInlineFragmentHead a b
inline_fragment_is_same parent t a b p q = record {
  type_condition = p.type_condition ∙ sym q.type_condition;
  directives = both_said DirectiveSays SameDirective directive_is_same t.directives _ _ p.directives q.directives;
  set_type = p.set_type ∙ sym q.set_type;
}

-- what stands for the definitions of fields in two documents is the same
one_definition : (schema : Option Schema) (parent name : NameText) (d e : Node FieldDefinition) →
    DefinesField schema parent name d → DefinesField schema parent name e → SameDefinition schema d e
one_definition None parent name d e p q = field_of_no_text_is_same d e _ _ [] (All-nil HasNoDefault) p.signature q.signature p.place q.place
one_definition (Some schema) parent name d e (c, found, is) (c', found', is') =
    let same : c ≡ c' = cc in
    let one : d ≡ e = sym is ∙ ap (λ (c : Component FieldDefinition). c.node) same ∙ is' in
    record { same_value = ap (λ (d : Node FieldDefinition). d.value.value) (sym one); same_location = ap (λ (d : Node FieldDefinition). d.location) (sym one) }

-- so are shared copies of them
copies_are_same : (schema : Option Schema) (d e f g : Node FieldDefinition) → SameDefinition schema d e → SameNode d f → SameNode e g → SameDefinition schema f g
copies_are_same None d e f g is p q =
    let left : d.value.value ≡ f.value.value = sym p.same_value in
    let right : e.value.value ≡ g.value.value = sym q.same_value in
    record {
      name = subst₂ (λ (v w : FieldDefinition). v.name ≡ w.name) left right is.name;
      arguments = subst₂ (λ (v w : FieldDefinition). SameInputValues v.arguments.items w.arguments.items) left right is.arguments;
      ty = subst₂ (λ (v w : FieldDefinition). as_written v.ty ≡ as_written w.ty) left right is.ty;
      directives = subst₂ (λ (v w : FieldDefinition). SameDirectives v.directives.items w.directives.items) left right is.directives;
      location = p.same_location ∙ is.location ∙ sym q.same_location;
    }
copies_are_same (Some schema) d e f g is p q = record {
  same_value = q.same_value ∙ is.same_value ∙ sym p.same_value;
  same_location = q.same_location ∙ is.same_location ∙ sym p.same_location;
}

-- the type of what they give has one name
one_type : (schema : Option Schema) (d e : Node FieldDefinition) → SameDefinition schema d e →
    inner_named_type d.value.value.ty ≡ inner_named_type e.value.value.ty
one_type None d e is = one_name_within _ _ is.ty
one_type (Some schema) d e is = ap (λ (v : FieldDefinition). inner_named_type v.ty) (sym is.same_value)

one_root : (schema : Option Schema) (operation : OperationType) (a b : NameText) → IsRoot schema operation a → IsRoot schema operation b → a ≡ b
one_root None operation a b p q = p ∙ sym q
one_root (Some schema) operation a b p q = cc

module _ (schema : Option Schema) where
  head_is_same : (parent : NameText) (t : field_tree.Field) (a b : Field) →
      FieldHeadSays schema parent t a → FieldHeadSays schema parent t b → SameFieldHead schema a b
  head_is_same parent t a b p q =
      let one : SameDefinition schema p.definition q.definition = one_definition schema parent _ _ _ p.defines q.defines in
      record {
        definition = copies_are_same schema _ _ _ _ one p.same_definition q.same_definition;
        alias = p.alias ∙ sym q.alias;
        name = p.name ∙ sym q.name;
        arguments = both_said ArgumentSays SameArgument argument_is_same (field_tree.out-Field t).arguments _ _ p.arguments q.arguments;
        directives = both_said DirectiveSays SameDirective directive_is_same (field_tree.out-Field t).directives _ _ p.directives q.directives;
        set_type = p.set_type ∙ one_type schema _ _ one ∙ sym q.set_type;
      }

  -- what a tree says, by its form
  abbrev IsSaid : NameText → selection_tree.Selection → Selection → Type 0
  IsSaid parent t s = elim (selection_tree.out-Selection t) [
    | Open.Field x ↦ (f : Node Field) × FieldHeadSays schema parent x f.value.value ×
        SelectionsSay schema f.value.value.selection_set.ty (selections_in (field_tree.out-Field x).selection_set) f.value.value.selection_set.selections.items ×
        (f.location ≡ Some (field_tree.out-Field x).span) × (s ≡ kind.Field f)
    | Open.FragmentSpread x ↦ (p : Node FragmentSpread) × FragmentSpreadSays x p × (s ≡ kind.FragmentSpread p)
    | Open.InlineFragment x ↦ (i : Node InlineFragment) × InlineFragmentHeadSays parent x i.value.value ×
        SelectionsSay schema i.value.value.selection_set.ty x.selection_set.selections i.value.value.selection_set.selections.items ×
        (i.location ≡ Some x.span) × (s ≡ kind.InlineFragment i)
  ]

  said : (parent : NameText) (t : selection_tree.Selection) (s : Selection) → SelectionSays schema parent t s → IsSaid parent t s
  said parent t s (says.field_says x f head set location) = rw (tree.outs-Field x, IsSaid) (f, head, set, location, refl)
  said parent t s (says.fragment_spread_says x p spread) = rw (tree.outs-FragmentSpread x, IsSaid) (p, spread, refl)
  said parent t s (says.inline_fragment_says x i head set location) = rw (tree.outs-InlineFragment x, IsSaid) (i, head, set, location, refl)

  mutual
    selection_is_same : (parent : NameText) (t : selection_tree.Selection) (a b : Selection) →
        SelectionSays schema parent t a → SelectionSays schema parent t b → SameSelection schema a b
    selection_is_same parent t a b (says.field_says x f head set location) q =
        let is = rw (tree.outs-Field x, IsSaid) at (said parent t b q) in
        let same = head_is_same parent x f.value.value is.0.value.value head is.1 in
        subst (SameSelection schema (kind.Field f)) (sym is.4) (same_field f is.0 same
        (selections_are_same f.value.value.selection_set.ty is.0.value.value.selection_set.ty _ _ _ same.set_type set is.2) (location ∙ sym is.3))
    selection_is_same parent t a b (says.fragment_spread_says x p spread) q =
        let is = rw (tree.outs-FragmentSpread x, IsSaid) at (said parent t b q) in
        subst (SameSelection schema (kind.FragmentSpread p)) (sym is.2) (same_spread p is.0 (spread_is_same x p is.0 spread is.1))
    selection_is_same parent t a b (says.inline_fragment_says x i head set location) q =
        let is = rw (tree.outs-InlineFragment x, IsSaid) at (said parent t b q) in
        let same = inline_fragment_is_same parent x i.value.value is.0.value.value head is.1 in
        subst (SameSelection schema (kind.InlineFragment i)) (sym is.4) (same_inline_fragment i is.0 same
        (selections_are_same i.value.value.selection_set.ty is.0.value.value.selection_set.ty _ _ _ same.set_type set is.2) (location ∙ sym is.3))

    selections_are_same : (parent other : NameText) (ts : List selection_tree.Selection) (xs ys : List Selection) → parent ≡ other →
        SelectionsSay schema parent ts xs → SelectionsSay schema other ts ys → SameSelections schema xs ys
    selections_are_same parent other [] [] [] e says.no_selections says.no_selections = no_selections
    selections_are_same parent other [] [] (b ∷ ys) e says.no_selections q = elim q [ ]
    selections_are_same parent other (_ ∷ _) (_ ∷ _) [] e (says.next_selection first rest) q = elim q [ ]
    selections_are_same parent other (t ∷ ts) (a ∷ xs) (b ∷ ys) e (says.next_selection first rest) (says.next_selection one more) =
        next_selection (selection_is_same parent t a b first (subst (λ p. SelectionSays schema p t b) (sym e) one))
        (selections_are_same parent other ts xs ys e rest more)

  operation_is_same : (t : OperationDefinition) (a b : Node Operation) → OperationSays schema t a → OperationSays schema t b → SameOperation schema a b
  operation_is_same t a b p q =
      let set_type : a.value.value.selection_set.ty ≡ b.value.value.selection_set.ty = one_root schema t.operation_type _ _ p.root q.root in
      record {
        operation_type = p.operation_type ∙ sym q.operation_type;
        name = p.name ∙ sym q.name;
        variables = both_said VariableSays SameVariable variable_is_same t.variables _ _ p.variables q.variables;
        directives = both_said DirectiveSays SameDirective directive_is_same t.directives _ _ p.directives q.directives;
        set_type = set_type;
        selections = selections_are_same _ _ _ _ _ set_type p.selections q.selections;
        location = p.location ∙ sym q.location;
      }

  fragment_is_same : (t : FragmentDefinition) (a b : Node Fragment) → FragmentSays schema t a → FragmentSays schema t b → SameFragment schema a b
  fragment_is_same t a b p q =
      let set_type = p.type_condition ∙ sym q.type_condition in
      record {
        name = p.name ∙ sym q.name;
        directives = both_said DirectiveSays SameDirective directive_is_same t.directives _ _ p.directives q.directives;
        set_type = set_type;
        selections = selections_are_same _ _ _ _ _ set_type p.selections q.selections;
        location = p.location ∙ sym q.location;
      }

under_name : {X Y : Type 0} (Says : X → Y → Type 0) (Same : Y → Y → Type 0) → ((t : X) (a b : Y) → Says t a → Says t b → Same a b) →
    (t : NameText × X) (a b : NameText × Y) → SaysUnderName Says t a → SaysUnderName Says t b → SameUnderName Same a b
under_name Says Same one t a b p q = (p.0 ∙ sym q.0, one t.1 a.1 b.1 p.1 q.1)

pub document_is_same : (schema : Option Schema) (tree : Document) (a b : ExecutableDocument) →
    DocumentSays schema tree a → DocumentSays schema tree b → SameDocument schema a b
document_is_same schema tree a b p q =
    let operation = operation_is_same schema in
    let fragment = fragment_is_same schema in
    record {
      anonymous = both_said (OperationSays schema) (SameOperation schema) operation (anonymous_operations_in tree.definitions) _ _ p.anonymous q.anonymous;
      named = both_said (SaysUnderName (OperationSays schema)) (SameUnderName (SameOperation schema)) (under_name (OperationSays schema) (SameOperation schema) operation)
          (named_operations_in tree.definitions) _ _ p.named q.named;
      fragments = both_said (SaysUnderName (FragmentSays schema)) (SameUnderName (SameFragment schema)) (under_name (FragmentSays schema) (SameFragment schema) fragment)
          (fragments_in tree.definitions) _ _ p.fragments q.fragments;
    }
