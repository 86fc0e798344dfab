-- What one tree says against two schemas is one text. Specification: 2.2 Document to 2.8 Fragments.
use Rattle.std.proofs.Common.{◌∙◌, List, [], ◌∷◌, Some, sym, subst}
use Rattle.std.specs.List.{AllZip}
use Rattle.graphql_nodes.specs.Names.{NameText}
use Rattle.graphql_nodes.specs.declared.nodes.Node.{Node}
use Rattle.graphql_documents.specs.declared.documents.executables.ExecutableDocument.{ExecutableDocument}
use Rattle.graphql_documents.specs.declared.documents.executables.Field.{Field}
use Rattle.graphql_documents.specs.declared.documents.executables.Fragment.{Fragment}
use Rattle.graphql_documents.specs.declared.documents.executables.FragmentSpread.{FragmentSpread}
use Rattle.graphql_documents.specs.declared.documents.executables.InlineFragment.{InlineFragment}
use Rattle.graphql_documents.specs.declared.documents.executables.Operation.{Operation}
use Rattle.graphql_documents.specs.declared.documents.executables.Selection.{Selection}
use Rattle.graphql_documents.specs.declared.documents.executables.Selection.TheVariants as kind
use Rattle.graphql_documents.specs.declared.documents.schemas.Schema.{Schema}
use Rattle.graphql_trees.specs.declared.documents.Document.{Document}
use Rattle.graphql_trees.specs.declared.executable.Field as field_tree
use Rattle.graphql_trees.specs.declared.executable.FragmentDefinition.{FragmentDefinition}
use Rattle.graphql_trees.specs.declared.executable.FragmentSpread as spread_tree
use Rattle.graphql_trees.specs.declared.executable.InlineFragment as inline_fragment_tree
use Rattle.graphql_trees.specs.declared.executable.OperationDefinition.{OperationDefinition}
use Rattle.graphql_trees.specs.declared.executable.Selection as selection_tree
use Rattle.graphql_trees.specs.declared.executable.Selection.TheVariants as tree
use Rattle.graphql_leaf_building.specs.Definitions.{VariableSays}
use Rattle.graphql_leaf_building.specs.Directives.{ArgumentSays, DirectiveSays}
use Rattle.graphql_document_building.proofs.SameLeafLemmas.{argument_is_same, both_said, directive_is_same, variable_is_same}
use Rattle.graphql_document_building.specs.Documents.{DocumentSays, FragmentSays, OperationSays, SaysUnderName}
use Rattle.graphql_document_building.specs.SameDocuments.{SameSpread, SameUnderName}
use Rattle.graphql_kept_rules.proofs.SaidFormLemmas.{IsSaid, said}
use Rattle.graphql_kept_rules.specs.SameTexts.{SameFieldText, SameFragmentText, SameInlineFragmentText, SameOperationText, SameSelectionText, SameSelectionTexts, SameText, next_selection, no_selections, same_field, same_inline_fragment, same_spread}
use Rattle.graphql_document_building.specs.SameLeaves.{SameArgument, SameDirective, SameVariable}
use Rattle.graphql_document_building.specs.Selections as says
use Rattle.graphql_document_building.specs.Selections.{FieldHeadSays, FragmentSpreadSays, InlineFragmentHeadSays, SelectionSays, SelectionsSay}
use Rattle.graphql_document_building.specs.Trees.{anonymous_operations_in, fragments_in, named_operations_in}

-- two lists that are said in two ways
both_listed : {T X : Type 0} (Says Other : T → X → Type 0) (Same : X → X → Type 0) → ((t : T) (a b : X) → Says t a → Other t b → Same a b) →
    (ts : List T) (xs ys : List X) → AllZip Says ts xs → AllZip Other ts ys → AllZip Same xs ys
both_listed Says Other Same one [] [] [] p q = tt
both_listed Says Other Same one [] [] (b ∷ ys) p q = absurd q
both_listed Says Other Same one [] (a ∷ xs) ys p q = absurd p
both_listed Says Other Same one (t ∷ ts) [] ys p q = absurd p
both_listed Says Other Same one (t ∷ ts) (a ∷ xs) [] p q = absurd q
both_listed Says Other Same one (t ∷ ts) (a ∷ xs) (b ∷ ys) p q = (one t a b p.0 q.0, both_listed Says Other Same one ts xs ys p.1 q.1)

pub spread_alike : (t : spread_tree.FragmentSpread) (a b : Node FragmentSpread) → FragmentSpreadSays t a → FragmentSpreadSays t b → SameSpread a b
spread_alike t a b p q = record {
  name = p.name ∙ sym q.name;
  directives = both_said DirectiveSays SameDirective directive_is_same t.directives _ _ p.directives q.directives;
  location = p.location ∙ sym q.location;
}

pub inline_fragment_alike : (parent other : NameText) (t : inline_fragment_tree.InlineFragment) (a b : InlineFragment) →
    InlineFragmentHeadSays parent t a → InlineFragmentHeadSays other t b → SameInlineFragmentText a b
inline_fragment_alike parent other t a b p q = record {
  type_condition = p.type_condition ∙ sym q.type_condition;
  directives = both_said DirectiveSays SameDirective directive_is_same t.directives _ _ p.directives q.directives;
}

module _ (r s : Schema) where
  pub head_alike : (parent other : NameText) (t : field_tree.Field) (a b : Field) → FieldHeadSays (Some r) parent t a → FieldHeadSays (Some s) other t b → SameFieldText a b
  head_alike parent other t a b p q = record {
    alias = p.alias ∙ sym q.alias;
    name = p.name ∙ sym q.name;
    arguments = both_said ArgumentSays SameArgument argument_is_same (field_tree.out-Field t).arguments _ _ p.arguments q.arguments;
    directives = both_said DirectiveSays SameDirective directive_is_same (field_tree.out-Field t).directives _ _ p.directives q.directives;
  }

  mutual
    selection_alike : (parent other : NameText) (t : selection_tree.Selection) (a b : Selection) →
        SelectionSays (Some r) parent t a → SelectionSays (Some s) other t b → SameSelectionText a b
    selection_alike parent other t a b (says.field_says x f head set location) q =
        let is = rw (tree.outs-Field x, IsSaid) at (said s other t b q) in
        let same = head_alike parent other x f.value.value is.0.value.value head is.1 in
        subst (SameSelectionText (kind.Field f)) (sym is.4) (same_field f is.0 same
        (selections_alike f.value.value.selection_set.ty is.0.value.value.selection_set.ty _ _ _ set is.2) (location ∙ sym is.3))
    selection_alike parent other t a b (says.fragment_spread_says x p spread) q =
        let is = rw (tree.outs-FragmentSpread x, IsSaid) at (said s other t b q) in
        subst (SameSelectionText (kind.FragmentSpread p)) (sym is.2) (same_spread p is.0 (spread_alike x p is.0 spread is.1))
    selection_alike parent other t a b (says.inline_fragment_says x i head set location) q =
        let is = rw (tree.outs-InlineFragment x, IsSaid) at (said s other t b q) in
        let same = inline_fragment_alike parent other x i.value.value is.0.value.value head is.1 in
        subst (SameSelectionText (kind.InlineFragment i)) (sym is.4) (same_inline_fragment i is.0 same
        (selections_alike i.value.value.selection_set.ty is.0.value.value.selection_set.ty _ _ _ set is.2) (location ∙ sym is.3))

    selections_alike : (parent other : NameText) (ts : List selection_tree.Selection) (xs ys : List Selection) →
        SelectionsSay (Some r) parent ts xs → SelectionsSay (Some s) other ts ys → SameSelectionTexts xs ys
    selections_alike parent other [] [] [] says.no_selections says.no_selections = no_selections
    selections_alike parent other [] [] (b ∷ ys) says.no_selections q = elim q [ ]
    selections_alike parent other (_ ∷ _) (_ ∷ _) [] (says.next_selection first rest) q = elim q [ ]
    selections_alike parent other (t ∷ ts) (a ∷ xs) (b ∷ ys) (says.next_selection first rest) (says.next_selection one more) =
        next_selection (selection_alike parent other t a b first one) (selections_alike parent other ts xs ys rest more)

  pub operation_alike : (t : OperationDefinition) (a b : Node Operation) → OperationSays (Some r) t a → OperationSays (Some s) t b → SameOperationText a b
  operation_alike t a b p q = record {
    operation_type = p.operation_type ∙ sym q.operation_type;
    name = p.name ∙ sym q.name;
    variables = both_said VariableSays SameVariable variable_is_same t.variables _ _ p.variables q.variables;
    directives = both_said DirectiveSays SameDirective directive_is_same t.directives _ _ p.directives q.directives;
    selections = selections_alike _ _ _ _ _ p.selections q.selections;
    location = p.location ∙ sym q.location;
  }

  pub fragment_alike : (t : FragmentDefinition) (a b : Node Fragment) → FragmentSays (Some r) t a → FragmentSays (Some s) t b → SameFragmentText a b
  fragment_alike t a b p q = record {
    name = p.name ∙ sym q.name;
    directives = both_said DirectiveSays SameDirective directive_is_same t.directives _ _ p.directives q.directives;
    set_type = p.type_condition ∙ sym q.type_condition;
    selections = selections_alike _ _ _ _ _ p.selections q.selections;
    location = p.location ∙ sym q.location;
  }

  pub said_text : (t : Document) (d e : ExecutableDocument) → DocumentSays (Some r) t d → DocumentSays (Some s) t e → SameText d e
  said_text t d e p q = record {
    anonymous = both_listed (OperationSays (Some r)) (OperationSays (Some s)) SameOperationText operation_alike (anonymous_operations_in t.definitions) _ _ p.anonymous q.anonymous;
    named = both_listed (SaysUnderName (OperationSays (Some r))) (SaysUnderName (OperationSays (Some s))) (SameUnderName SameOperationText)
        (λ x a b u v. (u.0 ∙ sym v.0, operation_alike x.1 a.1 b.1 u.1 v.1)) (named_operations_in t.definitions) _ _ p.named q.named;
    fragments = both_listed (SaysUnderName (FragmentSays (Some r))) (SaysUnderName (FragmentSays (Some s))) (SameUnderName SameFragmentText)
        (λ x a b u v. (u.0 ∙ sym v.0, fragment_alike x.1 a.1 b.1 u.1 v.1)) (fragments_in t.definitions) _ _ p.fragments q.fragments;
  }
