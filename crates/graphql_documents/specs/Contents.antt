-- When two fields, or two definitions of fields, have the same contents: the same is written in both, in order, wherever it is. Specification: 2.5
-- Fields, 3.6 Objects.
use Rattle.std.specs.Prelude.{Option, None, Some, ⊤, List, IsTrue, [], ◌∷◌}
use Rattle.std.specs.List.{AllZip}
use Rattle.graphql_nodes.specs.Names.{SameName}
use Rattle.graphql_documents.specs.Values.{IsCopy}
use Rattle.graphql_documents.specs.TypeReferences.{same_type}
use Rattle.graphql_nodes.specs.declared.nodes.Node.{Node}
use Rattle.graphql_documents.specs.declared.documents.directives.Argument.{Argument}
use Rattle.graphql_documents.specs.declared.documents.directives.Directive.{Directive}
use Rattle.graphql_documents.specs.declared.documents.definitions.InputValueDefinition.{InputValueDefinition}
use Rattle.graphql_documents.specs.declared.documents.definitions.FieldDefinition.{FieldDefinition}
use Rattle.graphql_documents.specs.declared.documents.executables.FragmentSpread.{FragmentSpread}
use Rattle.graphql_documents.specs.declared.documents.executables.Field.{Field}
use Rattle.graphql_documents.specs.declared.documents.executables.InlineFragment.{InlineFragment}
use Rattle.graphql_documents.specs.declared.documents.executables.Selection.{Selection}
use Rattle.graphql_documents.specs.declared.documents.executables.SelectionSet.{SelectionSet}
use Rattle.graphql_documents.specs.declared.documents.executables.Selection.TheVariants as kind

-- both are there and the same, or neither is there
abbrev pub SameIfAny : {X : Type 0} → (X → X → Type 0) → Option X → Option X → Type 0
SameIfAny Same None None = ⊤
SameIfAny Same (Some x) (Some y) = Same x y
SameIfAny Same _ _ = ⊥

-- the same parts in order, and as many
abbrev pub SameParts : {X : Type 0} → (X → X → Type 0) → List (Node X) → List (Node X) → Type 0
SameParts Same xs ys = AllZip (λ x y. Same x.value.value y.value.value) xs ys

-- two arguments as given: one name, and one value as written
pub record SameArgument (a b : Argument) : Type 0 where
  pub name : SameName a.name b.name
  pub value : IsCopy a.value.value.value b.value.value.value

-- two applications of one directive, with the same arguments
pub record SameDirective (a b : Directive) : Type 0 where
  pub name : SameName a.name b.name
  pub arguments : SameParts SameArgument a.arguments.items b.arguments.items

-- two definitions of arguments
pub record SameInputValueDefinition (a b : InputValueDefinition) : Type 0 where
  pub name : SameName a.name b.name
  pub ty : IsTrue (same_type a.ty.value.value b.ty.value.value)
  pub default_value : SameIfAny (λ x y. IsCopy x.value.value y.value.value) a.default_value b.default_value
  pub directives : SameParts SameDirective a.directives.items b.directives.items

-- two definitions of fields
pub record SameFieldDefinition (a b : FieldDefinition) : Type 0 where
  pub name : SameName a.name b.name
  pub arguments : SameParts SameInputValueDefinition a.arguments.items b.arguments.items
  pub ty : IsTrue (same_type a.ty b.ty)
  pub directives : SameParts SameDirective a.directives.items b.directives.items

-- two spreads of one fragment
pub record SameFragmentSpread (a b : FragmentSpread) : Type 0 where
  pub fragment_name : SameName a.fragment_name b.fragment_name
  pub directives : SameParts SameDirective a.directives.items b.directives.items

-- two fields, with their definitions and all that is selected below them
mutual
  pub data SameField : Field → Field → Type 0 where
    same_contents_of_field : {a b : Field} →
        SameFieldDefinition a.definition.value.value b.definition.value.value →
        SameIfAny SameName a.alias b.alias →
        SameName a.name b.name →
        SameParts SameArgument a.arguments.items b.arguments.items →
        SameParts SameDirective a.directives.items b.directives.items →
        SameSelectionSet a.selection_set b.selection_set →
        SameField a b

  -- two inline fragments, with all that is selected in them
  pub data SameInlineFragment : InlineFragment → InlineFragment → Type 0 where
    same_contents_of_inline_fragment : {a b : InlineFragment} →
        SameIfAny SameName a.type_condition b.type_condition →
        SameParts SameDirective a.directives.items b.directives.items →
        SameSelectionSet a.selection_set b.selection_set →
        SameInlineFragment a b

  -- two selection sets on types of one name
  pub data SameSelectionSet : SelectionSet → SelectionSet → Type 0 where
    same_contents_of_set : {a b : SelectionSet} →
        SameName a.ty b.ty →
        SameSelections a.selections.items b.selections.items →
        SameSelectionSet a b

  -- the same selections in order, and as many
  pub data SameSelections : List Selection → List Selection → Type 0 where
    no_selections : SameSelections [] []
    next_field : (a b : Node Field) {xs ys : List Selection} →
        SameField a.value.value b.value.value → SameSelections xs ys →
        SameSelections (kind.Field a ∷ xs) (kind.Field b ∷ ys)
    next_fragment_spread : (a b : Node FragmentSpread) {xs ys : List Selection} →
        SameFragmentSpread a.value.value b.value.value → SameSelections xs ys →
        SameSelections (kind.FragmentSpread a ∷ xs) (kind.FragmentSpread b ∷ ys)
    next_inline_fragment : (a b : Node InlineFragment) {xs ys : List Selection} →
        SameInlineFragment a.value.value b.value.value → SameSelections xs ys →
        SameSelections (kind.InlineFragment a ∷ xs) (kind.InlineFragment b ∷ ys)
