-- Executable documents that say the same text, each built against its own schema: they differ in the definitions of their fields and in the
-- types of the sets of these. Specification: 2.2 Document to 2.8 Fragments.
use Rattle.std.specs.Prelude.{◌≡◌, List, [], ◌∷◌, option_to_list}
use Rattle.std.specs.List.{AllZip}
use Rattle.graphql_nodes.specs.declared.nodes.Node.{Node}
use Rattle.graphql_documents.specs.declared.documents.executables.ExecutableDocument.{ExecutableDocument}
use Rattle.graphql_documents.specs.declared.documents.executables.Field.{Field}
use Rattle.graphql_documents.specs.declared.documents.executables.Fragment.{Fragment}
use Rattle.graphql_documents.specs.declared.documents.executables.InlineFragment.{InlineFragment}
use Rattle.graphql_documents.specs.declared.documents.executables.FragmentSpread.{FragmentSpread}
use Rattle.graphql_documents.specs.declared.documents.executables.Operation.{Operation}
use Rattle.graphql_documents.specs.declared.documents.executables.Selection.{Selection}
use Rattle.graphql_documents.specs.declared.documents.executables.Selection.TheVariants as kind
use Rattle.graphql_document_building.specs.SameDocuments.{SameSpread, SameUnderName}
use Rattle.graphql_document_building.specs.SameLeaves.{SameArguments, SameDirectives, SameVariable}

-- fields, their sets apart
pub record SameFieldText (a b : Field) : Type 0 where
  pub alias : a.alias ≡ b.alias
  pub name : a.name ≡ b.name
  pub arguments : SameArguments a.arguments.items b.arguments.items
  pub directives : SameDirectives a.directives.items b.directives.items

-- inline fragments, their sets apart
pub record SameInlineFragmentText (a b : InlineFragment) : Type 0 where
  pub type_condition : a.type_condition ≡ b.type_condition
  pub directives : SameDirectives a.directives.items b.directives.items

mutual
  pub data SameSelectionText : Selection → Selection → Type 0 where
    same_field : (f g : Node Field) → SameFieldText f.value.value g.value.value →
        SameSelectionTexts f.value.value.selection_set.selections.items g.value.value.selection_set.selections.items →
        f.location ≡ g.location → SameSelectionText (kind.Field f) (kind.Field g)
    same_spread : (p q : Node FragmentSpread) → SameSpread p q → SameSelectionText (kind.FragmentSpread p) (kind.FragmentSpread q)
    same_inline_fragment : (i j : Node InlineFragment) → SameInlineFragmentText i.value.value j.value.value →
        SameSelectionTexts i.value.value.selection_set.selections.items j.value.value.selection_set.selections.items →
        i.location ≡ j.location → SameSelectionText (kind.InlineFragment i) (kind.InlineFragment j)

  pub data SameSelectionTexts : List Selection → List Selection → Type 0 where
    no_selections : SameSelectionTexts [] []
    next_selection : {a b : Selection} {xs ys : List Selection} →
        SameSelectionText a b → SameSelectionTexts xs ys → SameSelectionTexts (a ∷ xs) (b ∷ ys)

pub record SameOperationText (a b : Node Operation) : Type 0 where
  pub operation_type : a.value.value.operation_type ≡ b.value.value.operation_type
  pub name : a.value.value.name ≡ b.value.value.name
  pub variables : AllZip SameVariable a.value.value.variables.items b.value.value.variables.items
  pub directives : SameDirectives a.value.value.directives.items b.value.value.directives.items
  pub selections : SameSelectionTexts a.value.value.selection_set.selections.items b.value.value.selection_set.selections.items
  pub location : a.location ≡ b.location

-- the set of a fragment is on its type condition
pub record SameFragmentText (a b : Node Fragment) : Type 0 where
  pub name : a.value.value.name ≡ b.value.value.name
  pub directives : SameDirectives a.value.value.directives.items b.value.value.directives.items
  pub set_type : a.value.value.selection_set.ty ≡ b.value.value.selection_set.ty
  pub selections : SameSelectionTexts a.value.value.selection_set.selections.items b.value.value.selection_set.selections.items
  pub location : a.location ≡ b.location

pub record SameText (a b : ExecutableDocument) : Type 0 where
  pub anonymous : AllZip SameOperationText (option_to_list a.operations.anonymous) (option_to_list b.operations.anonymous)
  pub named : AllZip (SameUnderName SameOperationText) a.operations.named.entries b.operations.named.entries
  pub fragments : AllZip (SameUnderName SameFragmentText) a.fragments.entries b.fragments.entries
