-- Executable documents that are the same but for places in memory and the seeds of their maps. Specification: 2.2 Document to 2.8 Fragments.
use Rattle.std.specs.Prelude.{◌≡◌, List, [], ◌∷◌, Option, None, Some, option_to_list}
use Rattle.std.specs.List.{AllZip}
use Rattle.graphql_nodes.specs.Names.{NameText}
use Rattle.graphql_nodes.specs.Nodes.{SameNode}
use Rattle.graphql_nodes.specs.declared.nodes.Node.{Node}
use Rattle.graphql_documents.specs.declared.documents.definitions.FieldDefinition.{FieldDefinition}
use Rattle.graphql_documents.specs.declared.documents.executables.ExecutableDocument.{ExecutableDocument}
use Rattle.graphql_documents.specs.declared.documents.executables.Field.{Field}
use Rattle.graphql_documents.specs.declared.documents.executables.Fragment.{Fragment}
use Rattle.graphql_documents.specs.declared.documents.executables.FragmentSpread.{FragmentSpread}
use Rattle.graphql_documents.specs.declared.documents.executables.InlineFragment.{InlineFragment}
use Rattle.graphql_documents.specs.declared.documents.executables.Operation.{Operation}
use Rattle.graphql_documents.specs.declared.documents.executables.Selection.{Selection}
use Rattle.graphql_documents.specs.declared.documents.executables.Selection.TheVariants as kind
use Rattle.graphql_documents.specs.declared.documents.schemas.Schema.{Schema}
use Rattle.graphql_document_building.specs.SameLeaves.{SameArguments, SameDirectives, SameField, SameVariable}

-- definitions of fields: one and the same of the schema; without a schema, each document has its own
abbrev pub SameDefinition : Option Schema → Node FieldDefinition → Node FieldDefinition → Type 0
SameDefinition (Some schema) a b = SameNode a b
SameDefinition None a b = SameField a b

-- fields, their sets apart
pub record SameFieldHead (schema : Option Schema) (a b : Field) : Type 0 where
  pub definition : SameDefinition schema a.definition b.definition
  pub alias : a.alias ≡ b.alias
  pub name : a.name ≡ b.name
  pub arguments : SameArguments a.arguments.items b.arguments.items
  pub directives : SameDirectives a.directives.items b.directives.items
  pub set_type : a.selection_set.ty ≡ b.selection_set.ty

pub record SameSpread (a b : Node FragmentSpread) : Type 0 where
  pub name : a.value.value.fragment_name ≡ b.value.value.fragment_name
  pub directives : SameDirectives a.value.value.directives.items b.value.value.directives.items
  pub location : a.location ≡ b.location

-- inline fragments, their sets apart
pub record SameInlineFragmentHead (a b : InlineFragment) : Type 0 where
  pub type_condition : a.type_condition ≡ b.type_condition
  pub directives : SameDirectives a.directives.items b.directives.items
  pub set_type : a.selection_set.ty ≡ b.selection_set.ty

mutual
  pub data SameSelection (schema : Option Schema) : Selection → Selection → Type 0 where
    same_field : (f g : Node Field) → SameFieldHead schema f.value.value g.value.value →
        SameSelections schema f.value.value.selection_set.selections.items g.value.value.selection_set.selections.items →
        f.location ≡ g.location → SameSelection schema (kind.Field f) (kind.Field g)
    same_spread : (p q : Node FragmentSpread) → SameSpread p q → SameSelection schema (kind.FragmentSpread p) (kind.FragmentSpread q)
    same_inline_fragment : (i j : Node InlineFragment) → SameInlineFragmentHead i.value.value j.value.value →
        SameSelections schema i.value.value.selection_set.selections.items j.value.value.selection_set.selections.items →
        i.location ≡ j.location → SameSelection schema (kind.InlineFragment i) (kind.InlineFragment j)

  pub data SameSelections (schema : Option Schema) : List Selection → List Selection → Type 0 where
    no_selections : SameSelections schema [] []
    next_selection : {a b : Selection} {xs ys : List Selection} →
        SameSelection schema a b → SameSelections schema xs ys → SameSelections schema (a ∷ xs) (b ∷ ys)

pub record SameOperation (schema : Option Schema) (a b : Node Operation) : Type 0 where
  pub operation_type : a.value.value.operation_type ≡ b.value.value.operation_type
  pub name : a.value.value.name ≡ b.value.value.name
  pub variables : AllZip SameVariable a.value.value.variables.items b.value.value.variables.items
  pub directives : SameDirectives a.value.value.directives.items b.value.value.directives.items
  pub set_type : a.value.value.selection_set.ty ≡ b.value.value.selection_set.ty
  pub selections : SameSelections schema a.value.value.selection_set.selections.items b.value.value.selection_set.selections.items
  pub location : a.location ≡ b.location

pub record SameFragment (schema : Option Schema) (a b : Node Fragment) : Type 0 where
  pub name : a.value.value.name ≡ b.value.value.name
  pub directives : SameDirectives a.value.value.directives.items b.value.value.directives.items
  pub set_type : a.value.value.selection_set.ty ≡ b.value.value.selection_set.ty
  pub selections : SameSelections schema a.value.value.selection_set.selections.items b.value.value.selection_set.selections.items
  pub location : a.location ≡ b.location

-- entries of maps, each under the same name
abbrev pub SameUnderName : {X : Type 0} → (X → X → Type 0) → NameText × X → NameText × X → Type 0
SameUnderName Same a b = (a.0 ≡ b.0) × Same a.1 b.1

-- documents built against the schema, or without one
pub record SameDocument (schema : Option Schema) (a b : ExecutableDocument) : Type 0 where
  pub anonymous : AllZip (SameOperation schema) (option_to_list a.operations.anonymous) (option_to_list b.operations.anonymous)
  pub named : AllZip (SameUnderName (SameOperation schema)) a.operations.named.entries b.operations.named.entries
  pub fragments : AllZip (SameUnderName (SameFragment schema)) a.fragments.entries b.fragments.entries
