-- When a selection is built for its type, with what is below it.
use Rattle.std.specs.Prelude.{◌≡◌, Ok, unwrap_or}
use Rattle.graphql_documents.specs.Built.{FieldIsBuilt, SetsAreBuilt}
use Rattle.graphql_documents.specs.Contents.{SameFieldDefinition}
use Rattle.graphql_nodes.specs.Names.{NameText, SameName}
use Rattle.graphql_documents.specs.Schemas.{NamesKind, is_output_type, type_field}
use Rattle.graphql_documents.specs.TypeReferences.{inner_named_type}
use Rattle.graphql_documents.specs.declared.documents.components.Component.{Component}
use Rattle.graphql_documents.specs.declared.documents.definitions.FieldDefinition.{FieldDefinition}
use Rattle.graphql_documents.specs.declared.documents.executables.Field.{Field}
use Rattle.graphql_documents.specs.declared.documents.executables.Fragment.{Fragment}
use Rattle.graphql_documents.specs.declared.documents.executables.InlineFragment.{InlineFragment}
use Rattle.graphql_documents.specs.declared.documents.executables.Selection.TheVariants as kind
use Rattle.graphql_documents.specs.declared.documents.executables.Selection.{Selection}
use Rattle.graphql_nodes.specs.declared.nodes.Node.{Node}
use Rattle.graphql_documents.specs.declared.documents.schemas.Schema.{Schema}

-- a field has the definition that the type gives it, by its contents
pub record HasDefinitionOfType (schema : Schema) (parent : NameText) (f : Field) : Type 0 where
  pub definition : Component FieldDefinition
  pub is_of_parent : type_field schema parent f.name ≡ Ok definition
  pub same : SameFieldDefinition f.definition.value.value definition.node.value.value

-- a field is of an output type, and its set is of that type
pub record HasSetOfOutputType (schema : Schema) (f : Field) : Type 0 where
  pub set_type : SameName f.selection_set.ty (inner_named_type f.definition.value.value.ty)
  pub output : NamesKind schema is_output_type (inner_named_type f.definition.value.value.ty)

-- an inline fragment has the type of its condition, or of the set around it where it has none
abbrev pub InlineFragmentIsBuilt : NameText → InlineFragment → Type 0
InlineFragmentIsBuilt parent i = SameName i.selection_set.ty (unwrap_or i.type_condition parent)

-- a selection is built for the type of its set, and so is each set that is written in it
pub record SelectionIsBuilt (schema : Schema) (parent : NameText) (s : Selection) : Type 0 where
  pub field : (f : Node Field) → s ≡ kind.Field f →
      FieldIsBuilt schema parent f.value.value × SetsAreBuilt schema f.value.value.selection_set
  pub inline_fragment : (i : Node InlineFragment) → s ≡ kind.InlineFragment i →
      InlineFragmentIsBuilt parent i.value.value × SetsAreBuilt schema i.value.value.selection_set

-- a fragment is listed under its own name, and the sets that are written in it are built
pub record FragmentIsBuilt (schema : Schema) (key : NameText) (d : Fragment) : Type 0 where
  pub itself : SameName key d.name
  pub sets : SetsAreBuilt schema d.selection_set
