-- What references to types say. Specification: 2.11 Type References.
use Rattle.std.specs.Prelude.{◌≡◌, Option, Some}
use Rattle.graphql_nodes.specs.declared.nodes.Node.{Node}
use Rattle.graphql_nodes.specs.declared.spans.SourceSpan.{SourceSpan}
use Rattle.graphql_documents.specs.TypeReferences.{TypeText, name_text, non_null_name_text, list_text, non_null_list_text, as_written}
use Rattle.graphql_documents.specs.declared.documents.type_references.Type.{«Type»}
use Rattle.graphql_trees.specs.declared.types.TypeReference.{TypeReference, fold-TypeReference, out-TypeReference}
use Rattle.graphql_trees.specs.declared.types.TypeReference.TheOpen as Open

-- a reference as written, where the type inside a list is
abbrev pub written_around : Open.TypeReference-F TypeText → TypeText
written_around (Open.Named name) = name_text name
written_around (Open.NonNullNamed name span) = non_null_name_text name
written_around (Open.List item span) = list_text item
written_around (Open.NonNullList item span) = non_null_list_text item

-- the type that the tree writes
abbrev pub written_type : TypeReference → TypeText
written_type = fold-TypeReference TypeText written_around

-- where it is: a name alone where the name does
abbrev pub type_place : TypeReference → Option SourceSpan
type_place tree = elim (out-TypeReference tree) [
  | Open.Named name ↦ name.location
  | Open.NonNullNamed name span ↦ Some span
  | Open.List item span ↦ Some span
  | Open.NonNullList item span ↦ Some span
]

-- the tree says this type: the same is written, and it is at the same place
pub record TypeSays (tree : TypeReference) (node : Node «Type») : Type 0 where
  pub written : as_written node.value.value ≡ written_type tree
  pub location : node.location ≡ type_place tree
