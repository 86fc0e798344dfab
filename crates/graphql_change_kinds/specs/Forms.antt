-- The forms of types of fields. Specification: 5.3.2 Field Selection Merging, SameResponseShape.
use Rattle.std.specs.Prelude.{if◌then◌else◌, List, ℕ}
use Rattle.graphql_documents.specs.declared.documents.type_references.Type.{«Type»}
use Rattle.graphql_documents.specs.declared.documents.schemas.Schema.{Schema}
use Rattle.graphql_document_building.specs.Trees.{names_leaf_type}
use Rattle.graphql_documents.specs.declared.documents.type_references.Type.TheVariants.{Named, NonNullNamed, List', NonNullList'}

-- what of a type decides whether two fields have one shape in a response: its lists, where it is non-null, and the text of its scalar's
-- or enum's name, or that it is composite
pub data Form : Type 0 where
  leaf : List ℕ → Form
  non_null_leaf : List ℕ → Form
  composite : Form
  non_null_composite : Form
  list : Form → Form
  non_null_list : Form → Form

-- the form of a type in a schema
abbrev pub form_in : Schema → «Type» → Form
form_in schema (Named name) = if names_leaf_type schema name then leaf name.text else composite
form_in schema (NonNullNamed name) = if names_leaf_type schema name then non_null_leaf name.text else non_null_composite
form_in schema (List' place item) = list (form_in schema item)
form_in schema (NonNullList' place item) = non_null_list (form_in schema item)
