-- What is found under a name is found under each name that is the same.
use Rattle.std.proofs.Common.{◌≡◌, List, ℕ, ap}
use Rattle.std.specs.Str.{bytes_eq}
use Rattle.indexmap.specs.IndexMap.{get_by}
use Rattle.graphql_nodes.specs.Names.{NameText, SameName}
use Rattle.graphql_nodes.proofs.NameLemmas.{same_text}
use Rattle.graphql_documents.specs.Schemas.{type_definition, type_field}
use Rattle.graphql_documents.specs.declared.documents.schemas.Schema.{Schema}

pub one_type : (schema : Schema) (a b : NameText) → SameName a b → type_definition schema a ≡ type_definition schema b
one_type schema a b same = ap (λ (text : List ℕ). get_by (λ (key : NameText). bytes_eq text key.text) schema.types) (same_text a b same)

pub one_field : (schema : Schema) (field a b : NameText) → SameName a b → type_field schema a field ≡ type_field schema b field
one_field schema field a b same =
    ap (λ (text : List ℕ). type_field schema (record { text = text; location = a.location }) field) (same_text a b same)
