-- What is listed under the names of the built-in scalars. Specification: 3.5 Scalars, Built-in Scalars.
use Rattle.std.specs.Prelude.{◌≡◌, [], All, IsTrue}
use Rattle.graphql_documents.specs.Schemas.{is_built_in}
use Rattle.graphql_specification.specs.BuiltInScalars.{is_scalar_type, missing_scalars, names_built_in_scalar}
use Rattle.graphql_documents.specs.declared.documents.schemas.Schema.{Schema}

-- of the definitions that every schema has, only scalars are under those names; a schema's own may be anything
abbrev pub BuiltInNamesAreOfScalars : Schema → Type 0
BuiltInNamesAreOfScalars schema =
    All (λ entry. IsTrue (is_built_in entry.1) → IsTrue (names_built_in_scalar entry.0.text) → IsTrue (is_scalar_type entry.1)) schema.types.entries

-- the schema has each built-in scalar that it uses
abbrev pub HasItsScalars : Schema → Type 0
HasItsScalars schema = missing_scalars schema ≡ []
