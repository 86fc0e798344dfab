-- Definitions that are added to those of texts.
use Rattle.std.specs.Prelude.{◌≡◌, ℕ, List, ◌++◌, map}
use Rattle.graphql_nodes.specs.Names.{NameText}
use Rattle.graphql_trees.specs.declared.documents.Definition.{Definition}
use Rattle.graphql_schema_checking.specs.Definitions.{directives, name_of, type_extensions, types}
use Rattle.graphql_dialects.specs.declared.rows.Row.{Row}
use Rattle.graphql_dialects.specs.Rows.{definitions_of}

-- the names of the types that are defined or extended
abbrev pub type_names : List Definition → List NameText
type_names definitions = map name_of (types definitions) ++ map name_of (type_extensions definitions)

-- the names of the directives that are defined
abbrev pub directive_names : List Definition → List NameText
directive_names definitions = map (λ d. d.name) (directives definitions)

-- the text has definitions of types, then of directives: those of some rows whose names the others do not take
pub record AddsOnlyLacking (definitions : List Definition) (text : List ℕ) : Type 0 where
  pub type_rows : List Row
  pub directive_rows : List Row
  pub text_is : text ≡ definitions_of (type_names definitions) type_rows ++ definitions_of (directive_names definitions) directive_rows
