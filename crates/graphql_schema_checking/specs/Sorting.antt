-- Definitions that are sorted by their kinds.
use Rattle.std.specs.Prelude.{◌≡◌, List, ◌++◌}
use Rattle.graphql_trees.specs.declared.documents.Definition.{Definition}
use Rattle.graphql_repetitions.specs.References.{nows}
use Rattle.graphql_schema_checking.specs.Definitions.{directives, executables, schema_extensions, schemas, type_extensions, types}
use Rattle.graphql_schema_checking.specs.declared.definitions.SortedDefinitions.{SortedDefinitions}

-- these are the definitions
pub record AreSorted (definitions : List Definition) (sorted : SortedDefinitions) : Type 0 where
  pub executables_are : nows sorted.executables.items ≡ executables definitions
  pub schemas_are : nows sorted.schemas.items ≡ schemas definitions
  pub schema_extensions_are : nows sorted.schema_extensions.items ≡ schema_extensions definitions
  pub types_are : nows sorted.types.items ≡ types definitions
  pub type_extensions_are : nows sorted.type_extensions.items ≡ type_extensions definitions
  pub directives_are : nows sorted.directives.items ≡ directives definitions

-- these were added behind the others
abbrev pub AreSortedAfter : SortedDefinitions → List Definition → SortedDefinitions → Type 0
AreSortedAfter old added new = (before : List Definition) → AreSorted before old → AreSorted (before ++ added) new
