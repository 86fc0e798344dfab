-- A document with the levels of its fragments.
use Rattle.std.specs.Prelude.{Bool, is_some}
use Rattle.graphql_nesting.specs.declared.levels.DocumentLevels.{DocumentLevels}

-- the levels of its fragments were looked for
abbrev pub levels_are_found : DocumentLevels → Bool
levels_are_found document = is_some document.found
