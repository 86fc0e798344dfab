-- The built-in scalars that were visited, as contracts see them. Specification: 3.5 Scalars, Built-in Scalars.
use Rattle.std.specs.Prelude.{◌≡◌, ℕ, Bool, false, ◌||◌, List, IsTrue, codes, if◌then◌else◌}
use Rattle.std.specs.Str.{bytes_eq}
use Rattle.graphql_nodes.specs.Names.{NameText}
use Rattle.graphql_specification.specs.BuiltInScalars.{is_recorded}
use Rattle.graphql_field_definitions.specs.declared.built_in_scalars.BuiltInScalars.{BuiltInScalars}

-- the name of this text is recorded
abbrev pub holds_text : BuiltInScalars → List ℕ → Bool
holds_text scalars text =
    if bytes_eq text (codes "Int") then scalars.int
    else (if bytes_eq text (codes "Float") then scalars.float
    else (if bytes_eq text (codes "String") then scalars.string
    else (if bytes_eq text (codes "Boolean") then scalars.boolean
    else (if bytes_eq text (codes "ID") then scalars.id else false))))

-- what was recorded is, and the built-in scalars among these names, and nothing else
pub record Records (old new : BuiltInScalars) (names : List NameText) : Type 0 where
  pub each : (text : List ℕ) → holds_text new text ≡ (holds_text old text || is_recorded names text)

-- what was recorded is recorded
pub record Keeps (old new : BuiltInScalars) : Type 0 where
  pub each : (text : List ℕ) → IsTrue (holds_text old text) → IsTrue (holds_text new text)
