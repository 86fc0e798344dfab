-- What retaining changes of a map of types, as contracts see it. Specification: 3.5 Scalars, Built-in Scalars.
use Rattle.std.specs.Prelude.{◌≡◌, ℕ, ◌≤◌, Bool, not, ◌&&◌, ⊤, List, [], ◌∷◌, ◌++◌, filter, insert, length, take}
use Rattle.std.specs.List.{AllZip, IsDistinct, list_any}
use Rattle.std.specs.Map.{keys_of}
use Rattle.std.specs.Str.{bytes_eq}
use Rattle.graphql_nodes.specs.Names.{NameText, same_name}
use Rattle.graphql_documents.specs.Schemas.{is_built_in}
use Rattle.graphql_specification.specs.BuiltInScalars.{IsAddedScalar, built_in_scalar_names, names_built_in_scalar}
use Rattle.graphql_documents.specs.declared.documents.schemas.ExtendedType.{ExtendedType}
use Rattle.graphql_schemas.specs.declared.type_map.RemovedType.{RemovedType}
use Rattle.graphql_schemas.specs.declared.type_map.TypeMapChanges.{TypeMapChanges}

-- a built-in definition under the name of a built-in scalar that is not used
abbrev pub is_unused : (List ℕ → Bool) → NameText × ExtendedType → Bool
is_unused used entry = is_built_in entry.1 && (names_built_in_scalar entry.0.text && not (used entry.0.text))

-- a text that is used, and under which no type is
abbrev pub is_missing : (List ℕ → Bool) → List (NameText × ExtendedType) → List ℕ → Bool
is_missing used types text = used text && not (list_any (λ entry. bytes_eq entry.0.text text) types)

-- the types with the removed ones back at their indices, the last one first
abbrev pub restored : List RemovedType → List (NameText × ExtendedType) → List (NameText × ExtendedType)
restored [] types = types
restored (r ∷ rs) types = insert (restored rs types) r.index (r.name, r.definition)

-- each index is one at which its entry can be put back
abbrev pub FitBack : List RemovedType → List (NameText × ExtendedType) → Type 0
FitBack [] types = ⊤
FitBack (r ∷ rs) types = (r.index ≤ length (restored rs types)) × FitBack rs types

-- the changes can be undone without memory, and then these are the types
pub record CanUndo (changes : TypeMapChanges) (types : List (NameText × ExtendedType)) (spare : ℕ) (before : List (NameText × ExtendedType)) : Type 0 where
  pub back : restored changes.removed.items (take changes.kept types) ≡ before
  pub fit : FitBack changes.removed.items (take changes.kept types)
  pub distinct : IsDistinct same_name (keys_of before)
  pub room : length changes.removed.items ≤ spare

-- the types without the unused built-in ones, and with the missing scalars behind them; this can be undone
pub record Retains (used : List ℕ → Bool) (changes : TypeMapChanges) (before types : List (NameText × ExtendedType)) (spare : ℕ) : Type 0 where
  pub added : List (NameText × ExtendedType)
  pub are : types ≡ filter (λ entry. not (is_unused used entry)) before ++ added
  pub are_added : AllZip IsAddedScalar (filter (is_missing used before) built_in_scalar_names) added
  pub undoes : CanUndo changes types spare before

-- behind what was there are the built-in scalars of these names that are used and missing, in order
pub record AddsMissing (used : List ℕ → Bool) (types : List (NameText × ExtendedType)) (names : List (List ℕ)) (before after : List (NameText × ExtendedType)) : Type 0 where
  pub added : List (NameText × ExtendedType)
  pub appended : after ≡ before ++ added
  pub are : AllZip IsAddedScalar (filter (is_missing used types) names) added
