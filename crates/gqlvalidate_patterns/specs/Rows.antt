-- Rows of marks on the places of a path, for the contracts of the functions that decide whether a pattern stands for it.
use Rattle.std.specs.Prelude.{◌≡◌, ◌↔◌, ◌⊎◌, ◌+◌, ◌<◌, ◌≤◌, ℕ, Bool, List, true, false, drop, length, slice_index_or, take}

-- the row marks the place
abbrev pub Marks : List Bool → ℕ → Type 0
Marks row place = slice_index_or row place false ≡ true

-- the characters of the path from one place to another
abbrev pub between : List ℕ → ℕ → ℕ → List ℕ
between path from to = drop from (take to path)

-- a place from which something is matched up to this one is marked
abbrev pub EndsAt : (List ℕ → Type 0) → List ℕ → List Bool → ℕ → Type 0
EndsAt Match path begins place = (from : ℕ) × (from ≤ place) × Marks begins from × Match (between path from place)

-- a row marks the places where something can end that begins at the places of another
pub record IsRowBehind (Match : List ℕ → Type 0) (path : List ℕ) (begins row : List Bool) : Type 0 where
  pub long : length row ≡ length path + 1
  pub each : (place : ℕ) → place ≤ length path → Marks row place ↔ EndsAt Match path begins place

-- the row marks the places that one of two others marks
pub record RowsMeet (a b row : List Bool) : Type 0 where
  pub long : length row ≡ length a
  pub each : (place : ℕ) → place < length a → Marks row place ↔ (Marks a place ⊎ Marks b place)
