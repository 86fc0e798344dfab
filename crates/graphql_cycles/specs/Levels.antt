-- Levels of definitions that refer to one another: each refers only to such of lower levels. For the contracts of what finds
-- them, and of what asks for them.
use Rattle.std.specs.Prelude.{◌≡◌, ◌<◌, ◌⊎◌, ℕ, List, Option, Some, IsTrue}
use Rattle.std.specs.Borrow.{Bor}
use Rattle.std.specs.HashMap.{HashMap}
use Rattle.graphql_nodes.specs.Names.{NameText, stands_on}
use Rattle.graphql_name_tables.specs.Places.{place_under}

-- the level of that to which a reference leads, if it has one
module _ {Reference : Type 0} (level : Reference → Option ℕ) where
  -- the reference leads to a lower level than this
  abbrev pub IsLower : ℕ → Reference → Type 0
  IsLower bound r = (i : ℕ) × (level r ≡ Some i) × (i < bound)

  module _ {Definition : Type 0} (RefersBy : Definition → Reference → Type 0) where
    -- and so does each reference in the definition
    abbrev pub LeadsLower : Definition → ℕ → Type 0
    LeadsLower d bound = (r : Reference) → RefersBy d r → IsLower bound r

    -- each definition of a level leads lower
    abbrev pub AreLevels : (Reference → Option Definition) → Type 0
    AreLevels target = (r : Reference) (d : Definition) (i : ℕ) → target r ≡ Some d → level r ≡ Some i → LeadsLower d i

-- no name has a level as high as this
abbrev pub AreBelow : {S : Type 0} → HashMap (Bor NameText) ℕ S → ℕ → Type 0
AreBelow levels most = (name : NameText) (i : ℕ) → place_under levels name ≡ Some i → i < most

-- the new table has this level under such of the names as had none, and else what the old one had
pub record AddsLevel {S : Type 0} (old new : HashMap (Bor NameText) ℕ S) (names : List NameText) (level : ℕ) : Type 0 where
  pub kept : (name : NameText) (i : ℕ) → place_under old name ≡ Some i → place_under new name ≡ Some i
  pub added : (name : NameText) (i : ℕ) → place_under new name ≡ Some i →
      (place_under old name ≡ Some i) ⊎ (IsTrue (stands_on names name) × (i ≡ level))
