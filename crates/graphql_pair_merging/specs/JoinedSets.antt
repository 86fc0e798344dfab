-- Sets that come together, with those of the fragments in them.
use Rattle.std.specs.Prelude.{◌≡◌, ◌≢◌, ◌⊎◌, ◌++◌, [], ℕ, List, Some, Contains, slice_get}
use Rattle.graphql_number_sets.specs.NumberSets.{AreEnds}
use Rattle.graphql_number_sets.specs.declared.pair_sets.PairSet.{PairSet}
use Rattle.graphql_pair_merging.specs.Pairs.{WereLookedAt}
use Rattle.graphql_pair_merging.specs.declared.numbered_sets.NumberedSet.{NumberedSet}

-- these numbers came to those of a list, behind them
pub record AddsEach (numbers old new : List ℕ) : Type 0 where
  pub more : List ℕ
  pub grown : new ≡ old ++ more
  pub each : (n : ℕ) → Contains more n → Contains numbers n
  pub all : (n : ℕ) → Contains numbers n → Contains new n

module _ (sets : List NumberedSet) where
  -- one of the first sets, or of a fragment in one that is joined to them
  pub data IsJoined (first : List ℕ) : ℕ → Type 0 where
    joined_first : {n : ℕ} → Contains first n → IsJoined first n
    joined_fragment : {n m : ℕ} (a : NumberedSet) → IsJoined first n → slice_get sets n ≡ Some a → Contains a.fragments.items m → IsJoined first m

  -- the first sets with all that are joined to them
  pub record AreJoined (first numbers : List ℕ) : Type 0 where
    pub begun : (n : ℕ) → Contains first n → Contains numbers n
    pub closed : (n m : ℕ) (a : NumberedSet) → Contains numbers n → slice_get sets n ≡ Some a → Contains a.fragments.items m → Contains numbers m
    pub made : (n : ℕ) → Contains numbers n → IsJoined first n

  -- lists were taken from those that wait, up to one of which some sets were not looked at together
  pub record Takes (looked : PairSet) (old new : List (List ℕ)) (joined ends : List ℕ) : Type 0 where
    pub list : List ℕ
    pub fewer : (l : List ℕ) → Contains new l → Contains old l
    pub taken : Contains old list
    pub are_joined : AreJoined list joined
    pub are_ends : AreEnds looked joined ends
    pub others : (l : List ℕ) → Contains old l → Contains new l ⊎ ((l ≡ list) ⊎ WereLookedAt looked l)
    pub some : ends ≢ []
