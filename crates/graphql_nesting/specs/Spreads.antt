-- How a search goes through the spreads of a set, and what is known of fragments meanwhile.
use Rattle.std.specs.Prelude.{◌≡◌, ◌+◌, ◌++◌, ℕ, List, [], ◌∷◌, Option, None, Some, MatchOption, max, slice_get, slice_set}
use Rattle.std.specs.Option.{option_and_then, option_map_or}
use Rattle.graphql_nesting.specs.declared.spreads.FragmentLevels.{FragmentLevels}
use Rattle.graphql_nesting.specs.declared.spreads.FragmentLevels.TheVariants.{Awaited, Known}
use Rattle.graphql_nesting.specs.declared.spreads.PlacedSpread.{PlacedSpread}
use Rattle.graphql_nesting.specs.declared.spreads.Progress.{Progress}
use Rattle.graphql_nesting.specs.declared.spreads.WaitingFragment.{WaitingFragment}

-- the levels, if they are known
abbrev pub known_levels : FragmentLevels → Option ℕ
known_levels (Known n) = Some n
known_levels (Awaited waiting) = None

-- the fragments that wait for the levels
abbrev pub waiting_in : FragmentLevels → List WaitingFragment
waiting_in (Known n) = []
waiting_in (Awaited waiting) = waiting.items

-- the levels of the fragment of this number, if they are known
abbrev pub known_at : List FragmentLevels → ℕ → Option ℕ
known_at known number = option_and_then known_levels (slice_get known number)

-- the fragments that wait for the one of this number
abbrev pub waiting_at : List FragmentLevels → ℕ → List WaitingFragment
waiting_at known number = option_map_or waiting_in (slice_get known number) []

-- no levels are known, and nothing waits for them
pub record NothingKnown (levels : FragmentLevels) : Type 0 where
  pub unknown : known_levels levels ≡ None
  pub free : waiting_in levels ≡ []

-- the levels of the fragment that is spread, if they are known
abbrev pub spread_known : List FragmentLevels → PlacedSpread → Option ℕ
spread_known known s = known_at known s.fragment

-- at this number there is no spread, or its fragment has levels that are not known
abbrev pub StopsAt : List FragmentLevels → List PlacedSpread → ℕ → Type 0
StopsAt known spreads number = MatchOption (slice_get spreads number) (Unit {0}) (λ s. spread_known known s ≡ None)

-- these are the levels of ways through the spread
pub record AreLevelsThrough (known : List FragmentLevels) (s : PlacedSpread) (levels : ℕ) : Type 0 where
  pub below : ℕ
  pub is_known : spread_known known s ≡ Some below
  pub sum : levels ≡ s.above + below

-- the levels of ways through the spread, if those of its fragment are known
abbrev pub AddsKnown : List FragmentLevels → PlacedSpread → Option ℕ → Type 0
AddsKnown known s found = MatchOption found (spread_known known s ≡ None) (AreLevelsThrough known s)

-- a search goes on from the first progress to the second through spreads of fragments with known levels
pub data GoesOn (known : List FragmentLevels) (spreads : List PlacedSpread) (start : Progress) : Progress → Type 0 where
  stays : GoesOn known spreads start start
  goes_through : {p q : Progress} {s : PlacedSpread} {levels : ℕ} → GoesOn known spreads start p →
      slice_get spreads p.next ≡ Some s → AreLevelsThrough known s levels →
      q.next ≡ p.next + 1 → q.levels ≡ max p.levels levels → GoesOn known spreads start q

-- behind those that wait for the fragment of this number there is one more
pub record PutsBehind (old new : List FragmentLevels) (number : ℕ) (one_more : WaitingFragment) : Type 0 where
  pub levels : FragmentLevels
  pub written : new ≡ slice_set old number levels
  pub unknown : known_levels levels ≡ None
  pub waiting : waiting_in levels ≡ waiting_at old number ++ one_more ∷ []
