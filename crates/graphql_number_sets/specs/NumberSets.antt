-- Sets of numbers as words of 64 bits, lists of different numbers, and sets of pairs of numbers.
use Rattle.std.specs.Prelude.{◌≡◌, ◌↔◌, ◌⊎◌, ◌++◌, ◌∷◌, ◌+◌, ◌/◌, ◌%◌, ◌≤◌, ◌==◌, ℕ, Bool, true, false, List, [], Option, None, Some, All, Contains, slice_get, slice_index, vec_len}
use Rattle.std.specs.Int.{bit_at}
use Rattle.graphql_number_sets.specs.declared.bit_sets.BitSet.{BitSet}
use Rattle.graphql_number_sets.specs.declared.distinct_numbers.DistinctNumbers.{DistinctNumbers}
use Rattle.graphql_number_sets.specs.declared.pair_sets.PairSet.{PairSet}

-- the word at a place, and one without bits behind the last
abbrev pub word_at : List ℕ → ℕ → ℕ
word_at words place = slice_index words place

-- the words have the bit of this number
abbrev pub has_bit : List ℕ → ℕ → Bool
has_bit words number = bit_at (word_at words (number / 64)) (number % 64) == 1

-- the number is in the set
abbrev pub has : BitSet → ℕ → Bool
has set number = has_bit set.words.items number

-- how many words the set takes
abbrev pub words_of : BitSet → ℕ
words_of set = vec_len set.words

-- the set takes no word behind that of the bound
abbrev pub FitsBelow : (bound : ℕ) → BitSet → Type 0
FitsBelow bound set = words_of set ≤ bound / 64 + 1

-- the numbers of the list
abbrev pub numbers_of : DistinctNumbers → List ℕ
numbers_of x = x.numbers.items

-- each number of the list is there once, and its set has the same numbers
pub record AreExact (x : DistinctNumbers) : Type 0 where
  pub distinct : (i j number : ℕ) → slice_get (numbers_of x) i ≡ Some number → slice_get (numbers_of x) j ≡ Some number → i ≡ j
  pub members : (number : ℕ) → (has x.members number ≡ true) ↔ Contains (numbers_of x) number

-- a number was added behind those of a list, unless it was there
abbrev pub IsAdded : ℕ → List ℕ → List ℕ → Type 0
IsAdded number old new = (Contains old number × (new ≡ old)) ⊎ ((¬ Contains old number) × (new ≡ old ++ number ∷ []))

-- the number is in the set, if there is one
abbrev pub has_in : Option BitSet → ℕ → Bool
has_in None number = false
has_in (Some set) number = has set number

-- the pair is in the set
abbrev pub has_pair : PairSet → ℕ → ℕ → Bool
has_pair pairs first second = has_in (slice_get pairs.rows.items first) second

-- the numbers are a pair of the set, one way or the other
abbrev pub ArePaired : PairSet → ℕ → ℕ → Type 0
ArePaired pairs first second = (has_pair pairs first second ≡ true) ⊎ (has_pair pairs second first ≡ true)

-- one of the numbers makes no pair of the set with this one
abbrev pub LacksOne : PairSet → List ℕ → ℕ → Type 0
LacksOne pairs numbers number = (other : ℕ) × Contains numbers other × (has_pair pairs number other ≡ false)

-- such of some numbers that of each two which are no pair at least one is among them
pub record AreEnds (pairs : PairSet) (numbers ends : List ℕ) : Type 0 where
  pub each : (number : ℕ) → Contains ends number → Contains numbers number × LacksOne pairs numbers number
  pub others : (first second : ℕ) → Contains numbers first → Contains numbers second →
      ArePaired pairs first second ⊎ (Contains ends first ⊎ Contains ends second)

-- each two numbers of a set are a pair
abbrev pub IsClique : PairSet → BitSet → Type 0
IsClique pairs clique = (first second : ℕ) → has clique first ≡ true → has clique second ≡ true → ArePaired pairs first second

-- each two numbers of each clique that is kept are a pair
abbrev pub KeepsCliques : PairSet → Type 0
KeepsCliques pairs = All (IsClique pairs) pairs.cliques.sets.items

-- some of the numbers, of which each two are a pair
pub record AreKnown (pairs : PairSet) (numbers known : List ℕ) : Type 0 where
  pub among : (number : ℕ) → Contains known number → Contains numbers number
  pub paired : (first second : ℕ) → Contains known first → Contains known second → ArePaired pairs first second

-- a number was among those that are pairs with one another; or it came to them, since it is one with each of them and itself; or
-- to the ends, since it is not
pub data IsPlaced (pairs : PairSet) (number : ℕ) (paired ends new_paired new_ends : List ℕ) : Type 0 where
  was_paired : Contains paired number → new_paired ≡ paired → new_ends ≡ ends → IsPlaced pairs number paired ends new_paired new_ends
  is_paired : has_pair pairs number number ≡ true → ((other : ℕ) → Contains paired other → has_pair pairs number other ≡ true) →
      IsAdded number paired new_paired → new_ends ≡ ends → IsPlaced pairs number paired ends new_paired new_ends
  is_end : (other : ℕ) → Contains paired other ⊎ (other ≡ number) → has_pair pairs number other ≡ false →
      IsAdded number ends new_ends → new_paired ≡ paired → IsPlaced pairs number paired ends new_paired new_ends

-- the new set has the numbers of the old one, and perhaps some of these
pub record HasSomeMore (old new : BitSet) (numbers : List ℕ) : Type 0 where
  pub kept : (number : ℕ) → has old number ≡ true → has new number ≡ true
  pub added : (number : ℕ) → has new number ≡ true → (has old number ≡ true) ⊎ Contains numbers number

-- two of the numbers of which one is an end
abbrev pub HaveEnd : (numbers ends : List ℕ) → ℕ → ℕ → Type 0
HaveEnd numbers ends first second = (Contains ends first × Contains numbers second) ⊎ (Contains numbers first × Contains ends second)

-- the new set has the pairs of the old one, and perhaps some of the numbers of which one is an end
pub record HasSomeJoined (old new : PairSet) (numbers ends : List ℕ) : Type 0 where
  pub kept : (first second : ℕ) → has_pair old first second ≡ true → has_pair new first second ≡ true
  pub added : (first second : ℕ) → has_pair new first second ≡ true → (has_pair old first second ≡ true) ⊎ HaveEnd numbers ends first second

-- the new set has the pairs of the old one, and perhaps some of one of the first numbers and one of the second
pub record HasSomeOf (old new : PairSet) (firsts seconds : List ℕ) : Type 0 where
  pub kept : (first second : ℕ) → has_pair old first second ≡ true → has_pair new first second ≡ true
  pub added : (first second : ℕ) → has_pair new first second ≡ true →
      (has_pair old first second ≡ true) ⊎ (Contains firsts first × Contains seconds second)
