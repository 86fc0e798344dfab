-- The pairs of sets whose fields come together, by the sets' numbers.
use Rattle.std.specs.Prelude.{◌≡◌, ◌≢◌, ◌<◌, ◌⊎◌, ◌↔◌, [], ⊤, ℕ, Bool, true, List, Some, Vec, All, Contains, length, map, slice_get}
use Rattle.std.specs.declared.alloc.Global.{Global}
use Rattle.graphql_documents.specs.Selections.{selections_of}
use Rattle.graphql_documents.specs.declared.documents.schemas.Schema.{Schema}
use Rattle.graphql_specification.specs.MergedSets.{Agree, ArePutTogether}
use Rattle.graphql_specification.specs.Merging.{FieldSelection, Pass, SameKey, field_pass, set_of, shape_pass, type_of}
use Rattle.graphql_field_conflicts.specs.FieldSelections.{selection_of}
use Rattle.graphql_number_sets.specs.NumberSets.{ArePaired}
use Rattle.graphql_number_sets.specs.declared.pair_sets.PairSet.{PairSet}
use Rattle.graphql_pair_merging.specs.Disagreements.{Disagrees, HasDefinition}
use Rattle.graphql_pair_merging.specs.FieldGroups.{Groups, group_under, name_by}
use Rattle.graphql_pair_merging.specs.NumberedSets.{HaveNumbers, field_of}
use Rattle.graphql_pair_merging.specs.declared.disagreements.Conflict.{Conflict}
use Rattle.graphql_pair_merging.specs.declared.field_groups.GroupedBy.TheVariants.{ResponseKey}
use Rattle.graphql_pair_merging.specs.declared.numbered_sets.NumberedField.{NumberedField}
use Rattle.graphql_pair_merging.specs.declared.numbered_sets.NumberedSet.{NumberedSet}

-- two sets, by their numbers
pub record SetPair : Type 0 where
  pub first : ℕ
  pub second : ℕ

-- the pair of the sets of these numbers
abbrev pub pair_of : ℕ → ℕ → SetPair
pair_of first second = record { first = first; second = second }

-- each number in the set is one of so many sets
pub record IsLinked (count : ℕ) (x : NumberedSet) : Type 0 where
  pub fields : All (λ f. f.set < count) x.fields.items
  pub fragments : All (λ number. number < count) x.fragments.items

abbrev pub AreLinked : List NumberedSet → Type 0
AreLinked sets = All (IsLinked (length sets)) sets

-- the pair of a fragment in the first set with the second, and of the first with a fragment in the second
abbrev pub IntoFirst : List ℕ → ℕ → SetPair → Type 0
IntoFirst fragments second p = (number : ℕ) × Contains fragments number × (p ≡ pair_of number second)

abbrev pub IntoSecond : ℕ → List ℕ → SetPair → Type 0
IntoSecond first fragments p = (number : ℕ) × Contains fragments number × (p ≡ pair_of first number)

-- the pair of one of these sets with itself
abbrev pub IsStart : List ℕ → SetPair → Type 0
IsStart starts p = (number : ℕ) × Contains starts number × (p ≡ pair_of number number)

-- vectors of numbers as lists
abbrev pub lists_at : List (Vec ℕ Global) → List (List ℕ)
lists_at waiting = map (λ v. v.items) waiting

-- the two sets are in one of these lists of sets that come together
abbrev pub AreListed : List (List ℕ) → ℕ → ℕ → Type 0
AreListed lists a b = (l : List ℕ) × Contains lists l × Contains l a × Contains l b

-- each two of the sets were looked at together
abbrev pub WereLookedAt : PairSet → List ℕ → Type 0
WereLookedAt looked l = (a b : ℕ) → Contains l a → Contains l b → ArePaired looked a b

-- some fields, each with each
abbrev pub Both : List NumberedField → NumberedField → NumberedField → Type 0
Both fields x y = Contains fields x × Contains fields y

-- each two of the fields have one response key
abbrev pub HaveOneKey : List NumberedField → Type 0
HaveOneKey fields = (x y : NumberedField) → Contains fields x → Contains fields y → SameKey (field_of x) (field_of y)

-- they have, and the numbers of their arguments are of one table
pub record AreComparable (fields : List NumberedField) : Type 0 where
  pub one_key : HaveOneKey fields
  pub numbers : HaveNumbers fields

-- what agrees with the field agrees with whatever else does: its type is defined, where types are compared
abbrev pub DecidesAlone : Schema → Pass → FieldSelection → Type 0
DecidesAlone schema shape_pass x = HasDefinition schema (type_of x)
DecidesAlone schema field_pass x = ⊤

-- the first of the fields, if there is one, decides so for all
abbrev pub OneDecides : Schema → Pass → List NumberedField → Type 0
OneDecides schema pass fields = (first : NumberedField) → slice_get fields 0 ≡ Some first → DecidesAlone schema pass (field_of first)

-- the numbers of the sets of those fields that select something
pub record AreSetsBelow (fields : List NumberedField) (below : List ℕ) : Type 0 where
  pub each : (n : ℕ) → Contains below n → (x : NumberedField) × Contains fields x × (selections_of (set_of (field_of x)) ≢ []) × (n ≡ x.set)
  pub all : (x : NumberedField) → Contains fields x → selections_of (set_of (field_of x)) ≢ [] → Contains below x.set

module _ (schema : Schema) (pass : Pass) where
  -- the pair of the sets of two fields that are put together, if both select something
  pub record IsBelow (x y : NumberedField) (p : SetPair) : Type 0 where
    pub put : ArePutTogether schema pass (field_of x) (field_of y)
    pub first_selects : selections_of (set_of (field_of x)) ≢ []
    pub second_selects : selections_of (set_of (field_of y)) ≢ []
    pub is : p ≡ pair_of x.set y.set

  -- the same of a field of the first list and one of the second
  abbrev pub IsBelowAny : List NumberedField → List NumberedField → SetPair → Type 0
  IsBelowAny xs ys p = (x : NumberedField) × (y : NumberedField) × Contains xs x × Contains ys y × IsBelow x y p

  -- each two of the fields are put together
  abbrev pub AreTogether : List NumberedField → Type 0
  AreTogether fields = (x y : NumberedField) → Contains fields x → Contains fields y → ArePutTogether schema pass (field_of x) (field_of y)

  -- each two of the fields agree
  abbrev pub AllAgree : List NumberedField → Type 0
  AllAgree fields = (x y : NumberedField) → Contains fields x → Contains fields y → Agree schema pass (field_of x) (field_of y)

  -- each two of the sets are those of two of the fields that are put together
  abbrev pub AreBelow : List NumberedField → List ℕ → Type 0
  AreBelow fields l = (a b : ℕ) → Contains l a → Contains l b → IsBelowAny fields fields (pair_of a b)

  -- of some fields those that belong together in this way were compared: where they are put together they agree, and their
  -- sets are in one list; only lists of sets below the fields came to those that were there
  pub record Settles (fields : List NumberedField) (Belong : NumberedField → NumberedField → Type 0) (old new : List (List ℕ)) : Type 0 where
    pub kept : (l : List ℕ) → Contains old l → Contains new l
    pub added : (l : List ℕ) → Contains new l → Contains old l ⊎ AreBelow fields l
    pub agree : (x y : NumberedField) → Belong x y → ArePutTogether schema pass (field_of x) (field_of y) → Agree schema pass (field_of x) (field_of y)
    pub below : (x y : NumberedField) → Belong x y → (p : SetPair) → IsBelow x y p → AreListed new p.first p.second

  -- these are two fields of the lists that do not agree
  pub record DisagreeAmong (xs ys : List NumberedField) (c : Conflict) : Type 0 where
    pub x : NumberedField
    pub y : NumberedField
    pub in_first : Contains xs x
    pub in_second : Contains ys y
    pub first_is : selection_of c.first ≡ field_of x
    pub second_is : selection_of c.second ≡ field_of y
    pub disagree : Disagrees schema pass (field_of x) (field_of y) c.disagreement

  -- these are two fields of the lists that are put together and do not agree
  pub record Finds (xs ys : List NumberedField) (c : Conflict) : Type 0 where
    pub among : DisagreeAmong xs ys c
    pub put : ArePutTogether schema pass (field_of among.x) (field_of among.y)

  -- from a pair of these sets to another: into a fragment of one, or below two fields
  abbrev pub LeadsTo : NumberedSet → NumberedSet → SetPair → SetPair → Type 0
  LeadsTo a b p q =
      (IntoFirst a.fragments.items p.second q ⊎ IntoSecond p.first b.fragments.items q) ⊎ IsBelowAny a.fields.items b.fields.items q

  module _ (sets : List NumberedSet) where
    -- a pair that is reached where one of some sets is put together with itself
    pub data IsReached (starts : List ℕ) : SetPair → Type 0 where
      reached_first : {p : SetPair} → IsStart starts p → IsReached starts p
      reached_next : {p q : SetPair} (a b : NumberedSet) → IsReached starts p →
          slice_get sets p.first ≡ Some a → slice_get sets p.second ≡ Some b → LeadsTo a b p q →
          IsReached starts q

    -- the field is in one of these sets
    abbrev pub StandsIn : List ℕ → NumberedField → Type 0
    StandsIn numbers x = (n : ℕ) × (a : NumberedSet) × Contains numbers n × (slice_get sets n ≡ Some a) × Contains a.fields.items x

    -- the fields are those in these sets
    abbrev pub AreFieldsOf : List ℕ → List NumberedField → Type 0
    AreFieldsOf numbers fields = (x : NumberedField) → Contains fields x ↔ StandsIn numbers x

    -- the fields are in these sets, and among them are all under whose response key there are fields in the groups
    pub record AreNamedIn (groups : Groups) (numbers : List ℕ) (fields : List NumberedField) : Type 0 where
      pub among : (x : NumberedField) → Contains fields x → StandsIn numbers x
      pub all : (x : NumberedField) → StandsIn numbers x → group_under groups (name_by ResponseKey x) ≢ [] → Contains fields x

    -- the fields are in these sets, and among them are each two of one key of which one is in an end
    pub record AreFieldsAround (ends numbers : List ℕ) (fields : List NumberedField) : Type 0 where
      pub among : (x : NumberedField) → Contains fields x → StandsIn numbers x
      pub all : (x y : NumberedField) → StandsIn ends x → StandsIn numbers y → SameKey (field_of x) (field_of y) →
          Contains fields x × Contains fields y

    -- each end was looked at with each of these sets: their fields were compared
    abbrev pub LooksAt : (ends numbers : List ℕ) → (old new : List (List ℕ)) → Type 0
    LooksAt ends numbers old new = (fields : List NumberedField) × AreFieldsAround ends numbers fields × Settles fields (Both fields) old new

    -- two fields in these sets are put together and do not agree
    abbrev pub FindsIn : List ℕ → Conflict → Type 0
    FindsIn numbers c = (fields : List NumberedField) × ((x : NumberedField) → Contains fields x → StandsIn numbers x) × Finds fields fields c

    -- all to which the pair leads are among these, and its fields agree where they are put together
    pub record IsClosed (looked : ℕ → ℕ → Bool) (p : SetPair) : Type 0 where
      pub first : NumberedSet
      pub second : NumberedSet
      pub first_is : slice_get sets p.first ≡ Some first
      pub second_is : slice_get sets p.second ≡ Some second
      pub all : (q : SetPair) → LeadsTo first second p q → looked q.first q.second ≡ true
      pub agree : (x y : NumberedField) → Contains first.fields.items x → Contains second.fields.items y →
          ArePutTogether schema pass (field_of x) (field_of y) → Agree schema pass (field_of x) (field_of y)

    -- all pairs that are reached were looked at, and nothing was found
    pub record HasLooked (starts : List ℕ) : Type 0 where
      pub looked : ℕ → ℕ → Bool
      pub begun : (p : SetPair) → IsStart starts p → looked p.first p.second ≡ true
      pub closed : (p : SetPair) → looked p.first p.second ≡ true → IsClosed looked p

    -- two fields of a pair that is reached do not agree
    pub record FindsBelow (starts : List ℕ) (c : Conflict) : Type 0 where
      pub pair : SetPair
      pub first : NumberedSet
      pub second : NumberedSet
      pub reached : IsReached starts pair
      pub first_is : slice_get sets pair.first ≡ Some first
      pub second_is : slice_get sets pair.second ≡ Some second
      pub found : Finds first.fields.items second.fields.items c
