-- Sets that are joined to others, and lists of them that wait.
use Rattle.std.proofs.Common.{◌≡◌, ℕ, ◌+◌, ◌<◌, ◌≤◌, true, false, eqb, eqb-true, List, [], ◌∷◌, ◌++◌, Some, arith, get_or, length, refl, sym, ap, ◌∙◌, subst, All, Contains, take, length-append, inl, inr}
use Rattle.std.specs.Prelude.{◌≢◌, ◌⊎◌, Err, IfOk, Ok, Result, Vec, slice_get}
use Rattle.std.specs.declared.alloc.Global.{Global}
use Rattle.std.proofs.lemmas.List.{append-nil, append_assoc, map-append, take-append-le, take_more}
use Rattle.std.proofs.lemmas.List.Elements.{All-contains, All-get_or, Contains-append_cases}
use Rattle.std.proofs.lemmas.Option.{get_or_from_slice_get, slice_get-get_or, slice_get_within}
use Rattle.indexmap.proofs.IndexTableLemmas.Probe.{pigeonhole}
use Rattle.graphql_documents.proofs.ListLemmas.{each_standing, kept_by_filter, none_stands, only_one, stands_first}
use Rattle.graphql_number_sets.proofs.NumberLemmas.{is_added, stays}
use Rattle.graphql_number_sets.specs.NumberSets.{AreEnds, IsAdded}
use Rattle.graphql_number_sets.specs.declared.pair_sets.PairSet.{PairSet}
use Rattle.graphql_pair_merging.specs.JoinedSets.{AddsEach, AreJoined, IsJoined, Takes, joined_first, joined_fragment}
use Rattle.graphql_documents.specs.Selections.{selections_of}
use Rattle.graphql_documents.specs.declared.documents.schemas.Schema.{Schema}
use Rattle.graphql_specification.specs.MergedSets.{key_of}
use Rattle.graphql_specification.specs.Merging.{Pass, SameKey, set_of}
use Rattle.graphql_nodes.proofs.NameLemmas.{same_name_itself}
use Rattle.graphql_pair_merging.specs.FieldGroups.{AddsNamed, Groups, IsGrouped, group_under, has_name, name_by}
use Rattle.graphql_pair_merging.specs.declared.field_groups.GroupedBy.{GroupedBy}
use Rattle.graphql_pair_merging.specs.declared.field_groups.GroupedBy.TheVariants.{ResponseKey}
use Rattle.graphql_pair_merging.specs.NumberedSets.{field_of}
use Rattle.graphql_pair_merging.specs.Pairs.{AreFieldsAround, AreFieldsOf, AreNamedIn, AreSetsBelow, StandsIn, WereLookedAt, lists_at}
use Rattle.graphql_pair_merging.specs.declared.numbered_sets.NumberedField.{NumberedField}
use Rattle.graphql_pair_merging.proofs.PlaceLemmas.{one_at}
use Rattle.graphql_pair_merging.specs.declared.numbered_sets.NumberedSet.{NumberedSet}
use Rattle.graphql_pair_merging.proofs.SettleLemmas.{in_both, in_first, in_second}

-- different numbers below a bound are no more than it
pub few_numbers : (count : ℕ) (xs : List ℕ) → ((i j n : ℕ) → slice_get xs i ≡ Some n → slice_get xs j ≡ Some n → i ≡ j) → All (λ n. n < count) xs → length xs ≤ count
few_numbers count xs distinct within = pigeonhole (length xs) count at into one where
  at : ℕ → ℕ
  at i = get_or xs i 0

  into : (i : ℕ) → i < length xs → at i < count
  into i less = All-get_or (λ n. n < count) xs i 0 less within

  one : (i j : ℕ) → i < length xs → j < length xs → at i ≡ at j → i ≡ j
  one i j i_in j_in same = distinct i j (at j) (slice_get-get_or xs i 0 i_in ∙ ap (λ n. Some n) same) (slice_get-get_or xs j 0 j_in)

-- numbers that came to a list, one after another
pub adds_no_number : (known : List ℕ) → AddsEach [] known known
adds_no_number known = record {
  more = [];
  grown = sym (append-nil known);
  each = λ n in'. absurd (none_stands n in');
  all = λ n in'. absurd (none_stands n in');
}

pub adds_each_more : (done zs : List ℕ) (n : ℕ) (old mid new : List ℕ) → zs ≡ done ++ n ∷ [] → AddsEach done old mid → IsAdded n mid new → AddsEach zs old new
adds_each_more done zs n old mid new is before (inl same) = record {
  more = before.more;
  grown = same.1 ∙ before.grown;
  each = λ m in'. in_first done (n ∷ []) zs is m (before.each m in');
  all = λ m in'. elim (in_both done (n ∷ []) zs is m in') [
    | inl was ↦ subst (λ l. Contains l m) (sym same.1) (before.all m was)
    | inr last ↦ subst (Contains new) (sym (only_one n m last)) (is_added n mid new (inl same))
  ];
}
adds_each_more done zs n old mid new is before (inr added) = record {
  more = before.more ++ n ∷ [];
  grown = added.1 ∙ ap (λ l. l ++ n ∷ []) before.grown ∙ append_assoc old before.more (n ∷ []);
  each = λ m in'. elim (Contains-append_cases before.more (n ∷ []) m in') [
    | inl was ↦ in_first done (n ∷ []) zs is m (before.each m was)
    | inr last ↦ in_second done (n ∷ []) zs is m last
  ];
  all = λ m in'. elim (in_both done (n ∷ []) zs is m in') [
    | inl was ↦ stays n mid new (inr added) m (before.all m was)
    | inr last ↦ subst (Contains new) (sym (only_one n m last)) (is_added n mid new (inr added))
  ];
}

module _ (sets : List NumberedSet) (first : List ℕ) where
  abbrev pub Within : List ℕ → Type 0
  Within numbers = All (λ n. n < length sets) numbers

  -- of the first few numbers the fragments are there
  pub record Joining (next : ℕ) (numbers : List ℕ) : Type 0 where
    pub begun : (n : ℕ) → Contains first n → Contains numbers n
    pub closed : (n m : ℕ) (a : NumberedSet) → Contains (take next numbers) n → slice_get sets n ≡ Some a → Contains a.fragments.items m → Contains numbers m
    pub made : (n : ℕ) → Contains numbers n → IsJoined sets first n
    pub within : Within numbers
    pub reached : next ≤ length numbers

  pub joining_begins : (none numbers : List ℕ) → none ≡ [] → AddsEach first none numbers → Within first → Joining 0 numbers
  joining_begins none numbers empty adds within =
      let is : numbers ≡ adds.more = adds.grown ∙ ap (λ l. l ++ adds.more) empty in
      let each = λ (n : ℕ) (in' : Contains numbers n). adds.each n (subst (λ l. Contains l n) is in') in
      record {
        begun = adds.all;
        closed = λ n m a in' at there. absurd (none_stands n in');
        made = λ n in'. joined_first (each n in');
        within = each_standing (λ n. n < length sets) numbers (λ n in'. All-contains (λ m. m < length sets) first n within (each n in'));
        reached = omega arith;
      }

  pub joining_on : (next : ℕ) (numbers new : List ℕ) (number : ℕ) (a : NumberedSet) → slice_get numbers next ≡ Some number → slice_get sets number ≡ Some a → All (λ n. n < length sets) a.fragments.items →
      AddsEach a.fragments.items numbers new → Joining next numbers → Joining (next + 1) new
  joining_on next numbers new number a is at linked adds before = record {
    begun = λ n in'. still n (before.begun n in');
    closed = closed;
    made = λ n in'. elim (in_both numbers adds.more new adds.grown n in') [
      | inl was ↦ before.made n was
      | inr more ↦ joined_fragment a (before.made number there) at (adds.each n more)
    ];
    within = each_standing (λ n. n < length sets) new (λ n in'. elim (in_both numbers adds.more new adds.grown n in') [
      | inl was ↦ All-contains (λ m. m < length sets) numbers n before.within was
      | inr more ↦ All-contains (λ m. m < length sets) a.fragments.items n linked (adds.each n more)
    ]);
    reached = subst (λ l. next + 1 ≤ length l) (sym adds.grown) (omega (arith, less, length-append numbers adds.more));
  } where
    less : next < length numbers
    less = slice_get_within numbers next number is

    there : Contains numbers number
    there = (next, less, get_or_from_slice_get numbers next number number is)

    still : (n : ℕ) → Contains numbers n → Contains new n
    still n in' = in_first numbers adds.more new adds.grown n in'

    taken : take (next + 1) new ≡ take next numbers ++ number ∷ []
    taken =
        ap (take (next + 1)) adds.grown ∙ take-append-le (next + 1) numbers adds.more (omega (arith, less)) ∙ take_more numbers next number less ∙
        ap (λ x. take next numbers ++ x ∷ []) (get_or_from_slice_get numbers next number number is)

    closed : (n m : ℕ) (b : NumberedSet) → Contains (take (next + 1) new) n → slice_get sets n ≡ Some b → Contains b.fragments.items m → Contains new m
    closed n m b in' at_n there_m = elim (in_both (take next numbers) (number ∷ []) (take (next + 1) new) taken n in') [
      | inl was ↦ still m (before.closed n m b was at_n there_m)
      | inr last ↦
          (let same : Some a ≡ Some b = sym at ∙ ap (slice_get sets) (sym (only_one number n last)) ∙ at_n in
          let one : a ≡ b = cc in
          adds.all m (subst (λ (r : NumberedSet). Contains r.fragments.items m) (sym one) there_m))
    ]

  pub joining_ends : (next : ℕ) (numbers : List ℕ) → take next numbers ≡ numbers → Joining next numbers → AreJoined sets first numbers
  joining_ends next numbers all j = record {
    begun = j.begun;
    closed = λ n m a in'. j.closed n m a (subst (λ l. Contains l n) (sym all) in');
    made = j.made;
  }

-- lists that wait, of which the last was taken
pub last_taken : (old new : List (Vec ℕ Global)) (v : Vec ℕ Global) → old ≡ new ++ v ∷ [] → lists_at old ≡ lists_at new ++ v.items ∷ []
last_taken old new v is = ap lists_at is ∙ map-append (λ (w : Vec ℕ Global). w.items) new (v ∷ [])

module _ (sets : List NumberedSet) (looked : PairSet) (initial : List (List ℕ)) where
  -- some were taken, all of which were looked at
  pub record Taken (waiting : List (List ℕ)) : Type 0 where
    pub fewer : (l : List ℕ) → Contains waiting l → Contains initial l
    pub others : (l : List ℕ) → Contains initial l → Contains waiting l ⊎ WereLookedAt looked l

  pub nothing_taken : Taken initial
  nothing_taken = record { fewer = λ l in'. in'; others = λ l in'. inl in' }

  was_looked : (list joined ends : List ℕ) → AreJoined sets list joined → AreEnds looked joined ends → ends ≡ [] → WereLookedAt looked list
  was_looked list joined ends are are_ends none a b in_a in_b = elim (are_ends.others a b (are.begun a in_a) (are.begun b in_b)) [
    | inl paired ↦ paired
    | inr end ↦ elim end [
      | inl first ↦ absurd (none_stands a (subst (λ l. Contains l a) none first))
      | inr second ↦ absurd (none_stands b (subst (λ l. Contains l b) none second))
    ]
  ]

  pub one_taken : (old new : List (List ℕ)) (list joined ends : List ℕ) → old ≡ new ++ list ∷ [] → AreJoined sets list joined → AreEnds looked joined ends → ends ≡ [] →
      Taken old → Taken new
  one_taken old new list joined ends is are are_ends none before = record {
    fewer = λ l in'. before.fewer l (in_first new (list ∷ []) old is l in');
    others = λ l in'. elim (before.others l in') [
      | inl there ↦ elim (in_both new (list ∷ []) old is l there) [
        | inl still ↦ inl still
        | inr last ↦ inr (subst (WereLookedAt looked) (sym (only_one list l last)) (was_looked list joined ends are are_ends none))
      ]
      | inr looked ↦ inr looked
    ];
  }

  pub takes : (old new : List (List ℕ)) (list joined ends : List ℕ) → old ≡ new ++ list ∷ [] → AreJoined sets list joined → AreEnds looked joined ends → ends ≢ [] →
      Taken old → Takes sets looked initial new joined ends
  takes old new list joined ends is are are_ends some before = record {
    list = list;
    fewer = λ l in'. before.fewer l (in_first new (list ∷ []) old is l in');
    taken = before.fewer list (in_second new (list ∷ []) old is list (stands_first list []));
    are_joined = are;
    are_ends = are_ends;
    others = λ l in'. elim (before.others l in') [
      | inl there ↦ elim (in_both new (list ∷ []) old is l there) [
        | inl still ↦ inl still
        | inr last ↦ inr (inl (only_one list l last))
      ]
      | inr looked ↦ inr (inr looked)
    ];
    some = some;
  }

  -- the ends are among the joined sets
  pub ends_among : (new : List (List ℕ)) (joined ends : List ℕ) → Takes sets looked initial new joined ends → (n : ℕ) → Contains ends n → Contains joined n
  ends_among new joined ends taken n in' = (taken.are_ends.each n in').0

  pub ends_within : (new : List (List ℕ)) (joined ends : List ℕ) (count : ℕ) → Takes sets looked initial new joined ends → All (λ n. n < count) joined → All (λ n. n < count) ends
  ends_within new joined ends count taken within =
      each_standing (λ n. n < count) ends (λ n in'. All-contains (λ m. m < count) joined n within (taken.are_ends.each n in').0)

  pub all_taken : Taken [] → All (WereLookedAt looked) initial
  all_taken t = each_standing (WereLookedAt looked) initial (λ l in'. elim (t.others l in') [
    | inl there ↦ absurd (none_stands l there)
    | inr looked ↦ looked
  ])

-- a list without elements
pub none_there : {X : Type 0} (l : List X) → length l ≡ 0 → l ≡ []
none_there [] is = refl
none_there (x ∷ xs) is = absurd (omega (arith, is))

pub no_number : (l : List ℕ) → true ≡ eqb (length l) 0 → l ≡ []
no_number l is = none_there l (eqb-true (length l) 0 (sym is))

pub some_number : (l : List ℕ) → false ≡ eqb (length l) 0 → l ≢ []
some_number l is none = let no : false ≡ true = is ∙ ap (λ m. eqb (length m) 0) none in let no : ⊥ = cc in no

-- the fields of one set more
pub fields_more : (schema : Schema) (pass : Pass) (sets : List NumberedSet) (done zs : List ℕ) (number : ℕ) (set : NumberedSet) (old new : List NumberedField) → zs ≡ done ++ number ∷ [] →
    slice_get sets number ≡ Some set → new ≡ old ++ set.fields.items → AreFieldsOf schema pass sets done old → AreFieldsOf schema pass sets zs new
fields_more schema pass sets done zs number set old new is at grown before x = (there, back) where
  there : Contains new x → StandsIn schema pass sets zs x
  there in' = elim (in_both old set.fields.items new grown x in') [
    | inl was ↦ (let s = (before x).0 was in (s.0, s.1, in_first done (number ∷ []) zs is s.0 s.2, s.3, s.4))
    | inr own ↦ (number, set, in_second done (number ∷ []) zs is number (stands_first number []), at, own)
  ]

  back : StandsIn schema pass sets zs x → Contains new x
  back (n, a, listed, at_n, own) = elim (in_both done (number ∷ []) zs is n listed) [
    | inl was ↦ in_first old set.fields.items new grown x ((before x).1 (n, a, was, at_n, own))
    | inr last ↦
        (let same : set ≡ a = one_at (slice_get sets n) set a (ap (slice_get sets) (only_one number n last) ∙ at) at_n in
        in_second old set.fields.items new grown x (subst (λ (r : NumberedSet). Contains r.fields.items x) (sym same) own))
  ]

-- the set of one field more
pub below_more : (done zs : List NumberedField) (x : NumberedField) (old new : List ℕ) → zs ≡ done ++ x ∷ [] → selections_of (set_of (field_of x)) ≢ [] → new ≡ old ++ x.set ∷ [] →
    AreSetsBelow done old → AreSetsBelow zs new
below_more done zs x old new is some grown before = record {
  each = λ n in'. elim (in_both old (x.set ∷ []) new grown n in') [
    | inl was ↦ (let s = before.each n was in (s.0, in_first done (x ∷ []) zs is s.0 s.1, s.2, s.3))
    | inr last ↦ (x, in_second done (x ∷ []) zs is x (stands_first x []), some, only_one x.set n last)
  ];
  all = λ y in' selects. elim (in_both done (x ∷ []) zs is y in') [
    | inl was ↦ in_first old (x.set ∷ []) new grown y.set (before.all y was selects)
    | inr last ↦ in_second old (x.set ∷ []) new grown y.set (subst (λ (r : NumberedField). Contains (x.set ∷ []) r.set) (sym (only_one x y last)) (stands_first x.set []))
  ];
}

pub below_same : (done zs : List NumberedField) (x : NumberedField) (old : List ℕ) → zs ≡ done ++ x ∷ [] → ¬ (selections_of (set_of (field_of x)) ≢ []) → AreSetsBelow done old → AreSetsBelow zs old
below_same done zs x old is none before = record {
  each = λ n in'. let s = before.each n in' in (s.0, in_first done (x ∷ []) zs is s.0 s.1, s.2, s.3);
  all = λ y in' selects. elim (in_both done (x ∷ []) zs is y in') [
    | inl was ↦ before.all y was selects
    | inr last ↦ absurd (none (subst (λ (r : NumberedField). selections_of (set_of (field_of r)) ≢ []) (only_one x y last) selects))
  ];
}

-- what is among the fields of one set more
pub named_more : (schema : Schema) (pass : Pass) (sets : List NumberedSet) (groups : Groups) (done zs : List ℕ) (number : ℕ) (set : NumberedSet) (old new : List NumberedField) → zs ≡ done ++ number ∷ [] →
    slice_get sets number ≡ Some set → AddsNamed ResponseKey groups set.fields.items old new → AreNamedIn schema pass sets groups done old → AreNamedIn schema pass sets groups zs new
named_more schema pass sets groups done zs number set old new is at adds before = record {
  among = λ x in'. elim (adds.added x in') [
    | inl was ↦ (let s = before.among x was in (s.0, s.1, in_first done (number ∷ []) zs is s.0 s.2, s.3, s.4))
    | inr own ↦ (number, set, in_second done (number ∷ []) zs is number (stands_first number []), at, own)
  ];
  all = λ x stands some. elim (in_both done (number ∷ []) zs is stands.0 stands.2) [
    | inl was ↦ adds.kept x (before.all x (stands.0, stands.1, was, stands.3, stands.4) some)
    | inr last ↦
        (let same : set ≡ stands.1 = one_at (slice_get sets stands.0) set stands.1 (ap (slice_get sets) (only_one number stands.0 last) ∙ at) stands.3 in
        adds.all x (subst (λ (r : NumberedSet). Contains r.fields.items x) (sym same) stands.4) some)
  ];
}

module _ (schema : Schema) (pass : Pass) (sets : List NumberedSet) (ends numbers : List ℕ) (among : (n : ℕ) → Contains ends n → Contains numbers n) where
  wider : (x : NumberedField) → StandsIn schema pass sets ends x → StandsIn schema pass sets numbers x
  wider x s = (s.0, s.1, among s.0 s.2, s.3, s.4)

  -- where all sets are ends, all their fields are around these
  pub all_around : (own : List NumberedField) → AreFieldsOf schema pass sets ends own → ends ≡ numbers → AreFieldsAround schema pass sets ends numbers own
  all_around own are same = record {
    among = λ x in'. wider x ((are x).0 in');
    all = λ x y in_end in_any one_key. ((are x).1 in_end, (are y).1 (subst (λ l. StandsIn schema pass sets l y) (sym same) in_any));
  }

  -- and else those are whose key one in an end has
  pub named_around : (own fields : List NumberedField) (groups : Groups) → AreFieldsOf schema pass sets ends own → IsGrouped ResponseKey own groups →
      AreNamedIn schema pass sets groups numbers fields → AreFieldsAround schema pass sets ends numbers fields
  named_around own fields groups are grouped named = record {
    among = named.among;
    all = λ x y in_end in_any one_key.
        let own_x = (are x).1 in_end in (
          named.all x (wider x in_end) (some x x own_x (same_name_itself (key_of (field_of x)))),
          named.all y in_any (some x y own_x one_key),
        );
  } where
    some : (x y : NumberedField) → Contains own x → SameKey (field_of x) (field_of y) → group_under groups (key_of (field_of y)) ≢ []
    some x y own_x one_key none =
        let name = key_of (field_of y) in
        none_stands x (subst (λ l. Contains l x) (sym (grouped name) ∙ none) (kept_by_filter (has_name ResponseKey name) own x own_x one_key))

-- one field more was looked at: it came to the fields, or there are none of its name
pub named_one : (by : GroupedBy) (groups : Groups) (done zs : List NumberedField) (x : NumberedField) (old now new : List NumberedField) → zs ≡ done ++ x ∷ [] → new ≡ now ++ x ∷ [] →
    AddsNamed by groups done old now → AddsNamed by groups zs old new
named_one by groups done zs x old now new is grown before = record {
  kept = λ y in'. in_first now (x ∷ []) new grown y (before.kept y in');
  added = λ y in'. elim (in_both now (x ∷ []) new grown y in') [
    | inl was ↦ elim (before.added y was) [
      | inl in_old ↦ inl in_old
      | inr other ↦ inr (in_first done (x ∷ []) zs is y other)
    ]
    | inr last ↦ inr (in_second done (x ∷ []) zs is y last)
  ];
  all = λ y in' some. elim (in_both done (x ∷ []) zs is y in') [
    | inl was ↦ in_first now (x ∷ []) new grown y (before.all y was some)
    | inr last ↦ in_second now (x ∷ []) new grown y last
  ];
}

pub named_none : (by : GroupedBy) (groups : Groups) (done zs : List NumberedField) (x : NumberedField) (old now : List NumberedField) → zs ≡ done ++ x ∷ [] → group_under groups (name_by by x) ≡ [] →
    AddsNamed by groups done old now → AddsNamed by groups zs old now
named_none by groups done zs x old now is none before = record {
  kept = before.kept;
  added = λ y in'. elim (before.added y in') [
    | inl in_old ↦ inl in_old
    | inr other ↦ inr (in_first done (x ∷ []) zs is y other)
  ];
  all = λ y in' some. elim (in_both done (x ∷ []) zs is y in') [
    | inl was ↦ before.all y was some
    | inr last ↦ absurd (some (subst (λ k. group_under groups (name_by by k) ≡ []) (sym (only_one x y last)) none))
  ];
}

-- what follows where a call answers
pub follows : {T E : Type 0} {P Q : T → Type 0} (r : Result T E) → ((v : T) → P v → Q v) → IfOk r P → IfOk r Q
follows (Ok v) then' p = then' v p
follows (Err e) then' p = tt
