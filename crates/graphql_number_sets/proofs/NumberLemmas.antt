-- Lists of different numbers, and sets of pairs.
use Rattle.std.proofs.Common.{◌≡◌, ℕ, zero, suc, ◌/◌, ◌<◌, Bool, true, false, List, [], ◌∷◌, ◌++◌, get_or, set, take, Some, arith, length, refl, sym, ap, ◌∙◌, subst, All, Contains, inl, inr}
use Rattle.std.specs.Prelude.{◌≢◌, ◌↔◌, ◌⊎◌, Err, IfOk, None, Ok, OnErr, OnOk, Result, slice_get}
use Rattle.std.proofs.lemmas.Bool.{cases_eq}
use Rattle.std.proofs.lemmas.List.{take-append-le, take_all}
use Rattle.std.proofs.lemmas.List.Elements.{All-contains, All-contains_itself, All-from_get_or, All-push, All-take, All-weaker, Contains-append_cases, Contains-append_left, Contains-append_right}
use Rattle.std.proofs.lemmas.Option.{get_or_from_slice_get, slice_get_read, slice_get_within}
use Rattle.graphql_number_sets.specs.NumberSets.{AreEnds, AreExact, AreKnown, HasSomeJoined, HasSomeMore, HasSomeOf, HaveEnd, IsAdded, IsClique, IsPlaced, KeepsCliques, LacksOne, has, has_in, has_pair, is_end, is_paired, numbers_of, was_paired, words_of}
use Rattle.graphql_number_sets.proofs.BitLemmas.{bit_within}
use Rattle.graphql_number_sets.specs.declared.bit_sets.BitSet.{BitSet}
use Rattle.graphql_number_sets.specs.declared.distinct_numbers.DistinctNumbers.{DistinctNumbers}
use Rattle.graphql_number_sets.specs.declared.pair_sets.PairSet.{PairSet}

-- what is at a place of a list with one more behind is in the list, or the last
pub at_more : {X : Type 0} (xs : List X) (x : X) (n : ℕ) (y : X) → slice_get (xs ++ x ∷ []) n ≡ Some y → (slice_get xs n ≡ Some y) ⊎ ((n ≡ length xs) × (x ≡ y))
at_more [] x zero y is = inr (refl, let e : x ≡ y = cc in e)
at_more [] x (suc n) y is = absurd (let no : ⊥ = cc in no)
at_more (z ∷ xs) x zero y is = inl is
at_more (z ∷ xs) x (suc n) y is = elim (at_more xs x n y is) [
  | inl there ↦ inl there
  | inr last ↦ inr (ap (λ m. suc m) last.0, last.1)
]

-- what is read within a list, whatever is read past it
pub in_place : (xs : List ℕ) (i d e : ℕ) → i < length xs → get_or xs i d ≡ get_or xs i e
in_place [] i d e within = absurd (omega (arith, within))
in_place (x ∷ xs) zero d e within = refl
in_place (x ∷ xs) (suc i) d e within = in_place xs i d e (omega (arith, within))

is_there : (xs : List ℕ) (i n : ℕ) → slice_get xs i ≡ Some n → Contains xs n
is_there xs i n is = (i, slice_get_within xs i n is, get_or_from_slice_get xs i n n is)

in_one : (n x : ℕ) → Contains (n ∷ []) x → x ≡ n
in_one n x (zero, within, is) = sym is
in_one n x (suc i, within, is) = absurd (omega (arith, within))

-- a new number was added at the end, and to the set
pub added : (old new : DistinctNumbers) (number : ℕ) → AreExact old → ¬ Contains (numbers_of old) number → numbers_of new ≡ numbers_of old ++ number ∷ [] →
    ((other : ℕ) → (has new.members other ≡ true) ↔ ((has old.members other ≡ true) ⊎ (other ≡ number))) → AreExact new
added old new number exact unknown grown members = record {
  distinct = λ i j n at_i at_j. apart i j n (at_more xs number i n (subst (λ l. slice_get l i ≡ Some n) grown at_i)) (at_more xs number j n (subst (λ l. slice_get l j ≡ Some n) grown at_j));
  members = λ n. (there n, back n);
} where
  xs : List ℕ
  xs = numbers_of old

  apart : (i j n : ℕ) → (slice_get xs i ≡ Some n) ⊎ ((i ≡ length xs) × (number ≡ n)) → (slice_get xs j ≡ Some n) ⊎ ((j ≡ length xs) × (number ≡ n)) → i ≡ j
  apart i j n (inl a) (inl b) = exact.distinct i j n a b
  apart i j n (inl a) (inr b) = absurd (unknown (subst (Contains xs) (sym b.1) (is_there xs i n a)))
  apart i j n (inr a) (inl b) = absurd (unknown (subst (Contains xs) (sym a.1) (is_there xs j n b)))
  apart i j n (inr a) (inr b) = a.0 ∙ sym b.0

  there : (n : ℕ) → has new.members n ≡ true → Contains (numbers_of new) n
  there n is = subst (λ l. Contains l n) (sym grown) (elim ((members n).0 is) [
    | inl was ↦ Contains-append_left xs (number ∷ []) n ((exact.members n).0 was)
    | inr same ↦ subst (λ m. Contains (xs ++ number ∷ []) m) (sym same) (Contains-append_right xs (number ∷ []) number (0, omega arith, refl))
  ])

  back : (n : ℕ) → Contains (numbers_of new) n → has new.members n ≡ true
  back n in' = (members n).1 (elim (Contains-append_cases xs (number ∷ []) n (subst (λ l. Contains l n) grown in')) [
    | inl was ↦ inl ((exact.members n).1 was)
    | inr last ↦ inr (in_one number n last)
  ])

-- no number is at two places of an empty list
pub none_exact : (new : DistinctNumbers) → numbers_of new ≡ [] → ((other : ℕ) → has new.members other ≡ false) → AreExact new
none_exact new empty none = record {
  distinct = λ i j n at_i at_j. absurd (let no : None ≡ Some n = sym (at_none i) ∙ subst (λ l. slice_get l i ≡ Some n) empty at_i in let no : ⊥ = cc in no);
  members = λ n. (
    λ is. absurd (let no : true ≡ false = sym is ∙ none n in let no : ⊥ = cc in no),
    λ in'. absurd (omega (arith, (subst (λ l. Contains l n) empty in').1)),
  );
} where
  at_none : (i : ℕ) → slice_get {X = ℕ} [] i ≡ None
  at_none zero = refl
  at_none (suc i) = refl

-- what is in a list to which a number was added
pub after_adding : (number : ℕ) (old new : List ℕ) → IsAdded number old new → (n : ℕ) → Contains new n → Contains old n ⊎ (n ≡ number)
after_adding number old new (inl same) n in' = inl (subst (λ l. Contains l n) same.1 in')
after_adding number old new (inr more) n in' = elim (Contains-append_cases old (number ∷ []) n (subst (λ l. Contains l n) more.1 in')) [
  | inl was ↦ inl was
  | inr last ↦ inr (in_one number n last)
]

pub stays : (number : ℕ) (old new : List ℕ) → IsAdded number old new → (n : ℕ) → Contains old n → Contains new n
stays number old new (inl same) n in' = subst (λ l. Contains l n) (sym same.1) in'
stays number old new (inr more) n in' = subst (λ l. Contains l n) (sym more.1) (Contains-append_left old (number ∷ []) n in')

pub is_added : (number : ℕ) (old new : List ℕ) → IsAdded number old new → Contains new number
is_added number old new (inl same) = subst (λ l. Contains l number) (sym same.1) same.0
is_added number old new (inr more) = subst (λ l. Contains l number) (sym more.1) (Contains-append_right old (number ∷ []) number (0, omega arith, refl))

module _ (pairs : PairSet) (numbers : List ℕ) where
  -- the ends, and numbers that are pairs with one another: those so far are among them
  pub record Placing (done paired ends : List ℕ) : Type 0 where
    pub each : (n : ℕ) → Contains ends n → Contains numbers n × LacksOne pairs numbers n
    pub known : AreKnown pairs numbers paired
    pub either : (n : ℕ) → Contains done n → Contains paired n ⊎ Contains ends n

  pub placing_begins : (paired ends : List ℕ) → AreKnown pairs numbers paired → ends ≡ [] → Placing [] paired ends
  placing_begins paired ends known no_ends = record {
    each = λ n in'. absurd (not_in_none n (subst (λ l. Contains l n) no_ends in'));
    known = known;
    either = λ n in'. absurd (not_in_none n in');
  } where
    not_in_none : (n : ℕ) → Contains [] n → ⊥
    not_in_none n in' = omega (arith, in'.1)

  module _ (done zs : List ℕ) (number : ℕ) (is : zs ≡ done ++ number ∷ []) (of : Contains numbers number) where
    cases : (n : ℕ) → Contains zs n → Contains done n ⊎ (n ≡ number)
    cases n in' = elim (Contains-append_cases done (number ∷ []) n (subst (λ l. Contains l n) is in')) [
      | inl was ↦ inl was
      | inr here ↦ inr (in_one number n here)
    ]

    pub placing_more : (paired ends new_paired new_ends : List ℕ) → Placing done paired ends → IsPlaced pairs number paired ends new_paired new_ends → Placing zs new_paired new_ends
    placing_more paired ends new_paired new_ends before (was_paired there same same_ends) = record {
      each = λ n in'. before.each n (subst (λ l. Contains l n) same_ends in');
      known = subst (AreKnown pairs numbers) (sym same) before.known;
      either = λ n in'. elim (cases n in') [
        | inl was ↦ elim (before.either n was) [
          | inl first ↦ inl (subst (λ l. Contains l n) (sym same) first)
          | inr second ↦ inr (subst (λ l. Contains l n) (sym same_ends) second)
        ]
        | inr here ↦ inl (subst (λ l. Contains l n) (sym same) (subst (Contains paired) (sym here) there))
      ];
    }
    placing_more paired ends new_paired new_ends before (is_paired own each add same) = record {
      each = λ n in'. before.each n (subst (λ l. Contains l n) same in');
      known = record {
        among = λ n in'. elim (after_adding number paired new_paired add n in') [
          | inl was ↦ before.known.among n was
          | inr here ↦ subst (Contains numbers) (sym here) of
        ];
        paired = λ n m in_n in_m. elim (after_adding number paired new_paired add n in_n) [
          | inl n_was ↦ elim (after_adding number paired new_paired add m in_m) [
            | inl m_was ↦ before.known.paired n m n_was m_was
            | inr m_here ↦ inr (ap (λ k. has_pair pairs k n) m_here ∙ each n n_was)
          ]
          | inr n_here ↦ elim (after_adding number paired new_paired add m in_m) [
            | inl m_was ↦ inl (ap (λ k. has_pair pairs k m) n_here ∙ each m m_was)
            | inr m_here ↦ inl (ap (λ k. has_pair pairs k m) n_here ∙ ap (λ k. has_pair pairs number k) m_here ∙ own)
          ]
        ];
      };
      either = λ n in'. elim (cases n in') [
        | inl was ↦ elim (before.either n was) [
          | inl first ↦ inl (stays number paired new_paired add n first)
          | inr second ↦ inr (subst (λ l. Contains l n) (sym same) second)
        ]
        | inr here ↦ inl (subst (Contains new_paired) (sym here) (is_added number paired new_paired add))
      ];
    }
    placing_more paired ends new_paired new_ends before (is_end other where' lacks add same) = record {
      each = λ n in'. elim (after_adding number ends new_ends add n in') [
        | inl was ↦ before.each n was
        | inr here ↦ (subst (Contains numbers) (sym here) of, subst (LacksOne pairs numbers) (sym here) (other, found where', lacks))
      ];
      known = subst (AreKnown pairs numbers) (sym same) before.known;
      either = λ n in'. elim (cases n in') [
        | inl was ↦ elim (before.either n was) [
          | inl first ↦ inl (subst (λ l. Contains l n) (sym same) first)
          | inr second ↦ inr (stays number ends new_ends add n second)
        ]
        | inr here ↦ inr (subst (Contains new_ends) (sym here) (is_added number ends new_ends add))
      ];
    } where
      found : Contains paired other ⊎ (other ≡ number) → Contains numbers other
      found (inl there) = before.known.among other there
      found (inr here) = subst (Contains numbers) (sym here) of

  pub placed : (paired ends : List ℕ) → Placing numbers paired ends → AreEnds pairs numbers ends
  placed paired ends p = record {
    each = p.each;
    others = λ a b in_a in_b. elim (p.either a in_a) [
      | inl first ↦ elim (p.either b in_b) [
        | inl second ↦ inl (p.known.paired a b first second)
        | inr end ↦ inr (inr end)
      ]
      | inr end ↦ inr (inl end)
    ];
  }

-- one number more came to a set
pub numbers_more : (first old new : BitSet) (done zs : List ℕ) (number : ℕ) → zs ≡ done ++ number ∷ [] → ((n : ℕ) → (has new n ≡ true) ↔ ((has old n ≡ true) ⊎ (n ≡ number))) →
    ((n : ℕ) → (has old n ≡ true) ↔ ((has first n ≡ true) ⊎ Contains done n)) → (n : ℕ) → (has new n ≡ true) ↔ ((has first n ≡ true) ⊎ Contains zs n)
numbers_more first old new done zs number is adds before n = (
  λ has. elim ((adds n).0 has) [
    | inl was ↦ elim ((before n).0 was) [
      | inl begun ↦ inl begun
      | inr there ↦ inr (subst (λ l. Contains l n) (sym is) (Contains-append_left done (number ∷ []) n there))
    ]
    | inr here ↦ inr (subst (λ l. Contains l n) (sym is) (subst (Contains (done ++ number ∷ [])) (sym here) (Contains-append_right done (number ∷ []) number (0, omega arith, refl))))
  ],
  λ has. (adds n).1 (elim has [
    | inl begun ↦ inl ((before n).1 (inl begun))
    | inr there ↦ elim (Contains-append_cases done (number ∷ []) n (subst (λ l. Contains l n) is there)) [
      | inl was ↦ inl ((before n).1 (inr was))
      | inr here ↦ inr (in_one number n here)
    ]
  ]),
)

-- what is in a row where one was put in the place of another
at_same : (rows : List BitSet) (i : ℕ) (row : BitSet) → i < length rows → slice_get (set rows i row) i ≡ Some row
at_same [] i row within = absurd (omega (arith, within))
at_same (r ∷ rows) zero row within = refl
at_same (r ∷ rows) (suc i) row within = at_same rows i row (omega (arith, within))

at_other : (rows : List BitSet) (i j : ℕ) (row : BitSet) → j ≢ i → slice_get (set rows i row) j ≡ slice_get rows j
at_other [] i j row apart = refl
at_other (r ∷ rows) zero zero row apart = absurd (apart refl)
at_other (r ∷ rows) zero (suc j) row apart = refl
at_other (r ∷ rows) (suc i) zero row apart = refl
at_other (r ∷ rows) (suc i) (suc j) row apart = at_other rows i j row (λ e. apart (ap (λ n. suc n) e))

-- the pairs of rows
abbrev pub pair_in : List BitSet → ℕ → ℕ → Bool
pair_in rows a b = has_in (slice_get rows a) b

-- what is in the row that was read
pub row_has : (rows : List BitSet) (n : ℕ) (row : BitSet) → n < length rows → row ≡ get_or rows n row → slice_get rows n ≡ Some row
row_has rows n row within read = slice_get_read rows (length rows) n row refl within read

-- what follows where a call answers
pub where_ok : {T E : Type 0} {P Q : Type 0} (r : Result T E) → (P → Q) → OnOk r P → OnOk r Q
where_ok (Ok v) follows p = follows p
where_ok (Err e) follows p = tt

-- one row more has all numbers
pub rows_more : (first rows : List BitSet) (row made : BitSet) (all done zs : List ℕ) (number : ℕ) → zs ≡ done ++ number ∷ [] → slice_get rows number ≡ Some row →
    ((n : ℕ) → (has made n ≡ true) ↔ ((has row n ≡ true) ⊎ Contains all n)) →
    ((a b : ℕ) → (pair_in rows a b ≡ true) ↔ ((pair_in first a b ≡ true) ⊎ (Contains done a × Contains all b))) →
    (a b : ℕ) → (pair_in (set rows number made) a b ≡ true) ↔ ((pair_in first a b ≡ true) ⊎ (Contains zs a × Contains all b))
rows_more first rows row made all done zs number is at adds before a b = (there, back) where
  new : List BitSet
  new = set rows number made

  here : pair_in new number b ≡ has made b
  here = ap (λ o. has_in o b) (at_same rows number made (slice_get_within rows number row at))

  was : pair_in rows number b ≡ has row b
  was = ap (λ o. has_in o b) at

  apart : a ≢ number → pair_in new a b ≡ pair_in rows a b
  apart other = ap (λ o. has_in o b) (at_other rows number a made other)

  earlier : Contains done a → Contains zs a
  earlier in' = subst (λ l. Contains l a) (sym is) (Contains-append_left done (number ∷ []) a in')

  last : a ≡ number → Contains zs a
  last same = subst (λ l. Contains l a) (sym is) (subst (Contains (done ++ number ∷ [])) (sym same) (Contains-append_right done (number ∷ []) number (0, omega arith, refl)))

  kept : pair_in rows a b ≡ true → (pair_in first a b ≡ true) ⊎ (Contains zs a × Contains all b)
  kept has = elim ((before a b).0 has) [
    | inl old ↦ inl old
    | inr both ↦ inr (earlier both.0, both.1)
  ]

  there : pair_in new a b ≡ true → (pair_in first a b ≡ true) ⊎ (Contains zs a × Contains all b)
  there is_in = elim (cases_eq a number) [
    | inl same ↦ elim ((adds b).0 (sym here ∙ ap (λ k. pair_in new k b) (sym same) ∙ is_in)) [
      | inl in_row ↦ kept (ap (λ k. pair_in rows k b) same ∙ was ∙ in_row)
      | inr member ↦ inr (last same, member)
    ]
    | inr other ↦ kept (sym (apart other) ∙ is_in)
  ]

  stay : pair_in rows a b ≡ true → pair_in new a b ≡ true
  stay is_in = elim (cases_eq a number) [
    | inl same ↦ ap (λ k. pair_in new k b) same ∙ here ∙ (adds b).1 (inl (sym was ∙ ap (λ k. pair_in rows k b) (sym same) ∙ is_in))
    | inr other ↦ apart other ∙ is_in
  ]

  back : (pair_in first a b ≡ true) ⊎ (Contains zs a × Contains all b) → pair_in new a b ≡ true
  back (inl old) = stay ((before a b).1 (inl old))
  back (inr both) = elim (Contains-append_cases done (number ∷ []) a (subst (λ l. Contains l a) is both.0)) [
    | inl in' ↦ stay ((before a b).1 (inr (in', both.1)))
    | inr one ↦ ap (λ k. pair_in new k b) (in_one number a one) ∙ here ∙ (adds b).1 (inr both.1)
  ]

-- one row more has some of the numbers
pub rows_some_more : (old new : PairSet) (rows : List BitSet) (row made : BitSet) (firsts all done : List ℕ) (number : ℕ) → slice_get rows number ≡ Some row → HasSomeMore row made all →
    new.rows.items ≡ set rows number made → Contains firsts number → ((n : ℕ) → Contains done n → Contains firsts n) →
    ((a b : ℕ) → (pair_in rows a b ≡ true) ↔ ((has_pair old a b ≡ true) ⊎ (Contains done a × Contains all b))) → HasSomeOf old new firsts all
rows_some_more old new rows row made firsts all done number at some is in_firsts earlier before = record {
  kept = λ a b has. in_new a b ∙ stay a b (cases_eq a number) ((before a b).1 (inl has));
  added = λ a b has. there a b (cases_eq a number) (sym (in_new a b) ∙ has);
} where
  in_new : (a b : ℕ) → has_pair new a b ≡ pair_in (set rows number made) a b
  in_new a b = ap (λ l. pair_in l a b) is

  here : (b : ℕ) → pair_in (set rows number made) number b ≡ has made b
  here b = ap (λ o. has_in o b) (at_same rows number made (slice_get_within rows number row at))

  was : (b : ℕ) → pair_in rows number b ≡ has row b
  was b = ap (λ o. has_in o b) at

  apart : (a b : ℕ) → a ≢ number → pair_in (set rows number made) a b ≡ pair_in rows a b
  apart a b other = ap (λ o. has_in o b) (at_other rows number a made other)

  stay : (a b : ℕ) → (a ≡ number) ⊎ (a ≢ number) → pair_in rows a b ≡ true → pair_in (set rows number made) a b ≡ true
  stay a b (inl same) has = ap (λ k. pair_in (set rows number made) k b) same ∙ here b ∙ some.kept b (sym (was b) ∙ ap (λ k. pair_in rows k b) (sym same) ∙ has)
  stay a b (inr other) has = apart a b other ∙ has

  old_or : (a b : ℕ) → pair_in rows a b ≡ true → (has_pair old a b ≡ true) ⊎ (Contains firsts a × Contains all b)
  old_or a b has = elim ((before a b).0 has) [
    | inl first ↦ inl first
    | inr both ↦ inr (earlier a both.0, both.1)
  ]

  there : (a b : ℕ) → (a ≡ number) ⊎ (a ≢ number) → pair_in (set rows number made) a b ≡ true → (has_pair old a b ≡ true) ⊎ (Contains firsts a × Contains all b)
  there a b (inl same) has = elim (some.added b (sym (here b) ∙ ap (λ k. pair_in (set rows number made) k b) (sym same) ∙ has)) [
    | inl in_row ↦ old_or a b (ap (λ k. pair_in rows k b) same ∙ was b ∙ in_row)
    | inr member ↦ inr (subst (Contains firsts) (sym same) in_firsts, member)
  ]
  there a b (inr other) has = old_or a b (sym (apart a b other) ∙ has)

-- the first numbers of a list are in it
pub first_of : (xs : List ℕ) (i x : ℕ) → Contains (take i xs) x → Contains xs x
first_of xs i x in' = All-contains (Contains xs) (take i xs) x (All-take (Contains xs) i xs (All-contains_itself xs)) in'

-- the cliques stay cliques in a set that has more pairs
pub more_kept : (old new : PairSet) → ((a b : ℕ) → has_pair old a b ≡ true → has_pair new a b ≡ true) → new.cliques.sets.items ≡ old.cliques.sets.items → KeepsCliques old → KeepsCliques new
more_kept old new kept same cliques =
    subst (All (IsClique new)) (sym same)
    (All-weaker (IsClique old) (IsClique new) (λ clique each a b in_a in_b. elim (each a b in_a in_b) [
      | inl one ↦ inl (kept a b one)
      | inr other ↦ inr (kept b a other)
    ]) old.cliques.sets.items cliques)

-- pairs of an end and any number were added, and those of any number and an end
pub both_added : {T E : Type 0} (r : Result T E) (old mid new : PairSet) (numbers ends : List ℕ) →
    ((a b : ℕ) → (has_pair mid a b ≡ true) ↔ ((has_pair old a b ≡ true) ⊎ (Contains ends a × Contains numbers b))) →
    OnOk r ((a b : ℕ) → (has_pair new a b ≡ true) ↔ ((has_pair mid a b ≡ true) ⊎ (Contains numbers a × Contains ends b))) →
    OnOk r ((a b : ℕ) → (has_pair new a b ≡ true) ↔ ((has_pair old a b ≡ true) ⊎ HaveEnd numbers ends a b))
both_added (Err e) old mid new numbers ends first second = tt
both_added (Ok v) old mid new numbers ends first second = λ a b. (
  λ has. elim ((second a b).0 has) [
    | inl in_mid ↦ elim ((first a b).0 in_mid) [
      | inl was ↦ inl was
      | inr end ↦ inr (inl end)
    ]
    | inr end ↦ inr (inr end)
  ],
  λ has. elim has [
    | inl was ↦ (second a b).1 (inl ((first a b).1 (inl was)))
    | inr end ↦ elim end [
      | inl one ↦ (second a b).1 (inl ((first a b).1 (inr one)))
      | inr other ↦ (second a b).1 (inr other)
    ]
  ],
)

-- some of the first kind were added, or all of them and some of the second
pub first_refused : (old new : PairSet) (numbers ends : List ℕ) → HasSomeOf old new ends numbers → HasSomeJoined old new numbers ends
first_refused old new numbers ends some = record {
  kept = some.kept;
  added = λ a b has. elim (some.added a b has) [
    | inl was ↦ inl was
    | inr end ↦ inr (inl end)
  ];
}

pub second_refused : {T E : Type 0} (r : Result T E) (old mid new : PairSet) (numbers ends : List ℕ) →
    ((a b : ℕ) → (has_pair mid a b ≡ true) ↔ ((has_pair old a b ≡ true) ⊎ (Contains ends a × Contains numbers b))) →
    OnErr r (HasSomeOf mid new numbers ends) → OnErr r (HasSomeJoined old new numbers ends)
second_refused (Ok v) old mid new numbers ends first second = tt
second_refused (Err e) old mid new numbers ends first second = record {
  kept = λ a b has. second.kept a b ((first a b).1 (inl has));
  added = λ a b has. elim (second.added a b has) [
    | inl in_mid ↦ elim ((first a b).0 in_mid) [
      | inl was ↦ inl was
      | inr end ↦ inr (inl end)
    ]
    | inr end ↦ inr (inr end)
  ];
}

-- all were added, so some of them
pub all_are_some : (old new : PairSet) (numbers ends : List ℕ) → ((a b : ℕ) → (has_pair new a b ≡ true) ↔ ((has_pair old a b ≡ true) ⊎ HaveEnd numbers ends a b)) → HasSomeJoined old new numbers ends
all_are_some old new numbers ends added = record {
  kept = λ a b has. (added a b).1 (inl has);
  added = λ a b has. (added a b).0 has;
}

-- the numbers that were joined are a clique
pub joined_clique : (old new : PairSet) (numbers : DistinctNumbers) (ends : List ℕ) → AreExact numbers → AreEnds old (numbers_of numbers) ends →
    ((a b : ℕ) → (has_pair new a b ≡ true) ↔ ((has_pair old a b ≡ true) ⊎ HaveEnd (numbers_of numbers) ends a b)) → IsClique new numbers.members
joined_clique old new numbers ends exact are_ends added a b in_a in_b =
    let a_there = (exact.members a).0 in_a in
    let b_there = (exact.members b).0 in_b in
    elim (are_ends.others a b a_there b_there) [
      | inl paired ↦ elim paired [
        | inl one ↦ inl ((added a b).1 (inl one))
        | inr other ↦ inr ((added b a).1 (inl other))
      ]
      | inr end ↦ elim end [
        | inl first ↦ inl ((added a b).1 (inr (inl (first, b_there))))
        | inr second ↦ inl ((added a b).1 (inr (inr (a_there, second))))
      ]
    ]

-- the cliques are still kept if one of them came to them, or none
pub clique_added : (pairs : PairSet) (old new : List BitSet) (clique : BitSet) → All (IsClique pairs) old → IsClique pairs clique → (new ≡ old) ⊎ (new ≡ old ++ clique ∷ []) → All (IsClique pairs) new
clique_added pairs old new clique kept is (inl same) = subst (All (IsClique pairs)) (sym same) kept
clique_added pairs old new clique kept is (inr more) = subst (All (IsClique pairs)) (sym more) (All-push (IsClique pairs) old clique kept is)

pub cliques_after : {T E : Type 0} (r : Result T E) (pairs : PairSet) (old new : List BitSet) (clique : BitSet) → All (IsClique pairs) old → IsClique pairs clique →
    OnOk r ((new ≡ old) ⊎ (new ≡ old ++ clique ∷ [])) → OnErr r (new ≡ old) → All (IsClique pairs) new
cliques_after (Ok v) pairs old new clique kept is added refused = clique_added pairs old new clique kept is added
cliques_after (Err e) pairs old new clique kept is added refused = subst (All (IsClique pairs)) (sym refused) kept

-- the ends are among the numbers, so below what those are below
pub ends_within : (pairs : PairSet) (numbers ends : List ℕ) (count : ℕ) → AreEnds pairs numbers ends → All (λ n. n < count) numbers → All (λ n. n < count) ends
ends_within pairs numbers ends count are_ends within =
    All-from_get_or (λ n. n < count) ends 0 (λ i below. All-contains (λ n. n < count) numbers (get_or ends i 0) within (are_ends.each (get_or ends i 0) (i, below, in_place ends i (get_or ends i 0) 0 below)).0)

-- what holds at all holds after an error
pub on_err : {T E P : Type 0} (r : Result T E) → P → OnErr r P
on_err (Ok v) p = tt
on_err (Err e) p = p

-- a number was taken away again, and the set has the numbers that it had
pub exact_again : (old new : DistinctNumbers) → AreExact old → numbers_of new ≡ numbers_of old → ((n : ℕ) → has new.members n ≡ has old.members n) → AreExact new
exact_again old new exact numbers members = record {
  distinct = λ i j n at_i at_j. exact.distinct i j n (subst (λ l. slice_get l i ≡ Some n) numbers at_i) (subst (λ l. slice_get l j ≡ Some n) numbers at_j);
  members = λ n. (
    λ is. subst (λ l. Contains l n) (sym numbers) ((exact.members n).0 (sym (members n) ∙ is)),
    λ in'. members n ∙ (exact.members n).1 (subst (λ l. Contains l n) numbers in'),
  );
}

-- the last number is gone again
pub popped : (old mid new : List ℕ) (n count : ℕ) → mid ≡ old ++ n ∷ [] → new ≡ take count mid → count ≡ length old → new ≡ old
popped old mid new n count is rest long =
    rest ∙ ap (take count) is ∙ ap (λ k. take k (old ++ n ∷ [])) long ∙ take-append-le (length old) old (n ∷ []) (omega arith) ∙ take_all (length old) old (omega arith)

-- a number of a list that is in a set came to those so far
pub those_more : (numbers : List ℕ) (set : BitSet) (old new : List ℕ) (number : ℕ) → IsAdded number old new → Contains numbers number → has set number ≡ true →
    ((n : ℕ) → Contains old n → Contains numbers n × (has set n ≡ true)) → (n : ℕ) → Contains new n → Contains numbers n × (has set n ≡ true)
those_more numbers set old new number add of is before n in' = elim (after_adding number old new add n in') [
  | inl was ↦ before n was
  | inr here ↦ (subst (Contains numbers) (sym here) of, ap (has set) here ∙ is)
]

-- the set of a list's numbers has a word for each of them
pub have_words : (x : DistinctNumbers) → AreExact x → All (λ n. n / 64 < words_of x.members) (numbers_of x)
have_words x exact =
    All-from_get_or (λ n. n / 64 < words_of x.members) (numbers_of x) 0 (λ i below.
    let n = get_or (numbers_of x) i 0 in
    omega (arith, bit_within x.members.words.items n ((exact.members n).1 (i, below, in_place (numbers_of x) i n 0 below)), x.members.words.ok.0))

-- numbers of a clique are known to be pairs
pub known_in : (pairs : PairSet) (clique : BitSet) (numbers those : List ℕ) → IsClique pairs clique → ((n : ℕ) → Contains those n → Contains numbers n × (has clique n ≡ true)) → AreKnown pairs numbers those
known_in pairs clique numbers those is each = record {
  among = λ n in'. (each n in').0;
  paired = λ a b in_a in_b. is a b (each a in_a).1 (each b in_b).1;
}

pub if_ok : {T E : Type 0} {P Q : T → Type 0} (r : Result T E) → ((v : T) → P v → Q v) → IfOk r P → IfOk r Q
if_ok (Ok v) follows p = follows v p
if_ok (Err e) follows p = p
