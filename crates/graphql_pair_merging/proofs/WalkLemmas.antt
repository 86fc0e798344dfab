-- The walk over lists of sets that come together ends, and then each pair that is reached was looked at.
use Rattle.std.proofs.Common.{◌≡◌, ℕ, zero, suc, ◌<◌, true, false, List, [], ◌∷◌, Some, arith, length, map, refl, sym, ap, ◌∙◌, subst, All, Contains, inl, inr}
use Rattle.std.specs.Prelude.{◌↔◌, ◌⊎◌, slice_get}
use Rattle.std.proofs.lemmas.List.Elements.{All-contains}
use Rattle.graphql_documents.proofs.ListLemmas.{each_standing, made_of, only_one, stands_first, stands_mapped}
use Rattle.graphql_documents.specs.declared.documents.schemas.Schema.{Schema}
use Rattle.graphql_number_sets.specs.NumberSets.{ArePaired, HaveEnd, has_pair}
use Rattle.graphql_number_sets.specs.declared.pair_sets.PairSet.{PairSet}
use Rattle.graphql_specification.specs.MergedSets.{Agree, ArePutTogether, key_of}
use Rattle.graphql_specification.specs.Merging.{FieldSelection, Pass, SameKey, field_pass, shape_pass}
use Rattle.graphql_pair_merging.specs.JoinedSets.{IsJoined, Takes, joined_first, joined_fragment}
use Rattle.graphql_pair_merging.specs.NumberedSets.{field_of}
use Rattle.graphql_pair_merging.specs.Pairs.{AreBelow, AreLinked, AreListed, Both, FindsBelow, FindsIn, HasLooked, IsLinked, IsReached, IsStart, LeadsTo, LooksAt, SetPair, WereLookedAt, pair_of, reached_first, reached_next}
use Rattle.graphql_pair_merging.specs.declared.disagreements.Conflict.{Conflict}
use Rattle.graphql_pair_merging.specs.declared.numbered_sets.NumberedField.{NumberedField}
use Rattle.graphql_pair_merging.specs.declared.numbered_sets.NumberedSet.{NumberedSet}
use Rattle.graphql_nodes.proofs.NameLemmas.{same_name_back}
use Rattle.graphql_number_sets.proofs.CountLemmas.{count_pairs, fewer_pairs}
use Rattle.graphql_pair_merging.proofs.PlaceLemmas.{stands_at}

-- fields that are put together have one key
have_one_key : (schema : Schema) (pass : Pass) (x y : FieldSelection) → ArePutTogether schema pass x y → SameKey x y
have_one_key schema shape_pass x y put = put
have_one_key schema field_pass x y put = put.0

-- both are numbers of so many sets
abbrev pub IsWithin : ℕ → SetPair → Type 0
IsWithin count p = (p.first < count) × (p.second < count)

-- there is a set at each number within
pub some_at : {X : Type 0} (xs : List X) (i : ℕ) → i < length xs → (x : X) × (slice_get xs i ≡ Some x)
some_at [] i less = absurd (omega (arith, less))
some_at (x ∷ xs) zero less = (x, refl)
some_at (x ∷ xs) (suc i) less = some_at xs i (omega (arith, less))

module _ (schema : Schema) (pass : Pass) (sets : List NumberedSet) (starts : List ℕ) where
  -- each two of a list are a pair that is reached
  abbrev pub AreReached : List ℕ → Type 0
  AreReached l = (a b : ℕ) → Contains l a → Contains l b → IsReached schema pass sets starts (pair_of a b)

  -- all to which the pair leads were looked at or wait, and its fields agree where they are put together
  pub record IsOpen (looked : PairSet) (waiting : List (List ℕ)) (p : SetPair) : Type 0 where
    pub first : NumberedSet
    pub second : NumberedSet
    pub first_is : slice_get sets p.first ≡ Some first
    pub second_is : slice_get sets p.second ≡ Some second
    pub all : (q : SetPair) → LeadsTo schema pass first second p q → (has_pair looked q.first q.second ≡ true) ⊎ AreListed waiting q.first q.second
    pub agree : (x y : NumberedField) → Contains first.fields.items x → Contains second.fields.items y →
        ArePutTogether schema pass (field_of x) (field_of y) → Agree schema pass (field_of x) (field_of y)

  -- where the walk is
  pub record Walks (looked : PairSet) (waiting : List (List ℕ)) : Type 0 where
    pub begun : (p : SetPair) → IsStart starts p → (has_pair looked p.first p.second ≡ true) ⊎ AreListed waiting p.first p.second
    pub reached : (l : List ℕ) → Contains waiting l → AreReached l
    pub closed : (p : SetPair) → has_pair looked p.first p.second ≡ true → IsOpen looked waiting p
    pub symmetric : (a b : ℕ) → has_pair looked a b ≡ true → has_pair looked b a ≡ true

  module _ (linked : AreLinked sets) (starts_within : All (λ n. n < length sets) starts) where
    linked_at : (i : ℕ) (a : NumberedSet) → slice_get sets i ≡ Some a → IsLinked (length sets) a
    linked_at i a is = All-contains (IsLinked (length sets)) sets a linked (stands_at sets i a is)

    within_next : (p q : SetPair) (a b : NumberedSet) → IsLinked (length sets) a → IsLinked (length sets) b → IsWithin (length sets) p → LeadsTo schema pass a b p q → IsWithin (length sets) q
    within_next p q a b a_linked b_linked p_in (inl (inl (n, in', is))) =
        subst (IsWithin (length sets)) (sym is) (All-contains (λ m. m < length sets) a.fragments.items n a_linked.fragments in', p_in.1)
    within_next p q a b a_linked b_linked p_in (inl (inr (n, in', is))) =
        subst (IsWithin (length sets)) (sym is) (p_in.0, All-contains (λ m. m < length sets) b.fragments.items n b_linked.fragments in')
    within_next p q a b a_linked b_linked p_in (inr (x, y, in_x, in_y, below)) =
        subst (IsWithin (length sets)) (sym below.is)
        (All-contains (λ (f : NumberedField). f.set < length sets) a.fields.items x a_linked.fields in_x, All-contains (λ (f : NumberedField). f.set < length sets) b.fields.items y b_linked.fields in_y)

    -- what is reached is a pair of the sets
    reached_within : {p : SetPair} → IsReached schema pass sets starts p → IsWithin (length sets) p
    reached_within (reached_first {p = p} (n, listed, is)) =
        let less = All-contains (λ m. m < length sets) starts n starts_within listed in
        subst (IsWithin (length sets)) (sym is) (less, less)
    reached_within (reached_next {p = p} {q = q} a b before first second leads) =
        within_next p q a b (linked_at p.first a first) (linked_at p.second b second) (reached_within before) leads

    pub list_within : (l : List ℕ) → AreReached l → All (λ n. n < length sets) l
    list_within l reached = each_standing (λ n. n < length sets) l (λ n in'. (reached_within (reached n n in' in')).0)

    pub waiting_within : (looked : PairSet) (waiting : List (List ℕ)) → Walks looked waiting → All (λ l. All (λ n. n < length sets) l) waiting
    waiting_within looked waiting walks = each_standing (λ l. All (λ n. n < length sets) l) waiting (λ l in'. list_within l (walks.reached l in'))

    pub walks_begin : (looked : PairSet) (waiting : List (List ℕ)) → ((a b : ℕ) → has_pair looked a b ≡ false) → waiting ≡ map (λ n. n ∷ []) starts → Walks looked waiting
    walks_begin looked waiting none is = record {
      begun = λ p start. inr (listed p start);
      reached = λ l in'. alone l (made_of (λ n. n ∷ []) starts l (subst (λ w. Contains w l) is in'));
      closed = λ p met. absurd (no p.first p.second met);
      symmetric = λ a b met. absurd (no a b met);
    } where
      no : (a b : ℕ) → has_pair looked a b ≡ true → ⊥
      no a b met = let e : true ≡ false = sym met ∙ none a b in let e : ⊥ = cc in e

      listed : (p : SetPair) → IsStart starts p → AreListed waiting p.first p.second
      listed p (n, in', same) = (
        n ∷ [],
        subst (λ w. Contains w (n ∷ [])) (sym is) (stands_mapped (λ m. m ∷ []) starts n in'),
        subst (λ (q : SetPair). Contains (n ∷ []) q.first) (sym same) (stands_first n []),
        subst (λ (q : SetPair). Contains (n ∷ []) q.second) (sym same) (stands_first n []),
      )

      alone : (l : List ℕ) → (n : ℕ) × Contains starts n × (n ∷ [] ≡ l) → AreReached l
      alone l (n, in', same) a b in_a in_b =
          let first : a ≡ n = only_one n a (subst (λ w. Contains w a) (sym same) in_a) in
          let second : b ≡ n = only_one n b (subst (λ w. Contains w b) (sym same) in_b) in
          reached_first (n, in', ap (λ m. pair_of m b) first ∙ ap (λ m. pair_of n m) second)

    -- sets that are joined to sets of which each two are reached are so too
    joined_with : (list : List ℕ) → AreReached list → {n : ℕ} → IsJoined sets list n → (m : ℕ) → Contains list m → IsReached schema pass sets starts (pair_of n m)
    joined_with list reached (joined_first {n = n} in') m in_m = reached n m in' in_m
    joined_with list reached (joined_fragment {n = n} {m = k} a before at there) m in_m =
        let was = joined_with list reached before m in_m in
        let b = some_at sets m (reached_within was).1 in
        reached_next a b.0 was at b.1 (inl (inl (k, there, refl)))

    joined_both : (list : List ℕ) → AreReached list → (n : ℕ) → IsJoined sets list n → {m : ℕ} → IsJoined sets list m → IsReached schema pass sets starts (pair_of n m)
    joined_both list reached n is (joined_first {n = m} in') = joined_with list reached is m in'
    joined_both list reached n is (joined_fragment {n = m} {m = k} b before at there) =
        let was = joined_both list reached n is before in
        let a = some_at sets n (reached_within was).0 in
        reached_next a.0 b was a.1 at (inl (inr (k, there, refl)))

    module _ (looked new : PairSet) (old mid after : List (List ℕ)) (joined ends : List ℕ) (takes : Takes sets looked old mid joined ends)
        (looks : LooksAt schema pass sets ends joined mid after) (adds : (a b : ℕ) → (has_pair new a b ≡ true) ↔ ((has_pair looked a b ≡ true) ⊎ HaveEnd joined ends a b))
        (walks : Walks looked old) where
      all_reached : AreReached joined
      all_reached a b in_a in_b =
          joined_both takes.list (walks.reached takes.list takes.taken) a (takes.are_joined.made a in_a) (takes.are_joined.made b in_b)

      in_joined : (a : ℕ) → Contains ends a → Contains joined a
      in_joined a in' = (takes.are_ends.each a in').0

      both_joined : (a b : ℕ) → HaveEnd joined ends a b → Contains joined a × Contains joined b
      both_joined a b (inl first) = (in_joined a first.0, first.1)
      both_joined a b (inr second) = (second.0, in_joined b second.1)

      still : (a b : ℕ) → has_pair looked a b ≡ true → has_pair new a b ≡ true
      still a b met = (adds a b).1 (inl met)

      still_paired : (a b : ℕ) → ArePaired looked a b → has_pair new a b ≡ true
      still_paired a b (inl met) = still a b met
      still_paired a b (inr back) = still a b (walks.symmetric b a back)

      -- each two of the joined sets were looked at now
      met_now : (a b : ℕ) → Contains joined a → Contains joined b → has_pair new a b ≡ true
      met_now a b in_a in_b = elim (takes.are_ends.others a b in_a in_b) [
        | inl paired ↦ still_paired a b paired
        | inr end ↦ elim end [
          | inl first ↦ (adds a b).1 (inr (inl (first, in_b)))
          | inr second ↦ (adds a b).1 (inr (inr (in_a, second)))
        ]
      ]

      -- a pair that waited was looked at, or waits
      waits_on : (a b : ℕ) → AreListed old a b → (has_pair new a b ≡ true) ⊎ AreListed after a b
      waits_on a b (l, in', in_a, in_b) = elim (takes.others l in') [
        | inl there ↦ inr (l, looks.2.kept l there, in_a, in_b)
        | inr gone ↦ elim gone [
          | inl same ↦
              inl (met_now a b (takes.are_joined.begun a (subst (λ w. Contains w a) same in_a)) (takes.are_joined.begun b (subst (λ w. Contains w b) same in_b)))
          | inr were ↦ inl (still_paired a b (were a b in_a in_b))
        ]
      ]

      either : (a b : ℕ) → (has_pair looked a b ≡ true) ⊎ AreListed old a b → (has_pair new a b ≡ true) ⊎ AreListed after a b
      either a b (inl met) = inl (still a b met)
      either a b (inr listed) = waits_on a b listed

      below_reached : (l : List ℕ) → AreBelow schema pass looks.0 l → AreReached l
      below_reached l below a b in_a in_b =
          let u = below a b in_a in_b in
          let x = looks.1.among u.0 u.2 in
          let y = looks.1.among u.1 u.3 in
          reached_next x.1 y.1 (all_reached x.0 y.0 x.2 y.2) x.3 y.3 (inr (u.0, u.1, x.4, y.4, u.4))

      -- two fields of one key in sets of which one is an end were compared
      compared : (p : SetPair) (a b : NumberedSet) → slice_get sets p.first ≡ Some a → slice_get sets p.second ≡ Some b → HaveEnd joined ends p.first p.second →
          (x y : NumberedField) → Contains a.fields.items x → Contains b.fields.items y → SameKey (field_of x) (field_of y) → Both looks.0 x y
      compared p a b at_a at_b (inl first) x y in_x in_y same = looks.1.all x y (p.first, a, first.0, at_a, in_x) (p.second, b, first.1, at_b, in_y) same
      compared p a b at_a at_b (inr second) x y in_x in_y same =
          let both = looks.1.all y x (p.second, b, second.1, at_b, in_y) (p.first, a, second.0, at_a, in_x)
          (same_name_back (key_of (field_of x)) (key_of (field_of y)) same) in
          (both.1, both.0)

      opened : (p : SetPair) → (has_pair looked p.first p.second ≡ true) ⊎ HaveEnd joined ends p.first p.second → IsOpen new after p
      opened p (inl met) =
          let o = walks.closed p met in
          record {
            first = o.first;
            second = o.second;
            first_is = o.first_is;
            second_is = o.second_is;
            all = λ q leads. either q.first q.second (o.all q leads);
            agree = o.agree;
          }
      opened p (inr end) =
          let (in_a, in_b) = both_joined p.first p.second end in
          let within = reached_within (all_reached p.first p.second in_a in_b) in
          let a = some_at sets p.first within.0 in
          let b = some_at sets p.second within.1 in
          record {
            first = a.0;
            second = b.0;
            first_is = a.1;
            second_is = b.1;
            all = leads_on p a.0 b.0 a.1 b.1 end;
            agree = λ x y in_x in_y put. looks.2.agree x y (compared p a.0 b.0 a.1 b.1 end x y in_x in_y (have_one_key schema pass (field_of x) (field_of y) put)) put;
          } where
            leads_on : (p : SetPair) (a b : NumberedSet) → slice_get sets p.first ≡ Some a → slice_get sets p.second ≡ Some b → HaveEnd joined ends p.first p.second →
                (q : SetPair) → LeadsTo schema pass a b p q → (has_pair new q.first q.second ≡ true) ⊎ AreListed after q.first q.second
            leads_on p a b at_a at_b end q (inl (inl (n, there, is))) =
                let (in_a, in_b) = both_joined p.first p.second end in
                inl (subst (λ (r : SetPair). has_pair new r.first r.second ≡ true) (sym is) (met_now n p.second (takes.are_joined.closed p.first n a in_a at_a there) in_b))
            leads_on p a b at_a at_b end q (inl (inr (n, there, is))) =
                let (in_a, in_b) = both_joined p.first p.second end in
                inl (subst (λ (r : SetPair). has_pair new r.first r.second ≡ true) (sym is) (met_now p.first n in_a (takes.are_joined.closed p.second n b in_b at_b there)))
            leads_on p a b at_a at_b end q (inr (x, y, in_x, in_y, below)) =
                inr (looks.2.below x y (compared p a b at_a at_b end x y in_x in_y (have_one_key schema pass (field_of x) (field_of y) below.put)) q below)

      -- the sets of one list more were looked at together
      pub walks_on : Walks new after
      walks_on = record {
        begun = λ p start. either p.first p.second (walks.begun p start);
        reached = λ l in'. elim (looks.2.added l in') [
          | inl there ↦ walks.reached l (takes.fewer l there)
          | inr below ↦ below_reached l below
        ];
        closed = λ p met. opened p ((adds p.first p.second).0 met);
        symmetric = λ a b met. elim ((adds a b).0 met) [
          | inl was ↦ still b a (walks.symmetric a b was)
          | inr end ↦ elim end [
            | inl first ↦ (adds b a).1 (inr (inr (first.1, first.0)))
            | inr second ↦ (adds b a).1 (inr (inl (second.1, second.0)))
          ]
        ];
      }

      -- and fewer pairs are left
      pub fewer_left : count_pairs (length sets) (length sets) (has_pair new) < count_pairs (length sets) (length sets) (has_pair looked)
      fewer_left = by ends refl where
        by : (l : List ℕ) → ends ≡ l → count_pairs (length sets) (length sets) (has_pair new) < count_pairs (length sets) (length sets) (has_pair looked)
        by [] none = absurd (takes.some none)
        by (a ∷ rest) is =
            let in' = subst (λ l. Contains l a) (sym is) (stands_first a rest) in
            let lacks = (takes.are_ends.each a in').1 in
            let in_a = in_joined a in' in
            let within = reached_within (all_reached a lacks.0 in_a lacks.1) in
            fewer_pairs (length sets) (length sets) (has_pair looked) (has_pair new) still a lacks.0 within.0 within.1 lacks.2 (met_now a lacks.0 in_a lacks.1)

    -- what was found is below the first ones
    pub found_below : (looked : PairSet) (old mid : List (List ℕ)) (joined ends : List ℕ) (c : Conflict) → Takes sets looked old mid joined ends → FindsIn schema pass sets joined c → Walks looked old →
        FindsBelow schema pass sets starts c
    found_below looked old mid joined ends c takes found walks =
        let f = found.2 in
        let x = found.1 f.among.x f.among.in_first in
        let y = found.1 f.among.y f.among.in_second in
        record {
          pair = pair_of x.0 y.0;
          first = x.1;
          second = y.1;
          reached = joined_both takes.list (walks.reached takes.list takes.taken) x.0 (takes.are_joined.made x.0 x.2) (takes.are_joined.made y.0 y.2);
          first_is = x.3;
          second_is = y.3;
          found = record {
            among = record {
              x = f.among.x;
              y = f.among.y;
              in_first = x.4;
              in_second = y.4;
              first_is = f.among.first_is;
              second_is = f.among.second_is;
              disagree = f.among.disagree;
            };
            put = f.put;
          };
        }

    -- where nothing is left that waits, all that is reached was looked at
    pub walks_end : (looked : PairSet) (waiting : List (List ℕ)) → All (WereLookedAt looked) waiting → Walks looked waiting → HasLooked schema pass sets starts
    walks_end looked waiting were walks = record {
      looked = has_pair looked;
      begun = λ p start. settled p.first p.second (walks.begun p start);
      closed = λ p met.
          let o = walks.closed p met in
          record {
            first = o.first;
            second = o.second;
            first_is = o.first_is;
            second_is = o.second_is;
            all = λ q leads. settled q.first q.second (o.all q leads);
            agree = o.agree;
          };
    } where
      settled : (a b : ℕ) → (has_pair looked a b ≡ true) ⊎ AreListed waiting a b → has_pair looked a b ≡ true
      settled a b (inl met) = met
      settled a b (inr (l, in', in_a, in_b)) = elim (All-contains (WereLookedAt looked) waiting l were in' a b in_a in_b) [
        | inl met ↦ met
        | inr back ↦ walks.symmetric b a back
      ]
