-- Fields that were compared, and the lists of the sets below them.
use Rattle.std.proofs.Common.{◌≡◌, ℕ, Bool, true, false, cond, List, [], ◌∷◌, ◌++◌, refl, sym, ap, ◌∙◌, subst, All, Contains, inl, inr}
use Rattle.std.specs.Prelude.{◌⊎◌, filter, Option, None, Some, Result, Ok, Err, IfOk, MatchOption}
use Rattle.std.proofs.lemmas.List.Elements.{All-contains, Contains-append_cases, Contains-append_left, Contains-append_right}
use Rattle.graphql_documents.proofs.ListLemmas.{kept_by_filter, none_stands, only_one, stands_behind, stands_first}
use Rattle.graphql_documents.specs.declared.documents.schemas.Schema.{Schema}
use Rattle.graphql_laws.proofs.FirstOfGroupLaws.{one_field_back, one_field_then}
use Rattle.graphql_laws.proofs.MergingLaws.{same_shape_back, same_shape_then}
use Rattle.graphql_nodes.proofs.NameLemmas.{same_name_back, same_name_then}
use Rattle.graphql_nodes.specs.Names.{SameName}
use Rattle.graphql_specification.specs.MergedSets.{Agree, ArePutTogether, key_of}
use Rattle.graphql_specification.specs.Merging.{FieldSelection, Pass, ParentsMayOverlap, SameKey, field_pass, shape_pass, type_of}
use Rattle.graphql_pair_merging.specs.FieldGroups.{IsGroupOf, has_name, name_by}
use Rattle.graphql_pair_merging.specs.NumberedSets.{field_of}
use Rattle.graphql_pair_merging.specs.Pairs.{AllAgree, AreBelow, AreFieldsAround, AreListed, AreSetsBelow, AreTogether, Both, DecidesAlone, DisagreeAmong, Finds, FindsIn, HaveOneKey, IsBelow, LooksAt, Settles, SetPair, pair_of}
use Rattle.graphql_pair_merging.specs.declared.disagreements.Conflict.{Conflict}
use Rattle.graphql_pair_merging.specs.declared.field_groups.GroupedBy.TheVariants.{ParentType, ResponseKey}
use Rattle.graphql_pair_merging.specs.declared.field_groups.GroupedBy.{GroupedBy}
use Rattle.graphql_pair_merging.specs.declared.numbered_sets.NumberedField.{NumberedField}
use Rattle.graphql_pair_merging.specs.declared.numbered_sets.NumberedSet.{NumberedSet}
use Rattle.graphql_pair_merging.proofs.ParentLemmas.{parents_alike, parents_back, parents_itself}

-- what a filter keeps was there, and passes
pub in_filter : {X : Type 0} (test : X → Bool) (xs : List X) (x : X) → Contains (filter test xs) x → Contains xs x × (test x ≡ true)
in_filter test [] x there = absurd (none_stands x there)
in_filter {X} test (y ∷ ys) x there = by (test y) refl there (in_filter test ys x) where
  by : (b : Bool) → test y ≡ b → Contains (cond b (y ∷ filter test ys) (filter test ys)) x → (Contains (filter test ys) x → Contains ys x × (test x ≡ true)) → Contains (y ∷ ys) x × (test x ≡ true)
  by true is here rest = elim (Contains-append_cases (y ∷ []) (filter test ys) x here) [
    | inl first ↦ (Contains-append_left (y ∷ []) ys x first, subst (λ z. test z ≡ true) (sym (only_one y x first)) is)
    | inr later ↦ let r = rest later in (stands_behind y ys x r.0, r.1)
  ]
  by false is here rest = let r = rest here in (stands_behind y ys x r.0, r.1)

-- what two lists together have
pub in_both : {X : Type 0} (xs ys all : List X) → all ≡ xs ++ ys → (x : X) → Contains all x → Contains xs x ⊎ Contains ys x
in_both xs ys all is x in' = Contains-append_cases xs ys x (subst (λ l. Contains l x) is in')

pub in_first : {X : Type 0} (xs ys all : List X) → all ≡ xs ++ ys → (x : X) → Contains xs x → Contains all x
in_first xs ys all is x in' = subst (λ l. Contains l x) (sym is) (Contains-append_left xs ys x in')

pub in_second : {X : Type 0} (xs ys all : List X) → all ≡ xs ++ ys → (x : X) → Contains ys x → Contains all x
in_second xs ys all is x in' = subst (λ l. Contains l x) (sym is) (Contains-append_right xs ys x in')

-- two in a list that is still there
pub still_listed : (old new : List (List ℕ)) → ((l : List ℕ) → Contains old l → Contains new l) → (a b : ℕ) → AreListed old a b → AreListed new a b
still_listed old new kept a b listed = (listed.0, kept listed.0 listed.1, listed.2, listed.3)

put_under_one_key : (schema : Schema) (pass : Pass) (x y : FieldSelection) → ArePutTogether schema pass x y → SameKey x y
put_under_one_key schema shape_pass x y put = put
put_under_one_key schema field_pass x y put = put.0

-- two that are put together, and agree, in the other order
put_back : (schema : Schema) (pass : Pass) (x y : FieldSelection) → ArePutTogether schema pass x y → ArePutTogether schema pass y x
put_back schema shape_pass x y put = same_name_back (key_of x) (key_of y) put
put_back schema field_pass x y put = (same_name_back (key_of x) (key_of y) put.0, parents_back schema x y put.1)

agree_back : (schema : Schema) (pass : Pass) (x y : FieldSelection) → Agree schema pass x y → Agree schema pass y x
agree_back schema shape_pass x y agree = same_shape_back schema (type_of x) (type_of y) agree
agree_back schema field_pass x y agree = one_field_back x y agree

module _ (schema : Schema) (pass : Pass) where
  pub one_key : (x y : FieldSelection) → ArePutTogether schema pass x y → SameKey x y
  one_key x y put = put_under_one_key schema pass x y put

  below_back : (x y : NumberedField) (p : SetPair) → IsBelow schema pass x y p → IsBelow schema pass y x (pair_of p.second p.first)
  below_back x y p below = record {
    put = put_back schema pass (field_of x) (field_of y) below.put;
    first_selects = below.second_selects;
    second_selects = below.first_selects;
    is = ap (λ (q : SetPair). pair_of q.second q.first) below.is;
  }

  module _ (fields : List NumberedField) where
    -- nothing was to be compared
    pub settles_nothing : (P : NumberedField → NumberedField → Type 0) (known : List (List ℕ)) →
        ((x y : NumberedField) → P x y → ¬ ArePutTogether schema pass (field_of x) (field_of y)) → Settles schema pass fields P known known
    settles_nothing P known none = record {
      kept = λ l in'. in';
      added = λ l in'. inl in';
      agree = λ x y belong put. absurd (none x y belong put);
      below = λ x y belong p below. absurd (none x y belong below.put);
    }

    -- one call after another
    pub settles_then : (P Q : NumberedField → NumberedField → Type 0) (a b c : List (List ℕ)) → Settles schema pass fields P a b → Settles schema pass fields Q b c →
        Settles schema pass fields (λ x y. P x y ⊎ Q x y) a c
    settles_then P Q a b c first second = record {
      kept = λ l in'. second.kept l (first.kept l in');
      added = λ l in'. elim (second.added l in') [
        | inl was ↦ first.added l was
        | inr new ↦ inr new
      ];
      agree = λ x y belong put. elim belong [
        | inl p ↦ first.agree x y p put
        | inr q ↦ second.agree x y q put
      ];
      below = λ x y belong p below. elim belong [
        | inl h ↦ still_listed b c second.kept p.first p.second (first.below x y h p below)
        | inr h ↦ second.below x y h p below
      ];
    }

    -- the same in other words, of fields that are put together
    pub settles_words : (P Q : NumberedField → NumberedField → Type 0) (a b : List (List ℕ)) →
        ((x y : NumberedField) → Q x y → ArePutTogether schema pass (field_of x) (field_of y) → P x y) → Settles schema pass fields P a b → Settles schema pass fields Q a b
    settles_words P Q a b words s = record {
      kept = s.kept;
      added = s.added;
      agree = λ x y q put. s.agree x y (words x y q put) put;
      below = λ x y q p below. s.below x y (words x y q below.put) p below;
    }

    -- the same in other words, of fields in either order
    pub settles_either : (P Q : NumberedField → NumberedField → Type 0) (a b : List (List ℕ)) →
        ((x y : NumberedField) → Q x y → ArePutTogether schema pass (field_of x) (field_of y) → P x y ⊎ P y x) → Settles schema pass fields P a b → Settles schema pass fields Q a b
    settles_either P Q a b words s = record {
      kept = s.kept;
      added = s.added;
      agree = λ x y q put. elim (words x y q put) [
        | inl h ↦ s.agree x y h put
        | inr h ↦ agree_back schema pass (field_of y) (field_of x) (s.agree y x h (put_back schema pass (field_of x) (field_of y) put))
      ];
      below = λ x y q p below. elim (words x y q below.put) [
        | inl h ↦ s.below x y h p below
        | inr h ↦ let listed = s.below y x h (pair_of p.second p.first) (below_back x y p below) in (listed.0, listed.1, listed.3, listed.2)
      ];
    }

    -- one call more, in other words
    pub settles_next : (P Q R : NumberedField → NumberedField → Type 0) (a b c : List (List ℕ)) → Settles schema pass fields P a b → Settles schema pass fields Q b c →
        ((x y : NumberedField) → R x y → ArePutTogether schema pass (field_of x) (field_of y) → P x y ⊎ Q x y) → Settles schema pass fields R a c
    settles_next P Q R a b c first second words = settles_words (λ x y. P x y ⊎ Q x y) R a c words (settles_then P Q a b c first second)

    -- fields that were compared, each with each, and the list of their sets
    pub settles_all : (below : List ℕ) (old new : List (List ℕ)) → new ≡ old ++ below ∷ [] → AreTogether schema pass fields → AllAgree schema pass fields → AreSetsBelow fields below →
        Settles schema pass fields (Both fields) old new
    settles_all below old new grown together agree sets = record {
      kept = λ l in'. in_first old (below ∷ []) new grown l in';
      added = λ l in'. elim (in_both old (below ∷ []) new grown l in') [
        | inl was ↦ inl was
        | inr last ↦ inr (subst (AreBelow schema pass fields) (sym (only_one below l last)) each)
      ];
      agree = λ x y both put. agree x y both.0 both.1;
      below = λ x y both p under. (
        below,
        in_second old (below ∷ []) new grown below (stands_first below []),
        subst (λ (q : SetPair). Contains below q.first) (sym under.is) (sets.all x both.0 under.first_selects),
        subst (λ (q : SetPair). Contains below q.second) (sym under.is) (sets.all y both.1 under.second_selects),
      );
    } where
      each : AreBelow schema pass fields below
      each a b in_a in_b =
          let f = sets.each a in_a in
          let g = sets.each b in_b in (
            f.0,
            g.0,
            f.1,
            g.1,
            record {
              put = together f.0 g.0 f.1 g.1;
              first_selects = f.2;
              second_selects = g.2;
              is = ap (λ n. pair_of n b) f.3 ∙ ap (λ n. pair_of f.0.set n) g.3;
            },
          )

    -- two that do not agree, among fields of which each two are put together
    pub finds_together : (c : Conflict) → AreTogether schema pass fields → DisagreeAmong schema pass fields fields c → Finds schema pass fields fields c
    finds_together c together d = record { among = d; put = together d.x d.y d.in_first d.in_second }

  -- what is so of some fields is so among more
  pub settles_wider : (fields more : List NumberedField) (P : NumberedField → NumberedField → Type 0) (a b : List (List ℕ)) → ((x : NumberedField) → Contains fields x → Contains more x) →
      Settles schema pass fields P a b → Settles schema pass more P a b
  settles_wider fields more P a b wider s = record {
    kept = s.kept;
    added = λ l in'. elim (s.added l in') [
      | inl was ↦ inl was
      | inr below ↦ inr (λ m n in_m in_n. let u = below m n in_m in_n in (u.0, u.1, wider u.0 u.2, wider u.1 u.3, u.4))
    ];
    agree = s.agree;
    below = s.below;
  }

  pub finds_wider : (fields more : List NumberedField) (c : Conflict) → ((x : NumberedField) → Contains fields x → Contains more x) → Finds schema pass fields fields c → Finds schema pass more more c
  finds_wider fields more c wider f = record {
    among = record {
      x = f.among.x;
      y = f.among.y;
      in_first = wider f.among.x f.among.in_first;
      in_second = wider f.among.y f.among.in_second;
      first_is = f.among.first_is;
      second_is = f.among.second_is;
      disagree = f.among.disagree;
    };
    put = f.put;
  }

  pub found_wider : (xs ys us vs : List NumberedField) (c : Conflict) → ((x : NumberedField) → Contains xs x → Contains us x) → ((y : NumberedField) → Contains ys y → Contains vs y) →
      DisagreeAmong schema pass xs ys c → DisagreeAmong schema pass us vs c
  found_wider xs ys us vs c first second d = record {
    x = d.x;
    y = d.y;
    in_first = first d.x d.in_first;
    in_second = second d.y d.in_second;
    first_is = d.first_is;
    second_is = d.second_is;
    disagree = d.disagree;
  }

-- what agrees with a field that decides alone agrees with one another
agree_through : (schema : Schema) (pass : Pass) (x y z : FieldSelection) → DecidesAlone schema pass x → Agree schema pass x y → Agree schema pass x z → Agree schema pass y z
agree_through schema shape_pass x y z defined first second =
    same_shape_then schema (type_of y) (type_of x) (type_of z) defined.0 defined.1 (same_shape_back schema (type_of x) (type_of y) first) second
agree_through schema field_pass x y z defined first second = one_field_then y x z (one_field_back x y first) second

pub all_agree_with : (schema : Schema) (pass : Pass) (first : NumberedField) (fields : List NumberedField) → DecidesAlone schema pass (field_of first) →
    All (λ other. Agree schema pass (field_of first) (field_of other)) fields → AllAgree schema pass fields
all_agree_with schema pass first fields decides agree x y in_x in_y =
    let P = λ (other : NumberedField). Agree schema pass (field_of first) (field_of other) in
    agree_through schema pass (field_of first) (field_of x) (field_of y) decides (All-contains P fields x agree in_x) (All-contains P fields y agree in_y)

-- the fields of a group by parents
pub of_group : (by : GroupedBy) (fields group : List NumberedField) → IsGroupOf by fields group → (x : NumberedField) → Contains group x → Contains fields x
of_group by fields group is x in' = (in_filter (has_name by is.0) fields x (subst (λ l. Contains l x) is.1 in')).0

named_in : (by : GroupedBy) (fields group : List NumberedField) (is : IsGroupOf by fields group) → (x : NumberedField) → Contains group x → SameName (name_by by x) is.0
named_in by fields group is x in' = (in_filter (has_name by is.0) fields x (subst (λ l. Contains l x) is.1 in')).1

pub one_name : (by : GroupedBy) (fields group : List NumberedField) → IsGroupOf by fields group → (x y : NumberedField) → Contains group x → Contains group y → SameName (name_by by x) (name_by by y)
one_name by fields group is x y in_x in_y =
    same_name_then (name_by by x) is.0 (name_by by y) (named_in by fields group is x in_x) (same_name_back (name_by by y) is.0 (named_in by fields group is y in_y))

module _ (schema : Schema) (fields first second : List NumberedField) (key : HaveOneKey fields) (a : IsGroupOf ParentType fields first) (b : IsGroupOf ParentType fields second)
    (one other : NumberedField) (one_in : Contains first one) (other_in : Contains second other) where
  -- the parents of all overlap where those of two do
  parents_of : ParentsMayOverlap schema (field_of one) (field_of other) → (x y : NumberedField) → Contains first x → Contains second y → ParentsMayOverlap schema (field_of x) (field_of y)
  parents_of overlap x y in_x in_y =
      parents_alike schema (field_of one) (field_of other) (field_of x) (field_of y) (one_name ParentType fields first a x one in_x one_in) (one_name ParentType fields second b y other in_y other_in) overlap

  pub apart : ¬ ParentsMayOverlap schema (field_of one) (field_of other) → (x y : NumberedField) → Contains first x × Contains second y → ¬ ArePutTogether schema field_pass (field_of x) (field_of y)
  apart no_overlap x y both put =
      no_overlap (parents_alike schema (field_of x) (field_of y) (field_of one) (field_of other) (one_name ParentType fields first a one x one_in both.0) (one_name ParentType fields second b other y other_in both.1) put.1)

  pub together : (all : List NumberedField) → all ≡ first ++ second → ParentsMayOverlap schema (field_of one) (field_of other) → AreTogether schema field_pass all
  together all is overlap x y in_x in_y = (key x y (among x (in_both first second all is x in_x)) (among y (in_both first second all is y in_y)), by (in_both first second all is x in_x) (in_both first second all is y in_y)) where
    among : (z : NumberedField) → Contains first z ⊎ Contains second z → Contains fields z
    among z (inl h) = of_group ParentType fields first a z h
    among z (inr h) = of_group ParentType fields second b z h

    firsts : (u v : NumberedField) → Contains first u → Contains first v → ParentsMayOverlap schema (field_of u) (field_of v)
    firsts u v in_u in_v =
        parents_alike schema (field_of one) (field_of one) (field_of u) (field_of v) (one_name ParentType fields first a u one in_u one_in) (one_name ParentType fields first a v one in_v one_in)
        (parents_itself schema (field_of one) (field_of other) overlap)

    seconds : (u v : NumberedField) → Contains second u → Contains second v → ParentsMayOverlap schema (field_of u) (field_of v)
    seconds u v in_u in_v =
        parents_alike schema (field_of other) (field_of other) (field_of u) (field_of v) (one_name ParentType fields second b u other in_u other_in) (one_name ParentType fields second b v other in_v other_in)
        (parents_itself schema (field_of other) (field_of one) (parents_back schema (field_of one) (field_of other) overlap))

    by : Contains first x ⊎ Contains second x → Contains first y ⊎ Contains second y → ParentsMayOverlap schema (field_of x) (field_of y)
    by (inl u) (inl v) = firsts x y u v
    by (inl u) (inr v) = parents_of overlap x y u v
    by (inr u) (inl v) = parents_back schema (field_of y) (field_of x) (parents_of overlap y x v u)
    by (inr u) (inr v) = seconds x y u v

-- the same of the fields of one group
pub together_alone : (schema : Schema) (fields group : List NumberedField) → HaveOneKey fields → IsGroupOf ParentType fields group → (one : NumberedField) → Contains group one →
    ParentsMayOverlap schema (field_of one) (field_of one) → AreTogether schema field_pass group
together_alone schema fields group key is one there overlap x y in_x in_y =
    together schema fields group group key is is one one there there (group ++ group) refl overlap x y (Contains-append_left group group x in_x) (Contains-append_left group group y in_y)

-- fields that were compared with the first
pub first_or_found : {E : Type 0} (schema : Schema) (pass : Pass) (r : Result (Option Conflict) E) (first : NumberedField) (fields : List NumberedField) → Contains fields first →
    DecidesAlone schema pass (field_of first) →
    IfOk r (λ found. MatchOption found (All (λ other. Agree schema pass (field_of first) (field_of other)) fields) (DisagreeAmong schema pass (first ∷ []) fields)) →
    IfOk r (λ found. MatchOption found (AllAgree schema pass fields) (DisagreeAmong schema pass fields fields))
first_or_found schema pass (Err e) first fields there decides found = tt
first_or_found schema pass (Ok None) first fields there decides agree = all_agree_with schema pass first fields decides agree
first_or_found schema pass (Ok (Some c)) first fields there decides d =
    found_wider schema pass (first ∷ []) fields fields fields c (λ z in'. subst (Contains fields) (sym (only_one first z in')) there) (λ z in'. in') d

-- fields of two groups that were compared together
pub settled_two : {E : Type 0} (schema : Schema) (pass : Pass) (r : Result (Option Conflict) E) (fields all first second : List NumberedField) (old new : List (List ℕ)) → all ≡ first ++ second →
    ((x : NumberedField) → Contains all x → Contains fields x) →
    IfOk r (λ found. MatchOption found (Settles schema pass all (Both all) old new) (Finds schema pass all all)) →
    IfOk r (λ found. MatchOption found (Settles schema pass fields (λ x y. Contains first x × Contains second y) old new) (Finds schema pass fields fields))
settled_two schema pass (Err e) fields all first second old new is wider found = tt
settled_two schema pass (Ok None) fields all first second old new is wider s =
    settles_wider schema pass all fields (λ x y. Contains first x × Contains second y) old new wider
    (settles_words schema pass all (Both all) (λ x y. Contains first x × Contains second y) old new (λ x y both put. (in_first first second all is x both.0, in_second first second all is y both.1)) s)
settled_two schema pass (Ok (Some c)) fields all first second old new is wider f = finds_wider schema pass all fields c wider f

-- fields of one name that were compared
pub settled_named : {E : Type 0} (schema : Schema) (pass : Pass) (r : Result (Option Conflict) E) (fields group : List NumberedField) (P : NumberedField → NumberedField → Type 0) (old new : List (List ℕ)) →
    ((x : NumberedField) → Contains group x → Contains fields x) →
    ((x y : NumberedField) → P x y → ArePutTogether schema pass (field_of x) (field_of y) → Both group x y) →
    IfOk r (λ found. MatchOption found (Settles schema pass group (Both group) old new) (Finds schema pass group group)) →
    IfOk r (λ found. MatchOption found (Settles schema pass fields P old new) (Finds schema pass fields fields))
settled_named schema pass (Err e) fields group P old new wider words found = tt
settled_named schema pass (Ok None) fields group P old new wider words s =
    settles_wider schema pass group fields P old new wider (settles_words schema pass group (Both group) P old new words s)
settled_named schema pass (Ok (Some c)) fields group P old new wider words f = finds_wider schema pass group fields c wider f

-- the same in other words
pub settled_words : {E : Type 0} (schema : Schema) (pass : Pass) (r : Result (Option Conflict) E) (fields : List NumberedField) (P Q : NumberedField → NumberedField → Type 0) (old new : List (List ℕ)) →
    ((x y : NumberedField) → Q x y → ArePutTogether schema pass (field_of x) (field_of y) → P x y) →
    IfOk r (λ found. MatchOption found (Settles schema pass fields P old new) (Finds schema pass fields fields)) →
    IfOk r (λ found. MatchOption found (Settles schema pass fields Q old new) (Finds schema pass fields fields))
settled_words schema pass (Err e) fields P Q old new words found = tt
settled_words schema pass (Ok None) fields P Q old new words s = settles_words schema pass fields P Q old new words s
settled_words schema pass (Ok (Some c)) fields P Q old new words f = f

-- a field with the name is in the group
pub into_group : (by : GroupedBy) (fields group : List NumberedField) (is : IsGroupOf by fields group) (x : NumberedField) → Contains fields x → has_name by is.0 x ≡ true → Contains group x
into_group by fields group is x in' named = subst (λ l. Contains l x) (sym is.1) (kept_by_filter (has_name by is.0) fields x in' named)

-- two fields that are put together are both in the group of a key, if one is
pub both_in_group : (schema : Schema) (pass : Pass) (fields group : List NumberedField) (is : IsGroupOf ResponseKey fields group) (x y : NumberedField) → Both fields x y → has_name ResponseKey is.0 x ≡ true →
    ArePutTogether schema pass (field_of x) (field_of y) → Both group x y
both_in_group schema pass fields group is x y both named put = (
  into_group ResponseKey fields group is x both.0 named,
  into_group ResponseKey fields group is y both.1
      (same_name_then (name_by ResponseKey y) (name_by ResponseKey x) is.0 (same_name_back (name_by ResponseKey x) (name_by ResponseKey y) (one_key schema pass (field_of x) (field_of y) put)) named),
)

-- sets that were looked at by their fields
pub looked_or_found : {E : Type 0} (schema : Schema) (pass : Pass) (r : Result (Option Conflict) E) (sets : List NumberedSet) (ends numbers : List ℕ) (fields : List NumberedField) (old new : List (List ℕ)) →
    AreFieldsAround schema pass sets ends numbers fields → IfOk r (λ found. MatchOption found (Settles schema pass fields (Both fields) old new) (Finds schema pass fields fields)) →
    IfOk r (λ found. MatchOption found (LooksAt schema pass sets ends numbers old new) (FindsIn schema pass sets numbers))
looked_or_found schema pass (Err e) sets ends numbers fields old new are found = tt
looked_or_found schema pass (Ok None) sets ends numbers fields old new are s = (fields, are, s)
looked_or_found schema pass (Ok (Some c)) sets ends numbers fields old new are f = (fields, are.among, f)
