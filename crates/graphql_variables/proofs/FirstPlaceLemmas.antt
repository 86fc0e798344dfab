-- The first of each name, and lists of things whose names are distinct.
use Rattle.std.proofs.Common.{◌≡◌, ◌↔◌, ℕ, zero, suc, ◌+◌, ◌<◌, List, [], ◌∷◌, ◌++◌, length, get_or, map, Bool, true, false, cond, Option, Some, None, refl, sym, ◌∙◌, ap, subst, find, take, drop, Bor, Contains, AllPairs, arith}
use Rattle.std.specs.Prelude.{Result, Ok, Err, OnOk}
use Rattle.std.specs.HashMap.{get_by}
use Rattle.std.specs.Option.{option_or, option_map}
use Rattle.std.proofs.lemmas.List.Elements.{Contains-append_right}
use Rattle.graphql_documents.proofs.ListLemmas.{stands_first}
use Rattle.std.proofs.lemmas.Option.{same_Some}
use Rattle.std.proofs.lemmas.List.{get_or_append_left, get_or_push, length-append, map-append}
use Rattle.std.proofs.lemmas.List.Folds.{find-append}
use Rattle.std.proofs.lemmas.List.Quantifiers.{all_pairs_push}
use Rattle.std.specs.Str.{bytes_eq}
use Rattle.graphql_nodes.proofs.NameLemmas.{same_text}
use Rattle.graphql_nodes.specs.Names.{NameText, AreDistinct, DifferentNames, SameName, same_name}
use Rattle.graphql_nodes.specs.declared.spans.SourceSpan.{SourceSpan}
use Rattle.graphql_variables.specs.FirstPlaces.{IsNext, Remembers, known_place, place_in, places_of}
use Rattle.graphql_variables.specs.declared.first_places.FirstPlaces.{FirstPlaces}
use Rattle.graphql_variables.proofs.SplitLemmas.{split_at}

-- a first choice that is none was not taken
cond_none : {X : Type 0} (b : Bool) (x : X) (o : Option X) → cond b (Some x) o ≡ None → (b ≡ false) × (o ≡ None)
cond_none true x o e = absurd (let h : ⊥ = cc in h)
cond_none false x o e = (refl, e)

-- no element passes a test that finds none
pub find_none : {X : Type 0} (p : X → Bool) (xs : List X) (k : ℕ) (d : X) → find p xs ≡ None → k < length xs → p (get_or xs k d) ≡ false
find_none p [] k d e h = absurd (omega arith)
find_none p (x ∷ xs) zero d e h = (cond_none (p x) x (find p xs) e).0
find_none p (x ∷ xs) (suc k) d e h = find_none p xs k d (cond_none (p x) x (find p xs) e).1 (omega arith)

-- a test that no element passes finds none
none_found : {X : Type 0} (p : X → Bool) (xs : List X) → ((k : ℕ) (d : X) → k < length xs → p (get_or xs k d) ≡ false) → find p xs ≡ None
none_found p [] h = refl
none_found p (x ∷ xs) h =
    let head : p x ≡ false = h 0 x (omega arith) in
    rw head (none_found p xs (λ k d l. h (suc k) d (omega arith)))

-- a choice with nothing behind it
option_or_none : {X : Type 0} (o : Option X) → option_or o None ≡ o
option_or_none None = refl
option_or_none (Some x) = refl

-- what is put in front of nothing may as well be put behind it
pub chosen_or : {X : Type 0} (b : Bool) (x : X) (o : Option X) → (b ≡ true → o ≡ None) → cond b (Some x) o ≡ option_or o (cond b (Some x) None)
chosen_or true x o none = rw (none refl) refl
chosen_or false x o none = sym (option_or_none o)

-- what is there already needs nothing behind it
pub kept_or : {X : Type 0} (b : Bool) (x : X) (o : Option X) → (b ≡ true → ¬ (o ≡ None)) → o ≡ option_or o (cond b (Some x) None)
kept_or b x (Some y) some = refl
kept_or true x None some = absurd (some refl refl)
kept_or false x None some = refl

-- what is put behind the first of two choices may as well be put behind both
pub between_or : {X : Type 0} (a b : Option X) (t : Bool) (x : X) → (t ≡ true → option_or a b ≡ None) →
    option_or (option_or a (cond t (Some x) None)) b ≡ option_or (option_or a b) (cond t (Some x) None)
between_or (Some y) b t x none = refl
between_or None b true x none = rw (none refl) refl
between_or None b false x none = sym (option_or_none b)

pub three_or : {X : Type 0} (a b c : Option X) → option_or a (option_or b c) ≡ option_or (option_or a b) c
three_or (Some x) b c = refl
three_or None b c = refl

-- where none of two choices is taken the second is none
pub second_none : {X : Type 0} (a b : Option X) → option_or a b ≡ None → b ≡ None
second_none (Some x) b e = absurd (let h : ⊥ = cc in h)
second_none None b e = e

pub map_in_front : {X Y : Type 0} (f : X → Y) (b : Bool) (x : X) (o : Option X) → option_map f (cond b (Some x) o) ≡ cond b (Some (f x)) (option_map f o)
map_in_front f true x o = refl
map_in_front f false x o = refl

map_or : {X Y : Type 0} (f : X → Y) (o p : Option X) → option_map f (option_or o p) ≡ option_or (option_map f o) (option_map f p)
map_or f None p = refl
map_or f (Some x) p = refl

map_choice : {X Y : Type 0} (f : X → Y) (b : Bool) (x : X) → option_map f (cond b (Some x) None) ≡ cond b (Some (f x)) None
map_choice f true x = refl
map_choice f false x = refl

-- where what is found is
pub found_at : {X : Type 0} (p : X → Bool) (xs : List X) (x : X) → find p xs ≡ Some x →
    (k : ℕ) × (k < length xs) × ((d : X) → get_or xs k d ≡ x) × (p x ≡ true)
found_at p [] x e = absurd (let h : ⊥ = cc in h)
found_at {X} p (y ∷ ys) x e = by (p y) refl e (found_at p ys x) where
  by : (b : Bool) → p y ≡ b → cond b (Some y) (find p ys) ≡ Some x →
      (find p ys ≡ Some x → (k : ℕ) × (k < length ys) × ((d : X) → get_or ys k d ≡ x) × (p x ≡ true)) →
      (k : ℕ) × (k < length (y ∷ ys)) × ((d : X) → get_or (y ∷ ys) k d ≡ x) × (p x ≡ true)
  by true t e behind = (0, omega arith, λ d. same_Some y x e, subst (λ z. p z ≡ true) (same_Some y x e) t)
  by false t e behind = let rest = behind e in (suc rest.0, omega (arith, rest.1), λ d. rest.2 d, rest.3)

-- each two of a list with one more
pub pairs_more : {X : Type 0} (R : X → X → Type 0) (xs : List X) (x : X) →
    (AllPairs R xs × ((k : ℕ) (d : X) → k < length xs → R (get_or xs k d) x)) ↔ AllPairs R (xs ++ x ∷ [])
pairs_more R xs x = (
  λ p. all_pairs_push R xs x p.0 p.1,
  λ all. (
    λ i j d lt h.
        let at_i = get_or_append_left xs (x ∷ []) d i (omega arith) in
        let at_j = get_or_append_left xs (x ∷ []) d j h in
        rw (at_i, at_j) at (all i j d lt (omega (arith, length-append xs (x ∷ [])))),
    λ k d h.
        let at_k = get_or_append_left xs (x ∷ []) d k h in
        let at_end = get_or_push xs x d (length xs) refl in
        rw (at_k, at_end) at (all k (length xs) d h (omega (arith, length-append xs (x ∷ [])))),
  ),
)

-- names stay distinct exactly where the next one is new
pub distinct_more : {X : Type 0} (name_of : X → NameText) (xs : List X) (x : X) →
    (AllPairs (λ a b. DifferentNames (name_of a) (name_of b)) xs × (find (λ a. same_name (name_of a) (name_of x)) xs ≡ None)) ↔
    AllPairs (λ a b. DifferentNames (name_of a) (name_of b)) (xs ++ x ∷ [])
distinct_more {X} name_of xs x =
    let pairs = pairs_more (λ (a b : X). DifferentNames (name_of a) (name_of b)) xs x in
    let has_name = λ (a : X). same_name (name_of a) (name_of x) in (
      λ p. pairs.0 (p.0, λ k d h. find_none has_name xs k d p.1 h),
      λ all. ((pairs.1 all).0, none_found has_name xs (λ k d h. (pairs.1 all).1 k d h)),
    )

-- what is found among what a map makes
find_mapped : {X Y : Type 0} (f : X → Y) (p : Y → Bool) (xs : List X) → find p (map f xs) ≡ option_map f (find (λ x. p (f x)) xs)
find_mapped f p [] = refl
find_mapped {X} {Y} f p (x ∷ xs) = by (p (f x)) (find_mapped f p xs) where
  by : (b : Bool) → find p (map f xs) ≡ option_map f (find (λ x. p (f x)) xs) →
      cond b (Some (f x)) (find p (map f xs)) ≡ option_map f (cond b (Some x) (find (λ x. p (f x)) xs))
  by true behind = refl
  by false behind = behind

pub none_mapped : {X Y : Type 0} (f : X → Y) (o : Option X) → option_map f o ≡ None → o ≡ None
none_mapped f None e = refl
none_mapped f (Some x) e = absurd (let h : ⊥ = cc in h)

pub first_found : {X Y : Type 0} (f : X → Y) (o : Option X) (y : Y) → option_map f o ≡ Some y → (first : X) × (o ≡ Some first) × (y ≡ f first)
first_found f None y e = absurd (let h : ⊥ = cc in h)
first_found f (Some first) y e = (first, refl, sym (same_Some (f first) y e))

-- the names of a list stay distinct exactly where that of the next is new
pub distinct_names_more : {X : Type 0} (name_of : X → NameText) (xs : List X) (x : X) →
    (AreDistinct (map name_of xs) × (find (λ y. same_name (name_of y) (name_of x)) xs ≡ None)) ↔ AreDistinct (map name_of (xs ++ x ∷ []))
distinct_names_more {X} name_of xs x =
    let mapped = map-append name_of xs (x ∷ []) in
    let found = find_mapped name_of (λ n. same_name n (name_of x)) xs in
    let names = distinct_more (λ n. n) (map name_of xs) (name_of x) in (
      λ p. subst AreDistinct (sym mapped) (names.0 (p.0, found ∙ ap (option_map name_of) p.1)),
      λ all.
          let parts = names.1 (subst AreDistinct mapped all) in
          (parts.0, none_mapped name_of (find (λ (y : X). same_name (name_of y) (name_of x)) xs) (sym found ∙ parts.1)),
    )

twice_mapped : {X Y Z : Type 0} (f : X → Y) (g : Y → Z) (o : Option X) → option_map g (option_map f o) ≡ option_map (λ x. g (f x)) o
twice_mapped f g None = refl
twice_mapped f g (Some x) = refl

-- the location of the first, where the names are those of a list
pub place_of_first : {X : Type 0} (visited : X → NameText × Option SourceSpan) (xs : List X) (name : NameText) →
    place_in (map visited xs) name ≡ option_map (λ x. (visited x).1) (find (λ x. same_name (visited x).0 name) xs)
place_of_first {X} visited xs name =
    ap (option_map (λ (m : NameText × Option SourceSpan). m.1)) (find_mapped visited (λ m. same_name m.0 name) xs) ∙
    twice_mapped visited (λ m. m.1) (find (λ (x : X). same_name (visited x).0 name) xs)

pub place_more : (visited : List (NameText × Option SourceSpan)) (m : NameText × Option SourceSpan) (other : NameText) →
    place_in (visited ++ m ∷ []) other ≡ option_or (place_in visited other) (cond (same_name m.0 other) (Some m.1) None)
place_more visited m other =
    let P = λ (n : NameText × Option SourceSpan). same_name n.0 other in
    ap (option_map (λ (n : NameText × Option SourceSpan). n.1)) (find-append P visited (m ∷ [])) ∙
    map_or (λ (n : NameText × Option SourceSpan). n.1) (find P visited) (find P (m ∷ [])) ∙
    ap (option_or (place_in visited other)) (map_choice (λ (n : NameText × Option SourceSpan). n.1) (same_name m.0 other) m)

-- what is known of a name is known of each other one with its text
pub same_known : (seen : FirstPlaces) (name other : NameText) → SameName name other → known_place seen name ≡ known_place seen other
same_known seen name other same =
    ap (λ (text : List ℕ). option_or
    (option_map (λ (m : NameText × Option SourceSpan). m.1) (find (λ (m : NameText × Option SourceSpan). bytes_eq m.0.text text) (places_of seen.few.items)))
    (get_by (λ (b : Bor NameText). bytes_eq text b.now.text) seen.others)) (same_text name other same)

-- one more is remembered
pub remembers_more : {seen new : FirstPlaces} {visited : List (NameText × Option SourceSpan)} (name : NameText) (location : Option SourceSpan) →
    ((other : NameText) → known_place new other ≡ option_or (known_place seen other) (cond (same_name name other) (Some location) None)) →
    Remembers seen visited → Remembers new (visited ++ (name, location) ∷ [])
remembers_more {visited} name location more r = record {
  look_up = λ other.
      more other ∙ ap (λ o. option_or o (cond (same_name name other) (Some location) None)) (r.look_up other) ∙
      sym (place_more visited (name, location) other);
}

-- the same of a list
pub remembers_next : {X : Type 0} {seen : FirstPlaces} (visited : X → NameText × Option SourceSpan) (xs : List X) (x : X) →
    Remembers seen (map visited xs ++ visited x ∷ []) → Remembers seen (map visited (xs ++ x ∷ []))
remembers_next {seen} visited xs x r = subst (Remembers seen) (sym (map-append visited xs (x ∷ []))) r

-- what is behind others is in the list
pub next_stands : {X : Type 0} {all before : List X} {x : X} → IsNext all before x → Contains all x
next_stands {all} {before} {x} next =
    subst (λ l. Contains l x) (sym next.split) (Contains-append_right before (x ∷ next.after) x (stands_first x next.after))

pub next_at : {X : Type 0} (xs : List X) (i : ℕ) (x : X) → i < length xs → x ≡ get_or xs i x → IsNext xs (take i xs) x
next_at xs i x within item = record { after = drop (i + 1) xs; split = split_at xs i x within item }

-- what holds in any case holds where a call answers
pub holds_on_ok : {T E : Type 0} (r : Result T E) (A : Type 0) → A → OnOk r A
holds_on_ok (Ok x) A a = a
holds_on_ok (Err x) A a = tt
