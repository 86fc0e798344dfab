-- Rows of marks on the places of a path, made place by place.
use Rattle.std.proofs.Common.{◌≡◌, ◌∙◌, ◌+◌, ◌-◌, ◌<◌, ◌≤◌, ◌++◌, ℕ, Bool, true, false, List, [], ◌∷◌, arith, drop, drop_of_length-le, get_or, length, take, refl, sym, ap, subst, inl, inr}
use Rattle.std.specs.Prelude.{◌↔◌, ◌⊎◌, All}
use Rattle.std.proofs.lemmas.List.{append-nil, append_assoc, drop-append-le, drop_at, get_or_append_left, length-append, length-drop, length-take-le, take-append-drop, take-take, take_all, take_at, take_more}
use Rattle.std.proofs.lemmas.List.Elements.{All-nil, All-push}
use Rattle.std.proofs.Math.Seq.{get_or-append_seam}
use Rattle.gqlvalidate_patterns.specs.Patterns.{FoldersMatch, IsIn, ManyMatch, MatchInTurn, OneMatches, slash}
use Rattle.gqlvalidate_patterns.specs.Rows.{EndsAt, IsRowBehind, Marks, between}
use Rattle.gqlvalidate_patterns.specs.declared.patterns.CharacterSet.{CharacterSet}

-- ==== what is between two places

pub between_none : (path : List ℕ) (place : ℕ) → place ≤ length path → between path place place ≡ []
between_none path place within = drop_of_length-le (take place path) (omega (arith, length-take-le place path within))

pub between_more : (path : List ℕ) (from place : ℕ) → from ≤ place → place < length path →
    between path from (place + 1) ≡ between path from place ++ get_or path place 0 ∷ []
between_more path from place before within =
    ap (drop from) (take_more path place 0 within) ∙
    drop-append-le from (take place path) (get_or path place 0 ∷ []) (omega (arith, length-take-le place path (omega arith)))

pub between_one : (path : List ℕ) (place : ℕ) → place < length path → between path place (place + 1) ≡ get_or path place 0 ∷ []
between_one path place within =
    between_more path place place (omega arith) within ∙ ap (λ front. front ++ get_or path place 0 ∷ []) (between_none path place (omega arith))

pub length_between : (path : List ℕ) (from to : ℕ) → to ≤ length path → length (between path from to) ≡ to - from
length_between path from to within = length-drop from (take to path) ∙ ap (λ n. n - from) (length-take-le to path within)

pub between_joined : (path : List ℕ) (from mid to : ℕ) → from ≤ mid → mid ≤ to → to ≤ length path →
    between path from to ≡ between path from mid ++ between path mid to
between_joined path from mid to first second within =
    ap (drop from) (sym (take-append-drop mid (take to path))) ∙
    ap (λ front. drop from (front ++ between path mid to)) (take-take mid to path second) ∙
    drop-append-le from (take mid path) (between path mid to) (omega (arith, length-take-le mid path (omega arith)))

-- ==== rows

-- the marks of a row are right at its places so far
pub record IsRowSoFar (IsMarked : ℕ → Type 0) (row : List Bool) (count : ℕ) : Type 0 where
  pub long : length row ≡ count
  pub each : (place : ℕ) → place < count → Marks row place ↔ IsMarked place

le_cases : (a b : ℕ) → a < b + 1 → (a < b) ⊎ (a ≡ b)
le_cases a b h = grind arith

pub row_more : (IsMarked : ℕ → Type 0) (row : List Bool) (count : ℕ) (mark : Bool) → IsRowSoFar IsMarked row count → (mark ≡ true) ↔ IsMarked count →
    IsRowSoFar IsMarked (row ++ mark ∷ []) (count + 1)
row_more IsMarked row count mark h here = record {
  long = length-append row (mark ∷ []) ∙ ap (λ n. n + 1) h.long;
  each = λ place within. elim (le_cases place count within) [
    | inl earlier ↦
        let same = get_or_append_left row (mark ∷ []) false place (subst (λ n. place < n) (sym h.long) earlier) in
        (λ marked. (h.each place earlier).0 (sym same ∙ marked), λ is. same ∙ (h.each place earlier).1 is)
    | inr last ↦
        let same : get_or (row ++ mark ∷ []) place false ≡ mark = ap (λ k. get_or (row ++ mark ∷ []) k false) (last ∙ sym h.long) ∙ get_or-append_seam row mark [] false in
        (λ marked. subst IsMarked (sym last) (here.0 (sym same ∙ marked)), λ is. same ∙ here.1 (subst IsMarked last is))
  ];
}

pub first_mark : (IsMarked : ℕ → Type 0) (mark : Bool) → (mark ≡ true) ↔ IsMarked 0 → IsRowSoFar IsMarked (mark ∷ []) 1
first_mark IsMarked mark here = row_more IsMarked [] 0 mark (record { long = refl; each = λ place within. absurd (omega arith) }) here

pub whole_row : (Match : List ℕ → Type 0) (path : List ℕ) (begins row : List Bool) →
    IsRowSoFar (EndsAt Match path begins) row (length path + 1) → IsRowBehind Match path begins row
whole_row Match path begins row h = record { long = h.long; each = λ place within. h.each place (omega arith) }

-- ==== one character

nothing_ends_at_first : (set : CharacterSet) (path : List ℕ) (begins : List Bool) → EndsAt (OneMatches set) path begins 0 → ⊥
nothing_ends_at_first set path begins (from, before, marked, (c, is, within)) =
    omega (arith, ap length (sym is) ∙ length_between path from 0 (omega arith))

pub first_of_one : (set : CharacterSet) (path : List ℕ) (begins : List Bool) → IsRowSoFar (EndsAt (OneMatches set) path begins) (false ∷ []) 1
first_of_one set path begins = first_mark (EndsAt (OneMatches set) path begins) false (λ marked. absurd (cc), λ h. absurd (nothing_ends_at_first set path begins h))

pub one_here : (set : CharacterSet) (path : List ℕ) (begins : List Bool) (place : ℕ) (mark : Bool) → place < length path →
    (mark ≡ true) ↔ (Marks begins place × IsIn set (get_or path place 0)) → (mark ≡ true) ↔ EndsAt (OneMatches set) path begins (place + 1)
one_here set path begins place mark within is = (
  λ marked. (place, omega arith, (is.0 marked).0, (get_or path place 0, between_one path place within, (is.0 marked).1)),
  λ (from, before, marked, (c, are, one)).
      let at : from ≡ place = omega (arith, ap length (sym are) ∙ length_between path from (place + 1) (omega arith)) in
      let same : get_or path place 0 ≡ c = ap (λ l. get_or l 0 0) (sym (between_one path place within) ∙ ap (λ k. between path k (place + 1)) (sym at) ∙ are) in
      is.1 (subst (Marks begins) at marked, subst (IsIn set) (sym same) one),
)

-- ==== any number of characters

all_but_last : {X : Type 0} (P : X → Type 0) (xs : List X) (x : X) → All P (xs ++ x ∷ []) → All P xs × P x
all_but_last P xs x all = (
  λ k d within. subst P (get_or_append_left xs (x ∷ []) d k within) (all k d (omega (arith, length-append xs (x ∷ [])))),
  subst P (get_or-append_seam xs x [] x) (all (length xs) x (omega (arith, length-append xs (x ∷ [])))),
)

-- what begins at a place ends there if nothing need be between
begins_and_ends : (Match : List ℕ → Type 0) → Match [] → (path : List ℕ) (begins : List Bool) (place : ℕ) → place ≤ length path → Marks begins place →
    EndsAt Match path begins place
begins_and_ends Match nothing path begins place within marked =
    (place, omega arith, marked, subst Match (sym (between_none path place within)) nothing)

pub many_at_first : (Match : List ℕ → Type 0) → Match [] → (path : List ℕ) (begins : List Bool) (mark : Bool) → mark ≡ get_or begins 0 false →
    (mark ≡ true) ↔ EndsAt Match path begins 0
many_at_first Match nothing path begins mark is = (
  λ marked. begins_and_ends Match nothing path begins 0 (omega arith) (sym is ∙ marked),
  λ (from, before, marked, matched). let first : from ≡ 0 = omega arith in is ∙ subst (Marks begins) first marked,
)

pub many_here : (set : CharacterSet) (path : List ℕ) (begins : List Bool) (place : ℕ) (last mark : Bool) → place < length path →
    (last ≡ true) ↔ EndsAt (ManyMatch set) path begins place →
    (mark ≡ true) ↔ (Marks begins (place + 1) ⊎ ((last ≡ true) × IsIn set (get_or path place 0))) →
    (mark ≡ true) ↔ EndsAt (ManyMatch set) path begins (place + 1)
many_here set path begins place last mark within before is = (
  λ marked. elim (is.0 marked) [
    | inl here ↦ begins_and_ends (ManyMatch set) (All-nil (IsIn set)) path begins (place + 1) (omega arith) here
    | inr further ↦
        let earlier = before.0 further.0 in (
          earlier.0,
          omega arith,
          earlier.2,
          subst (ManyMatch set) (sym (between_more path earlier.0 place earlier.1 within))
              (All-push (IsIn set) (between path earlier.0 place) (get_or path place 0) earlier.3 further.1),
        )
  ],
  λ (from, at_most, marked, matched). elim (le_cases from (place + 1) (omega arith)) [
    | inl earlier ↦
        let from_there : from ≤ place = omega arith in
        let parts = all_but_last (IsIn set) (between path from place) (get_or path place 0) (subst (ManyMatch set) (between_more path from place from_there within) matched) in
        is.1 (inr (before.1 (from, from_there, marked, parts.0), parts.1))
    | inr here ↦ is.1 (inl (subst (Marks begins) here marked))
  ],
)

-- ==== any number of folders

-- a place so far is marked
abbrev pub HasBegun : List Bool → ℕ → Type 0
HasBegun begins place = (from : ℕ) × (from ≤ place) × Marks begins from

pub begun_at_first : (begins : List Bool) (mark : Bool) → mark ≡ get_or begins 0 false → (mark ≡ true) ↔ HasBegun begins 0
begun_at_first begins mark is = (
  λ marked. (0, omega arith, sym is ∙ marked),
  λ (from, before, marked). let first : from ≡ 0 = omega arith in is ∙ subst (Marks begins) first marked,
)

pub begun_here : (begins : List Bool) (place : ℕ) (last mark : Bool) → (last ≡ true) ↔ HasBegun begins place →
    (mark ≡ true) ↔ ((last ≡ true) ⊎ Marks begins (place + 1)) → (mark ≡ true) ↔ HasBegun begins (place + 1)
begun_here begins place last mark before is = (
  λ marked. elim (is.0 marked) [
    | inl earlier ↦ let at = before.0 earlier in (at.0, omega arith, at.2)
    | inr here ↦ (place + 1, omega arith, here)
  ],
  λ (from, at_most, marked). elim (le_cases from (place + 1) (omega arith)) [
    | inl earlier ↦ is.1 (inl (before.1 (from, omega arith, marked)))
    | inr here ↦ is.1 (inr (subst (Marks begins) here marked))
  ],
)

last_of_two : (xs ys : List ℕ) (x y : ℕ) → xs ++ x ∷ [] ≡ ys ++ y ∷ [] → x ≡ y
last_of_two xs ys x y same =
    let lengths : length xs ≡ length ys = omega (arith, length-append xs (x ∷ []), length-append ys (y ∷ []), ap length same) in
    sym (get_or-append_seam xs x [] 0) ∙ ap (λ l. get_or l (length xs) 0) same ∙ ap (λ k. get_or (ys ++ y ∷ []) k 0) lengths ∙ get_or-append_seam ys y [] 0

pub folders_here : (path : List ℕ) (begins : List Bool) (place : ℕ) (begun mark : Bool) → place < length path →
    (begun ≡ true) ↔ HasBegun begins place →
    (mark ≡ true) ↔ (Marks begins (place + 1) ⊎ ((begun ≡ true) × (get_or path place 0 ≡ slash))) →
    (mark ≡ true) ↔ EndsAt FoldersMatch path begins (place + 1)
folders_here path begins place begun mark within before is = (
  λ marked. elim (is.0 marked) [
    | inl here ↦ begins_and_ends FoldersMatch (inl refl) path begins (place + 1) (omega arith) here
    | inr further ↦
        let earlier = before.0 further.0 in (
          earlier.0,
          omega arith,
          earlier.2,
          inr (between path earlier.0 place, between_more path earlier.0 place earlier.1 within ∙ ap (λ c. between path earlier.0 place ++ c ∷ []) further.1),
        )
  ],
  λ (from, at_most, marked, matched). elim (le_cases from (place + 1) (omega arith)) [
    | inl earlier ↦
        let from_there : from ≤ place = omega arith in
        elim matched [
          | inl none ↦ absurd (omega (arith, ap length (sym none) ∙ length_between path from (place + 1) (omega arith)))
          | inr some ↦ is.1 (inr (
            before.1 (from, from_there, marked),
            last_of_two (between path from place) some.0 (get_or path place 0) slash (sym (between_more path from place from_there within) ∙ some.1),
          ))
        ]
    | inr here ↦ is.1 (inl (subst (Marks begins) here marked))
  ],
)

-- ==== in turn

no_text_from : (path : List ℕ) (from place : ℕ) → from ≤ place → place ≤ length path → between path from place ≡ [] → from ≡ place
no_text_from path from place before within none = omega (arith, ap length (sym none) ∙ length_between path from place within)

pub row_of_nothing : {X : Type 0} (Match : X → List ℕ → Type 0) (path : List ℕ) (row : List Bool) → length row ≡ length path + 1 →
    IsRowBehind (MatchInTurn Match []) path row row
row_of_nothing Match path row long = record {
  long = long;
  each = λ place within. (
    λ marked. begins_and_ends (MatchInTurn Match []) refl path row place within marked,
    λ (from, before, marked, none). subst (Marks row) (no_text_from path from place before within none) marked,
  );
}

-- something is matched, and another behind it
abbrev Behind : (List ℕ → Type 0) → (List ℕ → Type 0) → List ℕ → Type 0
Behind First Then text = (first : List ℕ) × (rest : List ℕ) × (text ≡ first ++ rest) × First first × Then rest

cut_of_join : (path first rest : List ℕ) (from to : ℕ) → from ≤ to → to ≤ length path → between path from to ≡ first ++ rest →
    (between path from (from + length first) ≡ first) × (between path (from + length first) to ≡ rest)
cut_of_join path first rest from to before within is =
    let mid = from + length first in
    let lengths : length first + length rest ≡ to - from = sym (length-append first rest) ∙ ap length (sym is) ∙ length_between path from to within in
    let fits : mid ≤ to = omega arith in
    let joined : between path from mid ++ between path mid to ≡ first ++ rest = sym (between_joined path from mid to (omega arith) fits within) ∙ is in
    let long : length (between path from mid) ≡ length first = length_between path from mid (omega arith) ∙ omega arith in (
      sym (take_at (between path from mid) (between path mid to) (length first) long) ∙ ap (take (length first)) joined ∙ take_at first rest (length first) refl,
      sym (drop_at (between path from mid) (between path mid to) (length first) long) ∙ ap (drop (length first)) joined ∙ drop_at first rest (length first) refl,
    )

pub rows_in_turn : (First Then : List ℕ → Type 0) (path : List ℕ) (begins row next : List Bool) → IsRowBehind First path begins row →
    IsRowBehind Then path row next → IsRowBehind (Behind First Then) path begins next
rows_in_turn First Then path begins row next first second = record {
  long = second.long;
  each = λ place within. (
    λ marked.
        let later = (second.each place within).0 marked in
        let earlier = (first.each later.0 (omega (arith, later.1))).0 later.2 in (
          earlier.0,
          omega (arith, earlier.1, later.1),
          earlier.2,
          (
            between path earlier.0 later.0,
            between path later.0 place,
            between_joined path earlier.0 later.0 place earlier.1 later.1 within,
            earlier.3,
            later.3,
          ),
        ),
    λ (from, before, marked, (text, rest, is, here, there)).
        let cut = cut_of_join path text rest from place before within is in
        let lengths : length text + length rest ≡ place - from = sym (length-append text rest) ∙ ap length (sym is) ∙ length_between path from place within in
        let mid = from + length text in
        (second.each place within).1 (mid, omega arith, (first.each mid (omega arith)).1 (from, omega arith, marked, subst First (sym cut.0) here), subst Then (sym cut.1) there),
  );
}

pub row_for : (Match Other : List ℕ → Type 0) (path : List ℕ) (begins row : List Bool) → ((text : List ℕ) → Match text ↔ Other text) →
    IsRowBehind Match path begins row → IsRowBehind Other path begins row
row_for Match Other path begins row same h = record {
  long = h.long;
  each = λ place within. (
    λ marked. let found = (h.each place within).0 marked in (found.0, found.1, found.2, (same (between path found.0 place)).0 found.3),
    λ found. (h.each place within).1 (found.0, found.1, found.2, (same (between path found.0 place)).1 found.3),
  );
}

-- the last of what is matched in turn
pub last_in_turn : {X : Type 0} (Match : X → List ℕ → Type 0) (xs : List X) (x : X) (text : List ℕ) →
    Behind (MatchInTurn Match xs) (Match x) text ↔ MatchInTurn Match (xs ++ x ∷ []) text
last_in_turn Match [] x text = (
  λ (first, rest, is, none, last). (rest, [], is ∙ ap (λ l. l ++ rest) none ∙ sym (append-nil rest), last, refl),
  λ (first, rest, is, last, none). ([], first, is ∙ ap (λ l. first ++ l) none ∙ append-nil first, refl, last),
)
last_in_turn Match (y ∷ ys) x text = (
  λ (first, rest, is, (one, more, are, here, there), last).
      (one, more ++ rest, is ∙ ap (λ l. l ++ rest) are ∙ append_assoc one more rest, here, (last_in_turn Match ys x (more ++ rest)).0 (more, rest, refl, there, last)),
  λ (one, others, is, here, there).
      let parts = (last_in_turn Match ys x others).1 there in
      (one ++ parts.0, parts.1, is ∙ ap (λ l. one ++ l) parts.2 ∙ sym (append_assoc one parts.0 parts.1), (one, parts.0, refl, here, parts.3), parts.4),
)

pub one_more_in_turn : {X : Type 0} (Match : X → List ℕ → Type 0) (xs : List X) (index : ℕ) (x : X) (path : List ℕ) (begins row next : List Bool) → index < length xs →
    x ≡ get_or xs index x → IsRowBehind (MatchInTurn Match (take index xs)) path begins row → IsRowBehind (Match x) path row next →
    IsRowBehind (MatchInTurn Match (take (index + 1) xs)) path begins next
one_more_in_turn Match xs index x path begins row next within is first second =
    subst (λ ys. IsRowBehind (MatchInTurn Match ys) path begins next) (sym (take_more xs index x within ∙ ap (λ y. take index xs ++ y ∷ []) (sym is)))
    (row_for (Behind (MatchInTurn Match (take index xs)) (Match x)) _ path begins next (last_in_turn Match (take index xs) x)
    (rows_in_turn (MatchInTurn Match (take index xs)) (Match x) path begins row next first second))

pub all_in_turn : {X : Type 0} (Match : X → List ℕ → Type 0) (xs : List X) (index : ℕ) (path : List ℕ) (begins row : List Bool) → length xs ≤ index →
    IsRowBehind (MatchInTurn Match (take index xs)) path begins row → IsRowBehind (MatchInTurn Match xs) path begins row
all_in_turn Match xs index path begins row past = subst (λ ys. IsRowBehind (MatchInTurn Match ys) path begins row) (take_all index xs past)
