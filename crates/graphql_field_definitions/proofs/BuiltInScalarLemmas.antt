-- Built-in scalars that are recorded by one call after another.
use Rattle.std.proofs.Common.{◌≡◌, ℕ, Bool, true, false, List, [], ◌∷◌, ◌++◌, map, refl, sym, ap, subst, ◌∙◌}
use Rattle.std.specs.List.{list_any}
use Rattle.std.specs.Prelude.{◌||◌, ◌&&◌, Result, Ok, Err, OnOk, flat_map}
use Rattle.std.specs.Str.{bytes_eq}
use Rattle.std.proofs.lemmas.Bool.{and_from, both_ways, false_from_ne_true, or_left, or_right}
use Rattle.std.proofs.lemmas.Grind.{flat_map-append}
use Rattle.std.proofs.lemmas.List.{append-nil, map-append}
use Rattle.std.proofs.lemmas.List.Folds.{list_any-append}
use Rattle.std.proofs.lemmas.Slice.Eq.{bytes_eq-Decides}
use Rattle.graphql_nodes.specs.Names.{NameText}
use Rattle.graphql_specification.specs.BuiltInScalars.{is_recorded, names_built_in_scalar}
use Rattle.graphql_field_definitions.specs.BuiltInScalarUses.{Keeps, Records, holds_text}
use Rattle.graphql_field_definitions.specs.declared.built_in_scalars.BuiltInScalars.{BuiltInScalars}

nothing_more : (held built_in : Bool) → held ≡ (held || (built_in && false))
nothing_more true b = refl
nothing_more false true = refl
nothing_more false false = refl

regrouped : (held b x y : Bool) → ((held || (b && x)) || (b && y)) ≡ (held || (b && (x || y)))
regrouped true b x y = refl
regrouped false true true y = refl
regrouped false true false y = refl
regrouped false false x y = refl

turned : (x y : Bool) → (x || y) ≡ (y || x)
turned true true = refl
turned true false = refl
turned false true = refl
turned false false = refl

-- what is recorded of names, and of more
recorded_then : (xs ys : List NameText) (held : Bool) (text : List ℕ) →
    ((held || is_recorded xs text) || is_recorded ys text) ≡ (held || is_recorded (xs ++ ys) text)
recorded_then xs ys held text =
    let here = λ (name : NameText). bytes_eq name.text text in
    regrouped held (names_built_in_scalar text) (list_any here xs) (list_any here ys) ∙
    ap (λ any. held || (names_built_in_scalar text && any)) (sym (list_any-append here xs ys))

-- no name was visited
pub records_none : (scalars : BuiltInScalars) → Records scalars scalars []
records_none scalars = record { each = λ text. nothing_more (holds_text scalars text) (names_built_in_scalar text) }

-- names were recorded, and then more
pub records_then : {old mid new : BuiltInScalars} {xs ys : List NameText} → Records old mid xs → Records mid new ys → Records old new (xs ++ ys)
records_then {old} {mid} {new} {xs} {ys} a b = record {
  each = λ text.
      b.each text ∙ ap (λ held. held || is_recorded ys text) (a.each text) ∙ recorded_then xs ys (holds_text old text) text;
}

-- the order of the names is free
pub records_turned : {old new : BuiltInScalars} (xs ys : List NameText) → Records old new (xs ++ ys) → Records old new (ys ++ xs)
records_turned {old} {new} xs ys r = record {
  each = λ text.
      let here = λ (name : NameText). bytes_eq name.text text in
      r.each text ∙
      ap (λ any. holds_text old text || (names_built_in_scalar text && any))
      (list_any-append here xs ys ∙ turned (list_any here xs) (list_any here ys) ∙ sym (list_any-append here ys xs));
}

-- the same names
pub records_as : {old new : BuiltInScalars} {xs ys : List NameText} → xs ≡ ys → Records old new xs → Records old new ys
records_as {old} {new} same r = subst (Records old new) same r

-- one more behind a list
pub records_push : {X : Type 0} {old mid new : BuiltInScalars} (name_of : X → NameText) (done : List X) (x : X) →
    Records old mid (map name_of done) → Records mid new (name_of x ∷ []) → Records old new (map name_of (done ++ x ∷ []))
records_push name_of done x a b = records_as (sym (map-append name_of done (x ∷ []))) (records_then a b)

-- one more of those that were gone over, which refers to these
pub records_done : {X : Type 0} {old mid new : BuiltInScalars} (names_of : X → List NameText) (done : List X) (x : X) →
    Records old mid (flat_map names_of done) → Records mid new (names_of x) → Records old new (flat_map names_of (done ++ x ∷ []))
records_done names_of done x a b =
    records_as (sym (flat_map-append names_of done (x ∷ []) ∙ ap (λ names. flat_map names_of done ++ names) (append-nil (names_of x)))) (records_then a b)

-- the last call answers
pub records_on_ok : {T E : Type 0} (r : Result T E) (old mid new : BuiltInScalars) (xs ys : List NameText) →
    Records old mid xs → OnOk r (Records mid new ys) → OnOk r (Records old new (xs ++ ys))
records_on_ok (Ok x) old mid new xs ys a b = records_then a b
records_on_ok (Err x) old mid new xs ys a b = b

-- what is recorded stays so
pub keeps_itself : (scalars : BuiltInScalars) → Keeps scalars scalars
keeps_itself scalars = record { each = λ text held. held }

pub keeps_then : {old mid new : BuiltInScalars} → Keeps old mid → Keeps mid new → Keeps old new
keeps_then a b = record { each = λ text held. b.each text (a.each text held) }

pub keeps_by : {old new : BuiltInScalars} {names : List NameText} → Records old new names → Keeps old new
keeps_by {old} {new} {names} r = record {
  each = λ text held. r.each text ∙ or_left (holds_text old text) (is_recorded names text) held;
}

-- one name, of a built-in scalar: its own is recorded, and nothing else changes
pub records_one : (old new : BuiltInScalars) (name : NameText) (text : List ℕ) → name.text ≡ text → names_built_in_scalar text ≡ true → holds_text new text ≡ true →
    ((other : List ℕ) → bytes_eq other text ≡ false → holds_text new other ≡ holds_text old other) → Records old new (name ∷ [])
records_one old new name text named built_in here apart = record { each = by_text } where
  by_answer : (other : List ℕ) (same : Bool) → bytes_eq name.text other ≡ same →
      holds_text new other ≡ (holds_text old other || (names_built_in_scalar other && (same || false)))
  by_answer other true e =
      let is : text ≡ other = sym named ∙ (bytes_eq-Decides name.text other).0 e in
      subst (λ t. holds_text new t ≡ (holds_text old t || (names_built_in_scalar t && true))) is
      (here ∙ sym (or_right (holds_text old text) (names_built_in_scalar text && true) (and_from (names_built_in_scalar text) true built_in refl)))
  by_answer other false e =
      let differs : bytes_eq other text ≡ false =
      false_from_ne_true (bytes_eq other text) (λ same. both_ways (bytes_eq name.text other) e
      ((bytes_eq-Decides name.text other).1 (named ∙ sym ((bytes_eq-Decides other text).0 same)))) in
      apart other differs ∙ nothing_more (holds_text old other) (names_built_in_scalar other)

  by_text : (other : List ℕ) → holds_text new other ≡ (holds_text old other || is_recorded (name ∷ []) other)
  by_text other = by_answer other (bytes_eq name.text other) refl

-- one name, of no built-in scalar
pub records_no_scalar : (scalars : BuiltInScalars) (name : NameText) → names_built_in_scalar name.text ≡ false → Records scalars scalars (name ∷ [])
records_no_scalar scalars name none = record { each = by_text } where
  by_answer : (other : List ℕ) (same : Bool) → bytes_eq name.text other ≡ same →
      holds_text scalars other ≡ (holds_text scalars other || (names_built_in_scalar other && (same || false)))
  by_answer other true e =
      let not_built_in : names_built_in_scalar other ≡ false = subst (λ t. names_built_in_scalar t ≡ false) ((bytes_eq-Decides name.text other).0 e) none in
      nothing_more (holds_text scalars other) true ∙ ap (λ b. holds_text scalars other || (b && true)) (sym not_built_in)
  by_answer other false e = nothing_more (holds_text scalars other) (names_built_in_scalar other)

  by_text : (other : List ℕ) → holds_text scalars other ≡ (holds_text scalars other || is_recorded (name ∷ []) other)
  by_text other = by_answer other (bytes_eq name.text other) refl
