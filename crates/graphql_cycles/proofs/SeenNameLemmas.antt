-- What a search for cycles has seen, and the names of its path: a name that is marked, and goes on the
-- path.
use Rattle.std.proofs.Common.{◌≡◌, ℕ, ◌+◌, ◌<◌, ◌≤◌, ◌⊎◌, inl, inr, Bool, true, false, not, if◌then◌else◌, List, [], ◌∷◌, ◌++◌, length, get_or, map, refl, sym, ap, ◌∙◌, subst, IsTrue, IsFalse, arith, length-append}
use Rattle.std.specs.Borrow.{Bor}
use Rattle.std.proofs.lemmas.List.Elements.{All-contains_itself}
use Rattle.std.proofs.lemmas.List.Folds.{list_any_at}
use Rattle.std.proofs.lemmas.List.Quantifiers.{all_pairs_push}
use Rattle.graphql_nodes.specs.Names.{AreDistinct, DifferentNames, HasDifferentNames, NameText, SameName, same_name, stands_on, with_name}
use Rattle.graphql_nodes.proofs.NameLemmas.{not_both, same_name_back}
use Rattle.graphql_variables.proofs.SelectionWalkLemmas.{stands_before, stands_either, stands_last}
use Rattle.graphql_cycles.specs.CycleSearches.{IsSeen, StandsOn}

-- truth of a test
not_true : (b : Bool) → ¬ IsTrue b → IsFalse b
not_true true h = absurd (h refl)
not_true false h = refl

both_not : (b : Bool) → IsTrue b → IsFalse b → ⊥
both_not b is is_not = let h : ⊥ = cc in h

-- the names to which references lead
abbrev pub names_at : List (Bor NameText) → List NameText
names_at seen = map (λ b. b.now) seen

-- an empty set has no name
pub nothing_seen : (seen : List (Bor NameText)) → seen ≡ [] → (k : NameText) → ¬ IsSeen seen k
nothing_seen seen empty k h = both_not false (subst (λ l. IsSeen l k) empty h) refl

-- a name was not seen, and was marked
pub record Marked (name : NameText) (old new : List (Bor NameText)) : Type 0 where
  pub unseen : IsFalse (stands_on (names_at old) name)
  pub names : names_at new ≡ names_at old ++ name ∷ []

pub was_marked : (name : NameText) (old new : List (Bor NameText)) (is_new : Bool) → is_new ≡ not (stands_on (names_at old) name) →
    names_at new ≡ with_name (names_at old) name → is_new ≡ true → Marked name old new
was_marked name old new is_new e names is =
    let missing = flipped (stands_on (names_at old) name) (sym e ∙ is) in
    record { unseen = missing; names = names ∙ ap (λ b. if b then names_at old else names_at old ++ name ∷ []) missing } where
      flipped : (b : Bool) → not b ≡ true → b ≡ false
      flipped true h = sym h
      flipped false h = refl

-- or it was seen before
pub was_seen : (name : NameText) (old new : List (Bor NameText)) (is_new : Bool) → is_new ≡ not (stands_on (names_at old) name) →
    names_at new ≡ with_name (names_at old) name → is_new ≡ false → IsSeen old name × (names_at new ≡ names_at old)
was_seen name old new is_new e names is =
    let there = flipped (stands_on (names_at old) name) (sym e ∙ is) in
    (there, names ∙ ap (λ b. if b then names_at old else names_at old ++ name ∷ []) there) where
      flipped : (b : Bool) → not b ≡ false → b ≡ true
      flipped true h = refl
      flipped false h = sym h

module _ {name : NameText} {old new : List (Bor NameText)} (m : Marked name old new) where
  pub marked_grows : (k : NameText) → IsSeen old k → IsSeen new k
  marked_grows k h = subst (λ l. IsTrue (stands_on l k)) (sym m.names) (stands_before (names_at old) name k h)

  pub marked_is_seen : (k : NameText) → SameName k name → IsSeen new k
  marked_is_seen k same = subst (λ l. IsTrue (stands_on l k)) (sym m.names) (stands_last (names_at old) name k same)

  pub marked_only : (k : NameText) → IsSeen new k → IsSeen old k ⊎ SameName k name
  marked_only k h = stands_either (names_at old) name k (subst (λ l. IsTrue (stands_on l k)) m.names h)

-- a path stays where more was seen
pub stands_still : {root : NameText} {path now : List NameText} {limit bound : ℕ} {old new : List (Bor NameText)} → now ≡ path → bound ≡ limit →
    ((k : NameText) → IsSeen old k → IsSeen new k) → StandsOn root path limit old → StandsOn root now bound new
stands_still is_path is_limit grows s = record {
  distinct = subst AreDistinct (sym is_path) s.distinct;
  fits = omega (arith, ap length is_path, s.fits);
  known = λ k h. elim (s.known k (subst (λ l. IsTrue (stands_on l k)) is_path h)) [ inl same ↦ inl same | inr seen ↦ inr (grows k seen) ];
}

module _ {root : NameText} {path : List NameText} {limit : ℕ} {old : List (Bor NameText)} (s : StandsOn root path limit old)
    (name : NameText) (unseen : IsFalse (stands_on (names_at old) name)) (other : DifferentNames name root) where
  -- a name that is not the root's, and was not seen, is not on the path
  pub off_path : IsFalse (stands_on path name)
  off_path = not_true (stands_on path name) (λ h. elim (s.known name h) [
    | inl same ↦ not_both name root same other
    | inr seen ↦ both_not (stands_on (names_at old) name) seen unseen
  ])

  -- so the names are different with it
  pub distinct_with : AreDistinct (path ++ name ∷ [])
  distinct_with =
      all_pairs_push DifferentNames path name s.distinct (λ k d within. not_true (same_name (get_or path k d) name) (λ same.
      both_not (stands_on path name) (list_any_at (same_name name) path k d within (same_name_back (get_or path k d) name same)) off_path))

  -- it goes on the path
  pub stands_deeper : {new : List (Bor NameText)} → Marked name old new → length path < limit → StandsOn root (path ++ name ∷ []) limit new
  stands_deeper m room = record {
    distinct = distinct_with;
    fits = omega (arith, length-append path (name ∷ []));
    known = λ k h. elim (stands_either path name k h) [
      | inl before ↦ elim (s.known k before) [ inl same ↦ inl same | inr seen ↦ inr (marked_grows m k seen) ]
      | inr same ↦ inr (marked_is_seen m k same)
    ];
  }

  -- or makes one name too many
  pub one_too_many : limit ≤ length path → HasDifferentNames (limit + 1) (path ++ name ∷ [])
  one_too_many full = (path ++ name ∷ [], omega (arith, length-append path (name ∷ []), s.fits), distinct_with, All-contains_itself (path ++ name ∷ []))
