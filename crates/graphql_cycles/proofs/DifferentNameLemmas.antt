-- Names that differ are no more than those among which they are.
use Rattle.std.proofs.Common.{◌≡◌, ℕ, ◌<◌, ◌≤◌, List, All, Contains, arith, inl, inr, get_or, length, sym, ap, ◌∙◌, subst, ◌⊎◌}
use Rattle.std.specs.Prelude.{AllPairs}
use Rattle.std.proofs.lemmas.Bool.{cases_lt}
use native.Mathlib.Decide.{dec_lt}
use Rattle.indexmap.proofs.IndexTableLemmas.Probe.{OneToOne, pigeonhole}
use Rattle.indexmap.proofs.IndexTableLemmas.Writes.{index_any_default}
use Rattle.graphql_nodes.specs.Names.{DifferentNames, NameText}
use Rattle.graphql_nodes.proofs.NameLemmas.{not_both, same_name_itself}

-- things that differ
module _ {X : Type 0} (chosen all : List X) (Differ : X → X → Type 0) (differ : (x : X) → ¬ Differ x x) (distinct : AllPairs Differ chosen)
    (among : All (Contains all) chosen) (own : X) where
  abbrev place_by : (i : ℕ) → Dec (i < length chosen) → ℕ
  place_by i (yes within) = (among i own within).0
  place_by i (no past) = 0

  abbrev place : ℕ → ℕ
  place i = place_by i (dec_lt i (length chosen))

  place_is : (i : ℕ) → i < length chosen → (place i < length all) × (get_or all (place i) own ≡ get_or chosen i own)
  place_is i within = by (dec_lt i (length chosen)) where
    by : (t : Dec (i < length chosen)) → (place_by i t < length all) × (get_or all (place_by i t) own ≡ get_or chosen i own)
    by (yes there) = let (k, less, is) = among i own there in (less, index_any_default all k own (get_or chosen i own) less ∙ is)
    by (no past) = absurd (past within)

  apart : (i j : ℕ) → i < j → j < length chosen → place i ≡ place j → ⊥
  apart i j less within same =
      let one = (place_is i (omega arith)).1 in
      let other = (place_is j within).1 in
      let equal : get_or chosen i own ≡ get_or chosen j own = sym one ∙ ap (λ k. get_or all k own) same ∙ other in
      differ (get_or chosen j own) (subst (λ x. Differ x (get_or chosen j own)) equal (distinct i j own less within))

  one_place : OneToOne place (length chosen)
  one_place i j i_in j_in same = by (cases_lt i j) where
    by : (i < j) ⊎ (j ≤ i) → i ≡ j
    by (inl less) = absurd (apart i j less j_in same)
    by (inr le) = others (cases_lt j i) where
      others : (j < i) ⊎ (i ≤ j) → i ≡ j
      others (inl less) = absurd (apart j i less i_in (sym same))
      others (inr more) = omega arith

  pub no_more : length chosen ≤ length all
  no_more = pigeonhole (length chosen) (length all) place (λ i within. (place_is i within).0) one_place

pub differs_from_itself : (name : NameText) → ¬ DifferentNames name name
differs_from_itself name other = not_both name name (same_name_itself name) other
