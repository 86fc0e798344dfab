-- What levels say of paths: each reference on a path from a definition leads lower, so that a path is no longer than the level
-- says. And a level more.
use Rattle.std.proofs.Common.{◌≡◌, ℕ, ◌+◌, ◌≤◌, ◌⊎◌, inl, inr, Bool, true, false, cond, Bor, List, [], ◌∷◌, ◌++◌, Option, Some, All, IsTrue, Contains, None, arith, length, refl, sym, ap, ◌∙◌, subst}
use Rattle.std.specs.HashMap.{HashMap, get_by}
use Rattle.std.specs.Option.{option_or}
use Rattle.std.specs.Str.{bytes_eq}
use Rattle.std.proofs.lemmas.List.Elements.{All-cons, All-nil, All-weaker}
use Rattle.std.proofs.lemmas.List.Folds.{Any-from_list_any}
use Rattle.std.proofs.lemmas.Option.{none-some, same_Some}
use Rattle.graphql_nodes.specs.Names.{NameText, SameName, same_name, stands_on}
use Rattle.graphql_nodes.proofs.NameLemmas.{same_name_back, same_text}
use Rattle.graphql_variables.proofs.SelectionWalkLemmas.{stands_before, stands_last}
use Rattle.graphql_documents.specs.Paths.{Path, path_of_one, path_of_more}
use Rattle.graphql_name_tables.specs.Places.{AddsPlace, place_under}
use Rattle.graphql_cycles.specs.Levels.{AddsLevel, AreBelow, AreLevels, IsLower, LeadsLower}

module _ {Definition Reference : Type 0} {RefersBy : Definition → Reference → Type 0} {target : Reference → Option Definition} where
  module _ {level : Reference → Option ℕ} (levels : AreLevels level RefersBy target) where
    -- each reference on a path leads lower than the definition where it begins
    pub lower_along : {d : Definition} {rs : List Reference} {i : ℕ} → Path RefersBy target d rs → LeadsLower level RefersBy d i → All (IsLower level i) rs
    lower_along {i = i} (path_of_one {r = r} by) leads = All-cons (IsLower level i) r [] (leads r by) (All-nil (IsLower level i))
    lower_along {i = i} (path_of_more {next = next} {r = r} {rs = rs} by is rest) leads =
        let (j, at, less) = leads r by in
        All-cons (IsLower level i) r rs (j, at, less)
        (All-weaker (IsLower level j) (IsLower level i) (λ q lower. let (k, there, fewer) = lower in (k, there, omega arith)) rs
        (lower_along rest (levels r next j is at)))

    -- so a path has no more references than the level says
    pub no_longer : {d : Definition} {rs : List Reference} {i : ℕ} → Path RefersBy target d rs → LeadsLower level RefersBy d i → length rs ≤ i
    no_longer (path_of_one {r = r} by) leads = let (j, at, less) = leads r by in omega arith
    no_longer (path_of_more {next = next} {r = r} {rs = rs} by is rest) leads =
        let (j, at, less) = leads r by in
        let fits = no_longer rest (levels r next j is at) in
        omega arith

  -- one level more
  pub level_more : {old new : Reference → Option ℕ} {n : ℕ} (Ready : Reference → Type 0) →
      ((r : Reference) (d : Definition) → Ready r → target r ≡ Some d → LeadsLower old RefersBy d n) →
      ((r : Reference) (i : ℕ) → old r ≡ Some i → new r ≡ Some i) →
      ((r : Reference) (i : ℕ) → new r ≡ Some i → (old r ≡ Some i) ⊎ (Ready r × (i ≡ n))) →
      AreLevels old RefersBy target → AreLevels new RefersBy target
  level_more {old} {new} {n} Ready ready kept added levels r d i is at q by = elim (added r i at) [
    | inl before ↦ still q (levels r d i is before q by)
    | inr (there, same) ↦ subst (λ k. IsLower new k q) (sym same) (still q (ready r d there is q by))
  ] where
    still : {k : ℕ} (q : Reference) → IsLower old k q → IsLower new k q
    still q lower = let (j, at, less) = lower in (j, kept q j at, less)

-- levels below a bound are below a larger one
pub below_more : {S : Type 0} (levels : HashMap (Bor NameText) ℕ S) {most bound : ℕ} → most ≤ bound → AreBelow levels most → AreBelow levels bound
below_more levels le below name i at = let less = below name i at in omega arith

-- so are they with some at the bound
pub below_added : {S : Type 0} {old new : HashMap (Bor NameText) ℕ S} {names : List NameText} {n : ℕ} → AddsLevel old new names n → AreBelow old n → AreBelow new (n + 1)
below_added adds below name i at = elim (adds.added name i at) [
  | inl before ↦ let less = below name i before in omega arith
  | inr (there, same) ↦ omega arith
]

-- names of one text have one level
pub one_level : {S : Type 0} (levels : HashMap (Bor NameText) ℕ S) (a b : NameText) → SameName a b → place_under levels a ≡ place_under levels b
one_level levels a b same = ap (λ (text : List ℕ). get_by (λ (key : Bor NameText). bytes_eq text key.now.text) levels) (same_text a b same)

-- a name of this text is among them
pub named_in : (names : List NameText) (name : NameText) → IsTrue (stands_on names name) → (k : NameText) × Contains names k × SameName name k
named_in names name there =
    let (i, k, within, at, same) = Any-from_list_any (same_name name) names there in
    (k, (i, within, at), same)

-- one name more at a level
module _ {S : Type 0} {old mid new : HashMap (Bor NameText) ℕ S} (names : List NameText) (level : ℕ) where
  pub one_added : (name : NameText) → AddsLevel old mid names level → AddsPlace mid new name level → AddsLevel old new (names ++ name ∷ []) level
  one_added name before adds = record {
    kept = λ other i at. stays other i (before.kept other i at);
    added = λ other i at. came other i (place_under mid other) refl (sym (adds.look_up other) ∙ at);
  } where
    stays : (other : NameText) (i : ℕ) → place_under mid other ≡ Some i → place_under new other ≡ Some i
    stays other i at = adds.look_up other ∙ ap (λ o. option_or o (cond (same_name name other) (Some level) None)) at

    first : (other : NameText) (i : ℕ) (b : Bool) → same_name name other ≡ b → cond b (Some level) None ≡ Some i →
        (place_under old other ≡ Some i) ⊎ (IsTrue (stands_on (names ++ name ∷ []) other) × (i ≡ level))
    first other i true same at = inr (stands_last names name other (same_name_back name other same), sym (same_Some level i at))
    first other i false same at = absurd (none-some i at)

    came : (other : NameText) (i : ℕ) (o : Option ℕ) → place_under mid other ≡ o → option_or (place_under mid other) (cond (same_name name other) (Some level) None) ≡ Some i →
        (place_under old other ≡ Some i) ⊎ (IsTrue (stands_on (names ++ name ∷ []) other) × (i ≡ level))
    came other i (Some j) there at =
        let same : j ≡ i = same_Some j i (ap (λ o. option_or o (cond (same_name name other) (Some level) None)) (sym there) ∙ at) in
        elim (before.added other i (there ∙ ap (λ k. Some k) same)) [
          | inl was ↦ inl was
          | inr came_before ↦ inr (stands_before names name other came_before.0, came_before.1)
        ]
    came other i None there at =
        first other i (same_name name other) refl (ap (λ o. option_or o (cond (same_name name other) (Some level) None)) (sym there) ∙ at)

pub not_false : ¬ IsTrue false
not_false said = let contradiction : ⊥ = cc in contradiction
