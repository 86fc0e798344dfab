-- What follows for a definition from those to which it refers holds of each definition from which no cycle leads.
use Rattle.std.proofs.Common.{◌≡◌, ◌⊎◌, inl, inr, ℕ, zero, suc, ◌+◌, ◌-◌, ◌<◌, ◌≤◌, eq-or-lt_of_le, List, [], ◌∷◌, ◌++◌, Option, Some, refl, sym, ap, ◌∙◌, Contains, arith, length, remove, get_or}
use Rattle.std.proofs.lemmas.List.{get_or_default}
use Rattle.std.proofs.lemmas.List.Edits.{length-remove, get_or-remove_below, get_or-remove_above}
use Rattle.graphql_documents.specs.Paths.{Path, path_of_one, path_of_more, HasNoCycle}

-- an element of a list is at the place, or in the list without what is there
there_or_left : {X : Type 0} (xs : List X) (x y : X) (i : ℕ) → i < length xs → get_or xs i x ≡ x → Contains xs y → (y ≡ x) ⊎ Contains (remove xs i) y
there_or_left {X} xs x y i within at (k, within', at') = by (before_or_not k i) where
  before_or_not : (k i : ℕ) → (k < i) ⊎ (i ≤ k)
  before_or_not k i = grind arith

  behind : (i ≡ k) ⊎ (i < k) → (y ≡ x) ⊎ Contains (remove xs i) y
  behind (inl here) = inl (sym at' ∙ ap (λ n. get_or xs n y) (sym here) ∙ get_or_default xs i y x within ∙ at)
  behind (inr after) =
      let back : k - 1 + 1 ≡ k = omega (arith, after) in
      inr (
        k - 1,
        omega (arith, after, within', length-remove xs i within),
        get_or-remove_above xs i y (k - 1) (omega (arith, after)) within ∙ ap (λ n. get_or xs n y) back ∙ at',
      )

  by : (k < i) ⊎ (i ≤ k) → (y ≡ x) ⊎ Contains (remove xs i) y
  by (inl before) = inr (k, omega (arith, before, within, length-remove xs i within), get_or-remove_below xs i y k before within ∙ at')
  by (inr le) = behind (eq-or-lt_of_le le)

module _ {Definition Reference : Type 0} (RefersBy : Definition → Reference → Type 0) (target : Reference → Option Definition) where
  -- a path of references leads from the first definition to the second, which its last reference names
  data Leads : Definition → Reference → Definition → Type 0 where
    leads_at_once : {d e : Definition} {r : Reference} → RefersBy d r → target r ≡ Some e → Leads d r e
    leads_on : {d next e : Definition} {r last : Reference} → RefersBy d r → target r ≡ Some next → Leads next last e → Leads d last e

  path_of : {d e : Definition} {last : Reference} → Leads d last e → (before : List Reference) × Path RefersBy target d (before ++ last ∷ [])
  path_of (leads_at_once by is) = ([], path_of_one by)
  path_of (leads_on {r = r} by is more) = let rest = path_of more in (r ∷ rest.0, path_of_more by is rest.1)

  leads_to_target : {d e : Definition} {last : Reference} → Leads d last e → target last ≡ Some e
  leads_to_target (leads_at_once by is) = is
  leads_to_target (leads_on by is more) = leads_to_target more

  module _ (IsBack : Definition → Reference → Type 0) (P : Definition → Type 0)
      (named : (d : Definition) (r : Reference) → target r ≡ Some d → IsBack d r)
      (acyclic : (d : Definition) (r : Reference) → target r ≡ Some d → HasNoCycle RefersBy target IsBack d)
      (step : (d : Definition) → ((r : Reference) (e : Definition) → RefersBy d r → target r ≡ Some e → P e) → P d) where
    -- no path leads from a definition back to it
    not_back : (d e : Definition) (last : Reference) → HasNoCycle RefersBy target IsBack d → Leads d last e → ¬ (e ≡ d)
    not_back d e last none leads same =
        let (before, path) = path_of leads in
        none (before ++ last ∷ []) (record {
          before = before;
          last = last;
          ends = refl;
          is_path = path;
          is_back = named d last (leads_to_target leads ∙ ap Some same);
        })

    -- the definitions that a path reaches from d are among these, and so is d
    reachable : (n : ℕ) (among : List Definition) → length among ≡ n → (d : Definition) → Contains among d → HasNoCycle RefersBy target IsBack d →
        ((last : Reference) (e : Definition) → Leads d last e → Contains among e) → P d
    reachable zero among size d (i, within, at) none within_these = absurd (omega (arith, within))
    reachable (suc n) among size d (i, within, at) none within_these =
        let left : (last : Reference) (e : Definition) → Leads d last e → Contains (remove among i) e =
        λ last e leads. other last e leads (there_or_left among d e i within at (within_these last e leads)) in
        step d (λ r e by is.
        reachable n (remove among i) (omega (arith, size, length-remove among i within)) e (left r e (leads_at_once by is)) (acyclic e r is)
        (λ last f leads. left last f (leads_on by is leads))) where
          other : (last : Reference) (e : Definition) → Leads d last e → (e ≡ d) ⊎ Contains (remove among i) e → Contains (remove among i) e
          other last e leads (inl same) = absurd (not_back d e last none leads same)
          other last e leads (inr stands) = stands

    -- where all targets are among these
    pub all_hold : (among : List Definition) → ((r : Reference) (d : Definition) → target r ≡ Some d → Contains among d) →
        (d : Definition) → Contains among d → HasNoCycle RefersBy target IsBack d → P d
    all_hold among closed d stands none = reachable (length among) among refl d stands none (λ last e leads. closed last e (leads_to_target leads))
