-- Paths of references between definitions that are the same are the same.
use Rattle.std.proofs.Common.{◌≡◌, ◌++◌, List, [], ◌∷◌, Option, Some, refl, ap, subst}
use Rattle.std.specs.List.{AllZip}
use Rattle.graphql_documents.specs.Paths.{HasNoCycle, Path, path_of_more, path_of_one}

-- the parts of a list with one element at its end
pub ends_too : {X : Type 0} (R : X → X → Type 0) (xs : List X) (x : X) (zs : List X) → AllZip R (xs ++ x ∷ []) zs →
    (us : List X) × (u : X) × (zs ≡ us ++ u ∷ []) × R x u × AllZip R xs us
ends_too R [] x [] zip = absurd zip
ends_too R [] x (u ∷ []) zip = ([], u, refl, zip.0, tt)
ends_too R [] x (u ∷ (v ∷ zs)) zip = absurd zip.1
ends_too R (y ∷ xs) x [] zip = absurd zip
ends_too R (y ∷ xs) x (u ∷ zs) zip =
    let more = ends_too R xs x zs zip.1 in
    (u ∷ more.0, more.1, ap (λ rest. u ∷ rest) more.2, more.3, (zip.0, more.4))

module _ {D E : Type 0} (RefersBefore RefersAfter : D → E → Type 0) (before after : E → Option D) (SameD : D → D → Type 0) (SameE : E → E → Type 0)
    (refers : (d e : D) (r : E) → SameD d e → RefersBefore d r → (s : E) × RefersAfter e s × SameE r s)
    (targets : (r s : E) (d : D) → SameE r s → before r ≡ Some d → (e : D) × (after s ≡ Some e) × SameD d e) where
  pub path_too : {d : D} {rs : List E} → Path RefersBefore before d rs → (e : D) → SameD d e → (ss : List E) × Path RefersAfter after e ss × AllZip SameE rs ss
  path_too (path_of_one {d = d} {r = r} by) e same =
      let s = refers d e r same by in
      (s.0 ∷ [], path_of_one s.1, (s.2, tt))
  path_too (path_of_more {d = d} {next = next} {r = r} {rs = rs} by to rest) e same =
      let s = refers d e r same by in
      let f = targets r s.0 next s.2 to in
      let more = path_too rest f.0 f.2 in
      (s.0 ∷ more.0, path_of_more s.1 f.1 more.1, (s.2, more.2))

  -- a definition without a cycle, if its like has none
  pub no_cycle_too : (IsBackBefore IsBackAfter : D → E → Type 0) → ((d e : D) (r s : E) → SameD d e → SameE r s → IsBackBefore d r → IsBackAfter e s) →
      (d e : D) → SameD d e → HasNoCycle RefersAfter after IsBackAfter e → HasNoCycle RefersBefore before IsBackBefore d
  no_cycle_too IsBackBefore IsBackAfter back d e same none path cycle =
      let more = path_too cycle.is_path e same in
      let ends = ends_too SameE cycle.before cycle.last more.0 (subst (λ p. AllZip SameE p more.0) cycle.ends more.2) in
      none more.0 (record {
        before = ends.0;
        last = ends.1;
        ends = ends.2;
        is_path = more.1;
        is_back = back d e cycle.last ends.1 same ends.3 cycle.is_back;
      })
