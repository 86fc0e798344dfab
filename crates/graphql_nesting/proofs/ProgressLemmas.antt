-- What going through spreads finds of a set's levels.
use Rattle.std.proofs.Common.{◌≡◌, ◌≤◌, ◌<◌, ◌+◌, ℕ, zero, suc, List, [], ◌∷◌, Option, None, Some, All, Contains, arith, drop, length, refl, sym, ap, ◌∙◌, subst, inl, inr, add-one}
use Rattle.std.specs.Prelude.{◌⊎◌, MatchOption, max, slice_get}
use Rattle.std.proofs.lemmas.Bool.{cases_lt}
use Rattle.std.proofs.lemmas.List.Elements.{All-contains}
use Rattle.std.proofs.lemmas.Option.{get_or_from_slice_get, slice_get_within}
use Rattle.indexmap.specs.IndexMap.{values}
use Rattle.graphql_nodes.specs.declared.nodes.Node.{Node}
use Rattle.graphql_documents.specs.Selections.{fragments_of}
use Rattle.graphql_documents.specs.declared.documents.executables.ExecutableDocument.{ExecutableDocument}
use Rattle.graphql_documents.specs.declared.documents.executables.Fragment.{Fragment}
use Rattle.graphql_documents.specs.declared.documents.executables.SelectionSet.{SelectionSet}
use Rattle.graphql_documents.proofs.ListLemmas.{none_stands, only_one}
use Rattle.graphql_nesting.specs.Nesting.{Descends, HasLevels}
use Rattle.graphql_nesting.specs.Search.{AreRight}
use Rattle.graphql_nesting.specs.Spreads.{AreLevelsThrough, GoesOn, StopsAt, goes_through, known_at, spread_known, stays}
use Rattle.graphql_nesting.specs.Written.{HasLevelsBefore, IsPlaced, LeadsThrough}
use Rattle.graphql_nesting.specs.declared.spreads.FragmentLevels.{FragmentLevels}
use Rattle.graphql_nesting.specs.declared.spreads.PlacedSpread.{PlacedSpread}
use Rattle.graphql_nesting.specs.declared.spreads.Progress.{Progress}
use Rattle.graphql_nesting.proofs.WalkLemmas.{in_either}

-- two at one number are one
pub one_at : {X : Type 0} (o : Option X) (x y : X) → o ≡ Some x → o ≡ Some y → x ≡ y
one_at o x y is also = cc

-- what is at a number of a list is in it
pub stands_at : {X : Type 0} (xs : List X) (i : ℕ) (x : X) → slice_get xs i ≡ Some x → Contains xs x
stands_at xs i x is = (i, slice_get_within xs i x is, get_or_from_slice_get xs i x x is)

-- below the length of a list is something
pub something_at : {X : Type 0} (xs : List X) (i : ℕ) → i < length xs → (x : X) × (slice_get xs i ≡ Some x)
something_at [] i within = absurd (omega arith)
something_at (x ∷ xs) zero within = (x, refl)
something_at (x ∷ xs) (suc i) within = something_at xs i (omega arith)

-- from a number on a list has what is there first
pub begins_at : {X : Type 0} (xs : List X) (i : ℕ) (x : X) → slice_get xs i ≡ Some x → drop i xs ≡ x ∷ drop (suc i) xs
begins_at [] i x is = absurd (let no : ⊥ = cc in no)
begins_at (y ∷ ys) zero x is = let same : y ≡ x = cc in ap (λ z. z ∷ ys) same
begins_at (y ∷ ys) (suc i) x is = begins_at ys i x is

-- behind the end of a list is nothing
pub nothing_from : {X : Type 0} (xs : List X) (i : ℕ) → slice_get xs i ≡ None → drop i xs ≡ []
nothing_from [] zero is = refl
nothing_from [] (suc i) is = refl
nothing_from (y ∷ ys) zero is = absurd (let no : ⊥ = cc in no)
nothing_from (y ∷ ys) (suc i) is = nothing_from ys i is

-- a search stops at a spread of a fragment whose levels are not known
pub stops_unknown : (known : List FragmentLevels) (spreads : List PlacedSpread) (next : ℕ) (s : PlacedSpread) → StopsAt known spreads next → slice_get spreads next ≡ Some s →
    known_at known s.fragment ≡ None
stops_unknown known spreads next s stops stands = subst (λ (o : Option PlacedSpread). MatchOption o (Unit {0}) (λ s. spread_known known s ≡ None)) stands stops

module _ (document : ExecutableDocument) (set : SelectionSet) where
  -- a spread of a fragment with known levels was gone through
  one_through : (s : PlacedSpread) (rest : List PlacedSpread) (levels below : ℕ) (placed : IsPlaced document set s) →
      HasLevels (fragments_of document) placed.d.value.value.selection_set below →
      HasLevelsBefore document set (s ∷ rest) levels → HasLevelsBefore document set rest (max levels (s.above + below))
  one_through s rest levels below placed has before = record {
    descends = greater (cases_lt levels (s.above + below));
    within = λ n way. by n (before.within n way);
  } where
    greater : (levels < s.above + below) ⊎ (s.above + below ≤ levels) → Descends (fragments_of document) set (max levels (s.above + below))
    greater (inl lt) =
        subst (Descends (fragments_of document) set) (let e : s.above + below ≡ max levels (s.above + below) = omega arith in e) (placed.leads below has.descends)
    greater (inr le) = subst (Descends (fragments_of document) set) (let e : levels ≡ max levels (s.above + below) = omega arith in e) before.descends

    Now : ℕ → Type 0
    Now n = (n ≤ max levels (s.above + below)) ⊎ LeadsThrough document rest n

    through : (n : ℕ) (l : LeadsThrough document (s ∷ rest) n) → Contains (s ∷ []) l.s ⊎ Contains rest l.s → Now n
    through n l (inl in') =
        let same : l.s ≡ s = only_one s l.s in' in
        let at : slice_get (values document.fragments) s.fragment ≡ Some l.d = ap (λ (t : PlacedSpread). slice_get (values document.fragments) t.fragment) (sym same) ∙ l.is in
        let one : l.d ≡ placed.d = one_at (slice_get (values document.fragments) s.fragment) l.d placed.d at placed.is in
        let way = subst (λ (d : Node Fragment). Descends (fragments_of document) d.value.value.selection_set l.below) one l.descends in
        let least : l.below ≤ below = has.within l.below way in
        let sum : n ≡ s.above + l.below = l.sum ∙ ap (λ (t : PlacedSpread). t.above + l.below) same in
        inl (omega arith)
    through n l (inr in') = inr (record { s = l.s; one_of = in'; d = l.d; is = l.is; below = l.below; descends = l.descends; sum = l.sum })

    by : (n : ℕ) → (n ≤ levels) ⊎ LeadsThrough document (s ∷ rest) n → Now n
    by n (inl le) = inl (omega arith)
    by n (inr l) = through n l (in_either (s ∷ []) rest l.s l.one_of)

  module _ (known : List FragmentLevels) (right : AreRight document known) (spreads : List PlacedSpread) (placed : All (IsPlaced document set) spreads) where
    known_through : (p : Progress) (s : PlacedSpread) (levels : ℕ) (q : Progress) → slice_get spreads p.next ≡ Some s → AreLevelsThrough known s levels →
        q.next ≡ p.next + 1 → q.levels ≡ max p.levels levels →
        HasLevelsBefore document set (drop p.next spreads) p.levels → HasLevelsBefore document set (drop q.next spreads) q.levels
    known_through p s levels q stands t next most before =
        let is : IsPlaced document set s = All-contains (IsPlaced document set) spreads s placed (stands_at spreads p.next s stands) in
        let has = right s.fragment t.below is.d t.is_known is.is in
        subst (λ n. HasLevelsBefore document set (drop n spreads) q.levels) (sym (next ∙ add-one p.next))
        (subst (HasLevelsBefore document set (drop (suc p.next) spreads)) (sym (most ∙ ap (max p.levels) t.sum))
        (one_through s (drop (suc p.next) spreads) p.levels t.below is has
        (subst (λ l. HasLevelsBefore document set l p.levels) (begins_at spreads p.next s stands) before)))

    -- so do all that are gone through one after another
    pub all_through : (start end : Progress) → GoesOn known spreads start end →
        HasLevelsBefore document set (drop start.next spreads) start.levels → HasLevelsBefore document set (drop end.next spreads) end.levels
    all_through start end stays before = before
    all_through start end (goes_through {p = p} {s = s} {levels = levels} on stands t next most) before =
        known_through p s levels end stands t next most (all_through start p on before)

  -- where no spread is left these are the levels of the set
  pub levels_found : (spreads : List PlacedSpread) (levels : ℕ) → spreads ≡ [] → HasLevelsBefore document set spreads levels → HasLevels (fragments_of document) set levels
  levels_found spreads levels none before = record { descends = before.descends; within = λ n way. by n (before.within n way) } where
    by : (n : ℕ) → (n ≤ levels) ⊎ LeadsThrough document spreads n → n ≤ levels
    by n (inl le) = le
    by n (inr l) = absurd (none_stands l.s (subst (λ l'. Contains l' l.s) none l.one_of))
