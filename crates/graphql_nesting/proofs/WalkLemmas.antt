-- How what is written in a definition is found, set by set.
use Rattle.std.proofs.Common.{◌≡◌, ◌≤◌, ◌<◌, ◌+◌, ℕ, suc, List, [], ◌∷◌, ◌++◌, Option, Some, All, Contains, arith, map, refl, sym, ap, ◌∙◌, subst, inl, inr}
use Rattle.std.specs.Prelude.{◌⊎◌, filter_map, max, slice_get}
use Rattle.std.proofs.lemmas.Bool.{cases_lt}
use Rattle.std.proofs.lemmas.List.Elements.{All-append, All-contains, All-map, All-nil, Contains-append_left, Contains-append_right, Contains-push}
use Rattle.indexmap.specs.IndexMap.{values}
use Rattle.graphql_nodes.specs.declared.nodes.Node.{Node}
use Rattle.graphql_documents.specs.Selections.{Fragments, fragments_of, no_fragments, selections_of}
use Rattle.graphql_documents.specs.declared.documents.executables.ExecutableDocument.{ExecutableDocument}
use Rattle.graphql_documents.specs.declared.documents.executables.Fragment.{Fragment}
use Rattle.graphql_documents.specs.declared.documents.executables.SelectionSet.{SelectionSet}
use Rattle.graphql_documents.proofs.ListLemmas.{All-append_left, each_standing, made_of, none_stands, only_one, stands_mapped}
use Rattle.graphql_nesting.specs.Nesting.{Descends, one_level, one_more, sets_below}
use Rattle.graphql_nesting.specs.Written.{AreWrittenLevels, IsPlaced, LeadsThrough, fragment_spread, spread_fragments}
use Rattle.graphql_nesting.specs.declared.spreads.PlacedSpread.{PlacedSpread}
use Rattle.graphql_nesting.specs.declared.written.WrittenLevels.{WrittenLevels}
use Rattle.graphql_nesting.proofs.DescentLemmas.{sets_below_cases, spread_sets_below, written_descends, written_sets_below}

-- a way down of n levels goes through one of the sets that are left
record GoesBelow (fragments : Fragments) (left : List (SelectionSet × ℕ)) (n : ℕ) : Type 0 where
  x : SelectionSet × ℕ
  one_of : Contains left x
  below : ℕ
  descends : Descends fragments x.0 below
  sum : n ≡ x.1 + below

-- what is in two lists one behind the other is in one of them
pub in_either : {X : Type 0} (xs ys : List X) (x : X) → Contains (xs ++ ys) x → Contains xs x ⊎ Contains ys x
in_either {X} xs ys x in' =
    All-contains (λ (x : X). Contains xs x ⊎ Contains ys x) (xs ++ ys) x
    (All-append (λ (x : X). Contains xs x ⊎ Contains ys x) xs ys (each_standing (λ (x : X). Contains xs x ⊎ Contains ys x) xs (λ x in'. inl in'))
    (each_standing (λ (x : X). Contains xs x ⊎ Contains ys x) ys (λ x in'. inr in'))) in'

module _ (document : ExecutableDocument) (root : SelectionSet) where
  abbrev F : Fragments
  F = fragments_of document

  -- the set is so far below the root, among all fragments and among none
  record IsBelow (x : SelectionSet × ℕ) : Type 0 where
    among_none : (n : ℕ) → Descends no_fragments x.0 n → Descends no_fragments root (x.1 + n)
    among_all : (n : ℕ) → Descends F x.0 n → Descends F root (x.1 + n)

  -- the fragment is so far below the root
  record FragmentIsBelow (p : Option (Node Fragment) × ℕ) : Type 0 where
    d : Node Fragment
    is : p.0 ≡ Some d
    below_one : 0 < p.1
    leads : (n : ℕ) → Descends F d.value.value.selection_set n → Descends F root (p.1 + n)

  -- a way down goes through one of these fragments
  record GoesThroughFragment (found : List (Option (Node Fragment) × ℕ)) (n : ℕ) : Type 0 where
    p : Option (Node Fragment) × ℕ
    one_of : Contains found p
    d : Node Fragment
    is : p.0 ≡ Some d
    below : ℕ
    descends : Descends F d.value.value.selection_set below
    sum : n ≡ p.1 + below

  -- each way down has been counted, or goes on through what is left
  abbrev AreCounted : Fragments → (ℕ → Type 0) → List (SelectionSet × ℕ) → ℕ → Type 0
  AreCounted fragments Other left levels =
      (n : ℕ) → Descends fragments root n → (n ≤ levels) ⊎ (Other n ⊎ GoesBelow fragments left n)

  -- what was found so far: the levels, the fragments, and the sets that are left
  pub record Walks (left : List (SelectionSet × ℕ)) (found : List (Option (Node Fragment) × ℕ)) (levels : ℕ) : Type 0 where
    descends : Descends no_fragments root levels
    left_ones : All IsBelow left
    found_ones : All FragmentIsBelow found
    written : AreCounted no_fragments (λ n. ⊥) left levels
    all : AreCounted F (GoesThroughFragment found) left levels

  pub walks_begin : (left : List (SelectionSet × ℕ)) (levels : ℕ) → left ≡ (root, 0) ∷ [] → levels ≡ 1 → Walks left [] levels
  walks_begin left levels is one = subst (λ l. Walks l [] levels) (sym is) (subst (Walks ((root, 0) ∷ []) []) (sym one) (record {
    descends = one_level;
    left_ones = each_standing IsBelow ((root, 0) ∷ []) (λ x in'. subst IsBelow (sym (only_one (root, 0) x in')) (record {
      among_none = λ n way. subst (Descends no_fragments root) (let e : n ≡ 0 + n = omega arith in e) way;
      among_all = λ n way. subst (Descends F root) (let e : n ≡ 0 + n = omega arith in e) way;
    }));
    found_ones = All-nil FragmentIsBelow;
    written = λ n way. inr (inr (record { x = (root, 0); one_of = (0, omega arith, refl); below = n; descends = way; sum = omega arith }));
    all = λ n way. inr (inr (record { x = (root, 0); one_of = (0, omega arith, refl); below = n; descends = way; sum = omega arith }));
  }))

  -- once a set was looked at, each way down goes on through what is below it
  counted_step : (fragments : Fragments) (Other More : ℕ → Type 0) (left : List (SelectionSet × ℕ)) (set : SelectionSet) (above levels : ℕ) →
      ((n : ℕ) → Other n → More n) →
      ((inner : SelectionSet) → Contains (sets_below fragments set) inner →
      Contains (sets_below no_fragments set) inner ⊎ ((k : ℕ) → Descends fragments inner k → More ((above + 1) + k))) →
      AreCounted fragments Other (left ++ (set, above) ∷ []) levels →
      AreCounted fragments More (left ++ map (λ inner. (inner, above + 1)) (sets_below no_fragments set)) (max levels (above + 1))
  counted_step fragments Other More left set above levels wider cases counted n way = by (counted n way) where
    added : List (SelectionSet × ℕ)
    added = map (λ inner. (inner, above + 1)) (sets_below no_fragments set)

    Now : ℕ → Type 0
    Now n = (n ≤ max levels (above + 1)) ⊎ (More n ⊎ GoesBelow fragments (left ++ added) n)

    into : (inner : SelectionSet) (k : ℕ) → Descends fragments inner k →
        Contains (sets_below no_fragments set) inner ⊎ ((k : ℕ) → Descends fragments inner k → More ((above + 1) + k)) → Now ((above + 1) + k)
    into inner k below (inl in') = inr (inr (record {
      x = (inner, above + 1);
      one_of = Contains-append_right left added (inner, above + 1) (stands_mapped (λ (inner : SelectionSet). (inner, above + 1)) (sets_below no_fragments set) inner in');
      below = k;
      descends = below;
      sum = refl;
    }))
    into inner k below (inr more) = inr (inl (more k below))

    through : {set' : SelectionSet} {k : ℕ} → Descends fragments set' k → set' ≡ set → Now (above + k)
    through one_level same = inl (omega arith)
    through (one_more {inner = inner} {n = k} in' below) same =
        subst Now (let e : (above + 1) + k ≡ above + suc k = omega arith in e)
        (into inner k below (cases inner (subst (λ set. Contains (sets_below fragments set) inner) same in')))

    still : (g : GoesBelow fragments (left ++ (set, above) ∷ []) n) → Contains left g.x ⊎ Contains ((set, above) ∷ []) g.x → Now n
    still g (inl in') = inr (inr (record { x = g.x; one_of = Contains-append_left left added g.x in'; below = g.below; descends = g.descends; sum = g.sum }))
    still g (inr in') =
        let same : g.x ≡ (set, above) = only_one (set, above) g.x in' in
        subst Now (sym (g.sum ∙ ap (λ (x : SelectionSet × ℕ). x.1 + g.below) same))
        (through (subst (λ (x : SelectionSet × ℕ). Descends fragments x.0 g.below) same g.descends) refl)

    by : (n ≤ levels) ⊎ (Other n ⊎ GoesBelow fragments (left ++ (set, above) ∷ []) n) → Now n
    by (inl le) = inl (omega arith)
    by (inr (inl other)) = inr (inl (wider n other))
    by (inr (inr g)) = still g (in_either left ((set, above) ∷ []) g.x g.one_of)

  -- the sets and the fragments in a set that is below the root are one level further below
  sets_step : (set : SelectionSet) (above : ℕ) → IsBelow (set, above) → All IsBelow (map (λ inner. (inner, above + 1)) (sets_below no_fragments set))
  sets_step set above is =
      All-map IsBelow (λ inner. (inner, above + 1)) (sets_below no_fragments set)
      (each_standing (λ inner. IsBelow (inner, above + 1)) (sets_below no_fragments set) (λ inner in'. record {
        among_none = λ n way.
            subst (Descends no_fragments root) (let e : above + suc n ≡ (above + 1) + n = omega arith in e) (is.among_none (suc n) (one_more in' way));
        among_all = λ n way.
            subst (Descends F root) (let e : above + suc n ≡ (above + 1) + n = omega arith in e) (is.among_all (suc n) (one_more (written_sets_below F set inner in') way));
      }))

  abbrev spread_in : SelectionSet → List (Node Fragment)
  spread_in set = filter_map (fragment_spread F) (selections_of set)

  abbrev placed_in : SelectionSet → ℕ → List (Option (Node Fragment) × ℕ)
  placed_in set above = map (λ d. (Some d, above + 1)) (spread_in set)

  fragments_step : (set : SelectionSet) (above : ℕ) → IsBelow (set, above) → All FragmentIsBelow (placed_in set above)
  fragments_step set above is =
      All-map FragmentIsBelow (λ d. (Some d, above + 1)) (spread_in set)
      (each_standing (λ d. FragmentIsBelow (Some d, above + 1)) (spread_in set) (λ d in'. record {
        d = d;
        is = refl;
        below_one = omega arith;
        leads = λ n way.
            subst (Descends F root) (let e : above + suc n ≡ (above + 1) + n = omega arith in e) (is.among_all (suc n) (one_more (spread_sets_below F set d in') way));
      }))

  -- the greater of two numbers of levels
  greater : (levels above : ℕ) → Descends no_fragments root levels → Descends no_fragments root (above + 1) → Descends no_fragments root (max levels (above + 1))
  greater levels above one other = by (cases_lt levels (above + 1)) where
    by : (levels < above + 1) ⊎ (above + 1 ≤ levels) → Descends no_fragments root (max levels (above + 1))
    by (inl lt) = subst (Descends no_fragments root) (let e : above + 1 ≡ max levels (above + 1) = omega arith in e) other
    by (inr le) = subst (Descends no_fragments root) (let e : levels ≡ max levels (above + 1) = omega arith in e) one

  step : (left : List (SelectionSet × ℕ)) (found : List (Option (Node Fragment) × ℕ)) (set : SelectionSet) (above levels : ℕ) →
      Walks (left ++ (set, above) ∷ []) found levels →
      Walks (left ++ map (λ inner. (inner, above + 1)) (sets_below no_fragments set)) (found ++ placed_in set above) (max levels (above + 1))
  step left found set above levels w = record {
    descends = greater levels above w.descends (here.among_none 1 one_level);
    left_ones = All-append IsBelow left (map (λ inner. (inner, above + 1)) (sets_below no_fragments set))
        (All-append_left IsBelow left ((set, above) ∷ []) w.left_ones) (sets_step set above here);
    found_ones = All-append FragmentIsBelow found (placed_in set above) w.found_ones (fragments_step set above here);
    written = counted_step no_fragments (λ n. ⊥) (λ n. ⊥) left set above levels (λ n no. no) (λ inner in'. inl in') w.written;
    all = counted_step F (GoesThroughFragment found) (GoesThroughFragment (found ++ placed_in set above)) left set above levels wider
        (λ inner in'. by inner (sets_below_cases F set inner in')) w.all;
  } where
    here : IsBelow (set, above)
    here = All-contains IsBelow (left ++ (set, above) ∷ []) (set, above) w.left_ones (Contains-push left (set, above))

    wider : (n : ℕ) → GoesThroughFragment found n → GoesThroughFragment (found ++ placed_in set above) n
    wider n g = record { p = g.p; one_of = Contains-append_left found (placed_in set above) g.p g.one_of; d = g.d; is = g.is; below = g.below; descends = g.descends; sum = g.sum }

    by : (inner : SelectionSet) → Contains (sets_below no_fragments set) inner ⊎ ((d : Node Fragment) × Contains (spread_in set) d × (d.value.value.selection_set ≡ inner)) →
        Contains (sets_below no_fragments set) inner ⊎ ((k : ℕ) → Descends F inner k → GoesThroughFragment (found ++ placed_in set above) ((above + 1) + k))
    by inner (inl in') = inl in'
    by inner (inr (d, in', same)) = inr (λ k way. record {
      p = (Some d, above + 1);
      one_of = Contains-append_right found (placed_in set above) (Some d, above + 1) (stands_mapped (λ (d : Node Fragment). (Some d, above + 1)) (spread_in set) d in');
      d = d;
      is = refl;
      below = k;
      descends = subst (λ set. Descends F set k) (sym same) way;
      sum = refl;
    })

  -- the last of the sets that are left was looked at
  pub walks_on : (left old new : List (SelectionSet × ℕ)) (found now : List (Option (Node Fragment) × ℕ)) (set : SelectionSet) (above levels greatest : ℕ) →
      old ≡ left ++ (set, above) ∷ [] →
      new ≡ left ++ map (λ inner. (inner, above + 1)) (sets_below no_fragments set) →
      now ≡ found ++ map (λ d. (Some d, above + 1)) (filter_map (fragment_spread (fragments_of document)) (selections_of set)) →
      greatest ≡ max levels (above + 1) →
      Walks old found levels → Walks new now greatest
  walks_on left old new found now set above levels greatest was is more most w =
      subst (λ l. Walks l now greatest) (sym is)
      (subst (λ f. Walks (left ++ map (λ inner. (inner, above + 1)) (sets_below no_fragments set)) f greatest) (sym more)
      (subst (Walks (left ++ map (λ inner. (inner, above + 1)) (sets_below no_fragments set)) (found ++ placed_in set above)) (sym most)
      (step left found set above levels (subst (λ l. Walks l found levels) was w))))

  -- all sets were looked at
  pub walks_end : (x : WrittenLevels) (left : List (SelectionSet × ℕ)) → left ≡ [] → Walks left (spread_fragments document x.spreads.items) x.levels → AreWrittenLevels document root x
  walks_end x left none w' = record {
    levels = record { descends = w.descends; within = λ n way. by_written n (w.written n way) };
    placed = each_standing (IsPlaced document root) spreads (λ s in'. placed s (All-contains FragmentIsBelow (map view spreads) (view s) w.found_ones (stands_mapped view spreads s in')));
    before = record { descends = written_descends F w.descends; within = λ n way. by_all n (w.all n way) };
  } where
    spreads : List PlacedSpread
    spreads = x.spreads.items

    view : PlacedSpread → Option (Node Fragment) × ℕ
    view s = (slice_get (values document.fragments) s.fragment, s.above)

    w : Walks [] (spread_fragments document x.spreads.items) x.levels
    w = subst (λ l. Walks l (spread_fragments document x.spreads.items) x.levels) none w'

    by_written : (n : ℕ) → (n ≤ x.levels) ⊎ (⊥ ⊎ GoesBelow no_fragments [] n) → n ≤ x.levels
    by_written n (inl le) = le
    by_written n (inr (inl never)) = absurd never
    by_written n (inr (inr g)) = absurd (none_stands g.x g.one_of)

    placed : (s : PlacedSpread) → FragmentIsBelow (view s) → IsPlaced document root s
    placed s is = record { d = is.d; is = is.is; below_one = is.below_one; leads = is.leads }

    by_all : (n : ℕ) → (n ≤ x.levels) ⊎ (GoesThroughFragment (map view spreads) n ⊎ GoesBelow F [] n) → (n ≤ x.levels) ⊎ LeadsThrough document spreads n
    by_all n (inl le) = inl le
    by_all n (inr (inl g)) = inr
        (let (s, in', e) = made_of view spreads g.p g.one_of in
        record {
          s = s;
          one_of = in';
          d = g.d;
          is = ap (λ (p : Option (Node Fragment) × ℕ). p.0) e ∙ g.is;
          below = g.below;
          descends = g.descends;
          sum = g.sum ∙ ap (λ (p : Option (Node Fragment) × ℕ). p.1 + g.below) (sym e);
        })
    by_all n (inr (inr g)) = absurd (none_stands g.x g.one_of)
