-- The search of the levels of fragments, step by step.
use Rattle.std.proofs.Common.{◌≡◌, ◌≤◌, ◌<◌, ◌+◌, ◌*◌, ℕ, zero, suc, List, [], ◌∷◌, ◌++◌, Option, None, Some, All, Contains, arith, drop, length, map, refl, sym, ap, ◌∙◌, subst, sum_by, inl, inr}
use Rattle.std.specs.Prelude.{◌⊎◌, MatchOption, slice_get, slice_set}
use Rattle.std.specs.List.{enumerate_from}
use Rattle.std.specs.Option.{option_and_then, option_map, option_map_or}
use Rattle.std.proofs.lemmas.List.{length-append, length-map, length-set}
use Rattle.std.proofs.lemmas.List.Elements.{All-append, All-contains, All-cons, All-head, All-map, All-nil, All-tail, All-weaker, Contains-append_left, Contains-append_right, Contains-push}
use Rattle.std.proofs.lemmas.List.Sums.{sum_by-cons}
use Rattle.std.proofs.lemmas.Option.{slice_get-map, slice_get_within}
use Rattle.indexmap.specs.IndexMap.{values}
use Rattle.graphql_nodes.specs.declared.nodes.Node.{Node}
use Rattle.graphql_documents.specs.Selections.{fragments_of}
use Rattle.graphql_documents.specs.declared.documents.executables.ExecutableDocument.{ExecutableDocument}
use Rattle.graphql_documents.specs.declared.documents.executables.Fragment.{Fragment}
use Rattle.graphql_documents.proofs.ListLemmas.{All-append_left, none_stands, only_one, stands_behind, stands_first, stands_mapped}
use Rattle.graphql_nesting.specs.Nesting.{Descends, HasLevels, IsEndless, one_level}
use Rattle.graphql_nesting.specs.Search.{AreListed, AreSettled, IsLeft, IsWaiting, Searches, WaitsFor, count_left, is_ready, is_waiting, start_of, work}
use Rattle.graphql_nesting.specs.Spreads.{GoesOn, NothingKnown, PutsBehind, known_at, known_levels, waiting_at, waiting_in}
use Rattle.graphql_nesting.specs.Written.{AreWrittenLevels, HasLevelsBefore, IsPlaced}
use Rattle.graphql_nesting.specs.declared.fragments.FragmentNesting.{FragmentNesting}
use Rattle.graphql_nesting.specs.declared.fragments.FragmentNestings.{FragmentNestings}
use Rattle.graphql_nesting.specs.declared.spreads.FragmentLevels.{FragmentLevels}
use Rattle.graphql_nesting.specs.declared.spreads.FragmentLevels.TheVariants.{Awaited, Known}
use Rattle.graphql_nesting.specs.declared.spreads.PlacedSpread.{PlacedSpread}
use Rattle.graphql_nesting.specs.declared.spreads.Progress.{Progress}
use Rattle.graphql_nesting.specs.declared.spreads.WaitingFragment.{WaitingFragment}
use Rattle.graphql_nesting.proofs.DescentLemmas.{shorter}
use Rattle.graphql_nesting.proofs.ProgressLemmas.{all_through, levels_found, nothing_from, one_at, something_at, stands_at}
use Rattle.graphql_nesting.proofs.WalkLemmas.{in_either}

-- after a write each number has what was written, or what it had
written_at : {X : Type 0} (xs : List X) (i : ℕ) (y : X) (j : ℕ) →
    ((j ≡ i) × (slice_get (slice_set xs i y) j ≡ Some y)) ⊎ (slice_get (slice_set xs i y) j ≡ slice_get xs j)
written_at [] i y j = inr refl
written_at (x ∷ xs) zero y zero = inl (refl, refl)
written_at (x ∷ xs) zero y (suc j) = inr refl
written_at (x ∷ xs) (suc i) y zero = inr refl
written_at {X} (x ∷ xs) (suc i) y (suc j) = further (written_at xs i y j) where
  further : ((j ≡ i) × (slice_get (slice_set xs i y) j ≡ Some y)) ⊎ (slice_get (slice_set xs i y) j ≡ slice_get xs j) →
      ((suc j ≡ suc i) × (slice_get (slice_set xs i y) j ≡ Some y)) ⊎ (slice_get (slice_set xs i y) j ≡ slice_get xs j)
  further (inl (e, is)) = inl (ap (λ n. suc n) e, is)
  further (inr is) = inr is

written_there : {X : Type 0} (xs : List X) (i : ℕ) (y : X) → i < length xs → slice_get (slice_set xs i y) i ≡ Some y
written_there [] i y within = absurd (omega arith)
written_there (x ∷ xs) zero y within = refl
written_there (x ∷ xs) (suc i) y within = written_there xs i y (omega arith)

-- the levels of the fragment of a number, by what is there
abbrev known_of : Option FragmentLevels → Option ℕ
known_of o = option_and_then known_levels o

abbrev waiting_of : Option FragmentLevels → List WaitingFragment
waiting_of o = option_map_or waiting_in o []

known_is : (known : List FragmentLevels) (i : ℕ) (o : Option FragmentLevels) → slice_get known i ≡ o → known_at known i ≡ known_of o
known_is known i o is = ap known_of is

waiting_is : (known : List FragmentLevels) (i : ℕ) (o : Option FragmentLevels) → slice_get known i ≡ o → waiting_at known i ≡ waiting_of o
waiting_is known i o is = ap waiting_of is

-- where a fragment waits for one, the levels of that are not known
awaited : (o : Option FragmentLevels) (w : WaitingFragment) → Contains (waiting_of o) w → (levels : FragmentLevels) × (o ≡ Some levels) × (known_of o ≡ None)
awaited None w in' = absurd (none_stands w in')
awaited (Some (Known n)) w in' = absurd (none_stands w in')
awaited (Some (Awaited waiting)) w in' = (Awaited waiting, refl, refl)

-- at first nothing is known
nothing_at : (known : List FragmentLevels) (i : ℕ) → All NothingKnown known → (known_at known i ≡ None) × (waiting_at known i ≡ [])
nothing_at [] i all = (refl, refl)
nothing_at (levels ∷ known) zero all = let first = All-head NothingKnown levels known all in (first.unknown, first.free)
nothing_at (levels ∷ known) (suc i) all = nothing_at known i (All-tail NothingKnown levels known all)

-- numbered elements
numbered_at : {X : Type 0} (xs : List X) (n i : ℕ) (x : X) → slice_get xs i ≡ Some x → Contains (enumerate_from n xs) (n + i, x)
numbered_at [] n i x is = absurd (let no : ⊥ = cc in no)
numbered_at {X} (y ∷ ys) n zero x is =
    let same : y ≡ x = cc in
    subst (λ (p : ℕ × X). Contains (enumerate_from n (y ∷ ys)) p) (let e : n ≡ n + 0 = omega arith in ap (λ m. (m, y)) e ∙ ap (λ (z : X). (n + 0, z)) same)
    (stands_first (n, y) (enumerate_from (n + 1) ys))
numbered_at {X} (y ∷ ys) n (suc i) x is =
    subst (λ (m : ℕ). Contains (enumerate_from n (y ∷ ys)) (m, x)) (let e : (n + 1) + i ≡ n + suc i = omega arith in e)
    (stands_behind (n, y) (enumerate_from (n + 1) ys) ((n + 1) + i, x) (numbered_at ys (n + 1) i x is))

numbers_of : {X : Type 0} (xs : List X) (n : ℕ) → All (λ p. (i : ℕ) × (p.0 ≡ n + i) × (slice_get xs i ≡ Some p.1)) (enumerate_from n xs)
numbers_of [] n = All-nil (λ p. (i : ℕ) × (p.0 ≡ n + i) × (slice_get [] i ≡ Some p.1))
numbers_of {X} (y ∷ ys) n =
    All-cons (λ (p : ℕ × X). (i : ℕ) × (p.0 ≡ n + i) × (slice_get (y ∷ ys) i ≡ Some p.1)) (n, y) (enumerate_from (n + 1) ys) (0, omega arith, refl)
    (All-weaker (λ (p : ℕ × X). (i : ℕ) × (p.0 ≡ (n + 1) + i) × (slice_get ys i ≡ Some p.1)) (λ (p : ℕ × X). (i : ℕ) × (p.0 ≡ n + i) × (slice_get (y ∷ ys) i ≡ Some p.1))
    (λ p (i, e, is). (suc i, (let e' : p.0 ≡ n + suc i = omega arith in e'), is)) (enumerate_from (n + 1) ys) (numbers_of ys (n + 1)))

-- how many wait, after a write
abbrev waiting_count : FragmentLevels → ℕ
waiting_count levels = length (waiting_in levels)

count_written : (known : List FragmentLevels) (i : ℕ) (levels : FragmentLevels) → i < length known →
    sum_by waiting_count (slice_set known i levels) + length (waiting_at known i) ≡ sum_by waiting_count known + waiting_count levels
count_written [] i levels within = absurd (omega arith)
count_written (old ∷ known) zero levels within = omega (arith, sum_by-cons waiting_count levels known, sum_by-cons waiting_count old known)
count_written (old ∷ known) (suc i) levels within =
    let rest = count_written known i levels (omega arith) in
    omega (arith, rest, sum_by-cons waiting_count old known, sum_by-cons waiting_count old (slice_set known i levels))

less_work : (t r t' r' : ℕ) → t ≡ t' + 1 → r' ≤ t' → t' * (t' + 1) + r' < t * (t + 1) + r
less_work t r t' r' e le = subst (λ t. t' * (t' + 1) + r' < t * (t + 1) + r) (sym e) (omega arith)

less_ready : (t r t' r' : ℕ) → t' ≡ t → r' < r → t' * (t' + 1) + r' < t * (t + 1) + r
less_ready t r t' r' e lt = subst (λ t'. t' * (t' + 1) + r' < t * (t + 1) + r) (sym e) (omega arith)

-- after a fragment's levels were found there is less work
pub settled_less : (known new : List FragmentLevels) (ready now : List WaitingFragment) (w : WaitingFragment) (i levels : ℕ) → i < length known →
    new ≡ slice_set known i (Known levels) → now ≡ ready ++ waiting_at known i → work new now < work known (ready ++ w ∷ [])
settled_less known new ready now w i levels within is more =
    let count = count_written known i (Known levels) within in
    let after : sum_by waiting_count new ≡ sum_by waiting_count (slice_set known i (Known levels)) = ap (sum_by waiting_count) is in
    let len : length now ≡ length ready + length (waiting_at known i) = ap length more ∙ length-append ready (waiting_at known i) in
    let was : length (ready ++ w ∷ []) ≡ length ready + 1 = length-append ready (w ∷ []) in
    less_work (count_left known (ready ++ w ∷ [])) (length (ready ++ w ∷ [])) (count_left new now) (length now) (omega arith) (omega arith)

-- so there is after a fragment waits
pub waits_less : (known new : List FragmentLevels) (ready : List WaitingFragment) (w more : WaitingFragment) (i : ℕ) → i < length known →
    PutsBehind known new i more → work new ready < work known (ready ++ w ∷ [])
waits_less known new ready w more i within p =
    let count = count_written known i p.levels within in
    let after : sum_by waiting_count new ≡ sum_by waiting_count (slice_set known i p.levels) = ap (sum_by waiting_count) p.written in
    let len : waiting_count p.levels ≡ length (waiting_at known i) + 1 = ap length p.waiting ∙ length-append (waiting_at known i) (more ∷ []) in
    let was : length (ready ++ w ∷ []) ≡ length ready + 1 = length-append ready (w ∷ []) in
    less_ready (count_left known (ready ++ w ∷ [])) (length (ready ++ w ∷ [])) (count_left new ready) (length ready) (omega arith) (omega arith)

module _ (document : ExecutableDocument) (fragments : List FragmentNesting) (listed : AreListed document fragments) where
  -- the fragments of the document by their numbers
  pub listed_at : (i : ℕ) (x : FragmentNesting) → slice_get fragments i ≡ Some x → slice_get (values document.fragments) i ≡ Some x.fragment.now
  listed_at i x is =
      ap (λ l. slice_get l i) (sym listed.all) ∙ slice_get-map (λ (x : FragmentNesting). x.fragment.now) fragments i ∙
      ap (option_map (λ (x : FragmentNesting). x.fragment.now)) is

  as_many_listed : length (values document.fragments) ≡ length fragments
  as_many_listed = ap length (sym listed.all) ∙ length-map fragments (λ (x : FragmentNesting). x.fragment.now)

  pub written_in : (i : ℕ) (x : FragmentNesting) → slice_get fragments i ≡ Some x → AreWrittenLevels document x.fragment.now.value.value.selection_set x.written
  written_in i x is = All-contains (λ x. AreWrittenLevels document x.fragment.now.value.value.selection_set x.written) fragments x listed.written (stands_at fragments i x is)

  pub searches_begin : (known : List FragmentLevels) (ready : List WaitingFragment) → length known ≡ length fragments → All NothingKnown known →
      ready ≡ map (λ p. start_of p.0 p.1) (enumerate_from 0 fragments) → Searches document fragments known ready
  searches_begin known ready as_many nothing is = record {
    listed = listed;
    as_many = as_many;
    right = λ number levels d is_known at. absurd (let none = (nothing_at known number nothing).0 in let no : ⊥ = cc in no);
    ready_ones = subst (All (IsWaiting document fragments)) (sym is) (All-map (IsWaiting document fragments) (λ p. start_of p.0 p.1) (enumerate_from 0 fragments)
        (All-weaker (λ p. (i : ℕ) × (p.0 ≡ 0 + i) × (slice_get fragments i ≡ Some p.1)) (λ p. IsWaiting document fragments (start_of p.0 p.1)) begun (enumerate_from 0 fragments) (numbers_of fragments 0)));
    waiting_ones = λ number. subst (All (WaitsFor document fragments number)) (sym (nothing_at known number nothing).1) (All-nil (WaitsFor document fragments number));
    each_left = λ number levels at unknown. left number (something_at fragments number (let within = slice_get_within known number levels at in omega arith));
  } where
    begun : (p : ℕ × FragmentNesting) → (i : ℕ) × (p.0 ≡ 0 + i) × (slice_get fragments i ≡ Some p.1) → IsWaiting document fragments (start_of p.0 p.1)
    begun p (i, e, at) =
        let same : i ≡ p.0 = omega arith in
        let at' : slice_get fragments p.0 ≡ Some p.1 = subst (λ n. slice_get fragments n ≡ Some p.1) same at in
        record { x = p.1; is = at'; before = (written_in p.0 p.1 at').before }

    left : (number : ℕ) → (x : FragmentNesting) × (slice_get fragments number ≡ Some x) → IsLeft known ready number
    left number (x, at) =
        let e : 0 + number ≡ number = omega arith in
        is_ready {w = start_of number x}
        (subst (λ l. Contains l (start_of number x)) (sym is)
        (stands_mapped (λ (p : ℕ × FragmentNesting). start_of p.0 p.1) (enumerate_from 0 fragments) (number, x)
        (subst (λ n. Contains (enumerate_from 0 fragments) (n, x)) e (numbered_at fragments 0 number x at)))) refl

  module _ (known : List FragmentLevels) (ready : List WaitingFragment) (w : WaitingFragment) (s : Searches document fragments known (ready ++ w ∷ [])) where
    waits_here : IsWaiting document fragments w
    waits_here = All-contains (IsWaiting document fragments) (ready ++ w ∷ []) w s.ready_ones (Contains-push ready w)

    others_ready : All (IsWaiting document fragments) ready
    others_ready = All-append_left (IsWaiting document fragments) ready (w ∷ []) s.ready_ones

    -- a fragment that is ready or waits
    pub within_known : w.fragment < length known
    within_known = let lt = slice_get_within fragments w.fragment waits_here.x waits_here.is in let same = s.as_many in omega arith

    module _ (x : FragmentNesting) (at : slice_get fragments w.fragment ≡ Some x) (end : Progress) (on : GoesOn known x.written.spreads.items w.progress end) where
      -- its spreads are of fragments
      pub spread_within : (p : PlacedSpread) (next : ℕ) → slice_get x.written.spreads.items next ≡ Some p → p.fragment < length known
      spread_within p next stands =
          let is = All-contains (IsPlaced document x.fragment.now.value.value.selection_set) x.written.spreads.items p (written_in w.fragment x at).placed
          (stands_at x.written.spreads.items next p stands) in
          let lt = slice_get_within (values document.fragments) p.fragment is.d is.is in
          let many = as_many_listed in
          let same = s.as_many in
          omega arith

      abbrev Before : ℕ → ℕ → Type 0
      Before next levels = HasLevelsBefore document x.fragment.now.value.value.selection_set (drop next x.written.spreads.items) levels

      before_end : Before end.next end.levels
      before_end =
          all_through document x.fragment.now.value.value.selection_set known s.right x.written.spreads.items (written_in w.fragment x at).placed w.progress end on
          (subst (λ (y : FragmentNesting). HasLevelsBefore document y.fragment.now.value.value.selection_set (drop w.progress.next y.written.spreads.items) w.progress.levels)
          (one_at (slice_get fragments w.fragment) waits_here.x x waits_here.is at) waits_here.before)

      -- all its spreads were gone through: these are its levels
      pub searches_settled : (new : List FragmentLevels) (now : List WaitingFragment) → slice_get x.written.spreads.items end.next ≡ None →
          new ≡ slice_set known w.fragment (Known end.levels) → now ≡ ready ++ waiting_at known w.fragment → Searches document fragments new now
      searches_settled new now none is more = subst (λ l. Searches document fragments l now) (sym is) (subst (Searches document fragments then) (sym more) (record {
        listed = listed;
        as_many = length-set known w.fragment (Known end.levels) ∙ s.as_many;
        right = λ number levels d is_known found. right number levels d is_known found (written_at known w.fragment (Known end.levels) number);
        ready_ones = All-append (IsWaiting document fragments) ready (waiting_at known w.fragment) others_ready
            (All-weaker (WaitsFor document fragments w.fragment) (IsWaiting document fragments) (λ v waits. waits.waits) (waiting_at known w.fragment) (s.waiting_ones w.fragment));
        waiting_ones = λ number. waiting number (written_at known w.fragment (Known end.levels) number);
        each_left = λ number levels found unknown. each number levels found unknown (written_at known w.fragment (Known end.levels) number);
      })) where
        then : List FragmentLevels
        then = slice_set known w.fragment (Known end.levels)

        has : HasLevels (fragments_of document) x.fragment.now.value.value.selection_set end.levels
        has = levels_found document x.fragment.now.value.value.selection_set (drop end.next x.written.spreads.items) end.levels (nothing_from x.written.spreads.items end.next none) before_end

        right : (number levels : ℕ) (d : Node Fragment) → known_at then number ≡ Some levels → slice_get (values document.fragments) number ≡ Some d →
            ((number ≡ w.fragment) × (slice_get then number ≡ Some (Known end.levels))) ⊎ (slice_get then number ≡ slice_get known number) →
            HasLevels (fragments_of document) d.value.value.selection_set levels
        right number levels d is_known found (inl (e, now_is)) =
            let same : end.levels ≡ levels = one_at (known_at then number) end.levels levels (ap known_of now_is) is_known in
            let one : x.fragment.now ≡ d =
            one_at (slice_get (values document.fragments) number) x.fragment.now d (ap (slice_get (values document.fragments)) e ∙ listed_at w.fragment x at) found in
            subst (λ (d : Node Fragment). HasLevels (fragments_of document) d.value.value.selection_set levels) one
            (subst (HasLevels (fragments_of document) x.fragment.now.value.value.selection_set) same has)
        right number levels d is_known found (inr as_before) = s.right number levels d (sym (ap known_of as_before) ∙ is_known) found

        waiting : (number : ℕ) → ((number ≡ w.fragment) × (slice_get then number ≡ Some (Known end.levels))) ⊎ (slice_get then number ≡ slice_get known number) →
            All (WaitsFor document fragments number) (waiting_at then number)
        waiting number (inl (e, now_is)) = subst (All (WaitsFor document fragments number)) (sym (ap waiting_of now_is)) (All-nil (WaitsFor document fragments number))
        waiting number (inr as_before) = subst (All (WaitsFor document fragments number)) (sym (ap waiting_of as_before)) (s.waiting_ones number)

        woken : (other : ℕ) (v : WaitingFragment) (number : ℕ) → Contains (waiting_at known other) v → v.fragment ≡ number →
            ((other ≡ w.fragment) × (slice_get then other ≡ Some (Known end.levels))) ⊎ (slice_get then other ≡ slice_get known other) →
            IsLeft then (ready ++ waiting_at known w.fragment) number
        woken other v number in' e (inl (same, now_is)) =
            is_ready {w = v} (Contains-append_right ready (waiting_at known w.fragment) v (subst (λ n. Contains (waiting_at known n) v) same in')) e
        woken other v number in' e (inr as_before) = is_waiting {w = v} other (subst (λ l. Contains l v) (sym (ap waiting_of as_before)) in') e

        was_ready : (v : WaitingFragment) (number : ℕ) → v.fragment ≡ number → known_at then number ≡ None → Contains ready v ⊎ Contains (w ∷ []) v →
            IsLeft then (ready ++ waiting_at known w.fragment) number
        was_ready v number e unknown (inl in') = is_ready {w = v} (Contains-append_left ready (waiting_at known w.fragment) v in') e
        was_ready v number e unknown (inr in') =
            let same : w.fragment ≡ number = ap (λ (v : WaitingFragment). v.fragment) (sym (only_one w v in')) ∙ e in
            let there : known_at then number ≡ Some end.levels =
            subst (λ n. known_at then n ≡ Some end.levels) same (ap known_of (written_there known w.fragment (Known end.levels) within_known)) in
            absurd (let no : ⊥ = cc in no)

        left : (number : ℕ) → known_at then number ≡ None → IsLeft known (ready ++ w ∷ []) number → IsLeft then (ready ++ waiting_at known w.fragment) number
        left number unknown (is_ready {w = v} in' e) = was_ready v number e unknown (in_either ready (w ∷ []) v in')
        left number unknown (is_waiting {w = v} other in' e) = woken other v number in' e (written_at known w.fragment (Known end.levels) other)

        each : (number : ℕ) (levels : FragmentLevels) → slice_get then number ≡ Some levels → known_at then number ≡ None →
            ((number ≡ w.fragment) × (slice_get then number ≡ Some (Known end.levels))) ⊎ (slice_get then number ≡ slice_get known number) →
            IsLeft then (ready ++ waiting_at known w.fragment) number
        each number levels found unknown (inl (e, now_is)) =
            let is_known : known_at then number ≡ Some end.levels = ap known_of now_is in
            absurd (let no : ⊥ = cc in no)
        each number levels found unknown (inr as_before) =
            left number unknown (s.each_left number levels (sym as_before ∙ found) (sym (ap known_of as_before) ∙ unknown))

      -- its next spread is of a fragment whose levels are not known: it waits for these
      pub searches_waits : (new : List FragmentLevels) (p : PlacedSpread) → slice_get x.written.spreads.items end.next ≡ Some p → known_at known p.fragment ≡ None →
          PutsBehind known new p.fragment (record { fragment = w.fragment; progress = end }) → Searches document fragments new ready
      searches_waits new p next unknown puts = subst (λ l. Searches document fragments l ready) (sym puts.written) (record {
        listed = listed;
        as_many = length-set known p.fragment puts.levels ∙ s.as_many;
        right = λ number levels d is_known found. right number levels d is_known found (written_at known p.fragment puts.levels number);
        ready_ones = others_ready;
        waiting_ones = λ number. waiting number (written_at known p.fragment puts.levels number);
        each_left = λ number levels found is_unknown. each number levels found is_unknown (written_at known p.fragment puts.levels number);
      }) where
        then : List FragmentLevels
        then = slice_set known p.fragment puts.levels

        now : WaitingFragment
        now = record { fragment = w.fragment; progress = end }

        right : (number levels : ℕ) (d : Node Fragment) → known_at then number ≡ Some levels → slice_get (values document.fragments) number ≡ Some d →
            ((number ≡ p.fragment) × (slice_get then number ≡ Some puts.levels)) ⊎ (slice_get then number ≡ slice_get known number) →
            HasLevels (fragments_of document) d.value.value.selection_set levels
        right number levels d is_known found (inl (e, now_is)) =
            let none : known_at then number ≡ None = ap known_of now_is ∙ puts.unknown in
            absurd (let no : ⊥ = cc in no)
        right number levels d is_known found (inr as_before) = s.right number levels d (sym (ap known_of as_before) ∙ is_known) found

        waits_now : WaitsFor document fragments p.fragment now
        waits_now = record { waits = record { x = x; is = at; before = before_end }; s = p; stands = next; is_next = refl }

        waiting : (number : ℕ) → ((number ≡ p.fragment) × (slice_get then number ≡ Some puts.levels)) ⊎ (slice_get then number ≡ slice_get known number) →
            All (WaitsFor document fragments number) (waiting_at then number)
        waiting number (inl (e, now_is)) =
            subst (All (WaitsFor document fragments number)) (sym (ap waiting_of now_is ∙ puts.waiting))
            (subst (λ n. All (WaitsFor document fragments n) (waiting_at known p.fragment ++ now ∷ [])) (sym e)
            (All-append (WaitsFor document fragments p.fragment) (waiting_at known p.fragment) (now ∷ []) (s.waiting_ones p.fragment)
            (All-cons (WaitsFor document fragments p.fragment) now [] waits_now (All-nil (WaitsFor document fragments p.fragment)))))
        waiting number (inr as_before) = subst (All (WaitsFor document fragments number)) (sym (ap waiting_of as_before)) (s.waiting_ones number)

        within : p.fragment < length known
        within = spread_within p end.next next

        there : waiting_at then p.fragment ≡ waiting_at known p.fragment ++ now ∷ []
        there = ap waiting_of (written_there known p.fragment puts.levels within) ∙ puts.waiting

        still : (other : ℕ) (v : WaitingFragment) (number : ℕ) → Contains (waiting_at known other) v → v.fragment ≡ number →
            ((other ≡ p.fragment) × (slice_get then other ≡ Some puts.levels)) ⊎ (slice_get then other ≡ slice_get known other) → IsLeft then ready number
        still other v number in' e (inl (same, now_is)) =
            is_waiting {w = v} other (subst (λ l. Contains l v) (sym (ap waiting_of now_is ∙ puts.waiting))
            (Contains-append_left (waiting_at known p.fragment) (now ∷ []) v (subst (λ n. Contains (waiting_at known n) v) same in'))) e
        still other v number in' e (inr as_before) = is_waiting {w = v} other (subst (λ l. Contains l v) (sym (ap waiting_of as_before)) in') e

        was_ready : (v : WaitingFragment) (number : ℕ) → v.fragment ≡ number → Contains ready v ⊎ Contains (w ∷ []) v → IsLeft then ready number
        was_ready v number e (inl in') = is_ready {w = v} in' e
        was_ready v number e (inr in') =
            is_waiting {w = now} p.fragment (subst (λ l. Contains l now) (sym there) (Contains-push (waiting_at known p.fragment) now))
            (ap (λ (v : WaitingFragment). v.fragment) (sym (only_one w v in')) ∙ e)

        left : (number : ℕ) → IsLeft known (ready ++ w ∷ []) number → IsLeft then ready number
        left number (is_ready {w = v} in' e) = was_ready v number e (in_either ready (w ∷ []) v in')
        left number (is_waiting {w = v} other in' e) = still other v number in' e (written_at known p.fragment puts.levels other)

        each : (number : ℕ) (levels : FragmentLevels) → slice_get then number ≡ Some levels → known_at then number ≡ None →
            ((number ≡ p.fragment) × (slice_get then number ≡ Some puts.levels)) ⊎ (slice_get then number ≡ slice_get known number) → IsLeft then ready number
        each number levels found is_unknown (inl (e, now_is)) =
            let (old, was) = something_at known p.fragment within in
            left number (s.each_left number old (ap (slice_get known) e ∙ was) (ap (known_at known) e ∙ unknown))
        each number levels found is_unknown (inr as_before) =
            left number (s.each_left number levels (sym as_before ∙ found) (sym (ap known_of as_before) ∙ is_unknown))

module _ (document : ExecutableDocument) (fragments : List FragmentNesting) (known : List FragmentLevels) (s : Searches document fragments known []) where
  -- a fragment whose levels are not known has ways down of so many levels
  abbrev Leads : ℕ → Type 0
  Leads n = (number : ℕ) (d : Node Fragment) → slice_get (values document.fragments) number ≡ Some d → known_at known number ≡ None →
      Descends (fragments_of document) d.value.value.selection_set n

  -- it waits for another one, which has ways down of one level less
  through : (n number : ℕ) (d : Node Fragment) → slice_get (values document.fragments) number ≡ Some d → Leads (suc n) → (w : WaitingFragment) (other : ℕ) →
      w.fragment ≡ number → known_at known other ≡ None → WaitsFor document fragments other w → Descends (fragments_of document) d.value.value.selection_set (suc (suc n))
  through n number d at less w other e none f =
      let x = f.waits.x in
      let written = written_in document fragments s.listed w.fragment x f.waits.is in
      let placed = All-contains (IsPlaced document x.fragment.now.value.value.selection_set) x.written.spreads.items f.s written.placed
      (stands_at x.written.spreads.items w.progress.next f.s f.stands) in
      let below = less other placed.d (subst (λ i. slice_get (values document.fragments) i ≡ Some placed.d) f.is_next placed.is) none in
      let way = placed.leads (suc n) below in
      let deep : 0 < f.s.above = placed.below_one in
      let one : x.fragment.now ≡ d =
      one_at (slice_get (values document.fragments) number) x.fragment.now d
      (subst (λ i. slice_get (values document.fragments) i ≡ Some x.fragment.now) e (listed_at document fragments s.listed w.fragment x f.waits.is)) at in
      subst (λ (d : Node Fragment). Descends (fragments_of document) d.value.value.selection_set (suc (suc n))) one (shorter (fragments_of document) (suc n) way (omega arith))

  -- where nothing is ready the fragments that are left are endless
  left_endless : (n : ℕ) → Leads (suc n)
  left_endless zero number d at unknown = one_level
  left_endless (suc n) number d at unknown = by (left_endless n) here (s.each_left number here.0 here.1 unknown) where
    here : (levels : FragmentLevels) × (slice_get known number ≡ Some levels)
    here = something_at known number
        (let lt = slice_get_within (values document.fragments) number d at in let many = as_many_listed document fragments s.listed in let same = s.as_many in omega arith)

    by : Leads (suc n) → (levels : FragmentLevels) × (slice_get known number ≡ Some levels) → IsLeft known [] number →
        Descends (fragments_of document) d.value.value.selection_set (suc (suc n))
    by less found (is_ready {w = w} in' e) = absurd (none_stands w in')
    by less found (is_waiting {w = w} other in' e) =
        through n number d at less w other e (awaited (slice_get known other) w in').2
        (All-contains (WaitsFor document fragments other) (waiting_at known other) w (s.waiting_ones other) in')

-- the search is over where nothing is ready
pub searches_end : (document : ExecutableDocument) (found : FragmentNestings) (ready : List WaitingFragment) → ready ≡ [] →
    Searches document found.fragments.items found.known.items ready → AreSettled document found
searches_end document found ready none searches = record {
  listed = s.listed;
  as_many = s.as_many;
  each = λ number d at. by number d at (known_at found.known.items number) refl;
} where
  s : Searches document found.fragments.items found.known.items []
  s = subst (Searches document found.fragments.items found.known.items) none searches

  by : (number : ℕ) (d : Node Fragment) → slice_get (values document.fragments) number ≡ Some d → (o : Option ℕ) → known_at found.known.items number ≡ o →
      MatchOption o (IsEndless (fragments_of document) d.value.value.selection_set) (HasLevels (fragments_of document) d.value.value.selection_set)
  by number d at None e = λ n. left_endless document found.fragments.items found.known.items s n number d at e
  by number d at (Some levels) e = s.right number levels d e at
