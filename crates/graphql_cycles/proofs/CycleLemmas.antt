-- Searches for cycles put together, over any references: nothing done, one after another, a reference
-- that is visited, and what a search from nothing shows. Each search for cycles cites these.
use Rattle.std.proofs.Common.{◌≡◌, ℕ, ◌+◌, ◌⊎◌, inl, inr, List, [], ◌∷◌, ◌++◌, Option, Some, map, reverse, refl, sym, ap, ◌∙◌, subst, IsFalse, All, append_assoc}
use Rattle.std.specs.Prelude.{Result}
use Rattle.std.specs.Borrow.{Bor}
use Rattle.std.specs.List.{AllZip}
use Rattle.std.specs.declared.vec.Vec.{Vec}
use Rattle.std.specs.declared.alloc.Global.{Global}
use Rattle.std.proofs.lemmas.List.{reverse-append}
use Rattle.std.proofs.lemmas.List.Elements.{All-nil, All-cons, All-head}
use Rattle.std.proofs.lemmas.Result.{MatchResult-weaker}
use Rattle.graphql_nodes.proofs.NameLemmas.{not_both, same_name_back, same_name_itself, same_name_then}
use Rattle.graphql_documents.proofs.ListLemmas.{All-append_right}
use Rattle.graphql_nodes.specs.Names.{DifferentNames, HasDifferentNames, NameText, SameName, stands_on}
use Rattle.graphql_nodes.specs.Nodes.{SameNode}
use Rattle.graphql_documents.specs.Paths.{Path, path_of_one, path_of_more, IsCycle, HasNoCycle, HasLongPath}
use Rattle.graphql_nodes.specs.declared.nodes.Node.{Node}
use Rattle.graphql_guards.specs.Guards.{Refuses, path_limit, path_of}
use Rattle.graphql_guards.specs.declared.recursion.CycleError.{CycleError}
use Rattle.graphql_guards.specs.declared.recursion.CycleError.TheVariants.{Recursed, Limit, Memory}
use Rattle.graphql_guards.specs.declared.recursion.RecursionStack.{RecursionStack}
use Rattle.graphql_cycles.proofs.SeenNameLemmas.{Marked, marked_grows, marked_is_seen, marked_only, names_at, one_too_many}
use Rattle.graphql_cycles.specs.CycleSearches.{Next, Way, way_of_one, way_of_more, Closes, LeadsBack, GoesFar, Traces, StopsBy, Searches, GoesOn, IsSeen, StandsOn}

module _ {Definition Reference : Type 0} {RefersBy : Definition → Reference → Type 0} {target : Reference → Option Definition} where
  -- a way that begins with one of these begins with one of more
  pub way_wider : {begins more : Reference → Type 0} {rs : List Reference} → ((r : Reference) → begins r → more r) →
      Way RefersBy target begins rs → Way RefersBy target more rs
  way_wider wide (way_of_one {r = r} b) = way_of_one (wide r b)
  way_wider wide (way_of_more {r = r} b is rest) = way_of_more (wide r b) is rest

  -- a way that begins in a definition is a path from it
  pub path_of_way : {d : Definition} {rs : List Reference} → Way RefersBy target (RefersBy d) rs → Path RefersBy target d rs
  path_of_way (way_of_one b) = path_of_one b
  path_of_way (way_of_more b is rest) = path_of_more b is rest

  module _ {Key : Type 0} {key_of : Reference → Key} {IsBack : Reference → Type 0} where
    -- nothing is to be done where all of it was seen before
    pub closes_nothing : {begins : Reference → Type 0} {seen : Key → Type 0} → ((r : Reference) → begins r → seen (key_of r)) →
        Closes RefersBy target key_of IsBack begins seen seen
    closes_nothing before = record { grows = λ k h. h; begun = before; closed = λ r h. inl h; apart = λ r h. inl h }

    -- a search that was to begin with fewer
    pub closes_fewer : {begins fewer : Reference → Type 0} {old new : Key → Type 0} → ((r : Reference) → fewer r → begins r) →
        Closes RefersBy target key_of IsBack begins old new → Closes RefersBy target key_of IsBack fewer old new
    closes_fewer among c = record { grows = c.grows; begun = λ r b. c.begun r (among r b); closed = c.closed; apart = c.apart }

    -- one search after another
    pub closes_then : {begins more : Reference → Type 0} {old mid new : Key → Type 0} →
        Closes RefersBy target key_of IsBack begins old mid → Closes RefersBy target key_of IsBack more mid new →
        Closes RefersBy target key_of IsBack (λ r. begins r ⊎ more r) old new
    closes_then a b = record {
      grows = λ k h. b.grows k (a.grows k h);
      begun = λ r h. elim h [ inl first ↦ b.grows _ (a.begun r first) | inr second ↦ b.begun r second ];
      closed = λ r h. elim (b.closed r h) [
        | inl before ↦ elim (a.closed r before) [ inl first ↦ inl first | inr all ↦ inr (λ s n. b.grows _ (all s n)) ]
        | inr all ↦ inr all
      ];
      apart = λ r h. elim (b.apart r h) [
        | inl before ↦ elim (a.apart r before) [ inl first ↦ inl first | inr away ↦ inr away ]
        | inr away ↦ inr away
      ];
    }

    -- a key is marked, and then the search goes on with what comes next
    pub closes_below : {begins below : Reference → Type 0} {old mid new marked : Key → Type 0} →
        ((k : Key) → old k → mid k) → ((r : Reference) → begins r → mid (key_of r)) → ((k : Key) → mid k → old k ⊎ marked k) →
        ((r : Reference) → marked (key_of r) → ¬ IsBack r) →
        ((r s : Reference) → marked (key_of r) → Next RefersBy target r s → below s) →
        Closes RefersBy target key_of IsBack below mid new → Closes RefersBy target key_of IsBack begins old new
    closes_below grows marks only away next c = record {
      grows = λ k h. c.grows k (grows k h);
      begun = λ r h. c.grows _ (marks r h);
      closed = λ r h. elim (c.closed r h) [
        | inl before ↦ elim (only _ before) [ inl first ↦ inl first | inr here ↦ inr (λ s n. c.begun s (next r s here n)) ]
        | inr all ↦ inr all
      ];
      apart = λ r h. elim (c.apart r h) [
        | inl before ↦ elim (only _ before) [ inl first ↦ inl first | inr here ↦ inr (away r here) ]
        | inr never ↦ inr never
      ];
    }

  -- a search from nothing that began with what a definition refers to shows that no way leads back
  pub closed_no_way_back : {Key : Type 0} {key_of : Reference → Key} {IsBack : Definition → Reference → Type 0} {old new : Key → Type 0} (d : Definition) →
      ((k : Key) → ¬ old k) → Closes RefersBy target key_of (IsBack d) (RefersBy d) old new → HasNoCycle RefersBy target IsBack d
  closed_no_way_back {key_of = key_of} {IsBack = IsBack} {new = new} d nothing c path cycle =
      let all : All (λ r. new (key_of r)) (cycle.before ++ cycle.last ∷ []) =
      subst (All (λ r. new (key_of r))) cycle.ends (seen_along cycle.is_path c.begun) in
      let last : new (key_of cycle.last) =
      All-head (λ r. new (key_of r)) cycle.last [] (All-append_right (λ r. new (key_of r)) cycle.before (cycle.last ∷ []) all) in
      elim (c.apart cycle.last last) [ inl before ↦ nothing _ before | inr away ↦ away cycle.is_back ] where
        seen_along : {e : Definition} {rs : List Reference} → Path RefersBy target e rs → ((r : Reference) → RefersBy e r → new (key_of r)) →
            All (λ r. new (key_of r)) rs
        seen_along (path_of_one {r = r} refers) begun =
            All-cons (λ r. new (key_of r)) r [] (begun r refers) (All-nil (λ r. new (key_of r)))
        seen_along (path_of_more {next = next} {r = r} {rs = rs} refers is rest) begun =
            All-cons (λ r. new (key_of r)) r rs (begun r refers) (seen_along rest (λ s h.
            elim (c.closed r (begun r refers)) [
              | inl before ↦ absurd (nothing _ before)
              | inr all ↦ all s (record { definition = next; leads = is; refers = h })
            ]))

  -- a way back, seen from further off, from one step before, and as a cycle
  pub leads_back_wider : {IsBack begins more : Reference → Type 0} {Shows : List Reference → Type 0} → ((r : Reference) → begins r → more r) →
      LeadsBack RefersBy target IsBack begins Shows → LeadsBack RefersBy target IsBack more Shows
  leads_back_wider wide l = record { before = l.before; last = l.last; is_way = way_wider wide l.is_way; is_back = l.is_back; shows = l.shows }

  pub leads_back_here : {IsBack begins : Reference → Type 0} {Shows : List Reference → Type 0} (r : Reference) → begins r → IsBack r → Shows (r ∷ []) →
      LeadsBack RefersBy target IsBack begins Shows
  leads_back_here r b back shows = record { before = []; last = r; is_way = way_of_one b; is_back = back; shows = shows }

  pub leads_back_before : {IsBack begins : Reference → Type 0} {Shows Before : List Reference → Type 0} (r : Reference) (next : Definition) →
      begins r → target r ≡ Some next → ((rs : List Reference) → Shows rs → Before (r ∷ rs)) →
      LeadsBack RefersBy target IsBack (RefersBy next) Shows → LeadsBack RefersBy target IsBack begins Before
  leads_back_before r next b is shows l = record {
    before = r ∷ l.before;
    last = l.last;
    is_way = way_of_more b is (path_of_way l.is_way);
    is_back = l.is_back;
    shows = shows (l.before ++ l.last ∷ []) l.shows;
  }

  pub cycle_of : {IsBack : Definition → Reference → Type 0} {Shows : List Reference → Type 0} (d : Definition) →
      (l : LeadsBack RefersBy target (IsBack d) (RefersBy d) Shows) → IsCycle RefersBy target IsBack d (l.before ++ l.last ∷ [])
  cycle_of d l = record { before = l.before; last = l.last; ends = refl; is_path = path_of_way l.is_way; is_back = l.is_back }

  -- a long way, seen from further off, and from one step before
  pub goes_far_wider : {begins more : Reference → Type 0} {IsLong : List Reference → Type 0} → ((r : Reference) → begins r → more r) →
      GoesFar RefersBy target begins IsLong → GoesFar RefersBy target more IsLong
  goes_far_wider wide g = record { way = g.way; is_way = way_wider wide g.is_way; is_long = g.is_long }

  pub goes_far_here : {begins : Reference → Type 0} {IsLong : List Reference → Type 0} (r : Reference) → begins r → IsLong (r ∷ []) →
      GoesFar RefersBy target begins IsLong
  goes_far_here r b long = record { way = r ∷ []; is_way = way_of_one b; is_long = long }

  pub goes_far_before : {begins : Reference → Type 0} {IsLong Before : List Reference → Type 0} (r : Reference) (next : Definition) →
      begins r → target r ≡ Some next → ((rs : List Reference) → IsLong rs → Before (r ∷ rs)) →
      GoesFar RefersBy target (RefersBy next) IsLong → GoesFar RefersBy target begins Before
  goes_far_before r next b is long g = record {
    way = r ∷ g.way;
    is_way = way_of_more b is (path_of_way g.is_way);
    is_long = long g.way g.is_long;
  }

  -- a long way from a definition, as a path
  pub long_path : {name_of : Reference → NameText} {count : ℕ} (own : NameText) (d : Definition) →
      GoesFar RefersBy target (RefersBy d) (λ way. HasDifferentNames count (own ∷ map name_of way)) → HasLongPath RefersBy target name_of own d count
  long_path own d g = (g.way, path_of_way g.is_way, g.is_long)

-- one more of each of two lists
zipped_more : {X Y : Type 0} (R : X → Y → Type 0) (xs : List X) (ys : List Y) (x : X) (y : Y) → AllZip R xs ys → R x y → AllZip R (xs ++ x ∷ []) (ys ++ y ∷ [])
zipped_more R [] [] x y all here = (here, tt)
zipped_more R [] (v ∷ ys) x y all here = absurd all
zipped_more R (u ∷ xs) [] x y all here = absurd all
zipped_more R (u ∷ xs) (v ∷ ys) x y all here = (all.0, zipped_more R xs ys x y all.1 here)

-- a step before a way is the last of its trace
pub traces_more : {T : Type 0} {trace more way : List (Node T)} (step copy : Node T) → more ≡ trace ++ copy ∷ [] → SameNode step copy →
    Traces trace way → Traces more (step ∷ way)
traces_more {trace = trace} {more = more} {way = way} step copy is same t = record {
  copies = subst (λ l. AllZip SameNode l more) (sym (reverse-append (step ∷ []) way))
      (subst (AllZip SameNode (reverse way ++ step ∷ [])) (sym is) (zipped_more SameNode (reverse way) trace step copy t.copies same));
}

-- searches whose seen keys are names
module _ {Definition Reference : Type 0} (RefersBy : Definition → Reference → Type 0) (target : Reference → Option Definition)
    (name_of : Reference → NameText) (root : NameText) where
  -- what a search that began with these has done
  abbrev pub ClosesNames : (Reference → Type 0) → (old new : List (Bor NameText)) → Type 0
  ClosesNames begins old new = Closes RefersBy target name_of (λ r. SameName (name_of r) root) begins (IsSeen old) (IsSeen new)

  module _ (r : Reference) {old mid : List (Bor NameText)} (m : Marked (name_of r) old mid) (other : DifferentNames (name_of r) root) where
    is_seen_now : (s : Reference) → s ≡ r → IsSeen mid (name_of s)
    is_seen_now s same = marked_is_seen m (name_of s) (subst (λ q. SameName (name_of q) (name_of r)) (sym same) (same_name_itself (name_of r)))

    not_back : (s : Reference) → SameName (name_of s) (name_of r) → ¬ SameName (name_of s) root
    not_back s same back =
        not_both (name_of r) root (same_name_then (name_of r) (name_of s) root (same_name_back (name_of s) (name_of r) same) back) other

    -- a reference whose name was marked, and whose definition was searched, which is all that its name finds
    pub closes_into : (d : Definition) (new : List (Bor NameText)) →
        ((s : Reference) (e : Definition) → SameName (name_of s) (name_of r) → target s ≡ Some e → e ≡ d) →
        ClosesNames (RefersBy d) mid new → ClosesNames (λ s. s ≡ r) old new
    closes_into d new only c =
        closes_below {marked = λ k. SameName k (name_of r)} (marked_grows m) is_seen_now (marked_only m) not_back
        (λ s q same next. subst (λ e. RefersBy e q) (only s next.definition same next.leads) next.refers) c

    -- or whose name finds nothing
    pub closes_at : ((s : Reference) (e : Definition) → SameName (name_of s) (name_of r) → ¬ (target s ≡ Some e)) → ClosesNames (λ s. s ≡ r) old mid
    closes_at none =
        closes_below {below = λ s. ⊥} {marked = λ k. SameName k (name_of r)} (marked_grows m) is_seen_now (marked_only m) not_back
        (λ s q same next. none s next.definition same next.leads) (closes_nothing (λ s never. absurd never))

module _ {Definition T : Type 0} (RefersBy : Definition → Node T → Type 0) (target : Node T → Option Definition) (name_of : Node T → NameText) (root : NameText) where
  -- why a search stopped, seen from further off
  pub stops_wider : (begins more : Node T → Type 0) (path : List NameText) (limit : ℕ) (e : CycleError T) → ((r : Node T) → begins r → more r) →
      StopsBy RefersBy target name_of root begins path limit e → StopsBy RefersBy target name_of root more path limit e
  stops_wider begins more path limit (Recursed trace) wide s = leads_back_wider wide s
  stops_wider begins more path limit Limit wide s = goes_far_wider wide s
  stops_wider begins more path limit Memory wide s = tt

  -- what a search has done, in other words
  pub searches_words : {X : Type 0} (begins begins' : Node T → Type 0) (path : List NameText) (limit : ℕ) (old new : List (Bor NameText))
      (r : Result X (CycleError T)) → ((p : Node T) → begins p → begins' p) → ((p : Node T) → begins' p → begins p) →
      Searches RefersBy target name_of root begins path limit old new r → Searches RefersBy target name_of root begins' path limit old new r
  searches_words begins begins' path limit old new r there back s =
      MatchResult-weaker r s (λ x c. closes_fewer back c) (λ e. stops_wider begins begins' path limit e there)

  -- why it stopped, from one step before
  pub stops_before : (begins : Node T → Type 0) (path : List NameText) (limit : ℕ) (step : Node T) (next : Definition) (e after : CycleError T) →
      begins step → target step ≡ Some next → GoesOn step e after →
      StopsBy RefersBy target name_of root (RefersBy next) (path ++ name_of step ∷ []) limit e →
      StopsBy RefersBy target name_of root begins path limit after
  stops_before begins path limit step next (Recursed trace) (Recursed more) b is on s =
      leads_back_before step next b is (λ rs. traces_more step on.0 on.1 on.2) s
  stops_before begins path limit step next (Recursed trace) Limit b is on s = absurd on
  stops_before begins path limit step next (Recursed trace) Memory b is on s = tt
  stops_before begins path limit step next Limit (Recursed more) b is on s = absurd on
  stops_before begins path limit step next Limit Limit b is on s =
      goes_far_before step next b is
      (λ rs. subst (HasDifferentNames (limit + 1)) (append_assoc path (name_of step ∷ []) (map name_of rs))) s
  stops_before begins path limit step next Limit Memory b is on s = tt
  stops_before begins path limit step next Memory (Recursed more) b is on s = absurd on
  stops_before begins path limit step next Memory Limit b is on s = absurd on
  stops_before begins path limit step next Memory Memory b is on s = tt

  -- the step leads back itself: its copy is all of the trace
  pub stops_at_root : (begins : Node T → Type 0) (path : List NameText) (limit : ℕ) (step : Node T) (none : Vec (Node T) Global) (after : CycleError T) →
      begins step → SameName (name_of step) root → none.items ≡ [] → GoesOn step (Recursed none) after →
      StopsBy RefersBy target name_of root begins path limit after
  stops_at_root begins path limit step none (Recursed more) b back empty on =
      let nothing : Traces {T = T} [] [] = record { copies = tt } in
      leads_back_here step b back (traces_more {trace = []} step on.0 (on.1 ∙ ap (λ l. l ++ on.0 ∷ []) empty) on.2 nothing)
  stops_at_root begins path limit step none Limit b back empty on = absurd on
  stops_at_root begins path limit step none Memory b back empty on = tt

  -- the path refuses the name of the step
  pub stops_at_refusal : (stack : RecursionStack) (seen : List (Bor NameText)) (step : Node T) (e : CycleError T) →
      StandsOn root (path_of stack) (path_limit stack) seen → IsFalse (stands_on (names_at seen) (name_of step)) → DifferentNames (name_of step) root →
      Refuses stack e → StopsBy RefersBy target name_of root (λ r. r ≡ step) (path_of stack) (path_limit stack) e
  stops_at_refusal stack seen step (Recursed trace) s unseen other refused = absurd refused
  stops_at_refusal stack seen step Limit s unseen other refused = goes_far_here step refl (one_too_many s (name_of step) unseen other refused)
  stops_at_refusal stack seen step Memory s unseen other refused = tt
