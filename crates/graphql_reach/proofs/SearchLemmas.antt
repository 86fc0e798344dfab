-- The search for the fragments that a set reaches: what it keeps, and what it has found at its end.
use Rattle.std.proofs.Common.{◌≡◌, ℕ, ◌+◌, ◌<◌, List, [], ◌∷◌, ◌++◌, Bor, Some, arith, length, refl, sym, ap, ◌∙◌, subst, All, Contains, IsTrue}
use Rattle.std.specs.Prelude.{◌⊎◌, IsSome}
use Rattle.std.proofs.lemmas.List.{length-append, length-map}
use Rattle.std.proofs.lemmas.List.Elements.{All-append, All-weaker, Contains-append_cases, Contains-append_left, Contains-append_right}
use mathlib.Core.Logic.{inl, inr}
use Rattle.graphql_nodes.specs.Names.{NameText, stands_on}
use Rattle.graphql_nodes.specs.declared.nodes.Node.{Node}
use Rattle.graphql_documents.proofs.ListLemmas.{All-append_left, All-append_right, none_stands, only_one}
use Rattle.std.proofs.lemmas.List.Elements.{All-head}
use Rattle.graphql_documents.specs.Selections.{fragments_of, selections_of}
use Rattle.graphql_documents.specs.declared.documents.executables.ExecutableDocument.{ExecutableDocument}
use Rattle.graphql_documents.specs.declared.documents.executables.Fragment.{Fragment}
use Rattle.graphql_documents.specs.declared.documents.executables.Selection.TheVariants as kind
use Rattle.graphql_documents.specs.declared.documents.executables.SelectionSet.{SelectionSet}
use Rattle.graphql_reach.specs.Written.{SetHas}
use Rattle.graphql_reach.specs.Reached.{AddsSpreads, IsReachedFrom, IsSpreadFrom, ReachesNames, SpreadsInFragment, SpreadsName, pending_names, reached_names, unreached}
use Rattle.graphql_reach.specs.declared.reached.Reached.{Reached}
use Rattle.graphql_reach.proofs.ReachedLemmas.{Covers, covers_reached, reach_spread, reach_written}
use Rattle.graphql_reach.proofs.SpreadLemmas.{still_stands}

-- how much the search has before it: the fragments that were not reached, and those that wait
abbrev pub left : ExecutableDocument → Reached → ℕ
left document reached = unreached (reached_names reached) document.fragments.entries + length reached.pending.items

pub less_left : (document : ExecutableDocument) (P : NameText → Type 0) (popped new : Reached) (x : Bor NameText) → AddsSpreads document P popped new →
    left document new < unreached (reached_names popped) document.fragments.entries + length (popped.pending.items ++ x ∷ [])
less_left document P popped new x a =
    let text : Bor NameText → NameText = λ reference. reference.now in
    let grown : length (pending_names new) ≡ length (pending_names popped ++ a.added) = ap length a.waiting in
    omega (
      arith,
      grown,
      length-append (pending_names popped) a.added,
      length-map new.pending.items text,
      length-map popped.pending.items text,
      length-append popped.pending.items (x ∷ []),
      a.counted,
    )

module _ (document : ExecutableDocument) (set : SelectionSet) where
  -- each name that was reached is spread; what the set spreads was reached, and what the fragment of a name that was reached does, unless it waits
  pub record Searches (reached : Reached) : Type 0 where
    pub each : All (IsReachedFrom (fragments_of document) set) (reached_names reached)
    pub waiting : All (IsReachedFrom (fragments_of document) set) (pending_names reached)
    pub begun : Covers document (reached_names reached) set
    pub followed : (known : NameText) → Contains (reached_names reached) known →
        Contains (pending_names reached) known ⊎ ((d : Node Fragment) → fragments_of document known ≡ Some d → Covers document (reached_names reached) d.value.value.selection_set)

  written_spread : (name : NameText) → SetHas SpreadsName set name → IsSpreadFrom (fragments_of document) set name
  written_spread name (s, (inner, written, stands), (p, e, is)) =
      (p, reach_written (fragments_of document) (kind.FragmentSpread p) written (subst (Contains (selections_of inner)) e stands), is)

  spread_from : (name spread : NameText) → IsSpreadFrom (fragments_of document) set name → SpreadsInFragment (fragments_of document) name spread →
      IsSpreadFrom (fragments_of document) set spread
  spread_from name spread (p, reached, is) (d, found, (s, (inner, written, stands), (q, e, names))) = (
    q,
    reach_spread (fragments_of document) p d (kind.FragmentSpread q) reached (subst (λ n. fragments_of document n ≡ Some d) is found)
        (reach_written (fragments_of document) (kind.FragmentSpread q) written (subst (Contains (selections_of inner)) e stands)),
    names,
  )

  still_covers : (names more new : List NameText) (inside : SelectionSet) → new ≡ names ++ more → Covers document names inside → Covers document new inside
  still_covers names more new inside grown covers name has defined =
      subst (λ l. IsTrue (stands_on l name)) (sym grown) (still_stands names more name (covers name has defined))

  pub searches_begin : (empty reached : Reached) → reached_names empty ≡ [] → pending_names empty ≡ [] → AddsSpreads document (SetHas SpreadsName set) empty reached → Searches reached
  searches_begin empty reached no_names no_pending a =
      let names : reached_names reached ≡ a.added = a.names ∙ ap (λ l. l ++ a.added) no_names in
      let pending : pending_names reached ≡ a.added = a.waiting ∙ ap (λ l. l ++ a.added) no_pending in
      let each = All-weaker (λ name. SetHas SpreadsName set name × IsSome (fragments_of document name)) (IsReachedFrom (fragments_of document) set)
      (λ name its. (written_spread name its.0, its.1)) a.added a.each in
      record {
        each = subst (All (IsReachedFrom (fragments_of document) set)) (sym names) each;
        waiting = subst (All (IsReachedFrom (fragments_of document) set)) (sym pending) each;
        begun = a.there;
        followed = λ known stands. inl (subst (λ l. Contains l known) (names ∙ sym pending) stands);
      }

  pub searches_step : (before popped after : Reached) (name : NameText) → reached_names popped ≡ reached_names before →
      pending_names before ≡ pending_names popped ++ name ∷ [] → AddsSpreads document (SpreadsInFragment (fragments_of document) name) popped after →
      Searches before → Searches after
  searches_step before popped after name same rest a h =
      let Spread : NameText → Type 0 = IsReachedFrom (fragments_of document) set in
      let grown : reached_names after ≡ reached_names before ++ a.added = a.names ∙ ap (λ l. l ++ a.added) same in
      let waited : All Spread (pending_names popped ++ name ∷ []) = subst (All Spread) rest h.waiting in
      let own : Spread name = All-head Spread name [] (All-append_right Spread (pending_names popped) (name ∷ []) waited) in
      let added : All Spread a.added = All-weaker (λ spread. SpreadsInFragment (fragments_of document) name spread × IsSome (fragments_of document spread)) Spread
      (λ spread its. (spread_from name spread own.0 its.0, its.1)) a.added a.each in
      record {
        each = subst (All Spread) (sym grown) (All-append Spread (reached_names before) a.added h.each added);
        waiting = subst (All Spread) (sym a.waiting) (All-append Spread (pending_names popped) a.added (All-append_left Spread (pending_names popped) (name ∷ []) waited) added);
        begun = still_covers (reached_names before) a.added (reached_names after) set grown h.begun;
        followed = λ known stands. by_place known (Contains-append_cases (reached_names before) a.added known (subst (λ l. Contains l known) grown stands));
      } where
        Follows : NameText → Type 0
        Follows known = (d : Node Fragment) → fragments_of document known ≡ Some d → Covers document (reached_names after) d.value.value.selection_set

        Held : NameText → Type 0
        Held known = Contains (pending_names after) known ⊎ Follows known

        waits : (known : NameText) → Contains (pending_names popped) known → Held known
        waits known there = inl (subst (λ l. Contains l known) (sym a.waiting) (Contains-append_left (pending_names popped) a.added known there))

        now : Follows name
        now d is spread has defined = a.there spread (d, is, has) defined

        by_waiting : (known : NameText) → Contains (pending_names popped) known ⊎ Contains (name ∷ []) known → Held known
        by_waiting known (inl there) = waits known there
        by_waiting known (inr last) = inr (subst Follows (sym (only_one name known last)) now)

        by_old : (known : NameText) → Contains (pending_names before) known ⊎ ((d : Node Fragment) → fragments_of document known ≡ Some d → Covers document (reached_names before) d.value.value.selection_set) → Held known
        by_old known (inl there) = by_waiting known (Contains-append_cases (pending_names popped) (name ∷ []) known (subst (λ l. Contains l known) rest there))
        by_old known (inr follows) = inr (λ d is. still_covers (reached_names before) a.added (reached_names after) d.value.value.selection_set
            (a.names ∙ ap (λ l. l ++ a.added) same) (follows d is))

        by_place : (known : NameText) → Contains (reached_names before) known ⊎ Contains a.added known → Held known
        by_place known (inl old) = by_old known (h.followed known old)
        by_place known (inr new) = inl (subst (λ l. Contains l known) (sym a.waiting) (Contains-append_right (pending_names popped) a.added known new))

  pub searches_end : (reached : Reached) → pending_names reached ≡ [] → Searches reached → ReachesNames (fragments_of document) set (reached_names reached)
  searches_end reached none h = record {
    each = h.each;
    all = λ name (p, reaches, is) defined. covers_reached document (reached_names reached) (λ known stands. followed known (h.followed known stands)) reaches h.begun name (p, refl, is) defined;
  } where
    followed : (known : NameText) → Contains (pending_names reached) known ⊎ ((d : Node Fragment) → fragments_of document known ≡ Some d → Covers document (reached_names reached) d.value.value.selection_set) →
        (d : Node Fragment) → fragments_of document known ≡ Some d → Covers document (reached_names reached) d.value.value.selection_set
    followed known (inl there) = absurd (none_stands known (subst (λ l. Contains l known) none there))
    followed known (inr follows) = follows
