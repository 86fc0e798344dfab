-- What the steps of a walk over selections do to what it has visited, and how deep it gets.
use Rattle.std.proofs.Common.{ℕ, suc, ◌≡◌, ◌+◌, ◌<◌, ◌≤◌, ◌⊎◌, inl, inr, Bool, true, false, ◌||◌, not, if◌then◌else◌, map, List, [], ◌∷◌, ◌++◌, Some, None, IsTrue, IsFalse, length, take, drop, get_or, refl, sym, ap, ◌∙◌, subst, Contains, arith}
use Rattle.std.specs.List.{list_any}
use Rattle.std.specs.Str.{bytes_eq}
use Rattle.std.proofs.lemmas.Option.{none-some, same_Some}
use Rattle.indexmap.specs.IndexSet.{insert_key}
use Rattle.std.proofs.lemmas.List.{map-append, take_all}
use Rattle.std.proofs.lemmas.List.Elements.{All-nil, All-cons, All-weaker, Contains-append_left, Contains-append_right, Contains-append_cases}
use Rattle.std.proofs.lemmas.List.Folds.{list_any-append}
use Rattle.std.proofs.lemmas.List.Kept.{AllPairs-cons}
use Rattle.graphql_documents.proofs.SelectionLemmas.{one_fragment_found, not_inline, not_spread, same_field, same_inline, spread_not_inline, same_spread}
use Rattle.graphql_documents.proofs.ListLemmas.{more_is, only_one, stands_first}
use Rattle.graphql_nodes.proofs.NameLemmas.{same_name_back, same_name_itself, same_text}
use Rattle.graphql_nodes.specs.Names.{DifferentNames, NameText, SameName, same_name, stands_on, with_name}
use Rattle.graphql_documents.specs.Selections.{Fragments, fragments_of, selections_of}
use Rattle.graphql_documents.specs.Walks.{Walk, descent_ends, descent_into_field, descent_into_fragment, descent_into_inline_fragment}
use Rattle.graphql_documents.specs.declared.documents.executables.Field.{Field}
use Rattle.graphql_documents.specs.declared.documents.executables.Fragment.{Fragment}
use Rattle.graphql_documents.specs.declared.documents.executables.FragmentSpread.{FragmentSpread}
use Rattle.graphql_documents.specs.declared.documents.executables.InlineFragment.{InlineFragment}
use Rattle.graphql_documents.specs.declared.documents.executables.Selection.TheVariants as kind
use Rattle.graphql_documents.specs.declared.documents.executables.Selection.{Selection}
use Rattle.graphql_documents.specs.declared.documents.executables.SelectionSet.{SelectionSet}
use Rattle.graphql_nodes.specs.declared.nodes.Node.{Node}
use Rattle.graphql_variables.proofs.SplitLemmas.{split_at}
use Rattle.graphql_variables.proofs.SearchLemmas.{finds_nothing, searched_before, finds_from_more, searched_words, finds_then, searched_then, finds_below, searched_below}
use Rattle.graphql_variables.specs.Searches.{Finds, Searched}
use Rattle.graphql_variables.specs.WalkSteps.{Stop, at_selection, at_name, walk_of, IsInSet, IsName, BeginsIn, GoesThrough, Step, into_field, into_inline_fragment, to_name, into_fragment, visited_fragment_names, listed_of, IsVisited, StepOf, PassesFrom, HasWalked}
use Rattle.graphql_variables.specs.declared.walks.Extent.TheVariants as extent
use Rattle.graphql_variables.specs.declared.walks.Extent.{Extent}
use Rattle.graphql_variables.specs.declared.walks.Visited.{Visited}
use Rattle.graphql_variables.specs.declared.walks.SelectionWalk.{SelectionWalk}

same_selection : (s t : Selection) → at_selection s ≡ at_selection t → s ≡ t
same_selection s t e = cc

selection_no_name : (s : Selection) (name : NameText) → ¬ (at_name name ≡ at_selection s)
selection_no_name s name e = let h : ⊥ = cc in h

module _ {fragments : Fragments} {walk : Walk} where
  -- where a step from a field leads, from an inline fragment, from a spread and from a name
  pub from_field : {a x : Stop} → Step fragments walk a x → (f : Node Field) → a ≡ at_selection (kind.Field f) →
      IsTrue walk.into_fields × IsInSet walk f.value.value.selection_set x
  from_field {x = x} (into_field g into stands) f e =
      (into, subst (λ (h : Node Field). IsInSet walk h.value.value.selection_set x) (same_field f g (same_selection (kind.Field g) (kind.Field f) e)) stands)
  from_field (into_inline_fragment i stands) f e = absurd (not_inline f i (same_selection (kind.InlineFragment i) (kind.Field f) e))
  from_field (to_name p named) f e = absurd (not_spread f p (same_selection (kind.FragmentSpread p) (kind.Field f) e))
  from_field (into_fragment {name = name} found stands) f e = absurd (selection_no_name (kind.Field f) name e)

  pub from_inline_fragment : {a x : Stop} → Step fragments walk a x → (i : Node InlineFragment) → a ≡ at_selection (kind.InlineFragment i) →
      IsInSet walk i.value.value.selection_set x
  from_inline_fragment (into_field f into stands) i e = absurd (not_inline f i (sym (same_selection (kind.Field f) (kind.InlineFragment i) e)))
  from_inline_fragment {x = x} (into_inline_fragment j stands) i e =
      subst (λ (h : Node InlineFragment). IsInSet walk h.value.value.selection_set x) (same_inline j i (same_selection (kind.InlineFragment j) (kind.InlineFragment i) e)) stands
  from_inline_fragment (to_name p named) i e = absurd (spread_not_inline i p (same_selection (kind.FragmentSpread p) (kind.InlineFragment i) e))
  from_inline_fragment (into_fragment {name = name} found stands) i e = absurd (selection_no_name (kind.InlineFragment i) name e)

  pub from_spread : {a x : Stop} → Step fragments walk a x → (p : Node FragmentSpread) → a ≡ at_selection (kind.FragmentSpread p) →
      IsName p.value.value.fragment_name x
  from_spread (into_field f into stands) p e = absurd (not_spread f p (sym (same_selection (kind.Field f) (kind.FragmentSpread p) e)))
  from_spread (into_inline_fragment i stands) p e = absurd (spread_not_inline i p (sym (same_selection (kind.InlineFragment i) (kind.FragmentSpread p) e)))
  from_spread {x = x} (to_name q named) p e =
      subst (λ (h : Node FragmentSpread). IsName h.value.value.fragment_name x) (same_spread q p (same_selection (kind.FragmentSpread q) (kind.FragmentSpread p) e)) named
  from_spread (into_fragment {name = name} found stands) p e = absurd (selection_no_name (kind.FragmentSpread p) name e)

  pub from_name : {a x : Stop} → Step fragments walk a x → (name : NameText) → a ≡ at_name name →
      (d : Node Fragment) × (fragments name ≡ Some d) × IsInSet walk d.value.value.selection_set x
  from_name (into_field f into stands) name e = absurd (selection_no_name (kind.Field f) name (sym e))
  from_name (into_inline_fragment i stands) name e = absurd (selection_no_name (kind.InlineFragment i) name (sym e))
  from_name (to_name p named) name e = absurd (selection_no_name (kind.FragmentSpread p) name (sym e))
  from_name (into_fragment {name = other} {d = d} found stands) name e =
      let same : other ≡ name = cc in (d, subst (λ n. fragments n ≡ Some d) same found, stands)

-- truth of a test
not_true : (b : Bool) → ¬ IsTrue b → IsFalse b
not_true true h = absurd (h refl)
not_true false h = refl

both_not : (b : Bool) → IsTrue b → IsFalse b → ⊥
both_not b is is_not = let h : ⊥ = cc in h

either : (a b : Bool) → IsTrue (a || b) → IsTrue a ⊎ IsTrue b
either true b h = inl refl
either false b h = inr h

or_left : (a b : Bool) → IsTrue a → IsTrue (a || b)
or_left true b h = refl
or_left false b h = absurd (both_not false h refl)

or_right : (a b : Bool) → IsTrue b → IsTrue (a || b)
or_right true b h = refl
or_right false b h = h

-- a name that was visited behind others
pub stands_before : (names : List NameText) (visited_fragments name : NameText) → IsTrue (stands_on names name) → IsTrue (stands_on (names ++ visited_fragments ∷ []) name)
stands_before names visited_fragments name h =
    subst IsTrue (sym (list_any-append (same_name name) names (visited_fragments ∷ [])))
    (or_left (list_any (same_name name) names) (list_any (same_name name) (visited_fragments ∷ [])) h)

pub stands_last : (names : List NameText) (visited_fragments name : NameText) → SameName name visited_fragments → IsTrue (stands_on (names ++ visited_fragments ∷ []) name)
stands_last names visited_fragments name h =
    subst IsTrue (sym (list_any-append (same_name name) names (visited_fragments ∷ [])))
    (or_right (list_any (same_name name) names) (list_any (same_name name) (visited_fragments ∷ [])) (or_left (same_name name visited_fragments) false h))

pub stands_either : (names : List NameText) (visited_fragments name : NameText) → IsTrue (stands_on (names ++ visited_fragments ∷ []) name) →
    IsTrue (stands_on names name) ⊎ SameName name visited_fragments
stands_either names visited_fragments name h =
    elim (either (list_any (same_name name) names) (list_any (same_name name) (visited_fragments ∷ []))
    (subst IsTrue (list_any-append (same_name name) names (visited_fragments ∷ [])) h)) [
      | inl before ↦ inl before
      | inr last ↦ inr (elim (either (same_name name visited_fragments) false last) [ inl same ↦ same | inr none ↦ absurd (both_not false none refl) ])
    ]

-- what was visited before a name was visited, or a selection listed
pub record VisitedFragment (name : NameText) (old new : Visited) : Type 0 where
  pub unvisited : IsFalse (stands_on (visited_fragment_names old) name)
  pub names : visited_fragment_names new ≡ visited_fragment_names old ++ name ∷ []
  pub listed : listed_of new ≡ listed_of old

pub record Listed (s : Selection) (old new : Visited) : Type 0 where
  pub names : visited_fragment_names new ≡ visited_fragment_names old
  pub listed : listed_of new ≡ listed_of old ++ s ∷ []

-- a name that was to be visited was there, or was visited
pub stood_there : (name : NameText) (old new : Visited) (is_new : Bool) → is_new ≡ not (stands_on (visited_fragment_names old) name) →
    visited_fragment_names new ≡ with_name (visited_fragment_names old) name → is_new ≡ false → IsTrue (stands_on (visited_fragment_names old) name) × (visited_fragment_names new ≡ visited_fragment_names old)
stood_there name old new is_new e names is =
    let there = flipped (stands_on (visited_fragment_names old) name) (sym e ∙ is) in
    (there, names ∙ ap (λ b. if b then visited_fragment_names old else visited_fragment_names old ++ name ∷ []) there) where
      flipped : (b : Bool) → not b ≡ false → b ≡ true
      flipped true h = refl
      flipped false h = sym h

pub was_visited : (name : NameText) (old new : Visited) (is_new : Bool) → is_new ≡ not (stands_on (visited_fragment_names old) name) →
    visited_fragment_names new ≡ with_name (visited_fragment_names old) name → listed_of new ≡ listed_of old → is_new ≡ true → VisitedFragment name old new
was_visited name old new is_new e names listed is =
    let missing = flipped (stands_on (visited_fragment_names old) name) (sym e ∙ is) in
    record {
      unvisited = missing;
      names = names ∙ ap (λ b. if b then visited_fragment_names old else visited_fragment_names old ++ name ∷ []) missing;
      listed = listed;
    } where
      flipped : (b : Bool) → not b ≡ true → b ≡ false
      flipped true h = sym h
      flipped false h = refl

pub visited_grows : {name : NameText} {old new : Visited} → VisitedFragment name old new → (x : Stop) → IsVisited old x → IsVisited new x
visited_grows {name = name} {old = old} e (at_selection s) h = subst (λ l. Contains l s) (sym e.listed) h
visited_grows {name = name} {old = old} e (at_name other) h = subst (λ l. IsTrue (stands_on l other)) (sym e.names) (stands_before (visited_fragment_names old) name other h)

pub fragment_is_visited : {name : NameText} {old new : Visited} → VisitedFragment name old new → (x : Stop) → IsName name x → IsVisited new x
fragment_is_visited {name = name} {old = old} e (at_selection s) h = absurd h
fragment_is_visited {name = name} {old = old} e (at_name other) h =
    subst (λ l. IsTrue (stands_on l other)) (sym e.names) (stands_last (visited_fragment_names old) name other (same_name_back name other h))

pub visited_only : {name : NameText} {old new : Visited} → VisitedFragment name old new → (x : Stop) → IsVisited new x → IsVisited old x ⊎ IsName name x
visited_only {name = name} {old = old} e (at_selection s) h = inl (subst (λ l. Contains l s) e.listed h)
visited_only {name = name} {old = old} e (at_name other) h =
    elim (stands_either (visited_fragment_names old) name other (subst (λ l. IsTrue (stands_on l other)) e.names h)) [
      | inl before ↦ inl before
      | inr same ↦ inr (same_name_back other name same)
    ]

pub listed_grows : {s : Selection} {old new : Visited} → Listed s old new → (x : Stop) → IsVisited old x → IsVisited new x
listed_grows {s = s} {old = old} e (at_selection t) h = subst (λ l. Contains l t) (sym e.listed) (Contains-append_left (listed_of old) (s ∷ []) t h)
listed_grows {s = s} {old = old} e (at_name other) h = subst (λ l. IsTrue (stands_on l other)) (sym e.names) h

pub listed_is_visited : {s : Selection} {old new : Visited} → Listed s old new → (x : Stop) → x ≡ at_selection s → IsVisited new x
listed_is_visited {s = s} {old = old} e (at_selection t) h =
    let same : s ≡ t = sym (same_selection t s h) in
    subst (λ l. Contains l t) (sym e.listed) (Contains-append_right (listed_of old) (s ∷ []) t (subst (Contains (s ∷ [])) same (stands_first s [])))
listed_is_visited {s = s} {old = old} e (at_name other) h = absurd (selection_no_name s other h)

pub listed_only : {s : Selection} {old new : Visited} → Listed s old new → (x : Stop) → IsVisited new x → IsVisited old x ⊎ (x ≡ at_selection s)
listed_only {s = s} {old = old} e (at_selection t) h =
    elim (Contains-append_cases (listed_of old) (s ∷ []) t (subst (λ l. Contains l t) e.listed h)) [
      | inl before ↦ inl before
      | inr last ↦ inr (ap at_selection (only_one s t last))
    ]
listed_only {s = s} {old = old} e (at_name other) h = inl (subst (λ l. IsTrue (stands_on l other)) e.names h)

-- a set of references to names holds the names
module _ {R : Type 0} (name_at : R → NameText) where
  pub refs_any : (name : NameText) (refs : List R) → list_any (λ r. same_name name (name_at r)) refs ≡ list_any (same_name name) (map name_at refs)
  refs_any name [] = refl
  refs_any name (r ∷ rs) = ap (λ b. same_name name (name_at r) || b) (refs_any name rs)

  pub refs_with : (old new : List R) (r : R) → new ≡ insert_key (λ a b. same_name (name_at a) (name_at b)) old r →
      map name_at new ≡ with_name (map name_at old) (name_at r)
  refs_with old new r e =
      ap (map name_at) e ∙ inserted (list_any (λ b. same_name (name_at r) (name_at b)) old) ∙
      ap (λ b. if b then map name_at old else map name_at old ++ name_at r ∷ []) (refs_any (name_at r) old) where
        inserted : (b : Bool) → map name_at (if b then old else old ++ r ∷ []) ≡ (if b then map name_at old else map name_at old ++ name_at r ∷ [])
        inserted true = refl
        inserted false = map-append name_at old (r ∷ [])

-- what has the same names and selections has visited the same
same_visited : (old new : Visited) → visited_fragment_names old ≡ visited_fragment_names new → listed_of old ≡ listed_of new → (x : Stop) → IsVisited old x → IsVisited new x
same_visited old new names listed (at_selection s) h = subst (λ l. Contains l s) listed h
same_visited old new names listed (at_name name) h = subst (λ l. IsTrue (stands_on l name)) names h

-- a name that was visited was visited at each place where it is
named_is_visited : (name : NameText) (visited : Visited) → IsTrue (stands_on (visited_fragment_names visited) name) → (x : Stop) → IsName name x → IsVisited visited x
named_is_visited name visited h (at_selection s) named = absurd named
named_is_visited name visited h (at_name other) named =
    subst IsTrue (ap (λ (text : List ℕ). list_any (λ (key : NameText). bytes_eq text key.text) (visited_fragment_names visited)) (same_text name other named)) h

-- a name that was not visited is not among fewer names
fresh_before : (old new : Visited) → ((x : Stop) → IsVisited old x → IsVisited new x) → (name : NameText) →
    IsFalse (stands_on (visited_fragment_names new) name) → IsFalse (stands_on (visited_fragment_names old) name)
fresh_before old new grows name other =
    not_true (stands_on (visited_fragment_names old) name) (λ h. both_not (stands_on (visited_fragment_names new) name) (grows (at_name name) h) other)

-- so a descent that enters none of more names enters none of fewer
pub passes_before : {walk : SelectionWalk} {old new : Visited} {limit depth : ℕ} {set : SelectionSet} → ((x : Stop) → IsVisited old x → IsVisited new x) →
    PassesFrom walk new limit depth set → PassesFrom walk old limit depth set
passes_before {old = old} {new = new} grows p = record {
  steps = p.steps;
  names = p.names;
  descent = p.descent;
  once = p.once;
  fresh = All-weaker (λ name. IsFalse (stands_on (visited_fragment_names new) name)) (λ name. IsFalse (stands_on (visited_fragment_names old) name)) (fresh_before old new grows) p.names p.fresh;
  passes = p.passes;
}

-- a walk that is at its limit passes it with one step more
pub passes_here : {walk : SelectionWalk} (visited : Visited) (limit depth : ℕ) {set : SelectionSet} → limit ≤ depth → PassesFrom walk visited limit (depth + 1) set
passes_here visited limit depth deep = record {
  steps = 0;
  names = [];
  descent = descent_ends;
  once = λ i j d before within. absurd (omega (arith, within));
  fresh = All-nil (λ name. IsFalse (stands_on (visited_fragment_names visited) name));
  passes = omega arith;
}

-- each walk goes into fragments, and that of what is inside a set through each selection
goes_into_fragments : (e : Extent) → IsTrue (walk_of e).into_fragments
goes_into_fragments extent.InExpandedSet = refl
goes_into_fragments extent.Reachable = refl
goes_into_fragments extent.Open = refl

module _ {walk : SelectionWalk} {visited : Visited} {limit depth : ℕ} {set : SelectionSet} where
  -- a descent from one step deeper, with that step
  pub passes_by_field : (f : Node Field) → IsTrue (walk_of walk.extent).into_fields → BeginsIn walk set (at_selection (kind.Field f)) →
      PassesFrom walk visited limit (depth + 1) f.value.value.selection_set → PassesFrom walk visited limit depth set
  passes_by_field f into stands p = record {
    steps = suc p.steps;
    names = p.names;
    descent = descent_into_field into stands.0 stands.1 p.descent;
    once = p.once;
    fresh = p.fresh;
    passes = omega (arith, p.passes);
  }

  pub passes_by_inline_fragment : (i : Node InlineFragment) → BeginsIn walk set (at_selection (kind.InlineFragment i)) →
      PassesFrom walk visited limit (depth + 1) i.value.value.selection_set → PassesFrom walk visited limit depth set
  passes_by_inline_fragment i stands p = record {
    steps = suc p.steps;
    names = p.names;
    descent = descent_into_inline_fragment stands.0 stands.1 p.descent;
    once = p.once;
    fresh = p.fresh;
    passes = omega (arith, p.passes);
  }

  pub passes_by_spread : (p : Node FragmentSpread) (d : Node Fragment) {after : Visited} → BeginsIn walk set (at_selection (kind.FragmentSpread p)) →
      fragments_of walk.document.now p.value.value.fragment_name ≡ Some d →
      VisitedFragment p.value.value.fragment_name visited after →
      PassesFrom walk after limit (depth + 1) d.value.value.selection_set → PassesFrom walk visited limit depth set
  passes_by_spread p d {after = after} stands found e passing =
      let name : NameText = p.value.value.fragment_name in
      record {
        steps = suc passing.steps;
        names = name ∷ passing.names;
        descent = descent_into_fragment (goes_into_fragments walk.extent) stands.0 stands.1 found passing.descent;
        once = AllPairs-cons DifferentNames name passing.names
            (All-weaker (λ n. IsFalse (stands_on (visited_fragment_names after) n)) (DifferentNames name) (λ n fresh.
            not_true (same_name name n) (λ same. both_not (stands_on (visited_fragment_names after) n) (fragment_is_visited e (at_name n) same) fresh)) passing.names passing.fresh)
            passing.once;
        fresh = All-cons (λ n. IsFalse (stands_on (visited_fragment_names visited) n)) name passing.names e.unvisited
            (All-weaker (λ n. IsFalse (stands_on (visited_fragment_names after) n)) (λ n. IsFalse (stands_on (visited_fragment_names visited) n))
            (fresh_before visited after (visited_grows e)) passing.names passing.fresh);
        passes = omega (arith, passing.passes);
      }

-- the limits of walks over a set and below a selection
abbrev pub PassesBelow : SelectionWalk → Visited → ℕ → ℕ → Selection → Type 0
PassesBelow walk visited limit depth s = (set : SelectionSet) → BeginsIn walk set (at_selection s) → PassesFrom walk visited limit depth set

module _ (walk : SelectionWalk) (p : Node FragmentSpread) where
  -- a step from a name in the set that it finds
  next_of : (d : Node Fragment) → fragments_of walk.document.now p.value.value.fragment_name ≡ Some d →
      (x y : Stop) → IsName p.value.value.fragment_name x → StepOf walk x y → BeginsIn walk d.value.value.selection_set y
  next_of d found (at_selection s) y named step = absurd named
  next_of d found (at_name name) y named step =
      let there = from_name step name refl in
      let same : there.0 ≡ d = same_Some there.0 d (sym there.1 ∙ sym (one_fragment_found walk.document.now p.value.value.fragment_name name named) ∙ found) in
      subst (λ (e : Node Fragment). BeginsIn walk e.value.value.selection_set y) same there.2

  nothing_next : fragments_of walk.document.now p.value.value.fragment_name ≡ None →
      (x y : Stop) → IsName p.value.value.fragment_name x → StepOf walk x y → ⊥
  nothing_next none (at_selection s) y named step = named
  nothing_next none (at_name name) y named step =
      let there = from_name step name refl in
      none-some there.0 (sym none ∙ one_fragment_found walk.document.now p.value.value.fragment_name name named ∙ there.1)

module _ {walk : SelectionWalk} where
  -- the walk is at its limit
  pub walked_to_limit : (set : SelectionSet) (limit depth : ℕ) (visited : Visited) → limit ≤ depth →
      HasWalked walk (BeginsIn walk set) (PassesFrom walk visited limit (depth + 1) set) visited visited false
  walked_to_limit set limit depth visited deep = record {
    finds = finds_nothing;
    searched = λ h. absurd (both_not false h refl);
    bound = λ h. passes_here visited limit depth deep;
  }

  -- the same walk in other words
  pub walked_words : {begins begins' : Stop → Type 0} {Passes Passes' : Type 0} {old new : Visited} {complete : Bool} →
      ((x : Stop) → begins x → begins' x) → ((x : Stop) → begins' x → begins x) → (Passes → Passes') →
      HasWalked walk begins Passes old new complete → HasWalked walk begins' Passes' old new complete
  walked_words there back passes w = record {
    finds = finds_from_more there w.finds;
    searched = λ h. searched_words there back (w.searched h);
    bound = λ h. passes (w.bound h);
  }

  -- below a field that is visited, and below an inline fragment
  pub walked_field : {s : Selection} (f : Node Field) {limit depth : ℕ} {old new : Visited} {complete : Bool} → s ≡ kind.Field f → IsTrue (walk_of walk.extent).into_fields →
      HasWalked walk (BeginsIn walk f.value.value.selection_set) (PassesFrom walk old limit (depth + 1) f.value.value.selection_set) old new complete →
      HasWalked walk (StepOf walk (at_selection s)) (PassesBelow walk old limit depth s) old new complete
  walked_field f {limit = limit} {depth = depth} {old = old} is into w =
      walked_words
      (λ x stands. subst (λ t. StepOf walk (at_selection t) x) (sym is) (into_field f into stands))
      (λ x step. (from_field step f (ap at_selection is)).1)
      (λ passes set stands. passes_by_field f into (subst (λ t. BeginsIn walk set (at_selection t)) is stands) passes)
      w

  pub walked_inline_fragment : {s : Selection} (i : Node InlineFragment) {limit depth : ℕ} {old new : Visited} {complete : Bool} → s ≡ kind.InlineFragment i →
      HasWalked walk (BeginsIn walk i.value.value.selection_set) (PassesFrom walk old limit (depth + 1) i.value.value.selection_set) old new complete →
      HasWalked walk (StepOf walk (at_selection s)) (PassesBelow walk old limit depth s) old new complete
  walked_inline_fragment i {limit = limit} {depth = depth} {old = old} is w =
      walked_words
      (λ x stands. subst (λ t. StepOf walk (at_selection t) x) (sym is) (into_inline_fragment i stands))
      (λ x step. from_inline_fragment step i (ap at_selection is))
      (λ passes set stands. passes_by_inline_fragment i (subst (λ t. BeginsIn walk set (at_selection t)) is stands) passes)
      w

  module _ (p : Node FragmentSpread) {limit depth : ℕ} where
    -- a spread whose name was visited before
    pub walked_visited : (old new : Visited) → visited_fragment_names new ≡ visited_fragment_names old → listed_of new ≡ listed_of old →
        IsTrue (stands_on (visited_fragment_names old) p.value.value.fragment_name) →
        HasWalked walk (StepOf walk (at_selection (kind.FragmentSpread p))) (PassesBelow walk old limit depth (kind.FragmentSpread p)) old new true
    walked_visited old new names listed visited_fragments =
        let name : NameText = p.value.value.fragment_name in
        let there : (x : Stop) → IsVisited old x → IsVisited new x = same_visited old new (sym names) (sym listed) in
        let back : (x : Stop) → IsVisited new x → IsVisited old x = same_visited new old names listed in
        let finds : Finds (StepOf walk) (StepOf walk (at_selection (kind.FragmentSpread p))) (IsVisited old) (IsVisited new) =
        record { grows = there; reachable = λ x h. inl (back x h) } in
        record {
          finds = finds;
          searched = λ h. record {
            finds = finds;
            begun = λ x step. there x (named_is_visited name old visited_fragments x (from_spread step p refl));
            closed = λ x h. inl (back x h);
          };
          bound = λ h. absurd (both_not true refl h);
        }

    -- a spread of a fragment that is visited
    pub walked_fragment : (d : Node Fragment) {old mid new : Visited} {complete : Bool} → VisitedFragment p.value.value.fragment_name old mid →
        fragments_of walk.document.now p.value.value.fragment_name ≡ Some d →
        HasWalked walk (BeginsIn walk d.value.value.selection_set) (PassesFrom walk mid limit (depth + 1) d.value.value.selection_set) mid new complete →
        HasWalked walk (StepOf walk (at_selection (kind.FragmentSpread p))) (PassesBelow walk old limit depth (kind.FragmentSpread p)) old new complete
    walked_fragment d {old = old} {mid = mid} e found w =
        let name : NameText = p.value.value.fragment_name in
        let from : (y : Stop) → BeginsIn walk d.value.value.selection_set y → (x : Stop) × IsName name x × StepOf walk x y =
        λ y stands. (at_name name, same_name_itself name, into_fragment found stands) in
        walked_words
        (λ x named. to_name p named)
        (λ x step. from_spread step p refl)
        (λ passes set stands. passes_by_spread p d stands found e passes)
        (record {
          finds = finds_below (visited_grows e) (visited_only e) from w.finds;
          searched = λ h. searched_below (visited_grows e) (fragment_is_visited e) (visited_only e) from (next_of walk p d found) (w.searched h);
          bound = w.bound;
        })

    -- a spread of one that is not defined
    pub walked_undefined : {old new : Visited} → VisitedFragment p.value.value.fragment_name old new →
        fragments_of walk.document.now p.value.value.fragment_name ≡ None →
        HasWalked walk (StepOf walk (at_selection (kind.FragmentSpread p))) (PassesBelow walk old limit depth (kind.FragmentSpread p)) old new true
    walked_undefined e none =
        let nothing : Stop → Type 0 = λ x. ⊥ in
        walked_words
        (λ x named. to_name p named)
        (λ x step. from_spread step p refl)
        (λ passes. passes)
        (record {
          finds = finds_below {below = nothing} (visited_grows e) (visited_only e) (λ y h. absurd h) finds_nothing;
          searched = λ h. searched_below {below = nothing} (visited_grows e) (fragment_is_visited e) (visited_only e) (λ y h. absurd h)
              (nothing_next walk p none) (searched_before (λ x h. absurd h));
          bound = λ h. absurd (both_not true refl h);
        })

-- a walk over the first selections of a set, and then over the next
module _ (walk : SelectionWalk) (xs : List Selection) (i : ℕ) (s : Selection) (old new : Visited) {mid pushed : Visited}
    (within : i < length xs) (item : s ≡ get_or xs i s) (through : IsTrue ((walk_of walk.extent).goes_through s)) (e : Listed s mid pushed) where
  next_from : (y : Stop) → StepOf walk (at_selection s) y → (x : Stop) × (x ≡ at_selection s) × StepOf walk x y
  next_from y step = (at_selection s, refl, step)

  is_next : (x y : Stop) → x ≡ at_selection s → StepOf walk x y → StepOf walk (at_selection s) y
  is_next x y same step = subst (λ z. StepOf walk z y) same step

  stands_at : Contains xs s
  stands_at =
      subst (λ l. Contains l s) (sym (split_at xs i s within item))
      (Contains-append_right (take i xs) (s ∷ drop (i + 1) xs) s (stands_first s (drop (i + 1) xs)))

  among_all : (x : Stop) → GoesThrough walk (take i xs) x ⊎ (x ≡ at_selection s) → GoesThrough walk xs x
  among_all (at_selection t) h = elim h [
    | inl before ↦
        (subst (λ l. Contains l t) (sym (split_at xs i s within item)) (Contains-append_left (take i xs) (s ∷ drop (i + 1) xs) t before.0), before.1)
    | inr same ↦ subst (λ (u : Selection). GoesThrough walk xs (at_selection u)) (sym (same_selection t s same)) (stands_at, through)
  ]
  among_all (at_name name) h = elim h [ inl before ↦ before | inr same ↦ selection_no_name s name same ]

  among_more : (x : Stop) → GoesThrough walk (take i xs) x ⊎ (x ≡ at_selection s) → GoesThrough walk (take (i + 1) xs) x
  among_more (at_selection t) h =
      subst (λ l. GoesThrough walk l (at_selection t)) (sym (more_is xs i s within item)) (elim h [
        | inl before ↦ (Contains-append_left (take i xs) (s ∷ []) t before.0, before.1)
        | inr same ↦ subst (λ (u : Selection). GoesThrough walk (take i xs ++ s ∷ []) (at_selection u)) (sym (same_selection t s same))
            (Contains-append_right (take i xs) (s ∷ []) s (stands_first s []), through)
      ])
  among_more (at_name name) h = elim h [ inl before ↦ before | inr same ↦ selection_no_name s name same ]

  among_either : (x : Stop) → GoesThrough walk (take (i + 1) xs) x → GoesThrough walk (take i xs) x ⊎ (x ≡ at_selection s)
  among_either (at_selection t) h =
      elim (Contains-append_cases (take i xs) (s ∷ []) t (subst (λ l. Contains l t) (more_is xs i s within item) h.0)) [
        | inl before ↦ inl (before, h.1)
        | inr last ↦ inr (ap at_selection (only_one s t last))
      ]
  among_either (at_name name) h = absurd h

  pub searched_next : Searched (StepOf walk) (GoesThrough walk (take i xs)) (IsVisited old) (IsVisited mid) →
      Searched (StepOf walk) (StepOf walk (at_selection s)) (IsVisited pushed) (IsVisited new) →
      Searched (StepOf walk) (GoesThrough walk (take (i + 1) xs)) (IsVisited old) (IsVisited new)
  searched_next a b =
      let is : Stop → Type 0 = λ x. x ≡ at_selection s in
      searched_words among_more among_either
      (searched_then a
      (searched_below {begins = is}
      (listed_grows e) (listed_is_visited e) (listed_only e) next_from is_next b))

  -- the walk stops below it
  pub walked_part : {set : SelectionSet} {limit depth : ℕ} → xs ≡ selections_of set →
      Searched (StepOf walk) (GoesThrough walk (take i xs)) (IsVisited old) (IsVisited mid) →
      HasWalked walk (StepOf walk (at_selection s)) (PassesBelow walk pushed limit depth s) pushed new false →
      HasWalked walk (BeginsIn walk set) (PassesFrom walk old limit depth set) old new false
  walked_part {set = set} same a w =
      let is : Stop → Type 0 = λ x. x ≡ at_selection s in
      record {
        finds = finds_from_more
            (λ x h. subst (λ l. GoesThrough walk l x) same (among_all x h))
            (finds_then a.finds
            (finds_below {begins = is}
            (listed_grows e) (listed_only e) next_from w.finds));
        searched = λ h. absurd (both_not false h refl);
        bound = λ h. passes_before (λ x before. listed_grows e x (a.finds.grows x before))
            (w.bound refl set (subst (λ l. Contains l s) same stands_at, through));
      }

-- a selection that the walk does not go through
module _ (walk : SelectionWalk) (xs : List Selection) (i : ℕ) (s : Selection) (within : i < length xs) (item : s ≡ get_or xs i s) where
  more_among : (x : Stop) → GoesThrough walk (take i xs) x → GoesThrough walk (take (i + 1) xs) x
  more_among (at_selection t) h =
      (subst (λ l. Contains l t) (sym (more_is xs i s within item)) (Contains-append_left (take i xs) (s ∷ []) t h.0), h.1)
  more_among (at_name name) h = h

  no_more_among : IsFalse ((walk_of walk.extent).goes_through s) → (x : Stop) → GoesThrough walk (take (i + 1) xs) x → GoesThrough walk (take i xs) x
  no_more_among past (at_selection t) h =
      elim (Contains-append_cases (take i xs) (s ∷ []) t (subst (λ l. Contains l t) (more_is xs i s within item) h.0)) [
        | inl before ↦ (before, h.1)
        | inr last ↦ absurd (both_not ((walk_of walk.extent).goes_through t) h.1 (subst (λ u. IsFalse ((walk_of walk.extent).goes_through u)) (sym (only_one s t last)) past))
      ]
  no_more_among past (at_name name) h = h

  pub searched_past : (old new : Visited) → IsFalse ((walk_of walk.extent).goes_through s) →
      Searched (StepOf walk) (GoesThrough walk (take i xs)) (IsVisited old) (IsVisited new) →
      Searched (StepOf walk) (GoesThrough walk (take (i + 1) xs)) (IsVisited old) (IsVisited new)
  searched_past old new past a = searched_words more_among (no_more_among past) a

-- the walk has come to the end of a set
pub walked_whole : (walk : SelectionWalk) {Passes : Type 0} {xs ys : List Selection} (i : ℕ) (old new : Visited) → length xs ≤ i → xs ≡ ys →
    Searched (StepOf walk) (GoesThrough walk (take i xs)) (IsVisited old) (IsVisited new) → HasWalked walk (GoesThrough walk ys) Passes old new true
walked_whole walk {xs = xs} {ys = ys} i old new past same a =
    let whole : Searched (StepOf walk) (GoesThrough walk ys) (IsVisited old) (IsVisited new) =
    subst (λ l. Searched (StepOf walk) (GoesThrough walk l) (IsVisited old) (IsVisited new)) (take_all i xs past ∙ same) a in
    record { finds = whole.finds; searched = λ h. whole; bound = λ h. absurd (both_not true refl h) }
