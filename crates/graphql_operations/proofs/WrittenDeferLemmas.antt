-- The `@defer` applications that are written in a set: each list of selections has them, and one list of
-- them alone; and what a walk over it has visited.
use Rattle.std.proofs.Common.{◌≡◌, ℕ, zero, suc, ◌+◌, ◌<◌, ◌≤◌, Bool, true, false, cond, List, [], ◌∷◌, ◌++◌, IsTrue, IsFalse, ◌⊎◌, inl, inr, length, get_or, take, refl, sym, ◌∙◌, ap, subst, append_assoc, arith, Contains}
use Rattle.std.proofs.lemmas.List.{append-nil, take_all}
use Rattle.std.proofs.lemmas.List.Elements.{filter-append}
use Rattle.std.specs.Prelude.{codes}
use Rattle.std.specs.Str.{bytes_eq}
use Rattle.graphql_specification.specs.Defer.{DefersOn, defers, defers_on_field, defers_on_inline_fragment, defers_on_none, defers_on_spread, DefersVisited, visited_no_further, visited_on_field, visited_on_inline_fragment, visited_on_none, visited_on_spread, visited_until_in_field, visited_until_in_inline_fragment}
use Rattle.graphql_documents.specs.Selections.{directives_of, selections_of}
use Rattle.graphql_documents.specs.Walks.{descent_ends, descent_into_field, descent_into_inline_fragment, walk_depth_limit}
use Rattle.graphql_documents.specs.declared.documents.directives.Directive.{Directive}
use Rattle.graphql_documents.specs.declared.documents.executables.Field.{Field, size_is-Field}
use Rattle.graphql_documents.specs.declared.documents.executables.FragmentSpread.{FragmentSpread}
use Rattle.graphql_documents.specs.declared.documents.executables.InlineFragment.{InlineFragment, size_is-InlineFragment}
use Rattle.graphql_documents.specs.declared.documents.executables.Selection.TheOpen as Open
use Rattle.graphql_documents.specs.declared.documents.executables.Selection.TheVariants as kind
use Rattle.graphql_documents.specs.declared.documents.executables.Selection.{Selection, out-Selection, size-Selection, size_is-Selection}
use Rattle.graphql_documents.specs.declared.documents.executables.SelectionSet.{SelectionSet, size-SelectionSet}
use Rattle.graphql_nodes.specs.declared.nodes.Node.{Node}
use Rattle.graphql_documents.proofs.ListLemmas.{more_is, only_one, stands_first}
use Rattle.graphql_laws.proofs.SizeLemmas.{Kind, is_field, is_inline, is_spread, kind_of}
use Rattle.graphql_variables.proofs.FirstPlaceLemmas.{next_at, next_stands}
use Rattle.graphql_operations.specs.DeferLabels.{HasVisitedDefers, MeetsDefers}
use Rattle.graphql_operations.proofs.MeasureLemmas.{selection_is_smaller}

-- the set of a field or an inline fragment is less deep
field_is_deeper : (f : Node Field) → size-SelectionSet f.value.value.selection_set < size-Selection (kind.Field f)
field_is_deeper f =
    let size = size_is-Selection (kind.Field f) in
    let opened = rw (kind.outs-Field f) at size in
    omega (arith, opened, size_is-Field f.value.value)

inline_fragment_is_deeper : (i : Node InlineFragment) → size-SelectionSet i.value.value.selection_set < size-Selection (kind.InlineFragment i)
inline_fragment_is_deeper i =
    let size = size_is-Selection (kind.InlineFragment i) in
    let opened = rw (kind.outs-InlineFragment i) at size in
    omega (arith, opened, size_is-InlineFragment i.value.value)

-- some applications are on the selections
abbrev HasDefers : List Selection → Type 0
HasDefers selections = (applications : List (Node Directive)) × DefersOn selections applications

module _ (n : ℕ) (below : (set : SelectionSet) → size-SelectionSet set < n → HasDefers (selections_of set)) where
  has_first : {s : Selection} → Kind s → size-Selection s ≤ n → {rest : List Selection} → HasDefers rest → HasDefers (s ∷ rest)
  has_first (is_field f) small more =
      let within = below f.value.value.selection_set (omega (arith, field_is_deeper f, small)) in
      (defers f.value.value.directives.items ++ (within.0 ++ more.0), defers_on_field f within.1 more.1)
  has_first (is_inline i) small more =
      let within = below i.value.value.selection_set (omega (arith, inline_fragment_is_deeper i, small)) in
      (defers i.value.value.directives.items ++ (within.0 ++ more.0), defers_on_inline_fragment i within.1 more.1)
  has_first (is_spread p) small more = (defers p.value.value.directives.items ++ more.0, defers_on_spread p more.1)

  has_each : (xs : List Selection) → ((i : ℕ) (d : Selection) → i < length xs → size-Selection (get_or xs i d) ≤ n) → HasDefers xs
  has_each [] small = ([], defers_on_none)
  has_each (s ∷ rest) small =
      has_first (kind_of s) (small 0 s (omega arith)) (has_each rest (λ i d within. small (suc i) d (omega (arith, within))))

has_by_depth : (n : ℕ) (set : SelectionSet) → size-SelectionSet set < n → HasDefers (selections_of set)
has_by_depth zero set small = absurd (let no : ⊥ = omega (arith, small) in no)
has_by_depth (suc n) set small =
    has_each n (has_by_depth n) (selections_of set) (λ i d within. omega (arith, small, selection_is_smaller set i d within))

-- each list of selections has its applications
pub has_defers : (selections : List Selection) → (applications : List (Node Directive)) × DefersOn selections applications
has_defers [] = ([], defers_on_none)
has_defers (s ∷ rest) =
    has_first (size-Selection s) (has_by_depth (size-Selection s)) (kind_of s) (omega arith) (has_defers rest)

-- what the applications on the selections are, by the first of these
abbrev FromFirst : Open.Selection-F Selection Field InlineFragment SelectionSet → List Selection → List (Node Directive) → Type 0
FromFirst (Open.Field f) rest ds =
    (below : List (Node Directive)) × (after : List (Node Directive)) × DefersOn (selections_of f.value.value.selection_set) below × DefersOn rest after ×
    (ds ≡ defers f.value.value.directives.items ++ (below ++ after))
FromFirst (Open.InlineFragment i) rest ds =
    (below : List (Node Directive)) × (after : List (Node Directive)) × DefersOn (selections_of i.value.value.selection_set) below × DefersOn rest after ×
    (ds ≡ defers i.value.value.directives.items ++ (below ++ after))
FromFirst (Open.FragmentSpread p) rest ds =
    (after : List (Node Directive)) × DefersOn rest after × (ds ≡ defers p.value.value.directives.items ++ after)

abbrev ByFirst : List Selection → List (Node Directive) → Type 0
ByFirst [] ds = ds ≡ []
ByFirst (s ∷ rest) ds = FromFirst (out-Selection s) rest ds

by_first : {selections : List Selection} {ds : List (Node Directive)} → DefersOn selections ds → ByFirst selections ds
by_first defers_on_none = refl
by_first (defers_on_field f {rest = rest} {below = below} {after = after} within more) =
    subst (λ o. FromFirst o rest (defers f.value.value.directives.items ++ (below ++ after))) (sym (kind.outs-Field f)) (below, after, within, more, refl)
by_first (defers_on_inline_fragment i {rest = rest} {below = below} {after = after} within more) =
    subst (λ o. FromFirst o rest (defers i.value.value.directives.items ++ (below ++ after))) (sym (kind.outs-InlineFragment i)) (below, after, within, more, refl)
by_first (defers_on_spread p {rest = rest} {after = after} more) =
    subst (λ o. FromFirst o rest (defers p.value.value.directives.items ++ after)) (sym (kind.outs-FragmentSpread p)) (after, more, refl)

-- and no others
pub one_list_of_defers : {selections : List Selection} {ds : List (Node Directive)} → DefersOn selections ds →
    (others : List (Node Directive)) → DefersOn selections others → ds ≡ others
one_list_of_defers defers_on_none others on = sym (by_first on)
one_list_of_defers (defers_on_field f {rest = rest} {below = below} {after = after} within more) others on =
    let first = subst (λ o. FromFirst o rest others) (kind.outs-Field f) (by_first on) in
    let own = defers f.value.value.directives.items in
    ap (λ l. own ++ (l ++ after)) (one_list_of_defers within first.0 first.2) ∙ ap (λ l. own ++ (first.0 ++ l)) (one_list_of_defers more first.1 first.3) ∙ sym first.4
one_list_of_defers (defers_on_inline_fragment i {rest = rest} {below = below} {after = after} within more) others on =
    let first = subst (λ o. FromFirst o rest others) (kind.outs-InlineFragment i) (by_first on) in
    let own = defers i.value.value.directives.items in
    ap (λ l. own ++ (l ++ after)) (one_list_of_defers within first.0 first.2) ∙ ap (λ l. own ++ (first.0 ++ l)) (one_list_of_defers more first.1 first.3) ∙ sym first.4
one_list_of_defers (defers_on_spread p {rest = rest} {after = after} more) others on =
    let first = subst (λ o. FromFirst o rest others) (kind.outs-FragmentSpread p) (by_first on) in
    ap (λ l. defers p.value.value.directives.items ++ l) (one_list_of_defers more first.0 first.1) ∙ sym first.2

-- what a walk within its limit meets of some selections
abbrev HasVisitedSelections : ℕ → List Selection → Type 0
HasVisitedSelections room selections = (visited : List (Node Directive)) × (complete : Bool) × DefersVisited room selections visited complete

module _ (room : ℕ) (below : (selections : List Selection) → HasVisitedSelections room selections) where
  into_field : (f : Node Field) {rest : List Selection} (complete : Bool) (visited : List (Node Directive)) →
      DefersVisited room (selections_of f.value.value.selection_set) visited complete → HasVisitedSelections (suc room) rest → HasVisitedSelections (suc room) (kind.Field f ∷ rest)
  into_field f true visited within more = (defers f.value.value.directives.items ++ (visited ++ more.0), more.1, visited_on_field f within more.2)
  into_field f false visited within more = (defers f.value.value.directives.items ++ visited, false, visited_until_in_field f within)

  into_inline_fragment : (i : Node InlineFragment) {rest : List Selection} (complete : Bool) (visited : List (Node Directive)) →
      DefersVisited room (selections_of i.value.value.selection_set) visited complete → HasVisitedSelections (suc room) rest → HasVisitedSelections (suc room) (kind.InlineFragment i ∷ rest)
  into_inline_fragment i true visited within more = (defers i.value.value.directives.items ++ (visited ++ more.0), more.1, visited_on_inline_fragment i within more.2)
  into_inline_fragment i false visited within more = (defers i.value.value.directives.items ++ visited, false, visited_until_in_inline_fragment i within)

  into_first : {s : Selection} → Kind s → {rest : List Selection} → HasVisitedSelections (suc room) rest → HasVisitedSelections (suc room) (s ∷ rest)
  into_first (is_field f) more = let visited = below (selections_of f.value.value.selection_set) in into_field f visited.1 visited.0 visited.2 more
  into_first (is_inline i) more = let visited = below (selections_of i.value.value.selection_set) in into_inline_fragment i visited.1 visited.0 visited.2 more
  into_first (is_spread p) more = (defers p.value.value.directives.items ++ more.0, more.1, visited_on_spread p more.2)

  into_each : (xs : List Selection) → HasVisitedSelections (suc room) xs
  into_each [] = ([], true, visited_on_none)
  into_each (s ∷ rest) = into_first (kind_of s) (into_each rest)

pub has_visited : (room : ℕ) (selections : List Selection) → HasVisitedSelections room selections
has_visited zero selections = ([], false, visited_no_further)
has_visited (suc room) selections = into_each room (has_visited room) selections

-- what is visited, by the first of the selections
abbrev VisitedBelow : ℕ → SelectionSet → List (Node Directive) → List Selection → List (Node Directive) → Bool → Type 0
VisitedBelow room set own rest ds complete =
    ((below : List (Node Directive)) × (after : List (Node Directive)) × DefersVisited room (selections_of set) below true × DefersVisited (suc room) rest after complete × (ds ≡ own ++ (below ++ after))) ⊎
    ((below : List (Node Directive)) × DefersVisited room (selections_of set) below false × (complete ≡ false) × (ds ≡ own ++ below))

abbrev VisitedFromFirst : ℕ → Open.Selection-F Selection Field InlineFragment SelectionSet → List Selection → List (Node Directive) → Bool → Type 0
VisitedFromFirst room (Open.Field f) rest ds complete = VisitedBelow room f.value.value.selection_set (defers f.value.value.directives.items) rest ds complete
VisitedFromFirst room (Open.InlineFragment i) rest ds complete = VisitedBelow room i.value.value.selection_set (defers i.value.value.directives.items) rest ds complete
VisitedFromFirst room (Open.FragmentSpread p) rest ds complete =
    (after : List (Node Directive)) × DefersVisited (suc room) rest after complete × (ds ≡ defers p.value.value.directives.items ++ after)

abbrev VisitedByFirst : ℕ → List Selection → List (Node Directive) → Bool → Type 0
VisitedByFirst zero selections ds complete = (ds ≡ []) × (complete ≡ false)
VisitedByFirst (suc room) [] ds complete = (ds ≡ []) × (complete ≡ true)
VisitedByFirst (suc room) (s ∷ rest) ds complete = VisitedFromFirst room (out-Selection s) rest ds complete

visited_by_first : {room : ℕ} {selections : List Selection} {ds : List (Node Directive)} {complete : Bool} → DefersVisited room selections ds complete → VisitedByFirst room selections ds complete
visited_by_first visited_no_further = (refl, refl)
visited_by_first visited_on_none = (refl, refl)
visited_by_first (visited_on_field f {room = room} {rest = rest} {below = below} {after = after} {complete = complete} within more) =
    subst (λ o. VisitedFromFirst room o rest (defers f.value.value.directives.items ++ (below ++ after)) complete) (sym (kind.outs-Field f)) (inl (below, after, within, more, refl))
visited_by_first (visited_until_in_field f {room = room} {rest = rest} {below = below} within) =
    subst (λ o. VisitedFromFirst room o rest (defers f.value.value.directives.items ++ below) false) (sym (kind.outs-Field f)) (inr (below, within, refl, refl))
visited_by_first (visited_on_inline_fragment i {room = room} {rest = rest} {below = below} {after = after} {complete = complete} within more) =
    subst (λ o. VisitedFromFirst room o rest (defers i.value.value.directives.items ++ (below ++ after)) complete) (sym (kind.outs-InlineFragment i)) (inl (below, after, within, more, refl))
visited_by_first (visited_until_in_inline_fragment i {room = room} {rest = rest} {below = below} within) =
    subst (λ o. VisitedFromFirst room o rest (defers i.value.value.directives.items ++ below) false) (sym (kind.outs-InlineFragment i)) (inr (below, within, refl, refl))
visited_by_first (visited_on_spread p {room = room} {rest = rest} {after = after} {complete = complete} more) =
    subst (λ o. VisitedFromFirst room o rest (defers p.value.value.directives.items ++ after) complete) (sym (kind.outs-FragmentSpread p)) (after, more, refl)

not_both : {A : Type 0} → true ≡ false → A
not_both e = absurd (let no : ⊥ = cc in no)

-- what is visited, and whether the walk comes to its end, is one alone
pub one_list_visited : {room : ℕ} {selections : List Selection} {ds : List (Node Directive)} {complete : Bool} → DefersVisited room selections ds complete →
    (others : List (Node Directive)) (done : Bool) → DefersVisited room selections others done → (ds ≡ others) × (complete ≡ done)
one_list_visited visited_no_further others done on = let first = visited_by_first on in (sym first.0, sym first.1)
one_list_visited visited_on_none others done on = let first = visited_by_first on in (sym first.0, sym first.1)
one_list_visited (visited_on_field f {room = room} {rest = rest} {below = below} {after = after} within more) others done on =
    let own = defers f.value.value.directives.items in
    elim (subst (λ o. VisitedFromFirst room o rest others done) (kind.outs-Field f) (visited_by_first on)) [
      | inl h ↦
          let same = one_list_visited more h.1 done h.3 in
          (ap (λ l. own ++ (l ++ after)) (one_list_visited within h.0 true h.2).0 ∙ ap (λ l. own ++ (h.0 ++ l)) same.0 ∙ sym h.4, same.1)
      | inr h ↦ not_both (one_list_visited within h.0 false h.1).1
    ]
one_list_visited (visited_until_in_field f {room = room} {rest = rest} {below = below} within) others done on =
    let own = defers f.value.value.directives.items in
    elim (subst (λ o. VisitedFromFirst room o rest others done) (kind.outs-Field f) (visited_by_first on)) [
      | inl h ↦ not_both (sym (one_list_visited within h.0 true h.2).1)
      | inr h ↦ (ap (λ l. own ++ l) (one_list_visited within h.0 false h.1).0 ∙ sym h.3, sym h.2)
    ]
one_list_visited (visited_on_inline_fragment i {room = room} {rest = rest} {below = below} {after = after} within more) others done on =
    let own = defers i.value.value.directives.items in
    elim (subst (λ o. VisitedFromFirst room o rest others done) (kind.outs-InlineFragment i) (visited_by_first on)) [
      | inl h ↦
          let same = one_list_visited more h.1 done h.3 in
          (ap (λ l. own ++ (l ++ after)) (one_list_visited within h.0 true h.2).0 ∙ ap (λ l. own ++ (h.0 ++ l)) same.0 ∙ sym h.4, same.1)
      | inr h ↦ not_both (one_list_visited within h.0 false h.1).1
    ]
one_list_visited (visited_until_in_inline_fragment i {room = room} {rest = rest} {below = below} within) others done on =
    let own = defers i.value.value.directives.items in
    elim (subst (λ o. VisitedFromFirst room o rest others done) (kind.outs-InlineFragment i) (visited_by_first on)) [
      | inl h ↦ not_both (sym (one_list_visited within h.0 true h.2).1)
      | inr h ↦ (ap (λ l. own ++ l) (one_list_visited within h.0 false h.1).0 ∙ sym h.3, sym h.2)
    ]
one_list_visited (visited_on_spread p {room = room} {rest = rest} {after = after} more) others done on =
    let first = subst (λ o. VisitedFromFirst room o rest others done) (kind.outs-FragmentSpread p) (visited_by_first on) in
    let same = one_list_visited more first.0 done first.1 in
    (ap (λ l. defers p.value.value.directives.items ++ l) same.0 ∙ sym first.2, same.1)

-- four lists, by where they are put together
three_then : (own below after b : List (Node Directive)) → own ++ (below ++ (after ++ b)) ≡ (own ++ (below ++ after)) ++ b
three_then own below after b = ap (λ l. own ++ l) (sym (append_assoc below after b)) ∙ sym (append_assoc own (below ++ after) b)

-- the applications of one list of selections after another
defers_then : {xs : List Selection} {a : List (Node Directive)} → DefersOn xs a → {ys : List Selection} {b : List (Node Directive)} → DefersOn ys b → DefersOn (xs ++ ys) (a ++ b)
defers_then defers_on_none on = on
defers_then (defers_on_field f {rest = rest} {below = below} {after = after} within more) {ys = ys} {b = b} on =
    subst (DefersOn (kind.Field f ∷ (rest ++ ys))) (three_then (defers f.value.value.directives.items) below after b) (defers_on_field f within (defers_then more on))
defers_then (defers_on_inline_fragment i {rest = rest} {below = below} {after = after} within more) {ys = ys} {b = b} on =
    subst (DefersOn (kind.InlineFragment i ∷ (rest ++ ys))) (three_then (defers i.value.value.directives.items) below after b) (defers_on_inline_fragment i within (defers_then more on))
defers_then (defers_on_spread p {rest = rest} {after = after} more) {ys = ys} {b = b} on =
    subst (DefersOn (kind.FragmentSpread p ∷ (rest ++ ys))) (sym (append_assoc (defers p.value.value.directives.items) after b)) (defers_on_spread p (defers_then more on))

-- what is visited of one list of selections after another over which the walk came to its end
visited_then : {room : ℕ} {xs : List Selection} {a : List (Node Directive)} {whole : Bool} → DefersVisited room xs a whole → whole ≡ true →
    {ys : List Selection} {b : List (Node Directive)} {complete : Bool} → DefersVisited room ys b complete → DefersVisited room (xs ++ ys) (a ++ b) complete
visited_then visited_no_further is on = not_both (sym is)
visited_then visited_on_none is on = on
visited_then (visited_on_field f {room = room} {rest = rest} {below = below} {after = after} within more) is {ys = ys} {b = b} {complete = complete} on =
    subst (λ l. DefersVisited (suc room) (kind.Field f ∷ (rest ++ ys)) l complete) (three_then (defers f.value.value.directives.items) below after b) (visited_on_field f within (visited_then more is on))
visited_then (visited_until_in_field f within) is on = not_both (sym is)
visited_then (visited_on_inline_fragment i {room = room} {rest = rest} {below = below} {after = after} within more) is {ys = ys} {b = b} {complete = complete} on =
    subst (λ l. DefersVisited (suc room) (kind.InlineFragment i ∷ (rest ++ ys)) l complete) (three_then (defers i.value.value.directives.items) below after b) (visited_on_inline_fragment i within (visited_then more is on))
visited_then (visited_until_in_inline_fragment i within) is on = not_both (sym is)
visited_then (visited_on_spread p {room = room} {rest = rest} {after = after} more) is {ys = ys} {b = b} {complete = complete} on =
    subst (λ l. DefersVisited (suc room) (kind.FragmentSpread p ∷ (rest ++ ys)) l complete) (sym (append_assoc (defers p.value.value.directives.items) after b)) (visited_on_spread p (visited_then more is on))

-- a walk that stopped meets nothing behind
visited_stopped : {room : ℕ} {xs : List Selection} {a : List (Node Directive)} {whole : Bool} → DefersVisited room xs a whole → whole ≡ false →
    (ys : List Selection) → DefersVisited room (xs ++ ys) a false
visited_stopped visited_no_further is ys = visited_no_further
visited_stopped visited_on_none is ys = not_both is
visited_stopped (visited_on_field f within more) is ys = visited_on_field f within (visited_stopped more is ys)
visited_stopped (visited_until_in_field f within) is ys = visited_until_in_field f within
visited_stopped (visited_on_inline_fragment i within more) is ys = visited_on_inline_fragment i within (visited_stopped more is ys)
visited_stopped (visited_until_in_inline_fragment i within) is ys = visited_until_in_inline_fragment i within
visited_stopped (visited_on_spread p more) is ys = visited_on_spread p (visited_stopped more is ys)

-- with room for a set at least
visited_nothing : (room : ℕ) → 1 ≤ room → DefersVisited room [] [] true
visited_nothing zero visited_fragments = absurd (let no : ⊥ = omega (arith, visited_fragments) in no)
visited_nothing (suc room) visited_fragments = visited_on_none

visited_field : (f : Node Field) (room : ℕ) (visited : List (Node Directive)) (complete : Bool) → 1 ≤ room →
    ((less : ℕ) → room ≡ less + 1 → DefersVisited less (selections_of f.value.value.selection_set) visited complete) →
    DefersVisited room (kind.Field f ∷ []) (defers f.value.value.directives.items ++ visited) complete
visited_field f zero visited complete visited_fragments below = absurd (let no : ⊥ = omega (arith, visited_fragments) in no)
visited_field f (suc room) visited true visited_fragments below =
    subst (λ l. DefersVisited (suc room) (kind.Field f ∷ []) (defers f.value.value.directives.items ++ l) true) (append-nil visited) (visited_on_field f (below room (omega arith)) visited_on_none)
visited_field f (suc room) visited false visited_fragments below = visited_until_in_field f (below room (omega arith))

visited_inline_fragment : (i : Node InlineFragment) (room : ℕ) (visited : List (Node Directive)) (complete : Bool) → 1 ≤ room →
    ((less : ℕ) → room ≡ less + 1 → DefersVisited less (selections_of i.value.value.selection_set) visited complete) →
    DefersVisited room (kind.InlineFragment i ∷ []) (defers i.value.value.directives.items ++ visited) complete
visited_inline_fragment i zero visited complete visited_fragments below = absurd (let no : ⊥ = omega (arith, visited_fragments) in no)
visited_inline_fragment i (suc room) visited true visited_fragments below =
    subst (λ l. DefersVisited (suc room) (kind.InlineFragment i ∷ []) (defers i.value.value.directives.items ++ l) true) (append-nil visited) (visited_on_inline_fragment i (below room (omega arith)) visited_on_none)
visited_inline_fragment i (suc room) visited false visited_fragments below = visited_until_in_inline_fragment i (below room (omega arith))

visited_spread : (p : Node FragmentSpread) (room : ℕ) → 1 ≤ room → DefersVisited room (kind.FragmentSpread p ∷ []) (defers p.value.value.directives.items) true
visited_spread p zero visited_fragments = absurd (let no : ⊥ = omega (arith, visited_fragments) in no)
visited_spread p (suc room) visited_fragments =
    subst (λ l. DefersVisited (suc room) (kind.FragmentSpread p ∷ []) l true) (append-nil (defers p.value.value.directives.items)) (visited_on_spread p visited_on_none)

visited_without_room : (room : ℕ) → room ≡ 0 → (selections : List Selection) → DefersVisited room selections [] false
visited_without_room zero none selections = visited_no_further
visited_without_room (suc room) none selections = absurd (let no : ⊥ = omega (arith, none) in no)

not_cut : {A : Type 0} → IsFalse true → A
not_cut e = absurd (let no : ⊥ = cc in no)

not_whole : {A : Type 0} → IsTrue false → A
not_whole e = absurd (let no : ⊥ = cc in no)

-- the directives of a selection, by its kind
abbrev opened_directives : Open.Selection-F Selection Field InlineFragment SelectionSet → List (Node Directive)
opened_directives o = elim o [
  | Open.Field f ↦ f.value.value.directives.items
  | Open.FragmentSpread p ↦ p.value.value.directives.items
  | Open.InlineFragment i ↦ i.value.value.directives.items
]

pub defers_of_field : {s : Selection} (f : Node Field) → s ≡ kind.Field f → defers (directives_of s) ≡ defers f.value.value.directives.items
defers_of_field f is = ap (λ o. defers (opened_directives o)) (ap out-Selection is ∙ kind.outs-Field f)

pub defers_of_inline_fragment : {s : Selection} (i : Node InlineFragment) → s ≡ kind.InlineFragment i → defers (directives_of s) ≡ defers i.value.value.directives.items
defers_of_inline_fragment i is = ap (λ o. defers (opened_directives o)) (ap out-Selection is ∙ kind.outs-InlineFragment i)

pub defers_of_spread : {s : Selection} (p : Node FragmentSpread) → s ≡ kind.FragmentSpread p → defers (directives_of s) ≡ defers p.value.value.directives.items
defers_of_spread p is = ap (λ o. defers (opened_directives o)) (ap out-Selection is ∙ kind.outs-FragmentSpread p)

module _ (limit depth : ℕ) where
  -- no selection yet
  pub meets_none : {old : List (Node Directive)} → MeetsDefers limit depth 1 [] old old true
  meets_none {old = old} = record {
    visited = [];
    missed = [];
    appended = sym (append-nil old);
    order = defers_on_none;
    all = λ whole. refl;
    bound = not_cut;
    within = λ room visited_fragments same. visited_nothing room visited_fragments;
  }

  -- the next selection, behind those over which the walk came to its end
  module _ (xs : List Selection) (i : ℕ) (s : Selection) (in' : i < length xs) (item : s ≡ get_or xs i s) {old mid : List (Node Directive)} (a : MeetsDefers limit depth 1 (take i xs) old mid true) where
    before : DefersOn (take i xs) a.visited
    before = subst (DefersOn (take i xs)) (ap (λ l. a.visited ++ l) (a.all refl) ∙ append-nil a.visited) a.order

    pub meets_next : {new : List (Node Directive)} → MeetsDefers limit depth 1 (s ∷ []) mid new true → MeetsDefers limit depth 1 (take (i + 1) xs) old new true
    meets_next {new = new} b =
        record {
          visited = a.visited ++ b.visited;
          missed = b.missed;
          appended = b.appended ∙ ap (λ l. l ++ b.visited) a.appended ∙ append_assoc old a.visited b.visited;
          order = subst (λ l. DefersOn l ((a.visited ++ b.visited) ++ b.missed)) (sym (more_is xs i s in' item))
              (subst (DefersOn (take i xs ++ s ∷ [])) (sym (append_assoc a.visited b.visited b.missed)) (defers_then before b.order));
          all = b.all;
          bound = not_cut;
          within = λ room visited_fragments same. subst (λ l. DefersVisited room l (a.visited ++ b.visited) true) (sym (more_is xs i s in' item))
              (visited_then (a.within room visited_fragments same) refl (b.within room visited_fragments same));
        }

    -- where the walk stops at it, it misses what is behind it too
    pub meets_cut : {ys : List Selection} {new : List (Node Directive)} → xs ≡ ys → MeetsDefers limit depth 1 (s ∷ []) mid new false → MeetsDefers limit depth 1 ys old new false
    meets_cut {new = new} same b =
        let next = next_at xs i s in' item in
        let rest = has_defers next.after in
        let here : DefersOn (take i xs ++ s ∷ next.after) (a.visited ++ ((b.visited ++ b.missed) ++ rest.0)) = defers_then before (defers_then b.order rest.1) in
        let regroup : a.visited ++ ((b.visited ++ b.missed) ++ rest.0) ≡ (a.visited ++ b.visited) ++ (b.missed ++ rest.0) =
        ap (λ l. a.visited ++ l) (append_assoc b.visited b.missed rest.0) ∙ sym (append_assoc a.visited b.visited (b.missed ++ rest.0)) in
        subst (λ l. MeetsDefers limit depth 1 l old new false) same
        (record {
          visited = a.visited ++ b.visited;
          missed = b.missed ++ rest.0;
          appended = b.appended ∙ ap (λ l. l ++ b.visited) a.appended ∙ append_assoc old a.visited b.visited;
          order = subst (λ l. DefersOn l ((a.visited ++ b.visited) ++ (b.missed ++ rest.0))) (sym next.split) (subst (DefersOn (take i xs ++ s ∷ next.after)) regroup here);
          all = not_whole;
          bound = λ cut fragments set holds. b.bound refl fragments set
              (λ t there. subst (Contains (selections_of set)) (sym (only_one s t there)) (holds s (next_stands next)));
          within = λ room visited_fragments same'. subst (λ l. DefersVisited room l (a.visited ++ b.visited) false) (sym next.split)
              (visited_then (a.within room visited_fragments same') refl (visited_stopped (b.within room visited_fragments same') refl next.after));
        })

  -- with the same limit and depth in other words
  pub meets_at : (l d : ℕ) → l ≡ limit → d ≡ depth → {xs : List Selection} {old new : List (Node Directive)} {complete : Bool} →
      MeetsDefers l d 1 xs old new complete → MeetsDefers limit depth 1 xs old new complete
  meets_at l d same_limit same_depth {xs = xs} {old = old} {new = new} {complete = complete} m =
      subst (λ n. MeetsDefers n depth 1 xs old new complete) same_limit (subst (λ n. MeetsDefers l n 1 xs old new complete) same_depth m)

  pub meets_all : {xs ys : List Selection} (i : ℕ) {old new : List (Node Directive)} → length xs ≤ i → xs ≡ ys →
      MeetsDefers limit depth 1 (take i xs) old new true → MeetsDefers limit depth 1 ys old new true
  meets_all {xs = xs} i {old = old} {new = new} past same m = subst (λ l. MeetsDefers limit depth 1 l old new true) (take_all i xs past ∙ same) m

  -- a selection: its own applications, and those below it
  module _ (own below missed : List (Node Directive)) where
    grouped : own ++ ((below ++ missed) ++ []) ≡ (own ++ below) ++ missed
    grouped = ap (λ l. own ++ l) (append-nil (below ++ missed)) ∙ sym (append_assoc own below missed)

  pub meets_field : {s : Selection} (f : Node Field) {old mid new : List (Node Directive)} {complete : Bool} → s ≡ kind.Field f →
      (directives : List (Node Directive)) → directives ≡ directives_of s → mid ≡ old ++ defers directives →
      MeetsDefers limit (depth + 1) 0 (selections_of f.value.value.selection_set) mid new complete → MeetsDefers limit depth 1 (s ∷ []) old new complete
  meets_field f {old = old} {mid = mid} {new = new} {complete = complete} is directives given added b =
      let own = defers f.value.value.directives.items in
      let pushed = added ∙ ap (λ l. old ++ defers l) given ∙ ap (λ l. old ++ l) (defers_of_field f is) in
      subst (λ t. MeetsDefers limit depth 1 (t ∷ []) old new complete) (sym is)
      (record {
        visited = own ++ b.visited;
        missed = b.missed;
        appended = b.appended ∙ ap (λ l. l ++ b.visited) pushed ∙ append_assoc old own b.visited;
        order = subst (DefersOn (kind.Field f ∷ [])) (grouped own b.visited b.missed) (defers_on_field f b.order defers_on_none);
        all = b.all;
        bound = λ cut fragments set holds.
            let down = b.bound cut fragments f.value.value.selection_set (λ t there. there) in
            (suc down.0, descent_into_field refl (holds (kind.Field f) (stands_first (kind.Field f) [])) refl down.1, omega (arith, down.2));
        within = λ room visited_fragments same. visited_field f room b.visited complete visited_fragments (λ less is. b.within less (omega arith) (omega (arith, same, is)));
      })

  pub meets_inline_fragment : {s : Selection} (i : Node InlineFragment) {old mid new : List (Node Directive)} {complete : Bool} → s ≡ kind.InlineFragment i →
      (directives : List (Node Directive)) → directives ≡ directives_of s → mid ≡ old ++ defers directives →
      MeetsDefers limit (depth + 1) 0 (selections_of i.value.value.selection_set) mid new complete → MeetsDefers limit depth 1 (s ∷ []) old new complete
  meets_inline_fragment i {old = old} {mid = mid} {new = new} {complete = complete} is directives given added b =
      let own = defers i.value.value.directives.items in
      let pushed = added ∙ ap (λ l. old ++ defers l) given ∙ ap (λ l. old ++ l) (defers_of_inline_fragment i is) in
      subst (λ t. MeetsDefers limit depth 1 (t ∷ []) old new complete) (sym is)
      (record {
        visited = own ++ b.visited;
        missed = b.missed;
        appended = b.appended ∙ ap (λ l. l ++ b.visited) pushed ∙ append_assoc old own b.visited;
        order = subst (DefersOn (kind.InlineFragment i ∷ [])) (grouped own b.visited b.missed) (defers_on_inline_fragment i b.order defers_on_none);
        all = b.all;
        bound = λ cut fragments set holds.
            let down = b.bound cut fragments i.value.value.selection_set (λ t there. there) in
            (suc down.0, descent_into_inline_fragment (holds (kind.InlineFragment i) (stands_first (kind.InlineFragment i) [])) refl down.1, omega (arith, down.2));
        within = λ room visited_fragments same. visited_inline_fragment i room b.visited complete visited_fragments (λ less is. b.within less (omega arith) (omega (arith, same, is)));
      })

  pub meets_spread : {s : Selection} (p : Node FragmentSpread) {old new : List (Node Directive)} → s ≡ kind.FragmentSpread p →
      (directives : List (Node Directive)) → directives ≡ directives_of s → new ≡ old ++ defers directives →
      MeetsDefers limit depth 1 (s ∷ []) old new true
  meets_spread p {old = old} {new = new} is directives given added =
      let own = defers p.value.value.directives.items in
      let pushed = added ∙ ap (λ l. old ++ defers l) given ∙ ap (λ l. old ++ l) (defers_of_spread p is) in
      subst (λ t. MeetsDefers limit depth 1 (t ∷ []) old new true) (sym is)
      (record {
        visited = own;
        missed = [];
        appended = pushed;
        order = defers_on_spread p defers_on_none;
        all = λ whole. refl;
        bound = not_cut;
        within = λ room visited_fragments same. visited_spread p room visited_fragments;
      })

  -- a set that is not visited
  pub meets_limit : (set : SelectionSet) (old : List (Node Directive)) → limit ≤ depth → MeetsDefers limit (depth + 1) 0 (selections_of set) old old false
  meets_limit set old full =
      let missed = has_defers (selections_of set) in
      record {
        visited = [];
        missed = missed.0;
        appended = sym (append-nil old);
        order = missed.1;
        all = not_whole;
        bound = λ cut fragments held holds. (0, descent_ends, omega (arith, full));
        within = λ room none same. visited_without_room room (omega (arith, full, same)) (selections_of set);
      }

  -- a set that is visited
  pub meets_visited : {xs : List Selection} {old new : List (Node Directive)} {complete : Bool} → depth < limit →
      MeetsDefers limit (depth + 1) 1 xs old new complete → MeetsDefers limit (depth + 1) 0 xs old new complete
  meets_visited lower m = record {
    visited = m.visited;
    missed = m.missed;
    appended = m.appended;
    order = m.order;
    all = m.all;
    bound = m.bound;
    within = λ room none same. m.within room (omega (arith, lower, same)) same;
  }

-- a walk from nothing
pub meets_whole : (set : SelectionSet) (new : List (Node Directive)) (complete : Bool) → MeetsDefers 500 0 1 (selections_of set) [] new complete → HasVisitedDefers set new complete
meets_whole set new complete m = record {
  missed = m.missed;
  order = subst (λ l. DefersOn (selections_of set) (l ++ m.missed)) (sym m.appended) m.order;
  all = m.all;
  bound = λ cut fragments.
      let down = m.bound cut fragments set (λ t there. there) in
      record { depth = down.0; visited_fragments = []; descent = down.1; once = λ i j d lt within. absurd (let no : ⊥ = omega (arith, within) in no); passes = omega (arith, down.2) };
  within = subst (λ l. DefersVisited (suc walk_depth_limit) (selections_of set) l complete) (sym m.appended) (m.within 501 (omega arith) refl);
}

-- a directive more among which those are sought that are `@defer`
module _ (xs : List (Node Directive)) (i : ℕ) (x : Node Directive) (in' : i < length xs) (item : x ≡ get_or xs i x) where
  defers_more : defers (take (i + 1) xs) ≡ defers (take i xs) ++ defers (x ∷ [])
  defers_more = ap defers (more_is xs i x in' item) ∙ filter-append (λ (d : Node Directive). bytes_eq d.value.value.name.text (codes "defer")) (take i xs) (x ∷ [])

  pub defers_added : (base old new : List (Node Directive)) → bytes_eq x.value.value.name.text (codes "defer") ≡ true →
      old ≡ base ++ defers (take i xs) → new ≡ old ++ x ∷ [] → new ≡ base ++ defers (take (i + 1) xs)
  defers_added base old new is before pushed =
      let here : defers (x ∷ []) ≡ x ∷ [] = ap (λ b. cond b (x ∷ []) []) is in
      pushed ∙ ap (λ l. l ++ x ∷ []) before ∙ append_assoc base (defers (take i xs)) (x ∷ []) ∙ ap (λ l. base ++ l) (sym (defers_more ∙ ap (λ l. defers (take i xs) ++ l) here))

  pub defers_kept : (base old new : List (Node Directive)) → bytes_eq x.value.value.name.text (codes "defer") ≡ false →
      old ≡ base ++ defers (take i xs) → new ≡ old → new ≡ base ++ defers (take (i + 1) xs)
  defers_kept base old new is before same =
      let here : defers (x ∷ []) ≡ [] = ap (λ b. cond b (x ∷ []) []) is in
      same ∙ before ∙ ap (λ l. base ++ l) (sym (defers_more ∙ ap (λ l. defers (take i xs) ++ l) here ∙ append-nil (defers (take i xs))))
