-- The list of the `@defer` applications of a document holds exactly those that are written in it.
use Rattle.std.proofs.Common.{◌≡◌, ◌↔◌, ◌⊎◌, inl, inr, List, [], ◌∷◌, ◌++◌, Contains, refl, sym, ◌∙◌, subst}
use Rattle.std.specs.Prelude.{flat_map}
use Rattle.std.proofs.lemmas.List.Elements.{Contains-append_cases, Contains-append_left, Contains-append_right}
use Rattle.graphql_specification.specs.Defer.{DefersIn, DefersOn, defers, defers_on_field, defers_on_inline_fragment, defers_on_none, defers_on_spread}
use Rattle.graphql_documents.specs.Executables.{sets_of}
use Rattle.graphql_documents.specs.Selections.{SetWritten, Written, directives_of, selections_of, set_in_field, set_in_inline_fragment, set_itself}
use Rattle.graphql_documents.specs.declared.documents.directives.Directive.{Directive}
use Rattle.graphql_documents.specs.declared.documents.executables.ExecutableDocument.{ExecutableDocument}
use Rattle.graphql_documents.specs.declared.documents.executables.Field.{Field}
use Rattle.graphql_documents.specs.declared.documents.executables.InlineFragment.{InlineFragment}
use Rattle.graphql_documents.specs.declared.documents.executables.Selection.TheVariants as kind
use Rattle.graphql_documents.specs.declared.documents.executables.Selection.{Selection}
use Rattle.graphql_documents.specs.declared.documents.executables.SelectionSet.{SelectionSet}
use Rattle.graphql_nodes.specs.declared.nodes.Node.{Node}
use Rattle.graphql_documents.proofs.ListLemmas.{none_stands, only_one, stands_behind, stands_first, stands_flat}
use Rattle.graphql_documents.proofs.SelectionLemmas.{not_inline, not_spread, same_field, same_inline, spread_not_inline}
use Rattle.graphql_operations.specs.DeferLabels.{IsWrittenDefer}
use Rattle.graphql_operations.proofs.DeferWalkLemmas.{defers_of_set, on_set, one_list_in}
use Rattle.graphql_operations.proofs.WrittenDeferLemmas.{defers_of_field, defers_of_inline_fragment, defers_of_spread}

first_or_behind : {X : Type 0} (x : X) (xs : List X) (y : X) → Contains (x ∷ xs) y → (y ≡ x) ⊎ Contains xs y
first_or_behind x xs y in' = by (Contains-append_cases (x ∷ []) xs y in') where
  by : Contains (x ∷ []) y ⊎ Contains xs y → (y ≡ x) ⊎ Contains xs y
  by (inl one) = inl (only_one x y one)
  by (inr there) = inr there

-- the selection is one of these or is below them: it is written in each set that has them
abbrev IsBelow : List Selection → Selection → Type 0
IsBelow selections s = (set : SelectionSet) → ((t : Selection) → Contains selections t → Contains (selections_of set) t) → Written set s

itself : (s : Selection) (rest : List Selection) → IsBelow (s ∷ rest) s
itself s rest set holds = (set, set_itself, holds s (stands_first s rest))

behind : (y : Selection) (rest : List Selection) (s : Selection) → IsBelow rest s → IsBelow (y ∷ rest) s
behind y rest s below set holds = below set (λ t there. holds t (stands_behind y rest t there))

in_field : (f : Node Field) (rest : List Selection) (s : Selection) → IsBelow (selections_of f.value.value.selection_set) s → IsBelow (kind.Field f ∷ rest) s
in_field f rest s below set holds =
    let w = below f.value.value.selection_set (λ t there. there) in
    (w.0, set_in_field (holds (kind.Field f) (stands_first (kind.Field f) rest)) w.1, w.2)

in_inline_fragment : (i : Node InlineFragment) (rest : List Selection) (s : Selection) → IsBelow (selections_of i.value.value.selection_set) s → IsBelow (kind.InlineFragment i ∷ rest) s
in_inline_fragment i rest s below set holds =
    let w = below i.value.value.selection_set (λ t there. there) in
    (w.0, set_in_inline_fragment (holds (kind.InlineFragment i) (stands_first (kind.InlineFragment i) rest)) w.1, w.2)

-- each application of the list is on one of the selections or below them
abbrev StandsBelow : List Selection → Node Directive → Type 0
StandsBelow selections d = (s : Selection) × IsBelow selections s × Contains (defers (directives_of s)) d

stands_below : {selections : List Selection} {ds : List (Node Directive)} → DefersOn selections ds → (d : Node Directive) → Contains ds d → StandsBelow selections d
stands_below defers_on_none d in' = absurd (none_stands d in')
stands_below (defers_on_field f {rest = rest} {below = below} {after = after} within more) d in' =
    elim (Contains-append_cases (defers f.value.value.directives.items) (below ++ after) d in') [
      | inl here ↦ (kind.Field f, itself (kind.Field f) rest, subst (λ l. Contains l d) (sym (defers_of_field f refl)) here)
      | inr further ↦
          elim (Contains-append_cases below after d further) [
            | inl there ↦ let found = stands_below within d there in (found.0, in_field f rest found.0 found.1, found.2)
            | inr there ↦ let found = stands_below more d there in (found.0, behind (kind.Field f) rest found.0 found.1, found.2)
          ]
    ]
stands_below (defers_on_inline_fragment i {rest = rest} {below = below} {after = after} within more) d in' =
    elim (Contains-append_cases (defers i.value.value.directives.items) (below ++ after) d in') [
      | inl here ↦ (kind.InlineFragment i, itself (kind.InlineFragment i) rest, subst (λ l. Contains l d) (sym (defers_of_inline_fragment i refl)) here)
      | inr further ↦
          elim (Contains-append_cases below after d further) [
            | inl there ↦ let found = stands_below within d there in (found.0, in_inline_fragment i rest found.0 found.1, found.2)
            | inr there ↦ let found = stands_below more d there in (found.0, behind (kind.InlineFragment i) rest found.0 found.1, found.2)
          ]
    ]
stands_below (defers_on_spread p {rest = rest} {after = after} more) d in' =
    elim (Contains-append_cases (defers p.value.value.directives.items) after d in') [
      | inl here ↦ (kind.FragmentSpread p, itself (kind.FragmentSpread p) rest, subst (λ l. Contains l d) (sym (defers_of_spread p refl)) here)
      | inr there ↦ let found = stands_below more d there in (found.0, behind (kind.FragmentSpread p) rest found.0 found.1, found.2)
    ]

-- the list has those of each selection
own_listed : {selections : List Selection} {ds : List (Node Directive)} → DefersOn selections ds → (s : Selection) → Contains selections s →
    (d : Node Directive) → Contains (defers (directives_of s)) d → Contains ds d
own_listed defers_on_none s in' d has = absurd (none_stands s in')
own_listed (defers_on_field f {rest = rest} {below = below} {after = after} within more) s in' d has =
    elim (first_or_behind (kind.Field f) rest s in') [
      | inl is ↦ Contains-append_left (defers f.value.value.directives.items) (below ++ after) d (subst (λ l. Contains l d) (defers_of_field f is) has)
      | inr there ↦
          Contains-append_right (defers f.value.value.directives.items) (below ++ after) d (Contains-append_right below after d (own_listed more s there d has))
    ]
own_listed (defers_on_inline_fragment i {rest = rest} {below = below} {after = after} within more) s in' d has =
    elim (first_or_behind (kind.InlineFragment i) rest s in') [
      | inl is ↦ Contains-append_left (defers i.value.value.directives.items) (below ++ after) d (subst (λ l. Contains l d) (defers_of_inline_fragment i is) has)
      | inr there ↦
          Contains-append_right (defers i.value.value.directives.items) (below ++ after) d (Contains-append_right below after d (own_listed more s there d has))
    ]
own_listed (defers_on_spread p {rest = rest} {after = after} more) s in' d has =
    elim (first_or_behind (kind.FragmentSpread p) rest s in') [
      | inl is ↦ Contains-append_left (defers p.value.value.directives.items) after d (subst (λ l. Contains l d) (defers_of_spread p is) has)
      | inr there ↦ Contains-append_right (defers p.value.value.directives.items) after d (own_listed more s there d has)
    ]

-- it has the list of each set below one of the selections
abbrev HasPart : SelectionSet → List (Node Directive) → Type 0
HasPart set ds = (part : List (Node Directive)) × DefersOn (selections_of set) part × ((d : Node Directive) → Contains part d → Contains ds d)

part_behind : (set : SelectionSet) (after own below : List (Node Directive)) → HasPart set after → HasPart set (own ++ (below ++ after))
part_behind set after own below p =
    (p.0, p.1, λ d in'. Contains-append_right own (below ++ after) d (Contains-append_right below after d (p.2 d in')))

field_listed : {selections : List Selection} {ds : List (Node Directive)} → DefersOn selections ds → (g : Node Field) → Contains selections (kind.Field g) →
    HasPart g.value.value.selection_set ds
field_listed defers_on_none g in' = absurd (none_stands (kind.Field g) in')
field_listed (defers_on_field f {rest = rest} {below = below} {after = after} within more) g in' =
    elim (first_or_behind (kind.Field f) rest (kind.Field g) in') [
      | inl is ↦
          let own = defers f.value.value.directives.items in
          subst (λ (h : Node Field). HasPart h.value.value.selection_set (own ++ (below ++ after))) (sym (same_field f g is))
          (below, within, λ d there. Contains-append_right own (below ++ after) d (Contains-append_left below after d there))
      | inr there ↦ part_behind g.value.value.selection_set after (defers f.value.value.directives.items) below (field_listed more g there)
    ]
field_listed (defers_on_inline_fragment i {rest = rest} {below = below} {after = after} within more) g in' =
    elim (first_or_behind (kind.InlineFragment i) rest (kind.Field g) in') [
      | inl is ↦ absurd (not_inline g i (sym is))
      | inr there ↦ part_behind g.value.value.selection_set after (defers i.value.value.directives.items) below (field_listed more g there)
    ]
field_listed (defers_on_spread p {rest = rest} {after = after} more) g in' =
    elim (first_or_behind (kind.FragmentSpread p) rest (kind.Field g) in') [
      | inl is ↦ absurd (not_spread g p (sym is))
      | inr there ↦ part_behind g.value.value.selection_set after (defers p.value.value.directives.items) [] (field_listed more g there)
    ]

inline_fragment_listed : {selections : List Selection} {ds : List (Node Directive)} → DefersOn selections ds → (j : Node InlineFragment) → Contains selections (kind.InlineFragment j) →
    HasPart j.value.value.selection_set ds
inline_fragment_listed defers_on_none j in' = absurd (none_stands (kind.InlineFragment j) in')
inline_fragment_listed (defers_on_field f {rest = rest} {below = below} {after = after} within more) j in' =
    elim (first_or_behind (kind.Field f) rest (kind.InlineFragment j) in') [
      | inl is ↦ absurd (not_inline f j is)
      | inr there ↦ part_behind j.value.value.selection_set after (defers f.value.value.directives.items) below (inline_fragment_listed more j there)
    ]
inline_fragment_listed (defers_on_inline_fragment i {rest = rest} {below = below} {after = after} within more) j in' =
    elim (first_or_behind (kind.InlineFragment i) rest (kind.InlineFragment j) in') [
      | inl is ↦
          let own = defers i.value.value.directives.items in
          subst (λ (h : Node InlineFragment). HasPart h.value.value.selection_set (own ++ (below ++ after))) (sym (same_inline j i is))
          (below, within, λ d there. Contains-append_right own (below ++ after) d (Contains-append_left below after d there))
      | inr there ↦ part_behind j.value.value.selection_set after (defers i.value.value.directives.items) below (inline_fragment_listed more j there)
    ]
inline_fragment_listed (defers_on_spread p {rest = rest} {after = after} more) j in' =
    elim (first_or_behind (kind.FragmentSpread p) rest (kind.InlineFragment j) in') [
      | inl is ↦ absurd (spread_not_inline j p (sym is))
      | inr there ↦ part_behind j.value.value.selection_set after (defers p.value.value.directives.items) [] (inline_fragment_listed more j there)
    ]

written_listed : {set inner : SelectionSet} → SetWritten set inner → (ds : List (Node Directive)) → DefersOn (selections_of set) ds →
    (s : Selection) → Contains (selections_of inner) s → (d : Node Directive) → Contains (defers (directives_of s)) d → Contains ds d
written_listed set_itself ds on s in' d has = own_listed on s in' d has
written_listed (set_in_field {f = f} there more) ds on s in' d has =
    let p = field_listed on f there in p.2 d (written_listed more p.0 p.1 s in' d has)
written_listed (set_in_inline_fragment {i = i} there more) ds on s in' d has =
    let p = inline_fragment_listed on i there in p.2 d (written_listed more p.0 p.1 s in' d has)

-- what is in one of several lists
found_in : {X Y : Type 0} (f : X → List Y) (xs : List X) (y : Y) → Contains (flat_map f xs) y → (x : X) × Contains xs x × Contains (f x) y
found_in f [] y in' = absurd (none_stands y in')
found_in f (x ∷ xs) y in' =
    elim (Contains-append_cases (f x) (flat_map f xs) y in') [
      | inl here ↦ (x, stands_first x xs, here)
      | inr there ↦ let found = found_in f xs y there in (found.0, stands_behind x xs found.0 found.1, found.2)
    ]

pub one_list : (document : ExecutableDocument) (a b : List (Node Directive)) → DefersIn document a → DefersIn document b → a ≡ b
one_list document a b are_a are_b = one_list_in document a are_a ∙ sym (one_list_in document b are_b)

pub all_written : (document : ExecutableDocument) (applications : List (Node Directive)) → DefersIn document applications →
    (d : Node Directive) → Contains applications d ↔ IsWrittenDefer document d
all_written document applications are d = (to, from) where
  listed : applications ≡ flat_map defers_of_set (sets_of document)
  listed = one_list_in document applications are

  to : Contains applications d → IsWrittenDefer document d
  to in' =
      let found = found_in defers_of_set (sets_of document) d (subst (λ l. Contains l d) listed in') in
      let at = stands_below (on_set found.0) d found.2 in
      record { set = found.0; s = at.0; of_document = found.1; written = at.1 found.0 (λ t there. there); deferred = at.2 }

  from : IsWrittenDefer document d → Contains applications d
  from w =
      let in' = written_listed w.written.1 (defers_of_set w.set) (on_set w.set) w.s w.written.2 d w.deferred in
      subst (λ l. Contains l d) (sym listed) (stands_flat defers_of_set (sets_of document) w.set d w.of_document in')
