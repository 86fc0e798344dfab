-- The spreads among which a search for cycles of fragments goes on, and what it does at one of them.
use Rattle.std.proofs.Common.{◌≡◌, ℕ, ◌+◌, ◌<◌, ◌≤◌, ◌⊎◌, inl, inr, Bool, true, not, List, [], ◌∷◌, ◌++◌, Option, Some, None, length, take, drop, get_or, refl, sym, ◌∙◌, subst, Contains}
use Rattle.std.specs.Borrow.{Bor}
use Rattle.std.proofs.lemmas.Option.{none-some, same_Some}
use Rattle.std.proofs.lemmas.List.{take_all}
use Rattle.std.proofs.lemmas.List.Elements.{Contains-append_cases, Contains-append_right}
use Rattle.graphql_documents.proofs.ListLemmas.{more_is, only_one, stands_first}
use Rattle.graphql_nodes.proofs.NameLemmas.{same_name_back}
use Rattle.graphql_documents.proofs.SelectionLemmas.{not_inline, not_spread, one_fragment_found, same_field, same_inline, same_spread, spread_not_inline}
use Rattle.graphql_specification.specs.Fragments.{SpreadsBy, fragment_of}
use Rattle.graphql_nodes.specs.Names.{NameText, SameName, stands_on, with_name}
use Rattle.graphql_documents.specs.Selections.{SetWritten, fragments_of, selections_of, set_itself, set_in_field, set_in_inline_fragment}
use Rattle.graphql_documents.specs.declared.documents.executables.ExecutableDocument.{ExecutableDocument}
use Rattle.graphql_documents.specs.declared.documents.executables.Field.{Field}
use Rattle.graphql_documents.specs.declared.documents.executables.Fragment.{Fragment}
use Rattle.graphql_documents.specs.declared.documents.executables.FragmentSpread.{FragmentSpread}
use Rattle.graphql_documents.specs.declared.documents.executables.InlineFragment.{InlineFragment}
use Rattle.graphql_documents.specs.declared.documents.executables.Selection.TheVariants as kind
use Rattle.graphql_documents.specs.declared.documents.executables.Selection.{Selection}
use Rattle.graphql_documents.specs.declared.documents.executables.SelectionSet.{SelectionSet}
use Rattle.graphql_nodes.specs.declared.nodes.Node.{Node}
use Rattle.graphql_variables.proofs.SplitLemmas.{split_at}
use Rattle.graphql_guards.specs.declared.recursion.CycleError.{CycleError}
use Rattle.graphql_cycles.proofs.CycleLemmas.{ClosesNames, closes_fewer, closes_then, stops_wider}
use Rattle.graphql_cycles.proofs.SeenNameLemmas.{Marked, names_at, was_marked}
use Rattle.graphql_cycles.specs.CycleSearches.{StopsBy}
use Rattle.graphql_cycles.specs.FragmentSearches.{SpreadAmong, SpreadAt, SpreadIn, spread_itself, spread_in_field, spread_in_inline_fragment}

-- the name that a spread writes
abbrev pub name_of : Node FragmentSpread → NameText
name_of p = p.value.value.fragment_name

-- what is known of the spread that a node holds is known of the node
module _ (p : Node FragmentSpread) (held : FragmentSpread) (is : held ≡ p.value.value) where
  pub marked_of : (old new : List (Bor NameText)) (is_new : Bool) → is_new ≡ not (stands_on (names_at old) held.fragment_name) →
      names_at new ≡ with_name (names_at old) held.fragment_name → is_new ≡ true → Marked (name_of p) old new
  marked_of old new is_new e names new_is =
      subst (λ (f : FragmentSpread). Marked f.fragment_name old new) is (was_marked held.fragment_name old new is_new e names new_is)

  pub found_of : (document : ExecutableDocument) (found : Option (Node Fragment)) → found ≡ fragments_of document held.fragment_name →
      fragments_of document (name_of p) ≡ found
  found_of document found e = subst (λ (f : FragmentSpread). fragments_of document f.fragment_name ≡ found) is (sym e)

  pub longer_of : (path longer : List NameText) → longer ≡ path ++ held.fragment_name ∷ [] → longer ≡ path ++ name_of p ∷ []
  longer_of path longer e = subst (λ (f : FragmentSpread). longer ≡ path ++ f.fragment_name ∷ []) is e

-- what is written in a set is written at one of its selections
pub spread_among : {set : SelectionSet} {p : Node FragmentSpread} → SpreadIn set p → SpreadAmong (selections_of set) p
spread_among {p = p} written = at written.1 written.2 where
  at : {set inner : SelectionSet} → SetWritten set inner → Contains (selections_of inner) (kind.FragmentSpread p) → SpreadAmong (selections_of set) p
  at set_itself stands = (kind.FragmentSpread p, stands, spread_itself refl)
  at (set_in_field {f = f} there more) stands = (kind.Field f, there, spread_in_field f refl (_, more, stands))
  at (set_in_inline_fragment {i = i} there more) stands = (kind.InlineFragment i, there, spread_in_inline_fragment i refl (_, more, stands))

pub spread_in : {set : SelectionSet} {s : Selection} {p : Node FragmentSpread} → Contains (selections_of set) s → SpreadAt s p → SpreadIn set p
spread_in {set = set} stands (spread_itself is) = (set, set_itself, subst (Contains (selections_of set)) is stands)
spread_in {set = set} stands (spread_in_field f is w) = (w.0, set_in_field (subst (Contains (selections_of set)) is stands) w.1, w.2)
spread_in {set = set} stands (spread_in_inline_fragment i is w) = (w.0, set_in_inline_fragment (subst (Contains (selections_of set)) is stands) w.1, w.2)

-- what is written at a selection, by its kind
pub at_field : {s : Selection} {p : Node FragmentSpread} (f : Node Field) → s ≡ kind.Field f → SpreadAt s p → SpreadIn f.value.value.selection_set p
at_field {p = p} f is (spread_itself e) = absurd (not_spread f p (sym e ∙ is))
at_field {p = p} f is (spread_in_field g e w) = subst (λ (h : Node Field). SpreadIn h.value.value.selection_set p) (same_field f g (sym e ∙ is)) w
at_field f is (spread_in_inline_fragment i e w) = absurd (not_inline f i (sym e ∙ is))

pub at_inline_fragment : {s : Selection} {p : Node FragmentSpread} (i : Node InlineFragment) → s ≡ kind.InlineFragment i → SpreadAt s p →
    SpreadIn i.value.value.selection_set p
at_inline_fragment {p = p} i is (spread_itself e) = absurd (spread_not_inline i p (sym e ∙ is))
at_inline_fragment i is (spread_in_field f e w) = absurd (not_inline f i (sym is ∙ e))
at_inline_fragment {p = p} i is (spread_in_inline_fragment j e w) =
    subst (λ (h : Node InlineFragment). SpreadIn h.value.value.selection_set p) (same_inline j i (sym e ∙ is)) w

pub at_spread : {s : Selection} {q : Node FragmentSpread} (p : Node FragmentSpread) → s ≡ kind.FragmentSpread p → SpreadAt s q → q ≡ p
at_spread {q = q} p is (spread_itself e) = same_spread q p (sym e ∙ is)
at_spread p is (spread_in_field f e w) = absurd (not_spread f p (sym is ∙ e))
at_spread p is (spread_in_inline_fragment i e w) = absurd (spread_not_inline i p (sym is ∙ e))

-- a selection of a list is in it
stands_at : (xs : List Selection) (i : ℕ) (s : Selection) → i < length xs → s ≡ get_or xs i s → Contains xs s
stands_at xs i s within item =
    subst (λ l. Contains l s) (sym (split_at xs i s within item))
    (Contains-append_right (take i xs) (s ∷ drop (i + 1) xs) s (stands_first s (drop (i + 1) xs)))

-- one selection more
pub among_either : (xs : List Selection) (i : ℕ) (s : Selection) {p : Node FragmentSpread} → i < length xs → s ≡ get_or xs i s →
    SpreadAmong (take (i + 1) xs) p → SpreadAmong (take i xs) p ⊎ SpreadAt s p
among_either xs i s {p = p} within item among =
    elim (Contains-append_cases (take i xs) (s ∷ []) among.0 (subst (λ l. Contains l among.0) (more_is xs i s within item) among.1)) [
      | inl before ↦ inl (among.0, before, among.2)
      | inr last ↦ inr (subst (λ t. SpreadAt t p) (only_one s among.0 last) among.2)
    ]

-- spreads of one name lead to one fragment, or to none
pub one_target : (document : ExecutableDocument) (p : Node FragmentSpread) (d : Node Fragment) → fragments_of document (name_of p) ≡ Some d →
    (q : Node FragmentSpread) (e : Node Fragment) → SameName (name_of q) (name_of p) → fragment_of (fragments_of document) q ≡ Some e → e ≡ d
one_target document p d found q e same leads =
    same_Some e d (sym leads ∙ one_fragment_found document (name_of q) (name_of p) same ∙ found)

pub no_target : (document : ExecutableDocument) (p : Node FragmentSpread) → fragments_of document (name_of p) ≡ None →
    (q : Node FragmentSpread) (e : Node Fragment) → SameName (name_of q) (name_of p) → ¬ (fragment_of (fragments_of document) q ≡ Some e)
no_target document p none q e same leads =
    none-some e (sym none ∙ one_fragment_found document (name_of p) (name_of q) (same_name_back (name_of q) (name_of p) same) ∙ leads)

-- the searches of fragments
module _ (document : ExecutableDocument) (root : NameText) where
  -- what one has done
  abbrev pub ClosesOver : (Node FragmentSpread → Type 0) → (old new : List (Bor NameText)) → Type 0
  ClosesOver begins old new = ClosesNames SpreadsBy (fragment_of (fragments_of document)) name_of root begins old new

  -- why one stopped
  abbrev pub StopsOver : (Node FragmentSpread → Type 0) → List NameText → ℕ → CycleError FragmentSpread → Type 0
  StopsOver begins path limit e = StopsBy SpreadsBy (fragment_of (fragments_of document)) name_of root begins path limit e

  -- a search of one selection more, and of all
  pub closes_next : (xs : List Selection) (i : ℕ) (s : Selection) (old mid new : List (Bor NameText)) → i < length xs → s ≡ get_or xs i s →
      ClosesOver (SpreadAmong (take i xs)) old mid → ClosesOver (SpreadAt s) mid new → ClosesOver (SpreadAmong (take (i + 1) xs)) old new
  closes_next xs i s old mid new within item a b = closes_fewer (λ p. among_either xs i s within item) (closes_then a b)

  pub closes_whole : {xs : List Selection} (set : SelectionSet) (i : ℕ) (old new : List (Bor NameText)) → length xs ≤ i → xs ≡ selections_of set →
      ClosesOver (SpreadAmong (take i xs)) old new → ClosesOver (SpreadIn set) old new
  closes_whole {xs = xs} set i old new past same c =
      closes_fewer (λ p written. subst (λ l. SpreadAmong l p) (sym (take_all i xs past ∙ same)) (spread_among written)) c

  -- a search that stops at one of the selections
  pub stops_among : {xs : List Selection} (set : SelectionSet) (i : ℕ) (s : Selection) {path now : List NameText} {limit bound : ℕ} (e : CycleError FragmentSpread) →
      i < length xs → s ≡ get_or xs i s → xs ≡ selections_of set → now ≡ path → bound ≡ limit →
      StopsOver (SpreadAt s) now bound e → StopsOver (SpreadIn set) path limit e
  stops_among {xs = xs} set i s {path = path} {now = now} {bound = bound} e within item same is_path is_limit stops =
      let stands : Contains (selections_of set) s = subst (λ l. Contains l s) same (stands_at xs i s within item) in
      subst (λ n. StopsOver (SpreadIn set) path n e) is_limit
      (subst (λ l. StopsOver (SpreadIn set) l bound e) is_path
      (stops_wider SpreadsBy (fragment_of (fragments_of document)) name_of root (SpreadAt s) (SpreadIn set) now bound e (λ p at. spread_in {set = set} {s = s} {p = p} stands at) stops))
