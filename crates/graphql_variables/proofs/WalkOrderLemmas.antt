-- The order in which a walk lists the fields that it meets: one walk after another, a field, an inline
-- fragment, a spread, and the next selection of a set.
use Rattle.std.proofs.Common.{ℕ, ◌≡◌, ◌+◌, ◌<◌, ◌≤◌, List, [], ◌∷◌, ◌++◌, Option, Some, None, IsTrue, IsFalse, length, take, get_or, sym, ap, ◌∙◌, subst, append_assoc}
use Rattle.std.specs.Prelude.{reverse}
use Rattle.std.specs.List.{cons_option, list_any}
use Rattle.std.proofs.lemmas.List.{append-nil, reverse-append, take_all}
use Rattle.std.proofs.lemmas.List.Elements.{filter_map-append}
use Rattle.std.proofs.lemmas.List.Sorted.{IsPermutation-reverse, list_any-IsPermutation}
use Rattle.graphql_documents.proofs.ListLemmas.{more_is}
use Rattle.graphql_nodes.specs.Names.{NameText, same_name, stands_on}
use Rattle.graphql_documents.specs.Selections.{Fragments, selections_of, fields_among, field_of}
use Rattle.graphql_specification.specs.Subscriptions.{WalkedFields, walked_field, walked_inline_fragment, walked_known_spread, walked_none, walked_spread, walked_undefined_spread}
use Rattle.graphql_documents.specs.declared.documents.executables.Field.{Field}
use Rattle.graphql_documents.specs.declared.documents.executables.Fragment.{Fragment}
use Rattle.graphql_documents.specs.declared.documents.executables.FragmentSpread.{FragmentSpread}
use Rattle.graphql_documents.specs.declared.documents.executables.InlineFragment.{InlineFragment}
use Rattle.graphql_documents.specs.declared.documents.executables.Selection.TheOpen as Open
use Rattle.graphql_documents.specs.declared.documents.executables.Selection.TheVariants as kind
use Rattle.graphql_documents.specs.declared.documents.executables.Selection.{Selection}
use Rattle.graphql_documents.specs.declared.documents.executables.SelectionSet.{SelectionSet}
use Rattle.graphql_nodes.specs.declared.nodes.Node.{Node}
use Rattle.graphql_variables.proofs.SelectionWalkLemmas.{VisitedFragment, Listed}
use Rattle.graphql_variables.specs.WalkSteps.{ListsInOrder, visited_fragment_names, listed_of}
use Rattle.graphql_variables.specs.declared.walks.Visited.{Visited}

-- a selection as it opens, as a field
abbrev opened_field : Open.Selection-F Selection Field InlineFragment SelectionSet → Option (Node Field)
opened_field o = elim o [
  | Open.Field f ↦ Some f
  | Open.FragmentSpread p ↦ None
  | Open.InlineFragment i ↦ None
]

-- the fields among one selection
one_field : (f : Node Field) → fields_among (kind.Field f ∷ []) ≡ f ∷ []
one_field f = ap (λ o. cons_option (opened_field o) []) (kind.outs-Field f)

no_inline_field : (i : Node InlineFragment) → fields_among (kind.InlineFragment i ∷ []) ≡ []
no_inline_field i = ap (λ o. cons_option (opened_field o) []) (kind.outs-InlineFragment i)

no_spread_field : (p : Node FragmentSpread) → fields_among (kind.FragmentSpread p ∷ []) ≡ []
no_spread_field p = ap (λ o. cons_option (opened_field o) []) (kind.outs-FragmentSpread p)

-- a name that was visited last is first
last_first : {name : NameText} {old new : Visited} → VisitedFragment name old new → reverse (visited_fragment_names new) ≡ name ∷ reverse (visited_fragment_names old)
last_first {name = name} {old = old} e = ap reverse e.names ∙ reverse-append (visited_fragment_names old) (name ∷ [])

stands_among : (names : List NameText) (name : NameText) → stands_on names name ≡ list_any (same_name name) (reverse names)
stands_among names name = list_any-IsPermutation (same_name name) names (reverse names) (IsPermutation-reverse names)

module _ {fragments : Fragments} where
  -- one walk after another
  walked_then : {seen between : List NameText} {xs : List Selection} {fields : List (Node Field)} → WalkedFields fragments seen xs fields between →
      {visited : List NameText} {ys : List Selection} {more : List (Node Field)} → WalkedFields fragments between ys more visited →
      WalkedFields fragments seen (xs ++ ys) (fields ++ more) visited
  walked_then walked_none after = after
  walked_then (walked_field f rest w) {ys = ys} after = walked_field f (rest ++ ys) (walked_then w after)
  walked_then {seen = seen} (walked_inline_fragment {within = within} {fields = fields} i rest w next) {visited = visited} {ys = ys} {more = more} after =
      subst (λ l. WalkedFields fragments seen (kind.InlineFragment i ∷ (rest ++ ys)) l visited) (sym (append_assoc within fields more))
      (walked_inline_fragment i (rest ++ ys) w (walked_then next after))
  walked_then (walked_known_spread p rest known w) {ys = ys} after = walked_known_spread p (rest ++ ys) known (walked_then w after)
  walked_then (walked_undefined_spread p rest none w) {ys = ys} after = walked_undefined_spread p (rest ++ ys) none (walked_then w after)
  walked_then {seen = seen} (walked_spread {within = within} {fields = fields} p rest new found w next) {visited = visited} {ys = ys} {more = more} after =
      subst (λ l. WalkedFields fragments seen (kind.FragmentSpread p ∷ (rest ++ ys)) l visited) (sym (append_assoc within fields more))
      (walked_spread p (rest ++ ys) new found w (walked_then next after))

  -- below a field that is not visited, and below an inline fragment
  pub ordered_field : {s : Selection} (f : Node Field) {visited : Visited} → s ≡ kind.Field f → ListsInOrder fragments (s ∷ []) (fields_among (s ∷ [])) visited visited
  ordered_field f {visited = visited} is =
      let seen : List NameText = reverse (visited_fragment_names visited) in
      subst (λ t. ListsInOrder fragments (t ∷ []) (fields_among (t ∷ [])) visited visited) (sym is) (record {
        fields = [];
        listed = sym (append-nil (fields_among (listed_of visited)));
        walked = subst (λ l. WalkedFields fragments seen (kind.Field f ∷ []) l seen) (sym (append-nil (fields_among (kind.Field f ∷ [])) ∙ one_field f))
            (walked_field f [] walked_none);
      })

  pub ordered_inline_fragment : {s : Selection} (i : Node InlineFragment) {old new : Visited} → s ≡ kind.InlineFragment i →
      ListsInOrder fragments (selections_of i.value.value.selection_set) [] old new → ListsInOrder fragments (s ∷ []) (fields_among (s ∷ [])) old new
  ordered_inline_fragment i {old = old} {new = new} is o =
      subst (λ t. ListsInOrder fragments (t ∷ []) (fields_among (t ∷ [])) old new) (sym is) (record {
        fields = o.fields;
        listed = o.listed;
        walked = subst (λ l. WalkedFields fragments (reverse (visited_fragment_names old)) (kind.InlineFragment i ∷ []) l (reverse (visited_fragment_names new)))
            (append-nil o.fields ∙ sym (ap (λ l. l ++ o.fields) (no_inline_field i)))
            (walked_inline_fragment i [] o.walked walked_none);
      })

  module _ (p : Node FragmentSpread) where
    -- a spread whose name was visited before
    pub ordered_visited : (old new : Visited) → visited_fragment_names new ≡ visited_fragment_names old → listed_of new ≡ listed_of old →
        IsTrue (stands_on (visited_fragment_names old) p.value.value.fragment_name) →
        ListsInOrder fragments (kind.FragmentSpread p ∷ []) (fields_among (kind.FragmentSpread p ∷ [])) old new
    ordered_visited old new names listed visited_fragments =
        let seen : List NameText = reverse (visited_fragment_names old) in
        record {
          fields = [];
          listed = ap fields_among listed ∙ sym (append-nil (fields_among (listed_of old)));
          walked = subst (λ l. WalkedFields fragments seen (kind.FragmentSpread p ∷ []) l (reverse (visited_fragment_names new))) (sym (ap (λ l. l ++ []) (no_spread_field p)))
              (subst (WalkedFields fragments seen (kind.FragmentSpread p ∷ []) []) (sym (ap reverse names))
              (walked_known_spread p [] (subst IsTrue (stands_among (visited_fragment_names old) p.value.value.fragment_name) visited_fragments) walked_none));
        }

    -- a spread of a fragment that is not defined
    pub ordered_undefined : {old new : Visited} → VisitedFragment p.value.value.fragment_name old new → fragments p.value.value.fragment_name ≡ None →
        ListsInOrder fragments (kind.FragmentSpread p ∷ []) (fields_among (kind.FragmentSpread p ∷ [])) old new
    ordered_undefined {old = old} {new = new} e none =
        let seen : List NameText = reverse (visited_fragment_names old) in
        record {
          fields = [];
          listed = ap fields_among e.listed ∙ sym (append-nil (fields_among (listed_of old)));
          walked = subst (λ l. WalkedFields fragments seen (kind.FragmentSpread p ∷ []) l (reverse (visited_fragment_names new))) (sym (ap (λ l. l ++ []) (no_spread_field p)))
              (subst (WalkedFields fragments seen (kind.FragmentSpread p ∷ []) []) (sym (last_first e))
              (walked_undefined_spread p [] none walked_none));
        }

    -- a spread of one that is visited
    pub ordered_fragment : (d : Node Fragment) {old mid new : Visited} → VisitedFragment p.value.value.fragment_name old mid → fragments p.value.value.fragment_name ≡ Some d →
        ListsInOrder fragments (selections_of d.value.value.selection_set) [] mid new →
        ListsInOrder fragments (kind.FragmentSpread p ∷ []) (fields_among (kind.FragmentSpread p ∷ [])) old new
    ordered_fragment d {old = old} {new = new} e found o =
        let name : NameText = p.value.value.fragment_name in
        let seen : List NameText = reverse (visited_fragment_names old) in
        let visited : List NameText = reverse (visited_fragment_names new) in
        record {
          fields = o.fields;
          listed = o.listed ∙ ap (λ l. fields_among l ++ o.fields) e.listed;
          walked = subst (λ l. WalkedFields fragments seen (kind.FragmentSpread p ∷ []) l visited)
              (append-nil o.fields ∙ sym (ap (λ l. l ++ o.fields) (no_spread_field p)))
              (walked_spread p [] (subst IsFalse (stands_among (visited_fragment_names old) name) e.unvisited) found
              (subst (λ l. WalkedFields fragments l (selections_of d.value.value.selection_set) o.fields visited) (last_first e) o.walked)
              walked_none);
        }

  -- no selection yet, the next selection of a set, and all of them
  pub ordered_none : {visited : Visited} → ListsInOrder fragments [] [] visited visited
  ordered_none {visited = visited} = record { fields = []; listed = sym (append-nil (fields_among (listed_of visited))); walked = walked_none }

  pub ordered_next : (xs : List Selection) (i : ℕ) (s : Selection) {old mid pushed new : Visited} → i < length xs → s ≡ get_or xs i s → Listed s mid pushed →
      ListsInOrder fragments (take i xs) [] old mid → ListsInOrder fragments (s ∷ []) (fields_among (s ∷ [])) pushed new →
      ListsInOrder fragments (take (i + 1) xs) [] old new
  ordered_next xs i s {old = old} {mid = mid} {pushed = pushed} {new = new} within item e a b =
      let before = fields_among (listed_of old) in
      let here = fields_among (s ∷ []) in
      let pushed_is : fields_among (listed_of pushed) ≡ (before ++ a.fields) ++ here =
      ap fields_among e.listed ∙ filter_map-append field_of (listed_of mid) (s ∷ []) ∙ ap (λ l. l ++ here) a.listed in
      record {
        fields = a.fields ++ (here ++ b.fields);
        listed = b.listed ∙ ap (λ l. l ++ b.fields) pushed_is ∙ append_assoc (before ++ a.fields) here b.fields ∙ append_assoc before a.fields (here ++ b.fields);
        walked = subst (λ l. WalkedFields fragments (reverse (visited_fragment_names old)) l (a.fields ++ (here ++ b.fields)) (reverse (visited_fragment_names new)))
            (sym (more_is xs i s within item))
            (walked_then a.walked
            (subst (λ l. WalkedFields fragments (reverse l) (s ∷ []) (here ++ b.fields) (reverse (visited_fragment_names new))) e.names b.walked));
      }

  pub ordered_whole : {xs ys : List Selection} (i : ℕ) {old new : Visited} → length xs ≤ i → xs ≡ ys →
      ListsInOrder fragments (take i xs) [] old new → ListsInOrder fragments ys [] old new
  ordered_whole {xs = xs} i {old = old} {new = new} past same o = subst (λ l. ListsInOrder fragments l [] old new) (take_all i xs past ∙ same) o

  -- what a walk from nothing has listed
  pub ordered_from_nothing : {xs : List Selection} {old new : Visited} → visited_fragment_names old ≡ [] → listed_of old ≡ [] →
      ListsInOrder fragments xs [] old new → (visited : List NameText) × WalkedFields fragments [] xs (fields_among (listed_of new)) visited
  ordered_from_nothing {xs = xs} {new = new} names listed o =
      let visited : List NameText = reverse (visited_fragment_names new) in (
        visited,
        subst (λ l. WalkedFields fragments [] xs l visited) (sym (o.listed ∙ ap (λ l. fields_among l ++ o.fields) listed))
            (subst (λ l. WalkedFields fragments (reverse l) xs o.fields visited) names o.walked),
      )
