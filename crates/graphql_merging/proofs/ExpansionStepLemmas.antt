-- The steps of an expansion: of a field, an inline fragment and a spread, one after another, and from one set
-- of the queue to the next.
use Rattle.std.proofs.Common.{Option, ◌≡◌, Bool, true, false, not, List, [], ◌∷◌, ◌++◌, Some, None, IsTrue, IsFalse, map, refl, sym, ap, ◌∙◌, subst, append_assoc}
use Rattle.std.specs.Prelude.{reverse, filter_map}
use Rattle.std.specs.Borrow.{Bor}
use Rattle.std.specs.List.{cons_option, list_any}
use Rattle.std.specs.Option.{option_map}
use Rattle.std.proofs.lemmas.List.{append-nil, map-append, reverse-append}
use Rattle.std.proofs.lemmas.List.Elements.{filter_map-append}
use Rattle.std.proofs.lemmas.List.Sorted.{IsPermutation-reverse, list_any-IsPermutation}
use Rattle.indexmap.specs.IndexSet.{insert_key}
use Rattle.graphql_specification.specs.MergedSets.{Expansion, ExpandsFrom, FragmentSets, as_field, expand_next, fields_standing, followed_by, into_inline_fragment, into_spread, no_more, past_field, past_spread}
use Rattle.graphql_specification.specs.Merging as merging
use Rattle.graphql_nodes.specs.Names.{NameText, same_name}
use Rattle.graphql_documents.specs.Selections.{Fragments, selections_of}
use Rattle.graphql_documents.specs.declared.documents.executables.Field.{Field}
use Rattle.graphql_documents.specs.declared.documents.executables.Fragment.{Fragment}
use Rattle.graphql_documents.specs.declared.documents.executables.FragmentSpread.{FragmentSpread}
use Rattle.graphql_documents.specs.declared.documents.executables.InlineFragment.{InlineFragment}
use Rattle.graphql_documents.specs.declared.documents.executables.Selection.TheOpen as Open
use Rattle.graphql_documents.specs.declared.documents.executables.Selection.TheVariants as kind
use Rattle.graphql_documents.specs.declared.documents.executables.Selection.{Selection}
use Rattle.graphql_documents.specs.declared.documents.executables.SelectionSet.{SelectionSet}
use Rattle.graphql_nodes.specs.declared.nodes.Node.{Node}
use Rattle.graphql_variables.proofs.NameSetLemmas.{same_key}
use Rattle.graphql_variables.proofs.SelectionWalkLemmas.{refs_any}
use Rattle.graphql_merging.specs.ExpansionSteps.{Expanding, Expands, fragments_in, newest}

-- a selection as it opens, as a field of a set of this type
abbrev opened_field : NameText → Open.Selection-F Selection Field InlineFragment SelectionSet → Option merging.FieldSelection
opened_field parent o = elim o [
  | Open.Field f ↦ Some (record { parent = parent; field = f })
  | Open.FragmentSpread p ↦ None
  | Open.InlineFragment i ↦ None
]

-- the fields among one selection
one_field : (parent : NameText) (f : Node Field) → filter_map (as_field parent) (kind.Field f ∷ []) ≡ record { parent = parent; field = f } ∷ []
one_field parent f = ap (λ o. cons_option (opened_field parent o) []) (kind.outs-Field f)

no_inline_field : (parent : NameText) (i : Node InlineFragment) → filter_map (as_field parent) (kind.InlineFragment i ∷ []) ≡ []
no_inline_field parent i = ap (λ o. cons_option (opened_field parent o) []) (kind.outs-InlineFragment i)

no_spread_field : (parent : NameText) (p : Node FragmentSpread) → filter_map (as_field parent) (kind.FragmentSpread p ∷ []) ≡ []
no_spread_field parent p = ap (λ o. cons_option (opened_field parent o) []) (kind.outs-FragmentSpread p)

among_newest : (keys : List (Bor NameText)) (k : Bor NameText) → list_any (same_key k) keys ≡ list_any (same_name k.now) (newest keys)
among_newest keys k =
    refs_any (λ r. r.now) k.now keys ∙
    list_any-IsPermutation (same_name k.now) (map (λ key. key.now) keys) (newest keys) (IsPermutation-reverse (map (λ key. key.now) keys))

not_back : (a b : Bool) → not a ≡ not b → a ≡ b
not_back true true e = refl
not_back true false e = sym e
not_back false true e = sym e
not_back false false e = refl

-- a name that was visited goes in no more
pub known_name : (keys added : List (Bor NameText)) (k : Bor NameText) (new : Bool) →
    new ≡ not (list_any (same_key k) keys) → added ≡ insert_key same_key keys k → IsFalse new →
    IsTrue (list_any (same_name k.now) (newest keys)) × (newest added ≡ newest keys)
known_name keys added k new is_new is is_known =
    let known : list_any (same_key k) keys ≡ true = not_back (list_any (same_key k) keys) true (sym is_new ∙ is_known) in
    let kept : insert_key same_key keys k ≡ keys = rw known refl in
    (sym (among_newest keys k) ∙ known, ap newest (is ∙ kept))

-- another goes in first
pub new_name : (keys added : List (Bor NameText)) (k : Bor NameText) (new : Bool) →
    new ≡ not (list_any (same_key k) keys) → added ≡ insert_key same_key keys k → IsTrue new →
    IsFalse (list_any (same_name k.now) (newest keys)) × (newest added ≡ k.now ∷ newest keys)
new_name keys added k new is_new is fresh =
    let other : list_any (same_key k) keys ≡ false = not_back (list_any (same_key k) keys) false (sym is_new ∙ fresh) in
    let put : insert_key same_key keys k ≡ keys ++ k ∷ [] = rw other refl in (
      sym (among_newest keys k) ∙ other,
      ap newest (is ∙ put) ∙ ap reverse (map-append (λ (key : Bor NameText). key.now) keys (k ∷ [])) ∙
          reverse-append (map (λ (key : Bor NameText). key.now) keys) (k.now ∷ []),
    )

-- a field is listed
pub field_expands : {old new : Expanding} {s : Selection} (parent : NameText) (f : Node Field) → s ≡ kind.Field f →
    new.fragments ≡ old.fragments → new.fields ≡ old.fields ++ record { parent = parent; field = f } ∷ [] →
    new.visited ≡ old.visited → new.queue ≡ old.queue → Expands old new parent (s ∷ [])
field_expands {old = old} {new = new} parent f is fragments fields visited queue =
    subst (λ t. Expands old new parent (t ∷ [])) (sym is) (record {
      fragments = fragments;
      fields = fields ∙ ap (λ l. old.fields ++ l) (sym (one_field parent f));
      sets = [];
      found = past_field f [] (subst (FragmentSets (fragments_in old.fragments) old.visited [] []) (sym visited) no_more);
      queue = queue ∙ sym (append-nil old.queue);
    })

-- the set of an inline fragment goes into the queue
pub inline_expands : {old new : Expanding} {s : Selection} (parent : NameText) (i : Node InlineFragment) → s ≡ kind.InlineFragment i →
    new.fragments ≡ old.fragments → new.fields ≡ old.fields →
    new.visited ≡ old.visited → new.queue ≡ old.queue ++ i.value.value.selection_set ∷ [] → Expands old new parent (s ∷ [])
inline_expands {old = old} {new = new} parent i is fragments fields visited queue =
    subst (λ t. Expands old new parent (t ∷ [])) (sym is) (record {
      fragments = fragments;
      fields = fields ∙ sym (append-nil old.fields) ∙ ap (λ l. old.fields ++ l) (sym (no_inline_field parent i));
      sets = i.value.value.selection_set ∷ [];
      found = into_inline_fragment i [] (subst (FragmentSets (fragments_in old.fragments) old.visited [] []) (sym visited) no_more);
      queue = queue;
    })

-- a spread whose name was visited
pub known_expands : {old new : Expanding} (parent : NameText) (p : Node FragmentSpread) →
    new.fragments ≡ old.fragments → new.fields ≡ old.fields →
    IsTrue (list_any (same_name p.value.value.fragment_name) old.visited) → new.visited ≡ old.visited →
    new.queue ≡ old.queue → Expands old new parent (kind.FragmentSpread p ∷ [])
known_expands {old = old} {new = new} parent p fragments fields known visited queue =
    record {
      fragments = fragments;
      fields = fields ∙ sym (append-nil old.fields) ∙ ap (λ l. old.fields ++ l) (sym (no_spread_field parent p));
      sets = [];
      found = past_spread p [] known (subst (FragmentSets (fragments_in old.fragments) old.visited [] []) (sym visited) no_more);
      queue = queue ∙ sym (append-nil old.queue);
    }

-- a spread of another name: the set of its fragment, if that is there, goes into the queue
pub spread_expands : {old new : Expanding} (parent : NameText) (p : Node FragmentSpread) →
    new.fragments ≡ old.fragments → new.fields ≡ old.fields →
    IsFalse (list_any (same_name p.value.value.fragment_name) old.visited) → new.visited ≡ p.value.value.fragment_name ∷ old.visited →
    new.queue ≡ old.queue ++ followed_by (fragments_in old.fragments p.value.value.fragment_name) [] →
    Expands old new parent (kind.FragmentSpread p ∷ [])
spread_expands {old = old} {new = new} parent p fragments fields fresh visited queue =
    record {
      fragments = fragments;
      fields = fields ∙ sym (append-nil old.fields) ∙ ap (λ l. old.fields ++ l) (sym (no_spread_field parent p));
      sets = followed_by (fragments_in old.fragments p.value.value.fragment_name) [];
      found = into_spread p [] fresh (subst (FragmentSets (fragments_in old.fragments) (p.value.value.fragment_name ∷ old.visited) [] []) (sym visited) no_more);
      queue = queue;
    }

-- the set of a fragment that was found, and of none
pub followed_found : (o : Option (Node Fragment)) (set : SelectionSet) → Some set ≡ option_map (λ d. d.value.value.selection_set) o → followed_by o [] ≡ set ∷ []
followed_found None set is = absurd (let no : ⊥ = cc in no)
followed_found (Some d) set is = let own : set ≡ d.value.value.selection_set = cc in ap (λ s. s ∷ []) (sym own)

pub followed_by_none : (o : Option (Node Fragment)) → None ≡ option_map (λ d. d.value.value.selection_set) o → followed_by o [] ≡ []
followed_by_none None is = refl
followed_by_none (Some d) is = absurd (let no : ⊥ = cc in no)

-- the sets among some selections, and among others behind them
followed_then : (fragments : Fragments) (name : NameText) (sets more : List SelectionSet) →
    followed_by (fragments name) sets ++ more ≡ followed_by (fragments name) (sets ++ more)
followed_then fragments name sets more = by (fragments name) where
  by : (found : Option (Node Fragment)) → followed_by found sets ++ more ≡ followed_by found (sets ++ more)
  by None = refl
  by (Some d) = refl

sets_then : {fragments : Fragments} {seen between : List NameText} {xs : List Selection} {sets : List SelectionSet} → FragmentSets fragments seen xs sets between →
    {visited : List NameText} {ys : List Selection} {more : List SelectionSet} → FragmentSets fragments between ys more visited →
    FragmentSets fragments seen (xs ++ ys) (sets ++ more) visited
sets_then no_more after = after
sets_then (past_field f rest found) {ys = ys} after = past_field f (rest ++ ys) (sets_then found after)
sets_then (into_inline_fragment i rest found) {ys = ys} after = into_inline_fragment i (rest ++ ys) (sets_then found after)
sets_then (past_spread p rest known found) {ys = ys} after = past_spread p (rest ++ ys) known (sets_then found after)
sets_then {fragments = fragments} {seen = seen} (into_spread {sets = sets} p rest fresh found) {visited = visited} {ys = ys} {more = more} after =
    subst (λ l. FragmentSets fragments seen (kind.FragmentSpread p ∷ (rest ++ ys)) l visited) (sym (followed_then fragments p.value.value.fragment_name sets more))
    (into_spread p (rest ++ ys) fresh (sets_then found after))

-- one step after another
pub expands_then : {a b c : Expanding} {parent : NameText} {xs ys : List Selection} → Expands a b parent xs → Expands b c parent ys → Expands a c parent (xs ++ ys)
expands_then {a = a} {b = b} {c = c} {parent = parent} {xs = xs} {ys = ys} first second =
    record {
      fragments = second.fragments ∙ first.fragments;
      fields = second.fields ∙ ap (λ l. l ++ filter_map (as_field parent) ys) first.fields
          ∙ append_assoc a.fields (filter_map (as_field parent) xs) (filter_map (as_field parent) ys)
          ∙ ap (λ l. a.fields ++ l) (sym (filter_map-append (as_field parent) xs ys));
      sets = first.sets ++ second.sets;
      found = sets_then first.found (subst (λ m. FragmentSets (fragments_in m) b.visited ys second.sets c.visited) first.fragments second.found);
      queue = second.queue ∙ ap (λ l. l ++ second.sets) first.queue ∙ append_assoc a.queue first.sets second.sets;
    }

-- nothing is done for no selections
pub expands_none : (a : Expanding) (parent : NameText) → Expands a a parent []
expands_none a parent = record {
  fragments = refl;
  fields = sym (append-nil a.fields);
  sets = [];
  found = no_more;
  queue = sym (append-nil a.queue);
}

-- once the first set of a queue was listed, what is left gives the rest of the same expansion
pub still_expands : (set : SelectionSet) (a b : Expanding) (sets : List SelectionSet) → Expands a b set.ty (selections_of set) →
    ((more : List merging.FieldSelection) → ExpandsFrom (fragments_in a.fragments) a.visited (set ∷ a.queue) more →
    Expansion (fragments_in a.fragments) sets (a.fields ++ more)) →
    (more : List merging.FieldSelection) → ExpandsFrom (fragments_in a.fragments) b.visited b.queue more →
    Expansion (fragments_in a.fragments) sets (b.fields ++ more)
still_expands set a b sets e before more rest =
    subst (Expansion (fragments_in a.fragments) sets)
    (sym (ap (λ l. l ++ more) e.fields ∙ append_assoc a.fields (fields_standing set) more))
    (before (fields_standing set ++ more) (expand_next e.found (subst (λ q. ExpandsFrom (fragments_in a.fragments) b.visited q more) e.queue rest)))
