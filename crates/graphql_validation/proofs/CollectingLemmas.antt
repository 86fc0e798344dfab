-- What a walk that collects fields lists: exactly the fields that are collected.
use Rattle.std.proofs.Common.{◌≡◌, ◌∷◌, ◌++◌, ◌∙◌, ◌⊎◌, ◌||◌, [], All, Any, Contains, List, Some, ap, inl, inr, refl, subst, sym, false}
use Rattle.std.proofs.lemmas.List.{append_assoc}
use Rattle.std.proofs.lemmas.List.Elements.{All-append, All-cons, All-contains, All-contains_itself, All-nil, All-weaker, Contains-append_left, Contains-append_right}
use Rattle.std.proofs.lemmas.List.Folds.{list_any-append}
use Rattle.std.specs.Prelude.{◌↔◌, IfSome, IsTrue}
use Rattle.graphql_specification.specs.CollectFields.{AppliesTo, CollectedFrom, CollectsAmong, CollectsFrom, CollectsIn, collect_next, collected_all, collected_here, collected_in_inline_fragment, collected_in_spread, collects_field, collects_inline_fragment, collects_none, collects_past_inline_fragment, collects_past_set, collects_past_spread, collects_set, collects_spread}
use Rattle.graphql_specification.specs.Merging.{FieldSelection}
use Rattle.graphql_nodes.specs.Names.{NameText, SameName, same_name, stands_on}
use Rattle.graphql_documents.specs.Selections.{Fragments, selections_of}
use Rattle.graphql_documents.specs.declared.documents.executables.Field.{Field}
use Rattle.graphql_documents.specs.declared.documents.executables.Fragment.{Fragment}
use Rattle.graphql_documents.specs.declared.documents.executables.FragmentSpread.{FragmentSpread}
use Rattle.graphql_documents.specs.declared.documents.executables.InlineFragment.{InlineFragment}
use Rattle.graphql_documents.specs.declared.documents.executables.Selection.TheVariants as kind
use Rattle.graphql_documents.specs.declared.documents.executables.Selection.{Selection}
use Rattle.graphql_documents.specs.declared.documents.executables.SelectionSet.{SelectionSet}
use Rattle.graphql_nodes.specs.declared.nodes.Node.{Node}
use Rattle.graphql_documents.specs.declared.documents.schemas.Schema.{Schema}
use Rattle.graphql_documents.proofs.ListLemmas.{none_stands, stands_behind, stands_first}
use Rattle.graphql_nodes.proofs.NameLemmas.{same_name_itself}
use Rattle.graphql_documents.proofs.SelectionLemmas.{not_inline, not_spread, same_field, same_inline, same_spread, spread_not_inline}
use Rattle.graphql_rules.proofs.VisitedNameLemmas.{behind_true, either_true}
use Rattle.graphql_variables.proofs.UseLemmas.{any_has, has_any}
use Rattle.std.proofs.lemmas.Option.{same_Some}

-- an element of a list with one in front
in_front : {X : Type 0} (x : X) (xs : List X) (y : X) → Contains (x ∷ xs) y → (y ≡ x) ⊎ Contains xs y
in_front x xs y stands = All-contains (λ z. (z ≡ x) ⊎ Contains xs z) (x ∷ xs) y (All-cons (λ z. (z ≡ x) ⊎ Contains xs z) x xs (inl refl) (All-weaker (Contains xs) (λ z. (z ≡ x) ⊎ Contains xs z) (λ z h. inr h) xs (All-contains_itself xs))) stands

-- names with one more behind them
stands_before : (names : List NameText) (name k : NameText) → IsTrue (stands_on names k) → IsTrue (stands_on (names ++ name ∷ []) k)
stands_before names name k there = list_any-append (same_name k) names (name ∷ []) ∙ ap (λ b. b || stands_on (name ∷ []) k) there

stands_last : (names : List NameText) (name : NameText) → IsTrue (stands_on (names ++ name ∷ []) name)
stands_last names name =
    list_any-append (same_name name) names (name ∷ []) ∙ behind_true (stands_on names name) (stands_on (name ∷ []) name) (ap (λ b. b || false) (same_name_itself name))

stands_either : (names : List NameText) (name k : NameText) → IsTrue (stands_on (names ++ name ∷ []) k) → IsTrue (stands_on names k) ⊎ SameName k name
stands_either names name k there =
    elim (either_true (stands_on names k) (stands_on (name ∷ []) k) (sym (list_any-append (same_name k) names (name ∷ [])) ∙ there)) [
      | inl before ↦ inl before
      | inr last ↦ elim (either_true (same_name k name) false last) [ inl same ↦ inr same | inr never ↦ absurd (let no' : ⊥ = cc in no') ]
    ]

module _ (schema : Schema) (fragments : Fragments) (object : NameText) where
  abbrev Among : NameText → List NameText → List Selection → List FieldSelection → List NameText → Type 0
  Among = CollectsAmong schema fragments object

  abbrev In : List NameText → SelectionSet → List FieldSelection → List NameText → Type 0
  In = CollectsIn schema fragments object

  abbrev From : SelectionSet → FieldSelection → Type 0
  From = CollectedFrom schema fragments object

  -- a walk over some selections, and then over more
  pub among_then : {parent : NameText} {seen mid visited : List NameText} {xs ys : List Selection} {fs gs : List FieldSelection} →
      Among parent seen xs fs mid → Among parent mid ys gs visited → Among parent seen (xs ++ ys) (fs ++ gs) visited
  among_then collects_none more = more
  among_then (collects_field f rest) more = collects_field f (among_then rest more)
  among_then {parent} {seen} {visited = visited} {ys = ys} {gs = gs} (collects_inline_fragment {rest = rest'} {within = within} {fields = fields} i condition inside rest) more =
      subst (λ l. Among parent seen (kind.InlineFragment i ∷ (rest' ++ ys)) l visited) (sym (append_assoc within fields gs))
      (collects_inline_fragment i condition inside (among_then rest more))
  among_then (collects_past_inline_fragment i condition no' rest) more = collects_past_inline_fragment i condition no' (among_then rest more)
  among_then (collects_past_spread p past rest) more = collects_past_spread p past (among_then rest more)
  among_then {parent} {seen} {visited = visited} {ys = ys} {gs = gs} (collects_spread {rest = rest'} {within = within} {fields = fields} p d new found inside rest) more =
      subst (λ l. Among parent seen (kind.FragmentSpread p ∷ (rest' ++ ys)) l visited) (sym (append_assoc within fields gs))
      (collects_spread p d new found inside (among_then rest more))

  -- a set of this type, which applies, and in which these selections are
  abbrev Has : NameText → List Selection → SelectionSet → Type 0
  Has parent xs set = AppliesTo schema object set.ty × (parent ≡ set.ty) × ((s : Selection) → Contains xs s → Contains (selections_of set) s)

  has_rest : (parent : NameText) (x : Selection) (xs : List Selection) (set : SelectionSet) → Has parent (x ∷ xs) set → Has parent xs set
  has_rest parent x xs set h = (h.0, h.1, λ s stands. h.2 s (stands_behind x xs s stands))

  -- each field that is listed is collected
  mutual
    among_sound : {parent : NameText} {seen visited : List NameText} {xs : List Selection} {fs : List FieldSelection} → Among parent seen xs fs visited →
        (set : SelectionSet) → Has parent xs set → All (From set) fs
    among_sound collects_none set h = All-nil (From set)
    among_sound {parent} (collects_field {rest = rest'} {fields = fields} f rest) set h =
        All-cons (From set) (record { parent = parent; field = f }) fields
        (collected_here h.0 (h.2 (kind.Field f) (stands_first (kind.Field f) rest')) h.1)
        (among_sound rest set (has_rest parent (kind.Field f) rest' set h))
    among_sound {parent} (collects_inline_fragment {rest = rest'} {within = within} {fields = fields} i condition inside rest) set h =
        All-append (From set) within fields
        (All-weaker (From i.value.value.selection_set) (From set)
        (λ x from. collected_in_inline_fragment h.0 (h.2 (kind.InlineFragment i) (stands_first (kind.InlineFragment i) rest')) condition from) within (in_sound inside))
        (among_sound rest set (has_rest parent (kind.InlineFragment i) rest' set h))
    among_sound {parent} (collects_past_inline_fragment {rest = rest'} i condition no' rest) set h = among_sound rest set (has_rest parent (kind.InlineFragment i) rest' set h)
    among_sound {parent} (collects_past_spread {rest = rest'} p past rest) set h = among_sound rest set (has_rest parent (kind.FragmentSpread p) rest' set h)
    among_sound {parent} (collects_spread {rest = rest'} {within = within} {fields = fields} p d new found inside rest) set h =
        All-append (From set) within fields
        (All-weaker (From d.value.value.selection_set) (From set)
        (λ x from. collected_in_spread h.0 (h.2 (kind.FragmentSpread p) (stands_first (kind.FragmentSpread p) rest')) found from) within (in_sound inside))
        (among_sound rest set (has_rest parent (kind.FragmentSpread p) rest' set h))

    in_sound : {seen visited : List NameText} {set : SelectionSet} {fs : List FieldSelection} → In seen set fs visited → All (From set) fs
    in_sound {set = set} (collects_set applies among) = among_sound among set (applies, refl, λ s stands. stands)
    in_sound {set = set} (collects_past_set no') = All-nil (From set)

  -- names that were visited stay visited
  mutual
    pub among_grows : {parent : NameText} {seen visited : List NameText} {xs : List Selection} {fs : List FieldSelection} → Among parent seen xs fs visited →
        (k : NameText) → IsTrue (stands_on seen k) → IsTrue (stands_on visited k)
    among_grows collects_none k there = there
    among_grows (collects_field f rest) k there = among_grows rest k there
    among_grows (collects_inline_fragment i condition inside rest) k there = among_grows rest k (in_grows inside k there)
    among_grows (collects_past_inline_fragment i condition no' rest) k there = among_grows rest k there
    among_grows (collects_past_spread p past rest) k there = among_grows rest k there
    among_grows {seen = seen} (collects_spread p d new found inside rest) k there =
        among_grows rest k (in_grows inside k (stands_before seen p.value.value.fragment_name k there))

    in_grows : {seen visited : List NameText} {set : SelectionSet} {fs : List FieldSelection} → In seen set fs visited →
        (k : NameText) → IsTrue (stands_on seen k) → IsTrue (stands_on visited k)
    in_grows (collects_set applies among) k there = among_grows among k there
    in_grows (collects_past_set no') k there = there

  module _ (all : List FieldSelection) (names : List NameText) where
    -- what is collected from the set is among all fields, or in a fragment whose name was visited
    mutual
      data Listed : SelectionSet → Type 0 where
        listed : {set : SelectionSet} → (AppliesTo schema object set.ty → (s : Selection) → Contains (selections_of set) s → ListedAt set.ty s) → Listed set

      data ListedAt : NameText → Selection → Type 0 where
        listed_by : {parent : NameText} {s : Selection} →
            ((f : Node Field) → s ≡ kind.Field f → Contains all (record { parent = parent; field = f })) →
            ((i : Node InlineFragment) → s ≡ kind.InlineFragment i → IfSome i.value.value.type_condition (AppliesTo schema object) → Listed i.value.value.selection_set) →
            ((p : Node FragmentSpread) (d : Node Fragment) → s ≡ kind.FragmentSpread p → fragments p.value.value.fragment_name ≡ Some d →
            IsTrue (stands_on names p.value.value.fragment_name)) →
            ListedAt parent s

    listed_at : {set : SelectionSet} → Listed set → AppliesTo schema object set.ty → (s : Selection) → Contains (selections_of set) s → ListedAt set.ty s
    listed_at (listed h) = h

    field_is : {parent : NameText} {s : Selection} → ListedAt parent s → (f : Node Field) → s ≡ kind.Field f → Contains all (record { parent = parent; field = f })
    field_is (listed_by f i p) = f

    inline_is : {parent : NameText} {s : Selection} → ListedAt parent s → (i : Node InlineFragment) → s ≡ kind.InlineFragment i → IfSome i.value.value.type_condition (AppliesTo schema object) →
        Listed i.value.value.selection_set
    inline_is (listed_by f i p) = i

    spread_is : {parent : NameText} {s : Selection} → ListedAt parent s → (p : Node FragmentSpread) (d : Node Fragment) → s ≡ kind.FragmentSpread p →
        fragments p.value.value.fragment_name ≡ Some d → IsTrue (stands_on names p.value.value.fragment_name)
    spread_is (listed_by f i p) = p

    abbrev IsClosed : Type 0
    IsClosed = (name : NameText) (d : Node Fragment) → IsTrue (stands_on names name) → fragments name ≡ Some d → Listed d.value.value.selection_set

    -- so each field that is collected is among all
    all_listed : IsClosed → {set : SelectionSet} {x : FieldSelection} → Listed set → From set x → Contains all x
    all_listed closed {x = x} h (collected_here {set = set} applies stands is) =
        let there = field_is (listed_at h applies (kind.Field x.field) stands) x.field refl in
        subst (λ p. Contains all (record { parent = p; field = x.field })) (sym is) there
    all_listed closed h (collected_in_inline_fragment {i = i} applies stands condition more) =
        all_listed closed (inline_is (listed_at h applies (kind.InlineFragment i) stands) i refl condition) more
    all_listed closed h (collected_in_spread {p = p} {d = d} applies stands found more) =
        all_listed closed (closed p.value.value.fragment_name d (spread_is (listed_at h applies (kind.FragmentSpread p) stands) p d refl found) found) more

    abbrev IsField : Selection → NameText → Type 0
    IsField s parent = ListedAt parent s

    -- what a walk over selections has listed: each of them, and the fragments that it has visited
    record Lists (parent : NameText) (seen : List NameText) (xs : List Selection) (visited : List NameText) : Type 0 where
      each : (s : Selection) → Contains xs s → ListedAt parent s
      closed : (k : NameText) (d : Node Fragment) → IsTrue (stands_on visited k) → fragments k ≡ Some d → IsTrue (stands_on seen k) ⊎ Listed d.value.value.selection_set

    record ListsIn (seen : List NameText) (set : SelectionSet) (visited : List NameText) : Type 0 where
      within : Listed set
      closed : (k : NameText) (d : Node Fragment) → IsTrue (stands_on visited k) → fragments k ≡ Some d → IsTrue (stands_on seen k) ⊎ Listed d.value.value.selection_set

    at_field : (parent : NameText) (f : Node Field) → Contains all (record { parent = parent; field = f }) → ListedAt parent (kind.Field f)
    at_field parent f there = listed_by
        (λ g is. subst (λ (q : Node Field). Contains all (record { parent = parent; field = q })) (same_field g f is) there)
        (λ i is. absurd (not_inline f i (sym is)))
        (λ p d is. absurd (not_spread f p (sym is)))

    at_inline : (parent : NameText) (i : Node InlineFragment) → (IfSome i.value.value.type_condition (AppliesTo schema object) → Listed i.value.value.selection_set) →
        ListedAt parent (kind.InlineFragment i)
    at_inline parent i goes = listed_by
        (λ f is. absurd (not_inline f i is))
        (λ j is. subst (λ (q : Node InlineFragment). IfSome q.value.value.type_condition (AppliesTo schema object) → Listed q.value.value.selection_set) (same_inline i j is) goes)
        (λ p d is. absurd (spread_not_inline i p (sym is)))

    at_spread : (parent : NameText) (p : Node FragmentSpread) → ((d : Node Fragment) → fragments p.value.value.fragment_name ≡ Some d → IsTrue (stands_on names p.value.value.fragment_name)) →
        ListedAt parent (kind.FragmentSpread p)
    at_spread parent p goes = listed_by
        (λ f is. absurd (not_spread f p is))
        (λ i is. absurd (spread_not_inline i p is))
        (λ q d is. subst (λ (r : Node FragmentSpread). fragments r.value.value.fragment_name ≡ Some d → IsTrue (stands_on names r.value.value.fragment_name)) (same_spread p q is) (goes d))

    -- one more selection in front
    lists_more : (parent : NameText) (seen mid visited : List NameText) (x : Selection) (xs : List Selection) → ListedAt parent x →
        ((k : NameText) (d : Node Fragment) → IsTrue (stands_on mid k) → fragments k ≡ Some d → IsTrue (stands_on seen k) ⊎ Listed d.value.value.selection_set) →
        Lists parent mid xs visited → Lists parent seen (x ∷ xs) visited
    lists_more parent seen mid visited x xs here first rest = record {
      each = λ s stands. elim (in_front x xs s stands) [ inl is ↦ subst (ListedAt parent) (sym is) here | inr behind ↦ rest.each s behind ];
      closed = λ k d there found. elim (rest.closed k d there found) [ inl between ↦ first k d between found | inr done ↦ inr done ];
    }

    same_names : (seen : List NameText) (k : NameText) (d : Node Fragment) → IsTrue (stands_on seen k) → fragments k ≡ Some d → IsTrue (stands_on seen k) ⊎ Listed d.value.value.selection_set
    same_names seen k d there found = inl there

    module _ (respects : (a b : NameText) → SameName a b → fragments a ≡ fragments b) where
      mutual
        among_lists : {parent : NameText} {seen visited : List NameText} {xs : List Selection} {fs : List FieldSelection} → Among parent seen xs fs visited →
            ((x : FieldSelection) → Contains fs x → Contains all x) → ((k : NameText) → IsTrue (stands_on visited k) → IsTrue (stands_on names k)) → Lists parent seen xs visited
        among_lists {seen = seen} collects_none has known = record { each = λ s stands. absurd (none_stands s stands); closed = same_names seen }
        among_lists {parent} {seen} {visited} (collects_field {rest = rest'} {fields = fields} f rest) has known =
            lists_more parent seen seen visited (kind.Field f) rest'
            (at_field parent f (has (record { parent = parent; field = f }) (stands_first (record { parent = parent; field = f }) fields))) (same_names seen)
            (among_lists rest (λ x stands. has x (stands_behind (record { parent = parent; field = f }) fields x stands)) known)
        among_lists {parent} {seen} {visited} (collects_inline_fragment {between = between} {rest = rest'} {within = within} {fields = fields} i condition inside rest) has known =
            let deep = in_lists inside (λ x stands. has x (Contains-append_left within fields x stands)) (λ k there. known k (among_grows rest k there)) in
            lists_more parent seen between visited (kind.InlineFragment i) rest' (at_inline parent i (λ c. deep.within)) deep.closed
            (among_lists rest (λ x stands. has x (Contains-append_right within fields x stands)) known)
        among_lists {parent} {seen} {visited} (collects_past_inline_fragment {condition = condition} {rest = rest'} i is no' rest) has known =
            lists_more parent seen seen visited (kind.InlineFragment i) rest'
            (at_inline parent i (λ c. absurd (no' (subst (λ o. IfSome o (AppliesTo schema object)) is c)))) (same_names seen) (among_lists rest has known)
        among_lists {parent} {seen} {visited} (collects_past_spread {rest = rest'} p past rest) has known =
            lists_more parent seen seen visited (kind.FragmentSpread p) rest'
            (at_spread parent p (λ d found. elim past [
              | inl there ↦ known p.value.value.fragment_name (among_grows rest p.value.value.fragment_name there)
              | inr none ↦ absurd (let no' : ⊥ = cc in no')
            ])) (same_names seen) (among_lists rest has known)
        among_lists {parent} {seen} {visited} (collects_spread {between = between} {rest = rest'} {within = within} {fields = fields} p d new found inside rest) has known =
            let name = p.value.value.fragment_name in
            let deep = in_lists inside (λ x stands. has x (Contains-append_left within fields x stands)) (λ k there. known k (among_grows rest k there)) in
            lists_more parent seen between visited (kind.FragmentSpread p) rest'
            (at_spread parent p (λ e is. known name (among_grows rest name (in_grows inside name (stands_last seen name)))))
            (λ k e there is. elim (deep.closed k e there is) [
              | inl pushed ↦ elim (stands_either seen name k pushed) [
                | inl before ↦ inl before
                | inr same ↦ inr (subst (λ (q : Node Fragment). Listed q.value.value.selection_set) (same_Some d e (sym found ∙ sym (respects k name same) ∙ is)) deep.within)
              ]
              | inr done ↦ inr done
            ])
            (among_lists rest (λ x stands. has x (Contains-append_right within fields x stands)) known)

        in_lists : {seen visited : List NameText} {set : SelectionSet} {fs : List FieldSelection} → In seen set fs visited →
            ((x : FieldSelection) → Contains fs x → Contains all x) → ((k : NameText) → IsTrue (stands_on visited k) → IsTrue (stands_on names k)) → ListsIn seen set visited
        in_lists {seen} {visited} {set} (collects_set applies among) has known =
            let l = among_lists among has known in
            record { within = listed (λ a s stands. l.each s stands); closed = l.closed }
        in_lists {seen} {visited} {set} (collects_past_set no') has known = record { within = listed (λ a s stands. absurd (no' a)); closed = same_names seen }

  -- the names that were visited by the end of a walk over several sets
  record Ends (seen : List NameText) (sets : List SelectionSet) (fields : List FieldSelection) : Type 0 where
    names : List NameText
    grows : (k : NameText) → IsTrue (stands_on seen k) → IsTrue (stands_on names k)
    lists : (respects : (a b : NameText) → SameName a b → fragments a ≡ fragments b) (all : List FieldSelection) (known : List NameText) → ((x : FieldSelection) → Contains fields x → Contains all x) →
        ((k : NameText) → IsTrue (stands_on names k) → IsTrue (stands_on known k)) → All (Listed all known) sets ×
        ((k : NameText) (d : Node Fragment) → IsTrue (stands_on names k) → fragments k ≡ Some d → IsTrue (stands_on seen k) ⊎ Listed all known d.value.value.selection_set)

  ends : {seen : List NameText} {sets : List SelectionSet} {fields : List FieldSelection} → CollectsFrom schema fragments object seen sets fields → Ends seen sets fields
  ends {seen} collected_all = record {
    names = seen;
    grows = λ k there. there;
    lists = λ respects all known has knows. (All-nil (Listed all known), λ k d there found. inl there);
  }
  ends {seen} (collect_next {visited = visited} {set = set} {sets = sets} {within = within} {fields = fields} inside rest) =
      let e = ends rest in record {
        names = e.names;
        grows = λ k there. e.grows k (in_grows inside k there);
        lists = λ respects all known has knows.
            let first = in_lists all known respects inside (λ x stands. has x (Contains-append_left within fields x stands)) (λ k there. knows k (e.grows k there)) in
            let others = e.lists respects all known (λ x stands. has x (Contains-append_right within fields x stands)) knows in (
              All-cons (Listed all known) set sets first.within others.0,
              λ k d there found. elim (others.1 k d there found) [ inl between ↦ first.closed k d between found | inr done ↦ inr done ],
            );
      }

  sets_sound : {seen : List NameText} {sets : List SelectionSet} {fields : List FieldSelection} → CollectsFrom schema fragments object seen sets fields →
      All (λ x. Any (λ set. From set x) sets) fields
  sets_sound collected_all = All-nil (λ x. Any (λ set. From set x) [])
  sets_sound (collect_next {set = set} {sets = sets} {within = within} {fields = fields} inside rest) =
      All-append (λ x. Any (λ s. From s x) (set ∷ sets)) within fields
      (All-weaker (From set) (λ x. Any (λ s. From s x) (set ∷ sets)) (λ x from. has_any (λ s. From s x) (set ∷ sets) set (stands_first set sets) from) within (in_sound inside))
      (All-weaker (λ x. Any (λ s. From s x) sets) (λ x. Any (λ s. From s x) (set ∷ sets))
      (λ x any. let h = any_has (λ s. From s x) sets any in has_any (λ s. From s x) (set ∷ sets) h.0 (stands_behind set sets h.0 h.1) h.2) fields (sets_sound rest))

  -- the walk over several sets lists exactly the fields that are collected from one of them
  pub lists_what_is_collected : ((a b : NameText) → SameName a b → fragments a ≡ fragments b) → (sets : List SelectionSet) (fields : List FieldSelection) →
      CollectsFrom schema fragments object [] sets fields → (x : FieldSelection) → Contains fields x ↔ Any (λ set. From set x) sets
  lists_what_is_collected respects sets fields walk x = (
    λ stands. All-contains (λ y. Any (λ set. From set y) sets) fields x (sets_sound walk) stands,
    λ any.
        let h = any_has (λ set. From set x) sets any in
        let e = ends walk in
        let l = e.lists respects fields e.names (λ y stands. stands) (λ k there. there) in
        all_listed fields e.names (λ k d there found. elim (l.1 k d there found) [ inl nothing ↦ absurd (let no' : ⊥ = cc in no') | inr done ↦ done ])
        (All-contains (Listed fields e.names) sets h.0 l.0 h.1) h.2,
  )
