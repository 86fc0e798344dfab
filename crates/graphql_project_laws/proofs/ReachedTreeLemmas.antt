-- The names that the selections of a tree reach by spreads are found, fragment by fragment. Specification: 2.4 Selection Sets to 2.8 Fragments.
use Rattle.std.proofs.Common.{◌≡◌, ◌∙◌, ◌⊎◌, ℕ, zero, suc, Bool, true, false, List, [], ◌∷◌, ◌++◌, Option, Some, arith, length, inl, inr, refl, sym, subst}
use Rattle.std.specs.Prelude.{Contains}
use Rattle.std.proofs.lemmas.List.Elements.{Contains-append_cases, Contains-append_left, Contains-append_right}
use Rattle.std.proofs.lemmas.List.Folds.{Any-from_list_any, list_any-from_Any}
use Rattle.graphql_nodes.proofs.NameLemmas.{same_name_back}
use Rattle.graphql_nodes.specs.Names.{NameText, SameName, same_name, stands_on}
use Rattle.graphql_documents.proofs.ListLemmas.{none_stands, only_one, stands_first}
use Rattle.graphql_documents.specs.declared.documents.executables.Selection.{Selection}
use Rattle.graphql_documents.specs.declared.documents.schemas.Schema.{Schema}
use Rattle.graphql_trees.specs.declared.executable.Field as field_tree
use Rattle.graphql_trees.specs.declared.executable.FragmentDefinition.{FragmentDefinition}
use Rattle.graphql_trees.specs.declared.executable.Selection as selection_tree
use Rattle.graphql_trees.specs.declared.executable.Selection.TheOpen as Open
use Rattle.graphql_trees.specs.declared.executable.Selection.TheVariants as tree
use Rattle.graphql_document_building.specs.Selections as says
use Rattle.graphql_document_building.specs.Selections.{SelectionSays, SelectionsSay}
use Rattle.graphql_document_building.specs.Trees.{selections_in}
use Rattle.graphql_projects.specs.OperationTrees.{Pool, SpreadsIn, fragment_named, spread_here, spread_in_field, spread_in_fragment, spread_in_inline_fragment}
use Rattle.graphql_projects.proofs.SaidDefinitionLemmas.{found_entry, one_found}
use Rattle.graphql_project_laws.proofs.PartLemmas.{Picked, pick}

-- ==== the names that are written in selections

-- a spread of the name is among the selections or below them: it is in no fragment, since there is none
abbrev pub WrittenIn : List selection_tree.Selection → NameText → Type 0
WrittenIn selections name = SpreadsIn [] selections name

-- the names of the spreads that are written in selections
pub record HasNames (selections : List selection_tree.Selection) : Type 0 where
  pub names : List NameText
  pub each : (name : NameText) → Contains names name → WrittenIn selections name
  pub all : (name : NameText) → WrittenIn selections name → Contains names name

written_among : {xs : List selection_tree.Selection} {name : NameText} → WrittenIn xs name → (ys : List selection_tree.Selection) →
    ((s : selection_tree.Selection) → Contains xs s → Contains ys s) → WrittenIn ys name
written_among (spread_here p there) ys among = spread_here p (among (tree.FragmentSpread p) there)
written_among (spread_in_field f there rest) ys among = spread_in_field f (among (tree.Field f) there) rest
written_among (spread_in_inline_fragment i there rest) ys among = spread_in_inline_fragment i (among (tree.InlineFragment i) there) rest
written_among (spread_in_fragment p d there named rest) ys among = absurd (let h : ⊥ = cc in h)

written_in_either : {xs : List selection_tree.Selection} {name : NameText} → WrittenIn xs name → (a b : List selection_tree.Selection) → xs ≡ a ++ b →
    WrittenIn a name ⊎ WrittenIn b name
written_in_either (spread_here p there) a b is = elim (Contains-append_cases a b (tree.FragmentSpread p) (subst (λ l. Contains l (tree.FragmentSpread p)) is there)) [
  | inl first ↦ inl (spread_here p first)
  | inr second ↦ inr (spread_here p second)
]
written_in_either (spread_in_field f there rest) a b is = elim (Contains-append_cases a b (tree.Field f) (subst (λ l. Contains l (tree.Field f)) is there)) [
  | inl first ↦ inl (spread_in_field f first rest)
  | inr second ↦ inr (spread_in_field f second rest)
]
written_in_either (spread_in_inline_fragment i there rest) a b is =
    elim (Contains-append_cases a b (tree.InlineFragment i) (subst (λ l. Contains l (tree.InlineFragment i)) is there)) [
      | inl first ↦ inl (spread_in_inline_fragment i first rest)
      | inr second ↦ inr (spread_in_inline_fragment i second rest)
    ]
written_in_either (spread_in_fragment p d there named rest) a b is = absurd (let h : ⊥ = cc in h)

-- what is written in one selection, by its form
abbrev IsWrittenIn : selection_tree.Selection → NameText → Type 0
IsWrittenIn t name = elim (selection_tree.out-Selection t) [
  | Open.Field x ↦ WrittenIn (selections_in (field_tree.out-Field x).selection_set) name
  | Open.FragmentSpread x ↦ name ≡ x.name
  | Open.InlineFragment x ↦ WrittenIn x.selection_set.selections name
]

written_in_one : {xs : List selection_tree.Selection} {name : NameText} → WrittenIn xs name → (t : selection_tree.Selection) → xs ≡ t ∷ [] → IsWrittenIn t name
written_in_one (spread_here p there) t is =
    let same : tree.FragmentSpread p ≡ t = only_one t (tree.FragmentSpread p) (subst (λ l. Contains l (tree.FragmentSpread p)) is there) in
    subst (λ s. IsWrittenIn s p.name) same (rw (tree.outs-FragmentSpread p, IsWrittenIn) refl)
written_in_one {name = name} (spread_in_field f there rest) t is =
    let same : tree.Field f ≡ t = only_one t (tree.Field f) (subst (λ l. Contains l (tree.Field f)) is there) in
    subst (λ s. IsWrittenIn s name) same (rw (tree.outs-Field f, IsWrittenIn) rest)
written_in_one {name = name} (spread_in_inline_fragment i there rest) t is =
    let same : tree.InlineFragment i ≡ t = only_one t (tree.InlineFragment i) (subst (λ l. Contains l (tree.InlineFragment i)) is there) in
    subst (λ s. IsWrittenIn s name) same (rw (tree.outs-InlineFragment i, IsWrittenIn) rest)
written_in_one (spread_in_fragment p d there named rest) t is = absurd (let h : ⊥ = cc in h)

no_names : HasNames []
no_names = record { names = []; each = λ name c. absurd (none_stands name c); all = none } where
  none_written : {xs : List selection_tree.Selection} {name : NameText} → WrittenIn xs name → xs ≡ [] → ⊥
  none_written (spread_here p there) is = none_stands (tree.FragmentSpread p) (subst (λ l. Contains l (tree.FragmentSpread p)) is there)
  none_written (spread_in_field f there rest) is = none_stands (tree.Field f) (subst (λ l. Contains l (tree.Field f)) is there)
  none_written (spread_in_inline_fragment i there rest) is = none_stands (tree.InlineFragment i) (subst (λ l. Contains l (tree.InlineFragment i)) is there)
  none_written (spread_in_fragment p d there named rest) is = let h : ⊥ = cc in h

  none : (name : NameText) → WrittenIn [] name → Contains [] name
  none name written = absurd (none_written written refl)

names_of_both : (x : selection_tree.Selection) (xs : List selection_tree.Selection) → HasNames (x ∷ []) → HasNames xs → HasNames (x ∷ xs)
names_of_both x xs first rest = record {
  names = first.names ++ rest.names;
  each = λ name c. elim (Contains-append_cases first.names rest.names name c) [
    | inl here ↦ written_among (first.each name here) (x ∷ xs) (λ s c. Contains-append_left (x ∷ []) xs s c)
    | inr there ↦ written_among (rest.each name there) (x ∷ xs) (λ s c. Contains-append_right (x ∷ []) xs s c)
  ];
  all = λ name written. elim (written_in_either written (x ∷ []) xs refl) [
    | inl here ↦ Contains-append_left first.names rest.names name (first.all name here)
    | inr there ↦ Contains-append_right first.names rest.names name (rest.all name there)
  ];
}

module _ {schema : Option Schema} where
  mutual
    names_of_selection : {parent : NameText} {t : selection_tree.Selection} {s : Selection} → SelectionSays schema parent t s → HasNames (t ∷ [])
    names_of_selection (says.field_says x f head set location) =
        let inner = names_of_selections set in
        record {
          names = inner.names;
          each = λ name c. spread_in_field x (stands_first (tree.Field x) []) (inner.each name c);
          all = λ name written. inner.all name (rw (tree.outs-Field x, IsWrittenIn) at (written_in_one written (tree.Field x) refl));
        }
    names_of_selection (says.fragment_spread_says x p spread) = record {
      names = x.name ∷ [];
      each = λ name c. subst (WrittenIn (tree.FragmentSpread x ∷ [])) (sym (only_one x.name name c)) (spread_here x (stands_first (tree.FragmentSpread x) []));
      all = λ name written. subst (Contains (x.name ∷ [])) (sym (rw (tree.outs-FragmentSpread x, IsWrittenIn) at (written_in_one written (tree.FragmentSpread x) refl)))
          (stands_first x.name []);
    }
    names_of_selection (says.inline_fragment_says x i head set location) =
        let inner = names_of_selections set in
        record {
          names = inner.names;
          each = λ name c. spread_in_inline_fragment x (stands_first (tree.InlineFragment x) []) (inner.each name c);
          all = λ name written. inner.all name (rw (tree.outs-InlineFragment x, IsWrittenIn) at (written_in_one written (tree.InlineFragment x) refl));
        }

    -- the trees of selections that say something have names that can be listed
    pub names_of_selections : {parent : NameText} {xs : List selection_tree.Selection} {ss : List Selection} → SelectionsSay schema parent xs ss → HasNames xs
    names_of_selections says.no_selections = no_names
    names_of_selections (says.next_selection {x = x} {xs = xs} first rest) = names_of_both x xs (names_of_selection first) (names_of_selections rest)

-- ==== what is written is spread, and what a fragment that is spread spreads

module _ (pool : Pool) where
  written_is_spread : {xs : List selection_tree.Selection} {name : NameText} → WrittenIn xs name → SpreadsIn pool xs name
  written_is_spread (spread_here p there) = spread_here p there
  written_is_spread (spread_in_field f there rest) = spread_in_field f there (written_is_spread rest)
  written_is_spread (spread_in_inline_fragment i there rest) = spread_in_inline_fragment i there (written_is_spread rest)
  written_is_spread (spread_in_fragment p d there named rest) = absurd (let h : ⊥ = cc in h)

  spread_then : {xs : List selection_tree.Selection} {name : NameText} → SpreadsIn pool xs name → (d : FragmentDefinition) → fragment_named pool name ≡ Some d →
      (further : NameText) → SpreadsIn pool d.selection_set.selections further → SpreadsIn pool xs further
  spread_then (spread_here p there) d named further more = spread_in_fragment p d there named more
  spread_then (spread_in_field f there rest) d named further more = spread_in_field f there (spread_then rest d named further more)
  spread_then (spread_in_inline_fragment i there rest) d named further more = spread_in_inline_fragment i there (spread_then rest d named further more)
  spread_then (spread_in_fragment p e there found rest) d named further more = spread_in_fragment p e there found (spread_then rest d named further more)

-- ==== the search

-- the names that selections reach by spreads
pub record ReachedNames (pool : Pool) (selections : List selection_tree.Selection) : Type 0 where
  pub names : List NameText
  pub each : (name : NameText) → Contains names name → SpreadsIn pool selections name
  pub all : (name : NameText) → SpreadsIn pool selections name → Contains names name

module _ (pool : Pool) (selections : List selection_tree.Selection) (begin : HasNames selections)
    (inside : (p : NameText × FragmentDefinition) → Contains pool p → HasNames p.1.selection_set.selections)
    (found : (p : NameText × FragmentDefinition) → Contains pool p → fragment_named pool p.0 ≡ Some p.1) where
  -- the names so far, and the fragments that wait: what is written in the others is among the names
  record Searches : Type 0 where
    names : List NameText
    rest : Pool
    within : (p : NameText × FragmentDefinition) → Contains rest p → Contains pool p
    each : (name : NameText) → Contains names name → SpreadsIn pool selections name
    begun : (name : NameText) → WrittenIn selections name → Contains names name
    followed : (p : NameText × FragmentDefinition) → Contains pool p →
        Contains rest p ⊎ ((name : NameText) → WrittenIn p.1.selection_set.selections name → Contains names name)

  search_begins : Searches
  search_begins = record {
    names = begin.names;
    rest = pool;
    within = λ p c. c;
    each = λ name c. written_is_spread pool (begin.each name c);
    begun = begin.all;
    followed = λ p c. inl c;
  }

  abbrev Waits : Searches → NameText × FragmentDefinition → Bool
  Waits s p = stands_on s.names p.0

  search_goes_on : (s : Searches) → Picked (Waits s) s.rest → Searches
  search_goes_on s k =
      let p = k.one in
      let there = s.within p k.there in
      let more = inside p there in
      let known = Any-from_list_any (same_name p.0) s.names k.passes in
      let named : fragment_named pool known.1 ≡ Some p.1 = sym (one_found pool p.0 known.1 known.4) ∙ found p there in
      let spread : SpreadsIn pool selections known.1 = s.each known.1 (known.0, known.2, known.3) in
      record {
        names = s.names ++ more.names;
        rest = k.rest;
        within = λ q c. s.within q (k.kept q c);
        each = λ name c. elim (Contains-append_cases s.names more.names name c) [
          | inl old ↦ s.each name old
          | inr new ↦ spread_then pool spread p.1 named name (written_is_spread pool (more.each name new))
        ];
        begun = λ name written. Contains-append_left s.names more.names name (s.begun name written);
        followed = λ q c. elim (s.followed q c) [
          | inl waits ↦ elim (k.others q waits) [
            | inl still ↦ inl still
            | inr is ↦ inr (subst (λ (z : NameText × FragmentDefinition). (name : NameText) → WrittenIn z.1.selection_set.selections name → Contains (s.names ++ more.names) name) (sym is)
                (λ name written. Contains-append_right s.names more.names name (more.all name written)))
          ]
          | inr was ↦ inr (λ name written. Contains-append_left s.names more.names name (was name written))
        ];
      }

  module _ (s : Searches) (none : (p : NameText × FragmentDefinition) → Contains s.rest p → Waits s p ≡ false) where
    not_waiting : (name : NameText) (k : NameText) (d : FragmentDefinition) → Contains s.names name → SameName name k → Contains s.rest (k, d) → ⊥
    not_waiting name k d known same waits =
        let passes : stands_on s.names k ≡ true = list_any-from_Any (same_name k) s.names (known.0, name, known.1, known.2, same_name_back name k same) in
        let fails = none (k, d) waits in
        let h : ⊥ = cc in h

    all_spread : {xs : List selection_tree.Selection} {name : NameText} → SpreadsIn pool xs name → ((written : NameText) → WrittenIn xs written → Contains s.names written) →
        Contains s.names name
    all_spread (spread_here p there) covers = covers p.name (spread_here p there)
    all_spread (spread_in_field f there rest) covers = all_spread rest (λ name written. covers name (spread_in_field f there written))
    all_spread (spread_in_inline_fragment i there rest) covers = all_spread rest (λ name written. covers name (spread_in_inline_fragment i there written))
    all_spread (spread_in_fragment p d there named rest) covers =
        let known = covers p.name (spread_here p there) in
        let entry = found_entry (same_name p.name) pool d named in
        all_spread rest (by known entry.0 entry.2 (s.followed (entry.0, d) entry.1))
      where
        by : Contains s.names p.name → (k : NameText) → SameName p.name k →
            Contains s.rest (k, d) ⊎ ((name : NameText) → WrittenIn d.selection_set.selections name → Contains s.names name) →
            (name : NameText) → WrittenIn d.selection_set.selections name → Contains s.names name
        by known k same (inl waits) name written = absurd (not_waiting p.name k d known same waits)
        by known k same (inr followed) name written = followed name written

    search_ends : ReachedNames pool selections
    search_ends = record { names = s.names; each = s.each; all = λ name spread. all_spread spread s.begun }

  search : (n : ℕ) (s : Searches) → length s.rest ≡ n → ReachedNames pool selections
  unfolding search_goes_on
  search zero s is = elim (pick (Waits s) s.rest) [
    | inl k ↦ absurd (omega (arith, is, k.fewer))
    | inr none ↦ search_ends s none
  ]
  search (suc n) s is = elim (pick (Waits s) s.rest) [
    | inl k ↦ search n (search_goes_on s k) (omega (arith, is, k.fewer))
    | inr none ↦ search_ends s none
  ]

  pub reached_names : ReachedNames pool selections
  unfolding search_begins
  reached_names = search (length pool) search_begins refl
