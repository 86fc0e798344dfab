-- A list of sets has one expansion.
use Rattle.std.proofs.Common.{◌≡◌, List, [], ◌∷◌, ◌++◌, ◌⊎◌, inl, inr, refl, sym, ◌∙◌, ap, subst}
use Rattle.graphql_nodes.specs.Names.{NameText}
use Rattle.graphql_documents.specs.Selections.{Fragments}
use Rattle.graphql_specification.specs.Merging.{FieldSelection}
use Rattle.graphql_specification.specs.MergedSets.{fields_standing, followed_by, FragmentSets, no_more, past_field, into_inline_fragment, past_spread, into_spread, ExpandsFrom, expanded, expand_next}
use Rattle.graphql_documents.specs.declared.documents.executables.Selection.{Selection, out-Selection}
use Rattle.graphql_documents.specs.declared.documents.executables.Selection.TheOpen as Open
use Rattle.graphql_documents.specs.declared.documents.executables.Selection.TheVariants as kind
use Rattle.graphql_documents.specs.declared.documents.executables.SelectionSet.{SelectionSet}
use Rattle.graphql_documents.specs.declared.documents.executables.Field.{Field}
use Rattle.graphql_documents.specs.declared.documents.executables.InlineFragment.{InlineFragment}
use Rattle.graphql_laws.proofs.VisitedNameLemmas.{Visited, Unvisited}

-- a selection as it opens
abbrev Opened : Type 0
Opened = Open.Selection-F Selection Field InlineFragment SelectionSet

module _ (fragments : Fragments) where
  -- what the sets of the fragments among the selections are, by the first of these
  abbrev FromFirst : Opened → List NameText → List Selection → List SelectionSet → List NameText → Type 0
  FromFirst (Open.Field f) seen rest sets visited = FragmentSets fragments seen rest sets visited
  FromFirst (Open.InlineFragment i) seen rest sets visited =
      (more : List SelectionSet) × FragmentSets fragments seen rest more visited × (sets ≡ i.value.value.selection_set ∷ more)
  FromFirst (Open.FragmentSpread p) seen rest sets visited =
      (Visited seen p.value.value.fragment_name × FragmentSets fragments seen rest sets visited) ⊎
      (Unvisited seen p.value.value.fragment_name × ((more : List SelectionSet) × FragmentSets fragments (p.value.value.fragment_name ∷ seen) rest more visited ×
      (sets ≡ followed_by (fragments p.value.value.fragment_name) more)))

  abbrev ByFirst : List NameText → List Selection → List SelectionSet → List NameText → Type 0
  ByFirst seen [] sets visited = (sets ≡ []) × (visited ≡ seen)
  ByFirst seen (s ∷ rest) sets visited = FromFirst (out-Selection s) seen rest sets visited

  by_first : {seen visited : List NameText} {selections : List Selection} {sets : List SelectionSet} → FragmentSets fragments seen selections sets visited → ByFirst seen selections sets visited
  by_first no_more = (refl, refl)
  by_first (past_field {seen = seen} {visited = visited} {sets = sets} f rest more) =
      subst (λ o. FromFirst o seen rest sets visited) (sym (kind.outs-Field f)) more
  by_first (into_inline_fragment {seen = seen} {visited = visited} {sets = sets} i rest more) =
      subst (λ o. FromFirst o seen rest (i.value.value.selection_set ∷ sets) visited) (sym (kind.outs-InlineFragment i)) (sets, more, refl)
  by_first (past_spread {seen = seen} {visited = visited} {sets = sets} p rest known more) =
      subst (λ o. FromFirst o seen rest sets visited) (sym (kind.outs-FragmentSpread p)) (inl (known, more))
  by_first (into_spread {seen = seen} {visited = visited} {sets = sets} p rest new more) =
      subst (λ o. FromFirst o seen rest (followed_by (fragments p.value.value.fragment_name) sets) visited) (sym (kind.outs-FragmentSpread p)) (inr (new, (sets, more, refl)))

  -- the sets and the names are these and no others
  abbrev AreThese : List SelectionSet → List SelectionSet → List NameText → List NameText → Type 0
  AreThese sets sets' visited visited' = (sets ≡ sets') × (visited ≡ visited')

  one_list : {seen visited : List NameText} {selections : List Selection} {sets : List SelectionSet} → FragmentSets fragments seen selections sets visited →
      (sets' : List SelectionSet) (visited' : List NameText) → FragmentSets fragments seen selections sets' visited' → AreThese sets sets' visited visited'
  one_list no_more sets' visited' other = let none = by_first other in (sym none.0, sym none.1)
  one_list (past_field {seen = seen} f rest more) sets' visited' other =
      one_list more sets' visited' (subst (λ o. FromFirst o seen rest sets' visited') (kind.outs-Field f) (by_first other))
  one_list (into_inline_fragment {seen = seen} i rest more) sets' visited' other =
      let first = subst (λ o. FromFirst o seen rest sets' visited') (kind.outs-InlineFragment i) (by_first other) in
      let same = one_list more first.0 visited' first.1 in
      (ap (λ l. i.value.value.selection_set ∷ l) same.0 ∙ sym first.2, same.1)
  one_list (past_spread {seen = seen} p rest known more) sets' visited' other =
      elim (subst (λ o. FromFirst o seen rest sets' visited') (kind.outs-FragmentSpread p) (by_first other)) [
        | inl old ↦ one_list more sets' visited' old.1
        | inr new ↦ let unvisited = new.0 in absurd (let no : ⊥ = cc in no)
      ]
  one_list (into_spread {seen = seen} p rest unvisited more) sets' visited' other =
      elim (subst (λ o. FromFirst o seen rest sets' visited') (kind.outs-FragmentSpread p) (by_first other)) [
        | inl old ↦ let known = old.0 in absurd (let no : ⊥ = cc in no)
        | inr new ↦
            let same = one_list more new.1.0 visited' new.1.1 in
            (ap (λ l. followed_by (fragments p.value.value.fragment_name) l) same.0 ∙ sym new.1.2, same.1)
      ]

  pub one_expansion : {seen : List NameText} {queue : List SelectionSet} {fields others : List FieldSelection} →
      ExpandsFrom fragments seen queue fields → ExpandsFrom fragments seen queue others → fields ≡ others
  one_expansion expanded expanded = refl
  one_expansion (expand_next {seen = seen} {visited = visited} {set = set} {queue = queue} {more = more} {fields = fields} found rest) (expand_next {visited = visited'} {more = more'} {fields = others} found' rest') =
      let same = one_list found more' visited' found' in
      let here : ExpandsFrom fragments visited (queue ++ more') others = subst (λ n. ExpandsFrom fragments n (queue ++ more') others) (sym same.1) rest' in
      let there : ExpandsFrom fragments visited (queue ++ more) others = subst (λ l. ExpandsFrom fragments visited (queue ++ l) others) (sym same.0) here in
      ap (λ l. fields_standing set ++ l) (one_expansion rest there)
