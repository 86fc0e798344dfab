-- A descent through groups of merged lists has a chain of fields of its length.
use Rattle.std.proofs.Common.{◌≡◌, suc, ◌+◌, arith, true, List, [], ◌∷◌, ◌++◌, length, refl, sym, ap, subst, map, Contains}
use Rattle.std.specs.Prelude.{◌≢◌, is_some, slice_get}
use Rattle.std.proofs.lemmas.List.Elements.{All-contains, filter_passes}
use Rattle.graphql_nodes.specs.Names.{NameText, SameName}
use Rattle.graphql_documents.specs.Selections.{Fragments, selections_of}
use Rattle.graphql_specification.specs.MergedSets.{MergingDescent, merging_ends, merging_steps, Expansion, MergesBelow, nested_sets}
use Rattle.graphql_specification.specs.Merging.{FieldSelection, FieldInExpandedSet, Chain, chain_of_one, chain_of_more, set_of, Pass}
use Rattle.graphql_documents.specs.declared.documents.schemas.Schema.{Schema}
use Rattle.graphql_documents.specs.declared.documents.executables.Selection.{Selection}
use Rattle.graphql_documents.specs.declared.documents.executables.SelectionSet.{SelectionSet}
use Rattle.graphql_documents.proofs.ListLemmas.{only_one, stands_first}
use Rattle.graphql_laws.proofs.ExpandedListLaws.{lists_what_is_inside, below_lists_what_is_inside, sets_of_group}
use Rattle.graphql_laws.proofs.GroupLaws.{in_list}

-- a list that is not empty has a first
has_one : {X : Type 0} (xs : List X) → xs ≢ [] → (x : X) × Contains xs x
has_one [] some = absurd (some refl)
has_one (x ∷ xs) some = (x, stands_first x xs)

not_empty : (selections : List Selection) → is_some (slice_get selections 0) ≡ true → selections ≢ []
not_empty [] is e = let no : ⊥ = cc in no
not_empty (s ∷ rest) is e = let no : ⊥ = cc in no

module _ (schema : Schema) (fragments : Fragments) (respects : (a b : NameText) → SameName a b → fragments a ≡ fragments b) (pass : Pass) where
  -- a chain of so many fields in the set, the last of which selects something
  record LongChain (set : SelectionSet) (steps : List (List FieldSelection)) : Type 0 where
    chain : List FieldSelection
    last : FieldSelection
    is_chain : Chain fragments set (chain ++ last ∷ [])
    as_long : suc (length chain) ≡ length steps
    last_selects : selections_of (set_of last) ≢ []

  -- a field of the list with which a chain begins, in whatever set it is
  record Begins (fields : List FieldSelection) (steps : List (List FieldSelection)) : Type 0 where
    front : FieldSelection
    stands : Contains fields front
    from : (set : SelectionSet) → FieldInExpandedSet fragments set front → LongChain set steps

  at_last : (fields below : List FieldSelection) → MergesBelow schema fragments pass fields below → Begins fields (below ∷ [])
  at_last fields below step =
      let nested = has_one (nested_sets step.group) step.nested in
      let u = sets_of_group step.group nested.0 nested.1 in
      let passes = All-contains (λ (s : SelectionSet). is_some (slice_get (selections_of s) 0) ≡ true) (nested_sets step.group) nested.0
      (filter_passes (λ (s : SelectionSet). is_some (slice_get (selections_of s) 0)) (map set_of step.group)) nested.1 in
      record {
        front = u.0;
        stands = in_list schema fields step.is_group u.0 u.1;
        from = λ set here. record {
          chain = [];
          last = u.0;
          is_chain = chain_of_one here;
          as_long = refl;
          last_selects = subst (λ (s : SelectionSet). selections_of s ≢ []) (sym u.2) (not_empty (selections_of nested.0) passes);
        };
      }

  before : (fields below : List FieldSelection) (further : List (List FieldSelection)) → MergesBelow schema fragments pass fields below → Begins below further → Begins fields (below ∷ further)
  before fields below further step next =
      let outer = (below_lists_what_is_inside fragments respects step.group below step.expansion next.front).0 next.stands in
      let rest = next.from (set_of outer.0) outer.2 in
      record {
        front = outer.0;
        stands = in_list schema fields step.is_group outer.0 outer.1;
        from = λ set here. record {
          chain = outer.0 ∷ rest.chain;
          last = rest.last;
          is_chain = chain_of_more here rest.is_chain;
          as_long = ap (λ n. suc n) rest.as_long;
          last_selects = rest.last_selects;
        };
      }

  begins : {fields : List FieldSelection} {steps : List (List FieldSelection)} → MergingDescent schema fragments pass fields steps → steps ≢ [] → Begins fields steps
  begins merging_ends some = absurd (some refl)
  begins (merging_steps {fields = fields} {below = below} step merging_ends) some = at_last fields below step
  begins (merging_steps {fields = fields} {below = below} {further = further} step (merging_steps next more)) some =
      before fields below further step (begins (merging_steps next more) (λ e. let no : ⊥ = cc in no))

  pub descent_has_chain : (set : SelectionSet) (fields : List FieldSelection) (steps : List (List FieldSelection)) → Expansion fragments (set ∷ []) fields →
      MergingDescent schema fragments pass fields steps → steps ≢ [] →
      (chain : List FieldSelection) × (last : FieldSelection) × Chain fragments set (chain ++ last ∷ []) × (length chain + 1 ≡ length steps) × (selections_of (set_of last) ≢ [])
  descent_has_chain set fields steps expands descent some =
      let b = begins descent some in
      let here = (lists_what_is_inside fragments respects (set ∷ []) fields expands b.front).0 b.stands in
      let c = b.from set (subst (λ s. FieldInExpandedSet fragments s b.front) (only_one set here.0 here.1) here.2) in
      let as_long : length c.chain + 1 ≡ length steps = omega (arith, c.as_long) in
      (c.chain, c.last, c.is_chain, as_long, c.last_selects)
