-- All fields at the ends of two chains agree exactly where all fields that meet do.
use Rattle.std.proofs.Common.{◌↔◌, List, [], ◌∷◌, ◌++◌}
use Rattle.std.specs.List.{AllZip}
use Rattle.graphql_documents.specs.Selections.{Fragments}
use Rattle.graphql_specification.specs.Merging.{FieldSelection, Chain, chain_of_one, chain_of_more, FieldsCanMerge, SameKey, set_of, Pass, shape_pass, field_pass}
use Rattle.graphql_specification.specs.MergedSets.{Agree, ArePutTogether, Meet, meet_here, meet_below, MeetingFieldsAgree}
use Rattle.graphql_documents.specs.declared.documents.schemas.Schema.{Schema}
use Rattle.graphql_documents.specs.declared.documents.executables.SelectionSet.{SelectionSet}
use Rattle.graphql_laws.proofs.MergedListLaws.{ParentsIn, Throughout, after_first, begins, throughout_first, throughout_one}

module _ (schema : Schema) (fragments : Fragments) where
  put_together : (pass : Pass) (x y : FieldSelection) → SameKey x y → ParentsIn schema pass x y → ArePutTogether schema pass x y
  put_together shape_pass x y key parents = key
  put_together field_pass x y key parents = (key, parents)

  key_and_parents : (pass : Pass) (x y : FieldSelection) → ArePutTogether schema pass x y → SameKey x y × ParentsIn schema pass x y
  key_and_parents shape_pass x y put = (put, tt)
  key_and_parents field_pass x y put = put

  throughout_before : (pass : Pass) (u v : FieldSelection) (xs ys : List FieldSelection) → ParentsIn schema pass u v → Throughout schema pass xs ys →
      Throughout schema pass (u ∷ xs) (v ∷ ys)
  throughout_before shape_pass u v xs ys here all = tt
  throughout_before field_pass u v xs ys here all = (here, all)

  -- two chains from two sets, with the same keys and such parents, which end in these two fields
  record Chains (pass : Pass) (s t : SelectionSet) (x y : FieldSelection) : Type 0 where
    xs : List FieldSelection
    ys : List FieldSelection
    first : Chain fragments s (xs ++ x ∷ [])
    second : Chain fragments t (ys ++ y ∷ [])
    keys : AllZip SameKey (xs ++ x ∷ []) (ys ++ y ∷ [])
    overlap : Throughout schema pass (xs ++ x ∷ []) (ys ++ y ∷ [])

  chains_of : {pass : Pass} {s t : SelectionSet} {x y : FieldSelection} → Meet schema fragments pass s t x y → Chains pass s t x y
  chains_of {pass} (meet_here {x = x} {y = y} in_x in_y put) =
      let both = key_and_parents pass x y put in
      record {
        xs = [];
        ys = [];
        first = chain_of_one in_x;
        second = chain_of_one in_y;
        keys = (both.0, tt);
        overlap = throughout_one schema pass x y both.1;
      }
  chains_of {pass} (meet_below u v {x = x} {y = y} in_u in_v put below) =
      let both = key_and_parents pass u v put in
      let more = chains_of below in
      record {
        xs = u ∷ more.xs;
        ys = v ∷ more.ys;
        first = chain_of_more in_u more.first;
        second = chain_of_more in_v more.second;
        keys = (both.0, more.keys);
        overlap = throughout_before pass u v (more.xs ++ x ∷ []) (more.ys ++ y ∷ []) both.1 more.overlap;
      }

  meet : (pass : Pass) (s t : SelectionSet) (xs ys : List FieldSelection) (x y : FieldSelection) → Chain fragments s (xs ++ x ∷ []) → Chain fragments t (ys ++ y ∷ []) →
      AllZip SameKey (xs ++ x ∷ []) (ys ++ y ∷ []) → Throughout schema pass (xs ++ x ∷ []) (ys ++ y ∷ []) → Meet schema fragments pass s t x y
  meet pass s t [] [] x y first second keys parents =
      meet_here (begins first) (begins second) (put_together pass x y keys.0 (throughout_first schema pass x y [] [] parents).0)
  meet pass s t [] (v ∷ []) x y first second keys parents = absurd keys.1
  meet pass s t [] (v ∷ (w ∷ ys)) x y first second keys parents = absurd keys.1
  meet pass s t (u ∷ []) [] x y first second keys parents = absurd keys.1
  meet pass s t (u ∷ (w ∷ xs)) [] x y first second keys parents = absurd keys.1
  meet pass s t (u ∷ xs) (v ∷ ys) x y first second keys parents =
      let outer = throughout_first schema pass u v (xs ++ x ∷ []) (ys ++ y ∷ []) parents in
      meet_below u v (begins first) (begins second) (put_together pass u v keys.0 outer.0)
      (meet pass (set_of u) (set_of v) xs ys x y (after_first u xs x first) (after_first v ys y second) keys.1 outer.1)

  chains_agree : (set : SelectionSet) → FieldsCanMerge schema fragments set → (pass : Pass) (x y : FieldSelection) → Chains pass set set x y → Agree schema pass x y
  chains_agree set merges shape_pass x y c = merges.shapes c.xs c.ys x y (record { first = c.first; second = c.second; keys = c.keys })
  chains_agree set merges field_pass x y c = merges.fields c.xs c.ys x y (record { first = c.first; second = c.second; keys = c.keys }) c.overlap

  pub merges_by_meeting : (set : SelectionSet) → FieldsCanMerge schema fragments set ↔ MeetingFieldsAgree schema fragments set
  merges_by_meeting set = (
    λ merges pass x y m. chains_agree set merges pass x y (chains_of m),
    λ agree. record {
      shapes = λ xs ys x y both. agree shape_pass x y (meet shape_pass set set xs ys x y both.first both.second both.keys tt);
      fields = λ xs ys x y both overlap. agree field_pass x y (meet field_pass set set xs ys x y both.first both.second both.keys overlap);
    },
  )
