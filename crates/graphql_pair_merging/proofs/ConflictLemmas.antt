-- What the two passes over pairs say of a set.
use Rattle.std.proofs.Common.{◌≡◌, ℕ, ◌<◌, List, [], ◌∷◌, length, map, sym, subst, All, Contains}
use Rattle.std.specs.Prelude.{Err, IfOk, MatchOption, None, Ok, Option, Result, Some, filter_map, slice_get}
use Rattle.std.proofs.lemmas.List.{length-map}
use Rattle.std.proofs.lemmas.List.Elements.{All-cons, All-nil, All-weaker}
use Rattle.std.proofs.lemmas.Option.{slice_get_within}
use Rattle.graphql_documents.proofs.ListLemmas.{each_standing}
use Rattle.graphql_documents.specs.Selections.{Fragments, selections_of}
use Rattle.graphql_documents.specs.declared.documents.executables.SelectionSet.{SelectionSet}
use Rattle.graphql_documents.specs.declared.documents.schemas.Schema.{Schema}
use Rattle.graphql_specification.specs.MergedSets.{Meet, MeetingFieldsAgree}
use Rattle.graphql_specification.specs.Merging.{Pass, field_pass, set_of, shape_pass}
use Rattle.graphql_field_conflicts.specs.FieldSelections.{selection_of}
use Rattle.graphql_pair_merging.specs.Disagreements.{Disagrees}
use Rattle.graphql_pair_merging.specs.Meetings.{IsMetConflict}
use Rattle.graphql_pair_merging.specs.NumberedSets.{AreNumbered, Describes, field_of, fragment_set, sets_of}
use Rattle.graphql_pair_merging.specs.Pairs.{AreLinked, FindsBelow, HasLooked, IsLinked}
use Rattle.graphql_pair_merging.specs.declared.disagreements.Conflict.{Conflict}
use Rattle.graphql_pair_merging.specs.declared.numbered_sets.NumberedField.{NumberedField}
use Rattle.graphql_pair_merging.specs.declared.numbered_sets.NumberedSet.{NumberedSet}
use Rattle.graphql_pair_merging.proofs.MeetingLemmas.{looked_agree, reached_meet}

numbers_within : (sets : List SelectionSet) (count : ℕ) → length sets ≡ count → (numbers : List ℕ) (found : List SelectionSet) → map (slice_get sets) numbers ≡ map (λ s. Some s) found →
    All (λ n. n < count) numbers
numbers_within sets count same [] found is = All-nil (λ n. n < count)
numbers_within sets count same (n ∷ numbers) [] is = absurd (let no : ⊥ = cc in no)
numbers_within sets count same (n ∷ numbers) (s ∷ found) is =
    let first : slice_get sets n ≡ Some s = cc in
    let rest : map (slice_get sets) numbers ≡ map (λ s. Some s) found = cc in
    All-cons (λ n. n < count) n numbers (subst (λ c. n < c) same (slice_get_within sets n s first)) (numbers_within sets count same numbers found rest)

module _ (fragments : Fragments) (starts : List ℕ) (first : List SelectionSet) (numbered : List NumberedSet) (are : AreNumbered fragments starts first numbered) where
  counted : length (sets_of numbered) ≡ length numbered
  counted = length-map numbered (λ (x : NumberedSet). x.set.now)

  -- the numbers in the sets are numbers of sets
  pub linked : AreLinked numbered
  linked =
      All-weaker (λ x. Describes fragments (sets_of numbered) x.set.now.ty (selections_of x.set.now) x) (IsLinked (length numbered))
      (λ x d. record {
        fields = All-weaker (λ (f : NumberedField). slice_get (sets_of numbered) f.set ≡ Some (set_of (field_of f))) (λ (f : NumberedField). f.set < length numbered)
            (λ f is. subst (λ c. f.set < c) counted (slice_get_within (sets_of numbered) f.set (set_of (field_of f)) is)) x.fields.items d.own_sets;
        fragments = numbers_within (sets_of numbered) (length numbered) counted x.fragments.items (filter_map (fragment_set fragments) (selections_of x.set.now)) d.fragment_sets;
      }) numbered are.described

  -- and so are those of the first ones
  pub within : All (λ n. n < length numbered) starts
  within = numbers_within (sets_of numbered) (length numbered) counted starts first are.are_at

  -- what was found is a conflict of two fields that meet
  pub met_conflict : (schema : Schema) (pass : Pass) (c : Conflict) → FindsBelow schema pass numbered starts c → IsMetConflict schema fragments first c
  met_conflict schema pass c f =
      let met = reached_meet fragments schema pass starts first numbered are f.pair f.first f.second f.found.among.x f.found.among.y f.reached f.first_is f.second_is f.found.among.in_first f.found.among.in_second f.found.put in
      record {
        set = met.0;
        among = met.1;
        pass = pass;
        meet = subst (λ r. Meet schema fragments pass met.0 met.0 r (selection_of c.second)) (sym f.found.among.first_is)
            (subst (λ r. Meet schema fragments pass met.0 met.0 (field_of f.found.among.x) r) (sym f.found.among.second_is) met.2);
        disagree = subst (λ r. Disagrees schema pass r (selection_of c.second) c.disagreement) (sym f.found.among.first_is)
            (subst (λ r. Disagrees schema pass (field_of f.found.among.x) r c.disagreement) (sym f.found.among.second_is) f.found.among.disagree);
      }

  -- where nothing was found in either pass, all fields that meet agree
  both_looked : (schema : Schema) → HasLooked schema shape_pass numbered starts → HasLooked schema field_pass numbered starts →
      (set : SelectionSet) → Contains first set → MeetingFieldsAgree schema fragments set
  both_looked schema shapes fields set among shape_pass x y meet = looked_agree fragments schema shape_pass starts first numbered are shapes set among x y meet
  both_looked schema shapes fields set among field_pass x y meet = looked_agree fragments schema field_pass starts first numbered are fields set among x y meet

  pub all_looked : (schema : Schema) → HasLooked schema shape_pass numbered starts → HasLooked schema field_pass numbered starts → All (MeetingFieldsAgree schema fragments) first
  all_looked schema shapes fields = each_standing (MeetingFieldsAgree schema fragments) first (both_looked schema shapes fields)

-- the sets and their numbers as slices
pub numbered_as : (fragments : Fragments) (starts read : List ℕ) (first : List SelectionSet) (items slice : List NumberedSet) → AreNumbered fragments starts first items → read ≡ starts → slice ≡ items →
    AreNumbered fragments read first slice
numbered_as fragments starts read first items slice are same sliced =
    subst (λ l. AreNumbered fragments read first l) (sym sliced) (subst (λ n. AreNumbered fragments n first items) (sym same) are)

-- the second pass decides what the first left open
pub decided : {E : Type 0} (r : Result (Option Conflict) E) (schema : Schema) (fragments : Fragments) (starts : List ℕ) (first : List SelectionSet) (numbered : List NumberedSet) →
    AreNumbered fragments starts first numbered → HasLooked schema shape_pass numbered starts →
    IfOk r (λ found. MatchOption found (HasLooked schema field_pass numbered starts) (FindsBelow schema field_pass numbered starts)) →
    IfOk r (λ found. MatchOption found (All (MeetingFieldsAgree schema fragments) first) (IsMetConflict schema fragments first))
decided (Err e) schema fragments starts first numbered are shapes found = tt
decided (Ok None) schema fragments starts first numbered are shapes fields = all_looked fragments starts first numbered are schema shapes fields
decided (Ok (Some c)) schema fragments starts first numbered are shapes found = met_conflict fragments starts first numbered are schema field_pass c found
