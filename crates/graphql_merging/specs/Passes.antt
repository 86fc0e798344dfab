-- The steps of a pass over lists of fields, for the contracts of its private functions.
use Rattle.std.specs.Prelude.{◌≡◌, ◌≢◌, ◌+◌, ◌-◌, ◌<◌, ◌^◌, ◌⊎◌, ℕ, List, [], ◌∷◌, ◌++◌, All, Contains, length, min, sum_by}
use Rattle.graphql_specification.specs.MergedSets.{Expansion, IsGroup, MergedSet, nested_sets, MergingDescent, merging_depth_limit, ExpansionIsSeen, AreConflicts, ConflictReport, comparisons_of, groups_of, groups_of_lists}
use Rattle.graphql_specification.specs.Merging.{Pass, field_pass, shape_pass, FieldSelection, SameFields}
use Rattle.graphql_diagnostics.specs.Reports.{Appends}
use Rattle.graphql_documents.specs.Selections.{Fragments}
use Rattle.graphql_diagnostics.specs.declared.lists.DiagnosticEntry.{DiagnosticEntry}
use Rattle.graphql_documents.specs.declared.documents.executables.Operation.{Operation}
use Rattle.graphql_documents.specs.declared.documents.executables.SelectionSet.{SelectionSet}
use Rattle.graphql_nodes.specs.declared.nodes.Node.{Node}
use Rattle.graphql_documents.specs.declared.documents.schemas.Schema.{Schema}

-- where a pass is: the lists that it has examined, how often it has compared two shapes, how deep it is and was, and what was reported
pub record Stage : Type 0 where
  pub lists : List (List FieldSelection)
  pub comparisons : ℕ
  pub depth : ℕ
  pub highest : ℕ
  pub reports : List DiagnosticEntry

-- the pass would have gone deeper than the limit
abbrev pub HasPassed : Stage → Type 0
HasPassed stage = merging_depth_limit < stage.highest

-- no known list has the same fields
abbrev pub IsNew : List (List FieldSelection) → List FieldSelection → Type 0
IsNew known list = All (λ l. ¬ SameFields list l) known

-- each of the lists is new behind the known ones and those before it
pub data AreNew : List (List FieldSelection) → List (List FieldSelection) → Type 0 where
  no_new : {known : List (List FieldSelection)} → AreNew known []
  next_new : {known : List (List FieldSelection)} {list : List FieldSelection} {rest : List (List FieldSelection)} →
      IsNew known list → AreNew (known ++ list ∷ []) rest → AreNew known (list ∷ rest)

-- how often shapes were compared after these lists, no more than can be counted
abbrev pub counted : Pass → ℕ → ℕ → ℕ
counted shape_pass before further = min (before + further) (2 ^ 64 - 1)
counted field_pass before further = before

-- what is below the group is known, if something is
abbrev pub IsKnownBelow : Fragments → List (List FieldSelection) → List FieldSelection → Type 0
IsKnownBelow fragments known group = nested_sets group ≢ [] → ExpansionIsSeen fragments known (nested_sets group)

-- what is below each group of the list is known
abbrev pub IsClosedIn : Schema → Fragments → Pass → List (List FieldSelection) → List FieldSelection → Type 0
IsClosedIn schema fragments pass known list =
    (group : List FieldSelection) → IsGroup schema list pass group → IsKnownBelow fragments known group

-- from the list a descent goes through new lists, by so many steps as lead from this depth beyond the limit
pub record DescendsBeyond (schema : Schema) (fragments : Fragments) (pass : Pass) (known : List (List FieldSelection)) (depth : ℕ) (list : List FieldSelection) : Type 0 where
  pub steps : List (List FieldSelection)
  pub descent : MergingDescent schema fragments pass list steps
  pub are_new : AreNew known steps
  pub beyond : length steps + depth ≡ merging_depth_limit + 1

-- a pass has examined these further lists, each new, and has reported their conflicts
pub record ExaminesMore (schema : Schema) (pass : Pass) (added : List (List FieldSelection)) (old new : Stage) : Type 0 where
  pub lists_are : new.lists ≡ old.lists ++ added
  pub are_new : AreNew old.lists added
  pub reports : Appends (AreConflicts schema pass (groups_of_lists schema pass added)) old.reports new.reports
  pub comparisons : new.comparisons ≡ counted pass old.comparisons (sum_by comparisons_of added)
  pub depth : new.depth ≡ old.depth
  pub passed : HasPassed old → HasPassed new

-- a pass has examined what is below these groups
pub record GoesBelow (schema : Schema) (fragments : Fragments) (pass : Pass) (groups : List (List FieldSelection)) (old new : Stage) : Type 0 where
  pub added : List (List FieldSelection)
  pub more : ExaminesMore schema pass added old new
  pub merged : (operations : List (Node Operation)) (above : List FieldSelection) → MergedSet schema fragments operations pass above →
      All (IsGroup schema above pass) groups → All (MergedSet schema fragments operations pass) added
  pub known : ¬ HasPassed new →
      All (IsClosedIn schema fragments pass new.lists) added × All (IsKnownBelow fragments new.lists) groups
  pub passes : HasPassed new → HasPassed old ⊎
      ((above : List FieldSelection) → All (IsGroup schema above pass) groups → DescendsBeyond schema fragments pass old.lists old.depth above)

-- a pass has examined a list, and what is below it
pub record Examines (schema : Schema) (fragments : Fragments) (pass : Pass) (list : List FieldSelection) (old new : Stage) : Type 0 where
  pub below : List (List FieldSelection)
  pub more : ExaminesMore schema pass (list ∷ below) old new
  pub merged : (operations : List (Node Operation)) → MergedSet schema fragments operations pass list →
      All (MergedSet schema fragments operations pass) below
  pub known : ¬ HasPassed new → All (IsClosedIn schema fragments pass new.lists) (list ∷ below)
  pub passes : HasPassed new → HasPassed old ⊎ DescendsBeyond schema fragments pass (old.lists ++ list ∷ []) old.depth list

-- a pass has examined the fields of a set, and what is below them, unless it had before
pub record ExaminesSet (schema : Schema) (fragments : Fragments) (pass : Pass) (set : SelectionSet) (old new : Stage) : Type 0 where
  pub fields : List FieldSelection
  pub added : List (List FieldSelection)
  pub expansion : Expansion fragments (set ∷ []) fields
  pub more : ExaminesMore schema pass added old new
  pub merged : (operations : List (Node Operation)) → MergedSet schema fragments operations pass fields →
      All (MergedSet schema fragments operations pass) added
  pub known : ¬ HasPassed new →
      All (IsClosedIn schema fragments pass new.lists) added × ExpansionIsSeen fragments new.lists (set ∷ [])
  pub passes : HasPassed new → HasPassed old ⊎ DescendsBeyond schema fragments pass (old.lists ++ fields ∷ []) old.depth fields

-- the diagnostic is of a conflict in one of these groups
pub record IsConflictAmong (schema : Schema) (pass : Pass) (groups : List (List FieldSelection)) (entry : DiagnosticEntry) : Type 0 where
  pub group : List FieldSelection
  pub x : FieldSelection
  pub y : FieldSelection
  pub stands : Contains groups group
  pub in_x : Contains group x
  pub in_y : Contains group y
  pub says : ConflictReport schema pass x y entry.details entry.location

-- the diagnostic is of a conflict in a group of a list that is merged for these operations
pub record IsConflict (schema : Schema) (fragments : Fragments) (operations : List (Node Operation)) (pass : Pass) (entry : DiagnosticEntry) : Type 0 where
  pub list : List FieldSelection
  pub merged : MergedSet schema fragments operations pass list
  pub conflict : IsConflictAmong schema pass (groups_of schema pass list) entry
