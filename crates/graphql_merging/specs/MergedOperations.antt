-- What a value that merges operations one after another holds, and what one call does.
use Rattle.std.specs.Prelude.{◌≡◌, ◌↔◌, ℕ, Bool, List, [], ◌∷◌, ◌++◌, All, Contains, IsFalse, IsTrue, sum_by}
use Rattle.graphql_specification.specs.MergedSets.{MergedSet, MergingPasses, HasSeen, ListPasses, AreConflicts, comparisons_of, groups_of_lists}
use Rattle.graphql_specification.specs.Merging.{Pass, field_pass, shape_pass, FieldSelection}
use Rattle.graphql_documents.specs.Selections.{Fragments}
use Rattle.graphql_diagnostics.specs.declared.details.Details.TheVariants as details
use Rattle.graphql_nodes.specs.declared.errors.RecursionLimitError.{RecursionLimitError}
use Rattle.graphql_diagnostics.specs.declared.lists.DiagnosticEntry.{DiagnosticEntry}
use Rattle.graphql_documents.specs.declared.documents.executables.Operation.{Operation}
use Rattle.graphql_nodes.specs.declared.nodes.Node.{Node}
use Rattle.graphql_documents.specs.declared.documents.schemas.Schema.{Schema}
use Rattle.graphql_documents.specs.declared.documents.executables.SelectionSet.{SelectionSet}
use Rattle.graphql_merging.specs.Passes.{AreNew, ExaminesSet, HasPassed, Stage, counted}

-- what is kept of the operations that were merged: themselves, the lists that each pass has examined, how
-- often shapes were compared, whether two fields were in conflict, and whether some operation nests too deep
pub record Merging : Type 0 where
  pub operations : List (Node Operation)
  pub shapes : List (List FieldSelection)
  pub fields : List (List FieldSelection)
  pub comparisons : ℕ
  pub conflicting : Bool
  pub too_deep : Bool

-- the lists are merged ones of these operations, each once; and unless one of these nests too deep, all of them
pub record HasExamined (schema : Schema) (fragments : Fragments) (operations : List (Node Operation)) (pass : Pass) (too_deep : Bool) (lists : List (List FieldSelection)) : Type 0 where
  pub merged : All (MergedSet schema fragments operations pass) lists
  pub once : AreNew [] lists
  pub all : IsFalse too_deep → HasSeen schema fragments operations pass lists

-- the operations were merged: each pass has examined their lists; there is no conflict exactly where in each
-- group of each list the first field agrees with the rest; the limit is passed by one of them, if it is; and
-- each field but the first under its key was compared once in each list
pub record HasMerged (schema : Schema) (fragments : Fragments) (m : Merging) : Type 0 where
  pub shapes : HasExamined schema fragments m.operations shape_pass m.too_deep m.shapes
  pub fields : HasExamined schema fragments m.operations field_pass m.too_deep m.fields
  pub silent : IsFalse m.conflicting ↔ (All (ListPasses schema shape_pass) m.shapes × All (ListPasses schema field_pass) m.fields)
  pub deep : IsTrue m.too_deep → (o : Node Operation) × Contains m.operations o × MergingPasses schema fragments o.value.value.selection_set
  pub comparisons : m.comparisons ≡ counted shape_pass 0 (sum_by comparisons_of m.shapes)

-- the diagnostic that an operation nests too deep, if one does
pub data AreLimits (o : Node Operation) : Bool → List DiagnosticEntry → Type 0 where
  within_bound : {too_deep : Bool} → IsFalse too_deep → AreLimits o too_deep []
  beyond_bound : {too_deep : Bool} {limit : RecursionLimitError} → IsTrue too_deep →
      AreLimits o too_deep (record { location = o.location; details = details.RecursionLimit limit } ∷ [])

-- one operation more was merged: further lists were examined, and what was reported are their conflicts, one
-- for each field that does not agree with the first of its group, pass by pass; and then the limit, if one of
-- the operations so far nests too deep
pub record MergesOneMore (schema : Schema) (o : Node Operation) (old new : Merging) (before after : List DiagnosticEntry) : Type 0 where
  pub shapes : List (List FieldSelection)
  pub fields : List (List FieldSelection)
  pub of_shapes : List DiagnosticEntry
  pub of_fields : List DiagnosticEntry
  pub limits : List DiagnosticEntry
  pub operations : new.operations ≡ old.operations ++ o ∷ []
  pub shapes_are : new.shapes ≡ old.shapes ++ shapes
  pub fields_are : new.fields ≡ old.fields ++ fields
  pub appended : after ≡ before ++ (of_shapes ++ (of_fields ++ limits))
  pub are_of_shapes : AreConflicts schema shape_pass (groups_of_lists schema shape_pass shapes) of_shapes
  pub are_of_fields : AreConflicts schema field_pass (groups_of_lists schema field_pass fields) of_fields
  pub are_limits : AreLimits o new.too_deep limits
  pub conflicting : IsFalse new.conflicting ↔ (IsFalse old.conflicting × (of_shapes ≡ []) × (of_fields ≡ []))
  pub too_deep : IsTrue old.too_deep → IsTrue new.too_deep

-- both passes have examined the fields of a set, one after the other, and answered whether it nests too deep
pub record ExaminesInBoth (schema : Schema) (fragments : Fragments) (set : SelectionSet)
    (shapes shapes' fields fields' : List (List FieldSelection)) (comparisons comparisons' : ℕ) (before after : List DiagnosticEntry) (deep : Bool) : Type 0 where
  pub shapes_before : Stage
  pub shapes_after : Stage
  pub fields_before : Stage
  pub fields_after : Stage
  pub of_shapes : ExaminesSet schema fragments shape_pass set shapes_before shapes_after
  pub of_fields : ExaminesSet schema fragments field_pass set fields_before fields_after
  pub shapes_old : shapes_before.lists ≡ shapes
  pub shapes_new : shapes_after.lists ≡ shapes'
  pub comparisons_old : shapes_before.comparisons ≡ comparisons
  pub comparisons_new : shapes_after.comparisons ≡ comparisons'
  pub fields_old : fields_before.lists ≡ fields
  pub fields_new : fields_after.lists ≡ fields'
  pub depth_first : shapes_before.depth ≡ 0
  pub depth_next : fields_before.depth ≡ shapes_after.depth
  pub highest_first : shapes_before.highest ≡ 0
  pub highest_next : fields_before.highest ≡ shapes_after.highest
  pub reports_first : shapes_before.reports ≡ before
  pub reports_next : fields_before.reports ≡ shapes_after.reports
  pub reports_last : fields_after.reports ≡ after
  pub deep_is : IsTrue deep ↔ HasPassed fields_after
