-- What contracts see of values that merge operations.
use Rattle.std.specs.Prelude.{ℕ, Bool, IsFalse, Option, map}
use Rattle.graphql_contents.specs.Documents.{document_in}
use Rattle.graphql_documents.specs.Selections.{fragments_of}
use Rattle.graphql_documents.specs.declared.documents.executables.ExecutableDocument.{ExecutableDocument}
use Rattle.graphql_documents.specs.declared.documents.schemas.Schema.{Schema}
use Rattle.graphql_merging.specs.MergedOperations.{HasMerged, Merging}
use Rattle.graphql_merging.specs.Stages.{examined_lists}
use Rattle.graphql_merging.specs.Works.{IsUnbounded, Pays}
use Rattle.graphql_merging.specs.declared.bounded.BoundedMerging.{BoundedMerging}
use Rattle.graphql_merging.specs.declared.merging.FieldsInSetCanMerge.{FieldsInSetCanMerge}

-- the schema and the document
abbrev pub schema_of : FieldsInSetCanMerge → Schema
schema_of m = m.schema.now

abbrev pub document_of : FieldsInSetCanMerge → ExecutableDocument
document_of m = document_in m.numbered

-- what is kept of the operations that were merged
abbrev pub merging_of : FieldsInSetCanMerge → Merging
merging_of m = record {
  operations = map (λ o. o.now) m.operations.items;
  shapes = examined_lists m.shapes;
  fields = examined_lists m.fields;
  comparisons = m.shapes.comparisons;
  conflicting = m.conflicting;
  too_deep = m.too_deep;
}

-- memory was refused to a call
abbrev pub has_refused : FieldsInSetCanMerge → Bool
has_refused m = m.refused

-- unless memory was refused, its operations were merged
abbrev pub IsSound : FieldsInSetCanMerge → Type 0
IsSound m = IsFalse m.refused → HasMerged m.schema.now (fragments_of (document_of m)) (merging_of m)

-- what merges the operations that are decided within the bound
abbrev pub merger_of : BoundedMerging → FieldsInSetCanMerge
merger_of m = m.merging

-- an operation was not decided
abbrev pub is_interrupted : BoundedMerging → Bool
is_interrupted m = m.interrupted

-- unless an operation was not decided, those so far were merged
abbrev pub IsSoundWithin : BoundedMerging → Type 0
IsSoundWithin m = IsFalse m.interrupted → IsSound m.merging

-- the work has no bound
abbrev pub HasNoBound : BoundedMerging → Type 0
HasNoBound m = IsUnbounded m.work

-- how much work is left, if there is a bound
abbrev pub left_within : BoundedMerging → Option ℕ
left_within m = m.work.left

-- from one moment to another, at most 26 steps were taken for each unit of work that was counted, and these beside
abbrev pub PaysWithin : (m m_then : BoundedMerging) (steps steps_then beside : ℕ) → Type 0
PaysWithin m m_then steps steps_then beside = Pays m.work m_then.work steps steps_then beside
