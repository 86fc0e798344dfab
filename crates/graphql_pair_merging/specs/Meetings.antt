-- Two fields that meet and do not agree.
use Rattle.std.specs.Prelude.{List, Contains}
use Rattle.graphql_documents.specs.Selections.{Fragments}
use Rattle.graphql_documents.specs.declared.documents.executables.SelectionSet.{SelectionSet}
use Rattle.graphql_documents.specs.declared.documents.schemas.Schema.{Schema}
use Rattle.graphql_specification.specs.MergedSets.{Meet}
use Rattle.graphql_specification.specs.Merging.{Pass}
use Rattle.graphql_field_conflicts.specs.FieldSelections.{selection_of}
use Rattle.graphql_pair_merging.specs.Disagreements.{Disagrees}
use Rattle.graphql_pair_merging.specs.declared.disagreements.Conflict.{Conflict}

-- the two fields meet in one of the sets in some pass, and do not agree on this
pub record IsMetConflict (schema : Schema) (fragments : Fragments) (sets : List SelectionSet) (c : Conflict) : Type 0 where
  pub set : SelectionSet
  pub among : Contains sets set
  pub pass : Pass
  pub meet : Meet schema fragments pass set set (selection_of c.first) (selection_of c.second)
  pub disagree : Disagrees schema pass (selection_of c.first) (selection_of c.second) c.disagreement
