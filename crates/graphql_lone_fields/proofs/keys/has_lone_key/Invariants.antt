use Rattle.std.proofs.Common.{All, take}
use Rattle.graphql_field_conflicts.specs.FieldSelections.{listed, selection_of}
use Rattle.graphql_lone_fields.specs.LoneFields.{NeedNoMerging}
use Rattle.graphql_lone_fields.proofs.keys.has_lone_key.Given as goal

abbrev pub invariant-loop-other : goal.invariant-loop-other
invariant-loop-other l = record {
  lone : All (NeedNoMerging (selection_of l.field)) (listed (take l.other-index l.others));
}
