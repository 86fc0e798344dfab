-- What holds of the operations that were validated so far.
use Rattle.std.proofs.Common.{◌≡◌, map, take}
use Rattle.graphql_diagnostics.specs.Diagnostics.{entries}
use Rattle.graphql_merging.specs.Mergers.{IsSoundWithin, document_of, is_interrupted, merger_of, merging_of, schema_of}
use Rattle.graphql_document_rules.proofs.OperationStepLemmas.{MergedSoFar}
use Rattle.graphql_document_rules.proofs.operations.validate_and_merge.Given as goal

abbrev pub invariant-loop-operation : goal.invariant-loop-operation
invariant-loop-operation l = record {
  schema : schema_of (merger_of l.merging) ≡ l.schema;
  document : document_of (merger_of l.merging) ≡ l.document;
  sound : IsSoundWithin l.merging;
  so_far : MergedSoFar l.schema l.document (map (λ o. o.now) (take l.operation-index l.operations)) (map (λ o. o.now) l.undecided.items)
      (is_interrupted l.merging) (merging_of (merger_of l.merging)) (entries l.initial.diagnostics) (entries l.diagnostics);
}
