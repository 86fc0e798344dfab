use Rattle.std.proofs.Common.{◌≡◌, take}
use Rattle.std.specs.List.{AllZip}
use Rattle.indexmap.specs.IndexMap.{hasher_of}
use Rattle.graphql_document_building.specs.Documents.{OperationSays, SaysUnderName}
use Rattle.graphql_document_building.specs.FieldDefinitions.{schema_of}
use Rattle.graphql_document_building.specs.Trees.{named_operations_in}
use Rattle.graphql_document_building.proofs.documents.build_named_operations.Given as goal

abbrev pub invariant-loop-tree : goal.invariant-loop-tree
invariant-loop-tree l =
    AllZip (SaysUnderName (OperationSays (schema_of l.definitions))) (named_operations_in (take l.tree-index l.trees)) l.operations.entries ×
    (hasher_of l.operations ≡ hasher_of l.initial.operations)
