use Rattle.std.proofs.Common.{◌≡◌, take}
use Rattle.std.specs.List.{AllZip}
use Rattle.indexmap.specs.IndexMap.{hasher_of}
use Rattle.graphql_document_building.specs.Documents.{FragmentSays, SaysUnderName}
use Rattle.graphql_document_building.specs.FieldDefinitions.{schema_of}
use Rattle.graphql_document_building.specs.Trees.{fragments_in}
use Rattle.graphql_document_building.proofs.documents.build_fragments.Given as goal

abbrev pub invariant-loop-tree : goal.invariant-loop-tree
invariant-loop-tree l =
    AllZip (SaysUnderName (FragmentSays (schema_of l.definitions))) (fragments_in (take l.tree-index l.trees)) l.fragments.entries ×
    (hasher_of l.fragments ≡ hasher_of l.initial.fragments)
