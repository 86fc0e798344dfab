use Rattle.std.proofs.Common.{map, take}
use Rattle.graphql_documents.specs.Selections.{fragments_of}
use Rattle.graphql_documents.specs.declared.documents.executables.ExecutableDocument.{ExecutableDocument}
use Rattle.graphql_nesting.specs.Checks.{EndlessFound}
use Rattle.graphql_nesting.specs.Search.{AreSettled}
use Rattle.graphql_nesting.proofs.nesting.endless_levels.Given as goal

abbrev pub invariant-loop-number : goal.invariant-loop-number
invariant-loop-number l =
    (document : ExecutableDocument) → AreSettled document l.fragments →
    EndlessFound (fragments_of document) (map (λ x. x.fragment.now) (take l.number l.nesting-items)) l.endless.levels l.endless.location
