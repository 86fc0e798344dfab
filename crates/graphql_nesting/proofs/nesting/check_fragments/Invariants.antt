use Rattle.std.proofs.Common.{All, take}
use Rattle.graphql_documents.specs.Selections.{fragments_of}
use Rattle.graphql_documents.specs.declared.documents.executables.ExecutableDocument.{ExecutableDocument}
use Rattle.graphql_nesting.specs.Nesting.{FragmentNests}
use Rattle.graphql_nesting.specs.Search.{AreSettled}
use Rattle.graphql_nesting.proofs.nesting.check_fragments.Given as goal

abbrev pub invariant-loop-number : goal.invariant-loop-number
invariant-loop-number l =
    (document : ExecutableDocument) → AreSettled document l.fragments →
    All (λ x. FragmentNests (fragments_of document) l.most x.fragment.now) (take l.number l.nesting-items)
