use Rattle.std.specs.Prelude.{◌≡◌, ◌++◌, flat_map}
use Rattle.graphql_trees.specs.declared.documents.Document.{Document}
use Rattle.graphql_frontend.proofs.documents.joined.Given as goal

abbrev pub invariant-loop-document : goal.invariant-loop-document
invariant-loop-document l =
    l.definitions ++ flat_map (λ (t : Document). t.definitions) l.document-iterator.rest.items ≡ flat_map (λ (t : Document). t.definitions) l.fn.documents.items
