use Rattle.graphql_contents.specs.Fragments.{sets_among}
use Rattle.graphql_contents.specs.Tables.{contents_of}
use Rattle.graphql_contents.proofs.FragmentLemmas.{still_numbered}
use Rattle.graphql_contents.proofs.documents.NumberedDocument.number_operation.Goals as goal

pub invariant_of-self : goal.invariant_of-self
invariant_of-self c =
    let held = c.number_fragments.new.self in
    record {
      numbered = still_numbered (contents_of held.contents) (contents_of c.number_set.new.self) c.number_set.ensures.grows (sets_among held.document.now.fragments) held.fragments.items held.numbered;
    }
