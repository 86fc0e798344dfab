use Rattle.graphql_contents.specs.Fragments.{sets_among}
use Rattle.graphql_contents.specs.Tables.{contents_of}
use Rattle.graphql_contents.proofs.FragmentLemmas.{as_many}
use Rattle.graphql_contents.proofs.documents.NumberedDocument.number_fragments.Goals as goal

pub returns-clause-fragments : goal.returns-clause-fragments
returns-clause-fragments c =
    as_many (contents_of c.number_fragments.new.contents) (sets_among c.args.self.now.document.now.fragments) c.in_ok-fragments.fragments.items c.in_ok-fragments.ensures.numbers
