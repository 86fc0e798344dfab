use Rattle.graphql_documents.specs.Selections.{fragments_of}
use Rattle.graphql_documents.proofs.SelectionLemmas.{one_fragment_found}
use Rattle.graphql_validation.proofs.CollectingLemmas.{lists_what_is_collected}
use Rattle.graphql_validation.proofs.laws.walk_lists_what_is_collected.Goals as goal

pub returns : goal.returns
returns c schema document object sets fields walk x =
    lists_what_is_collected schema (fragments_of document) object (one_fragment_found document) sets fields walk x
