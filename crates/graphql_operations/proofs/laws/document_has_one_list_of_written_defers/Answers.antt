use Rattle.graphql_operations.proofs.DeferWalkLemmas.{all_in}
use Rattle.graphql_operations.proofs.WrittenDeferLaws.{all_written, one_list}
use Rattle.graphql_operations.proofs.laws.document_has_one_list_of_written_defers.Goals as goal

pub returns-clause-exists : goal.returns-clause-exists
returns-clause-exists c = λ document. (_, all_in document)

pub returns-clause-unique : goal.returns-clause-unique
returns-clause-unique c = one_list

pub returns-clause-written : goal.returns-clause-written
returns-clause-written c = all_written
