use Rattle.graphql_answers.specs.Batches.{IsRefusalOfDocuments, lacks_memory}
use Rattle.graphql_answers.proofs.AnswerLemmas.{handed_on}
use Rattle.graphql_answers.proofs.batches.answer_each.Goals as goal

pub returns-in_err-begin_array-clause-refused : goal.returns-in_err-begin_array-clause-refused
returns-in_err-begin_array-clause-refused c =
    handed_on c.from_residual.result _ (IsRefusalOfDocuments c.args.documents.bytes.now c.args.documents.ends.now) c.from_residual.ensures.1 lacks_memory

pub returns-in_err-end_array-clause-refused : goal.returns-in_err-end_array-clause-refused
returns-in_err-end_array-clause-refused c =
    handed_on c.from_residual-in_err-end_array.result _ (IsRefusalOfDocuments c.args.documents.bytes.now c.args.documents.ends.now)
    c.from_residual-in_err-end_array.ensures.1 lacks_memory
