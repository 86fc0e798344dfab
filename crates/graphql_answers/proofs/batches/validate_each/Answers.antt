use Rattle.std.proofs.Common.{sym, subst}
use Rattle.std.proofs.lemmas.Result.{MatchResult-weaker}
use Rattle.graphql_answers.specs.Batches.{IsRefusalOfEach, of_documents, of_schema}
use Rattle.graphql_answers.proofs.AnswerLemmas.{handed_on}
use Rattle.graphql_answers.proofs.batches.validate_each.Goals as goal

pub returns-in_err-schema-clause-refused : goal.returns-in_err-schema-clause-refused
returns-in_err-schema-clause-refused c =
    let Q = IsRefusalOfEach c.args.schema.now c.args.documents.bytes.now c.args.documents.ends.now in
    handed_on c.from_residual.result _ Q c.from_residual.ensures.1 (subst Q (sym c.in_err-schema.ensures.0) (of_schema c.in_err-schema.ensures.1))

pub returns-clause-refused : goal.returns-clause-refused
returns-clause-refused c = MatchResult-weaker c.answer.result c.answer.ensures.refused (λ x u. u) (λ e is. of_documents is)
