use Rattle.std.proofs.Common.{[], ◌∷◌, sym, subst, rules}
use Rattle.graphql_answers.specs.Answers.{IsRefusalOf, is_no_text, lacks_memory}
use Rattle.graphql_answers.proofs.AnswerLemmas.{handed_on, memory_of}
use Rattle.graphql_answers.proofs.documents.validate.Goals as goal

pub returns-in_err-schema-clause-refused : goal.returns-in_err-schema-clause-refused
returns-in_err-schema-clause-refused c =
    let Q = IsRefusalOf (c.args.schema.now ∷ c.args.document.now ∷ []) in
    handed_on c.from_residual.result _ Q c.from_residual.ensures.1
    (subst Q (sym c.in_err-schema.ensures.0) (is_no_text c.args.schema.now (search rules) c.in_err-schema.ensures.1))

pub returns-in_err-document-clause-refused : goal.returns-in_err-document-clause-refused
returns-in_err-document-clause-refused c =
    let Q = IsRefusalOf (c.args.schema.now ∷ c.args.document.now ∷ []) in
    handed_on c.from_residual-in_err-document.result _ Q c.from_residual-in_err-document.ensures.1
    (subst Q (sym c.in_err-document.ensures.0) (is_no_text c.args.document.now (search rules) c.in_err-document.ensures.1))

pub returns-clause-refused : goal.returns-clause-refused
returns-clause-refused c = memory_of c.answer.result (IsRefusalOf (c.args.schema.now ∷ c.args.document.now ∷ [])) c.answer.ensures.refused lacks_memory
