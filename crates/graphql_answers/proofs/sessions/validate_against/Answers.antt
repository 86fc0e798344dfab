use Rattle.std.proofs.Common.{[], ◌∷◌, sym, subst, rules}
use Rattle.graphql_answers.specs.Answers.{IsRefusalOf, is_no_text, lacks_memory}
use Rattle.graphql_answers.proofs.AnswerLemmas.{handed_on, memory_of}
use Rattle.graphql_answers.proofs.sessions.validate_against.Goals as goal

pub returns-in_err-text-clause-refused : goal.returns-in_err-text-clause-refused
returns-in_err-text-clause-refused c =
    let Q = IsRefusalOf (c.args.document.now ∷ []) in
    handed_on c.from_residual.result _ Q c.from_residual.ensures.1
    (subst Q (sym c.in_err-text.ensures.0) (is_no_text c.args.document.now (search rules) c.in_err-text.ensures.1))

pub returns-clause-refused : goal.returns-clause-refused
returns-clause-refused c = memory_of c.answer.result (IsRefusalOf (c.args.document.now ∷ [])) c.answer.ensures.refused lacks_memory
