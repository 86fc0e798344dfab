use Rattle.std.proofs.Common.{subst, sym}
use Rattle.graphql_answers.specs.Files.{IsRefusalOfFile, is_no_text, name_is_no_text}
use Rattle.graphql_answers.proofs.AnswerLemmas.{handed_on}
use Rattle.graphql_answers.proofs.files.text_of_file.Goals as goal

pub returns-in_err-path-clause-refused : goal.returns-in_err-path-clause-refused
returns-in_err-path-clause-refused c =
    let Q = IsRefusalOfFile c.args.file.now in
    handed_on c.from_residual.result _ Q c.from_residual.ensures.1
    (subst Q (sym c.in_err-path.ensures.refused.0) (name_is_no_text c.in_err-path.ensures.refused.1))

pub returns-in_err-text-clause-refused : goal.returns-in_err-text-clause-refused
returns-in_err-text-clause-refused c =
    let Q = IsRefusalOfFile c.args.file.now in
    handed_on c.from_residual-in_err-text.result _ Q c.from_residual-in_err-text.ensures.1
    (subst Q (sym c.in_err-text.ensures.0) (is_no_text c.in_err-text.ensures.1))
