use Rattle.graphql_answers.specs.Files.{IsRefusalOfFiles, lacks_memory}
use Rattle.graphql_answers.proofs.AnswerLemmas.{handed_on}
use Rattle.graphql_answers.proofs.sessions.read.Goals as goal

pub returns-in_err-kept-clause-refused : goal.returns-in_err-kept-clause-refused
returns-in_err-kept-clause-refused c =
    handed_on c.from_residual-in_err-kept.result _ (IsRefusalOfFiles c.args.files.now) c.from_residual-in_err-kept.ensures.1 lacks_memory
