use Rattle.graphql_answers.specs.Files.{IsRefusalOfFiles, lacks_memory}
use Rattle.graphql_answers.proofs.AnswerLemmas.{memory_of}
use Rattle.graphql_answers.proofs.sessions.session_of.Goals as goal

pub returns-clause-refused : goal.returns-clause-refused
returns-clause-refused c = memory_of c.session_of_texts.result (IsRefusalOfFiles c.args.files.now) c.session_of_texts.ensures.refused lacks_memory
