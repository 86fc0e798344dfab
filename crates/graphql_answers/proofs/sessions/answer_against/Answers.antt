use Rattle.std.proofs.Common.{ap}
use Rattle.std.specs.Arc.{arc_value}
use Rattle.std.specs.Option.{option_map}
use Rattle.graphql_answers.specs.Sessions.{schema_of}
use Rattle.graphql_answers.proofs.SessionLemmas.{refused_of_document, refused_without}
use Rattle.graphql_answers.proofs.sessions.answer_against.Goals as goal

pub returns-in-Some-clause-refused : goal.returns-in-Some-clause-refused
returns-in-Some-clause-refused c =
    refused_of_document c.validate_against.result (schema_of c.args.session.now) (arc_value c.in-Some.schema) c.args.document.now (ap (option_map arc_value) c.in-Some.is)
    c.validate_against.ensures.refused

pub returns-in-None-clause-refused : goal.returns-in-None-clause-refused
returns-in-None-clause-refused c = refused_without (schema_of c.args.session.now) c.args.document.now (ap (option_map arc_value) c.in-None.is)
