use Rattle.std.proofs.Common.{subst}
use Rattle.std.specs.Option.{option_copied}
use Rattle.graphql_frontend.specs.RuleReadings.{ReadsRules}
use Rattle.graphql_frontend.proofs.documents.validate_within.Goals as goal

pub returns-in-All : goal.returns-in-All
returns-in-All c = λ nests reaches.
    let read = subst (ReadsRules c.args.bounds (option_copied c.args.schema) c.args.document.now) c.in-All.is c.in_ok-rules.ensures in
    c.validate_beside.ensures read c.args.bytes nests reaches

pub returns-in-First : goal.returns-in-First
returns-in-First c = λ nests reaches.
    (nests, reaches, subst (ReadsRules c.args.bounds (option_copied c.args.schema) c.args.document.now) c.in-First.is c.in_ok-rules.ensures)

pub returns-in-Work : goal.returns-in-Work
returns-in-Work c = λ nests reaches.
    (nests, reaches, subst (ReadsRules c.args.bounds (option_copied c.args.schema) c.args.document.now) c.in-Work.is c.in_ok-rules.ensures)
