use Rattle.std.proofs.Common.{subst}
use Rattle.graphql_frontend.specs.SchemaRuleReadings.{ReadsSchemaRules}
use Rattle.graphql_frontend.proofs.schemas.validated.Goals as goal

pub returns-in-All : goal.returns-in-All
returns-in-All c =
    let read = subst (ReadsSchemaRules c.args.bounds c.args.schema c.schema_reports.new.schema) c.in-All.is c.in_ok-reports.ensures in
    c.reading_of.ensures c.args.bounds c.args.schema read.0 read.1

pub returns-in-First : goal.returns-in-First
returns-in-First c = subst (ReadsSchemaRules c.args.bounds c.args.schema c.schema_reports.new.schema) c.in-First.is c.in_ok-reports.ensures
