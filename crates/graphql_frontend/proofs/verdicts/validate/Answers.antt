use Rattle.std.proofs.Common.{subst}
use Rattle.graphql_frontend.specs.Schemas.{AcceptsOnlyUsableSchemas, ReadsSchema}
use Rattle.graphql_frontend.specs.Verdicts.{Validates, ValidatesAgainst, lacks_introspection, schema_is_read, schema_is_rejected}
use Rattle.graphql_frontend.proofs.ReportLemmas.{if_ok}
use Rattle.graphql_frontend.proofs.verdicts.validate.Goals as goal

pub validate_against-requires : goal.validate_against-requires
validate_against-requires c = subst AcceptsOnlyUsableSchemas c.in-Accepted.is c.in_ok-schema.ensures.usable

pub returns-in-Accepted : goal.returns-in-Accepted
returns-in-Accepted c =
    let reads = subst (ReadsSchema c.args.bounds c.args.schema.now) c.in-Accepted.is c.in_ok-schema.ensures.reads in
    if_ok (ValidatesAgainst c.args.bounds c.in-Accepted.schema c.args.document) (Validates c.args.bounds c.args.schema.now c.args.document)
    (λ verdict judged. schema_is_read c.in-Accepted.schema reads judged) c.validate_against.result c.validate_against.ensures

pub returns-in-Rejected : goal.returns-in-Rejected
returns-in-Rejected c = schema_is_rejected (subst (ReadsSchema c.args.bounds c.args.schema.now) c.in-Rejected.is c.in_ok-schema.ensures.reads)

pub returns-in-LacksIntrospection : goal.returns-in-LacksIntrospection
returns-in-LacksIntrospection c = lacks_introspection (subst (ReadsSchema c.args.bounds c.args.schema.now) c.in-LacksIntrospection.is c.in_ok-schema.ensures.reads)
