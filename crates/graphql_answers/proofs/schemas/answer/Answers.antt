use Rattle.std.proofs.Common.{◌≡◌, None, subst}
use Rattle.graphql_parser.specs.declared.bounds.TheConstants as bounds
use Rattle.graphql_kept_projects.specs.Frontend.Schemas.{ReadsSchema}
use Rattle.graphql_kept_projects.specs.Frontend.declared.schemas.SchemaReading.TheVariants as reading
use Rattle.graphql_answers.specs.declared.answers.Found.TheVariants.{Nothing, InSchema}
use Rattle.graphql_answers.specs.Answers.{FindsInSchema, IsErrorOfLack, IsObjectOfRejected, by_reading, default_limits, no_errors, schema_texts}
use Rattle.graphql_answers.proofs.AnswerLemmas.{told}
use Rattle.graphql_answers.proofs.schemas.answer.Goals as goal

pub returns-in-Accepted-clause-found : goal.returns-in-Accepted-clause-found
returns-in-Accepted-clause-found c =
    let sources = c.schema_sources-sources.result in
    let reads = subst (ReadsSchema bounds.Bounds.DEFAULT c.as_slice.result.now) c.in-Accepted.is c.in_ok-_schema.ensures.reads in
    told (FindsInSchema c.args.schema.now) c.nothing.result Nothing (λ object. object ≡ no_errors) c.nothing.ensures.found
    (λ object is. by_reading object sources c.schema_sources-sources.ensures
    (subst (λ l. ReadsSchema bounds.Bounds.DEFAULT l (reading.Accepted c.in-Accepted._schema)) c.as_slice.ensures reads) is)

pub returns-in-Rejected-clause-found : goal.returns-in-Rejected-clause-found
returns-in-Rejected-clause-found c =
    let sources = c.schema_sources-sources.result in
    let reads = subst (ReadsSchema bounds.Bounds.DEFAULT c.as_slice.result.now) c.in-Rejected.is c.in_ok-_schema.ensures.reads in
    told (FindsInSchema c.args.schema.now) c.reports_of_schema.result InSchema (IsObjectOfRejected default_limits (schema_texts sources) None sources c.in-Rejected.reports)
    c.reports_of_schema.ensures.found
    (λ object is. by_reading object sources c.schema_sources-sources.ensures
    (subst (λ l. ReadsSchema bounds.Bounds.DEFAULT l (reading.Rejected c.in-Rejected.reports)) c.as_slice.ensures reads) is)

pub returns-in-LacksIntrospection-clause-found : goal.returns-in-LacksIntrospection-clause-found
returns-in-LacksIntrospection-clause-found c =
    let sources = c.schema_sources-sources.result in
    let reads = subst (ReadsSchema bounds.Bounds.DEFAULT c.as_slice.result.now) c.in-LacksIntrospection.is c.in_ok-_schema.ensures.reads in
    told (FindsInSchema c.args.schema.now) c.lack_of_introspection.result InSchema IsErrorOfLack c.lack_of_introspection.ensures.found
    (λ object is. by_reading object sources c.schema_sources-sources.ensures
    (subst (λ l. ReadsSchema bounds.Bounds.DEFAULT l reading.LacksIntrospection) c.as_slice.ensures reads) is)
