use Rattle.std.proofs.Common.{None, subst}
use Rattle.std.proofs.lemmas.Result.{IfOk-weaker}
use Rattle.graphql_parser.specs.declared.bounds.TheConstants as bounds
use Rattle.graphql_kept_projects.specs.Frontend.Schemas.{ReadsSchema}
use Rattle.graphql_kept_projects.specs.Frontend.Verdicts.{lacks_introspection, schema_is_rejected}
use Rattle.graphql_kept_projects.specs.Frontend.declared.schemas.SchemaReading.TheVariants as reading
use Rattle.graphql_answers.specs.declared.answers.Found.TheVariants.{InSchema}
use Rattle.graphql_answers.specs.Answers.{Finds, IsErrorOfLack, IsObjectOfRejected, by_verdict, default_limits, schema_texts}
use Rattle.graphql_answers.proofs.AnswerLemmas.{told}
use Rattle.graphql_answers.proofs.SessionLemmas.{against, is_text_of, text_source}
use Rattle.graphql_answers.proofs.documents.answer.Goals as goal

pub returns-in-Accepted-clause-found : goal.returns-in-Accepted-clause-found
returns-in-Accepted-clause-found c =
    let sources = c.schema_sources-sources.result in
    let reads = subst (ReadsSchema bounds.Bounds.DEFAULT c.as_slice.result.now) c.in-Accepted.is c.in_ok-schema.ensures.reads in
    IfOk-weaker c.answer.result _ _
    (λ answer finds. against c.args.schema.now c.args.document.now sources c.in-Accepted.schema c.schema_sources-sources.ensures
    (subst (λ l. ReadsSchema bounds.Bounds.DEFAULT l (reading.Accepted c.in-Accepted.schema)) c.as_slice.ensures reads) finds)
    c.answer.ensures.found

pub returns-in-Rejected-clause-found : goal.returns-in-Rejected-clause-found
returns-in-Rejected-clause-found c =
    let sources = c.schema_sources-sources.result in
    let reads = subst (ReadsSchema bounds.Bounds.DEFAULT c.as_slice.result.now) c.in-Rejected.is c.in_ok-schema.ensures.reads in
    told (Finds c.args.schema.now c.args.document.now) c.reports_of_schema.result InSchema (IsObjectOfRejected default_limits (schema_texts sources) None sources c.in-Rejected.reports)
    c.reports_of_schema.ensures.found
    (λ object is. by_verdict object sources (text_source c.args.document) c.schema_sources-sources.ensures (is_text_of c.args.document)
    (schema_is_rejected (subst (λ l. ReadsSchema bounds.Bounds.DEFAULT l (reading.Rejected c.in-Rejected.reports)) c.as_slice.ensures reads)) is)

pub returns-in-LacksIntrospection-clause-found : goal.returns-in-LacksIntrospection-clause-found
returns-in-LacksIntrospection-clause-found c =
    let sources = c.schema_sources-sources.result in
    let reads = subst (ReadsSchema bounds.Bounds.DEFAULT c.as_slice.result.now) c.in-LacksIntrospection.is c.in_ok-schema.ensures.reads in
    told (Finds c.args.schema.now c.args.document.now) c.lack_of_introspection.result InSchema IsErrorOfLack c.lack_of_introspection.ensures.found
    (λ object is. by_verdict object sources (text_source c.args.document) c.schema_sources-sources.ensures (is_text_of c.args.document)
    (lacks_introspection (subst (λ l. ReadsSchema bounds.Bounds.DEFAULT l reading.LacksIntrospection) c.as_slice.ensures reads)) is)
