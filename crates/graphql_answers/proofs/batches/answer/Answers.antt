use Rattle.std.proofs.Common.{None, sym, subst, refl}
use Rattle.std.proofs.lemmas.Result.{IfOk-weaker}
use Rattle.graphql_parser.specs.declared.bounds.TheConstants as bounds
use Rattle.graphql_kept_projects.specs.Frontend.Schemas.{ReadsSchema}
use Rattle.graphql_kept_projects.specs.Frontend.declared.schemas.SchemaReading.TheVariants as reading
use Rattle.graphql_answers.specs.declared.answers.Found.TheVariants.{InSchema}
use Rattle.graphql_answers.specs.Answers.{IsErrorOfLack, IsObjectOfRejected, default_limits, schema_texts}
use Rattle.graphql_answers.specs.Batches.{FindsInEach, IsRefusalOfDocuments, found_in_documents, lacks_memory, schema_is_accepted, schema_is_reported}
use Rattle.graphql_answers.proofs.AnswerLemmas.{handed_on, memory_of, told}
use Rattle.graphql_answers.proofs.batches.answer.Goals as goal

pub returns-in_err-schema-clause-refused : goal.returns-in_err-schema-clause-refused
returns-in_err-schema-clause-refused c =
    handed_on c.from_residual.result _ (IsRefusalOfDocuments c.args.documents.bytes.now c.args.documents.ends.now) c.from_residual.ensures.1 lacks_memory

pub returns-in-Accepted-clause-found : goal.returns-in-Accepted-clause-found
returns-in-Accepted-clause-found c =
    let Each = FindsInEach c.args.schema.now c.args.documents.bytes.now c.args.documents.ends.now in
    let reads = subst (ReadsSchema bounds.Bounds.DEFAULT c.as_slice.result.now) c.in-Accepted.is c.in_ok-schema.ensures.reads in
    IfOk-weaker c.answer_each.result _ _
    (λ answer so. subst (λ f. Each f answer.json.items) (sym so.found_is)
    (subst (Each (found_in_documents so.reported)) (sym so.json_is)
    (schema_is_accepted so.objects c.schema_sources-sources.result c.in-Accepted.schema c.schema_sources-sources.ensures
    (subst (λ l. ReadsSchema bounds.Bounds.DEFAULT l (reading.Accepted c.in-Accepted.schema)) c.as_slice.ensures reads) so.checks)))
    c.answer_each.ensures.found

pub returns-in-Rejected-clause-found : goal.returns-in-Rejected-clause-found
returns-in-Rejected-clause-found c =
    let sources = c.schema_sources-sources.result in
    let reads = subst (ReadsSchema bounds.Bounds.DEFAULT c.as_slice.result.now) c.in-Rejected.is c.in_ok-schema.ensures.reads in
    told (FindsInEach c.args.schema.now c.args.documents.bytes.now c.args.documents.ends.now) c.reports_of_schema.result InSchema
    (IsObjectOfRejected default_limits (schema_texts sources) None sources c.in-Rejected.reports) c.reports_of_schema.ensures.found
    (λ object is. schema_is_reported object sources c.schema_sources-sources.ensures
    (subst (λ l. ReadsSchema bounds.Bounds.DEFAULT l (reading.Rejected c.in-Rejected.reports)) c.as_slice.ensures reads) refl is)

pub returns-in-Rejected-clause-refused : goal.returns-in-Rejected-clause-refused
returns-in-Rejected-clause-refused c =
    memory_of c.reports_of_schema.result (IsRefusalOfDocuments c.args.documents.bytes.now c.args.documents.ends.now) c.reports_of_schema.ensures.refused lacks_memory

pub returns-in-LacksIntrospection-clause-found : goal.returns-in-LacksIntrospection-clause-found
returns-in-LacksIntrospection-clause-found c =
    let sources = c.schema_sources-sources.result in
    let reads = subst (ReadsSchema bounds.Bounds.DEFAULT c.as_slice.result.now) c.in-LacksIntrospection.is c.in_ok-schema.ensures.reads in
    told (FindsInEach c.args.schema.now c.args.documents.bytes.now c.args.documents.ends.now) c.lack_of_introspection.result InSchema IsErrorOfLack c.lack_of_introspection.ensures.found
    (λ object is. schema_is_reported object sources c.schema_sources-sources.ensures
    (subst (λ l. ReadsSchema bounds.Bounds.DEFAULT l reading.LacksIntrospection) c.as_slice.ensures reads) refl is)

pub returns-in-LacksIntrospection-clause-refused : goal.returns-in-LacksIntrospection-clause-refused
returns-in-LacksIntrospection-clause-refused c =
    memory_of c.lack_of_introspection.result (IsRefusalOfDocuments c.args.documents.bytes.now c.args.documents.ends.now) c.lack_of_introspection.ensures.refused lacks_memory
