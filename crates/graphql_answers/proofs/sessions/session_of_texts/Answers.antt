use Rattle.std.proofs.Common.{◌∙◌, List, Some, ap, map, subst, sym, Bor}
use Rattle.graphql_documents.specs.declared.documents.schemas.Schema.{Schema}
use Rattle.graphql_kept_projects.specs.Frontend.Schemas.{ReadsSchema}
use Rattle.graphql_kept_projects.specs.Frontend.declared.schemas.SchemaReading.TheVariants.{Rejected, LacksIntrospection}
use Rattle.graphql_kept_projects.specs.Frontend.declared.texts.SourceText.{SourceText}
use Rattle.graphql_report_formats.specs.NamedTexts.{named_text, path_of, schema_path}
use Rattle.graphql_report_formats.specs.declared.named_texts.NamedText.{NamedText}
use Rattle.graphql_answers.specs.Answers.{IsErrorOfLack, IsObjectOfRejected}
use Rattle.graphql_answers.specs.Sessions.{IsReadFromTexts, schema_of}
use Rattle.graphql_answers.proofs.SessionLemmas.{accepted_of_texts, reported_of_texts}
use Rattle.graphql_answers.proofs.sessions.session_of_texts.Goals as goal

pub returns-in-Accepted-clause-read : goal.returns-in-Accepted-clause-read
returns-in-Accepted-clause-read c =
    let answer = c.in_ok-answer-in-Accepted.answer in
    subst (λ (schema : Schema). IsReadFromTexts c.args.limits c.args.texts.now (Some schema) answer.json.items) (sym c.in_ok-shared-in-Accepted.ensures.ok)
    (accepted_of_texts c.args.limits c.args.texts.now c.deref.result.now c.in-Accepted.schema answer (c.deref.ensures.value ∙ c.in_ok-sources.ensures)
    (subst (ReadsSchema c.args.limits.bounds c.deref.result.now) c.in-Accepted.is c.in_ok-schema.ensures.reads) c.in_ok-answer-in-Accepted.ensures.found)

pub returns-in-Rejected-clause-read : goal.returns-in-Rejected-clause-read
returns-in-Rejected-clause-read c =
    let limits = c.args.limits in
    let texts = c.args.texts.now in
    let subject = c.schema_subject-subject.result in
    let reports = c.in-Rejected.reports in
    let IsObject = IsObjectOfRejected limits in
    reported_of_texts limits texts c.deref.result.now (Rejected reports) (IsObject (map named_text subject.texts.now) (path_of subject.path) subject.sources.now reports)
    c.in_ok-answer-in-Rejected.answer (schema_of c.reported.result) c.reported.result.answer.items (c.deref.ensures.value ∙ c.in_ok-sources.ensures)
    (subst (ReadsSchema limits.bounds c.deref.result.now) c.in-Rejected.is c.in_ok-schema.ensures.reads) c.in_ok-answer-in-Rejected.ensures.found
    (λ object is.
    subst (λ s. IsObject (map named_text texts) (schema_path (map named_text texts)) s reports object)
    (ap (λ (b : Bor (List SourceText)). b.now) c.schema_subject-subject.ensures.sources ∙ c.deref-in-Rejected.ensures.value ∙ c.in_ok-sources.ensures)
    (subst (λ p. IsObject (map named_text texts) p subject.sources.now reports object) c.schema_subject-subject.ensures.path
    (subst (λ t. IsObject (map named_text t) (path_of subject.path) subject.sources.now reports object) (ap (λ (b : Bor (List NamedText)). b.now) c.schema_subject-subject.ensures.texts) is)))
    c.reported.ensures.schema c.reported.ensures.answer

pub returns-clause-read : goal.returns-clause-read
returns-clause-read c =
    reported_of_texts c.args.limits c.args.texts.now c.deref.result.now LacksIntrospection IsErrorOfLack c.in_ok-answer-in-LacksIntrospection.answer
    (schema_of c.reported-in-LacksIntrospection.result) c.reported-in-LacksIntrospection.result.answer.items (c.deref.ensures.value ∙ c.in_ok-sources.ensures)
    (subst (ReadsSchema c.args.limits.bounds c.deref.result.now) c.in-LacksIntrospection.is c.in_ok-schema.ensures.reads) c.in_ok-answer-in-LacksIntrospection.ensures.found
    (λ object is. is) c.reported-in-LacksIntrospection.ensures.schema c.reported-in-LacksIntrospection.ensures.answer
