use Rattle.std.proofs.Common.{sym, subst}
use Rattle.std.specs.List.{AllZip}
use Rattle.graphql_frontend.specs.Schemas.{AcceptsOnlyUsableSchemas, JudgesTrees, ReadsSchema, are_documents, not_all_are_documents}
use Rattle.graphql_frontend.specs.Texts.{IsDocumentOf}
use Rattle.graphql_frontend.proofs.ReportLemmas.{if_ok}
use Rattle.graphql_frontend.proofs.SchemaLemmas.{usable}
use Rattle.graphql_frontend.proofs.TextLemmas.{no_items, some_items, without_errors}
use Rattle.graphql_frontend.proofs.schemas.read_schema.Goals as goal

pub returns-then-is_empty-clause-reads : goal.returns-then-is_empty-clause-reads
returns-then-is_empty-clause-reads c =
    let trees = c.deref.result.now in
    let none = no_items c.in_ok-documents.field-0.errors c.is_empty.result c.is_empty.ensures c.if-is_empty.true in
    if_ok (JudgesTrees c.args.bounds trees) (ReadsSchema c.args.bounds c.args.sources.now)
    (λ reading judged. are_documents trees
    (subst (AllZip (IsDocumentOf c.args.bounds) c.args.sources.now) (sym c.deref.ensures.value) (without_errors c.args.bounds c.in_ok-documents.ensures none)) judged)
    c.schema_of_documents.result c.schema_of_documents.ensures

pub returns-then-is_empty-clause-usable : goal.returns-then-is_empty-clause-usable
returns-then-is_empty-clause-usable c =
    let trees = c.deref.result.now in
    if_ok (JudgesTrees c.args.bounds trees) AcceptsOnlyUsableSchemas (usable c.args.bounds trees) c.schema_of_documents.result c.schema_of_documents.ensures

pub returns-clause-reads : goal.returns-clause-reads
returns-clause-reads c =
    let some = some_items c.in_ok-documents.field-0.errors c.is_empty.result c.is_empty.ensures c.if-is_empty.false in
    not_all_are_documents c.in_ok-documents.field-0.documents.items c.in_ok-documents.ensures some
