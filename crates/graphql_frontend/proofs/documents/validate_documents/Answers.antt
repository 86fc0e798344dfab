use Rattle.std.proofs.Common.{Some, subst}
use Rattle.graphql_frontend.specs.Documents.{JudgesTree, ValidatesDocuments, are_documents, are_not_all_documents}
use Rattle.graphql_frontend.proofs.ReportLemmas.{if_ok}
use Rattle.graphql_frontend.proofs.TextLemmas.{no_items, some_items, without_errors}
use Rattle.graphql_frontend.proofs.documents.validate_documents.Goals as goal

pub returns-in_ok-bytes_of : goal.returns-in_ok-bytes_of
returns-in_ok-bytes_of c =
    let none = no_items c.in_ok-documents.field-0.errors c.is_empty.result c.is_empty.ensures c.if-is_empty.true in
    if_ok (JudgesTree c.args.bounds c.in_ok-bytes_of.field-0 (Some c.args.schema.now) c.in_ok-document.document) (ValidatesDocuments c.args.bounds (Some c.args.schema.now) c.args.sources.now)
    (λ reports judged. are_documents c.in_ok-documents.field-0.documents.items c.in_ok-document.document
    (without_errors c.args.bounds c.in_ok-documents.ensures none) c.in_ok-document.ensures
    (subst (λ bytes. JudgesTree c.args.bounds bytes (Some c.args.schema.now) c.in_ok-document.document reports) c.in_ok-bytes_of.ensures judged))
    c.validate_tree.result c.validate_tree.ensures

pub returns-else-is_empty : goal.returns-else-is_empty
returns-else-is_empty c =
    let some = some_items c.in_ok-documents.field-0.errors c.is_empty.result c.is_empty.ensures c.if-is_empty.false in
    are_not_all_documents c.in_ok-documents.field-0.documents.items c.in_ok-documents.ensures some
