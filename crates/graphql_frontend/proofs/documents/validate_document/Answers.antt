use Rattle.std.proofs.Common.{Some, length, refl, rules}
use Rattle.graphql_frontend.specs.Documents.{JudgesTree, ValidatesDocument, is_document}
use Rattle.graphql_frontend.proofs.ReportLemmas.{if_ok}
use Rattle.graphql_frontend.proofs.documents.validate_document.Goals as goal

pub returns-in-Ok : goal.returns-in-Ok
returns-in-Ok c =
    if_ok (JudgesTree c.args.bounds (length c.args.source.text.now) (Some c.args.schema.now) c.in-Ok.tree) (ValidatesDocument c.args.bounds (Some c.args.schema.now) c.args.source)
    (λ reports judged. is_document c.in-Ok.tree (search rules) judged) c.validate_tree.result c.validate_tree.ensures

pub returns-in-Err : goal.returns-in-Err
returns-in-Err c =
    c.report_syntax.ensures c.args.bounds (Some c.args.schema.now) c.args.source refl c.in-Err.ensures.only c.in-Err.ensures.refused
