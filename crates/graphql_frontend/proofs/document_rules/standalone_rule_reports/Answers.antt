use Rattle.std.proofs.Common.{None}
use Rattle.std.proofs.lemmas.List.Elements.{All-weaker}
use Rattle.graphql_diagnostics.specs.Diagnostics.{IsLimitEntry}
use Rattle.graphql_frontend.specs.Documents.{IsDocumentEntry}
use Rattle.graphql_frontend.proofs.ReportLemmas.{appended, decides_within, each_within, kept}
use Rattle.graphql_document_rules.proofs.RuleReportLemmas.{limit_if_one, rule_unless_limit}
use Rattle.graphql_frontend.proofs.document_rules.standalone_rule_reports.Goals as goal

pub returns-in-Ok : goal.returns-in-Ok
returns-in-Ok c =
    let document = c.args.document.now in
    let validated = c.in-Ok.ensures.checks in
    let empty = c.with_bound-rules.ensures.empty in
    record {
      each = All-weaker _ (IsDocumentEntry None document)
          (λ e either. record { report = rule_unless_limit None document e either; limit = limit_if_one None document e either }) _
          (each_within _ _ _ _ _ validated empty);
      decides = λ built no_limit. decides_within IsLimitEntry _ _ _ _ validated empty no_limit;
      others = λ built off offs. appended _ _ _ c.in-Ok.ensures.others empty off offs;
    }

pub returns-in-Err : goal.returns-in-Err
returns-in-Err c =
    let document = c.args.document.now in
    c.first_rules.ensures None document
    (All-weaker _ (IsDocumentEntry None document)
    (λ e either. record { report = rule_unless_limit None document e either; limit = limit_if_one None document e either }) _
    (kept _ _ _ c.in-Err.ensures.checks c.with_bound-rules.ensures.empty))
