use Rattle.std.proofs.Common.{Some, rules}
use Rattle.graphql_diagnostics.specs.Diagnostics.{IsLimitEntry, entries}
use Rattle.graphql_document_rules.specs.DocumentRules.{DocumentRuleReport}
use Rattle.graphql_document_rules.specs.Documents.{DocumentLimit}
use Rattle.graphql_frontend.specs.Documents.{IsDocumentEntry}
use Rattle.graphql_frontend.proofs.DocumentLemmas.{both_of_each}
use Rattle.graphql_frontend.proofs.ReportLemmas.{appended, kept}
use Rattle.graphql_frontend.proofs.document_rules.rule_reports_against.Goals as goal

pub returns-in-Ok-true : goal.returns-in-Ok-true
returns-in-Ok-true c =
    let schema = Some c.args.schema.now in
    let document = c.args.document.now in
    let validated = c.validate_document_rules.ensures in
    let empty = c.with_bound-rules.ensures.empty in
    record {
      each =
          both_of_each (λ e. ¬ IsLimitEntry e → DocumentRuleReport schema document e.details e.location)
          (λ e. IsLimitEntry e → DocumentLimit schema document e.details e.location) (IsDocumentEntry schema document)
          (λ e p q. record { report = p; limit = q }) (entries c.validate_document_rules.new.diagnostics)
          (kept _ _ _ validated.reports empty) (kept _ _ _ validated.limits empty);
      decides = λ built no_limit. appended _ _ _ (c.in-Ok-true.ensures.silence built (search rules)) empty no_limit;
      others = λ built off offs. appended _ _ _ (c.in-Ok-true.ensures.others built (search rules)) empty off offs;
    }

pub returns-in-Err : goal.returns-in-Err
returns-in-Err c =
    let schema = Some c.args.schema.now in
    let document = c.args.document.now in
    let validated = c.validate_document_rules.ensures in
    let empty = c.with_bound-rules.ensures.empty in
    c.first_rules.ensures schema document
    (both_of_each (λ e. ¬ IsLimitEntry e → DocumentRuleReport schema document e.details e.location)
    (λ e. IsLimitEntry e → DocumentLimit schema document e.details e.location) (IsDocumentEntry schema document)
    (λ e p q. record { report = p; limit = q }) (entries c.validate_document_rules.new.diagnostics)
    (kept _ _ _ validated.reports empty) (kept _ _ _ validated.limits empty))
