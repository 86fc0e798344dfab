-- What is reported of a document, entry by entry.
use Rattle.std.proofs.Common.{◌≡◌, ◌↔◌, List, [], ◌∷◌, All, Option, Contains, refl, sym, ◌∙◌, subst}
use Rattle.std.proofs.lemmas.List.Elements.{All-cons, All-contains, All-head, All-nil, All-tail}
use Rattle.graphql_diagnostics.specs.Diagnostics.{entries}
use Rattle.graphql_diagnostics.specs.Reports.{Reports}
use Rattle.graphql_diagnostics.specs.declared.lists.DiagnosticEntry.{DiagnosticEntry}
use Rattle.graphql_documents.proofs.ListLemmas.{none_stands}
use Rattle.graphql_documents.specs.declared.documents.executables.ExecutableDocument.{ExecutableDocument}
use Rattle.graphql_documents.specs.declared.documents.schemas.Schema.{Schema}
use Rattle.graphql_document_rules.specs.DocumentRules.{DocumentRulesHold, DocumentRulesHoldBut}
use Rattle.graphql_document_rules.specs.RuleSets.{NamesRuleIn, RuleSet}
use Rattle.graphql_document_rules.proofs.RuleSetLemmas.{is_not_off}
use Rattle.graphql_input_rules.specs.InputFields.{InputFieldReport, InputFieldsAreUnique}
use Rattle.graphql_usage_rules.specs.declared.reports.VariableMisuse.{VariableMisuse}
use Rattle.graphql_frontend.specs.Documents.{AreFurtherMisuses, AreFurtherUndefined, EndsWithOne, EveryRuleHolds, EveryRuleHoldsBut, IsReportedUndefined, ReportsNothing, ReportsOnlyOff}
use Rattle.graphql_frontend.specs.declared.reports.DocumentReports.{DocumentReports}
use Rattle.graphql_frontend.proofs.BesideLemmas.{without_none}
use Rattle.graphql_frontend.proofs.ReportLemmas.{decides}

-- two things that are true of each
pub both_of_each : (P Q R : DiagnosticEntry → Type 0) → ((e : DiagnosticEntry) → P e → Q e → R e) → (es : List DiagnosticEntry) → All P es → All Q es → All R es
both_of_each P Q R f [] p q = All-nil R
both_of_each P Q R f (e ∷ es) p q =
    All-cons R e es (f e (All-head P e es p) (All-head Q e es q)) (both_of_each P Q R f es (All-tail P e es p) (All-tail Q e es q))

-- each list decides its rule, so nothing is reported exactly if every rule holds
pub all_decide : (schema : Option Schema) (document : ExecutableDocument) (reports : DocumentReports) →
    (entries reports.rules ≡ []) ↔ DocumentRulesHold schema document → AreFurtherUndefined document (entries reports.rules) reports.undefined_variables.items →
    Reports (InputFieldsAreUnique document) (InputFieldReport document) [] reports.input_fields.items →
    AreFurtherMisuses schema document (entries reports.rules) reports.usages.items →
    ReportsNothing reports ↔ EveryRuleHolds schema document
all_decide schema document reports rules undefined input_fields usages = (
  λ (no_rule, no_variable, no_field, no_usage). record {
    rules = rules.0 no_rule;
    variables = (decides _ _ _ _ undefined.all_are refl).0 (undefined_alone no_rule ∙ no_variable);
    input_fields = (decides _ _ _ _ input_fields refl).0 no_field;
    usages = (decides _ _ _ _ usages.all_are refl).0 (usages_alone no_rule ∙ no_usage);
  },
  λ holds.
      let no_rule = rules.1 holds.rules in (
        no_rule,
        sym (undefined_alone no_rule) ∙ (decides _ _ _ _ undefined.all_are refl).1 holds.variables,
        (decides _ _ _ _ input_fields refl).1 holds.input_fields,
        sym (usages_alone no_rule) ∙ (decides _ _ _ _ usages.all_are refl).1 holds.usages,
      ),
) where
  undefined_alone : entries reports.rules ≡ [] → undefined.all ≡ reports.undefined_variables.items
  undefined_alone none =
      without_none (λ (e : DiagnosticEntry). IsReportedUndefined (entries reports.rules) e.location)
      (λ e h. none_stands h.0 (subst (λ l. Contains l h.0) none h.1)) undefined.beside

  usages_alone : entries reports.rules ≡ [] → usages.all ≡ reports.usages.items
  usages_alone none =
      without_none (λ (u : VariableMisuse). EndsWithOne (entries reports.rules) u.location)
      (λ u h. none_stands h.0 (subst (λ l. Contains l h.0) none h.1)) usages.beside

-- if each report is of a rule that is off, no report of another list is left out for it, so the other rules hold
pub others_hold : (schema : Option Schema) (document : ExecutableDocument) (off : RuleSet) (reports : DocumentReports) →
    DocumentRulesHoldBut off schema document → AreFurtherUndefined document (entries reports.rules) reports.undefined_variables.items →
    Reports (InputFieldsAreUnique document) (InputFieldReport document) [] reports.input_fields.items →
    AreFurtherMisuses schema document (entries reports.rules) reports.usages.items →
    ReportsOnlyOff off reports → EveryRuleHoldsBut off schema document
others_hold schema document off reports rules undefined input_fields usages (offs, no_variable, no_field, no_usage) = record {
  rules = rules;
  variables = (decides _ _ _ _ undefined.all_are refl).0 (undefined_alone ∙ no_variable);
  input_fields = (decides _ _ _ _ input_fields refl).0 no_field;
  usages = (decides _ _ _ _ usages.all_are refl).0 (usages_alone ∙ no_usage);
} where
  is_off : (e : DiagnosticEntry) → Contains (entries reports.rules) e → NamesRuleIn off e.details
  is_off e stands = All-contains (λ (x : DiagnosticEntry). NamesRuleIn off x.details) (entries reports.rules) e offs stands

  undefined_alone : undefined.all ≡ reports.undefined_variables.items
  undefined_alone =
      without_none (λ (e : DiagnosticEntry). IsReportedUndefined (entries reports.rules) e.location)
      (λ e (x, stands, some, located, name, says). subst (NamesRuleIn off) says (is_off x stands)) undefined.beside

  usages_alone : usages.all ≡ reports.usages.items
  usages_alone =
      without_none (λ (u : VariableMisuse). EndsWithOne (entries reports.rules) u.location)
      (λ u (x, stands, never, together). is_not_off off x.details never (is_off x stands)) usages.beside
