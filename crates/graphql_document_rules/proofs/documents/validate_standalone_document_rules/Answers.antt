use Rattle.std.proofs.lemmas.Option.{none-some}
use Rattle.std.proofs.lemmas.Result.{MatchResult-weaker}
use Rattle.graphql_diagnostics.specs.Diagnostics.{IsLimitEntry}
use Rattle.graphql_diagnostics.proofs.ReportWithinLemmas.{in_words_within}
use Rattle.graphql_diagnostics.proofs.ReportLemmas.{on_ok}
use Rattle.graphql_validation.proofs.RuleSetLemmas.{in_words_of_others}
use Rattle.graphql_document_rules.proofs.documents.validate_standalone_document_rules.Goals as goal

pub returns-clause-checks : goal.returns-clause-checks
returns-clause-checks c =
    MatchResult-weaker c.validate_with_or_without_schema.result c.validate_with_or_without_schema.ensures.checks
    (λ _ checked. in_words_within IsLimitEntry (
      λ p. record {
        operations = p.0;
        fragments = p.1;
        defer = p.2;
        subscriptions = λ s is. absurd (none-some s is);
        merging = λ s is. absurd (none-some s is);
      },
      λ h. (h.operations, h.fragments, h.defer),
    ) checked)
    (λ _ kept. kept)

pub returns-clause-others : goal.returns-clause-others
returns-clause-others c =
    on_ok c.validate_with_or_without_schema.result _ _
    (in_words_of_others (λ off p. record {
      operations = p.0;
      fragments = p.1;
      defer = p.2;
      subscriptions = λ s is. absurd (none-some s is);
      merging = λ s is. absurd (none-some s is);
    }))
    c.validate_with_or_without_schema.ensures.others
