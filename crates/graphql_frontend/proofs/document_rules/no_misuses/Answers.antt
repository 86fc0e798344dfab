use Rattle.std.proofs.Common.{[], None, subst, sym}
use Rattle.graphql_diagnostics.proofs.ReportLemmas.{holds}
use Rattle.graphql_usage_rules.specs.declared.reports.VariableMisuse.{VariableMisuse}
use Rattle.graphql_frontend.specs.Documents.{EndsWithOne, IsMisuseReport, UsagesAreAllowed, Without, of_nothing}
use Rattle.graphql_frontend.proofs.document_rules.no_misuses.Goals as goal

pub returns : goal.returns
returns c = λ document rules. record {
  all = [];
  all_are = holds (IsMisuseReport None document) (UsagesAreAllowed None document) [] tt;
  beside = subst (Without (λ (u : VariableMisuse). EndsWithOne rules u.location) []) (sym c.new.ensures.items) of_nothing;
}
