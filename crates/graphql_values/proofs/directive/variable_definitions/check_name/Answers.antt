use Rattle.std.proofs.Common.{sym, ◌∙◌}
use Rattle.std.proofs.lemmas.Option.{none-some}
use Rattle.graphql_diagnostics.proofs.ReportLemmas.{checks_words, holds}
use Rattle.graphql_documents.specs.Definitions.{variable_named}
use Rattle.graphql_variables.proofs.FirstPlaceLemmas.{first_found, none_mapped}
use Rattle.graphql_values.proofs.directive.variable_definitions.check_name.Goals as goal

pub returns-in-Some : goal.returns-in-Some
returns-in-Some c = λ schema before is variables next.
    let first = first_found (λ v. v.location) (variable_named c.args.variable.now.value.value.name before) c.in-Some.original (sym is ∙ c.in-Some.is) in
    checks_words c.report_repetition.result _ _ _ _ _ _ (λ no. absurd no, λ is_new. none-some first.0 (sym is_new ∙ first.1)) (λ e q. q)
    (c.report_repetition.ensures schema before first.0 first.1 first.2 variables next)

pub returns-in-None : goal.returns-in-None
returns-in-None c = λ schema before is variables next.
    holds _ _ _ (none_mapped (λ v. v.location) (variable_named c.args.variable.now.value.value.name before) (sym is ∙ c.in-None.is))
