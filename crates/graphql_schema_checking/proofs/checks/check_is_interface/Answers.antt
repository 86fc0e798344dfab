use Rattle.std.proofs.Common.{IsFalse, rules}
use Rattle.graphql_diagnostics.proofs.ReportLemmas.{checks_words}
use Rattle.graphql_schema_checking.specs.Definitions.{is_interface}
use Rattle.graphql_schema_checking.proofs.checks.check_is_interface.Goals as goal

pub returns-else-is_interface : goal.returns-else-is_interface
returns-else-is_interface c = λ types all defined among.
    let differ : IsFalse (is_interface c.args.definition.now) = search rules in
    checks_words c.report_non_interface.result _ _ _ _ _ _ (λ no. absurd no, λ yes. let no : ⊥ = cc in no) (λ e q. q)
    (c.report_non_interface.ensures types all defined among)
