use Rattle.std.proofs.Common.{◌∙◌, ap}
use Rattle.graphql_diagnostics.proofs.ReportLemmas.{checks-err, checks_after, kept_by, kept_then}
use Rattle.graphql_repetitions.specs.References.{nows}
use Rattle.graphql_schema_checking.proofs.RuleLemmas.{answered, executables_checked, refused, schema_extensions_checked}
use Rattle.graphql_schema_checking.proofs.schema.check_whole.Goals as goal

pub returns-in_err-check_executables : goal.returns-in_err-check_executables
returns-in_err-check_executables c = λ definitions s.
    checks-err _ _ _ _ _ c.from_residual.ensures.0
    (executables_checked refused definitions _ _ _ (ap nows c.deref.ensures.value ∙ s.executables_are) c.in_err-check_executables.ensures)

pub returns-in_err-check_schema_definitions : goal.returns-in_err-check_schema_definitions
returns-in_err-check_schema_definitions c = λ definitions s.
    checks-err _ _ _ _ _ c.from_residual-in_err-check_schema_definitions.ensures.0
    (kept_then (kept_by (executables_checked answered definitions _ _ _ (ap nows c.deref.ensures.value ∙ s.executables_are) c.in_ok-check_executables.ensures))
    (c.in_err-check_schema_definitions.ensures definitions s))

pub returns-in_err-check_roots : goal.returns-in_err-check_roots
returns-in_err-check_roots c = λ definitions s.
    checks-err _ _ _ _ _ c.from_residual-in_err-check_roots.ensures.0
    (kept_then (kept_by (executables_checked answered definitions _ _ _ (ap nows c.deref.ensures.value ∙ s.executables_are) c.in_ok-check_executables.ensures))
    (kept_then (kept_by (c.in_ok-check_schema_definitions.ensures definitions s))
    (c.in_err-check_roots.ensures definitions s)))

pub returns-in_err-check_roots-2 : goal.returns-in_err-check_roots-2
returns-in_err-check_roots-2 c = λ definitions s.
    checks-err _ _ _ _ _ c.from_residual-in_err-check_roots-2.ensures.0
    (kept_then (kept_by (executables_checked answered definitions _ _ _ (ap nows c.deref.ensures.value ∙ s.executables_are) c.in_ok-check_executables.ensures))
    (kept_then (kept_by (c.in_ok-check_schema_definitions.ensures definitions s))
    (kept_then (kept_by (c.in_ok-check_roots.ensures definitions s))
    (c.in_err-check_roots-2.ensures definitions s))))

pub returns-in_err-check_roots-3 : goal.returns-in_err-check_roots-3
returns-in_err-check_roots-3 c = λ definitions s.
    checks-err _ _ _ _ _ c.from_residual-in_err-check_roots-3.ensures.0
    (kept_then (kept_by (executables_checked answered definitions _ _ _ (ap nows c.deref.ensures.value ∙ s.executables_are) c.in_ok-check_executables.ensures))
    (kept_then (kept_by (c.in_ok-check_schema_definitions.ensures definitions s))
    (kept_then (kept_by (c.in_ok-check_roots.ensures definitions s))
    (kept_then (kept_by (c.in_ok-check_roots-2.ensures definitions s))
    (c.in_err-check_roots-3.ensures definitions s)))))

pub returns : goal.returns
returns c = λ definitions s.
    checks_after _ _ _ _ _ _ _ (executables_checked answered definitions _ _ _ (ap nows c.deref.ensures.value ∙ s.executables_are) c.in_ok-check_executables.ensures)
    (checks_after _ _ _ _ _ _ _ (c.in_ok-check_schema_definitions.ensures definitions s)
    (checks_after _ _ _ _ _ _ _ (c.in_ok-check_roots.ensures definitions s)
    (checks_after _ _ _ _ _ _ _ (c.in_ok-check_roots-2.ensures definitions s)
    (checks_after _ _ _ _ _ _ _ (c.in_ok-check_roots-3.ensures definitions s)
    (schema_extensions_checked c.check_schema_extensions.result definitions _ _ _ _ (c.has_schema.ensures definitions s) (ap nows c.deref-2.ensures.value ∙ s.schema_extensions_are) c.check_schema_extensions.ensures)))))
