use Rattle.std.proofs.Common.{◌∙◌, ap, map}
use Rattle.std.specs.Prelude.{filter, not}
use Rattle.graphql_diagnostics.proofs.ReportLemmas.{checks-err, checks_after, kept_by, kept_then}
use Rattle.graphql_schema_checking.specs.Definitions.{is_built_in_name}
use Rattle.graphql_schema_checking.specs.SchemaReports.{repeatable_type_names}
use Rattle.graphql_repetitions.specs.References.{nows}
use Rattle.graphql_schema_checking.proofs.RuleLemmas.{answered, built_in_directives_checked, own_directives_checked, refused, scalars_checked, types_checked}
use Rattle.graphql_schema_checking.proofs.schema.check_names.Goals as goal

pub returns-in_err-check_scalars : goal.returns-in_err-check_scalars
returns-in_err-check_scalars c = λ definitions s.
    checks-err _ _ _ _ _ c.from_residual.ensures.0
    (scalars_checked refused definitions _ _ _ (ap nows c.deref.ensures.value ∙ s.types_are) c.in_err-check_scalars.ensures)

pub returns-in_err-types : goal.returns-in_err-types
returns-in_err-types c = λ definitions s.
    checks-err _ _ _ _ _ c.from_residual-in_err-types.ensures.0
    (kept_by (scalars_checked answered definitions _ _ _ (ap nows c.deref.ensures.value ∙ s.types_are) c.in_ok-check_scalars.ensures))

pub returns-in_err-check_repetitions : goal.returns-in_err-check_repetitions
returns-in_err-check_repetitions c = λ definitions s.
    checks-err _ _ _ _ _ c.from_residual-in_err-check_repetitions.ensures.0
    (kept_then (kept_by (scalars_checked answered definitions _ _ _ (ap nows c.deref.ensures.value ∙ s.types_are) c.in_ok-check_scalars.ensures))
    (types_checked refused definitions _ _ _ (ap nows c.deref-3.ensures.value ∙ c.in_ok-types.ensures ∙ ap repeatable_type_names (ap nows c.deref-2.ensures.value ∙ s.types_are)) c.in_err-check_repetitions.ensures))

pub returns-in_err-directives : goal.returns-in_err-directives
returns-in_err-directives c = λ definitions s.
    checks-err _ _ _ _ _ c.from_residual-in_err-directives.ensures.0
    (kept_then (kept_by (scalars_checked answered definitions _ _ _ (ap nows c.deref.ensures.value ∙ s.types_are) c.in_ok-check_scalars.ensures))
    (kept_by (types_checked answered definitions _ _ _ (ap nows c.deref-3.ensures.value ∙ c.in_ok-types.ensures ∙ ap repeatable_type_names (ap nows c.deref-2.ensures.value ∙ s.types_are)) c.in_ok-check_repetitions.ensures)))

pub returns-in_err-check_repetitions-2 : goal.returns-in_err-check_repetitions-2
returns-in_err-check_repetitions-2 c = λ definitions s.
    checks-err _ _ _ _ _ c.from_residual-in_err-check_repetitions-2.ensures.0
    (kept_then (kept_by (scalars_checked answered definitions _ _ _ (ap nows c.deref.ensures.value ∙ s.types_are) c.in_ok-check_scalars.ensures))
    (kept_then (kept_by (types_checked answered definitions _ _ _ (ap nows c.deref-3.ensures.value ∙ c.in_ok-types.ensures ∙ ap repeatable_type_names (ap nows c.deref-2.ensures.value ∙ s.types_are)) c.in_ok-check_repetitions.ensures))
    (own_directives_checked refused definitions _ _ _ (ap nows c.deref-5.ensures.value ∙ c.in_ok-directives.ensures.own ∙ ap (λ l. filter (λ name. not (is_built_in_name name)) (map (λ d. d.name) l)) (ap nows c.deref-4.ensures.value ∙ s.directives_are)) c.in_err-check_repetitions-2.ensures)))

pub returns : goal.returns
returns c = λ definitions s.
    checks_after _ _ _ _ _ _ _ (scalars_checked answered definitions _ _ _ (ap nows c.deref.ensures.value ∙ s.types_are) c.in_ok-check_scalars.ensures)
    (checks_after _ _ _ _ _ _ _ (types_checked answered definitions _ _ _ (ap nows c.deref-3.ensures.value ∙ c.in_ok-types.ensures ∙ ap repeatable_type_names (ap nows c.deref-2.ensures.value ∙ s.types_are)) c.in_ok-check_repetitions.ensures)
    (checks_after _ _ _ _ _ _ _ (own_directives_checked answered definitions _ _ _ (ap nows c.deref-5.ensures.value ∙ c.in_ok-directives.ensures.own ∙ ap (λ l. filter (λ name. not (is_built_in_name name)) (map (λ d. d.name) l)) (ap nows c.deref-4.ensures.value ∙ s.directives_are)) c.in_ok-check_repetitions-2.ensures)
    (built_in_directives_checked c.check_repetitions-3.result definitions _ _ _ (ap nows c.deref-6.ensures.value ∙ c.in_ok-directives.ensures.built_in ∙ ap (λ l. filter is_built_in_name (map (λ d. d.name) l)) (ap nows c.deref-4.ensures.value ∙ s.directives_are)) c.check_repetitions-3.ensures)))
