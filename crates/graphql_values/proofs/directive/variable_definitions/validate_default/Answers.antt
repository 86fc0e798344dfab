use Rattle.std.proofs.Common.{◌≡◌, [], Some, None, refl, rules, ap, sym, ◌∙◌, subst}
use Rattle.std.proofs.lemmas.Option.{none-some, same_Some}
use Rattle.graphql_diagnostics.specs.Diagnostics.{IsDiagnostic}
use Rattle.graphql_specification.specs.Values.{Accepts, ValueReport}
use Rattle.graphql_documents.specs.TypeReferences.{reference_of}
use Rattle.graphql_specification.specs.Variables.{VariablesReport, DefaultHolds}
use Rattle.graphql_diagnostics.proofs.ReportLemmas.{checks_words, holds}
use Rattle.graphql_values.proofs.VariableLemmas.{names_default}
use Rattle.graphql_values.proofs.directive.variable_definitions.validate_default.Goals as goal

pub returns-in-Some : goal.returns-in-Some
returns-in-Some c = λ variables among.
    let v = c.args.variable.now in
    let value = c.in-Some.value in
    let schema = c.args.schema.now in
    let is_default : v.value.value.default_value ≡ Some value = sym (ap (λ x. x.default_value) c.deref.ensures) ∙ c.in-Some.is in
    checks_words c.value_of_correct_type.result (Accepts schema [] v.value.value.ty.value.value value.value.value) (DefaultHolds schema v.value.value)
    (IsDiagnostic (ValueReport schema [] (reference_of v.value.value.ty) value)) (IsDiagnostic (VariablesReport (Some schema) variables)) _ _ (
      λ h other is. subst (λ x. Accepts schema [] v.value.value.ty.value.value x.value.value) (same_Some value other (sym is_default ∙ is)) h,
      λ h. h value is_default,
    )
    (names_default (Some schema) variables v among schema value refl is_default)
    (rw c.deref-in-Some.ensures at c.value_of_correct_type.ensures)

pub returns-in-None : goal.returns-in-None
returns-in-None c = λ variables among.
    let none : c.args.variable.now.value.value.default_value ≡ None = search rules in
    holds _ _ _ (λ value is. absurd (none-some value (sym none ∙ is)))
