use Rattle.std.proofs.Common.{◌≡◌, IsFalse, IsTrue, None, Some, rules}
use Rattle.graphql_documents.specs.Schemas.{is_input_type, type_definition}
use Rattle.graphql_documents.specs.TypeReferences.{inner_named_type}
use Rattle.graphql_diagnostics.proofs.ReportLemmas.{checks_words}
use Rattle.graphql_values.proofs.VariableLemmas.{no_input_type, no_type}
use Rattle.graphql_values.proofs.directive.variable_definitions.validate_type_against.Goals as goal

pub returns-in-Some : goal.returns-in-Some
returns-in-Some c = λ variables among.
    let v = c.args.variable.now in
    let d = c.in-Some.definition.now in
    let defined : type_definition c.args.schema.now (inner_named_type v.value.value.ty.value.value) ≡ Some d = search rules in
    let input : IsTrue (is_input_type d) = search rules in
    checks_words c.validate_default.result _ _ _ _ _ _ (λ h. ((d, defined, input), h), λ p. p.1) (λ e q. q) (c.validate_default.ensures variables among)

pub returns-in-Some-2 : goal.returns-in-Some-2
returns-in-Some-2 c = λ variables among.
    let s = c.args.schema.now in
    let v = c.args.variable.now in
    let d = c.in-Some.definition.now in
    let defined : type_definition s (inner_named_type v.value.value.ty.value.value) ≡ Some d = search rules in
    let no_input : IsFalse (is_input_type d) = search rules in
    checks_words c.report_no_input_type.result _ _ _ _ _ _ (λ no. absurd no, λ p. no_input_type s v d defined no_input p.0) (λ e q. q)
    (c.report_no_input_type.ensures s defined variables among)

pub returns-in-None : goal.returns-in-None
returns-in-None c = λ variables among.
    let s = c.args.schema.now in
    let v = c.args.variable.now in
    let undefined : type_definition s (inner_named_type v.value.value.ty.value.value) ≡ None = search rules in
    checks_words c.report_undefined_type.result _ _ _ _ _ _ (λ no. absurd no, λ p. no_type s v undefined p.0) (λ e q. q)
    (c.report_undefined_type.ensures s undefined variables among)
