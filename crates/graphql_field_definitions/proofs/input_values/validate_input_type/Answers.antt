use Rattle.std.proofs.Common.{◌≡◌, IsFalse, IsTrue, None, Some, inl, inr, rules}
use Rattle.graphql_documents.specs.Schemas.{is_input_type, type_definition}
use Rattle.graphql_specification.specs.BuiltInScalars.{names_built_in_scalar}
use Rattle.graphql_documents.specs.TypeReferences.{inner_named_type}
use Rattle.graphql_diagnostics.proofs.ReportLemmas.{checks-push, checks_words, holds}
use Rattle.graphql_field_definitions.specs.FieldDefinitionSteps.{of_undefined}
use Rattle.graphql_field_definitions.proofs.TypeNameLemmas.{no_such_type, no_type_at_all}
use Rattle.graphql_field_definitions.proofs.input_values.validate_input_type.Goals as goal

pub returns-in-Some-clause-checks : goal.returns-in-Some-clause-checks
returns-in-Some-clause-checks c =
    let name = inner_named_type c.args.input_value.now.value.value.ty.value.value in
    let d = c.in-Some.definition.now in
    let defined : type_definition c.args.schema.now name ≡ Some d = search rules in
    let input : IsTrue (is_input_type d) = search rules in
    holds _ _ _ (inl (d, defined, input))

pub returns-in-Some-2-clause-checks : goal.returns-in-Some-2-clause-checks
returns-in-Some-2-clause-checks c =
    let schema = c.args.schema.now in
    let name = inner_named_type c.args.input_value.now.value.value.ty.value.value in
    let d = c.in-Some.definition.now in
    let defined : type_definition schema name ≡ Some d = search rules in
    let other : IsFalse (is_input_type d) = search rules in
    checks_words c.report_no_input_type.result _ _ _ _ _ _ (λ no. absurd no, λ h. no_such_type schema is_input_type name d defined other h) (λ e q. q)
    (c.report_no_input_type.ensures schema defined)

pub returns-in-None-clause-checks : goal.returns-in-None-clause-checks
returns-in-None-clause-checks c =
    let name = inner_named_type c.args.input_value.now.value.value.ty.value.value in
    let undefined : type_definition c.args.schema.now name ≡ None = search rules in
    let built_in : IsTrue (names_built_in_scalar name.text) = search rules in
    holds _ _ _ (inr (undefined, built_in))

pub returns-in-None-2-clause-checks : goal.returns-in-None-2-clause-checks
returns-in-None-2-clause-checks c =
    let schema = c.args.schema.now in
    let name = inner_named_type c.args.input_value.now.value.value.ty.value.value in
    let undefined : type_definition schema name ≡ None = search rules in
    let other : IsFalse (names_built_in_scalar name.text) = search rules in
    checks-push _ _ _ _ _ _ c.report_undefined_type.ensures.ok c.report_undefined_type.ensures.err (no_type_at_all schema is_input_type name undefined other)
    (of_undefined (undefined, other, search rules, search rules))
