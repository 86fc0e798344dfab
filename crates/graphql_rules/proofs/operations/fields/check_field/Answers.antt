use Rattle.std.proofs.Common.{◌≡◌, Some, Err, Ok, ap, ◌∙◌, rules}
use Rattle.std.specs.Result.{result_ok}
use Rattle.graphql_diagnostics.specs.Diagnostics.{IsDiagnostic}
use Rattle.graphql_documents.specs.Schemas.{type_field}
use Rattle.graphql_diagnostics.proofs.ReportLemmas.{both, checks-err, checks_after, checks_words, in_words, kept_by, kept_then, kept_wider}
use Rattle.graphql_documents.specs.declared.documents.executables.Field.{Field}
use Rattle.graphql_operations.specs.Contexts.{parent_of, schema_of, variables_of}
use Rattle.graphql_rules.specs.SelectionSteps.{DefinedFieldHolds}
use Rattle.graphql_specification.specs.Fields.{FieldReport, by_directives}
use Rattle.graphql_rules.proofs.AppliedLemmas.{directives_kept, directives_reported}
use Rattle.graphql_rules.proofs.FieldLemmas.{below_against, definition_against, distinct_reported, holds_defined, holds_undefined, lacks_place, names_against, names_repetition, parent_against, schema_against, undefined_at, unknown_below}
use Rattle.graphql_rules.proofs.operations.fields.check_field.Goals as goal

pub returns-in_err-check_each_directive-clause-checks :
    goal.returns-in_err-check_each_directive-clause-checks
returns-in_err-check_each_directive-clause-checks c =
    let same = c.deref-2.ensures.value ∙ ap (λ (f : Field). f.directives.items) c.deref.ensures in
    checks-err _ _ _ _ _ c.from_residual.ensures.0
    (directives_kept _ (λ r at broken. by_directives broken) same c.in_err-check_each_directive.ensures)

pub returns-in_err-validate_arguments-clause-checks :
    goal.returns-in_err-validate_arguments-clause-checks
returns-in_err-validate_arguments-clause-checks c =
    let schema = schema_of c.args.context.now in
    let variables = variables_of c.args.context.now in
    let parent = parent_of c.args.against_type in
    let f = c.args.field.now in
    let same = c.deref-2.ensures.value ∙ ap (λ (f : Field). f.directives.items) c.deref.ensures in
    let given = c.deref-4.ensures.value ∙ ap (λ (f : Field). f.arguments.items) c.deref-3.ensures in
    checks-err _ _ _ _ _ c.from_residual-in_err-validate_arguments.ensures.0
    (kept_then (kept_by (directives_reported (FieldReport schema variables parent f) (λ r at broken. by_directives broken) same c.in_ok-check_each_directive.ensures))
    (kept_wider (names_repetition schema variables parent f _ given) c.in_err-validate_arguments.ensures.checks))

pub returns-in_default-clause-checks : goal.returns-in_default-clause-checks
returns-in_default-clause-checks c =
    let schema = schema_of c.args.context.now in
    let variables = variables_of c.args.context.now in
    let parent = parent_of c.args.against_type in
    let f = c.args.field.now in
    let same = c.deref-2.ensures.value ∙ ap (λ (f : Field). f.directives.items) c.deref.ensures in
    let given = c.deref-4.ensures.value ∙ ap (λ (f : Field). f.arguments.items) c.deref-3.ensures in
    in_words (holds_undefined schema variables parent f.value.value (undefined_at schema parent f.value.value.name (ap parent_of c.in_default.is)))
    (both
    (directives_reported (FieldReport schema variables parent f) (λ r at broken. by_directives broken) same c.in_ok-check_each_directive.ensures)
    (distinct_reported schema variables parent f _ given c.in_ok-validate_arguments.ensures.checks))

pub returns-in_default-clause-below : goal.returns-in_default-clause-below
returns-in_default-clause-below c =
    (tt, unknown_below (schema_of c.args.context.now) (parent_of c.args.against_type) c.args.field.now.value.value.name (ap parent_of c.in_default.is))

pub returns-in_default-type_field-clause-checks : goal.returns-in_default-type_field-clause-checks
returns-in_default-type_field-clause-checks c =
    let schema = schema_of c.args.context.now in
    let variables = variables_of c.args.context.now in
    let parent = parent_of c.args.against_type in
    let f = c.args.field.now in
    let same = c.deref-2.ensures.value ∙ ap (λ (f : Field). f.directives.items) c.deref.ensures in
    let given = c.deref-4.ensures.value ∙ ap (λ (f : Field). f.arguments.items) c.deref-3.ensures in
    let lacks : type_field c.in-Some.schema.now c.in-Some.parent.now f.value.value.name ≡ Err c.in_default-type_field.field-0 = search rules in
    let none = definition_against schema c.args.against_type c.in-Some.schema c.in-Some.parent c.requires c.in-Some.is f.value.value.name ∙ ap result_ok lacks in
    in_words (holds_undefined schema variables parent f.value.value none)
    (both
    (directives_reported (FieldReport schema variables parent f) (λ r at broken. by_directives broken) same c.in_ok-check_each_directive.ensures)
    (distinct_reported schema variables parent f _ given c.in_ok-validate_arguments.ensures.checks))

pub returns-in_default-type_field-clause-below : goal.returns-in_default-type_field-clause-below
returns-in_default-type_field-clause-below c = λ below under.
    let schema = schema_of c.args.context.now in
    let name = c.args.field.now.value.value.name in
    let lacks : type_field c.in-Some.schema.now c.in-Some.parent.now name ≡ Err c.in_default-type_field.field-0 = search rules in
    let none = definition_against schema c.args.against_type c.in-Some.schema c.in-Some.parent c.requires c.in-Some.is name ∙ ap result_ok lacks in
    absurd (lacks_place schema (parent_of c.args.against_type) below name c.in-Some.parent.now
    (parent_against schema c.args.against_type c.in-Some.schema c.in-Some.parent c.requires c.in-Some.is) none under)

pub returns-clause-checks : goal.returns-clause-checks
returns-clause-checks c =
    let schema = schema_of c.args.context.now in
    let variables = variables_of c.args.context.now in
    let parent = parent_of c.args.against_type in
    let f = c.args.field.now in
    let s = c.in-Some.schema.now in
    let p = c.in-Some.parent.now in
    let d = c.in-Ok.definition.now in
    let Said = IsDiagnostic (FieldReport schema variables parent f) in
    let same = c.deref-2.ensures.value ∙ ap (λ (f : Field). f.directives.items) c.deref.ensures in
    let given = c.deref-4.ensures.value ∙ ap (λ (f : Field). f.arguments.items) c.deref-3.ensures in
    let has = schema_against schema c.args.against_type c.in-Some.schema c.in-Some.parent c.requires c.in-Some.is in
    let is = parent_against schema c.args.against_type c.in-Some.schema c.in-Some.parent c.requires c.in-Some.is in
    let found : type_field s p f.value.value.name ≡ Ok d = search rules in
    let defined = definition_against schema c.args.against_type c.in-Some.schema c.in-Some.parent c.requires c.in-Some.is f.value.value.name ∙ ap result_ok found in
    let parts = holds_defined schema variables parent f.value.value s d has defined in
    checks_words c.check_defined_field.result _ _ Said Said _ _ parts (λ e q. q)
    (checks_after c.check_defined_field.result _ _ Said _ _ _
    (both
    (directives_reported (FieldReport schema variables parent f) (λ r at broken. by_directives broken) same c.in_ok-check_each_directive.ensures)
    (distinct_reported schema variables parent f _ given c.in_ok-validate_arguments.ensures.checks))
    (checks_words c.check_defined_field.result (DefinedFieldHolds s variables f.value.value d.node.value.value) (DefinedFieldHolds s variables f.value.value d.node.value.value)
    (IsDiagnostic (FieldReport (Some s) variables (Some p) f)) Said _ _ (λ x. x, λ x. x)
    (names_against schema variables parent s p f has is) c.check_defined_field.ensures.checks))

pub returns-clause-below : goal.returns-clause-below
returns-clause-below c =
    let schema = schema_of c.args.context.now in
    below_against c.check_defined_field.result schema (parent_of c.args.against_type) c.in-Some.schema.now c.in-Some.parent.now c.args.field.now.value.value
    (schema_against schema c.args.against_type c.in-Some.schema c.in-Some.parent c.requires c.in-Some.is)
    (parent_against schema c.args.against_type c.in-Some.schema c.in-Some.parent c.requires c.in-Some.is)
    c.check_defined_field.ensures.below
