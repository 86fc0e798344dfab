use Rattle.std.proofs.Common.{◌≡◌, ◌∷◌, ◌++◌, [], All, Contains, sym, ap, subst, ◌∙◌}
use Rattle.std.specs.Prelude.{flat_map}
use Rattle.std.proofs.lemmas.List.{append-nil}
use Rattle.graphql_diagnostics.specs.Diagnostics.{IsDiagnostic, entries}
use Rattle.graphql_specification.specs.FieldDefinitions.{FieldDefinitionsReport}
use Rattle.graphql_nodes.specs.Names.{NameText}
use Rattle.graphql_diagnostics.specs.Reports.{Reports}
use Rattle.graphql_specification.specs.BuiltInScalars.{field_types}
use Rattle.graphql_diagnostics.proofs.ReportLemmas.{checks-err, done_more, kept_by, kept_then, kept_wider, wider}
use Rattle.graphql_documents.proofs.ListLemmas.{done_next, stands_next}
use Rattle.graphql_documents.specs.declared.documents.components.Component.{Component}
use Rattle.graphql_documents.specs.declared.documents.definitions.FieldDefinition.{FieldDefinition}
use Rattle.graphql_field_definitions.specs.BuiltInScalarUses.{Records}
use Rattle.graphql_field_definitions.specs.FieldDefinitionSteps.{TypedFieldHolds}
use Rattle.graphql_field_definitions.proofs.BuiltInScalarLemmas.{keeps_by, keeps_then, records_done}
use Rattle.graphql_field_definitions.proofs.FieldDefinitionLemmas.{names_typed_field}
use Rattle.graphql_field_definitions.proofs.fields.validate_field_definitions.Goals as goal

pub returns-in_err-validate_typed_field-clause-checks : goal.returns-in_err-validate_typed_field-clause-checks
returns-in_err-validate_typed_field-clause-checks c =
    let fields = c.args.fields.now.entries in
    let x : NameText × Component FieldDefinition = (c.in-Some.field-0-0.now, c.in-Some.field.now) in
    let stands : Contains fields x =
    stands_next _ c.loop-field.invariant.done c.loop-field.field-iterator c.next.new.self x c.loop-field.invariant.all c.in-Some.ensures.steps in
    checks-err _ _ _ _ _ c.from_residual.ensures.0
    (kept_then (kept_by c.loop-field.invariant.reported)
    (kept_wider (names_typed_field c.args.schema.now fields x stands) c.in_err-validate_typed_field.ensures.checks))

pub returns-in_err-validate_typed_field-clause-keeps : goal.returns-in_err-validate_typed_field-clause-keeps
returns-in_err-validate_typed_field-clause-keeps c =
    keeps_then (keeps_by c.loop-field.invariant.recorded) c.in_err-validate_typed_field.ensures.keeps

pub loop-field-preserved : goal.loop-field-preserved
loop-field-preserved c =
    let schema = c.args.schema.now in
    let fields = c.args.fields.now.entries in
    let x : NameText × Component FieldDefinition = (c.in-Some.field-0-0.now, c.in-Some.field.now) in
    let done = c.loop-field.invariant.done in
    let stands : Contains fields x =
    stands_next _ done c.loop-field.field-iterator c.next.new.self x c.loop-field.invariant.all c.in-Some.ensures.steps in
    record {
      can_next = tt;
      is_finite = tt;
      done = done ++ x ∷ [];
      all = done_next _ done c.loop-field.field-iterator c.next.new.self x c.loop-field.invariant.all c.in-Some.ensures.steps;
      reported = done_more (λ (entry : NameText × Component FieldDefinition). TypedFieldHolds schema entry.1.node)
          (IsDiagnostic (FieldDefinitionsReport schema fields)) done x _ _ _ c.loop-field.invariant.reported
          (wider (names_typed_field schema fields x stands) c.in_ok-validate_typed_field.ensures.checks);
      recorded = records_done (λ (entry : NameText × Component FieldDefinition). field_types entry.1.node.value.value) done x
          c.loop-field.invariant.recorded c.in_ok-validate_typed_field.ensures.records;
    }

pub returns-clause-checks : goal.returns-clause-checks
returns-clause-checks c =
    let schema = c.args.schema.now in
    let fields = c.args.fields.now.entries in
    let done = c.loop-field.invariant.done in
    let all : fields ≡ done = c.loop-field.invariant.all ∙ ap (λ l. done ++ l) c.in-None.ensures.steps.0 ∙ append-nil done in
    subst (λ l. Reports (All (λ (entry : NameText × Component FieldDefinition). TypedFieldHolds schema entry.1.node) l)
    (IsDiagnostic (FieldDefinitionsReport schema fields)) (entries c.args.diagnostics.now) (entries c.loop-field.diagnostics))
    (sym all) c.loop-field.invariant.reported

pub returns-clause-records : goal.returns-clause-records
returns-clause-records c =
    let fields = c.args.fields.now.entries in
    let done = c.loop-field.invariant.done in
    let all : fields ≡ done = c.loop-field.invariant.all ∙ ap (λ l. done ++ l) c.in-None.ensures.steps.0 ∙ append-nil done in
    subst (λ l. Records c.args.built_in_scalars.now c.loop-field.built_in_scalars
    (flat_map (λ (entry : NameText × Component FieldDefinition). field_types entry.1.node.value.value) l))
    (sym all) c.loop-field.invariant.recorded

pub returns-clause-keeps : goal.returns-clause-keeps
returns-clause-keeps c = keeps_by c.loop-field.invariant.recorded
