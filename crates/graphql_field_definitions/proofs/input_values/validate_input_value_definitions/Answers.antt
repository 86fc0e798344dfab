use Rattle.std.proofs.Common.{All, subst, take}
use Rattle.std.proofs.lemmas.List.{take_all}
use Rattle.std.proofs.lemmas.List.Elements.{All-nil}
use Rattle.graphql_diagnostics.specs.Diagnostics.{IsDiagnostic, entries}
use Rattle.graphql_specification.specs.InputValueDefinitions.{InputValuesReport, InputValueDefinitionHolds}
use Rattle.graphql_diagnostics.specs.Reports.{Reports}
use Rattle.graphql_specification.specs.BuiltInScalars.{argument_types}
use Rattle.graphql_diagnostics.proofs.ReportLemmas.{checks-err, done_more, holds, kept_by, kept_then, kept_wider, wider}
use Rattle.graphql_documents.specs.declared.documents.definitions.InputValueDefinition.{InputValueDefinition}
use Rattle.graphql_nodes.specs.declared.nodes.Node.{Node}
use Rattle.graphql_variables.proofs.FirstPlaceLemmas.{next_stands}
use Rattle.graphql_variables.proofs.ReferenceLemmas.{referred, referred_more, referred_next}
use Rattle.graphql_field_definitions.specs.BuiltInScalarUses.{Records}
use Rattle.graphql_field_definitions.proofs.BuiltInScalarLemmas.{keeps_by, keeps_then, records_none, records_push}
use Rattle.graphql_field_definitions.proofs.InputValueLemmas.{names_one, reference_type}
use Rattle.graphql_field_definitions.proofs.input_values.validate_input_value_definitions.Goals as goal

pub loop-input_value-init : goal.loop-input_value-init
loop-input_value-init c = record { reported = holds _ _ _ (All-nil _); recorded = records_none _ }

pub returns-in_err-validate_input_value-clause-checks : goal.returns-in_err-validate_input_value-clause-checks
returns-in_err-validate_input_value-clause-checks c =
    let xs = c.args.input_values.now in
    let x = c.input_value-item.result in
    let next = referred_next xs c.loop-input_value.input_value-index x c.loop-input_value-test.true c.input_value-item.is in
    checks-err _ _ _ _ _ c.from_residual.ensures.0
    (kept_then (kept_by c.loop-input_value.invariant.reported)
    (kept_wider (names_one c.args.schema.now c.args.location c.args.describe.now (referred xs) x.now (next_stands next))
    c.in_err-validate_input_value.ensures.checks))

pub returns-in_err-validate_input_value-clause-keeps : goal.returns-in_err-validate_input_value-clause-keeps
returns-in_err-validate_input_value-clause-keeps c =
    keeps_then (keeps_by c.loop-input_value.invariant.recorded) c.in_err-validate_input_value.ensures.keeps

pub loop-input_value-preserved : goal.loop-input_value-preserved
loop-input_value-preserved c =
    let xs = c.args.input_values.now in
    let i = c.loop-input_value.input_value-index in
    let x = c.input_value-item.result in
    let P = λ (d : Node InputValueDefinition). InputValueDefinitionHolds c.args.schema.now c.args.location d.value.value in
    let Q = IsDiagnostic (InputValuesReport c.args.schema.now c.args.location c.args.describe.now (referred xs)) in
    let more = referred_more xs i x c.loop-input_value-test.true c.input_value-item.is in
    let next = referred_next xs i x c.loop-input_value-test.true c.input_value-item.is in
    record {
      reported = rw more
          (done_more P Q (referred (take i xs)) x.now _ _ _ c.loop-input_value.invariant.reported
          (wider (names_one c.args.schema.now c.args.location c.args.describe.now (referred xs) x.now (next_stands next))
          c.in_ok-validate_input_value.ensures.checks));
      recorded = rw more (records_push reference_type (referred (take i xs)) x.now c.loop-input_value.invariant.recorded c.in_ok-validate_input_value.ensures.records);
    }

pub returns-clause-checks : goal.returns-clause-checks
returns-clause-checks c =
    let xs = c.args.input_values.now in
    subst (λ l. Reports (All (λ d. InputValueDefinitionHolds c.args.schema.now c.args.location d.value.value) (referred l))
    (IsDiagnostic (InputValuesReport c.args.schema.now c.args.location c.args.describe.now (referred xs)))
    (entries c.args.diagnostics.now) (entries c.loop-input_value.diagnostics))
    (take_all c.loop-input_value.input_value-index xs c.loop-input_value-test.false) c.loop-input_value.invariant.reported

pub returns-clause-records : goal.returns-clause-records
returns-clause-records c =
    let xs = c.args.input_values.now in
    subst (λ l. Records c.args.built_in_scalars.now c.loop-input_value.built_in_scalars (argument_types (referred l)))
    (take_all c.loop-input_value.input_value-index xs c.loop-input_value-test.false) c.loop-input_value.invariant.recorded

pub returns-clause-keeps : goal.returns-clause-keeps
returns-clause-keeps c = keeps_by c.loop-input_value.invariant.recorded
