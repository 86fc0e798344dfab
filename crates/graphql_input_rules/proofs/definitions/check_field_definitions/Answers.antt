use Rattle.std.proofs.Common.{◌≡◌, subst}
use Rattle.indexmap.specs.IndexMap.{values}
use Rattle.graphql_documents.specs.declared.documents.components.Component.{Component}
use Rattle.graphql_documents.specs.declared.documents.definitions.FieldDefinition.{FieldDefinition}
use Rattle.graphql_documents.specs.declared.documents.values.Value.{Value}
use Rattle.graphql_diagnostics.specs.Reports.{KeepsReports}
use Rattle.graphql_input_rules.specs.InputFields.{FieldReport}
use Rattle.graphql_input_rules.specs.SchemaValues.{FieldDefinitionWrites}
use Rattle.graphql_input_rules.proofs.PlaceLemmas.{Reported, walk_begins, walk_ends, walk_goes_on, walk_refused}
use Rattle.graphql_input_rules.proofs.definitions.check_field_definitions.Goals as goal

abbrev In : Component FieldDefinition → Value → Type 0
In f v = FieldDefinitionWrites f.node.value.value v

pub loop-field-init : goal.loop-field-init
loop-field-init c =
    let all = values c.args.fields.now in
    let same : all ≡ c.into_iter-field-iterator.result = cc in
    record { can_next = tt; is_finite = tt; walk = walk_begins In all c.into_iter-field-iterator.result c.args.reports.now.kept.items same }

pub loop-field-preserved : goal.loop-field-preserved
loop-field-preserved c =
    let all = values c.args.fields.now in
    let mid = c.loop-field.reports.kept.items in
    let new = c.check_field_definition.new.reports.kept.items in
    record {
      can_next = tt;
      is_finite = tt;
      walk = walk_goes_on In all c.loop-field.field-iterator c.next.new.self c.in-Some.field.now c.args.reports.now.kept.items mid new c.in-Some.ensures.steps c.loop-field.invariant.walk
          (subst (λ x. Reported (FieldDefinitionWrites x) mid new) (c.deref.ensures) c.in_ok-check_field_definition.ensures);
    }

pub returns-in_err-check_field_definition : goal.returns-in_err-check_field_definition
returns-in_err-check_field_definition c =
    let all = values c.args.fields.now in
    let mid = c.loop-field.reports.kept.items in
    let new = c.check_field_definition.new.reports.kept.items in
    walk_refused In all c.loop-field.field-iterator c.next.new.self c.in-Some.field.now c.args.reports.now.kept.items mid new c.in-Some.ensures.steps c.loop-field.invariant.walk
    c.from_residual.result c.from_residual.ensures.0
    (subst (λ x. KeepsReports (FieldReport (FieldDefinitionWrites x)) mid new) (c.deref.ensures) c.in_err-check_field_definition.ensures)

pub returns : goal.returns
returns c = walk_ends In (values c.args.fields.now) c.loop-field.field-iterator c.args.reports.now.kept.items c.loop-field.reports.kept.items c.in-None.ensures.steps.0 c.loop-field.invariant.walk
