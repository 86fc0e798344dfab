use Rattle.std.proofs.Common.{◌≡◌, ◌∙◌, ap, subst}
use Rattle.indexmap.specs.IndexMap.{values}
use Rattle.graphql_nodes.specs.declared.nodes.Node.{Node}
use Rattle.graphql_documents.specs.declared.documents.definitions.DirectiveDefinition.{DirectiveDefinition}
use Rattle.graphql_documents.specs.declared.documents.values.Value.{Value}
use Rattle.graphql_diagnostics.specs.Reports.{KeepsReports}
use Rattle.graphql_input_rules.specs.InputFields.{FieldReport}
use Rattle.graphql_input_rules.specs.SchemaValues.{ArgumentsWrite}
use Rattle.graphql_input_rules.proofs.PlaceLemmas.{Reported, walk_begins, walk_ends, walk_goes_on, walk_refused}
use Rattle.graphql_input_rules.proofs.schema_input_fields.check_directive_definitions.Goals as goal

abbrev In : Node DirectiveDefinition → Value → Type 0
In d v = ArgumentsWrite d.value.value.arguments.items v

pub loop-definition-init : goal.loop-definition-init
loop-definition-init c =
    let all = values c.args.definitions.now in
    let same : all ≡ c.into_iter-definition-iterator.result = cc in
    record { can_next = tt; is_finite = tt; walk = walk_begins In all c.into_iter-definition-iterator.result c.args.reports.now.kept.items same }

pub loop-definition-preserved : goal.loop-definition-preserved
loop-definition-preserved c =
    let all = values c.args.definitions.now in
    let mid = c.loop-definition.reports.kept.items in
    let new = c.check_argument_definitions.new.reports.kept.items in
    record {
      can_next = tt;
      is_finite = tt;
      walk = walk_goes_on In all c.loop-definition.definition-iterator c.next.new.self c.in-Some.definition.now c.args.reports.now.kept.items mid new c.in-Some.ensures.steps c.loop-definition.invariant.walk
          (subst (λ x. Reported (ArgumentsWrite x) mid new) (c.deref-in-loop-definition.ensures.value ∙ ap (λ (d : DirectiveDefinition). d.arguments.items) c.deref.ensures) c.in_ok-check_argument_definitions.ensures);
    }

pub returns-in_err-check_argument_definitions : goal.returns-in_err-check_argument_definitions
returns-in_err-check_argument_definitions c =
    let all = values c.args.definitions.now in
    let mid = c.loop-definition.reports.kept.items in
    let new = c.check_argument_definitions.new.reports.kept.items in
    walk_refused In all c.loop-definition.definition-iterator c.next.new.self c.in-Some.definition.now c.args.reports.now.kept.items mid new c.in-Some.ensures.steps c.loop-definition.invariant.walk
    c.from_residual.result c.from_residual.ensures.0
    (subst (λ x. KeepsReports (FieldReport (ArgumentsWrite x)) mid new) (c.deref-in-loop-definition.ensures.value ∙ ap (λ (d : DirectiveDefinition). d.arguments.items) c.deref.ensures) c.in_err-check_argument_definitions.ensures)

pub returns : goal.returns
returns c = walk_ends In (values c.args.definitions.now) c.loop-definition.definition-iterator c.args.reports.now.kept.items c.loop-definition.reports.kept.items c.in-None.ensures.steps.0 c.loop-definition.invariant.walk
