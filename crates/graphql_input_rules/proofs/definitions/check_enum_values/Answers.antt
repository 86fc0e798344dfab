use Rattle.std.proofs.Common.{◌≡◌, ◌∙◌, ap, subst}
use Rattle.indexmap.specs.IndexMap.{values}
use Rattle.graphql_documents.specs.declared.documents.components.Component.{Component}
use Rattle.graphql_documents.specs.declared.documents.definitions.EnumValueDefinition.{EnumValueDefinition}
use Rattle.graphql_documents.specs.declared.documents.values.Value.{Value}
use Rattle.graphql_diagnostics.specs.Reports.{KeepsReports}
use Rattle.graphql_input_rules.specs.InputFields.{FieldReport}
use Rattle.graphql_input_rules.specs.ValuesWritten.{InDirectives}
use Rattle.graphql_input_rules.proofs.PlaceLemmas.{Reported, walk_begins, walk_ends, walk_goes_on, walk_refused}
use Rattle.graphql_input_rules.proofs.definitions.check_enum_values.Goals as goal

abbrev In : Component EnumValueDefinition → Value → Type 0
In e v = InDirectives e.node.value.value.directives.items v

pub loop-enum_value-init : goal.loop-enum_value-init
loop-enum_value-init c =
    let all = values c.args.enum_values.now in
    let same : all ≡ c.into_iter-enum_value-iterator.result = cc in
    record { can_next = tt; is_finite = tt; walk = walk_begins In all c.into_iter-enum_value-iterator.result c.args.reports.now.kept.items same }

pub loop-enum_value-preserved : goal.loop-enum_value-preserved
loop-enum_value-preserved c =
    let all = values c.args.enum_values.now in
    let mid = c.loop-enum_value.reports.kept.items in
    let new = c.check_directives.new.reports.kept.items in
    record {
      can_next = tt;
      is_finite = tt;
      walk = walk_goes_on In all c.loop-enum_value.enum_value-iterator c.next.new.self c.in-Some.enum_value.now c.args.reports.now.kept.items mid new c.in-Some.ensures.steps c.loop-enum_value.invariant.walk
          (subst (λ x. Reported (InDirectives x) mid new) (c.deref-in-loop-enum_value.ensures.value ∙ ap (λ (e : EnumValueDefinition). e.directives.items) c.deref.ensures) c.in_ok-check_directives.ensures);
    }

pub returns-in_err-check_directives : goal.returns-in_err-check_directives
returns-in_err-check_directives c =
    let all = values c.args.enum_values.now in
    let mid = c.loop-enum_value.reports.kept.items in
    let new = c.check_directives.new.reports.kept.items in
    walk_refused In all c.loop-enum_value.enum_value-iterator c.next.new.self c.in-Some.enum_value.now c.args.reports.now.kept.items mid new c.in-Some.ensures.steps c.loop-enum_value.invariant.walk
    c.from_residual.result c.from_residual.ensures.0
    (subst (λ x. KeepsReports (FieldReport (InDirectives x)) mid new) (c.deref-in-loop-enum_value.ensures.value ∙ ap (λ (e : EnumValueDefinition). e.directives.items) c.deref.ensures) c.in_err-check_directives.ensures)

pub returns : goal.returns
returns c = walk_ends In (values c.args.enum_values.now) c.loop-enum_value.enum_value-iterator c.args.reports.now.kept.items c.loop-enum_value.reports.kept.items c.in-None.ensures.steps.0 c.loop-enum_value.invariant.walk
