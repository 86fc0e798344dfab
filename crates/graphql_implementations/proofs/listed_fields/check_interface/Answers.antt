use Rattle.std.proofs.Common.{◌≡◌, ◌++◌, [], ◌∷◌, Some, refl, sym}
use Rattle.std.proofs.lemmas.List.Elements.{All-nil}
use Rattle.graphql_diagnostics.specs.Diagnostics.{IsDiagnostic}
use Rattle.graphql_documents.specs.Schemas.{interface_named}
use Rattle.graphql_diagnostics.proofs.ReportLemmas.{checks-err, done_more, holds, kept_by, kept_then}
use Rattle.graphql_documents.proofs.ListLemmas.{done_next}
use Rattle.graphql_implementations.specs.ImplementationSteps.{FieldEntry, FieldRuleHolds, FieldRuleReport}
use Rattle.graphql_implementations.proofs.ImplementationLemmas.{all_fields, next_field}
use Rattle.graphql_implementations.proofs.listed_fields.check_interface.Goals as goal

pub loop-name-init : goal.loop-name-init
loop-name-init c = record {
  can_next = tt;
  is_finite = tt;
  done = [];
  all = refl;
  checked = holds _ _ _ (All-nil (FieldRuleHolds c.args.implementer.now c.args.rule));
}

pub check_interface_field-requires : goal.check_interface_field-requires
check_interface_field-requires c =
    let d = c.in-Some.interface.now in
    let found : interface_named c.args.implementer.now.schema.now c.args.listed.now.name ≡ Some d = sym c.in-Some.ensures in
    let whole : d.value.value.fields.entries ≡ c.into_iter-name-iterator.result = cc in
    next_field c.args.implementer.now.schema.now c.args.listed.now d found c.into_iter-name-iterator.result whole
    c.loop-name.invariant.done c.loop-name.name-iterator c.loop-name.invariant.all
    c.args.implementer.now.interfaces.now.keys c.next.new.self (c.in-Some-2.name.now, c.in-Some-2.wanted.now) c.requires c.in-Some-2.ensures.steps

pub returns-in_err-check_interface_field : goal.returns-in_err-check_interface_field
returns-in_err-check_interface_field c =
    checks-err _ _ _ _ _ c.from_residual.ensures.0 (kept_then (kept_by c.loop-name.invariant.checked) (c.in_err-check_interface_field.ensures))

pub loop-name-preserved : goal.loop-name-preserved
loop-name-preserved c =
    let done = c.loop-name.invariant.done in
    let x : FieldEntry = (c.in-Some-2.name.now, c.in-Some-2.wanted.now) in
    record {
      can_next = tt;
      is_finite = tt;
      done = done ++ x ∷ [];
      all = done_next _ done c.loop-name.name-iterator c.next.new.self x c.loop-name.invariant.all c.in-Some-2.ensures.steps;
      checked = done_more (FieldRuleHolds c.args.implementer.now c.args.rule) (IsDiagnostic (FieldRuleReport c.args.implementer.now c.args.rule)) done x _ _ _ c.loop-name.invariant.checked (c.in_ok-check_interface_field.ensures);
    }

pub returns : goal.returns
returns c =
    let d = c.in-Some.interface.now in
    let found : interface_named c.args.implementer.now.schema.now c.args.listed.now.name ≡ Some d = sym c.in-Some.ensures in
    let whole : d.value.value.fields.entries ≡ c.into_iter-name-iterator.result = cc in
    all_fields c.args.implementer.now.schema.now c.args.listed.now d found c.into_iter-name-iterator.result whole
    c.loop-name.invariant.done c.loop-name.name-iterator c.loop-name.invariant.all
    (FieldRuleHolds c.args.implementer.now c.args.rule) (IsDiagnostic (FieldRuleReport c.args.implementer.now c.args.rule)) _ _ c.in-None.ensures.steps.0 c.loop-name.invariant.checked
