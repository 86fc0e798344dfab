use Rattle.std.proofs.Common.{[], ◌∷◌, ◌++◌, sym}
use Rattle.std.proofs.lemmas.List.Elements.{All-nil}
use Rattle.graphql_documents.specs.declared.documents.components.Component.{Component}
use Rattle.graphql_documents.specs.declared.documents.definitions.InputValueDefinition.{InputValueDefinition}
use Rattle.graphql_nodes.specs.Names.{NameText}
use Rattle.graphql_diagnostics.proofs.ReportLemmas.{checks-err, holds}
use Rattle.graphql_documents.proofs.ListLemmas.{done_next}
use Rattle.graphql_schemas.proofs.DefaultValueLemmas.{defaults_all, defaults_more, defaults_refused, mapped, one_kept, one_reports, same_kept, same_reports}
use Rattle.graphql_schemas.proofs.default_values.validate_input_fields.Goals as goal

pub loop-field-init : goal.loop-field-init
loop-field-init c = record { can_next = tt; is_finite = tt; done = []; all = sym c.into_iter-field-iterator.ensures.into_iter_gives.0; checked = holds _ _ _ (All-nil _) }

pub loop-field-preserved : goal.loop-field-preserved
loop-field-preserved c =
    let x : NameText × Component InputValueDefinition = (c.in-Some.field-0-0.now, c.in-Some.field.now) in
    let before = c.loop-field.invariant in
    record {
      can_next = tt;
      is_finite = tt;
      done = before.done ++ x ∷ [];
      all = done_next _ before.done c.loop-field.field-iterator c.next.new.self x before.all c.in-Some.ensures.steps;
      checked = defaults_more c.args.schema.now (λ entry. entry.1.node ∷ []) c.args.fields.now.entries before.done c.loop-field.field-iterator c.next.new.self x _ _ _ before.all c.in-Some.ensures.steps before.checked
          (one_reports c.args.schema.now c.in-Some.field.now.node _ _ c.in_ok-validate_default_value.ensures);
    }

pub returns-in_err-validate_default_value : goal.returns-in_err-validate_default_value
returns-in_err-validate_default_value c =
    let x : NameText × Component InputValueDefinition = (c.in-Some.field-0-0.now, c.in-Some.field.now) in
    let before = c.loop-field.invariant in
    checks-err _ _ _ _ _ c.from_residual.ensures.0
    (same_kept c.args.schema.now _ _ _ _ (mapped c.args.schema.now (λ (entry : NameText × Component InputValueDefinition). entry.1.node) c.args.fields.now.entries)
    (defaults_refused c.args.schema.now (λ entry. entry.1.node ∷ []) c.args.fields.now.entries before.done c.loop-field.field-iterator c.next.new.self x _ _ _ before.all c.in-Some.ensures.steps before.checked
    (one_kept c.args.schema.now c.in-Some.field.now.node _ _ c.in_err-validate_default_value.ensures)))

pub returns : goal.returns
returns c =
    same_reports c.args.schema.now _ _ _ _ (mapped c.args.schema.now (λ (entry : NameText × Component InputValueDefinition). entry.1.node) c.args.fields.now.entries)
    (defaults_all c.args.schema.now (λ entry. entry.1.node ∷ []) c.args.fields.now.entries c.loop-field.invariant.done c.loop-field.field-iterator _ _ c.loop-field.invariant.all c.in-None.ensures.steps.0
    c.loop-field.invariant.checked)
