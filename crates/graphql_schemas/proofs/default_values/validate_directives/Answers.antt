use Rattle.std.proofs.Common.{[], ◌∷◌, ◌++◌, sym, ap, ◌∙◌}
use Rattle.std.proofs.lemmas.List.Elements.{All-nil}
use Rattle.graphql_documents.specs.declared.documents.definitions.DirectiveDefinition.{DirectiveDefinition}
use Rattle.graphql_nodes.specs.declared.nodes.Node.{Node}
use Rattle.graphql_nodes.specs.Names.{NameText}
use Rattle.graphql_diagnostics.proofs.ReportLemmas.{checks-err, holds}
use Rattle.graphql_documents.proofs.ListLemmas.{done_next}
use Rattle.graphql_schemas.proofs.DefaultValueLemmas.{defaults_all, defaults_more, defaults_refused, same_kept, same_reports}
use Rattle.graphql_schemas.proofs.default_values.validate_directives.Goals as goal

pub loop-definition-init : goal.loop-definition-init
loop-definition-init c = record { can_next = tt; is_finite = tt; done = []; all = sym c.into_iter-definition-iterator.ensures.into_iter_gives.0; checked = holds _ _ _ (All-nil _) }

pub loop-definition-preserved : goal.loop-definition-preserved
loop-definition-preserved c =
    let x : NameText × Node DirectiveDefinition = (c.in-Some.field-0-0.now, c.in-Some.definition.now) in
    let before = c.loop-definition.invariant in
    record {
      can_next = tt;
      is_finite = tt;
      done = before.done ++ x ∷ [];
      all = done_next _ before.done c.loop-definition.definition-iterator c.next.new.self x before.all c.in-Some.ensures.steps;
      checked = defaults_more c.args.schema.now (λ entry. entry.1.value.value.arguments.items) c.args.schema.now.directive_definitions.entries before.done c.loop-definition.definition-iterator c.next.new.self x _ _ _ before.all c.in-Some.ensures.steps before.checked
          (same_reports c.args.schema.now _ _ _ _ (c.deref-in-loop-definition.ensures.value ∙ ap (λ (d : DirectiveDefinition). d.arguments.items) c.deref.ensures) c.in_ok-validate_arguments.ensures);
    }

pub returns-in_err-validate_arguments : goal.returns-in_err-validate_arguments
returns-in_err-validate_arguments c =
    let x : NameText × Node DirectiveDefinition = (c.in-Some.field-0-0.now, c.in-Some.definition.now) in
    let before = c.loop-definition.invariant in
    checks-err _ _ _ _ _ c.from_residual.ensures.0
    (defaults_refused c.args.schema.now (λ entry. entry.1.value.value.arguments.items) c.args.schema.now.directive_definitions.entries before.done c.loop-definition.definition-iterator c.next.new.self x _ _ _ before.all c.in-Some.ensures.steps before.checked
    (same_kept c.args.schema.now _ _ _ _ (c.deref-in-loop-definition.ensures.value ∙ ap (λ (d : DirectiveDefinition). d.arguments.items) c.deref.ensures) c.in_err-validate_arguments.ensures))

pub returns : goal.returns
returns c =
    defaults_all c.args.schema.now (λ entry. entry.1.value.value.arguments.items) c.args.schema.now.directive_definitions.entries c.loop-definition.invariant.done c.loop-definition.definition-iterator _ _ c.loop-definition.invariant.all c.in-None.ensures.steps.0
    c.loop-definition.invariant.checked
