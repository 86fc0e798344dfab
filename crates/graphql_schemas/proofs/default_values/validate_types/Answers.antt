use Rattle.std.proofs.Common.{[], ◌∷◌, ◌++◌, sym}
use Rattle.std.proofs.lemmas.List.Elements.{All-nil}
use Rattle.graphql_specification.specs.DefaultValues.{inputs_of_type}
use Rattle.graphql_documents.specs.declared.documents.schemas.ExtendedType.{ExtendedType}
use Rattle.graphql_nodes.specs.Names.{NameText}
use Rattle.graphql_diagnostics.proofs.ReportLemmas.{checks-err, holds}
use Rattle.graphql_documents.proofs.ListLemmas.{done_next}
use Rattle.graphql_schemas.proofs.DefaultValueLemmas.{defaults_all, defaults_more, defaults_refused}
use Rattle.graphql_schemas.proofs.default_values.validate_types.Goals as goal

pub loop-definition-init : goal.loop-definition-init
loop-definition-init c = record { can_next = tt; is_finite = tt; done = []; all = sym c.into_iter-definition-iterator.ensures.into_iter_gives.0; checked = holds _ _ _ (All-nil _) }

pub loop-definition-preserved : goal.loop-definition-preserved
loop-definition-preserved c =
    let x : NameText × ExtendedType = (c.in-Some.field-0-0.now, c.in-Some.definition.now) in
    let before = c.loop-definition.invariant in
    record {
      can_next = tt;
      is_finite = tt;
      done = before.done ++ x ∷ [];
      all = done_next _ before.done c.loop-definition.definition-iterator c.next.new.self x before.all c.in-Some.ensures.steps;
      checked = defaults_more c.args.schema.now (λ entry. inputs_of_type entry.1) c.args.schema.now.types.entries before.done c.loop-definition.definition-iterator c.next.new.self x _ _ _ before.all c.in-Some.ensures.steps before.checked
          c.in_ok-validate_type.ensures;
    }

pub returns-in_err-validate_type : goal.returns-in_err-validate_type
returns-in_err-validate_type c =
    let x : NameText × ExtendedType = (c.in-Some.field-0-0.now, c.in-Some.definition.now) in
    let before = c.loop-definition.invariant in
    checks-err _ _ _ _ _ c.from_residual.ensures.0
    (defaults_refused c.args.schema.now (λ entry. inputs_of_type entry.1) c.args.schema.now.types.entries before.done c.loop-definition.definition-iterator c.next.new.self x _ _ _ before.all c.in-Some.ensures.steps before.checked
    c.in_err-validate_type.ensures)

pub returns : goal.returns
returns c =
    defaults_all c.args.schema.now (λ entry. inputs_of_type entry.1) c.args.schema.now.types.entries c.loop-definition.invariant.done c.loop-definition.definition-iterator _ _ c.loop-definition.invariant.all c.in-None.ensures.steps.0
    c.loop-definition.invariant.checked
