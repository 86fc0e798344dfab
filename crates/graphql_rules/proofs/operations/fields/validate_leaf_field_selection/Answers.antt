use Rattle.std.proofs.Common.{Some, refl, rules}
use Rattle.graphql_specification.specs.Fields.{is_missing, HasNeededSelection}
use Rattle.graphql_diagnostics.proofs.ReportLemmas.{broken, holds}
use Rattle.graphql_rules.specs.SelectionSteps.{IsUnselected}
use Rattle.graphql_rules.proofs.operations.fields.validate_leaf_field_selection.Goals as goal

pub returns-in_default-clause-checks : goal.returns-in_default-clause-checks
returns-in_default-clause-checks c = holds _ _ _ (search rules)

pub returns-clause-checks : goal.returns-clause-checks
returns-clause-checks c =
    let unselected : IsUnselected (Some c.args.schema.now) c.args.field.now.value.value c.args.field_type.now c.in-Some.type_definition.now =
    search rules in
    broken _ _ _ _ _ c.in_ok-push.ensures.ok
    (λ needed. needed c.in-Some.type_definition.now unselected.is_defined unselected.composite unselected.empty)
    (is_missing (record {
      definition = c.in-Some.type_definition.now;
      is_defined = unselected.is_defined;
      composite = unselected.composite;
      empty = unselected.empty;
      coordinate_is = search rules;
      output_is = search rules;
      describe_is = search rules;
      at_is = refl;
    }))

pub returns-in_default-clause-answer : goal.returns-in_default-clause-answer
returns-in_default-clause-answer c =
    let needed : HasNeededSelection (Some c.args.schema.now) c.args.field.now.value.value c.args.field_type.now = search rules in
    (λ _. needed, λ _. refl)

pub returns-clause-answer : goal.returns-clause-answer
returns-clause-answer c =
    let unselected : IsUnselected (Some c.args.schema.now) c.args.field.now.value.value c.args.field_type.now c.in-Some.type_definition.now =
    search rules in (
      λ silent. absurd (let is_false : ⊥ = cc in is_false),
      λ needed. absurd (needed c.in-Some.type_definition.now unselected.is_defined unselected.composite unselected.empty),
    )
