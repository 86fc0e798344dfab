use Rattle.std.proofs.Common.{◌≡◌, Bor, map, ap, ◌∙◌}
use Rattle.graphql_documents.specs.declared.documents.definitions.InputValueDefinition.{InputValueDefinition}
use Rattle.graphql_nodes.specs.declared.nodes.Node.{Node}
use Rattle.graphql_documents.specs.declared.documents.schemas.InputObjectType.{InputObjectType}
use Rattle.graphql_diagnostics.proofs.ReportLemmas.{checks_words, on_ok}
use Rattle.graphql_field_definitions.proofs.BuiltInScalarLemmas.{keeps_itself, records_as}
use Rattle.graphql_schemas.proofs.TypeLemmas.{input_fields_decide, input_types, names_input_fields}
use Rattle.graphql_schemas.proofs.input_objects.validate_input_fields.Goals as goal

pub returns-in_err-fields-clause-keeps : goal.returns-in_err-fields-clause-keeps
returns-in_err-fields-clause-keeps c = keeps_itself c.args.built_in_scalars.now

pub returns-clause-checks : goal.returns-clause-checks
returns-clause-checks c =
    let d = c.args.input_object.now in
    let are : map (λ (n : Bor (Node InputValueDefinition)). n.now) c.deref-2.result.now ≡ map (λ entry. entry.1.node) d.value.value.fields.entries =
    ap (map (λ (n : Bor (Node InputValueDefinition)). n.now)) c.deref-2.ensures.value ∙ c.in_ok-fields.ensures ∙
    ap (λ (t : InputObjectType). map (λ entry. entry.1.node) t.fields.entries) c.deref.ensures in
    checks_words c.validate_input_value_definitions.result _ _ _ _ _ _ (input_fields_decide c.args.schema.now d) (names_input_fields c.args.schema.now d)
    (rw are at c.validate_input_value_definitions.ensures.checks)

pub returns-clause-records : goal.returns-clause-records
returns-clause-records c =
    let d = c.args.input_object.now in
    let are : map (λ (n : Bor (Node InputValueDefinition)). n.now) c.deref-2.result.now ≡ map (λ entry. entry.1.node) d.value.value.fields.entries =
    ap (map (λ (n : Bor (Node InputValueDefinition)). n.now)) c.deref-2.ensures.value ∙ c.in_ok-fields.ensures ∙
    ap (λ (t : InputObjectType). map (λ entry. entry.1.node) t.fields.entries) c.deref.ensures in
    on_ok c.validate_input_value_definitions.result _ _ (records_as (input_types c.args.schema.now d))
    (rw are at c.validate_input_value_definitions.ensures.records)
