use Rattle.std.proofs.Common.{sym, ap, ◌∙◌}
use Rattle.std.proofs.lemmas.List.{append-nil}
use Rattle.std.specs.Prelude.{flat_map, map}
use Rattle.graphql_specification.specs.DefaultValues.{inputs_of_type}
use Rattle.graphql_documents.specs.declared.documents.schemas.InputObjectType.{InputObjectType}
use Rattle.graphql_documents.specs.declared.documents.schemas.InterfaceType.{InterfaceType}
use Rattle.graphql_documents.specs.declared.documents.schemas.ObjectType.{ObjectType}
use Rattle.graphql_schemas.proofs.DefaultValueLemmas.{same_inputs}
use Rattle.graphql_schemas.proofs.default_values.validate_type.Goals as goal

pub returns-in-Object : goal.returns-in-Object
returns-in-Object c =
    same_inputs c.args.schema.now c.validate_fields.result _ _ _ _
    (ap (λ (d : ObjectType). flat_map (λ entry. entry.1.node.value.value.arguments.items) d.fields.entries) c.deref.ensures ∙ sym (append-nil _) ∙ ap inputs_of_type (sym c.in-Object.is))
    c.validate_fields.ensures

pub returns-in-Interface : goal.returns-in-Interface
returns-in-Interface c =
    same_inputs c.args.schema.now c.validate_fields-in-Interface.result _ _ _ _
    (ap (λ (d : InterfaceType). flat_map (λ entry. entry.1.node.value.value.arguments.items) d.fields.entries) c.deref-in-Interface.ensures ∙ sym (append-nil _) ∙
    ap inputs_of_type (sym c.in-Interface.is))
    c.validate_fields-in-Interface.ensures

pub returns-in-InputObject : goal.returns-in-InputObject
returns-in-InputObject c =
    same_inputs c.args.schema.now c.validate_input_fields.result _ _ _ _
    (ap (λ (d : InputObjectType). map (λ entry. entry.1.node) d.fields.entries) c.deref-in-InputObject.ensures ∙ ap inputs_of_type (sym c.in-InputObject.is))
    c.validate_input_fields.ensures
