use Rattle.std.proofs.Common.{rules, ◌≡◌, ◌∙◌, ap}
use Rattle.graphql_built.proofs.BuiltLemmas.{set_found}
use Rattle.graphql_nodes.specs.Names.{SameName}
use Rattle.graphql_documents.specs.TypeReferences.{inner_named_type}
use Rattle.graphql_documents.specs.declared.documents.definitions.FieldDefinition.{FieldDefinition}
use Rattle.graphql_built.proofs.built.selections.has_set_of_output_type.Goals as goal

pub returns-then-eq : goal.returns-then-eq
returns-then-eq c =
    let named : c.inner_named_type-type_name.result.now ≡ inner_named_type c.args.field.now.definition.value.value.ty =
    c.inner_named_type-type_name.ensures ∙ ap (λ (d : FieldDefinition). inner_named_type d.ty) c.deref.ensures in
    let same : SameName c.args.field.now.selection_set.ty (inner_named_type c.args.field.now.definition.value.value.ty) = search rules in
    set_found c.args.schema.now c.args.field.now _ _ named same c.names_output_type.ensures
