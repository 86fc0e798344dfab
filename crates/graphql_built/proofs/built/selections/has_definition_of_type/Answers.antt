use Rattle.std.proofs.Common.{rules, ◌≡◌, Ok}
use Rattle.graphql_built.proofs.BuiltLemmas.{definition_found}
use Rattle.graphql_documents.specs.Schemas.{type_field}
use Rattle.graphql_built.proofs.built.selections.has_definition_of_type.Goals as goal

pub returns-in-Ok : goal.returns-in-Ok
returns-in-Ok c =
    let found : type_field c.args.schema.now c.args.parent.now c.args.field.now.name ≡ Ok c.in-Ok.definition.now = search rules in
    definition_found c.args.schema.now c.args.parent.now c.args.field.now c.in-Ok.definition.now c.eq.result found c.eq.ensures
