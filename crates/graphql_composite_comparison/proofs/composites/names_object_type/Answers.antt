use Rattle.std.proofs.Common.{◌≡◌, Some, refl, rules}
use Rattle.graphql_documents.specs.Schemas.{type_definition}
use Rattle.graphql_documents.specs.declared.documents.schemas.ExtendedType.TheVariants.{Object}
use Rattle.graphql_composite_comparison.proofs.composites.names_object_type.Goals as goal

pub returns-in-Some-Object : goal.returns-in-Some-Object
returns-in-Some-Object c =
    let is : type_definition c.args.schema.now c.args.name.now ≡ Some (Object c.in-Some-Object.field-0-0) = search rules in
    (λ given. (Object c.in-Some-Object.field-0-0, is, refl), λ object. refl)
