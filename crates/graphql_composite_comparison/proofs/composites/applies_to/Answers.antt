use Rattle.std.proofs.Common.{◌≡◌, Some, false, refl, rules}
use Rattle.graphql_nodes.specs.Names.{SameName, same_name}
use Rattle.graphql_documents.specs.Schemas.{type_definition}
use Rattle.graphql_documents.specs.declared.documents.schemas.ExtendedType.TheVariants.{Object}
use Rattle.graphql_specification.specs.CollectFields.{applies_itself}
use Rattle.graphql_composite_comparison.proofs.ApplyLemmas.{subtype_applies}
use Rattle.graphql_composite_comparison.proofs.composites.applies_to.Goals as goal

pub returns-then-eq : goal.returns-then-eq
returns-then-eq c =
    let same : SameName c.args.ty.now c.args.object.now = search rules in
    (λ yes. applies_itself same, λ applies. refl)

pub returns-in-Some-Object : goal.returns-in-Some-Object
returns-in-Some-Object c =
    let is : type_definition c.args.schema.now c.args.object.now ≡ Some (Object c.in-Some-Object.field-0-0) = search rules in
    let other : same_name c.args.ty.now c.args.object.now ≡ false = search rules in
    let both = subtype_applies c.args.schema.now c.args.object.now c.args.ty.now _ is other in
    (λ yes. both.0 (c.is_subtype.ensures.0 yes), λ applies. c.is_subtype.ensures.1 (both.1 applies))
