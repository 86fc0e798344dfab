use Rattle.std.proofs.Common.{rules, ◌≡◌, Some, ap, refl, sym, ◌∙◌}
use Rattle.std.specs.Prelude.{IsFalse}
use Rattle.graphql_specification.specs.CollectFields.{applies_itself}
use Rattle.graphql_nodes.specs.Names.{SameName, same_name}
use Rattle.graphql_documents.specs.Schemas.{type_definition}
use Rattle.graphql_documents.specs.declared.documents.schemas.ExtendedType.TheVariants as types
use Rattle.graphql_validation.proofs.CollectionLemmas.{applies_as_subtype}
use Rattle.graphql_validation.proofs.collect.FieldCollection.applies.Goals as goal

pub returns-then-eq : goal.returns-then-eq
returns-then-eq c =
    let same : SameName c.args.ty.now c.args.self.now.object_type.now = search rules in
    (λ yes. applies_itself same, λ applies. refl)

pub returns-in-Some-Object : goal.returns-in-Some-Object
returns-in-Some-Object c =
    let S = c.args.self.now.schema.now in
    let object = c.args.self.now.object_type.now in
    let other : IsFalse (same_name c.args.ty.now object) = search rules in
    let defined : type_definition S object ≡ Some (types.Object c.in-Some-Object.field-0-0) = sym c.in-Some-Object.ensures.value ∙ ap Some c.in-Some-Object.field-0-is in
    let subtype = applies_as_subtype S object c.args.ty.now c.in-Some-Object.field-0-0 defined (λ same. let no' : ⊥ = cc in no') in
    (λ yes. subtype.0 (c.is_subtype.ensures.0 yes), λ applies. c.is_subtype.ensures.1 (subtype.1 applies))
