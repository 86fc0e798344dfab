use Rattle.std.proofs.Common.{◌≡◌, true, Some, sym, ◌∙◌, subst, rules}
use Rattle.std.proofs.lemmas.Option.{same_Some}
use Rattle.graphql_documents.specs.Schemas.{is_output_type, type_definition}
use Rattle.graphql_documents.specs.TypeReferences.{inner_named_type}
use Rattle.graphql_documents.specs.declared.documents.schemas.ExtendedType.{ExtendedType}
use Rattle.graphql_frontend.proofs.meta_fields.has_type_of.Goals as goal

pub returns-in-Some : goal.returns-in-Some
returns-in-Some c =
    let d = c.in-Some.definition.now in
    let found : type_definition c.args.schema.now (inner_named_type c.args.field.now.node.value.value.ty) ≡ Some d = search rules in (
      λ yes. (d, found, sym c.is_output_type.ensures ∙ yes),
      λ known. c.is_output_type.ensures ∙ subst (λ (t : ExtendedType). is_output_type t ≡ true) (same_Some known.0 d (sym known.1 ∙ found)) known.2,
    )
