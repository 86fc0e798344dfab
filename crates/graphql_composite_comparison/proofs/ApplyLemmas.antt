-- What is selected on another type is selected on an object that is a subtype of it. Specification: 6.3.2 Field Collection,
-- DoesFragmentTypeApply.
use Rattle.std.proofs.Common.{◌≡◌, ◌∙◌, false, Option, Some, None, refl, sym, subst}
use Rattle.std.specs.Prelude.{◌↔◌}
use Rattle.std.proofs.lemmas.Option.{same_Some}
use Rattle.graphql_nodes.specs.Names.{NameText, same_name}
use Rattle.graphql_documents.specs.Schemas.{IsListed, IsSubtype, IsSubtypeOf, interfaces_of, type_definition}
use Rattle.graphql_documents.specs.declared.documents.schemas.ExtendedType.{ExtendedType}
use Rattle.graphql_documents.specs.declared.documents.schemas.ExtendedType.TheVariants.{Scalar, Object, Interface, Union, Enum, InputObject}
use Rattle.graphql_documents.specs.declared.documents.schemas.ObjectType.{ObjectType}
use Rattle.graphql_documents.specs.declared.documents.schemas.Schema.{Schema}
use Rattle.graphql_nodes.specs.declared.nodes.Node.{Node}
use Rattle.graphql_specification.specs.CollectFields.{AppliesTo, applies_interface, applies_itself, applies_union}

module _ (schema : Schema) (object ty : NameText) (d : Node ObjectType) (is : type_definition schema object ≡ Some (Object d)) where
  to_apply : (o : Option ExtendedType) → type_definition schema ty ≡ o → IsSubtypeOf schema ty o object → AppliesTo schema object ty
  to_apply (Some (Union u)) at sub = applies_union is at sub
  to_apply (Some (Interface i)) at sub =
      applies_interface is at (subst (λ (t : ExtendedType). IsListed ty (interfaces_of t)) (same_Some sub.definition (Object d) (sym sub.defined ∙ is)) sub.lists)
  to_apply (Some (Scalar t)) at sub = absurd sub
  to_apply (Some (Object t)) at sub = absurd sub
  to_apply (Some (Enum t)) at sub = absurd sub
  to_apply (Some (InputObject t)) at sub = absurd sub
  to_apply None at sub = absurd sub

  from_apply : same_name ty object ≡ false → AppliesTo schema object ty → IsSubtype schema ty object
  from_apply other (applies_itself same) = absurd (let no : ⊥ = cc in no)
  from_apply other (applies_interface at interface listed) =
      subst (λ (o : Option ExtendedType). IsSubtypeOf schema ty o object) (sym interface) (record { definition = Object _; defined = at; lists = listed })
  from_apply other (applies_union at union' listed) = subst (λ (o : Option ExtendedType). IsSubtypeOf schema ty o object) (sym union') listed

  pub subtype_applies : same_name ty object ≡ false → IsSubtype schema ty object ↔ AppliesTo schema object ty
  subtype_applies other = (to_apply (type_definition schema ty) refl, from_apply other)
