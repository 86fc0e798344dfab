-- What is found under a name is found under each name that is the same; and what a schema defines stands under its own name.
use Rattle.std.proofs.Common.{◌≡◌, ◌∙◌, List, ℕ, Option, None, Ok, Err, Some, ap, ap₂, refl, subst}
use Rattle.std.specs.Prelude.{Any, IsTrue}
use Rattle.std.specs.Option.{option_map_or}
use Rattle.std.specs.Str.{bytes_eq}
use Rattle.indexmap.specs.IndexMap.{get_by}
use Rattle.graphql_nodes.specs.Names.{NameText, SameName, same_name}
use Rattle.graphql_nodes.proofs.NameLemmas.{same_name_back, same_name_then, same_text}
use Rattle.graphql_documents.specs.Built.{StandsUnderOwnNames, TypeStandsUnderItsName}
use Rattle.graphql_documents.specs.Directives.{directive_definition}
use Rattle.graphql_documents.specs.Schemas.{Implements, IsListed, IsSubtype, IsSubtypeOf, first_of, meta_field, own_field, own_name, type_definition, type_field}
use Rattle.graphql_documents.specs.declared.documents.components.Component.{Component}
use Rattle.graphql_documents.specs.declared.documents.components.ComponentName.{ComponentName}
use Rattle.graphql_documents.specs.declared.documents.definitions.FieldDefinition.{FieldDefinition}
use Rattle.graphql_documents.specs.declared.documents.schemas.FieldLookupError.TheVariants.{NoSuchField, NoSuchType}
use Rattle.graphql_documents.specs.declared.documents.schemas.ExtendedType.{ExtendedType}
use Rattle.graphql_documents.specs.declared.documents.schemas.ExtendedType.TheVariants.{Scalar, Object, Interface, Union, Enum, InputObject}
use Rattle.graphql_documents.specs.declared.documents.schemas.Schema.{Schema}
use Rattle.graphql_specification.specs.CollectFields.{AppliesTo, applies_interface, applies_itself, applies_union}
use Rattle.graphql_change_kinds.proofs.FindsLemmas.{looked_up}

pub one_type : (schema : Schema) (a b : NameText) → SameName a b → type_definition schema a ≡ type_definition schema b
one_type schema a b same = ap (λ (text : List ℕ). get_by (λ (key : NameText). bytes_eq text key.text) schema.types) (same_text a b same)

pub one_directive : (schema : Schema) (a b : NameText) → SameName a b → directive_definition schema a ≡ directive_definition schema b
one_directive schema a b same = ap (λ (text : List ℕ). get_by (λ (key : NameText). bytes_eq text key.text) schema.directive_definitions) (same_text a b same)

pub one_field : (schema : Schema) (field a b : NameText) → SameName a b → type_field schema a field ≡ type_field schema b field
one_field schema field a b same =
    ap (λ (text : List ℕ). type_field schema (record { text = text; location = a.location }) field) (same_text a b same)

own_same : (d : ExtendedType) (a b : NameText) → SameName a b → own_field d a ≡ own_field d b
own_same (Object d) a b same = ap (λ (text : List ℕ). get_by (λ (key : NameText). bytes_eq text key.text) d.value.value.fields) (same_text a b same)
own_same (Interface d) a b same = ap (λ (text : List ℕ). get_by (λ (key : NameText). bytes_eq text key.text) d.value.value.fields) (same_text a b same)
own_same (Scalar d) a b same = refl
own_same (Union d) a b same = refl
own_same (Enum d) a b same = refl
own_same (InputObject d) a b same = refl

meta_same : (schema : Schema) (ty : NameText) (d : ExtendedType) (a b : NameText) → SameName a b → meta_field schema ty d a ≡ meta_field schema ty d b
meta_same schema ty d a b same = ap (λ (text : List ℕ). meta_field schema ty d (record { text = text; location = None })) (same_text a b same)

pub one_field_name : (schema : Schema) (ty a b : NameText) → SameName a b → type_field schema ty a ≡ type_field schema ty b
one_field_name schema ty a b same = by (type_definition schema ty) where
  by : (o : Option ExtendedType) →
      option_map_or (λ (d : ExtendedType). option_map_or Ok (first_of (own_field d a) (meta_field schema ty d a)) (Err NoSuchField)) o (Err NoSuchType) ≡
      option_map_or (λ (d : ExtendedType). option_map_or Ok (first_of (own_field d b) (meta_field schema ty d b)) (Err NoSuchField)) o (Err NoSuchType)
  by None = refl
  by (Some d) =
      ap₂ (λ (own meta : Option (Component FieldDefinition)). option_map_or Ok (first_of own meta) (Err NoSuchField)) (own_same d a b same) (meta_same schema ty d a b same)

pub listed_as : (names : List ComponentName) (a b : NameText) → SameName a b → IsListed a names → IsListed b names
listed_as names a b same listed = subst (λ (text : List ℕ). Any (λ (c : ComponentName). IsTrue (bytes_eq c.name.text text)) names) (same_text a b same) listed

-- the definition under a name stands under its own name
pub own_name_is : (schema : Schema) → StandsUnderOwnNames schema → (name : NameText) (d : ExtendedType) → type_definition schema name ≡ Some d → SameName name (own_name d)
own_name_is schema names name d is =
    let here = looked_up (same_name name) (λ (entry : NameText × ExtendedType). TypeStandsUnderItsName entry.0 entry.1) schema.types.entries d is names.types in
    same_name_then name here.0 (own_name d) here.1 here.2.itself

-- what is selected on a type is selected on the object, whichever of two same names the type has
pub applies_as : (schema : Schema) (root a b : NameText) → SameName a b → AppliesTo schema root a → AppliesTo schema root b
applies_as schema root a b same (applies_itself is) = applies_itself (same_name_then b a root (same_name_back a b same) is)
applies_as schema root a b same (applies_interface object interface listed) =
    applies_interface object (one_type schema b a (same_name_back a b same) ∙ interface) (listed_as _ a b same listed)
applies_as schema root a b same (applies_union object union' listed) =
    applies_union object (one_type schema b a (same_name_back a b same) ∙ union') listed

-- the same of a subtype
implements_as : (schema : Schema) (a b narrow other : NameText) → SameName a b → SameName narrow other → Implements schema narrow a → Implements schema other b
implements_as schema a b narrow other same too is = record {
  definition = is.definition;
  defined = one_type schema other narrow (same_name_back narrow other too) ∙ is.defined;
  lists = listed_as _ a b same is.lists;
}

subtype_of_as : (schema : Schema) (a b narrow other : NameText) → SameName a b → SameName narrow other → (d : ExtendedType) →
    IsSubtypeOf schema a (Some d) narrow → IsSubtypeOf schema b (Some d) other
subtype_of_as schema a b narrow other same too (Union d) is = listed_as d.value.value.members.keys narrow other too is
subtype_of_as schema a b narrow other same too (Interface d) is = implements_as schema a b narrow other same too is
subtype_of_as schema a b narrow other same too (Scalar d) is = absurd is
subtype_of_as schema a b narrow other same too (Object d) is = absurd is
subtype_of_as schema a b narrow other same too (Enum d) is = absurd is
subtype_of_as schema a b narrow other same too (InputObject d) is = absurd is

-- a subtype of a type that is defined, by that definition
pub subtype_at : (schema : Schema) (a b narrow other : NameText) → SameName a b → SameName narrow other → (d : ExtendedType) → type_definition schema b ≡ Some d →
    IsSubtype schema a narrow → IsSubtypeOf schema b (Some d) other
subtype_at schema a b narrow other same too d is sub =
    let at : type_definition schema a ≡ Some d = one_type schema a b same ∙ is in
    subtype_of_as schema a b narrow other same too d (subst (λ o. IsSubtypeOf schema a o narrow) at sub)
