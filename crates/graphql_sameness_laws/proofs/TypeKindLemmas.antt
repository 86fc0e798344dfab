-- Types that are the same are of one kind, and have the same names, interfaces and fields. Specification: 3.4 Types.
use Rattle.std.proofs.Common.{◌≡◌, refl, ap}
use Rattle.graphql_nodes.specs.Names.{NameText, is_built_in_location, same_name}
use Rattle.graphql_documents.specs.Contents.{SameIfAny}
use Rattle.graphql_documents.specs.Schemas.{as_input_object, as_interface, fields_of, input_fields_of, interfaces_of, is_built_in, is_composite, is_input_type, is_interface_type, is_object_type, is_output_type, location_of, own_field, own_name}
use Rattle.graphql_documents.specs.declared.documents.schemas.ExtendedType.{ExtendedType}
use Rattle.graphql_documents.specs.declared.documents.schemas.ExtendedType.TheVariants.{Scalar, Object, Interface, Union, Enum, InputObject}
use Rattle.graphql_document_building.specs.SameLeaves.{SameField, SameInputValue}
use Rattle.graphql_building_laws.specs.SameSchemas.{SameComponent, SameEntries, SameInputObject, SameInterface, SameType}
use Rattle.graphql_sameness_laws.proofs.ZipLemmas.{zip_lookup}

pub both_composite : (x y : ExtendedType) → SameType x y → is_composite x ≡ is_composite y
both_composite (Scalar a) (Scalar b) same = refl
both_composite (Object a) (Object b) same = refl
both_composite (Interface a) (Interface b) same = refl
both_composite (Union a) (Union b) same = refl
both_composite (Enum a) (Enum b) same = refl
both_composite (InputObject a) (InputObject b) same = refl
both_composite _ _ same = absurd same

pub both_input_type : (x y : ExtendedType) → SameType x y → is_input_type x ≡ is_input_type y
both_input_type (Scalar a) (Scalar b) same = refl
both_input_type (Object a) (Object b) same = refl
both_input_type (Interface a) (Interface b) same = refl
both_input_type (Union a) (Union b) same = refl
both_input_type (Enum a) (Enum b) same = refl
both_input_type (InputObject a) (InputObject b) same = refl
both_input_type _ _ same = absurd same

pub both_output_type : (x y : ExtendedType) → SameType x y → is_output_type x ≡ is_output_type y
both_output_type (Scalar a) (Scalar b) same = refl
both_output_type (Object a) (Object b) same = refl
both_output_type (Interface a) (Interface b) same = refl
both_output_type (Union a) (Union b) same = refl
both_output_type (Enum a) (Enum b) same = refl
both_output_type (InputObject a) (InputObject b) same = refl
both_output_type _ _ same = absurd same

pub both_object_type : (x y : ExtendedType) → SameType x y → is_object_type x ≡ is_object_type y
both_object_type (Scalar a) (Scalar b) same = refl
both_object_type (Object a) (Object b) same = refl
both_object_type (Interface a) (Interface b) same = refl
both_object_type (Union a) (Union b) same = refl
both_object_type (Enum a) (Enum b) same = refl
both_object_type (InputObject a) (InputObject b) same = refl
both_object_type _ _ same = absurd same

pub both_interface_type : (x y : ExtendedType) → SameType x y → is_interface_type x ≡ is_interface_type y
both_interface_type (Scalar a) (Scalar b) same = refl
both_interface_type (Object a) (Object b) same = refl
both_interface_type (Interface a) (Interface b) same = refl
both_interface_type (Union a) (Union b) same = refl
both_interface_type (Enum a) (Enum b) same = refl
both_interface_type (InputObject a) (InputObject b) same = refl
both_interface_type _ _ same = absurd same

pub one_own_name : (x y : ExtendedType) → SameType x y → own_name x ≡ own_name y
one_own_name (Scalar a) (Scalar b) same = same.name
one_own_name (Object a) (Object b) same = same.name
one_own_name (Interface a) (Interface b) same = same.name
one_own_name (Union a) (Union b) same = same.name
one_own_name (Enum a) (Enum b) same = same.name
one_own_name (InputObject a) (InputObject b) same = same.name
one_own_name _ _ same = absurd same

pub one_location : (x y : ExtendedType) → SameType x y → location_of x ≡ location_of y
one_location (Scalar a) (Scalar b) same = same.location
one_location (Object a) (Object b) same = same.location
one_location (Interface a) (Interface b) same = same.location
one_location (Union a) (Union b) same = same.location
one_location (Enum a) (Enum b) same = same.location
one_location (InputObject a) (InputObject b) same = same.location
one_location _ _ same = absurd same

pub one_list : (x y : ExtendedType) → SameType x y → interfaces_of x ≡ interfaces_of y
one_list (Scalar a) (Scalar b) same = refl
one_list (Object a) (Object b) same = same.implements_interfaces
one_list (Interface a) (Interface b) same = same.implements_interfaces
one_list (Union a) (Union b) same = refl
one_list (Enum a) (Enum b) same = refl
one_list (InputObject a) (InputObject b) same = refl
one_list _ _ same = absurd same

pub fields_alike : (x y : ExtendedType) → SameType x y → SameEntries SameField (fields_of x) (fields_of y)
fields_alike (Scalar a) (Scalar b) same = tt
fields_alike (Object a) (Object b) same = same.fields
fields_alike (Interface a) (Interface b) same = same.fields
fields_alike (Union a) (Union b) same = tt
fields_alike (Enum a) (Enum b) same = tt
fields_alike (InputObject a) (InputObject b) same = tt
fields_alike _ _ same = absurd same

pub input_fields_alike : (x y : ExtendedType) → SameType x y → SameEntries SameInputValue (input_fields_of x) (input_fields_of y)
input_fields_alike (Scalar a) (Scalar b) same = tt
input_fields_alike (Object a) (Object b) same = tt
input_fields_alike (Interface a) (Interface b) same = tt
input_fields_alike (Union a) (Union b) same = tt
input_fields_alike (Enum a) (Enum b) same = tt
input_fields_alike (InputObject a) (InputObject b) same = same.fields
input_fields_alike _ _ same = absurd same

pub as_interface_alike : (x y : ExtendedType) → SameType x y → SameIfAny SameInterface (as_interface x) (as_interface y)
as_interface_alike (Scalar a) (Scalar b) same = tt
as_interface_alike (Object a) (Object b) same = tt
as_interface_alike (Interface a) (Interface b) same = same
as_interface_alike (Union a) (Union b) same = tt
as_interface_alike (Enum a) (Enum b) same = tt
as_interface_alike (InputObject a) (InputObject b) same = tt
as_interface_alike _ _ same = absurd same

pub as_input_object_alike : (x y : ExtendedType) → SameType x y → SameIfAny SameInputObject (as_input_object x) (as_input_object y)
as_input_object_alike (Scalar a) (Scalar b) same = tt
as_input_object_alike (Object a) (Object b) same = tt
as_input_object_alike (Interface a) (Interface b) same = tt
as_input_object_alike (Union a) (Union b) same = tt
as_input_object_alike (Enum a) (Enum b) same = tt
as_input_object_alike (InputObject a) (InputObject b) same = same
as_input_object_alike _ _ same = absurd same

pub own_field_alike : (x y : ExtendedType) (name : NameText) → SameType x y → SameIfAny (SameComponent SameField) (own_field x name) (own_field y name)
own_field_alike (Scalar a) (Scalar b) name same = tt
own_field_alike (Object a) (Object b) name same = zip_lookup (SameComponent SameField) (same_name name) _ _ same.fields
own_field_alike (Interface a) (Interface b) name same = zip_lookup (SameComponent SameField) (same_name name) _ _ same.fields
own_field_alike (Union a) (Union b) name same = tt
own_field_alike (Enum a) (Enum b) name same = tt
own_field_alike (InputObject a) (InputObject b) name same = tt
own_field_alike _ _ name same = absurd same

pub both_built_in : (x y : ExtendedType) → SameType x y → is_built_in x ≡ is_built_in y
both_built_in x y same = ap is_built_in_location (one_location x y same)
