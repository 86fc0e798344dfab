-- Types implement what they list once a schema that has its built-in scalars is retained.
use Rattle.std.proofs.Common.{◌≡◌, inl, inr, List, Option, Some, refl, sym, subst, ◌∙◌}
use Rattle.std.proofs.lemmas.List.Elements.{All-contains, All-weaker}
use Rattle.graphql_nodes.specs.Names.{NameText}
use Rattle.graphql_specification.specs.Implementations.{FieldList, ImplementationsHold, ImplementsField, IsCovariant, IsListedInterface, IsValidImplementationType}
use Rattle.graphql_documents.specs.Schemas.{IsInterface, IsSubtype, IsSubtypeOf, type_definition}
use Rattle.graphql_specification.specs.BuiltInScalars.{SchemaRetainsUsedBuiltInScalars}
use Rattle.graphql_documents.specs.declared.documents.components.Component.{Component}
use Rattle.graphql_documents.specs.declared.documents.components.ComponentName.{ComponentName}
use Rattle.graphql_documents.specs.declared.documents.definitions.FieldDefinition.{FieldDefinition}
use Rattle.graphql_documents.specs.declared.documents.schemas.ExtendedType.{ExtendedType}
use Rattle.graphql_documents.specs.declared.documents.schemas.ExtendedType.TheVariants.{Interface, Union}
use Rattle.graphql_documents.specs.declared.documents.schemas.InterfaceType.{InterfaceType}
use Rattle.graphql_documents.specs.declared.documents.schemas.Schema.{Schema}
use Rattle.graphql_documents.specs.declared.documents.type_references.Type.{«Type»}
use Rattle.graphql_documents.specs.declared.documents.type_references.Type.TheVariants.{Named, NonNullNamed, List', NonNullList'}
use Rattle.graphql_nodes.specs.declared.nodes.Node.{Node}
use Rattle.graphql_schema_laws.specs.BuiltInNames.{BuiltInNamesAreOfScalars, HasItsScalars}
use Rattle.graphql_schema_laws.proofs.KeptTypeLemmas.{other_same, still_implements}

module _ (schema retained : Schema) (scalars : BuiltInNamesAreOfScalars schema) (has : HasItsScalars schema) (is : SchemaRetainsUsedBuiltInScalars schema retained) where
  still_subtype : (wide narrow : NameText) → IsSubtype schema wide narrow → IsSubtype retained wide narrow
  still_subtype wide narrow subtype = by (type_definition schema wide) refl subtype where
    by : (o : Option ExtendedType) → type_definition schema wide ≡ o → IsSubtypeOf schema wide o narrow → IsSubtypeOf retained wide (type_definition retained wide) narrow
    by (Some (Union d)) found member = rw (other_same schema retained scalars has is wide (Union d) found refl) member
    by (Some (Interface d)) found implements =
        rw (other_same schema retained scalars has is wide (Interface d) found refl) (still_implements schema retained scalars has is narrow wide implements)
    by _ found none = absurd none

  still_covariant : (wide narrow : NameText) → IsCovariant schema wide narrow → IsCovariant retained wide narrow
  still_covariant wide narrow (inl same) = inl same
  still_covariant wide narrow (inr subtype) = inr (still_subtype wide narrow subtype)

  still_valid : (wanted own : «Type») → IsValidImplementationType schema wanted own → IsValidImplementationType retained wanted own
  still_valid (Named a) (Named b) valid = still_covariant a b valid
  still_valid (Named a) (NonNullNamed b) valid = still_covariant a b valid
  still_valid (NonNullNamed a) (NonNullNamed b) valid = still_covariant a b valid
  still_valid (List' place a) (List' other b) valid = still_valid a b valid
  still_valid (List' place a) (NonNullList' other b) valid = still_valid a b valid
  still_valid (NonNullList' place a) (NonNullList' other b) valid = still_valid a b valid
  still_valid _ _ valid = absurd valid

  still_interface : (name : NameText) (interface : Node InterfaceType) → IsInterface schema name interface → IsInterface retained name interface
  still_interface name interface found = other_same schema retained scalars has is name (Interface interface) found refl

  module _ (fields : FieldList) (interfaces : List ComponentName) (hold : ImplementationsHold schema fields interfaces) where
    -- a listed interface was one before
    listed_before : (listed : ComponentName) (interface : Node InterfaceType) → IsListedInterface retained interfaces listed interface → IsListedInterface schema interfaces listed interface
    listed_before listed interface one =
        let before = All-contains (λ (listed : ComponentName). (interface : Node InterfaceType) × IsInterface schema listed.name interface) interfaces listed hold.defined one.is_listed in
        let both : Some (Interface before.0) ≡ Some (Interface interface) = sym (still_interface listed.name before.0 before.1) ∙ one.is_interface in
        let same : before.0 ≡ interface = cc in
        record { is_listed = one.is_listed; is_interface = subst (IsInterface schema listed.name) same before.1 }

    implements_before : (listed : ComponentName) (name : NameText) (wanted own : Component FieldDefinition) → ImplementsField retained fields interfaces listed name wanted own →
        ImplementsField schema fields interfaces listed name wanted own
    implements_before listed name wanted own one = record {
      interface = one.interface;
      is_listed = listed_before listed one.interface one.is_listed;
      stands = one.stands;
      implemented = one.implemented;
    }

    pub implementations_after : ImplementationsHold retained fields interfaces
    implementations_after = record {
      defined =
          All-weaker (λ (listed : ComponentName). (interface : Node InterfaceType) × IsInterface schema listed.name interface)
          (λ (listed : ComponentName). (interface : Node InterfaceType) × IsInterface retained listed.name interface)
          (λ listed there. (there.0, still_interface listed.name there.0 there.1)) interfaces hold.defined;
      transitive = λ listed interface one. hold.transitive listed interface (listed_before listed interface one);
      has_fields = λ listed interface one. hold.has_fields listed interface (listed_before listed interface one);
      field_types = λ listed name wanted own one.
          still_valid wanted.node.value.value.ty own.node.value.value.ty (hold.field_types listed name wanted own (implements_before listed name wanted own one));
      field_arguments = λ listed name wanted own one. hold.field_arguments listed name wanted own (implements_before listed name wanted own one);
    }
