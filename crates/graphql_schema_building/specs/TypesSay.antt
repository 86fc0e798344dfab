-- When a definition of a type and its extensions say a typed definition. Specification: 3.4 Types.
use Rattle.std.specs.Prelude.{◌≡◌, List, [], Some}
use Rattle.graphql_nodes.specs.Names.{AreDistinct, NameText}
use Rattle.graphql_nodes.specs.declared.nodes.Node.{Node}
use Rattle.graphql_documents.specs.declared.documents.schemas.EnumType.{EnumType}
use Rattle.graphql_documents.specs.declared.documents.schemas.ExtendedType.{ExtendedType}
use Rattle.graphql_documents.specs.declared.documents.schemas.ExtendedType.TheVariants as typed
use Rattle.graphql_documents.specs.declared.documents.schemas.InputObjectType.{InputObjectType}
use Rattle.graphql_documents.specs.declared.documents.schemas.InterfaceType.{InterfaceType}
use Rattle.graphql_documents.specs.declared.documents.schemas.ObjectType.{ObjectType}
use Rattle.graphql_documents.specs.declared.documents.schemas.ScalarType.{ScalarType}
use Rattle.graphql_documents.specs.declared.documents.schemas.UnionType.{UnionType}
use Rattle.graphql_trees.specs.declared.directives.Directive.{Directive}
use Rattle.graphql_trees.specs.declared.documents.Definition.{Definition}
use Rattle.graphql_trees.specs.declared.type_system.EnumValueDefinition.{EnumValueDefinition}
use Rattle.graphql_trees.specs.declared.type_system.FieldDefinition.{FieldDefinition}
use Rattle.graphql_trees.specs.declared.type_system.InputValueDefinition.{InputValueDefinition}
use Rattle.graphql_trees.specs.declared.type_system.TypeDefinition.TheVariants.{Scalar, Object, Interface, Union, Enum, InputObject}
use Rattle.graphql_trees.specs.declared.type_system.TypeDefinition.{TypeDefinition}
use Rattle.graphql_leaf_building.specs.Definitions.{EnumValueSays, FieldDefinitionSays, InputValueSays}
use Rattle.graphql_leaf_building.specs.Directives.{DirectiveSays}
use Rattle.graphql_schema_checking.specs.Definitions.{interface_names, name_of, span_of}
use Rattle.graphql_schema_building.specs.Parts.{ComponentsSay, EntriesSay, Originated, listed_by, names_said, type_parts, written_names}

-- what a definition or extension writes of each kind
abbrev pub written_directives : TypeDefinition → List Directive
written_directives (Scalar d) = d.directives
written_directives (Object d) = d.directives
written_directives (Interface d) = d.directives
written_directives (Union d) = d.directives
written_directives (Enum d) = d.directives
written_directives (InputObject d) = d.directives

abbrev pub written_fields : TypeDefinition → List FieldDefinition
written_fields (Object d) = d.fields
written_fields (Interface d) = d.fields
written_fields _ = []

abbrev pub written_members : TypeDefinition → List NameText
written_members (Union d) = d.members
written_members _ = []

abbrev pub written_values : TypeDefinition → List EnumValueDefinition
written_values (Enum d) = d.values
written_values _ = []

abbrev pub written_input_fields : TypeDefinition → List InputValueDefinition
written_input_fields (InputObject d) = d.fields
written_input_fields _ = []

-- nothing of these parts is there twice
pub record PartsAreDistinct (parts : List (Originated TypeDefinition)) : Type 0 where
  pub interfaces : AreDistinct (written_names (λ name. name) (listed_by interface_names parts))
  pub fields : AreDistinct (written_names (λ field. field.name) (listed_by written_fields parts))
  pub members : AreDistinct (written_names (λ name. name) (listed_by written_members parts))
  pub values : AreDistinct (written_names (λ value. value.name) (listed_by written_values parts))
  pub input_fields : AreDistinct (written_names (λ field. field.name) (listed_by written_input_fields parts))

-- the parts of a type, which begin with its definition
module _ (d : TypeDefinition) (parts : List (Originated TypeDefinition)) where
  -- 3.5 Scalars
  pub record ScalarSays (t : Node ScalarType) : Type 0 where
    pub name : t.value.value.name ≡ name_of d
    pub directives : ComponentsSay DirectiveSays (listed_by written_directives parts) t.value.value.directives.items
    pub location : t.location ≡ Some (span_of d)

  -- 3.6 Objects
  pub record ObjectSays (t : Node ObjectType) : Type 0 where
    pub name : t.value.value.name ≡ name_of d
    pub implements_interfaces : t.value.value.implements_interfaces.keys ≡ names_said (listed_by interface_names parts)
    pub directives : ComponentsSay DirectiveSays (listed_by written_directives parts) t.value.value.directives.items
    pub fields : EntriesSay (λ field. field.name) FieldDefinitionSays (listed_by written_fields parts) t.value.value.fields.entries
    pub location : t.location ≡ Some (span_of d)

  -- 3.7 Interfaces
  pub record InterfaceSays (t : Node InterfaceType) : Type 0 where
    pub name : t.value.value.name ≡ name_of d
    pub implements_interfaces : t.value.value.implements_interfaces.keys ≡ names_said (listed_by interface_names parts)
    pub directives : ComponentsSay DirectiveSays (listed_by written_directives parts) t.value.value.directives.items
    pub fields : EntriesSay (λ field. field.name) FieldDefinitionSays (listed_by written_fields parts) t.value.value.fields.entries
    pub location : t.location ≡ Some (span_of d)

  -- 3.8 Unions
  pub record UnionSays (t : Node UnionType) : Type 0 where
    pub name : t.value.value.name ≡ name_of d
    pub directives : ComponentsSay DirectiveSays (listed_by written_directives parts) t.value.value.directives.items
    pub members : t.value.value.members.keys ≡ names_said (listed_by written_members parts)
    pub location : t.location ≡ Some (span_of d)

  -- 3.9 Enums
  pub record EnumSays (t : Node EnumType) : Type 0 where
    pub name : t.value.value.name ≡ name_of d
    pub directives : ComponentsSay DirectiveSays (listed_by written_directives parts) t.value.value.directives.items
    pub values : EntriesSay (λ value. value.name) EnumValueSays (listed_by written_values parts) t.value.value.values.entries
    pub location : t.location ≡ Some (span_of d)

  -- 3.10 Input Objects
  pub record InputObjectSays (t : Node InputObjectType) : Type 0 where
    pub name : t.value.value.name ≡ name_of d
    pub directives : ComponentsSay DirectiveSays (listed_by written_directives parts) t.value.value.directives.items
    pub fields : EntriesSay (λ field. field.name) InputValueSays (listed_by written_input_fields parts) t.value.value.fields.entries
    pub location : t.location ≡ Some (span_of d)

-- the definition says this type, of its kind
abbrev pub PartsSay : TypeDefinition → List (Originated TypeDefinition) → ExtendedType → Type 0
PartsSay (Scalar d) parts (typed.Scalar t) = ScalarSays (Scalar d) parts t
PartsSay (Object d) parts (typed.Object t) = ObjectSays (Object d) parts t
PartsSay (Interface d) parts (typed.Interface t) = InterfaceSays (Interface d) parts t
PartsSay (Union d) parts (typed.Union t) = UnionSays (Union d) parts t
PartsSay (Enum d) parts (typed.Enum t) = EnumSays (Enum d) parts t
PartsSay (InputObject d) parts (typed.InputObject t) = InputObjectSays (InputObject d) parts t
PartsSay _ parts _ = ⊥

-- with its extensions among these definitions
abbrev pub TypeSays : List Definition → TypeDefinition → ExtendedType → Type 0
TypeSays definitions d t = PartsSay d (type_parts definitions d) t
