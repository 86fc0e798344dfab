-- When a schema keeps valid what is valid against an older one. Specification: 5 Validation.
use Rattle.std.specs.Prelude.{◌≡◌, List, Bool, Option, Some, Ok, All, Any, Contains, IsFalse, IsSome, IsSomeAnd, IsTrue}
use Rattle.indexmap.specs.IndexMap.{get}
use Rattle.graphql_nodes.specs.Names.{NameText, SameName, same_name}
use Rattle.graphql_nodes.specs.declared.directive_locations.DirectiveLocation.{DirectiveLocation}
use Rattle.graphql_nodes.specs.declared.directive_locations.DirectiveLocation.TheVariants as location
use Rattle.graphql_nodes.specs.declared.nodes.Node.{Node}
use Rattle.graphql_nodes.specs.declared.operation_types.OperationType.{OperationType}
use Rattle.graphql_nodes.specs.declared.operation_types.OperationType.TheVariants as operation
use Rattle.graphql_documents.specs.Definitions.{definition_named}
use Rattle.graphql_documents.specs.Directives.{directive_definition}
use Rattle.graphql_documents.specs.Schemas.{NamesKind, is_built_in, is_input_type, is_object_type, is_required, type_definition, type_field}
use Rattle.graphql_documents.specs.TypeReferences.{is_assignable, is_non_null}
use Rattle.graphql_documents.specs.declared.documents.components.Component.{Component}
use Rattle.graphql_documents.specs.declared.documents.definitions.DirectiveDefinition.{DirectiveDefinition}
use Rattle.graphql_documents.specs.declared.documents.definitions.FieldDefinition.{FieldDefinition}
use Rattle.graphql_documents.specs.declared.documents.definitions.InputValueDefinition.{InputValueDefinition}
use Rattle.graphql_documents.specs.declared.documents.schemas.EnumType.{EnumType}
use Rattle.graphql_documents.specs.declared.documents.schemas.ExtendedType.{ExtendedType}
use Rattle.graphql_documents.specs.declared.documents.schemas.ExtendedType.TheVariants.{Enum, InputObject, Scalar}
use Rattle.graphql_documents.specs.declared.documents.schemas.InputObjectType.{InputObjectType}
use Rattle.graphql_documents.specs.declared.documents.schemas.ScalarType.{ScalarType}
use Rattle.graphql_documents.specs.declared.documents.schemas.Schema.{Schema}
use Rattle.graphql_specification.specs.CollectFields.{AppliesTo}
use Rattle.graphql_specification.specs.Fragments.{IsPossibleAt, NamesComposite}
use Rattle.graphql_specification.specs.Merging.{SameResponseShape}
use Rattle.graphql_specification.specs.Values.{HasEnumValue, is_custom_scalar}
use Rattle.graphql_document_building.specs.Trees.{names_leaf_type, root_name, type_below}

-- ==== arguments and input fields

-- an argument or an input field takes what it took: its type loses no more than `!`; and where it takes no null, it still has a
-- default if it had one. Specification: 3.6.1 Field Arguments, 3.10 Input Objects, 5.8.5 All Variable Usages Are Allowed
pub record KeepsInputValue (old new : InputValueDefinition) : Type 0 where
  pub ty : IsTrue (is_assignable old.ty.value.value new.ty.value.value)
  pub default_value : IsTrue (is_non_null new.ty.value.value) → IsSome old.default_value → IsSome new.default_value

-- each old argument is there and takes what it took, and each one that must be given had to be given before. Specification: 5.4.1
-- Argument Names, 5.4.2.1 Required Arguments
pub record KeepsArguments (old new : List (Node InputValueDefinition)) : Type 0 where
  pub kept : All (λ a. IsSomeAnd (definition_named a.value.value.name new) (λ b. KeepsInputValue a.value.value b.value.value)) old
  pub required : All (λ b. IsTrue (is_required b.value.value) → Any (λ a. SameName a.value.value.name b.value.value.name × IsTrue (is_required a.value.value)) old) new

-- the same of the fields of an input object. Specification: 3.10 Input Objects, 5.6.2 Input Object Field Names, 5.6.4 Input Object
-- Required Fields
pub record KeepsInputFields (old new : InputObjectType) : Type 0 where
  pub kept : All (λ a. IsSomeAnd (get same_name new.fields a.0) (λ b. KeepsInputValue a.1.node.value.value b.node.value.value)) old.fields.entries
  pub required : All (λ b. IsTrue (is_required b.1.node.value.value) → Any (λ a. SameName a.0 b.0 × IsTrue (is_required a.1.node.value.value)) old.fields.entries) new.fields.entries

-- ==== types of values

-- each value of the enum is there. Specification: 3.9 Enums
abbrev pub KeepsEnumValues : Node EnumType → Node EnumType → Type 0
KeepsEnumValues old new = All (λ entry. HasEnumValue (Enum new) entry.0) old.value.value.values.entries

-- the values of the first type are values of the second: a custom scalar takes every value; a built-in scalar stays the same; an
-- enum keeps its values, an input object its fields. Specification: 5.6.1 Values of Correct Type
pub data KeepsValues : ExtendedType → ExtendedType → Type 0 where
  to_custom_scalar : {old new : ExtendedType} → IsTrue (is_input_type old) → IsTrue (is_custom_scalar new) → KeepsValues old new
  same_built_in_scalar : {old new : Node ScalarType} →
      IsTrue (is_built_in (Scalar old)) → IsTrue (is_built_in (Scalar new)) → SameName old.value.value.name new.value.value.name →
      KeepsValues (Scalar old) (Scalar new)
  keeps_enum_values : {old new : Node EnumType} → KeepsEnumValues old new → KeepsValues (Enum old) (Enum new)
  keeps_input_fields : {old new : Node InputObjectType} → KeepsInputFields old.value.value new.value.value → KeepsValues (InputObject old) (InputObject new)

-- both schemas define the type, and the second takes the values of the first
pub record KeepsInput (old new : Schema) (name : NameText) : Type 0 where
  pub before : ExtendedType
  pub after : ExtendedType
  pub was_defined : type_definition old name ≡ Some before
  pub is_defined : type_definition new name ≡ Some after
  pub values : KeepsValues before after

-- ==== places of selections

-- each kind of operation keeps its root type. Specification: 3.3.1 Root Operation Types
abbrev pub KeepsRoots : Schema → Schema → Type 0
KeepsRoots old new = (kind : OperationType) (root : NameText) → root_name old kind ≡ Some root → IsSomeAnd (root_name new kind) (SameName root)

-- a field keeps its arguments, and stays one on which nothing is selected, or one on the same composite type. Specification: 5.3.3 Leaf
-- Field Selections, 5.4 Arguments
pub record KeepsField (old new : Schema) (before after : Component FieldDefinition) : Type 0 where
  pub arguments : KeepsArguments before.node.value.value.arguments.items after.node.value.value.arguments.items
  pub leaf : names_leaf_type new (type_below after) ≡ names_leaf_type old (type_below before)
  pub composite : IsFalse (names_leaf_type old (type_below before)) → SameName (type_below before) (type_below after)

-- the type keeps its fields. Specification: 5.3.1 Field Selections
abbrev pub KeepsFields : Schema → Schema → NameText → Type 0
KeepsFields old new parent =
    (field : NameText) (before : Component FieldDefinition) → type_field old parent field ≡ Ok before →
    (after : Component FieldDefinition) × (type_field new parent field ≡ Ok after) × KeepsField old new before after

-- what could be a condition on the type still can. Specification: 5.5.1.2 Fragment Spread Type Existence, 5.5.1.3 Fragments On
-- Composite Types, 5.5.2.3 Fragment Spread Is Possible
abbrev pub KeepsConditions : Schema → Schema → NameText → Type 0
KeepsConditions old new parent =
    (condition : NameText) → NamesComposite old condition → IsPossibleAt old condition (Some parent) →
    NamesComposite new condition × IsPossibleAt new condition (Some parent)

-- ==== directives

-- operations of the schema can have directives at the location: there is a root type for it, where it is a kind of operation.
-- Specification: 3.13 Directives, ExecutableDirectiveLocation
abbrev pub IsExecutable : Schema → DirectiveLocation → Type 0
IsExecutable schema location.Query = IsSome (root_name schema operation.Query)
IsExecutable schema location.Mutation = IsSome (root_name schema operation.Mutation)
IsExecutable schema location.Subscription = IsSome (root_name schema operation.Subscription)
IsExecutable schema location.Field = Unit {0}
IsExecutable schema location.FragmentDefinition = Unit {0}
IsExecutable schema location.FragmentSpread = Unit {0}
IsExecutable schema location.InlineFragment = Unit {0}
IsExecutable schema location.VariableDefinition = Unit {0}
IsExecutable schema _ = ⊥

-- the directive may be applied in a document of the schema wherever it might be, and as often. Specification: 5.7 Directives
pub record KeepsDirective (schema : Schema) (old new : DirectiveDefinition) : Type 0 where
  pub arguments : KeepsArguments old.arguments.items new.arguments.items
  pub locations : (place : DirectiveLocation) → IsExecutable schema place → Contains old.locations.items place → Contains new.locations.items place
  pub repeatable : IsTrue old.repeatable → IsTrue new.repeatable

-- so may each directive that has such a location. Specification: 5.7.1 Directives Are Defined
abbrev pub KeepsDirectives : Schema → Schema → Type 0
KeepsDirectives old new =
    (name : NameText) (before : Node DirectiveDefinition) → directive_definition old name ≡ Some before → Any (IsExecutable old) before.value.value.locations.items →
    IsSomeAnd (directive_definition new name) (λ after. KeepsDirective old before.value.value after.value.value)

-- ==== subscriptions

-- a type that did not apply to the root of subscriptions still does not, so that no further field is collected there. Specification:
-- 5.2.3.1 Single Root Field, 6.3.2 Field Collection, DoesFragmentTypeApply
abbrev pub KeepsSubscriptionRoot : Schema → Schema → Type 0
KeepsSubscriptionRoot old new =
    (root ty : NameText) → root_name old operation.Subscription ≡ Some root → NamesComposite old ty → AppliesTo new root ty → AppliesTo old root ty

-- ==== merging

-- fields of the two types that had one shape in a response still have one. Specification: 5.3.2 Field Selection Merging,
-- SameResponseShape
abbrev pub KeepsShapes : Schema → Schema → NameText → NameText → Type 0
KeepsShapes old new p q =
    (f g : NameText) (a b c d : Component FieldDefinition) →
    type_field old p f ≡ Ok a → type_field old q g ≡ Ok b → type_field new p f ≡ Ok c → type_field new q g ≡ Ok d →
    SameResponseShape old a.node.value.value.ty b.node.value.value.ty → SameResponseShape new c.node.value.value.ty d.node.value.value.ty

-- an object type stays one: then no two types overlap that did not. Specification: 5.3.2 Field Selection Merging, FieldsInSetCanMerge
abbrev pub KeepsObject : Schema → Schema → NameText → Type 0
KeepsObject old new name = NamesKind old is_object_type name → NamesKind new is_object_type name

-- fields that merge still do, where these types can be places of selections and these meet in a response, at places that overlap
-- throughout or not
pub record KeepsMerging (old new : Schema) (Place : NameText → Type 0) (Meet : Bool → NameText → NameText → Type 0) : Type 0 where
  pub shapes : (overlap : Bool) (p q : NameText) → Meet overlap p q → KeepsShapes old new p q
  pub objects : (name : NameText) → Place name → KeepsObject old new name

-- ==== documents

-- all other rules of documents still hold, where these types can be places of selections and values can be given for these
pub record KeepsOtherRules (old new : Schema) (Place Input : NameText → Type 0) : Type 0 where
  pub roots : KeepsRoots old new
  pub fields : (parent : NameText) → Place parent → KeepsFields old new parent
  pub conditions : (parent : NameText) → Place parent → KeepsConditions old new parent
  pub inputs : (name : NameText) → Input name → KeepsInput old new name
  pub directives : KeepsDirectives old new
  pub subscription_root : KeepsSubscriptionRoot old new

-- each composite type is a place of selections, values can be given for each input type, and all places can meet
abbrev pub AnyInput : Schema → NameText → Type 0
AnyInput schema name = NamesKind schema is_input_type name

abbrev pub AnyPlaces : Schema → Bool → NameText → NameText → Type 0
AnyPlaces schema overlap p q = NamesComposite schema p × NamesComposite schema q

-- documents stay valid in which no two fields come together in a response: by all rules but that of merging
abbrev pub KeepsLoneFieldsValid : Schema → Schema → Type 0
KeepsLoneFieldsValid old new = KeepsOtherRules old new (NamesComposite old) (AnyInput old)

-- documents stay valid. Specification: 5 Validation
pub record KeepsDocumentsValid (old new : Schema) : Type 0 where
  pub rules : KeepsLoneFieldsValid old new
  pub merging : KeepsMerging old new (NamesComposite old) (AnyPlaces old)
