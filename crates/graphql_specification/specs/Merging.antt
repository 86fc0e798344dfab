-- When fields can merge, and what a diagnostic says where two can not. Specification: draft, 5.3.2 Field Selection Merging.
use Rattle.std.specs.Prelude.{◌≡◌, Contains, List, [], ◌∷◌, IsTrue, Some, is_some, ◌++◌, Option, IsSomeAnd, IsNone, None, All}
use Rattle.std.specs.List.{AllZip}
use Rattle.graphql_nodes.specs.Names.{NameText, SameName, DifferentNames}
use Rattle.graphql_nodes.specs.Nodes.{SameNode}
use Rattle.graphql_documents.specs.Selections.{Fragments, Includes, selections_of, response_key}
use Rattle.graphql_documents.specs.Schemas.{is_composite, type_definition}
use Rattle.graphql_documents.specs.Values.{SameValue}
use Rattle.graphql_documents.specs.Directives.{argument_named}
use Rattle.graphql_documents.specs.Contents.{SameField}
use Rattle.graphql_documents.specs.TypeReferences.{IsTypeCopy}
use Rattle.graphql_nodes.specs.declared.nodes.Node.{Node}
use Rattle.graphql_documents.specs.declared.documents.executables.Field.{Field}
use Rattle.graphql_documents.specs.declared.documents.executables.SelectionSet.{SelectionSet}
use Rattle.graphql_documents.specs.declared.documents.type_references.Type.{«Type»}
use Rattle.graphql_documents.specs.declared.documents.schemas.ExtendedType.{ExtendedType}
use Rattle.graphql_documents.specs.declared.documents.schemas.ExtendedType.TheVariants.{Scalar, Enum, Object}
use Rattle.graphql_documents.specs.declared.documents.schemas.Schema.{Schema}
use Rattle.graphql_documents.specs.declared.documents.type_references.Type.TheVariants.{Named, NonNullNamed, List', NonNullList'}
use Rattle.graphql_documents.specs.declared.documents.directives.Argument.{Argument}
use Rattle.graphql_coordinates.specs.declared.coordinates.TypeAttributeCoordinate.{TypeAttributeCoordinate}
use Rattle.graphql_nodes.specs.declared.spans.SourceSpan.{SourceSpan}
use Rattle.graphql_documents.specs.declared.documents.values.Value.{Value}
use Rattle.graphql_coordinates.specs.declared.coordinates.FieldArgumentCoordinate.{FieldArgumentCoordinate}
use Rattle.graphql_diagnostics.specs.declared.build_errors.BuildError.{BuildError}
use Rattle.graphql_diagnostics.specs.declared.details.Details.{Details}
use Rattle.graphql_documents.specs.declared.documents.executables.Selection.TheVariants as kind
use Rattle.graphql_diagnostics.specs.declared.build_errors.BuildError.TheVariants as build
use Rattle.graphql_diagnostics.specs.declared.details.Details.TheVariants as details

-- a field, with the type of the set in which it is
pub record FieldSelection : Type 0 where
  pub parent : NameText
  pub field : Node Field

-- the set of a field, and the type with which it was built
abbrev pub set_of : FieldSelection → SelectionSet
set_of x = x.field.value.value.selection_set

abbrev pub type_of : FieldSelection → «Type»
type_of x = x.field.value.value.definition.value.value.ty

-- the field is in the set, or in that of a fragment in it
pub record FieldInExpandedSet (fragments : Fragments) (set : SelectionSet) (x : FieldSelection) : Type 0 where
  pub inner : SelectionSet
  pub included : Includes fragments set inner
  pub stands : Contains (selections_of inner) (kind.Field x.field)
  pub parent_is : x.parent ≡ inner.ty

-- the first field is inside the set, and each next one inside the set of the one before
pub data Chain (fragments : Fragments) : SelectionSet → List FieldSelection → Type 0 where
  chain_of_one : {set : SelectionSet} {x : FieldSelection} →
      FieldInExpandedSet fragments set x → Chain fragments set (x ∷ [])
  chain_of_more : {set : SelectionSet} {x : FieldSelection} {xs : List FieldSelection} →
      FieldInExpandedSet fragments set x → Chain fragments (set_of x) xs → Chain fragments set (x ∷ xs)

-- values of the two named types have one form in a response: both are composite, or they are one
-- scalar or one enum
abbrev pub SameLeafOrBothComposite : ExtendedType → ExtendedType → Type 0
SameLeafOrBothComposite (Scalar a) (Scalar b) = SameName a.value.value.name b.value.value.name
SameLeafOrBothComposite (Enum a) (Enum b) = SameName a.value.value.name b.value.value.name
SameLeafOrBothComposite a b = IsTrue (is_composite a) × IsTrue (is_composite b)

-- the same of two names; nothing is said of a type that is not defined
abbrev pub SameLeafOrBothCompositeNamed : Schema → NameText → NameText → Type 0
SameLeafOrBothCompositeNamed schema a b =
    (x y : ExtendedType) → type_definition schema a ≡ Some x → type_definition schema b ≡ Some y → SameLeafOrBothComposite x y

-- values of the two types have one shape in a response: list and non-null wrappers agree, and what is
-- inside has one form. Specification: SameResponseShape
abbrev pub SameResponseShape : Schema → «Type» → «Type» → Type 0
SameResponseShape schema (Named a) (Named b) = SameLeafOrBothCompositeNamed schema a b
SameResponseShape schema (NonNullNamed a) (NonNullNamed b) = SameLeafOrBothCompositeNamed schema a b
SameResponseShape schema (List' place a) (List' other b) = SameResponseShape schema a b
SameResponseShape schema (NonNullList' place a) (NonNullList' other b) = SameResponseShape schema a b
SameResponseShape schema _ _ = ⊥

-- one object can be of both types: they are one object type, or at least one is an interface or union
abbrev pub MayOverlap : ExtendedType → ExtendedType → Type 0
MayOverlap (Object a) (Object b) = SameName a.value.value.name b.value.value.name
MayOverlap a b = IsTrue (is_composite a) × IsTrue (is_composite b)

-- the same of the parents of two fields
pub record ParentsMayOverlap (schema : Schema) (a b : FieldSelection) : Type 0 where
  pub first : ExtendedType
  pub second : ExtendedType
  pub first_is : type_definition schema a.parent ≡ Some first
  pub second_is : type_definition schema b.parent ≡ Some second
  pub overlap : MayOverlap first second

-- the same names are given, and under each name the first values are the same
pub record SameArguments (a b : List (Node Argument)) : Type 0 where
  pub names : (name : NameText) → is_some (argument_named name a) ≡ is_some (argument_named name b)
  pub values : (name : NameText) (x y : Node Argument) → argument_named name a ≡ Some x → argument_named name b ≡ Some y →
      SameValue x.value.value.value.value.value y.value.value.value.value.value

-- the two ask for one thing: one field, with the same arguments
pub record SameNameAndArguments (a b : Field) : Type 0 where
  pub name : SameName a.name b.name
  pub arguments : SameArguments a.arguments.items b.arguments.items

-- the two have one key in a response
abbrev pub SameKey : FieldSelection → FieldSelection → Type 0
SameKey a b = SameName (response_key a.field.value.value) (response_key b.field.value.value)

-- the two lists have the same fields in order, by their contents, on types of the same names
abbrev pub SameFields : List FieldSelection → List FieldSelection → Type 0
SameFields xs ys = AllZip (λ a b. SameName a.parent b.parent × SameField a.field.value.value b.field.value.value) xs ys

-- two chains with the same keys at each step, which end in these two fields
pub record HaveSameResponsePath (fragments : Fragments) (set : SelectionSet) (xs ys : List FieldSelection) (x y : FieldSelection) : Type 0 where
  pub first : Chain fragments set (xs ++ x ∷ [])
  pub second : Chain fragments set (ys ++ y ∷ [])
  pub keys : AllZip SameKey (xs ++ x ∷ []) (ys ++ y ∷ [])

-- the parents overlap at each step of the two chains
abbrev pub OverlapThroughout : Schema → List FieldSelection → List FieldSelection → FieldSelection → FieldSelection → Type 0
OverlapThroughout schema xs ys x y = AllZip (ParentsMayOverlap schema) (xs ++ x ∷ []) (ys ++ y ∷ [])

-- all fields that come together in a response agree: those at the ends of two chains with the same keys
-- have one shape, and where the parents overlap throughout, one name and the same arguments.
-- Specification: FieldsInSetCanMerge
pub record FieldsCanMerge (schema : Schema) (fragments : Fragments) (set : SelectionSet) : Type 0 where
  pub shapes : (xs ys : List FieldSelection) (x y : FieldSelection) → HaveSameResponsePath fragments set xs ys x y →
      SameResponseShape schema (type_of x) (type_of y)
  pub fields : (xs ys : List FieldSelection) (x y : FieldSelection) → HaveSameResponsePath fragments set xs ys x y →
      OverlapThroughout schema xs ys x y → SameNameAndArguments x.field.value.value y.field.value.value

-- how the fields of a list are put together: by response keys alone, for their shapes; or by keys and
-- parents that may overlap, for their names and arguments
pub data Pass : Type 0 where
  shape_pass : Pass
  field_pass : Pass

-- the coordinate of a field in the set where it is
abbrev pub coordinate_of : FieldSelection → TypeAttributeCoordinate
coordinate_of x = record { ty = x.parent; attribute = x.field.value.value.name }

-- two fields with one key have different names: reported at the second
pub record HaveDifferentFields (x y : FieldSelection) (alias : NameText) (original_location : Option SourceSpan) (original : TypeAttributeCoordinate) (conflicting_location : Option SourceSpan) (conflicting : TypeAttributeCoordinate) (at : Option SourceSpan) : Type 0 where
  pub differ : DifferentNames x.field.value.value.name y.field.value.value.name
  pub alias_is : SameName alias (response_key x.field.value.value)
  pub original_location_is : original_location ≡ x.field.location
  pub original_is : original ≡ coordinate_of x
  pub conflicting_location_is : conflicting_location ≡ y.field.location
  pub conflicting_is : conflicting ≡ coordinate_of y
  pub at_is : at ≡ y.field.location

-- the value of the first argument with this name, as a diagnostic shares it: none where it is not given
abbrev pub IsArgumentValue : NameText → Field → Option (Node Value) → Type 0
IsArgumentValue name f (Some value) = IsSomeAnd (argument_named name f.arguments.items) (λ a. SameNode a.value.value.value value)
IsArgumentValue name f None = IsNone (argument_named name f.arguments.items)

-- the two fields have the same value for an argument, or neither has one
abbrev pub AgreeOn : NameText → Field → Field → Type 0
AgreeOn name a b =
    (is_some (argument_named name a.arguments.items) ≡ is_some (argument_named name b.arguments.items)) ×
    ((x y : Node Argument) → argument_named name a.arguments.items ≡ Some x → argument_named name b.arguments.items ≡ Some y →
    SameValue x.value.value.value.value.value y.value.value.value.value.value)

-- the two fields do not agree on this argument, and it is the first such one: of the first field's arguments in
-- order, and then of the second's
pub record DisagreeFirstOn (argument : NameText) (a b : Field) : Type 0 where
  pub before : List (Node Argument)
  pub given : Node Argument
  pub after : List (Node Argument)
  pub split : a.arguments.items ++ b.arguments.items ≡ before ++ given ∷ after
  pub argument_is : argument ≡ given.value.value.name
  pub differ : ¬ AgreeOn given.value.value.name a b
  pub agree_before : All (λ x. AgreeOn x.value.value.name a b) before

-- two fields of one name and key have different arguments: reported at the second, with the values of the first
-- such argument
pub record HaveDifferentArguments (x y : FieldSelection) (alias : NameText) (original_location : Option SourceSpan) (original : FieldArgumentCoordinate) (original_value : Option (Node Value)) (conflicting_location : Option SourceSpan) (conflicting : FieldArgumentCoordinate) (conflicting_value : Option (Node Value)) (at : Option SourceSpan) : Type 0 where
  pub argument : NameText
  pub same_field : SameName x.field.value.value.name y.field.value.value.name
  pub differ : DisagreeFirstOn argument x.field.value.value y.field.value.value
  pub alias_is : SameName alias x.field.value.value.name
  pub original_location_is : original_location ≡ x.field.location
  pub original_is : original ≡ record { ty = x.parent; field = x.field.value.value.name; argument = argument }
  pub original_value_is : IsArgumentValue argument x.field.value.value original_value
  pub conflicting_location_is : conflicting_location ≡ y.field.location
  pub conflicting_is : conflicting ≡ record { ty = y.parent; field = y.field.value.value.name; argument = argument }
  pub conflicting_value_is : IsArgumentValue argument y.field.value.value conflicting_value
  pub at_is : at ≡ y.field.location

-- two fields with one key have types of different shapes: reported at the second
pub record HaveDifferentShapes (schema : Schema) (x y : FieldSelection) (alias : NameText) (original_location : Option SourceSpan) (original : TypeAttributeCoordinate) (original_type : «Type») (conflicting_location : Option SourceSpan) (conflicting : TypeAttributeCoordinate) (conflicting_type : «Type») (at : Option SourceSpan) : Type 0 where
  pub differ : ¬ SameResponseShape schema (type_of x) (type_of y)
  pub alias_is : SameName alias (response_key x.field.value.value)
  pub original_location_is : original_location ≡ x.field.location
  pub original_is : original ≡ coordinate_of x
  pub original_type_is : IsTypeCopy (type_of x) original_type
  pub conflicting_location_is : conflicting_location ≡ y.field.location
  pub conflicting_is : conflicting ≡ coordinate_of y
  pub conflicting_type_is : IsTypeCopy (type_of y) conflicting_type
  pub at_is : at ≡ y.field.location

-- two fields that were put together in a pass do not agree, and the diagnostic names them
abbrev pub Conflict : Schema → Pass → FieldSelection → FieldSelection → BuildError → Option SourceSpan → Type 0
Conflict schema field_pass x y (build.ConflictingFieldName alias original_location original conflicting_location conflicting) at =
    HaveDifferentFields x y alias original_location original conflicting_location conflicting at
Conflict schema field_pass x y (build.ConflictingFieldArgument alias original_location original original_value conflicting_location conflicting conflicting_value) at =
    HaveDifferentArguments x y alias original_location original original_value conflicting_location conflicting conflicting_value at
Conflict schema shape_pass x y (build.ConflictingFieldType alias original_location original original_type conflicting_location conflicting conflicting_type) at =
    HaveDifferentShapes schema x y alias original_location original original_type conflicting_location conflicting conflicting_type at
Conflict schema _ x y _ at = ⊥

-- two fields come together in an operation: at the ends of two chains with the same keys, and where names and
-- arguments are compared, with parents that overlap throughout
abbrev pub ComeTogether : Schema → Fragments → Pass → SelectionSet → FieldSelection → FieldSelection → Type 0
ComeTogether schema fragments shape_pass set x y =
    (xs : List FieldSelection) × (ys : List FieldSelection) × HaveSameResponsePath fragments set xs ys x y
ComeTogether schema fragments field_pass set x y =
    (xs : List FieldSelection) × (ys : List FieldSelection) × HaveSameResponsePath fragments set xs ys x y × OverlapThroughout schema xs ys x y

-- the diagnostic names two fields of an operation that come together and cannot be merged
pub record MergingErrorReport (schema : Schema) (fragments : Fragments) (set : SelectionSet) (e : BuildError) (at : Option SourceSpan) : Type 0 where
  pub pass : Pass
  pub x : FieldSelection
  pub y : FieldSelection
  pub together : ComeTogether schema fragments pass set x y
  pub conflict : Conflict schema pass x y e at

-- the same of an entry of a list of diagnostics
pub data MergingReport (schema : Schema) (fragments : Fragments) (set : SelectionSet) : Details → Option SourceSpan → Type 0 where
  of_conflict : {e : BuildError} {at : Option SourceSpan} →
      MergingErrorReport schema fragments set e at → MergingReport schema fragments set (details.Build e) at
