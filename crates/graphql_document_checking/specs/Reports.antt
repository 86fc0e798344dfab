-- What a report says of selections that cannot be built.
-- Specification: 5.3.1 Field Selections, 5.3.3 Leaf Field Selections, 5.5.1.2 Fragment Spread Type Existence, 5.5.1.3 Fragments On Composite Types.
use Rattle.std.specs.Prelude.{◌≡◌, ◌⊎◌, IsFalse, IsTrue, List, Option, None, Some, Ok, Err}
use Rattle.std.specs.Option.{option_and_then}
use Rattle.graphql_nodes.specs.Names.{NameText}
use Rattle.graphql_documents.specs.Schemas.{is_composite, type_definition, type_field}
use Rattle.graphql_documents.specs.declared.documents.components.Component.{Component}
use Rattle.graphql_documents.specs.declared.documents.definitions.FieldDefinition.{FieldDefinition}
use Rattle.graphql_documents.specs.declared.documents.schemas.ExtendedType.{ExtendedType}
use Rattle.graphql_documents.specs.declared.documents.schemas.ExtendedType.TheVariants.{Scalar, Enum}
use Rattle.graphql_documents.specs.declared.documents.schemas.FieldLookupError.{FieldLookupError}
use Rattle.graphql_documents.specs.declared.documents.schemas.Schema.{Schema}
use Rattle.graphql_trees.specs.declared.executable.Field.{Field, out-Field}
use Rattle.graphql_trees.specs.declared.executable.InlineFragment.{InlineFragment}
use Rattle.graphql_trees.specs.declared.executable.Selection.{Selection}
use Rattle.graphql_trees.specs.declared.executable.Selection.TheVariants as tree
use Rattle.graphql_trees.specs.declared.executable.SelectionSet.{SelectionSet}
use Rattle.graphql_document_building.specs.BuildingRules.{SelectionsBuild}
use Rattle.graphql_document_building.specs.Trees.{StandsOn, names_leaf_type, selections_in, type_below}
use Rattle.graphql_building_reports.specs.declared.lists.BuildingReport.{BuildingReport}
use Rattle.graphql_building_reports.specs.declared.kinds.LeafKind.{LeafKind}
use Rattle.graphql_building_reports.specs.declared.kinds.LeafKind.TheVariants as kind
use Rattle.graphql_building_reports.specs.declared.rules.BuildingRule.TheVariants as rule

-- a scalar or an enum
abbrev pub kind_of : ExtendedType → Option LeafKind
kind_of (Scalar d) = Some kind.Scalar
kind_of (Enum d) = Some kind.Enum
kind_of _ = None

-- which of the two the type of this name is, if either
abbrev pub leaf_kind : Schema → NameText → Option LeafKind
leaf_kind schema name = option_and_then kind_of (type_definition schema name)

-- the field selects something from the scalar or the enum of this name: reported at the field
pub record SelectsFromLeaf (schema : Schema) (ty : NameText) (f : Field) (r : BuildingReport) : Type 0 where
  pub kind : LeafKind
  pub set : SelectionSet
  pub is_leaf : leaf_kind schema ty ≡ Some kind
  pub has_set : (out-Field f).selection_set ≡ Some set
  pub says : r ≡ record { location = Some (out-Field f).span; rule = rule.SubselectionOnLeafType kind ty }

-- the selection on this type breaks a rule: the type lacks the field, reported at the field's name; the field selects
-- something from a scalar or an enum; the type condition is not defined, reported at the condition, or is no composite
-- type, reported at the inline fragment
pub data Breaks (schema : Schema) (here : NameText) : Selection → BuildingReport → Type 0 where
  lacks_field : (f : Field) (e : FieldLookupError) →
      type_field schema here (out-Field f).name ≡ Err e →
      Breaks schema here (tree.Field f) (record { location = (out-Field f).name.location; rule = rule.UndefinedField here (out-Field f).name })
  selects_from_leaf : (f : Field) (d : Component FieldDefinition) (r : BuildingReport) →
      type_field schema here (out-Field f).name ≡ Ok d → SelectsFromLeaf schema (type_below d) f r → Breaks schema here (tree.Field f) r
  lacks_condition : (i : InlineFragment) (condition : NameText) →
      i.type_condition ≡ Some condition → type_definition schema condition ≡ None →
      Breaks schema here (tree.InlineFragment i) (record { location = condition.location; rule = rule.UndefinedTypeInInlineFragmentTypeCondition condition })
  has_invalid_condition : (i : InlineFragment) (condition : NameText) (d : ExtendedType) →
      i.type_condition ≡ Some condition → type_definition schema condition ≡ Some d → IsFalse (is_composite d) →
      Breaks schema here (tree.InlineFragment i) (record { location = Some i.span; rule = rule.InvalidFragmentTarget None })

-- a selection that is among these on the type, or below them, breaks a rule
pub record IsSelectionReport (schema : Schema) (parent : NameText) (trees : List Selection) (r : BuildingReport) : Type 0 where
  pub s : Selection
  pub here : NameText
  pub stands : StandsOn schema parent trees s here
  pub breaks : Breaks schema here s r

-- the set of a field that gives this type can be built: there is none on a scalar or an enum
pub record SetBuilds (schema : Schema) (ty : NameText) (f : Field) : Type 0 where
  pub leaf : IsTrue (names_leaf_type schema ty) → (out-Field f).selection_set ≡ None
  pub selections : IsFalse (names_leaf_type schema ty) → SelectionsBuild schema ty (selections_in (out-Field f).selection_set)

-- what is reported of that set
abbrev pub IsSetReport : Schema → NameText → Field → BuildingReport → Type 0
IsSetReport schema ty f r =
    SelectsFromLeaf schema ty f r ⊎
    (IsFalse (names_leaf_type schema ty) × IsSelectionReport schema ty (selections_in (out-Field f).selection_set) r)
