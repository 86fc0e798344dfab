-- A value that is accepted is accepted where each type that it meets stands for the same.
use Rattle.std.proofs.Common.{◌≡◌, List, refl, subst, ◌∙◌, Contains}
use Rattle.graphql_nodes.specs.Names.{NameText}
use Rattle.graphql_specification.specs.Values.{Accepts, accepts_undefined, accepts_null, accepts_variable, accepts_leaf, accepts_list, accepts_custom_object, accepts_object}
use Rattle.graphql_documents.specs.Schemas.{IsInputObject, type_definition}
use Rattle.graphql_documents.specs.TypeReferences.{inner_named_type, item_type}
use Rattle.graphql_documents.specs.declared.documents.definitions.VariableDefinition.{VariableDefinition}
use Rattle.graphql_documents.specs.declared.documents.schemas.InputObjectType.{InputObjectType}
use Rattle.graphql_documents.specs.declared.documents.schemas.Schema.{Schema}
use Rattle.graphql_documents.specs.declared.documents.type_references.Type.{«Type»}
use Rattle.graphql_documents.specs.declared.documents.type_references.Type.TheVariants.{Named, NonNullNamed, List', NonNullList'}
use Rattle.graphql_documents.specs.declared.documents.values.Value.{Value}
use Rattle.graphql_nodes.specs.declared.nodes.Node.{Node}
use Rattle.graphql_schema_laws.proofs.FiniteValueLaws.{Field}
use Rattle.graphql_schema_laws.proofs.ObjectValueLemmas.{type_of}

-- the items of a list are of the same name
item_name : (ty : «Type») → inner_named_type ty ≡ inner_named_type (item_type ty)
item_name (Named name) = refl
item_name (NonNullNamed name) = refl
item_name (List' place item) = refl
item_name (NonNullList' place item) = refl

-- the names that are looked up pass a test, and stand for the same in both schemas
module _ (from to : Schema) (variables : List (Node VariableDefinition)) (Passes : NameText → Type 0)
    (agree : (name : NameText) → Passes name → type_definition to name ≡ type_definition from name)
    (goes_on : (name : NameText) (d : Node InputObjectType) (field : Field) → Passes name → IsInputObject from name d →
    Contains d.value.value.fields.entries field → Passes (inner_named_type (type_of field))) where
  pub carried_value : {ty : «Type»} {value : Value} → Accepts from variables ty value → Passes (inner_named_type ty) → Accepts to variables ty value
  carried_value (accepts_undefined {ty = ty} none) passes = accepts_undefined (agree (inner_named_type ty) passes ∙ none)
  carried_value (accepts_null nullable) passes = accepts_null nullable
  carried_value (accepts_variable {ty = ty} found input there same) passes = accepts_variable (agree (inner_named_type ty) passes ∙ found) input there same
  carried_value (accepts_leaf {ty = ty} found leaf) passes = accepts_leaf (agree (inner_named_type ty) passes ∙ found) leaf
  carried_value (accepts_list {ty = ty} items found list input each) passes =
      accepts_list items (agree (inner_named_type ty) passes ∙ found) list input
      (λ item within. carried_value (each item within) (subst Passes (item_name ty) passes))
  carried_value (accepts_custom_object {ty = ty} entries found custom) passes = accepts_custom_object entries (agree (inner_named_type ty) passes ∙ found) custom
  carried_value (accepts_object {ty = ty} {d = d} entries found defined given each) passes =
      accepts_object entries (agree (inner_named_type ty) passes ∙ found) defined given
      (λ field value within entry. carried_value (each field value within entry) (goes_on (inner_named_type ty) d field passes found within))
