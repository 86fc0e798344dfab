-- Ways on which documents come to the types of a schema. Specification: 5.3 Fields, 5.5.2.3 Fragment Spread Is Possible.
use Rattle.std.specs.Prelude.{◌≡◌, ◌⊎◌, ℕ, List, [], ◌∷◌, Option, None, Some, Ok, IsSomeAnd, slice_get}
use Rattle.std.specs.Option.{option_and_then, option_map}
use Rattle.graphql_nodes.specs.Names.{NameText, SameName}
use Rattle.graphql_nodes.specs.declared.operation_types.OperationType.{OperationType}
use Rattle.graphql_documents.specs.Schemas.{IsSubtype, root_operation, type_field}
use Rattle.graphql_documents.specs.TypeReferences.{inner_named_type}
use Rattle.graphql_documents.specs.declared.documents.schemas.ExtendedType.{ExtendedType}
use Rattle.graphql_documents.specs.declared.documents.schemas.Schema.{Schema}
use Rattle.graphql_schema_ways.specs.declared.ways.Step.{Step}
use Rattle.graphql_schema_ways.specs.declared.ways.Step.TheVariants as step

-- the type at an index of the map of types, under its name
abbrev pub entry_at : Schema → ℕ → Option (NameText × ExtendedType)
entry_at schema index = slice_get schema.types.entries index

abbrev pub name_at : Schema → ℕ → Option NameText
name_at schema index = option_map (λ entry. entry.0) (entry_at schema index)

-- the step to the type at an index, if there is one
abbrev pub step_at : List (Option Step) → ℕ → Option Step
step_at steps index = option_and_then (λ s. s) (slice_get steps index)

-- each value of one of the types is one of the other. Specification: 5.5.2.3 Fragment Spread Is Possible
abbrev pub Overlap : Schema → NameText → NameText → Type 0
Overlap schema a b = IsSubtype schema a b ⊎ IsSubtype schema b a

-- the step leads to the type of this name: it is the root type of the operations, the type of a field, or a condition
abbrev pub LeadsTo : Schema → NameText → Step → Type 0
LeadsTo schema name (step.Root operation) = option_map (λ root. root.name) (root_operation schema.schema_definition.value.value operation) ≡ Some name
LeadsTo schema name (step.Field parent field) =
    (inner_named_type field.now.node.value.value.ty ≡ name) × IsSomeAnd (name_at schema parent) (λ place. (key : NameText) × (type_field schema place key ≡ Ok field.now))
LeadsTo schema name (step.Condition parent) = IsSomeAnd (name_at schema parent) (λ place. Overlap schema place name)

-- the step leads to the type at the index
pub record LeadsToIndex (schema : Schema) (index : ℕ) (s : Step) : Type 0 where
  pub name : NameText
  pub leads : LeadsTo schema name s
  pub key : NameText
  pub at : name_at schema index ≡ Some key
  pub same : SameName name key

-- the step to each type leads to it
abbrev pub StepsLead : Schema → List (Option Step) → Type 0
StepsLead schema steps = (index : ℕ) (s : Step) → step_at steps index ≡ Some s → LeadsToIndex schema index s

-- the later steps lead to their types if the earlier ones do
abbrev pub Reaches : Schema → List (Option Step) → List (Option Step) → Type 0
Reaches schema before after = StepsLead schema before → StepsLead schema after

-- the type from which the step leads, if there is one
abbrev pub start_of : Step → Option ℕ
start_of (step.Root operation) = None
start_of (step.Field parent field) = Some parent
start_of (step.Condition parent) = Some parent

-- the types at these indices lead from the root type of the operations of a kind to the type at the index, each by a step from the one before;
-- the last one is first. Specification: 2.4 Selection Sets
pub data IsWay (schema : Schema) (operation : OperationType) : ℕ → List ℕ → Type 0 where
  at_root : {index : ℕ} → LeadsToIndex schema index (step.Root operation) → IsWay schema operation index []
  behind : {index parent : ℕ} {indices : List ℕ} {s : Step} → start_of s ≡ Some parent → LeadsToIndex schema index s → IsWay schema operation parent indices →
      IsWay schema operation index (index ∷ indices)
