-- When the trees of texts say a typed schema. Specification: 3 Type System.
use Rattle.std.specs.Prelude.{◌≡◌, Bool, not, List, [], ◌∷◌, ◌++◌, Option, None, Some, filter, find, map, unwrap_or}
use Rattle.std.specs.List.{AllZip, list_any}
use Rattle.graphql_nodes.specs.Names.{NameText, same_name}
use Rattle.graphql_nodes.specs.declared.nodes.Node.{Node}
use Rattle.graphql_nodes.specs.declared.operation_types.OperationType.{OperationType}
use Rattle.graphql_nodes.specs.declared.operation_types.OperationType.TheVariants.{Query, Mutation, Subscription}
use Rattle.graphql_nodes.specs.declared.spans.SourceSpan.{SourceSpan}
use Rattle.graphql_documents.specs.MetaFields.{ComponentHasNoPlace}
use Rattle.graphql_documents.specs.declared.documents.components.ComponentName.{ComponentName}
use Rattle.graphql_documents.specs.declared.documents.components.ComponentOrigin.TheVariants as origin
use Rattle.graphql_documents.specs.declared.documents.definitions.DirectiveDefinition as typed_directive
use Rattle.graphql_documents.specs.declared.documents.meta_fields.MetaFields.{MetaFields}
use Rattle.graphql_documents.specs.declared.documents.schemas.ExtendedType.{ExtendedType}
use Rattle.graphql_documents.specs.declared.documents.schemas.Schema.{Schema}
use Rattle.graphql_documents.specs.declared.documents.schemas.SchemaDefinition as typed
use Rattle.graphql_trees.specs.declared.documents.Definition.{Definition}
use Rattle.graphql_trees.specs.declared.documents.Document.{Document}
use Rattle.graphql_trees.specs.declared.type_system.DirectiveDefinition.{DirectiveDefinition}
use Rattle.graphql_trees.specs.declared.type_system.SchemaDefinition.{SchemaDefinition}
use Rattle.graphql_trees.specs.declared.type_system.TypeDefinition.{TypeDefinition}
use Rattle.graphql_leaf_building.specs.Definitions.{DirectiveDefinitionSays}
use Rattle.graphql_leaf_building.specs.Directives.{DirectiveSays}
use Rattle.graphql_schema_checking.specs.Definitions.{definitions_in, directives, is_built_in_name, name_of, schemas, types}
use Rattle.graphql_schema_checking.specs.SchemaBuilds.{default_roots, roots_of_kind}
use Rattle.graphql_schema_building.specs.Parts.{ComponentsSay, Originated, listed_by, names_said, schema_parts}
use Rattle.graphql_schema_building.specs.TypesSay.{TypeSays}

-- the types that the definition of the schema and its extensions name as the root of a kind of operations; where
-- it is not defined, before them the type of the default name. Specification: 3.3.1 Root Operation Types
abbrev pub implied_roots : List Definition → OperationType → List SchemaDefinition → List (Originated NameText)
implied_roots definitions operation [] = map (λ name. (origin.Definition, name)) (default_roots operation (types definitions))
implied_roots definitions operation (d ∷ ds) = []

abbrev pub roots_said : List Definition → OperationType → List ComponentName
roots_said definitions operation =
    names_said (implied_roots definitions operation (schemas definitions) ++
    listed_by (λ part. roots_of_kind operation part.root_operations) (schema_parts definitions))

-- what is first, if something does
abbrev pub first_of_list : {T : Type 0} → List T → Option T
first_of_list [] = None
first_of_list (x ∷ xs) = Some x

-- where the schema is defined, if it is
abbrev pub schema_place : List SchemaDefinition → Option SourceSpan
schema_place [] = None
schema_place (d ∷ ds) = Some d.span

-- the definition of the schema itself, with its extensions. Specification: 3.3 Schema
pub record SchemaDefinitionSays (definitions : List Definition) (d : Node typed.SchemaDefinition) : Type 0 where
  pub directives : ComponentsSay DirectiveSays (listed_by (λ part. part.directives) (schema_parts definitions)) d.value.value.directives.items
  pub query : d.value.value.query ≡ first_of_list (roots_said definitions Query)
  pub mutation : d.value.value.mutation ≡ first_of_list (roots_said definitions Mutation)
  pub subscription : d.value.value.subscription ≡ first_of_list (roots_said definitions Subscription)
  pub location : d.location ≡ schema_place (schemas definitions)

abbrev pub is_built_in_directive : DirectiveDefinition → Bool
is_built_in_directive d = is_built_in_name d.name

-- the definition of a text that has the name of this one, or else this one
abbrev pub in_place_of : List DirectiveDefinition → DirectiveDefinition → DirectiveDefinition
in_place_of own d = unwrap_or (find (λ o. same_name o.name d.name) own) d

-- the directives of a schema: those that every schema has, in whose places are those of texts that have their names; then the others of texts.
-- Specification: 3.13 Directives
abbrev pub directives_with : List DirectiveDefinition → List DirectiveDefinition → List DirectiveDefinition
directives_with built_in own =
    map (in_place_of own) built_in ++ filter (λ o. not (list_any (λ d. same_name d.name o.name) built_in)) own

abbrev pub directives_said : List Definition → List DirectiveDefinition
directives_said definitions =
    directives_with (filter is_built_in_directive (directives definitions))
    (filter (λ d. not (is_built_in_directive d)) (directives definitions))

-- the definitions of directives, each under its name
abbrev pub DirectivesStand : List DirectiveDefinition → List (NameText × Node typed_directive.DirectiveDefinition) → Type 0
DirectivesStand written entries = AllZip (λ d entry. (entry.0 ≡ d.name) × DirectiveDefinitionSays d entry.1) written entries

-- the types are what these definitions say among all, each under its name
abbrev pub TypesStand : List Definition → List TypeDefinition → List (NameText × ExtendedType) → Type 0
TypesStand definitions written entries = AllZip (λ d entry. (entry.0 ≡ name_of d) × TypeSays definitions d entry.1) written entries

-- the meta-fields, which no text holds. Specification: 4.1 Type Name Introspection, 4.2 Schema Introspection
pub record MetaFieldsHaveNoPlace (fields : MetaFields) : Type 0 where
  pub typename : ComponentHasNoPlace fields.typename
  pub schema : ComponentHasNoPlace fields.schema
  pub type_by_name : ComponentHasNoPlace fields.type_by_name

-- these definitions say the schema
pub record DefinitionsSay (definitions : List Definition) (schema : Schema) : Type 0 where
  -- 3.3 Schema
  pub schema_definition : SchemaDefinitionSays definitions schema.schema_definition
  -- 3.13 Directives
  pub directive_definitions : DirectivesStand (directives_said definitions) schema.directive_definitions.entries
  -- 3.4 Types: in the order of their definitions, each under its name
  pub types_are : TypesStand definitions (types definitions) schema.types.entries
  pub meta_fields : MetaFieldsHaveNoPlace schema.meta_fields

-- the texts with these trees say the schema
abbrev pub SchemaSays : List Document → Schema → Type 0
SchemaSays trees schema = DefinitionsSay (definitions_in trees) schema
