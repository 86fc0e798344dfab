-- What a report says of texts that make no schema.
use Rattle.std.specs.Prelude.{◌≡◌, Bool, List, ◌∷◌, Option, None, Some, Contains, IsTrue, IsFalse, filter, map, not}
use Rattle.graphql_nodes.specs.Names.{NameText}
use Rattle.graphql_nodes.specs.declared.operation_types.OperationType.{OperationType}
use Rattle.graphql_nodes.specs.declared.spans.SourceSpan.{SourceSpan}
use Rattle.graphql_trees.specs.declared.documents.Definition.TheVariants as definition
use Rattle.graphql_trees.specs.declared.documents.Definition.{Definition}
use Rattle.graphql_trees.specs.declared.documents.Document.{Document}
use Rattle.graphql_trees.specs.declared.type_system.SchemaDefinition.{SchemaDefinition}
use Rattle.graphql_trees.specs.declared.type_system.TypeDefinition.{TypeDefinition}
use Rattle.graphql_schema_checking.specs.Definitions.{built_in_directive_names, definitions_in, executables, is_built_in_name, is_interface, kind_of, name_of, own_directive_names, redefines_scalar, same_kind, schema_extensions, schemas, span_of, type_extensions, type_named, types}
use Rattle.graphql_schema_checking.specs.SchemaBuilds.{all_interface_names, all_member_names, has_schema, implemented_names, roots}
use Rattle.graphql_building_reports.specs.Checks.{Says}
use Rattle.graphql_building_reports.specs.declared.lists.BuildingReport.{BuildingReport}
use Rattle.graphql_building_reports.specs.declared.rules.BuildingRule.TheVariants as rule
use Rattle.graphql_building_reports.specs.declared.rules.BuildingRule.{BuildingRule}
use Rattle.graphql_building_reports.specs.declared.kinds.ExecutableKind.TheVariants as executable
use Rattle.graphql_building_reports.specs.declared.kinds.ExecutableKind.{ExecutableKind}
use Rattle.graphql_repetitions.specs.Repetitions.{RepetitionReport}

-- the kind of a definition that can be executed, if it is one, and where it is
abbrev pub IsExecutable : Definition → ExecutableKind → SourceSpan → Type 0
IsExecutable (definition.Operation d) kind span = (kind ≡ executable.Operation) × (span ≡ d.span)
IsExecutable (definition.Fragment d) kind span = (kind ≡ executable.Fragment) × (span ≡ d.span)
IsExecutable _ kind span = ⊥

pub record ExecutableReport (definitions : List Definition) (report : BuildingReport) : Type 0 where
  pub at : Definition
  pub kind : ExecutableKind
  pub span : SourceSpan
  pub among : Contains definitions at
  pub is_executable : IsExecutable at kind span
  pub says : Says (rule.ExecutableDefinition kind) (Some span) report

-- there is more than one, of which the first and a later one are there
pub record IsLater (places : List (Option SourceSpan)) (original at : Option SourceSpan) : Type 0 where
  pub rest : List (Option SourceSpan)
  pub split : places ≡ original ∷ rest
  pub later : Contains rest at

-- the report says that there is more than one
pub record LaterReport (places : List (Option SourceSpan)) (broken : Option SourceSpan → BuildingRule) (report : BuildingReport) : Type 0 where
  pub original : Option SourceSpan
  pub at : Option SourceSpan
  pub is_later : IsLater places original at
  pub says : Says (broken original) at report

pub record ScalarReport (definitions : List TypeDefinition) (report : BuildingReport) : Type 0 where
  pub d : TypeDefinition
  pub among : Contains definitions d
  pub redefines : IsTrue (redefines_scalar d)
  pub says : Says rule.BuiltInScalarTypeRedefinition (Some (span_of d)) report

-- an extension of a type that is not defined
pub record OrphanReport (definitions extensions : List TypeDefinition) (report : BuildingReport) : Type 0 where
  pub e : TypeDefinition
  pub among : Contains extensions e
  pub undefined : type_named definitions (name_of e) ≡ None
  pub says : Says (rule.OrphanTypeExtension (name_of e)) (name_of e).location report

-- an extension of a type that every schema has
pub record BuiltInExtensionReport (definitions extensions : List TypeDefinition) (report : BuildingReport) : Type 0 where
  pub e : TypeDefinition
  pub d : TypeDefinition
  pub among : Contains extensions e
  pub defined : type_named definitions (name_of e) ≡ Some d
  pub built_in : IsTrue (is_built_in_name (name_of d))
  pub says : Says (rule.BuiltInTypeExtension (name_of e)) (name_of e).location report

-- an extension of a type that is of another kind
pub record MismatchReport (definitions extensions : List TypeDefinition) (report : BuildingReport) : Type 0 where
  pub e : TypeDefinition
  pub d : TypeDefinition
  pub among : Contains extensions e
  pub defined : type_named definitions (name_of e) ≡ Some d
  pub differ : IsFalse (same_kind (kind_of d) (kind_of e))
  pub says : Says (rule.TypeExtensionKindMismatch (name_of e) (kind_of e) (kind_of d) (name_of d).location) (name_of e).location report

-- an extension extends no type
pub data ExtensionReport (definitions extensions : List TypeDefinition) (report : BuildingReport) : Type 0 where
  of_orphan : OrphanReport definitions extensions report → ExtensionReport definitions extensions report
  of_built_in : BuiltInExtensionReport definitions extensions report → ExtensionReport definitions extensions report
  of_mismatch : MismatchReport definitions extensions report → ExtensionReport definitions extensions report

-- a type is implemented that is no interface
pub record NonInterfaceReport (definitions : List TypeDefinition) (names : List NameText) (report : BuildingReport) : Type 0 where
  pub name : NameText
  pub d : TypeDefinition
  pub among : Contains names name
  pub defined : type_named definitions name ≡ Some d
  pub is_none : IsFalse (is_interface d)
  pub says : Says (rule.ImplementedNonInterface name (kind_of d) (name_of d).location) name.location report

-- an extension of the schema, where there is none
pub record OrphanSchemaReport (there_is : Bool) (extensions : List SchemaDefinition) (report : BuildingReport) : Type 0 where
  pub e : SchemaDefinition
  pub among : Contains extensions e
  pub no_schema : IsFalse there_is
  pub says : Says rule.OrphanSchemaExtension (Some e.span) report

-- the names of the types of which a repetition is reported: a built-in scalar that is defined is reported
-- as such
abbrev pub repeatable_type_names : List TypeDefinition → List NameText
repeatable_type_names definitions = map name_of (filter (λ d. not (redefines_scalar d)) definitions)

-- something of a type is there again
pub data PartsReport (definitions : List Definition) (d : TypeDefinition) (report : BuildingReport) : Type 0 where
  of_member : RepetitionReport (all_member_names definitions d) (rule.MemberNameCollision (kind_of d) (name_of d)) report → PartsReport definitions d report
  of_interface : RepetitionReport (all_interface_names definitions d) (rule.DuplicateImplementsInterface (kind_of d) (name_of d)) report → PartsReport definitions d report

-- where the definitions of the schema are
abbrev pub schema_places : List Definition → List (Option SourceSpan)
schema_places definitions = map (λ d. Some d.span) (schemas definitions)

-- where the roots of a kind of operations are named
abbrev pub root_places : List Definition → OperationType → List (Option SourceSpan)
root_places definitions operation = map (λ name. name.location) (roots definitions operation)

-- the report is true of these definitions
pub data DefinitionsReport (definitions : List Definition) (report : BuildingReport) : Type 0 where
  of_executable : ExecutableReport (executables definitions) report → DefinitionsReport definitions report
  of_schema : LaterReport (schema_places definitions) rule.SchemaDefinitionCollision report → DefinitionsReport definitions report
  of_root : {operation : OperationType} → LaterReport (root_places definitions operation) (rule.DuplicateRootOperation operation) report →
      DefinitionsReport definitions report
  of_scalar : ScalarReport (types definitions) report → DefinitionsReport definitions report
  of_type : RepetitionReport (repeatable_type_names (types definitions)) rule.TypeDefinitionCollision report → DefinitionsReport definitions report
  of_directive : RepetitionReport (own_directive_names definitions) rule.DirectiveDefinitionCollision report → DefinitionsReport definitions report
  of_built_in_directive : RepetitionReport (built_in_directive_names definitions) rule.DirectiveDefinitionCollision report → DefinitionsReport definitions report
  of_extension : ExtensionReport (types definitions) (type_extensions definitions) report → DefinitionsReport definitions report
  of_implemented : NonInterfaceReport (types definitions) (implemented_names definitions) report → DefinitionsReport definitions report
  of_orphan_schema : OrphanSchemaReport (has_schema definitions) (schema_extensions definitions) report → DefinitionsReport definitions report
  of_parts : {d : TypeDefinition} → Contains (types definitions) d → PartsReport definitions d report → DefinitionsReport definitions report

-- the report is true of the texts with these trees
abbrev pub SchemaBuildingReport : List Document → BuildingReport → Type 0
SchemaBuildingReport trees report = DefinitionsReport (definitions_in trees) report
