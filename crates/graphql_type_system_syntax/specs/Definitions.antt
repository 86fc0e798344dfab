-- Definitions and extensions of the type system. Specification: 3 Type System, 3.1 Type System Extensions, and
-- Appendix B.3 Document Syntax.
use Rattle.std.specs.Prelude.{ℕ}
use Rattle.graphql_trees.specs.declared.documents.Definition.{Definition}
use Rattle.graphql_trees.specs.declared.documents.Definition.TheVariants as tree
use Rattle.graphql_trees.specs.declared.type_system.DirectiveDefinition.{DirectiveDefinition}
use Rattle.graphql_trees.specs.declared.type_system.SchemaDefinition.{SchemaDefinition}
use Rattle.graphql_trees.specs.declared.type_system.TypeDefinition.{TypeDefinition}
use Rattle.graphql_syntax.specs.Inputs.{Input}
use Rattle.graphql_type_system_syntax.specs.DirectiveDefinitions.{IsDirectiveDefinition}
use Rattle.graphql_type_system_syntax.specs.Schemas.{IsSchemaDefinition, IsSchemaExtension}
use Rattle.graphql_type_system_syntax.specs.TypeDefinitions.{IsTypeDefinition}
use Rattle.graphql_type_system_syntax.specs.TypeExtensions.{IsTypeExtension}

-- TypeSystemDefinition : SchemaDefinition | TypeDefinition | DirectiveDefinition
pub data IsTypeSystemDefinition (depth : ℕ) : Input → Definition → Input → Type 0 where
  schema : (i j : Input) (x : SchemaDefinition) → IsSchemaDefinition depth i x j → IsTypeSystemDefinition depth i (tree.Schema x) j
  type_definition : (i j : Input) (x : TypeDefinition) → IsTypeDefinition depth i x j → IsTypeSystemDefinition depth i (tree.«Type» x) j
  directive : (i j : Input) (x : DirectiveDefinition) → IsDirectiveDefinition depth i x j → IsTypeSystemDefinition depth i (tree.Directive x) j

-- TypeSystemExtension : SchemaExtension | TypeExtension
pub data IsTypeSystemExtension (depth : ℕ) : Input → Definition → Input → Type 0 where
  schema : (i j : Input) (x : SchemaDefinition) → IsSchemaExtension depth i x j → IsTypeSystemExtension depth i (tree.SchemaExtension x) j
  type_extension : (i j : Input) (x : TypeDefinition) → IsTypeExtension depth i x j → IsTypeSystemExtension depth i (tree.TypeExtension x) j
