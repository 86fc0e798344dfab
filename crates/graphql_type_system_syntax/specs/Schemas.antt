-- The definition of a schema, and its extensions. Specification: 3.3 Schema, 3.3.2 Schema Extension, and
-- Appendix B.3 Document Syntax.
use Rattle.std.specs.Prelude.{◌≡◌, ℕ, true, None}
use Rattle.graphql_tokens.specs.declared.token.TokenKind.TheVariants.{Colon}
use Rattle.graphql_trees.specs.declared.type_system.RootOperationTypeDefinition.{RootOperationTypeDefinition}
use Rattle.graphql_trees.specs.declared.type_system.SchemaDefinition.{SchemaDefinition}
use Rattle.graphql_syntax.specs.declared.keywords.Keyword.TheVariants as keyword
use Rattle.graphql_syntax.specs.Directives.{AreDirectives}
use Rattle.graphql_syntax.specs.Inputs.{Input, Takes, TakesKeyword, IsName, between}
use Rattle.graphql_syntax.specs.Many.{Perhaps}
use Rattle.graphql_syntax.specs.OperationTypes.{IsOperationType}
use Rattle.graphql_type_system_syntax.specs.Bodies.{InBraces, IsAddition}
use Rattle.graphql_type_system_syntax.specs.InputValues.{IsDescription}

-- RootOperationTypeDefinition : OperationType : NamedType
pub record IsRootOperation (depth : ℕ) (i : Input) (x : RootOperationTypeDefinition) (j : Input) : Type 0 where
  pub behind_operation : Input
  pub behind_colon : Input
  pub operation : IsOperationType i x.operation_type behind_operation
  pub colon : Takes Colon behind_operation behind_colon
  pub name : IsName behind_colon x.name j
  pub span : x.span ≡ between i j

-- SchemaDefinition : Description? `schema` Directives[Const]? { RootOperationTypeDefinition+ }
pub record IsSchemaDefinition (depth : ℕ) (i : Input) (x : SchemaDefinition) (j : Input) : Type 0 where
  pub behind_description : Input
  pub behind_schema : Input
  pub behind_directives : Input
  pub description : Perhaps IsDescription i x.description behind_description
  pub word : TakesKeyword keyword.Schema behind_description behind_schema
  pub directives : AreDirectives true depth behind_schema x.directives behind_directives
  pub root_operations : InBraces IsRootOperation depth behind_directives x.root_operations j
  pub span : x.span ≡ between i j

-- SchemaExtension : `extend` `schema` Directives[Const]? { RootOperationTypeDefinition+ }
--                 | `extend` `schema` Directives[Const] [lookahead ≠ `{`]
pub record IsSchemaExtension (depth : ℕ) (i : Input) (x : SchemaDefinition) (j : Input) : Type 0 where
  pub behind_extend : Input
  pub behind_schema : Input
  pub extend : TakesKeyword keyword.Extend i behind_extend
  pub word : TakesKeyword keyword.Schema behind_extend behind_schema
  pub addition : IsAddition IsRootOperation depth behind_schema x.directives x.root_operations j
  pub description : x.description ≡ None
  pub span : x.span ≡ between i j
