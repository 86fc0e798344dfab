-- Operations: `IsOperationDefinition depth i tree j` where the tokens from i up to j are the operation, and brackets and braces are nested at most so
-- deep in one another. Specification: 2.3 Operations, 2.10 Variables, and Appendix B.3 Document Syntax.
use Rattle.std.specs.Prelude.{◌≡◌, ℕ, true, false, ◌||◌, List, [], None}
use Rattle.graphql_tokens.specs.declared.token.TokenKind.TheVariants.{Colon, LeftBrace, LeftParenthesis, RightParenthesis}
use Rattle.graphql_trees.specs.declared.executable.OperationDefinition.{OperationDefinition}
use Rattle.graphql_nodes.specs.declared.operation_types.OperationType.TheVariants as tree
use Rattle.graphql_trees.specs.declared.executable.VariableDefinition.{VariableDefinition}
use Rattle.graphql_syntax.specs.Inputs.{Input, TokenTest, is_kind, Takes, IsName, between}
use Rattle.graphql_syntax.specs.DefaultValues.{IsDefaultValue}
use Rattle.graphql_syntax.specs.Directives.{AreDirectives}
use Rattle.graphql_syntax.specs.Many.{Some1, Perhaps, PerhapsList}
use Rattle.graphql_syntax.specs.OperationTypes.{IsOperationType, is_operation_type}
use Rattle.graphql_syntax.specs.Types.{IsType}
use Rattle.graphql_syntax.specs.Values.{IsVariable}
use Rattle.graphql_executable_syntax.specs.Selections.{IsSelectionSet}

-- VariableDefinition : Variable : Type DefaultValue? Directives[Const]?
pub record IsVariableDefinition (depth : ℕ) (i : Input) (x : VariableDefinition) (j : Input) : Type 0 where
  pub behind_variable : Input
  pub behind_colon : Input
  pub behind_type : Input
  pub behind_default : Input
  pub variable : IsVariable i x.variable behind_variable
  pub colon : Takes Colon behind_variable behind_colon
  pub type_reference : IsType depth behind_colon x.type_reference behind_type
  pub default_value : Perhaps (IsDefaultValue depth) behind_type x.default_value behind_default
  pub directives : AreDirectives true depth behind_default x.directives j
  pub span : x.span ≡ between i j

-- VariableDefinitions : ( VariableDefinition+ )
pub record AreVariableDefinitions (depth : ℕ) (i : Input) (xs : List VariableDefinition) (j : Input) : Type 0 where
  pub inside : Input
  pub before_closing : Input
  pub opening : Takes LeftParenthesis i inside
  pub definitions : Some1 (IsVariableDefinition depth) inside xs before_closing
  pub closing : Takes RightParenthesis before_closing j

-- OperationType Name? VariableDefinitions? Directives? SelectionSet
pub record IsFullOperation (depth : ℕ) (i : Input) (x : OperationDefinition) (j : Input) : Type 0 where
  pub behind_type : Input
  pub behind_name : Input
  pub behind_variables : Input
  pub behind_directives : Input
  pub operation_type : IsOperationType i x.operation_type behind_type
  pub name : Perhaps IsName behind_type x.name behind_name
  pub variables : PerhapsList (AreVariableDefinitions depth) behind_name x.variables behind_variables
  pub directives : AreDirectives false depth behind_variables x.directives behind_directives
  pub selection_set : IsSelectionSet depth behind_directives x.selection_set j
  pub span : x.span ≡ between i j

-- SelectionSet alone: a query. Specification: 2.3 Operations, Query shorthand
pub record IsShorthand (depth : ℕ) (i : Input) (x : OperationDefinition) (j : Input) : Type 0 where
  pub operation_type : x.operation_type ≡ tree.Query
  pub name : x.name ≡ None
  pub variables : x.variables ≡ []
  pub directives : x.directives ≡ []
  pub selection_set : IsSelectionSet depth i x.selection_set j
  pub span : x.span ≡ between i j

-- OperationDefinition : OperationType Name? VariableDefinitions? Directives? SelectionSet | SelectionSet
pub data IsOperationDefinition (depth : ℕ) : Input → OperationDefinition → Input → Type 0 where
  full : (i j : Input) (x : OperationDefinition) → IsFullOperation depth i x j → IsOperationDefinition depth i x j
  shorthand : (i j : Input) (x : OperationDefinition) → IsShorthand depth i x j → IsOperationDefinition depth i x j

-- what an operation begins with
abbrev pub begins_operation : TokenTest
begins_operation source t = is_kind LeftBrace source t || is_operation_type source t
