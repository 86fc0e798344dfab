-- Default values of variables, of arguments and of fields of input objects: `IsDefaultValue depth i tree j` where the tokens from i up to j are the
-- default value, and lists and objects are nested at most so deep in one another. Specification: 2.10 Variables, and Appendix B.3 Document Syntax.
use Rattle.std.specs.Prelude.{ℕ, true}
use Rattle.graphql_tokens.specs.declared.token.TokenKind.TheVariants.{Equals}
use Rattle.graphql_trees.specs.declared.values.Value.{Value}
use Rattle.graphql_syntax.specs.Inputs.{Input, Takes}
use Rattle.graphql_syntax.specs.Values.{IsValue}

-- DefaultValue : = Value[Const]
pub record IsDefaultValue (depth : ℕ) (i : Input) (x : Value) (j : Input) : Type 0 where
  pub behind_equals : Input
  pub equals : Takes Equals i behind_equals
  pub value : IsValue true depth behind_equals x j
