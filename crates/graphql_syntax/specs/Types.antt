-- Type references: `IsType depth i tree j` where the tokens from i up to j are the type, and lists are nested at most so deep in one another.
-- Specification: 2.11 Type References, and Appendix B.3 Document Syntax.
use Rattle.std.specs.Prelude.{ℕ, suc}
use Rattle.graphql_nodes.specs.Names.{NameText}
use Rattle.graphql_tokens.specs.declared.token.TokenKind.TheVariants.{ExclamationMark, LeftBracket, RightBracket}
use Rattle.graphql_trees.specs.declared.types.TypeReference.{TypeReference}
use Rattle.graphql_trees.specs.declared.types.TypeReference.TheVariants as tree
use Rattle.graphql_syntax.specs.Inputs.{Input, Takes, IsName, between}

-- Type : NamedType | ListType | NonNullType
pub data IsType : ℕ → Input → TypeReference → Input → Type 0 where
  -- NamedType : Name
  named : {depth : ℕ} (i j : Input) (name : NameText) → IsName i name j → IsType depth i (tree.Named name) j
  -- ListType : [ Type ]
  list : {depth : ℕ} (i m n j : Input) (item : TypeReference) →
      Takes LeftBracket i m → IsType depth m item n → Takes RightBracket n j → IsType (suc depth) i (tree.List item (between i j)) j
  -- NonNullType : NamedType !
  non_null_named : {depth : ℕ} (i m j : Input) (name : NameText) →
      IsName i name m → Takes ExclamationMark m j → IsType depth i (tree.NonNullNamed name (between i j)) j
  -- NonNullType : ListType !
  non_null_list : {depth : ℕ} (i m n k j : Input) (item : TypeReference) →
      Takes LeftBracket i m → IsType depth m item n → Takes RightBracket n k → Takes ExclamationMark k j →
      IsType (suc depth) i (tree.NonNullList item (between i j)) j
