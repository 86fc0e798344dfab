-- What a text is, within bounds. Specification: 2.2 Document.
use Rattle.std.specs.Prelude.{◌≡◌, ℕ, ◌≤◌, List, [], length}
use Rattle.graphql_nodes.specs.declared.spans.FileId.{FileId}
use Rattle.graphql_tokens.specs.Lexical.{AreTokens}
use Rattle.graphql_tokens.specs.declared.token.Token.{Token}
use Rattle.graphql_trees.specs.declared.documents.Document.{Document}
use Rattle.graphql_parser.specs.declared.bounds.Bounds.{Bounds}
use Rattle.graphql_parser.specs.Documents.{IsDocument}
use Rattle.graphql_syntax.specs.Inputs.{Input}

-- the tokens of a text, before any is read
abbrev pub whole_input : FileId → List ℕ → List Token → Input
whole_input file_id text tokens = record { file_id = file_id; source = text; tokens = tokens; ended = 0 }

-- the text is this document, and no token follows it
pub record ParsesDocument (bounds : Bounds) (file_id : FileId) (text : List ℕ) (tree : Document) : Type 0 where
  pub tokens : List Token
  pub end : Input
  pub are_tokens : AreTokens text tokens
  pub few : length tokens ≤ bounds.tokens
  pub is_document : IsDocument bounds.depth (whole_input file_id text tokens) tree end
  pub whole : end.tokens ≡ []
