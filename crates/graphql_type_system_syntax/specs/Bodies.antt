-- What is in braces, and what separators are between. Specification: Appendix A Notation Conventions, and Appendix B.3 Document Syntax.
use Rattle.std.specs.Prelude.{ℕ, suc, true, List, [], ◌∷◌, IsFalse}
use Rattle.graphql_tokens.specs.declared.token.TokenKind.{TokenKind}
use Rattle.graphql_tokens.specs.declared.token.TokenKind.TheVariants.{LeftBrace, RightBrace}
use Rattle.graphql_trees.specs.declared.directives.Directive.{Directive}
use Rattle.graphql_syntax.specs.Directives.{IsDirective, AreDirectives}
use Rattle.graphql_syntax.specs.Inputs.{Input, Takes, sees}
use Rattle.graphql_syntax.specs.Many.{Many, Some1}

-- one item or more in braces, whose items nest a level less
pub data InBraces {A : Type 0} (R : ℕ → Input → A → Input → Type 0) : ℕ → Input → List A → Input → Type 0 where
  in_braces : {depth : ℕ} (i m n j : Input) (xs : List A) →
      Takes LeftBrace i m → Some1 (R depth) m xs n → Takes RightBrace n j → InBraces R (suc depth) i xs j

-- the same; or nothing, where no brace opens: [lookahead ≠ `{`]
pub data PerhapsInBraces {A : Type 0} (R : ℕ → Input → A → Input → Type 0) (depth : ℕ) : Input → List A → Input → Type 0 where
  absent : (i : Input) → IsFalse (sees LeftBrace i) → PerhapsInBraces R depth i [] i
  present : (i j : Input) (xs : List A) → InBraces R depth i xs j → PerhapsInBraces R depth i xs j

-- this token, or nothing
pub data MayTake (kind : TokenKind) : Input → Input → Type 0 where
  absent : (i : Input) → MayTake kind i i
  present : (i j : Input) → Takes kind i j → MayTake kind i j

-- the separator, and an item behind it
pub record IsSeparated {A : Type 0} (separator : TokenKind) (R : Input → A → Input → Type 0) (i : Input) (x : A) (j : Input) : Type 0 where
  pub behind_separator : Input
  pub takes : Takes separator i behind_separator
  pub item : R behind_separator x j

-- one item or more with the separator between them, which may also are before the first
pub data AreSeparated {A : Type 0} (separator : TokenKind) (R : Input → A → Input → Type 0) : Input → List A → Input → Type 0 where
  separated : (i m n j : Input) (x : A) (xs : List A) →
      MayTake separator i m → R m x n → Many (IsSeparated separator R) n xs j → AreSeparated separator R i (x ∷ xs) j

-- what an extension adds in braces, where directives may be before; or directives alone: Directives[Const]? { .. } | Directives[Const] [lookahead ≠
-- `{`]
pub data IsAddition {A : Type 0} (R : ℕ → Input → A → Input → Type 0) (depth : ℕ) : Input → List Directive → List A → Input → Type 0 where
  with_body : (i m j : Input) (directives : List Directive) (xs : List A) →
      AreDirectives true depth i directives m → InBraces R depth m xs j → IsAddition R depth i directives xs j
  directives_alone : (i j : Input) (directives : List Directive) →
      Some1 (IsDirective true depth) i directives j → IsFalse (sees LeftBrace j) → IsAddition R depth i directives [] j
