-- Readers of what is in braces, and of what separators are between. That they answer by the grammar is proved.
use Rattle.std.specs.Prelude.{ℕ, zero, suc, Bool, true, false, List, [], ◌∷◌}
use Rattle.graphql_tokens.specs.declared.token.TokenKind.{TokenKind}
use Rattle.graphql_tokens.specs.declared.token.TokenKind.TheVariants.{LeftBrace, RightBrace}
use Rattle.graphql_syntax.specs.declared.production.More.TheVariants.{Until}
use Rattle.graphql_syntax.specs.declared.refusals.Expected.TheVariants as expected
use Rattle.graphql_syntax.specs.Inputs.{is_kind}
use Rattle.graphql_syntax.specs.Reading.{Reader, ◌>>=◌, answer, refuse, choose, expect, too_deep, more_test, many_behind, some_of}

unfoldable pub in_braces_with : {A : Type 0} → Reader A → Reader (List A)
in_braces_with item = do
  opening ← expect LeftBrace
  found ← some_of (more_test (Until RightBrace)) item
  closing ← expect RightBrace
  answer found

unfoldable pub in_braces_at : {A : Type 0} → (ℕ → Reader A) → ℕ → Reader (List A)
in_braces_at item zero = choose (is_kind LeftBrace) too_deep (refuse (expected.Token LeftBrace))
in_braces_at item (suc depth) = in_braces_with (item depth)

-- none where no brace opens
unfoldable pub perhaps_in_braces_at : {A : Type 0} → (ℕ → Reader A) → ℕ → Reader (List A)
perhaps_in_braces_at item depth = choose (is_kind LeftBrace) (in_braces_at item depth) (answer [])

unfoldable pub may_take : TokenKind → Reader (Unit {0})
may_take kind = choose (is_kind kind) (expect kind) (answer tt)

unfoldable pub separated_with : {A : Type 0} → TokenKind → Reader A → Reader A
separated_with separator item = do
  sign ← expect separator
  item

unfoldable pub separated_at : {A : Type 0} → TokenKind → Reader A → Reader (List A)
separated_at separator item = do
  sign ← may_take separator
  first ← item
  many_behind (is_kind separator) (separated_with separator item) (first ∷ [])

-- there is one at least
abbrev pub is_filled : {A : Type 0} → List A → Bool
is_filled [] = false
is_filled (x ∷ xs) = true

-- an extension that adds something
unfoldable pub with_part : {A : Type 0} → Bool → A → Reader A
with_part true x = answer x
with_part false x = refuse expected.ExtensionPart
