-- Readers, as functions of what is before them: what is read and the tokens behind it, or a refusal.
-- That they answer by the grammar is proved.
use Rattle.std.specs.Prelude.{◌≡◌, ℕ, zero, suc, not, true, List, [], ◌∷◌, ◌++◌, length, Option, None, Some, Result, Ok, Err, if◌then◌else◌}
use Rattle.graphql_nodes.specs.Names.{NameText}
use Rattle.graphql_nodes.specs.declared.spans.SourceSpan.{SourceSpan}
use Rattle.graphql_tokens.specs.declared.token.TokenKind.{TokenKind}
use Rattle.graphql_tokens.specs.declared.token.TokenKind.TheVariants.{Name}
use Rattle.graphql_syntax.specs.declared.cursor.Cursor.{Cursor}
use Rattle.graphql_syntax.specs.declared.keywords.Keyword.{Keyword}
use Rattle.graphql_syntax.specs.declared.production.More.{More}
use Rattle.graphql_syntax.specs.declared.production.More.TheVariants.{Until, While, UntilEnd}
use Rattle.graphql_syntax.specs.declared.refusals.Expected.{Expected}
use Rattle.graphql_syntax.specs.declared.refusals.Expected.TheVariants as expected
use Rattle.graphql_syntax.specs.declared.refusals.Refusal.{Refusal}
use Rattle.graphql_syntax.specs.declared.refusals.Refusal.TheVariants.{OutOfMemory, Unexpected, TooDeep}
use Rattle.graphql_syntax.specs.Inputs.{Input, TokenTest, is_kind, is_keyword, next_passes, behind, start_of, next_text, span_from, between}

abbrev pub Reader : Type 0 → Type 0
Reader A = Input → Result (A × Input) Refusal

-- the input that a cursor stands for
abbrev pub input : Cursor → Input
input c = record {
  file_id = c.file_id;
  source = c.source.now;
  tokens = c.tokens.now;
  ended = c.ended;
}

-- what a call answered, seen by view, is what a reader answers, unless memory is refused
abbrev pub Fails : {Y : Type 0} → Refusal → Result Y Refusal → Type 0
Fails OutOfMemory read = Unit {0}
Fails (Unexpected left expected) read = read ≡ Err (Unexpected left expected)
Fails (TooDeep left) read = read ≡ Err (TooDeep left)

abbrev pub Reads : {X Y : Type 0} → (X → Y) → Result X Refusal → Result Y Refusal → Type 0
Reads view (Ok x) read = read ≡ Ok (view x)
Reads view (Err e) read = Fails e read

-- nothing is read
unfoldable pub answer : {A : Type 0} → A → Reader A
answer x i = Ok (x, i)

-- another token was to come
unfoldable pub refuse : {A : Type 0} → Expected → Reader A
refuse expected i = Err (Unexpected (length i.tokens) expected)

-- one more bracket opens than may be open
unfoldable pub too_deep : {A : Type 0} → Reader A
too_deep i = Err (TooDeep (length i.tokens))

-- one reader, and then the other
abbrev pub and_then : {A B : Type 0} → Result A Refusal → (A → Result B Refusal) → Result B Refusal
and_then (Ok x) f = f x
and_then (Err e) f = Err e

unfoldable pub sequence : {A B : Type 0} → Reader A → (A → Reader B) → Reader B
sequence p q i = and_then (p i) (λ found. q found.0 found.1)

infixl 10 ◌>>=◌
abbrev pub ◌>>=◌ : {A B : Type 0} → Reader A → (A → Reader B) → Reader B
p >>= q = sequence p q

-- one reader or the other, by the next token
unfoldable pub choose : {A : Type 0} → TokenTest → Reader A → Reader A → Reader A
choose test p q i = if next_passes test i then p i else q i

-- a reader that knows where it began, and the place from there
unfoldable pub starting : {A : Type 0} → (ℕ → Reader A) → Reader A
starting f i = f (start_of i) i

unfoldable pub place : ℕ → Reader SourceSpan
place start i = Ok (span_from start i, i)

-- one token
unfoldable pub take_one : TokenTest → Expected → Reader (Unit {0})
take_one test expected i = if next_passes test i then Ok (tt, behind i) else refuse expected i

abbrev pub expect : TokenKind → Reader (Unit {0})
expect kind = take_one (is_kind kind) (expected.Token kind)

abbrev pub expect_keyword : Keyword → Reader (Unit {0})
expect_keyword keyword = take_one (is_keyword keyword) (expected.Keyword keyword)

-- the text of one token, read as a value
abbrev pub value_or_refuse : {A : Type 0} → Option A → Expected → Reader A
value_or_refuse None expected i = refuse expected i
value_or_refuse (Some x) expected i = Ok (x, behind i)

unfoldable pub text_with : {A : Type 0} → TokenTest → (List ℕ → Option A) → Expected → Reader A
text_with test value expected i = if next_passes test i then value_or_refuse (value (next_text i)) expected i else refuse expected i

-- a name
abbrev pub name_here : Input → NameText
name_here i = record { text = next_text i; location = Some (between i (behind i)) }

unfoldable pub name_at : Reader NameText
name_at i = if next_passes (is_kind Name) i then Ok (name_here i, behind i) else refuse (expected.Token Name) i

-- whether one more comes of what is read one after another
abbrev pub more_test : More → TokenTest
more_test (Until closing) = λ source t. not (is_kind closing source t)
more_test (While opening) = is_kind opening
more_test UntilEnd = λ source t. true

-- behind those found, as many as there are, in so many turns at most
unfoldable pub many_from : {A : Type 0} → TokenTest → Reader A → ℕ → List A → Reader (List A)
many_from test item zero found = answer found
many_from test item (suc turns) found = choose test (item >>= λ x. many_from test item turns (found ++ x ∷ [])) (answer found)

unfoldable pub many_behind : {A : Type 0} → TokenTest → Reader A → List A → Reader (List A)
many_behind test item found i = many_from test item (length i.tokens) found i

abbrev pub many : {A : Type 0} → TokenTest → Reader A → Reader (List A)
many test item = many_behind test item []

-- at least one
unfoldable pub some_of : {A : Type 0} → TokenTest → Reader A → Reader (List A)
some_of test item = item >>= λ first. many_behind test item (first ∷ [])
