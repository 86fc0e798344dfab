-- The reader of selection sets, by what comes next and how deep it may go.
use Rattle.std.proofs.Common.{◌≡◌, ℕ, zero, suc, ◌-◌, ◌≢◌, true, false, length, Err, refl, arith}
use Rattle.graphql_tokens.specs.declared.token.TokenKind.TheVariants.{LeftBrace}
use Rattle.graphql_syntax.specs.declared.refusals.Expected.TheVariants as expected
use Rattle.graphql_syntax.specs.declared.refusals.Refusal.TheVariants.{Unexpected, TooDeep}
use Rattle.graphql_syntax.specs.Inputs.{Input, sees}
use Rattle.graphql_syntax.specs.Reading.{choose, refuse, too_deep}
use Rattle.graphql_executable_syntax.specs.SelectionReaders.{selection_set_with, selection_set_at, selection_at}

pub set_in_braces : (depth : ℕ) (i : Input) → depth ≢ 0 → selection_set_at depth i ≡ selection_set_with (selection_at (depth - 1)) i
unfolding selection_set_at
set_in_braces zero i n = absurd (n refl)
set_in_braces (suc depth) i n = let same : suc depth - 1 ≡ depth = omega arith in rw same refl

pub set_too_deep : (depth : ℕ) (i : Input) → sees LeftBrace i ≡ true → depth ≡ 0 → selection_set_at depth i ≡ Err (TooDeep (length i.tokens))
unfolding selection_set_at choose too_deep
set_too_deep zero i e n = rw e refl
set_too_deep (suc depth) i e n = absurd (omega arith)

pub set_unopened : (depth : ℕ) (i : Input) → sees LeftBrace i ≡ false → depth ≡ 0 →
    selection_set_at depth i ≡ Err (Unexpected (length i.tokens) (expected.Token LeftBrace))
unfolding selection_set_at choose refuse
set_unopened zero i e n = rw e refl
set_unopened (suc depth) i e n = absurd (omega arith)
