-- What is in braces, by how deep it may go.
use Rattle.std.proofs.Common.{◌≡◌, ℕ, zero, suc, ◌-◌, ◌≢◌, true, false, length, Err, refl, arith}
use Rattle.graphql_tokens.specs.declared.token.TokenKind.TheVariants.{LeftBrace}
use Rattle.graphql_syntax.specs.declared.refusals.Expected.TheVariants as expected
use Rattle.graphql_syntax.specs.declared.refusals.Refusal.TheVariants.{TooDeep, Unexpected}
use Rattle.graphql_syntax.specs.Inputs.{Input, sees}
use Rattle.graphql_syntax.specs.Reading.{Reader, choose, too_deep, refuse}
use Rattle.graphql_type_system_syntax.specs.BodyReaders.{in_braces_with, in_braces_at}

pub braces_deeper : {A : Type 0} (item : ℕ → Reader A) (depth : ℕ) (i : Input) →
    depth ≢ 0 → in_braces_at item depth i ≡ in_braces_with (item (depth - 1)) i
unfolding in_braces_at
braces_deeper item zero i n = absurd (n refl)
braces_deeper item (suc depth) i n = let same : suc depth - 1 ≡ depth = omega arith in rw same refl

pub braces_too_deep : {A : Type 0} (item : ℕ → Reader A) (depth : ℕ) (i : Input) →
    depth ≡ 0 → sees LeftBrace i ≡ true → in_braces_at item depth i ≡ Err (TooDeep (length i.tokens))
unfolding in_braces_at choose too_deep
braces_too_deep item zero i n e = rw e refl
braces_too_deep item (suc depth) i n e = absurd (omega arith)

pub braces_missing : {A : Type 0} (item : ℕ → Reader A) (depth : ℕ) (i : Input) →
    depth ≡ 0 → sees LeftBrace i ≡ false →
    in_braces_at item depth i ≡ Err (Unexpected (length i.tokens) (expected.Token LeftBrace))
unfolding in_braces_at choose refuse
braces_missing item zero i n e = rw e refl
braces_missing item (suc depth) i n e = absurd (omega arith)
