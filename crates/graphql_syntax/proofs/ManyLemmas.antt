-- What is read one after another, turn by turn.
use Rattle.std.proofs.Common.{◌≡◌, ℕ, zero, suc, ◌-◌, ◌<◌, true, false, List, [], ◌∷◌, ◌++◌, length, Ok, refl, arith}
use Rattle.graphql_syntax.specs.Inputs.{Input, TokenTest, next_passes}
use Rattle.graphql_syntax.specs.Reading.{Reader, Fails, sequence, choose, answer, many_from, many_behind}
use Rattle.graphql_syntax.specs.declared.refusals.Refusal.{Refusal}
use Rattle.graphql_syntax.specs.declared.refusals.Refusal.TheVariants.{OutOfMemory, Unexpected, TooDeep}

pub first_turn : {A : Type 0} (test : TokenTest) (item : Reader A) (found : List A) (i : Input) (left : ℕ) → length i.tokens ≡ left →
    many_behind test item found i ≡ many_from test item (left - 0) found i
unfolding many_behind
first_turn test item found i left counted = let same : left - 0 ≡ length i.tokens = omega (arith, counted) in rw same refl

pub one_more : {A : Type 0} (test : TokenTest) (item : Reader A) (turns : ℕ) (found : List A) (i : Input) (x : A) (j : Input) →
    next_passes test i ≡ true → 0 < turns → item i ≡ Ok (x, j) → many_from test item turns found i ≡ many_from test item (turns - 1) (found ++ x ∷ []) j
unfolding many_from choose sequence
one_more test item zero found i x j s n e = absurd (omega arith)
one_more test item (suc turns) found i x j s n e = let same : suc turns - 1 ≡ turns = omega arith in rw (s, e, same) refl

pub broken : {A : Type 0} (test : TokenTest) (item : Reader A) (turns : ℕ) (found : List A) (i : Input) (refusal : Refusal) →
    next_passes test i ≡ true → 0 < turns → Fails refusal (item i) → Fails refusal (many_from test item turns found i)
unfolding many_from choose sequence
broken test item zero found i refusal s n e = absurd (omega arith)
broken test item (suc turns) found i OutOfMemory s n e = tt
broken test item (suc turns) found i (Unexpected left expected) s n e = rw (s, e) refl
broken test item (suc turns) found i (TooDeep left) s n e = rw (s, e) refl

pub no_more : {A : Type 0} (test : TokenTest) (item : Reader A) (turns : ℕ) (found : List A) (i : Input) →
    next_passes test i ≡ false → many_from test item turns found i ≡ Ok (found, i)
unfolding many_from choose answer
no_more test item zero found i s = refl
no_more test item (suc turns) found i s = rw s refl

pub no_turns : {A : Type 0} (test : TokenTest) (item : Reader A) (turns : ℕ) (found : List A) (i : Input) →
    turns ≡ 0 → many_from test item turns found i ≡ Ok (found, i)
unfolding many_from answer
no_turns test item zero found i e = refl
no_turns test item (suc turns) found i e = absurd (omega arith)
