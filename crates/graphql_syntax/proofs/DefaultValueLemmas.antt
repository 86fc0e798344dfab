-- The reader of default values answers by their grammar.
use Rattle.std.proofs.Common.{◌≡◌, ℕ, ◌≤◌, true, false, not, ◌&&◌, Bool, inl, inr, length, Option, None, Some, Ok, refl, ◌∙◌, arith}
use Rattle.graphql_tokens.specs.declared.token.TokenKind.{TokenKind}
use Rattle.graphql_tokens.specs.declared.token.TokenKind.TheVariants.{Equals}
use Rattle.graphql_trees.specs.declared.values.Value.{Value}
use Rattle.graphql_syntax.specs.declared.refusals.Expected.TheVariants as expected
use Rattle.graphql_syntax.specs.DefaultValues.{IsDefaultValue}
use Rattle.graphql_syntax.specs.DefaultValueReaders.{default_value_at}
use Rattle.graphql_syntax.specs.Inputs.{same_kind, Input, is_kind, next_passes, sees}
use Rattle.graphql_syntax.specs.Many.{Perhaps, absent, present}
use Rattle.graphql_syntax.specs.Reading.{expect}
use Rattle.graphql_syntax.specs.ValueReaders.{value_at}
use Rattle.graphql_syntax.proofs.Locality.{Local, takes_less, local_answer, local_sequence, local_choose, kind_is_plain}
use Rattle.graphql_syntax.proofs.TokenLocality.{local_take_one}
use Rattle.graphql_syntax.proofs.NextLemmas.{by_kind, all_kinds, passes_not}
use Rattle.graphql_syntax.proofs.ReaderLemmas.{answered, sequence_ok, sequence_read, choose_ok, choose_first, choose_second, answer_read, take_one_ok, take_one_read}
use Rattle.graphql_syntax.proofs.ValueLemmas.{value_sound}
use Rattle.graphql_syntax.proofs.ValueReadingLemmas.{value_read, value_moves, value_local}

pub default_value_sound : (depth : ℕ) (i : Input) (r : Option Value × Input) → default_value_at depth i ≡ Ok r → Perhaps (IsDefaultValue depth) i r.0 r.1
unfolding default_value_at
default_value_sound depth i r e = elim (choose_ok (is_kind Equals) _ _ i r e) [
  | inl h ↦
      let (m, em, e1) = sequence_ok (expect Equals) _ i r h.1 in
      let (n, en, e2) = sequence_ok (value_at true depth) _ m.1 r e1 in
      answered (Perhaps (IsDefaultValue depth) i) (Some n.0) n.1 r e2
      (present i n.1 n.0 (record { behind_equals = m.1; equals = take_one_ok (is_kind Equals) (expected.Token Equals) i m em; value = value_sound true depth m.1 n en }))
  | inr h ↦ answered (Perhaps (IsDefaultValue depth) i) None i r h.1 (absent i)
]

pub default_value_read : (depth : ℕ) (i : Input) (x : Option Value) (j : Input) → Perhaps (IsDefaultValue depth) i x j → sees Equals j ≡ false → default_value_at depth i ≡ Ok (x, j)
unfolding default_value_at
default_value_read depth _ _ _ (absent i) s = choose_second _ _ _ i s ∙ answer_read None i
default_value_read depth _ _ _ (present i j x is) s =
    let m = is.behind_equals in
    choose_first _ _ _ i is.equals.comes ∙
    sequence_read _ _ i tt m _ (take_one_read _ _ i m is.equals) (sequence_read _ _ m x j _ (value_read true depth m x j is.value) (answer_read (Some x) j))

pub default_value_less : (depth : ℕ) (i : Input) (x : Option Value) (j : Input) → Perhaps (IsDefaultValue depth) i x j → length j.tokens ≤ length i.tokens
default_value_less depth _ _ _ (absent i) = omega arith
default_value_less depth _ _ _ (present i j x is) = omega (arith, takes_less _ i is.behind_equals is.equals, value_moves true depth is.behind_equals x j is.value)

-- what does not come behind it does not come before it
pub default_value_apart : (depth : ℕ) (f : TokenKind → Bool) → all_kinds (λ k. not (same_kind k Equals && f k)) ≡ true → (i : Input) (x : Option Value) (j : Input) →
    Perhaps (IsDefaultValue depth) i x j → next_passes (by_kind f) j ≡ false → next_passes (by_kind f) i ≡ false
default_value_apart depth f all _ _ _ (absent i) s = s
default_value_apart depth f all _ _ _ (present i j x is) s = passes_not (λ k. same_kind k Equals) f all i is.equals.comes

pub default_value_local : (depth : ℕ) → Local depth (default_value_at depth)
unfolding default_value_at
default_value_local depth =
    local_choose depth _ _ _
    (local_sequence depth _ _ (local_take_one depth _ _ (kind_is_plain Equals refl refl)) (λ equals.
    local_sequence depth _ _ (value_local true depth) (λ value. local_answer depth _)))
    (local_answer depth _)
