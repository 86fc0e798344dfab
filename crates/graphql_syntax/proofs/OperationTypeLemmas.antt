-- The reader of the kind of an operation answers by the grammar.
use Rattle.std.proofs.Common.{◌≡◌, ℕ, ◌<◌, true, inl, inr, length, Ok, refl, ◌∙◌, arith}
use Rattle.graphql_tokens.specs.declared.token.TokenKind.TheVariants.{Name}
use Rattle.graphql_nodes.specs.declared.operation_types.OperationType.{OperationType}
use Rattle.graphql_nodes.specs.declared.operation_types.OperationType.TheVariants as tree
use Rattle.graphql_syntax.specs.declared.keywords.Keyword.{Keyword}
use Rattle.graphql_syntax.specs.declared.keywords.Keyword.TheVariants as keyword
use Rattle.graphql_syntax.specs.declared.refusals.Expected.TheVariants as expected
use Rattle.graphql_syntax.specs.Inputs.{Input, is_keyword, sees, next_passes, TakesKeyword}
use Rattle.graphql_syntax.specs.OperationTypes.{IsOperationType, query, mutation, subscription, is_operation_type}
use Rattle.graphql_syntax.specs.OperationTypeReaders.{operation_type_as, operation_type_at}
use Rattle.graphql_syntax.specs.Reading.{expect_keyword}
use Rattle.graphql_syntax.proofs.Locality.{Local, takes_less, local_answer, local_refuse, local_sequence, local_choose, keyword_is_plain}
use Rattle.graphql_syntax.proofs.TokenLocality.{local_take_one}
use Rattle.graphql_syntax.proofs.NextLemmas.{keyword_is_name, other_keyword, passes_left, passes_right}
use Rattle.graphql_syntax.proofs.ReaderLemmas.{answered, sequence_ok, sequence_read, choose_ok, choose_first, choose_second, answer_read, refuse_not_ok, take_one_ok, take_one_read}

keyword_sound : (word : Keyword) (x : OperationType) → ((i j : Input) → TakesKeyword word i j → IsOperationType i x j) →
    (i : Input) (r : OperationType × Input) → operation_type_as word x i ≡ Ok r → IsOperationType i r.0 r.1
keyword_sound word x is i r e =
    let (m, em, e1) = sequence_ok (expect_keyword word) _ i r e in
    answered (IsOperationType i) x m.1 r e1 (is i m.1 (take_one_ok (is_keyword word) (expected.Keyword word) i m em))

pub operation_type_sound : (i : Input) (r : OperationType × Input) → operation_type_at i ≡ Ok r → IsOperationType i r.0 r.1
unfolding operation_type_at
operation_type_sound i r e = elim (choose_ok (is_keyword keyword.Query) _ _ i r e) [
  | inl h ↦ keyword_sound keyword.Query tree.Query query i r h.1
  | inr h ↦ elim (choose_ok (is_keyword keyword.Mutation) _ _ i r h.1) [
    | inl k ↦ keyword_sound keyword.Mutation tree.Mutation mutation i r k.1
    | inr k ↦ elim (choose_ok (is_keyword keyword.Subscription) _ _ i r k.1) [
      | inl l ↦ keyword_sound keyword.Subscription tree.Subscription subscription i r l.1
      | inr l ↦ absurd (refuse_not_ok expected.OperationType i r l.1)
    ]
  ]
]

keyword_read : (word : Keyword) (x : OperationType) (i j : Input) → TakesKeyword word i j → operation_type_as word x i ≡ Ok (x, j)
keyword_read word x i j is = sequence_read _ _ i tt j _ (take_one_read _ _ i j is) (answer_read x j)

pub operation_type_read : (i : Input) (x : OperationType) (j : Input) → IsOperationType i x j → operation_type_at i ≡ Ok (x, j)
unfolding operation_type_at
operation_type_read _ _ _ (query i j is) = choose_first _ _ _ i is.comes ∙ keyword_read keyword.Query tree.Query i j is
operation_type_read _ _ _ (mutation i j is) =
    choose_second _ _ _ i (other_keyword keyword.Mutation keyword.Query i refl is.comes) ∙ choose_first _ _ _ i is.comes ∙
    keyword_read keyword.Mutation tree.Mutation i j is
operation_type_read _ _ _ (subscription i j is) =
    choose_second _ _ _ i (other_keyword keyword.Subscription keyword.Query i refl is.comes) ∙
    choose_second _ _ _ i (other_keyword keyword.Subscription keyword.Mutation i refl is.comes) ∙ choose_first _ _ _ i is.comes ∙
    keyword_read keyword.Subscription tree.Subscription i j is

pub operation_type_moves : (i : Input) (x : OperationType) (j : Input) → IsOperationType i x j → length j.tokens < length i.tokens
operation_type_moves _ _ _ (query i j is) = omega (arith, takes_less _ i j is)
operation_type_moves _ _ _ (mutation i j is) = omega (arith, takes_less _ i j is)
operation_type_moves _ _ _ (subscription i j is) = omega (arith, takes_less _ i j is)

keyword_local : (depth : ℕ) (word : Keyword) (x : OperationType) → Local depth (operation_type_as word x)
keyword_local depth word x = local_sequence depth _ _ (local_take_one depth _ _ (keyword_is_plain word)) (λ found. local_answer depth x)

pub operation_type_local : (depth : ℕ) → Local depth operation_type_at
unfolding operation_type_at
operation_type_local depth =
    local_choose depth _ _ _ (keyword_local depth keyword.Query tree.Query)
    (local_choose depth _ _ _ (keyword_local depth keyword.Mutation tree.Mutation)
    (local_choose depth _ _ _ (keyword_local depth keyword.Subscription tree.Subscription) (local_refuse depth _)))

-- it is one of three keywords, and so a name
pub operation_type_passes : (i : Input) (x : OperationType) (j : Input) → IsOperationType i x j → next_passes is_operation_type i ≡ true
operation_type_passes _ _ _ (query i j is) = passes_left (is_keyword keyword.Query) _ i is.comes
operation_type_passes _ _ _ (mutation i j is) =
    passes_right (is_keyword keyword.Query) _ i (passes_left (is_keyword keyword.Mutation) (is_keyword keyword.Subscription) i is.comes)
operation_type_passes _ _ _ (subscription i j is) =
    passes_right (is_keyword keyword.Query) _ i (passes_right (is_keyword keyword.Mutation) (is_keyword keyword.Subscription) i is.comes)

pub operation_type_name : (i : Input) (x : OperationType) (j : Input) → IsOperationType i x j → sees Name i ≡ true
operation_type_name _ _ _ (query i j is) = keyword_is_name keyword.Query i is.comes
operation_type_name _ _ _ (mutation i j is) = keyword_is_name keyword.Mutation i is.comes
operation_type_name _ _ _ (subscription i j is) = keyword_is_name keyword.Subscription i is.comes
