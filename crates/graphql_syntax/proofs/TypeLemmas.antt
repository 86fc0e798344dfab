-- The reader of types answers by their grammar.
use Rattle.std.proofs.Common.{◌≡◌, ℕ, zero, suc, ◌-◌, ◌<◌, ◌≢◌, true, false, inl, inr, length, Ok, Err, refl, subst, ◌∙◌, arith}
use Rattle.graphql_tokens.specs.declared.token.TokenKind.TheVariants.{Name, ExclamationMark, LeftBracket, RightBracket}
use Rattle.graphql_trees.specs.declared.types.TypeReference.{TypeReference}
use Rattle.graphql_trees.specs.declared.types.TypeReference.TheVariants as tree
use Rattle.graphql_syntax.specs.declared.refusals.Refusal.TheVariants.{TooDeep}
use Rattle.graphql_syntax.specs.Inputs.{same_kind, Input, sees, Takes, start_of, span_from}
use Rattle.graphql_syntax.specs.Reading.{choose, too_deep}
use Rattle.graphql_syntax.specs.Types.{IsType, named, list, non_null_named, non_null_list}
use Rattle.graphql_syntax.specs.TypeReaders.{named_type_at, list_type_behind, list_type_with, type_at}
use Rattle.graphql_syntax.proofs.Locality.{Local, takes_less, local_sequence, local_choose, local_answer, local_place, local_starting, kind_is_plain}
use Rattle.graphql_syntax.proofs.TokenLocality.{local_take_one, local_name, local_too_deep, local_bracketed}
use Rattle.graphql_syntax.proofs.NextLemmas.{passes_not}
use Rattle.graphql_syntax.proofs.ReaderLemmas.{sequence_ok, sequence_read, choose_ok, choose_first, choose_second, starting_ok, starting_read, placed_ok, placed_read, answer_ok, answer_read, take_one_ok, take_one_read, name_ok, name_read, too_deep_not_ok}

-- no bracket comes: a name is read, however deep lists may be
pub type_named : (depth : ℕ) (i : Input) → sees LeftBracket i ≡ false → type_at depth i ≡ named_type_at i
unfolding type_at choose
type_named zero i e = rw e refl
type_named (suc depth) i e = rw e refl

-- a bracket comes, and one more list may be open
pub type_listed : (depth : ℕ) (i : Input) → sees LeftBracket i ≡ true → depth ≢ 0 → type_at depth i ≡ list_type_with (type_at (depth - 1)) i
unfolding type_at choose
type_listed zero i e n = absurd (n refl)
type_listed (suc depth) i e n = let same : suc depth - 1 ≡ depth = omega arith in rw (e, same) refl

pub type_too_deep : (depth : ℕ) (i : Input) → sees LeftBracket i ≡ true → depth ≡ 0 → type_at depth i ≡ Err (TooDeep (length i.tokens))
unfolding type_at choose too_deep
type_too_deep zero i e n = rw e refl
type_too_deep (suc depth) i e n = absurd (omega arith)

named_sound : (depth : ℕ) (i : Input) (r : TypeReference × Input) → named_type_at i ≡ Ok r → IsType depth i r.0 r.1
unfolding named_type_at
named_sound depth i r e =
    let (name, en, e1) = sequence_ok _ _ _ _ (starting_ok _ _ _ e) in
    elim (choose_ok _ _ _ _ _ e1) [
      | inl h ↦
          let (mark, em, e2) = sequence_ok _ _ _ _ h.1 in
          let (same, there) = placed_ok _ (λ span. tree.NonNullNamed name.0 span) _ _ e2 in
          subst (λ x. IsType depth i x r.1) same
          (subst (λ j. IsType depth i (tree.NonNullNamed name.0 (span_from (start_of i) mark.1)) j) there
          (non_null_named i name.1 mark.1 name.0 (name_ok i name en) (take_one_ok _ _ _ _ em)))
      | inr h ↦
          let (same, there) = answer_ok _ _ _ h.1 in
          subst (λ x. IsType depth i x r.1) same (subst (λ j. IsType depth i (tree.Named name.0) j) there (named i name.1 name.0 (name_ok i name en)))
    ]

list_sound : (depth : ℕ) (i : Input) (r : TypeReference × Input) → ((m : Input) (s : TypeReference × Input) → type_at depth m ≡ Ok s → IsType depth m s.0 s.1) →
    list_type_with (type_at depth) i ≡ Ok r → IsType (suc depth) i r.0 r.1
unfolding list_type_with list_type_behind
list_sound depth i r inside e =
    let (opening, eo, e1) = sequence_ok _ _ _ _ (starting_ok _ _ _ e) in
    let (item, ei, e2) = sequence_ok _ _ _ _ e1 in
    let (closing, ec, e3) = sequence_ok _ _ _ _ e2 in
    let opens = take_one_ok _ _ _ _ eo in
    let closes = take_one_ok _ _ _ _ ec in
    let is = inside opening.1 item ei in
    elim (choose_ok _ _ _ _ _ e3) [
      | inl h ↦
          let (mark, em, e4) = sequence_ok _ _ _ _ h.1 in
          let (same, there) = placed_ok _ (λ span. tree.NonNullList item.0 span) _ _ e4 in
          subst (λ x. IsType (suc depth) i x r.1) same
          (subst (λ j. IsType (suc depth) i (tree.NonNullList item.0 (span_from (start_of i) mark.1)) j) there
          (non_null_list i opening.1 item.1 closing.1 mark.1 item.0 opens is closes (take_one_ok _ _ _ _ em)))
      | inr h ↦
          let (same, there) = placed_ok _ (λ span. tree.List item.0 span) _ _ h.1 in
          subst (λ x. IsType (suc depth) i x r.1) same
          (subst (λ j. IsType (suc depth) i (tree.List item.0 (span_from (start_of i) closing.1)) j) there
          (list i opening.1 item.1 closing.1 item.0 opens is closes))
    ]

pub type_sound : (depth : ℕ) (i : Input) (r : TypeReference × Input) → type_at depth i ≡ Ok r → IsType depth i r.0 r.1
unfolding type_at
type_sound zero i r e = elim (choose_ok _ _ _ _ _ e) [
  | inl h ↦ absurd (too_deep_not_ok i r h.1)
  | inr h ↦ named_sound 0 i r h.1
]
type_sound (suc depth) i r e = elim (choose_ok _ _ _ _ _ e) [
  | inl h ↦ list_sound depth i r (type_sound depth) h.1
  | inr h ↦ named_sound (suc depth) i r h.1
]

-- a name is no bracket
name_no_bracket : (i m : Input) → Takes Name i m → sees LeftBracket i ≡ false
unfolding same_kind
name_no_bracket i m is = passes_not (λ k. same_kind k Name) (λ k. same_kind k LeftBracket) refl i is.comes

closing_no_mark : (n j : Input) → Takes RightBracket n j → sees ExclamationMark n ≡ false
unfolding same_kind
closing_no_mark n j is = passes_not (λ k. same_kind k RightBracket) (λ k. same_kind k ExclamationMark) refl n is.comes

pub type_read : (depth : ℕ) (i : Input) (x : TypeReference) (j : Input) → IsType depth i x j → sees ExclamationMark j ≡ false → type_at depth i ≡ Ok (x, j)
unfolding type_at named_type_at list_type_with list_type_behind
type_read depth _ _ _ (named i j name is) free =
    type_named depth i (name_no_bracket i j is.takes) ∙
    starting_read _ i _ (sequence_read _ _ i name j _ (name_read i name j is) (choose_second _ _ _ j free ∙ answer_read _ j))
type_read depth _ _ _ (non_null_named i m j name is mark) free =
    type_named depth i (name_no_bracket i m is.takes) ∙
    starting_read _ i _ (sequence_read _ _ i name m _ (name_read i name m is)
    (choose_first _ _ _ m mark.comes ∙ sequence_read _ _ m tt j _ (take_one_read _ _ m j mark) (placed_read _ (λ span. tree.NonNullNamed name span) j)))
type_read _ _ _ _ (list {depth} i m n j item opens is closes) free =
    choose_first _ _ _ i opens.comes ∙
    starting_read _ i _ (sequence_read _ _ i tt m _ (take_one_read _ _ i m opens)
    (sequence_read _ _ m item n _ (type_read depth m item n is (closing_no_mark n j closes))
    (sequence_read _ _ n tt j _ (take_one_read _ _ n j closes)
    (choose_second _ _ _ j free ∙ placed_read _ (λ span. tree.List item span) j))))
type_read _ _ _ _ (non_null_list {depth} i m n k j item opens is closes mark) free =
    choose_first _ _ _ i opens.comes ∙
    starting_read _ i _ (sequence_read _ _ i tt m _ (take_one_read _ _ i m opens)
    (sequence_read _ _ m item n _ (type_read depth m item n is (closing_no_mark n k closes))
    (sequence_read _ _ n tt k _ (take_one_read _ _ n k closes)
    (choose_first _ _ _ k mark.comes ∙ sequence_read _ _ k tt j _ (take_one_read _ _ k j mark) (placed_read _ (λ span. tree.NonNullList item span) j)))))

pub type_moves : (depth : ℕ) (i : Input) (x : TypeReference) (j : Input) → IsType depth i x j → length j.tokens < length i.tokens
type_moves depth _ _ _ (named i j name is) = omega (arith, takes_less _ i j is.takes)
type_moves depth _ _ _ (non_null_named i m j name is mark) = omega (arith, takes_less _ i m is.takes, takes_less _ m j mark)
type_moves _ _ _ _ (list {depth} i m n j item opens is closes) = omega (arith, takes_less _ i m opens, type_moves depth m item n is, takes_less _ n j closes)
type_moves _ _ _ _ (non_null_list {depth} i m n k j item opens is closes mark) =
    omega (arith, takes_less _ i m opens, type_moves depth m item n is, takes_less _ n k closes, takes_less _ k j mark)

named_local : (depth : ℕ) → Local depth named_type_at
unfolding named_type_at
named_local depth =
    local_starting depth _ (λ start. local_sequence depth _ _ (local_name depth) (λ name. local_choose depth _ _ _
    (local_sequence depth _ _ (local_take_one depth _ _ (kind_is_plain ExclamationMark refl refl)) (λ mark.
    local_sequence depth _ _ (local_place depth start) (λ span. local_answer depth _)))
    (local_answer depth _)))

list_local : (depth : ℕ) → Local depth (type_at depth) → Local (suc depth) (list_type_with (type_at depth))
unfolding list_type_with list_type_behind
list_local depth inside =
    local_starting (suc depth) _ (λ start. local_bracketed depth LeftBracket RightBracket _ _ refl refl refl refl inside (λ item.
    local_choose (suc depth) _ _ _
    (local_sequence (suc depth) _ _ (local_take_one (suc depth) _ _ (kind_is_plain ExclamationMark refl refl)) (λ mark.
    local_sequence (suc depth) _ _ (local_place (suc depth) start) (λ span. local_answer (suc depth) _)))
    (local_sequence (suc depth) _ _ (local_place (suc depth) start) (λ span. local_answer (suc depth) _))))

pub type_local : (depth : ℕ) → Local depth (type_at depth)
unfolding type_at
type_local zero = local_too_deep LeftBracket named_type_at refl (named_local 0)
type_local (suc depth) = local_choose (suc depth) _ _ _ (list_local depth (type_local depth)) (named_local (suc depth))
