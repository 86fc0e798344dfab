-- What separators are between is read by the grammar, both ways, and locally.
use Rattle.std.proofs.Common.{◌≡◌, ℕ, ◌<◌, ◌≤◌, true, false, inl, inr, List, [], ◌∷◌, length, Ok, refl, sym, subst, ◌∙◌, arith}
use Rattle.graphql_tokens.specs.declared.token.TokenKind.{TokenKind}
use Rattle.graphql_syntax.specs.Depths.{is_opening, is_closing}
use Rattle.graphql_syntax.specs.Inputs.{Input, TokenTest, is_kind, sees}
use Rattle.graphql_syntax.specs.Reading.{Reader, take_one, many_behind}
use Rattle.graphql_syntax.specs.declared.refusals.Expected.{Expected}
use Rattle.graphql_syntax.proofs.Locality.{Near, Local, Moves, takes_less, local_sequence, local_choose, local_answer, kind_is_plain}
use Rattle.graphql_syntax.proofs.TokenLocality.{local_take_one}
use Rattle.graphql_syntax.proofs.ReaderLemmas.{sequence_ok, sequence_read, choose_ok, choose_first, choose_second, answer_is, answer_read, take_one_ok, take_one_read}
use Rattle.graphql_syntax.proofs.RepetitionLemmas.{Item, many_from_sound, many_from_read, many_less, local_many, sequence_moves, Anything}
use Rattle.graphql_type_system_syntax.specs.Bodies.{MayTake, IsSeparated, AreSeparated, separated}
use Rattle.graphql_type_system_syntax.specs.BodyReaders.{may_take, separated_with, separated_at, is_filled}

-- one token, which moves
pub take_one_moves : (test : TokenTest) (wanted : Expected) → Moves (take_one test wanted)
take_one_moves test wanted i r e = omega (arith, takes_less test i r.1 (take_one_ok test wanted i r e))

may_take_sound : (kind : TokenKind) (i : Input) (r : Unit {0} × Input) → may_take kind i ≡ Ok r → MayTake kind i r.1
unfolding may_take
may_take_sound kind i r e = elim (choose_ok _ _ _ _ _ e) [
  | inl h ↦ MayTake.present i r.1 (take_one_ok _ _ _ _ h.1)
  | inr h ↦ subst (λ (q : Unit {0} × Input). MayTake kind i q.1) (answer_is _ _ _ h.1) (MayTake.absent i)
]

may_take_read : (kind : TokenKind) (i j : Input) → MayTake kind i j → sees kind j ≡ false → may_take kind i ≡ Ok (tt, j)
unfolding may_take
may_take_read kind _ _ (MayTake.absent i) apart = choose_second _ _ _ i apart ∙ answer_read tt i
may_take_read kind _ _ (MayTake.present i j takes) apart = choose_first _ _ _ i takes.comes ∙ take_one_read _ _ _ _ takes

may_take_less : (kind : TokenKind) (i j : Input) → MayTake kind i j → length j.tokens ≤ length i.tokens
may_take_less kind _ _ (MayTake.absent i) = omega arith
may_take_less kind _ _ (MayTake.present i j takes) = omega (arith, takes_less _ _ _ takes)

-- one item behind its separator
one_sound : {A : Type 0} (separator : TokenKind) (R : Input → A → Input → Type 0) (item : Reader A) → ((i : Input) (r : A × Input) → item i ≡ Ok r → R i r.0 r.1) →
    (i : Input) (r : A × Input) → separated_with separator item i ≡ Ok r → IsSeparated separator R i r.0 r.1
unfolding separated_with
one_sound separator R item sound i r e =
    let (sign, es, e1) = sequence_ok _ _ _ _ e in
    record { behind_separator = sign.1; takes = take_one_ok _ _ _ _ es; item = sound sign.1 r e1 }

one_moves : {A : Type 0} (separator : TokenKind) (R : Input → A → Input → Type 0) → ((i : Input) (x : A) (j : Input) → R i x j → length j.tokens < length i.tokens) →
    (i : Input) (x : A) (j : Input) → IsSeparated separator R i x j → length j.tokens < length i.tokens
one_moves separator R moves i x j is = omega (arith, takes_less _ _ _ is.takes, moves is.behind_separator x j is.item)

-- what is read without regard to what follows
pub record Plain {A : Type 0} (separator : TokenKind) (R : Input → A → Input → Type 0) (item : Reader A) : Type 0 where
  pub sound : (i : Input) (r : A × Input) → item i ≡ Ok r → R i r.0 r.1
  pub reads : (i : Input) (x : A) (j : Input) → R i x j → item i ≡ Ok (x, j)
  pub apart : (i : Input) (x : A) (j : Input) → R i x j → sees separator i ≡ false
  pub moves : (i : Input) (x : A) (j : Input) → R i x j → length j.tokens < length i.tokens

one_item : {A : Type 0} (separator : TokenKind) (R : Input → A → Input → Type 0) (item : Reader A) → Plain separator R item →
    Item (IsSeparated separator R) (is_kind separator) (separated_with separator item) Anything
unfolding separated_with
one_item separator R item plain = record {
  reads = λ i x j is f. sequence_read _ _ i tt is.behind_separator _ (take_one_read _ _ _ _ is.takes) (plain.reads is.behind_separator x j is.item);
  passes = λ i x j is. is.takes.comes;
  follows = λ i x j is. tt;
  moves = one_moves separator R plain.moves;
}

-- one or more
pub separated_sound : {A : Type 0} (separator : TokenKind) (R : Input → A → Input → Type 0) (item : Reader A) → Plain separator R item →
    (i : Input) (r : List A × Input) → separated_at separator item i ≡ Ok r → AreSeparated separator R i r.0 r.1
unfolding separated_at many_behind
separated_sound {A} separator R item plain i r e =
    let (sign, es, e1) = sequence_ok _ _ _ _ e in
    let (first, ef, e2) = sequence_ok _ _ _ _ e1 in
    let (xs, same, are) = many_from_sound (IsSeparated separator R) _ _ (one_sound separator R item plain.sound) (length first.1.tokens) (first.0 ∷ []) first.1 r e2 in
    subst (λ (ys : List A). AreSeparated separator R i ys r.1) (sym same)
    (separated i sign.1 first.1 r.1 first.0 xs (may_take_sound separator i sign es) (plain.sound sign.1 first ef) are)

pub separated_read : {A : Type 0} (separator : TokenKind) (R : Input → A → Input → Type 0) (item : Reader A) → Plain separator R item →
    (i : Input) (xs : List A) (j : Input) → AreSeparated separator R i xs j → sees separator j ≡ false → separated_at separator item i ≡ Ok (xs, j)
unfolding separated_at many_behind
separated_read separator R item plain _ _ _ (separated i m n j x xs sign is are) free =
    sequence_read _ _ i tt m _ (may_take_read separator i m sign (plain.apart m x n is))
    (sequence_read _ _ m x n _ (plain.reads m x n is)
    (many_from_read (IsSeparated separator R) _ _ Anything (one_item separator R item plain) (length n.tokens) (x ∷ []) n xs j are (omega arith) tt free))

pub separated_moves : {A : Type 0} (separator : TokenKind) (R : Input → A → Input → Type 0) (item : Reader A) → Plain separator R item →
    (i : Input) (xs : List A) (j : Input) → AreSeparated separator R i xs j → length j.tokens < length i.tokens
separated_moves separator R item plain _ _ _ (separated i m n j x xs sign is are) =
    omega (arith, may_take_less separator i m sign, plain.moves m x n is, many_less (IsSeparated separator R) (one_moves separator R plain.moves) n xs j are)

pub separated_filled : {A : Type 0} (separator : TokenKind) (R : Input → A → Input → Type 0) (i : Input) (xs : List A) (j : Input) → AreSeparated separator R i xs j → is_filled xs ≡ true
separated_filled separator R _ _ _ (separated i m n j x xs sign is are) = refl

one_local : {A : Type 0} (depth : ℕ) (separator : TokenKind) (item : Reader A) → is_opening separator ≡ false → is_closing separator ≡ false → Local depth item →
    Local depth (separated_with separator item)
unfolding separated_with
one_local depth separator item opens closes one = local_sequence depth _ _ (local_take_one depth _ _ (kind_is_plain separator opens closes)) (λ sign. one)

one_reader_moves : {A : Type 0} (separator : TokenKind) (item : Reader A) → Near item → Moves (separated_with separator item)
unfolding separated_with
one_reader_moves separator item near = sequence_moves _ _ (take_one_moves _ _) (λ sign. near)

pub separated_local : {A : Type 0} (depth : ℕ) (separator : TokenKind) (item : Reader A) → is_opening separator ≡ false → is_closing separator ≡ false → Local depth item →
    Local depth (separated_at separator item)
unfolding separated_at may_take
separated_local depth separator item opens closes one =
    local_sequence depth _ _ (local_choose depth _ _ _ (local_take_one depth _ _ (kind_is_plain separator opens closes)) (local_answer depth tt)) (λ sign.
    local_sequence depth _ _ one (λ first.
    local_many depth _ _ (first ∷ []) (one_local depth separator item opens closes one) (one_reader_moves separator item one.near)))
