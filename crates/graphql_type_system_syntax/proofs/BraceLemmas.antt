-- What is in braces, and what an extension adds, is read by the grammar, both ways, and locally.
use Rattle.std.proofs.Common.{◌≡◌, ℕ, zero, suc, ◌<◌, ◌≤◌, Bool, true, false, ◌||◌, inl, inr, List, length, Ok, refl, subst, ◌∙◌, arith}
use Rattle.graphql_tokens.specs.declared.token.TokenKind.TheVariants.{LeftBrace, RightBrace}
use Rattle.graphql_tokens.proofs.ScanLemmas.{or_true}
use Rattle.graphql_trees.specs.declared.directives.Directive.{Directive}
use Rattle.graphql_syntax.specs.declared.production.More.TheVariants.{Until}
use Rattle.graphql_syntax.specs.Directives.{IsDirective, AreDirectives}
use Rattle.graphql_syntax.specs.Inputs.{same_kind, Input, sees}
use Rattle.graphql_syntax.specs.Many.{Many, nothing, more, Some1, some}
use Rattle.graphql_syntax.specs.Reading.{Reader, more_test}
use Rattle.graphql_syntax.proofs.Locality.{Local, Moves, takes_less, local_choose, local_answer, local_refuse}
use Rattle.graphql_syntax.proofs.TokenLocality.{local_too_deep, local_bracketed}
use Rattle.graphql_syntax.proofs.NextLemmas.{Ends, closing_brace_ends, closing_stops, brace_ends}
use Rattle.graphql_syntax.proofs.ReaderLemmas.{sequence_ok, sequence_read, choose_ok, choose_first, choose_second, answer_is, answer_read, take_one_ok, take_one_read, refuse_not_ok, too_deep_not_ok}
use Rattle.graphql_syntax.proofs.RepetitionLemmas.{Item, some_sound, some_read, some_moves, local_some}
use Rattle.graphql_type_system_syntax.specs.Bodies.{InBraces, in_braces, PerhapsInBraces, IsAddition, with_body, directives_alone}
use Rattle.graphql_type_system_syntax.specs.BodyReaders.{in_braces_with, in_braces_at, perhaps_in_braces_at, is_filled, with_part}

-- in braces
pub in_braces_sound : {A : Type 0} (R : ℕ → Input → A → Input → Type 0) (item : ℕ → Reader A) →
    ((depth : ℕ) (i : Input) (r : A × Input) → item depth i ≡ Ok r → R depth i r.0 r.1) →
    (depth : ℕ) (i : Input) (r : List A × Input) → in_braces_at item depth i ≡ Ok r → InBraces R depth i r.0 r.1
unfolding in_braces_at in_braces_with
in_braces_sound R item sound zero i r e = elim (choose_ok _ _ _ _ _ e) [
  | inl h ↦ absurd (too_deep_not_ok i r h.1)
  | inr h ↦ absurd (refuse_not_ok _ i r h.1)
]
in_braces_sound {A} R item sound (suc depth) i r e =
    let (opening, eo, e1) = sequence_ok _ _ _ _ e in
    let (found, ef, e2) = sequence_ok _ _ _ _ e1 in
    let (closing, ec, e3) = sequence_ok _ _ _ _ e2 in
    subst (λ (q : List A × Input). InBraces R (suc depth) i q.0 q.1) (answer_is _ _ _ e3)
    (in_braces i opening.1 found.1 closing.1 found.0 (take_one_ok _ _ _ _ eo) (some_sound (R depth) _ _ (sound depth) opening.1 found ef) (take_one_ok _ _ _ _ ec))

pub in_braces_read : {A : Type 0} (R : ℕ → Input → A → Input → Type 0) (item : ℕ → Reader A) →
    ((depth : ℕ) → Item (R depth) (more_test (Until RightBrace)) (item depth) Ends) →
    (depth : ℕ) (i : Input) (xs : List A) (j : Input) → InBraces R depth i xs j → in_braces_at item depth i ≡ Ok (xs, j)
unfolding in_braces_at in_braces_with
in_braces_read R item one _ _ _ _ (in_braces {depth} i m n j xs opens are closes) =
    sequence_read _ _ i tt m _ (take_one_read _ _ _ _ opens)
    (sequence_read _ _ m xs n _ (some_read (R depth) _ _ Ends (one depth) m xs n are (closing_brace_ends n closes.comes) (closing_stops RightBrace n closes.comes))
    (sequence_read _ _ n tt j _ (take_one_read _ _ _ _ closes) (answer_read xs j)))

in_braces_begins : {A : Type 0} (R : ℕ → Input → A → Input → Type 0) (depth : ℕ) (i : Input) (xs : List A) (j : Input) → InBraces R depth i xs j → sees LeftBrace i ≡ true
in_braces_begins R _ _ _ _ (in_braces i m n j xs opens are closes) = opens.comes

pub in_braces_moves : {A : Type 0} (R : ℕ → Input → A → Input → Type 0) → ((depth : ℕ) (i : Input) (x : A) (j : Input) → R depth i x j → length j.tokens < length i.tokens) →
    (depth : ℕ) (i : Input) (xs : List A) (j : Input) → InBraces R depth i xs j → length j.tokens < length i.tokens
in_braces_moves R moves _ _ _ _ (in_braces {depth} i m n j xs opens are closes) =
    omega (arith, takes_less _ _ _ opens, some_moves (R depth) (moves depth) m xs n are, takes_less _ _ _ closes)

pub in_braces_local : {A : Type 0} (item : ℕ → Reader A) → ((depth : ℕ) → Local depth (item depth)) → ((depth : ℕ) → Moves (item depth)) →
    (depth : ℕ) → Local depth (in_braces_at item depth)
unfolding in_braces_at in_braces_with
in_braces_local item one moves zero = local_too_deep LeftBrace _ refl (local_refuse 0 _)
in_braces_local item one moves (suc depth) =
    local_bracketed depth LeftBrace RightBrace _ _ refl refl refl refl (local_some depth _ _ (one depth) (moves depth)) (λ found. local_answer (suc depth) found)

-- in braces, or nothing
pub perhaps_sound : {A : Type 0} (R : ℕ → Input → A → Input → Type 0) (item : ℕ → Reader A) →
    ((depth : ℕ) (i : Input) (r : A × Input) → item depth i ≡ Ok r → R depth i r.0 r.1) →
    (depth : ℕ) (i : Input) (r : List A × Input) → perhaps_in_braces_at item depth i ≡ Ok r → PerhapsInBraces R depth i r.0 r.1
unfolding perhaps_in_braces_at
perhaps_sound {A} R item sound depth i r e = elim (choose_ok _ _ _ _ _ e) [
  | inl h ↦ PerhapsInBraces.present i r.1 r.0 (in_braces_sound R item sound depth i r h.1)
  | inr h ↦ subst (λ (q : List A × Input). PerhapsInBraces R depth i q.0 q.1) (answer_is _ _ _ h.1) (PerhapsInBraces.absent i h.0)
]

pub perhaps_read : {A : Type 0} (R : ℕ → Input → A → Input → Type 0) (item : ℕ → Reader A) →
    ((depth : ℕ) → Item (R depth) (more_test (Until RightBrace)) (item depth) Ends) →
    (depth : ℕ) (i : Input) (xs : List A) (j : Input) → PerhapsInBraces R depth i xs j → perhaps_in_braces_at item depth i ≡ Ok (xs, j)
unfolding perhaps_in_braces_at
perhaps_read R item one depth _ _ _ (PerhapsInBraces.absent i unseen) = choose_second _ _ _ i unseen ∙ answer_read _ i
perhaps_read R item one depth _ _ _ (PerhapsInBraces.present i j xs is) =
    choose_first _ _ _ i (in_braces_begins R depth i xs j is) ∙ in_braces_read R item one depth i xs j is

pub perhaps_less : {A : Type 0} (R : ℕ → Input → A → Input → Type 0) → ((depth : ℕ) (i : Input) (x : A) (j : Input) → R depth i x j → length j.tokens < length i.tokens) →
    (depth : ℕ) (i : Input) (xs : List A) (j : Input) → PerhapsInBraces R depth i xs j → length j.tokens ≤ length i.tokens
perhaps_less R moves depth _ _ _ (PerhapsInBraces.absent i unseen) = omega arith
perhaps_less R moves depth _ _ _ (PerhapsInBraces.present i j xs is) = omega (arith, in_braces_moves R moves depth i xs j is)

-- what begins with such braces, or goes on where nothing goes on
pub perhaps_ends : {A : Type 0} (R : ℕ → Input → A → Input → Type 0) (depth : ℕ) (i : Input) (xs : List A) (j : Input) → PerhapsInBraces R depth i xs j → Ends j → Ends i
unfolding same_kind
perhaps_ends R depth _ _ _ (PerhapsInBraces.absent i unseen) ends = ends
perhaps_ends R depth _ _ _ (PerhapsInBraces.present i j xs is) ends = brace_ends i (in_braces_begins R depth i xs j is)

pub perhaps_local : {A : Type 0} (item : ℕ → Reader A) → ((depth : ℕ) → Local depth (item depth)) → ((depth : ℕ) → Moves (item depth)) →
    (depth : ℕ) → Local depth (perhaps_in_braces_at item depth)
unfolding perhaps_in_braces_at
perhaps_local item one moves depth = local_choose depth _ _ _ (in_braces_local item one moves depth) (local_answer depth _)

-- an extension that adds something
pub with_part_ok : {A : Type 0} (b : Bool) (x : A) (i : Input) (r : A × Input) → with_part b x i ≡ Ok r → (b ≡ true) × ((x, i) ≡ r)
unfolding with_part
with_part_ok true x i r e = (refl, answer_is x i r e)
with_part_ok false x i r e = absurd (refuse_not_ok _ i r e)

pub with_part_read : {A : Type 0} (b : Bool) (x : A) (i : Input) → b ≡ true → with_part b x i ≡ Ok (x, i)
unfolding with_part
with_part_read true x i e = answer_read x i
with_part_read false x i e = absurd (let h : ⊥ = cc in h)

pub with_part_local : {A : Type 0} (depth : ℕ) (b : Bool) (x : A) → Local depth (with_part b x)
unfolding with_part
with_part_local depth true x = local_answer depth x
with_part_local depth false x = local_refuse depth _

-- some, and as many as there are
pub many_some : {A : Type 0} (R : Input → A → Input → Type 0) (i : Input) (xs : List A) (j : Input) → Many R i xs j → is_filled xs ≡ true → Some1 R i xs j
many_some R _ _ _ (nothing i) e = absurd (let h : ⊥ = cc in h)
many_some R _ _ _ (more i m j x xs is are) e = some i m j x xs is are

pub some_many : {A : Type 0} (R : Input → A → Input → Type 0) (i : Input) (xs : List A) (j : Input) → Some1 R i xs j → Many R i xs j
some_many R _ _ _ (some i m j x xs is are) = more i m j x xs is are

pub some_filled : {A : Type 0} (R : Input → A → Input → Type 0) (i : Input) (xs : List A) (j : Input) → Some1 R i xs j → is_filled xs ≡ true
some_filled R _ _ _ (some i m j x xs is are) = refl

pub in_braces_filled : {A : Type 0} (R : ℕ → Input → A → Input → Type 0) (depth : ℕ) (i : Input) (xs : List A) (j : Input) → InBraces R depth i xs j → is_filled xs ≡ true
in_braces_filled R _ _ _ _ (in_braces {depth} i m n j xs opens are closes) = some_filled (R depth) m xs n are

pub filled_or : (a b : Bool) → b ≡ true → (a || b) ≡ true
filled_or a b e = rw e (or_true a)

pub or_filled : (a b : Bool) → a ≡ true → (a || b) ≡ true
or_filled a b e = rw e refl

-- what an extension adds in braces, or directives alone
pub addition_of : {A : Type 0} (R : ℕ → Input → A → Input → Type 0) (depth : ℕ) (i m : Input) (directives : List Directive) (xs : List A) (j : Input) →
    AreDirectives true depth i directives m → PerhapsInBraces R depth m xs j → (is_filled directives || is_filled xs) ≡ true → IsAddition R depth i directives xs j
addition_of R depth i _ directives _ _ are (PerhapsInBraces.present m j xs is) e = with_body i m j directives xs are is
addition_of R depth i _ directives _ _ are (PerhapsInBraces.absent m unseen) e =
    directives_alone i m directives (many_some (IsDirective true depth) i directives m are (by (is_filled directives) e)) unseen where
      by : (a : Bool) → (a || false) ≡ true → a ≡ true
      by true h = refl
      by false h = absurd (let b : ⊥ = cc in b)

-- the parts of an addition
pub record Parts {A : Type 0} (R : ℕ → Input → A → Input → Type 0) (depth : ℕ) (i : Input) (directives : List Directive) (xs : List A) (j : Input) : Type 0 where
  pub behind_directives : Input
  pub are : AreDirectives true depth i directives behind_directives
  pub body : PerhapsInBraces R depth behind_directives xs j
  pub filled : (is_filled directives || is_filled xs) ≡ true

pub parts_of : {A : Type 0} (R : ℕ → Input → A → Input → Type 0) (depth : ℕ) (i : Input) (directives : List Directive) (xs : List A) (j : Input) →
    IsAddition R depth i directives xs j → Parts R depth i directives xs j
parts_of R depth _ _ _ _ (with_body i m j directives xs are is) =
    record { behind_directives = m; are = are; body = PerhapsInBraces.present m j xs is; filled = filled_or (is_filled directives) (is_filled xs) (in_braces_filled R depth m xs j is) }
parts_of R depth _ _ _ _ (directives_alone i j directives are unseen) =
    record {
      behind_directives = j;
      are = some_many (IsDirective true depth) i directives j are;
      body = PerhapsInBraces.absent j unseen;
      filled = or_filled (is_filled directives) false (some_filled (IsDirective true depth) i directives j are);
    }
