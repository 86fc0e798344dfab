-- The readers of arguments and directives answer by their grammar.
use Rattle.std.proofs.Common.{◌≡◌, ℕ, ◌<◌, ◌≤◌, Bool, true, false, not, ◌&&◌, inl, inr, List, [], length, Result, Ok, refl, sym, subst, ◌∙◌, ap, arith}
use Rattle.graphql_tokens.specs.declared.token.TokenKind.{TokenKind}
use Rattle.graphql_tokens.specs.declared.token.TokenKind.TheVariants.{Name, At, Colon, LeftParenthesis, RightParenthesis}
use Rattle.graphql_trees.specs.declared.directives.Argument.{Argument}
use Rattle.graphql_trees.specs.declared.directives.Directive.{Directive}
use Rattle.graphql_syntax.specs.declared.production.More.TheVariants.{Until, While}
use Rattle.graphql_syntax.specs.declared.refusals.Refusal.{Refusal}
use Rattle.graphql_syntax.specs.Inputs.{same_kind, Input, next_passes, sees}
use Rattle.graphql_syntax.specs.Many.{nothing, more, PerhapsList, absent, present}
use Rattle.graphql_syntax.specs.Reading.{more_test}
use Rattle.graphql_syntax.specs.Directives.{IsArgument, AreArguments, IsDirective, AreDirectives}
use Rattle.graphql_syntax.specs.DirectiveReaders.{argument_at, arguments_in, arguments_at, directive_at, directives_at}
use Rattle.graphql_syntax.proofs.Locality.{Local, Moves, takes_less, local_sequence, local_choose, local_answer, local_place, local_starting, kind_is_plain}
use Rattle.graphql_syntax.proofs.TokenLocality.{local_take_one, local_name}
use Rattle.graphql_syntax.proofs.NextLemmas.{by_kind, all_kinds, passes_so, passes_not, closing_stops}
use Rattle.graphql_syntax.proofs.ReaderLemmas.{sequence_ok, sequence_read, choose_ok, choose_first, choose_second, starting_ok, starting_read, placed_is, placed_read, answer_is, answer_read, take_one_ok, take_one_read, name_ok, name_read}
use Rattle.graphql_syntax.proofs.RepetitionLemmas.{Item, Anything, many_sound, many_read, many_less, local_many, some_sound, some_read, some_moves, local_some}
use Rattle.graphql_syntax.proofs.ValueLemmas.{value_sound}
use Rattle.graphql_syntax.proofs.ValueReadingLemmas.{value_read, value_moves, value_local}

-- one argument
pub argument_sound : (constant : Bool) (depth : ℕ) (i : Input) (r : Argument × Input) → argument_at constant depth i ≡ Ok r → IsArgument constant depth i r.0 r.1
unfolding argument_at
argument_sound constant depth i r e =
    let (name, en, e1) = sequence_ok _ _ _ _ (starting_ok _ _ _ e) in
    let (colon, ec, e2) = sequence_ok _ _ _ _ e1 in
    let (value, ev, e3) = sequence_ok _ _ _ _ e2 in
    subst (λ (q : Argument × Input). IsArgument constant depth i q.0 q.1) (placed_is _ (λ span. record { name = name.0; value = value.0; span = span }) _ _ e3)
    (record {
      behind_name = name.1;
      behind_colon = colon.1;
      name = name_ok _ _ en;
      colon = take_one_ok _ _ _ _ ec;
      value = value_sound constant depth colon.1 value ev;
      span = refl;
    })

pub argument_read : (constant : Bool) (depth : ℕ) (i : Input) (x : Argument) (j : Input) → IsArgument constant depth i x j → argument_at constant depth i ≡ Ok (x, j)
unfolding argument_at
argument_read constant depth i x j is =
    starting_read _ i _ (sequence_read _ _ i x.name is.behind_name _ (name_read _ _ _ is.name)
    (sequence_read _ _ is.behind_name tt is.behind_colon _ (take_one_read _ _ _ _ is.colon)
    (sequence_read _ _ is.behind_colon x.value j _ (value_read constant depth _ _ _ is.value)
    (placed_read _ (λ span. record { name = x.name; value = x.value; span = span }) j ∙ ap (λ s. ok (record { name = x.name; value = x.value; span = s })) (sym is.span))))) where
      ok : Argument → Result (Argument × Input) Refusal
      ok y = Ok (y, j)

pub argument_moves : (constant : Bool) (depth : ℕ) (i : Input) (x : Argument) (j : Input) → IsArgument constant depth i x j → length j.tokens < length i.tokens
argument_moves constant depth i x j is =
    omega (arith, takes_less _ _ _ is.name.takes, takes_less _ _ _ is.colon, value_moves constant depth _ _ _ is.value)

pub argument_local : (constant : Bool) (depth : ℕ) → Local depth (argument_at constant depth)
unfolding argument_at
argument_local constant depth =
    local_starting depth _ (λ start. local_sequence depth _ _ (local_name depth) (λ name.
    local_sequence depth _ _ (local_take_one depth _ _ (kind_is_plain Colon refl refl)) (λ colon.
    local_sequence depth _ _ (value_local constant depth) (λ value.
    local_sequence depth _ _ (local_place depth start) (λ span. local_answer depth _)))))

argument_reader_moves : (constant : Bool) (depth : ℕ) → Moves (argument_at constant depth)
argument_reader_moves constant depth i r e = argument_moves constant depth i r.0 r.1 (argument_sound constant depth i r e)

argument_item : (constant : Bool) (depth : ℕ) → Item (IsArgument constant depth) (more_test (Until RightParenthesis)) (argument_at constant depth) Anything
unfolding same_kind
argument_item constant depth = record {
  reads = λ i x j is f. argument_read constant depth i x j is;
  passes = λ i x j is. passes_so (λ k. same_kind k Name) (λ k. not (same_kind k RightParenthesis)) refl i is.name.takes.comes;
  follows = λ i x j is. tt;
  moves = argument_moves constant depth;
}

-- arguments in parentheses, or none
pub arguments_sound : (constant : Bool) (depth : ℕ) (i : Input) (r : List Argument × Input) → arguments_at constant depth i ≡ Ok r →
    PerhapsList (AreArguments constant depth) i r.0 r.1
unfolding arguments_at arguments_in
arguments_sound constant depth i r e = elim (choose_ok _ _ _ _ _ e) [
  | inl h ↦
      let (opening, eo, e1) = sequence_ok _ _ _ _ h.1 in
      let (found, ef, e2) = sequence_ok _ _ _ _ e1 in
      let (closing, ec, e3) = sequence_ok _ _ _ _ e2 in
      subst (λ (q : List Argument × Input). PerhapsList (AreArguments constant depth) i q.0 q.1) (answer_is _ _ _ e3)
      (present i closing.1 found.0 (record {
        inside = opening.1;
        before_closing = found.1;
        opening = take_one_ok _ _ _ _ eo;
        arguments = some_sound (IsArgument constant depth) _ _ (argument_sound constant depth) opening.1 found ef;
        closing = take_one_ok _ _ _ _ ec;
      }))
  | inr h ↦ subst (λ (q : List Argument × Input). PerhapsList (AreArguments constant depth) i q.0 q.1) (answer_is _ _ _ h.1) (absent i)
]

pub arguments_read : (constant : Bool) (depth : ℕ) (i : Input) (xs : List Argument) (j : Input) → PerhapsList (AreArguments constant depth) i xs j →
    sees LeftParenthesis j ≡ false → arguments_at constant depth i ≡ Ok (xs, j)
unfolding arguments_at arguments_in same_kind
arguments_read constant depth _ _ _ (absent i) free = choose_second _ _ _ i free ∙ answer_read _ i
arguments_read constant depth _ _ _ (present i j xs are) free =
    choose_first _ _ _ i are.opening.comes ∙
    sequence_read _ _ i tt are.inside _ (take_one_read _ _ _ _ are.opening)
    (sequence_read _ _ are.inside xs are.before_closing _
    (some_read (IsArgument constant depth) _ _ Anything (argument_item constant depth) are.inside xs are.before_closing are.arguments tt
    (closing_stops RightParenthesis are.before_closing are.closing.comes))
    (sequence_read _ _ are.before_closing tt j _ (take_one_read _ _ _ _ are.closing) (answer_read xs j)))

pub arguments_less : (constant : Bool) (depth : ℕ) (i : Input) (xs : List Argument) (j : Input) → PerhapsList (AreArguments constant depth) i xs j → length j.tokens ≤ length i.tokens
arguments_less constant depth _ _ _ (absent i) = omega arith
arguments_less constant depth _ _ _ (present i j xs are) =
    omega (
      arith,
      takes_less _ _ _ are.opening,
      some_moves (IsArgument constant depth) (argument_moves constant depth) are.inside xs are.before_closing are.arguments,
      takes_less _ _ _ are.closing,
    )

pub arguments_local : (constant : Bool) (depth : ℕ) → Local depth (arguments_at constant depth)
unfolding arguments_at arguments_in
arguments_local constant depth =
    local_choose depth _ _ _
    (local_sequence depth _ _ (local_take_one depth _ _ (kind_is_plain LeftParenthesis refl refl)) (λ opening.
    local_sequence depth _ _ (local_some depth _ _ (argument_local constant depth) (argument_reader_moves constant depth)) (λ found.
    local_sequence depth _ _ (local_take_one depth _ _ (kind_is_plain RightParenthesis refl refl)) (λ closing. local_answer depth _))))
    (local_answer depth _)

-- one directive
pub directive_sound : (constant : Bool) (depth : ℕ) (i : Input) (r : Directive × Input) → directive_at constant depth i ≡ Ok r → IsDirective constant depth i r.0 r.1
unfolding directive_at
directive_sound constant depth i r e =
    let (at, ea, e1) = sequence_ok _ _ _ _ (starting_ok _ _ _ e) in
    let (name, en, e2) = sequence_ok _ _ _ _ e1 in
    let (arguments, er, e3) = sequence_ok _ _ _ _ e2 in
    subst (λ (q : Directive × Input). IsDirective constant depth i q.0 q.1)
    (placed_is _ (λ span. record { name = name.0; arguments = arguments.0; span = span }) _ _ e3)
    (record {
      behind_at = at.1;
      behind_name = name.1;
      at = take_one_ok _ _ _ _ ea;
      name = name_ok _ _ en;
      arguments = arguments_sound constant depth name.1 arguments er;
      span = refl;
    })

pub directive_read : (constant : Bool) (depth : ℕ) (i : Input) (x : Directive) (j : Input) → IsDirective constant depth i x j → sees LeftParenthesis j ≡ false →
    directive_at constant depth i ≡ Ok (x, j)
unfolding directive_at
directive_read constant depth i x j is free =
    starting_read _ i _ (sequence_read _ _ i tt is.behind_at _ (take_one_read _ _ _ _ is.at)
    (sequence_read _ _ is.behind_at x.name is.behind_name _ (name_read _ _ _ is.name)
    (sequence_read _ _ is.behind_name x.arguments j _ (arguments_read constant depth _ _ _ is.arguments free)
    (placed_read _ (λ span. record { name = x.name; arguments = x.arguments; span = span }) j ∙
    ap (λ s. ok (record { name = x.name; arguments = x.arguments; span = s })) (sym is.span))))) where
      ok : Directive → Result (Directive × Input) Refusal
      ok y = Ok (y, j)

pub directive_moves : (constant : Bool) (depth : ℕ) (i : Input) (x : Directive) (j : Input) → IsDirective constant depth i x j → length j.tokens < length i.tokens
directive_moves constant depth i x j is =
    omega (arith, takes_less _ _ _ is.at, takes_less _ _ _ is.name.takes, arguments_less constant depth _ _ _ is.arguments)

pub directive_local : (constant : Bool) (depth : ℕ) → Local depth (directive_at constant depth)
unfolding directive_at
directive_local constant depth =
    local_starting depth _ (λ start. local_sequence depth _ _ (local_take_one depth _ _ (kind_is_plain At refl refl)) (λ at.
    local_sequence depth _ _ (local_name depth) (λ name.
    local_sequence depth _ _ (arguments_local constant depth) (λ arguments.
    local_sequence depth _ _ (local_place depth start) (λ span. local_answer depth _)))))

directive_reader_moves : (constant : Bool) (depth : ℕ) → Moves (directive_at constant depth)
directive_reader_moves constant depth i r e = directive_moves constant depth i r.0 r.1 (directive_sound constant depth i r e)

-- what may follow a directive: no parenthesis
abbrev NoParenthesis : Input → Type 0
NoParenthesis i = sees LeftParenthesis i ≡ false

directive_item : (constant : Bool) (depth : ℕ) → Item (IsDirective constant depth) (more_test (While At)) (directive_at constant depth) NoParenthesis
unfolding same_kind
directive_item constant depth = record {
  reads = λ i x j is f. directive_read constant depth i x j is f;
  passes = λ i x j is. is.at.comes;
  follows = λ i x j is. passes_not (λ k. same_kind k At) (λ k. same_kind k LeftParenthesis) refl i is.at.comes;
  moves = directive_moves constant depth;
}

-- as many directives as there are
pub directives_sound : (constant : Bool) (depth : ℕ) (i : Input) (r : List Directive × Input) → directives_at constant depth i ≡ Ok r → AreDirectives constant depth i r.0 r.1
unfolding directives_at
directives_sound constant depth i r e = many_sound (IsDirective constant depth) _ _ (directive_sound constant depth) i r e

pub directives_read : (constant : Bool) (depth : ℕ) (i : Input) (xs : List Directive) (j : Input) → AreDirectives constant depth i xs j →
    sees LeftParenthesis j ≡ false → sees At j ≡ false → directives_at constant depth i ≡ Ok (xs, j)
unfolding directives_at
directives_read constant depth i xs j are free apart =
    many_read (IsDirective constant depth) _ _ NoParenthesis (directive_item constant depth) i xs j are free apart

pub directives_less : (constant : Bool) (depth : ℕ) (i : Input) (xs : List Directive) (j : Input) → AreDirectives constant depth i xs j → length j.tokens ≤ length i.tokens
directives_less constant depth i xs j are = many_less (IsDirective constant depth) (directive_moves constant depth) i xs j are

-- what does not come behind a part that may be left out does not come before it
pub directives_apart : (constant : Bool) (depth : ℕ) (f : TokenKind → Bool) → all_kinds (λ k. not (same_kind k At && f k)) ≡ true →
    (i : Input) (xs : List Directive) (j : Input) → AreDirectives constant depth i xs j → next_passes (by_kind f) j ≡ false → next_passes (by_kind f) i ≡ false
directives_apart constant depth f all _ _ _ (nothing i) s = s
directives_apart constant depth f all _ _ _ (more i m j x xs is are) s = passes_not (λ k. same_kind k At) f all i is.at.comes

pub arguments_apart : (constant : Bool) (depth : ℕ) (f : TokenKind → Bool) → all_kinds (λ k. not (same_kind k LeftParenthesis && f k)) ≡ true →
    (i : Input) (xs : List Argument) (j : Input) → PerhapsList (AreArguments constant depth) i xs j → next_passes (by_kind f) j ≡ false → next_passes (by_kind f) i ≡ false
arguments_apart constant depth f all _ _ _ (absent i) s = s
arguments_apart constant depth f all _ _ _ (present i j xs are) s = passes_not (λ k. same_kind k LeftParenthesis) f all i are.opening.comes

pub directives_local : (constant : Bool) (depth : ℕ) → Local depth (directives_at constant depth)
unfolding directives_at
directives_local constant depth = local_many depth _ _ [] (directive_local constant depth) (directive_reader_moves constant depth)
