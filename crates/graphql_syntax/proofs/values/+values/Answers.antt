use Rattle.std.proofs.Common.{◌≡◌, ◌-◌, ◌+◌, refl, sym, ◌∙◌, arith, rules, length}
use Rattle.graphql_syntax.specs.Reading.{input, more_test}
use Rattle.graphql_syntax.specs.ValueReaders.{value_at, object_field_with}
use Rattle.graphql_syntax.specs.declared.production.More.TheVariants.{Until}
use Rattle.graphql_tokens.specs.declared.token.TokenKind.TheVariants.{RightBracket, RightBrace}
use Rattle.graphql_syntax.proofs.ValueLemmas.{value_plain, value_listed, value_object, list_too_deep, object_too_deep}
use Rattle.graphql_syntax.proofs.ManyLemmas.{first_turn, one_more, no_more, no_turns, broken}
use Rattle.graphql_syntax.proofs.values.+values.Goals as goal

pub values-loop-turn-init : goal.values-loop-turn-init
values-loop-turn-init t c = rw (← c.new-found.ensures.items) (first_turn (more_test (Until RightBracket)) (value_at c.args.constant c.args.depth) c.new-found.result.items (input c.args.cursor) (length c.args.cursor.tokens.now) refl)

pub values-returns-then-not-has_more : goal.values-returns-then-not-has_more
values-returns-then-not-has_more t c =
    rw c.packed.ensures (
    c.loop-turn.invariant ∙
    no_more (more_test (Until RightBracket)) (value_at c.args.constant c.args.depth) (length c.args.cursor.tokens.now - c.loop-turn._turn) c.loop-turn.found.items (input c.loop-turn.here)
    (sym c.has_more.ensures ∙ c.if-not-has_more.true))

pub values-returns-in_err-item : goal.values-returns-in_err-item
values-returns-in_err-item t c =
    let none =
    broken (more_test (Until RightBracket)) (value_at c.args.constant c.args.depth) (length c.args.cursor.tokens.now - c.loop-turn._turn) c.loop-turn.found.items (input c.loop-turn.here)
    c.in_err-item.field-0.0 (sym c.has_more.ensures ∙ c.if-not-has_more.false) (omega arith) c.in_err-item.ensures in
    rw c.loop-turn.invariant (search rules)

pub values-loop-turn-preserved : goal.values-loop-turn-preserved
values-loop-turn-preserved t c =
    let same : (length c.args.cursor.tokens.now - c.loop-turn._turn) - 1 ≡ length c.args.cursor.tokens.now - (c.loop-turn._turn + 1) = omega arith in
    let turn =
    c.loop-turn.invariant ∙
    one_more (more_test (Until RightBracket)) (value_at c.args.constant c.args.depth) (length c.args.cursor.tokens.now - c.loop-turn._turn) c.loop-turn.found.items (input c.loop-turn.here)
    c.in_ok-item.item (input c.in_ok-item.behind) (sym c.has_more.ensures ∙ c.if-not-has_more.false) (omega arith) c.in_ok-item.ensures in
    rw (c.in_ok-push.ensures.items, c.make_room.ensures, ← same) turn

pub values-returns : goal.values-returns
values-returns t c =
    rw c.packed-2.ensures (
    c.loop-turn.invariant ∙
    no_turns (more_test (Until RightBracket)) (value_at c.args.constant c.args.depth) (length c.args.cursor.tokens.now - c.loop-turn._turn) c.loop-turn.found.items (input c.loop-turn.here) (omega arith))

pub object_fields-loop-turn-init : goal.object_fields-loop-turn-init
object_fields-loop-turn-init t c = rw (← c.new-found.ensures.items) (first_turn (more_test (Until RightBrace)) (object_field_with (value_at c.args.constant c.args.depth)) c.new-found.result.items (input c.args.cursor) (length c.args.cursor.tokens.now) refl)

pub object_fields-returns-then-not-has_more : goal.object_fields-returns-then-not-has_more
object_fields-returns-then-not-has_more t c =
    rw c.packed.ensures (
    c.loop-turn.invariant ∙
    no_more (more_test (Until RightBrace)) (object_field_with (value_at c.args.constant c.args.depth)) (length c.args.cursor.tokens.now - c.loop-turn._turn) c.loop-turn.found.items (input c.loop-turn.here)
    (sym c.has_more.ensures ∙ c.if-not-has_more.true))

pub object_fields-returns-in_err-item : goal.object_fields-returns-in_err-item
object_fields-returns-in_err-item t c =
    let none =
    broken (more_test (Until RightBrace)) (object_field_with (value_at c.args.constant c.args.depth)) (length c.args.cursor.tokens.now - c.loop-turn._turn) c.loop-turn.found.items (input c.loop-turn.here)
    c.in_err-item.field-0.0 (sym c.has_more.ensures ∙ c.if-not-has_more.false) (omega arith) c.in_err-item.ensures in
    rw c.loop-turn.invariant (search rules)

pub object_fields-loop-turn-preserved : goal.object_fields-loop-turn-preserved
object_fields-loop-turn-preserved t c =
    let same : (length c.args.cursor.tokens.now - c.loop-turn._turn) - 1 ≡ length c.args.cursor.tokens.now - (c.loop-turn._turn + 1) = omega arith in
    let turn =
    c.loop-turn.invariant ∙
    one_more (more_test (Until RightBrace)) (object_field_with (value_at c.args.constant c.args.depth)) (length c.args.cursor.tokens.now - c.loop-turn._turn) c.loop-turn.found.items (input c.loop-turn.here)
    c.in_ok-item.item (input c.in_ok-item.behind) (sym c.has_more.ensures ∙ c.if-not-has_more.false) (omega arith) c.in_ok-item.ensures in
    rw (c.in_ok-push.ensures.items, c.make_room.ensures, ← same) turn

pub object_fields-returns : goal.object_fields-returns
object_fields-returns t c =
    rw c.packed-2.ensures (
    c.loop-turn.invariant ∙
    no_turns (more_test (Until RightBrace)) (object_field_with (value_at c.args.constant c.args.depth)) (length c.args.cursor.tokens.now - c.loop-turn._turn) c.loop-turn.found.items (input c.loop-turn.here) (omega arith))

pub value-returns-then-depth-eq0 : goal.value-returns-then-depth-eq0
value-returns-then-depth-eq0 t c =
    rw (c.too_deep.ensures, list_too_deep c.args.constant c.args.depth (input c.args.cursor) (sym c.sees.ensures ∙ c.if-sees.true) c.if-depth-eq0.true) refl

pub value-returns-then-sees : goal.value-returns-then-sees
value-returns-then-sees t c =
    rw (value_listed c.args.constant c.args.depth (input c.args.cursor) (sym c.sees.ensures ∙ c.if-sees.true) c.if-depth-eq0.false) c.list.ensures

pub value-returns-then-depth-eq0-2 : goal.value-returns-then-depth-eq0-2
value-returns-then-depth-eq0-2 t c =
    rw (c.too_deep-then-depth-eq0-2.ensures, object_too_deep c.args.constant c.args.depth (input c.args.cursor) (sym c.sees.ensures ∙ c.if-sees.false) (sym c.sees-2.ensures ∙ c.if-sees-2.true) c.if-depth-eq0-2.true) refl

pub value-returns-then-sees-2 : goal.value-returns-then-sees-2
value-returns-then-sees-2 t c =
    rw (value_object c.args.constant c.args.depth (input c.args.cursor) (sym c.sees.ensures ∙ c.if-sees.false) (sym c.sees-2.ensures ∙ c.if-sees-2.true) c.if-depth-eq0-2.false) c.object.ensures

pub value-returns : goal.value-returns
value-returns t c = rw (value_plain c.args.constant c.args.depth (input c.args.cursor) (sym c.sees.ensures ∙ c.if-sees.false) (sym c.sees-2.ensures ∙ c.if-sees-2.false)) c.plain_value.ensures
