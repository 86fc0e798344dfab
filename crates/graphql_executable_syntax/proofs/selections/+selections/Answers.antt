use Rattle.std.proofs.Common.{◌≡◌, ◌-◌, ◌+◌, refl, sym, ◌∙◌, arith, rules, length}
use Rattle.graphql_syntax.specs.Reading.{input, more_test}
use Rattle.graphql_syntax.specs.declared.production.More.TheVariants.{Until}
use Rattle.graphql_tokens.specs.declared.token.TokenKind.TheVariants.{RightBrace}
use Rattle.graphql_syntax.proofs.ManyLemmas.{first_turn, one_more, no_more, no_turns, broken}
use Rattle.graphql_executable_syntax.specs.SelectionReaders.{selection_at}
use Rattle.graphql_executable_syntax.proofs.SelectionLemmas.{set_in_braces, set_too_deep, set_unopened}
use Rattle.graphql_executable_syntax.proofs.selections.+selections.Goals as goal

pub selections_behind-loop-turn-init : goal.selections_behind-loop-turn-init
selections_behind-loop-turn-init t c = first_turn (more_test (Until RightBrace)) (selection_at c.args.depth) c.args.found.items (input c.args.cursor) (length c.args.cursor.tokens.now) refl

pub selections_behind-returns-then-not-has_more : goal.selections_behind-returns-then-not-has_more
selections_behind-returns-then-not-has_more t c =
    rw c.packed.ensures (
    c.loop-turn.invariant ∙
    no_more (more_test (Until RightBrace)) (selection_at c.args.depth) (length c.args.cursor.tokens.now - c.loop-turn._turn) c.loop-turn.found.items (input c.loop-turn.here)
    (sym c.has_more.ensures ∙ c.if-not-has_more.true))

pub selections_behind-returns-in_err-item : goal.selections_behind-returns-in_err-item
selections_behind-returns-in_err-item t c =
    let none =
    broken (more_test (Until RightBrace)) (selection_at c.args.depth) (length c.args.cursor.tokens.now - c.loop-turn._turn) c.loop-turn.found.items (input c.loop-turn.here)
    c.in_err-item.field-0.0 (sym c.has_more.ensures ∙ c.if-not-has_more.false) (omega arith) c.in_err-item.ensures in
    rw c.loop-turn.invariant (search rules)

pub selections_behind-loop-turn-preserved : goal.selections_behind-loop-turn-preserved
selections_behind-loop-turn-preserved t c =
    let same : (length c.args.cursor.tokens.now - c.loop-turn._turn) - 1 ≡ length c.args.cursor.tokens.now - (c.loop-turn._turn + 1) = omega arith in
    let turn =
    c.loop-turn.invariant ∙
    one_more (more_test (Until RightBrace)) (selection_at c.args.depth) (length c.args.cursor.tokens.now - c.loop-turn._turn) c.loop-turn.found.items (input c.loop-turn.here)
    c.in_ok-item.item (input c.in_ok-item.behind) (sym c.has_more.ensures ∙ c.if-not-has_more.false) (omega arith) c.in_ok-item.ensures in
    rw (c.in_ok-push.ensures.items, c.make_room.ensures, ← same) turn

pub selections_behind-returns : goal.selections_behind-returns
selections_behind-returns t c =
    rw c.packed-2.ensures (
    c.loop-turn.invariant ∙
    no_turns (more_test (Until RightBrace)) (selection_at c.args.depth) (length c.args.cursor.tokens.now - c.loop-turn._turn) c.loop-turn.found.items (input c.loop-turn.here) (omega arith))

pub selection_set-returns-then-sees : goal.selection_set-returns-then-sees
selection_set-returns-then-sees t c =
    rw (c.too_deep.ensures, set_too_deep c.args.depth (input c.args.cursor) (sym c.sees.ensures ∙ c.if-sees.true) c.if-depth-eq0.true) refl

pub selection_set-returns-then-depth-eq0 : goal.selection_set-returns-then-depth-eq0
selection_set-returns-then-depth-eq0 t c =
    rw (c.refusal.ensures, set_unopened c.args.depth (input c.args.cursor) (sym c.sees.ensures ∙ c.if-sees.false) c.if-depth-eq0.true) refl

pub selection_set-returns : goal.selection_set-returns
selection_set-returns t c = rw (set_in_braces c.args.depth (input c.args.cursor) c.if-depth-eq0.false) c.in_braces.ensures
