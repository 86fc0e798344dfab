use Rattle.std.proofs.Common.{◌≡◌, ◌-◌, ◌+◌, sym, ◌∙◌, arith, rules, length, refl}
use Rattle.graphql_syntax.specs.Reading.{input, more_test}
use Rattle.graphql_syntax.specs.declared.production.More.TheVariants.{Until}
use Rattle.graphql_syntax.proofs.ManyLemmas.{first_turn, one_more, no_more, no_turns, broken}
use Rattle.graphql_type_system_syntax.proofs.parts.more_until.Goals as goal

pub loop-turn-init : goal.loop-turn-init
loop-turn-init g c = first_turn (more_test (Until c.args.closing)) (g.P.Part.read_at c.args.depth) c.args.found.items (input c.args.cursor) (length c.args.cursor.tokens.now) refl

pub returns-then-not-has_more : goal.returns-then-not-has_more
returns-then-not-has_more g c =
    rw c.packed.ensures (
    c.loop-turn.invariant ∙
    no_more (more_test (Until c.args.closing)) (g.P.Part.read_at c.args.depth) (length c.args.cursor.tokens.now - c.loop-turn._turn) c.loop-turn.found.items (input c.loop-turn.here)
    (sym c.has_more.ensures ∙ c.if-not-has_more.true))

pub returns-in_err-item : goal.returns-in_err-item
returns-in_err-item g c =
    let none =
    broken (more_test (Until c.args.closing)) (g.P.Part.read_at c.args.depth) (length c.args.cursor.tokens.now - c.loop-turn._turn) c.loop-turn.found.items (input c.loop-turn.here)
    c.in_err-item.field-0.0 (sym c.has_more.ensures ∙ c.if-not-has_more.false) (omega arith) c.in_err-item.ensures in
    rw c.loop-turn.invariant (search rules)

pub loop-turn-preserved : goal.loop-turn-preserved
loop-turn-preserved g c =
    let same : (length c.args.cursor.tokens.now - c.loop-turn._turn) - 1 ≡ length c.args.cursor.tokens.now - (c.loop-turn._turn + 1) = omega arith in
    let turn =
    c.loop-turn.invariant ∙
    one_more (more_test (Until c.args.closing)) (g.P.Part.read_at c.args.depth) (length c.args.cursor.tokens.now - c.loop-turn._turn) c.loop-turn.found.items (input c.loop-turn.here)
    c.in_ok-item.item (input c.in_ok-item.behind) (sym c.has_more.ensures ∙ c.if-not-has_more.false) (omega arith) c.in_ok-item.ensures in
    rw (c.in_ok-push.ensures.items, c.make_room.ensures, ← same) turn

pub returns : goal.returns
returns g c =
    rw c.packed-2.ensures (
    c.loop-turn.invariant ∙
    no_turns (more_test (Until c.args.closing)) (g.P.Part.read_at c.args.depth) (length c.args.cursor.tokens.now - c.loop-turn._turn) c.loop-turn.found.items (input c.loop-turn.here) (omega arith))
