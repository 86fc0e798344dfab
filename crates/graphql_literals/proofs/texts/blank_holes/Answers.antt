use Rattle.std.proofs.Common.{arith, get_or}
use Rattle.graphql_literals.proofs.BlankLemmas.{blank_step}
use Rattle.graphql_literals.proofs.Utf8Lemmas.{hole_keeps_utf8}
use Rattle.graphql_literals.proofs.texts.blank_holes.Goals as goal

pub loop-hole-preserved : goal.loop-hole-preserved
loop-hole-preserved c =
    let holes = c.args.holes.now in
    let i = c.loop-hole.hole-index in
    let first = c.args.bytes.now in
    let now = c.loop-hole.bytes in
    let new = c.blank_within.new.bytes in
    record {
      each = λ k h.
          blank_step holes i _ k (get_or first k 0) (get_or now k 0) (get_or new k 0) c.loop-hole-test.true (c.loop-hole.invariant.each k h)
          (c.blank_within.ensures.each k (omega (arith, c.loop-hole.auto.bytes)));
      utf8 = λ u ends.
          hole_keeps_utf8 holes i _ first now new c.loop-hole-test.true c.loop-hole.auto.bytes c.blank_within.ensures.long c.loop-hole.invariant.each
          c.blank_within.ensures.each ends (c.loop-hole.invariant.utf8 u ends);
    }
