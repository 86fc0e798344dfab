use Rattle.std.proofs.Common.{refl, arith}
use Rattle.graphql_tokens.specs.Strings.{is_plain_byte}
use Rattle.graphql_tokens.specs.Scans.{belongs}
use Rattle.graphql_tokens.specs.declared.characters.Class.TheVariants.{BlockText}
use Rattle.graphql_strings.specs.Scans.{block_part_at}
use Rattle.graphql_strings.proofs.PartLemmas.{block_part_shrinks, plain_block_part, run_leaves, run_more, one_more, no_more}
use Rattle.graphql_strings.proofs.parts.block_characters.Goals as goal

pub loop-part-init : goal.loop-part-init
loop-part-init c =
    let (run, is, pushed) = c.in_ok-rest.ensures in
    run_more block_part_at block_part_shrinks is_plain_byte plain_block_part c.new-raw.result.items c.push_run.new.value.items run
    c.args.text.now c.in_ok-rest.rest.now _ is pushed (rw c.new-raw.ensures.items refl)

pub loop-part-smaller : goal.loop-part-smaller
loop-part-smaller c =
    let (run, is, pushed) = c.in_ok-rest-2.ensures in
    omega (
      arith,
      block_part_shrinks c.loop-part.rest.now (c.in-Some.part.now, c.in-Some.behind.now) c.in-Some.ensures,
      run_leaves (belongs BlockText) c.in-Some.behind.now run c.in_ok-rest-2.rest.now is,
    )

pub loop-part-preserved : goal.loop-part-preserved
loop-part-preserved c =
    let (run, is, pushed) = c.in_ok-rest-2.ensures in
    run_more block_part_at block_part_shrinks is_plain_byte plain_block_part c.extend_from_slice.new.self.items c.push_run-in-Some.new.value.items run
    c.in-Some.behind.now c.in_ok-rest-2.rest.now _ is pushed
    (one_more block_part_at block_part_shrinks c.loop-part.raw.items c.extend_from_slice.new.self.items c.in-Some.part.now
    c.loop-part.rest.now c.in-Some.behind.now _ c.in-Some.ensures c.in_ok-extend_from_slice.ensures.items c.loop-part.invariant)

pub returns : goal.returns
returns c = no_more block_part_at block_part_shrinks c.loop-part.raw.items c.loop-part.rest.now _ c.in_default.ensures c.loop-part.invariant
