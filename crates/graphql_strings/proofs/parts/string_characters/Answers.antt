use Rattle.std.proofs.Common.{◌≡◌, Some, None, refl, arith}
use Rattle.graphql_tokens.specs.Strings.{is_string_byte}
use Rattle.graphql_tokens.specs.Scans.{belongs}
use Rattle.graphql_tokens.specs.declared.characters.Class.TheVariants.{StringText}
use Rattle.graphql_strings.specs.Values.{part_value}
use Rattle.graphql_strings.specs.Scans.{string_part_at}
use Rattle.graphql_strings.proofs.PartLemmas.{part_shrinks, plain_part, run_leaves, run_more, one_more, no_more}
use Rattle.graphql_strings.proofs.parts.string_characters.Goals as goal

pub loop-part-init : goal.loop-part-init
loop-part-init c =
    let (run, is, pushed) = c.in_ok-rest.ensures in
    run_more string_part_at part_shrinks is_string_byte plain_part c.new-value.result.items c.push_run.new.value.items run
    c.args.text.now c.in_ok-rest.rest.now _ is pushed (rw c.new-value.ensures.items refl)

pub loop-part-smaller : goal.loop-part-smaller
unfolding string_part_at
loop-part-smaller c =
    let (run, is, pushed) = c.in_ok-rest-2.ensures in
    let on : string_part_at c.loop-part.rest.now ≡ Some (part_value c.in-Some.part, c.in-Some.behind.now) = rw (c.in-Some.ensures, string_part_at) refl in
    omega (
      arith,
      part_shrinks c.loop-part.rest.now (part_value c.in-Some.part, c.in-Some.behind.now) on,
      run_leaves (belongs StringText) c.in-Some.behind.now run c.in_ok-rest-2.rest.now is,
    )

pub loop-part-preserved : goal.loop-part-preserved
unfolding string_part_at
loop-part-preserved c =
    let (run, is, pushed) = c.in_ok-rest-2.ensures in
    let on : string_part_at c.loop-part.rest.now ≡ Some (part_value c.in-Some.part, c.in-Some.behind.now) = rw (c.in-Some.ensures, string_part_at) refl in
    run_more string_part_at part_shrinks is_string_byte plain_part c.push_part.new.value.items c.push_run-in-Some.new.value.items run
    c.in-Some.behind.now c.in_ok-rest-2.rest.now _ is pushed
    (one_more string_part_at part_shrinks c.loop-part.value.items c.push_part.new.value.items (part_value c.in-Some.part)
    c.loop-part.rest.now c.in-Some.behind.now _ on c.in_ok-push_part.ensures c.loop-part.invariant)

pub returns : goal.returns
unfolding string_part_at
returns c =
    let stops : string_part_at c.loop-part.rest.now ≡ None = rw (c.in_default.ensures, string_part_at) refl in
    no_more string_part_at part_shrinks c.loop-part.value.items c.loop-part.rest.now _ stops c.loop-part.invariant
