use Rattle.std.proofs.Common.{◌≡◌, List, ℕ, length, sym, ◌∙◌, ap, arith}
use Rattle.graphql_tokens.specs.Strings.{is_plain_byte}
use Rattle.graphql_tokens.specs.Scans.{after_run, after_all, block_character_at}
use Rattle.graphql_tokens.proofs.ScanLemmas.{run_within, after_more, after_none, after_passed}
use Rattle.graphql_tokens.proofs.QuotedScans.{block_shrinks, block_plain}
use Rattle.graphql_tokens.proofs.quoted.after_block_characters.Goals as goal

passed : (text rest : List ℕ) → rest ≡ after_run is_plain_byte text → after_all block_character_at rest ≡ after_all block_character_at text
passed text rest e = rw e (after_passed block_character_at block_shrinks is_plain_byte block_plain text)

pub loop-behind-init : goal.loop-behind-init
loop-behind-init c = passed c.args.text.now c.after_run-rest.result.now c.after_run-rest.ensures

pub loop-behind-smaller : goal.loop-behind-smaller
loop-behind-smaller c =
    omega (
      arith,
      block_shrinks c.loop-behind.rest.now c.in-Some.behind.now c.in-Some.ensures,
      run_within is_plain_byte c.in-Some.behind.now,
      ap length c.after_run-rest-in-Some.ensures,
    )

pub loop-behind-preserved : goal.loop-behind-preserved
loop-behind-preserved c =
    passed c.in-Some.behind.now c.after_run-rest-in-Some.result.now c.after_run-rest-in-Some.ensures
    ∙ sym (after_more block_character_at block_shrinks c.loop-behind.rest.now c.in-Some.behind.now c.in-Some.ensures)
    ∙ c.loop-behind.invariant

pub returns : goal.returns
returns c =
    sym (after_none block_character_at block_shrinks c.loop-behind.rest.now c.in_default.ensures) ∙ c.loop-behind.invariant
