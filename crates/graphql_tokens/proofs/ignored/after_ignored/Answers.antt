use Rattle.std.proofs.Common.{◌≡◌, List, ℕ, length, sym, ◌∙◌, ap, arith}
use Rattle.graphql_tokens.specs.Scans.{after_run, after_all, ignored_at, is_blank}
use Rattle.graphql_tokens.proofs.ScanLemmas.{run_within, after_more, after_none, after_passed}
use Rattle.graphql_tokens.proofs.IgnoredScans.{ignored_shrinks, blank_ignored}
use Rattle.graphql_tokens.proofs.ignored.after_ignored.Goals as goal

passed : (text rest : List ℕ) → rest ≡ after_run is_blank text → after_all ignored_at rest ≡ after_all ignored_at text
passed text rest e = rw e (after_passed ignored_at ignored_shrinks is_blank blank_ignored text)

pub loop-behind-init : goal.loop-behind-init
loop-behind-init c = passed c.args.text.now c.after_run-rest.result.now c.after_run-rest.ensures

pub loop-behind-smaller : goal.loop-behind-smaller
loop-behind-smaller c =
    omega (
      arith,
      ignored_shrinks c.loop-behind.rest.now c.in-Some.behind.now c.in-Some.ensures,
      run_within is_blank c.in-Some.behind.now,
      ap length c.after_run-rest-in-Some.ensures,
    )

pub loop-behind-preserved : goal.loop-behind-preserved
loop-behind-preserved c =
    passed c.in-Some.behind.now c.after_run-rest-in-Some.result.now c.after_run-rest-in-Some.ensures
    ∙ sym (after_more ignored_at ignored_shrinks c.loop-behind.rest.now c.in-Some.behind.now c.in-Some.ensures)
    ∙ c.loop-behind.invariant

pub returns : goal.returns
returns c =
    sym (after_none ignored_at ignored_shrinks c.loop-behind.rest.now c.in_default.ensures) ∙ c.loop-behind.invariant
