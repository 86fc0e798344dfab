use Rattle.std.proofs.Common.{take, map, subst, sym, rules, arith}
use Rattle.graphql_nodes.specs.Names.{AreDistinct}
use Rattle.graphql_diagnostics.specs.Reports.{Reports}
use Rattle.graphql_diagnostics.proofs.ReportLemmas.{both, checks-err, holds, in_words, kept_by, kept_then}
use Rattle.graphql_variables.proofs.FirstPlaceLemmas.{distinct_more}
use Rattle.graphql_variables.specs.FirstPlaces.{Remembers}
use Rattle.graphql_building_reports.specs.Checks.{reports_of}
use Rattle.graphql_repetitions.specs.References.{nows}
use Rattle.graphql_repetitions.specs.Repetitions.{RepetitionReport, met_name, repetition_rule}
use Rattle.graphql_repetitions.proofs.ReferenceLemmas.{next_now, nows_all, nows_more}
use Rattle.graphql_repetitions.proofs.repetitions.check_repetitions.Goals as goal

pub loop-name-init : goal.loop-name-init
loop-name-init c = record {
  reported = holds _ _ _ (λ i j d lt h. absurd (let none : ⊥ = omega arith in none));
  remembered = c.with_hasher-seen.ensures;
}

pub returns-in_err-check_name : goal.returns-in_err-check_name
returns-in_err-check_name c =
    let xs = c.args.names.now in
    let i = c.loop-name.name-index in
    let x = c.name-item.result in
    checks-err _ _ _ _ _ c.from_residual.ensures.0
    (kept_then (kept_by c.loop-name.invariant.reported)
    (c.in_err-check_name.ensures.checks (nows xs) (nows (take i xs)) (next_now xs i x c.loop-name-test.true c.name-item.is) c.loop-name.invariant.remembered))

pub loop-name-preserved : goal.loop-name-preserved
loop-name-preserved c =
    let xs = c.args.names.now in
    let i = c.loop-name.name-index in
    let x = c.name-item.result in
    let before = nows (take i xs) in
    let more = sym (nows_more xs i x c.loop-name-test.true c.name-item.is) in
    record {
      reported =
          subst (λ l. Reports (AreDistinct l) (RepetitionReport (nows xs) (repetition_rule c.args.what)) (reports_of c.args.reports.now) (reports_of c.check_name.new.reports)) more
          (in_words (distinct_more (λ n. n) before x.now)
          (both c.loop-name.invariant.reported
          (c.in_ok-check_name.ensures.checks (nows xs) before (next_now xs i x c.loop-name-test.true c.name-item.is) c.loop-name.invariant.remembered)));
      remembered =
          subst (λ l. Remembers c.check_name.new.seen (map met_name l)) more
          (c.in_ok-check_name.ensures.remembers before c.loop-name.invariant.remembered);
    }

pub returns : goal.returns
returns c =
    let xs = c.args.names.now in
    subst (λ l. Reports (AreDistinct l) (RepetitionReport (nows xs) (repetition_rule c.args.what)) (reports_of c.args.reports.now) (reports_of c.loop-name.reports))
    (nows_all xs c.loop-name.name-index c.loop-name-test.false) c.loop-name.invariant.reported
