-- Each argument is looked up among those before it, by what `seen` has of them.
use Rattle.std.proofs.Common.{◌≡◌, None, take, sym, ap, ◌∙◌, subst, arith}
use Rattle.std.proofs.lemmas.List.{take_all}
use Rattle.graphql_specification.specs.Arguments.{AreRepetitionReports, RepetitionReport, HasDistinctNames}
use Rattle.graphql_documents.specs.Directives.{argument_named}
use Rattle.graphql_diagnostics.specs.Diagnostics.{IsDiagnostic, entries}
use Rattle.graphql_diagnostics.specs.Reports.{Appends, KeepsReports, Reports}
use Rattle.graphql_diagnostics.proofs.ReportLemmas.{both, checks-err, holds, in_words, kept_by}
use Rattle.graphql_documents.proofs.ListLemmas.{more_is}
use Rattle.graphql_values.specs.Repetitions.{argument_name, argument_place_in, visited_argument}
use Rattle.graphql_variables.proofs.FirstPlaceLemmas.{place_of_first, remembers_next}
use Rattle.graphql_values.proofs.RepetitionLemmas.{appends_more, appends_none, distinct_at, few_repeat_none, reports_more}
use Rattle.graphql_values.proofs.argument.validate_arguments.Goals as goal

pub returns-then-arguments-lt2-clause-exact : goal.returns-then-arguments-lt2-clause-exact
returns-then-arguments-lt2-clause-exact c =
    appends_none _ _ (few_repeat_none c.args.arguments.now (omega (arith, c.if-arguments-lt2.true)))

pub loop-argument-init : goal.loop-argument-init
loop-argument-init c = record {
  appended = appends_none _ _ tt;
  reported = holds _ _ _ (λ i j d lt h. absurd (let none : ⊥ = omega arith in none));
  remembered = c.with_hasher-seen.ensures;
}

pub returns-in_err-first-clause-checks : goal.returns-in_err-first-clause-checks
returns-in_err-first-clause-checks c =
    checks-err _ _ _ _ _ c.from_residual.ensures.0 (kept_by c.loop-argument.invariant.reported)

pub returns-in_err-check_repetition-clause-checks : goal.returns-in_err-check_repetition-clause-checks
returns-in_err-check_repetition-clause-checks c =
    let xs = c.args.arguments.now in
    let before = take c.loop-argument.argument-index xs in
    let x = c.argument-item.result in
    let first_is : c.in_ok-first.first ≡ argument_place_in before (argument_name x) =
    c.in_ok-first.ensures.found _ c.loop-argument.invariant.remembered ∙ place_of_first visited_argument before c.deref.result.now.name ∙
    ap (λ a. argument_place_in before a.name) c.deref.ensures in
    checks-err _ _ _ _ _ c.from_residual-in_err-check_repetition.ensures.0
    (subst (KeepsReports (IsDiagnostic (RepetitionReport xs)) (entries c.args.diagnostics.now)) (sym (c.in_err-check_repetition.ensures before first_is))
    (kept_by c.loop-argument.invariant.reported))

pub loop-argument-preserved : goal.loop-argument-preserved
loop-argument-preserved c =
    let xs = c.args.arguments.now in
    let i = c.loop-argument.argument-index in
    let x = c.argument-item.result in
    let before = take i xs in
    let within = c.loop-argument-test.true in
    let item = c.argument-item.is in
    let Q = IsDiagnostic (RepetitionReport xs) in
    let is_new = argument_named (argument_name x) before ≡ None in
    let old = entries c.args.diagnostics.now in
    let mid = entries c.loop-argument.diagnostics in
    let new = entries c.check_repetition.new.diagnostics in
    let name_is : c.deref.result.now.name ≡ argument_name x = ap (λ a. a.name) c.deref.ensures in
    let first_is : c.in_ok-first.first ≡ argument_place_in before (argument_name x) =
    c.in_ok-first.ensures.found _ c.loop-argument.invariant.remembered ∙ place_of_first visited_argument before c.deref.result.now.name ∙
    ap (λ a. argument_place_in before a.name) c.deref.ensures in
    let report = c.in_ok-check_repetition.ensures before first_is in
    record {
      appended = appends_more xs i x within item old mid new c.loop-argument.invariant.appended report;
      reported = in_words (distinct_at xs i x within item)
          (both c.loop-argument.invariant.reported (reports_more xs i x within item mid new report));
      remembered = rw (more_is xs i x within item)
          (remembers_next visited_argument before x (rw name_is at (c.in_ok-first.ensures.remembered _ c.loop-argument.invariant.remembered)));
    }

pub returns-clause-exact : goal.returns-clause-exact
returns-clause-exact c =
    let xs = c.args.arguments.now in
    subst (λ l. Appends (AreRepetitionReports l) (entries c.args.diagnostics.now) (entries c.loop-argument.diagnostics))
    (take_all c.loop-argument.argument-index xs c.loop-argument-test.false) c.loop-argument.invariant.appended

pub returns-clause-checks : goal.returns-clause-checks
returns-clause-checks c =
    let xs = c.args.arguments.now in
    subst (λ l. Reports (HasDistinctNames l) (IsDiagnostic (RepetitionReport xs)) (entries c.args.diagnostics.now) (entries c.loop-argument.diagnostics))
    (take_all c.loop-argument.argument-index xs c.loop-argument-test.false) c.loop-argument.invariant.reported
