use Rattle.std.proofs.Common.{take, subst, arith}
use Rattle.std.specs.Option.{option_copied}
use Rattle.std.proofs.lemmas.List.{take_all}
use Rattle.std.proofs.lemmas.List.Elements.{All-nil}
use Rattle.graphql_diagnostics.specs.Diagnostics.{IsDiagnostic, entries}
use Rattle.graphql_specification.specs.Directives.{DirectivesReport, ApplicationsHold}
use Rattle.graphql_diagnostics.specs.Reports.{Reports}
use Rattle.graphql_diagnostics.proofs.ReportLemmas.{checks-err, holds, kept_by, kept_then}
use Rattle.graphql_values.proofs.DirectiveLemmas.{application_checked}
use Rattle.graphql_variables.proofs.ReferenceLemmas.{referred, referred_more, referred_next}
use Rattle.graphql_values.proofs.directive.check_directives.Goals as goal

pub loop-directive-init : goal.loop-directive-init
loop-directive-init c = record {
  reported = holds _ _ _ (record { each = All-nil _; repetitions = λ i j d lt h. absurd (let none : ⊥ = omega arith in none) });
  remembered = c.with_hasher-seen.ensures;
}

pub returns-in_err-validate_directive : goal.returns-in_err-validate_directive
returns-in_err-validate_directive c =
    let xs = c.args.directives.now in
    let i = c.loop-directive.directive-index in
    checks-err _ _ _ _ _ c.from_residual.ensures.0
    (kept_then (kept_by c.loop-directive.invariant.reported)
    (c.in_err-validate_directive.ensures.checks (referred (take i xs)) c.loop-directive.invariant.remembered (referred xs)
    (referred_next xs i c.directive-item.result c.loop-directive-test.true c.directive-item.is)))

pub loop-directive-preserved : goal.loop-directive-preserved
loop-directive-preserved c =
    let xs = c.args.directives.now in
    let i = c.loop-directive.directive-index in
    let x = c.directive-item.result in
    let before = referred (take i xs) in
    let more = referred_more xs i x c.loop-directive-test.true c.directive-item.is in
    let next = referred_next xs i x c.loop-directive-test.true c.directive-item.is in
    record {
      reported = rw more
          (application_checked (option_copied c.args.schema) c.args.variables.now c.args.location (referred xs) before x.now _ _ _ c.loop-directive.invariant.reported
          (c.in_ok-validate_directive.ensures.checks before c.loop-directive.invariant.remembered (referred xs) next));
      remembered = rw more (c.in_ok-validate_directive.ensures.remembers before c.loop-directive.invariant.remembered);
    }

pub returns : goal.returns
returns c =
    let xs = c.args.directives.now in
    subst (λ l. Reports (ApplicationsHold (option_copied c.args.schema) c.args.variables.now c.args.location (referred l))
    (IsDiagnostic (DirectivesReport (option_copied c.args.schema) c.args.variables.now c.args.location (referred xs)))
    (entries c.args.diagnostics.now) (entries c.loop-directive.diagnostics))
    (take_all c.loop-directive.directive-index xs c.loop-directive-test.false) c.loop-directive.invariant.reported
