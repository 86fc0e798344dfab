use Rattle.std.proofs.Common.{All, subst}
use Rattle.std.specs.Prelude.{MatchOption}
use Rattle.std.proofs.lemmas.Result.{IfOk-at_ok}
use Rattle.graphql_diagnostics.specs.Diagnostics.{entries}
use Rattle.graphql_documents.specs.Selections.{fragments_of}
use Rattle.graphql_specification.specs.MergedSets.{MeetingFieldsAgree}
use Rattle.graphql_pair_merging.specs.Meetings.{IsMetConflict}
use Rattle.graphql_pair_merging.specs.NumberedSets.{operation_sets}
use Rattle.graphql_pair_merging.proofs.ReportedLemmas.{reported_decides, reported_truth, silent_decides}
use Rattle.graphql_pair_merging.proofs.merging.merge_by_pairs_in_steps.Goals as goal

pub report-requires : goal.report-requires
report-requires g c =
    let schema = c.args.schema.now in
    let F = fragments_of c.args.document.now in
    let sets = operation_sets c.args.operations.now in
    let m = subst (λ o. MatchOption o (All (MeetingFieldsAgree schema F) sets) (IsMetConflict schema F sets)) c.in-Ok-Some.field-0-is c.in-Ok-Some.ensures.found in
    (schema, m.pass, m.disagree)

pub returns-in_ok-report-in-Ok-Some-clause-decides : goal.returns-in_ok-report-in-Ok-Some-clause-decides
returns-in_ok-report-in-Ok-Some-clause-decides g c _ =
    let schema = c.args.schema.now in
    let F = fragments_of c.args.document.now in
    let operations = c.args.operations.now in
    let sets = operation_sets operations in
    let m = subst (λ o. MatchOption o (All (MeetingFieldsAgree schema F) sets) (IsMetConflict schema F sets)) c.in-Ok-Some.field-0-is c.in-Ok-Some.ensures.found in
    IfOk-at_ok _ c.in_ok-report-in-Ok-Some.was
    (reported_decides schema F operations c.in-Ok-Some.conflict m c.report.result (entries c.args.diagnostics.now) (entries c.report.new.diagnostics)
    (c.report.ensures schema m.pass m.disagree))

pub returns-in_err-report-in-Ok-Some-clause-truth : goal.returns-in_err-report-in-Ok-Some-clause-truth
returns-in_err-report-in-Ok-Some-clause-truth g c =
    let schema = c.args.schema.now in
    let F = fragments_of c.args.document.now in
    let operations = c.args.operations.now in
    let sets = operation_sets operations in
    let m = subst (λ o. MatchOption o (All (MeetingFieldsAgree schema F) sets) (IsMetConflict schema F sets)) c.in-Ok-Some.field-0-is c.in-Ok-Some.ensures.found in
    reported_truth schema F operations c.in-Ok-Some.conflict m c.report.result (entries c.args.diagnostics.now) (entries c.report.new.diagnostics)
    (c.report.ensures schema m.pass m.disagree)

pub returns-in_ok-report-in-Ok-Some-clause-truth : goal.returns-in_ok-report-in-Ok-Some-clause-truth
returns-in_ok-report-in-Ok-Some-clause-truth g c =
    let schema = c.args.schema.now in
    let F = fragments_of c.args.document.now in
    let operations = c.args.operations.now in
    let sets = operation_sets operations in
    let m = subst (λ o. MatchOption o (All (MeetingFieldsAgree schema F) sets) (IsMetConflict schema F sets)) c.in-Ok-Some.field-0-is c.in-Ok-Some.ensures.found in
    reported_truth schema F operations c.in-Ok-Some.conflict m c.report.result (entries c.args.diagnostics.now) (entries c.report.new.diagnostics)
    (c.report.ensures schema m.pass m.disagree)

pub returns-in-Ok-None-clause-decides : goal.returns-in-Ok-None-clause-decides
returns-in-Ok-None-clause-decides g c _ =
    let schema = c.args.schema.now in
    let F = fragments_of c.args.document.now in
    let operations = c.args.operations.now in
    let sets = operation_sets operations in
    let agree = subst (λ o. MatchOption o (All (MeetingFieldsAgree schema F) sets) (IsMetConflict schema F sets)) c.in-Ok-None.field-0-is c.in-Ok-None.ensures.found in
    silent_decides schema F operations (entries c.args.diagnostics.now) agree
