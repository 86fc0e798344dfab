use Rattle.std.proofs.Common.{None, rules, subst, ◌≡◌}
use Rattle.std.specs.Prelude.{MatchOption}
use Rattle.graphql_nesting.specs.Nesting.{IsNestingReportOf, NestsWithin}
use Rattle.graphql_frontend.specs.Documents.{IsReachReport, ReachesWithinBounds}
use Rattle.graphql_frontend.proofs.documents.validate_built.Goals as goal

pub returns-in-None : goal.returns-in-None
returns-in-None c =
    let d = c.args.document.now in
    let bounds = c.args.bounds in
    let bytes = c.args.bytes in
    let none : c.in_ok-report.field-0 ≡ None = search rules in
    let nests = subst (λ found. MatchOption found (NestsWithin bounds.depth d) (IsNestingReportOf bounds.depth d)) none c.in_ok-report.ensures.found in
    let reaches = subst (λ found. MatchOption found (ReachesWithinBounds bounds bytes d) (IsReachReport bounds bytes d)) c.in-None.is c.in_ok-check_bytes_reached.ensures in
    c.validate_within.ensures nests reaches
