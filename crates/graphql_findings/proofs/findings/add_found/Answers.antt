use Rattle.std.proofs.Common.{◌≡◌, length, rules, subst}
use Rattle.graphql_shown_reports.specs.Shown.{listed}
use Rattle.graphql_findings.specs.Findings.{IsJoined}
use Rattle.graphql_findings.proofs.FindingLemmas.{as_many_shown, found_of_joined}
use Rattle.graphql_findings.proofs.findings.add_found.Goals as goal

pub join-requires : goal.join-requires
join-requires c =
    let singles = c.in_ok-singles.singles.items in
    let same : c.deref.result.now ≡ singles = search rules in
    let count : c.len.result ≡ length singles = search rules in
    rw same (as_many_shown c.args.sources.now c.args.bounds (listed c.args.reports.now) c.in_ok-shown.shown.items singles c.len.result count c.in_ok-singles.ensures c.in_ok-shown.ensures)

pub returns : goal.returns
returns c =
    let singles = c.in_ok-singles.singles.items in
    let shown = c.in_ok-shown.shown.items in
    let old = c.args.found.now.items in
    let new = c.join.new.found.items in
    let same : c.deref.result.now ≡ singles = search rules in
    let count : c.len.result ≡ length singles = search rules in
    found_of_joined c.args.sources.now c.args.bounds (listed c.args.reports.now) shown singles c.len.result old new count c.in_ok-singles.ensures c.in_ok-shown.ensures
    (subst (λ l. IsJoined shown l old new) same c.in_ok-join.ensures)
