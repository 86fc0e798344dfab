use Rattle.std.proofs.Common.{◌≡◌, [], ◌∷◌, ◌++◌, map, rules}
use Rattle.std.proofs.lemmas.Result.{on_ok_weaker}
use Rattle.graphql_building_reports.specs.Checks.{reports_of}
use Rattle.graphql_shown_reports.specs.Shown.{building, more}
use Rattle.graphql_findings.specs.Singles.{report_of}
use Rattle.graphql_findings.proofs.SingleLemmas.{joined}
use Rattle.graphql_findings.proofs.singles.push_first_building.Goals as goal

pub returns : goal.returns
returns c =
    let old = map report_of c.args.singles.now.items in
    let mid = map report_of c.push_building.new.singles.items in
    let new = map report_of c.push.new.singles.items in
    let list = map building (reports_of c.args.list.now) in
    let first : mid ≡ old ++ list = search rules in
    on_ok_weaker {P = new ≡ mid ++ more ∷ []} c.push.result (λ so. joined old mid new list (more ∷ []) first so) c.push.ensures
