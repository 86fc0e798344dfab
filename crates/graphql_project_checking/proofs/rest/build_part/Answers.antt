use Rattle.std.proofs.Common.{◌≡◌, [], Some, rules}
use Rattle.graphql_building_reports.specs.Checks.{reports_of}
use Rattle.graphql_document_checking.specs.BuildingRules.{DocumentBuilds}
use Rattle.graphql_project_checking.specs.Truth.{has_no_part, says_part}
use Rattle.graphql_project_checking.proofs.PartTruthLemmas.{silent_of}
use Rattle.graphql_project_checking.proofs.SilenceLemmas.{holds_of}
use Rattle.graphql_project_checking.proofs.rest.build_part.Goals as goal

pub build_document-requires : goal.build_document-requires
build_document-requires c =
    let none : reports_of c.check_document.new.reports ≡ [] = search rules in
    holds_of _ _ _ _ c.in_ok-check_document.ensures c.with_hash_seed-reports.ensures.empty none

pub returns-in_ok-typed : goal.returns-in_ok-typed
returns-in_ok-typed c =
    let none : reports_of c.check_document.new.reports ≡ [] = search rules in
    says_part c.in_ok-part.part c.in_ok-part.ensures (holds_of _ _ _ _ c.in_ok-check_document.ensures c.with_hash_seed-reports.ensures.empty none) c.in_ok-typed.ensures.says

pub returns-in_ok-leave_out : goal.returns-in_ok-leave_out
returns-in_ok-leave_out c =
    let some : reports_of c.check_document.new.reports ≡ [] → ⊥ = search rules in
    has_no_part c.in_ok-part.part c.in_ok-part.ensures
    (λ (builds : DocumentBuilds (Some c.args.building.schema.now) c.in_ok-part.part). some (silent_of _ _ _ _ c.in_ok-check_document.ensures c.with_hash_seed-reports.ensures.empty builds))
