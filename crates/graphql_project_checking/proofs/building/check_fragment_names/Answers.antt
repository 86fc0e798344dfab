use Rattle.std.proofs.Common.{◌≡◌, ◌∙◌, ◌++◌, [], ap, map, subst, sym}
use Rattle.std.specs.Prelude.{All, Contains, IsOk}
use Rattle.std.proofs.lemmas.List.{map-append}
use Rattle.graphql_building_reports.specs.Checks.{reports_of}
use Rattle.graphql_nodes.specs.Names.{AreDistinct}
use Rattle.graphql_document_checking.specs.Trees.{fragments_in}
use Rattle.graphql_trees.specs.declared.documents.Document.{Document}
use Rattle.graphql_projects.specs.OperationTrees.{fragments_among}
use Rattle.graphql_building_reports.specs.declared.rules.BuildingRule.TheVariants as rule
use Rattle.graphql_diagnostics.specs.Reports.{KeepsReports}
use Rattle.graphql_document_checking.specs.References.{nows}
use Rattle.graphql_document_checking.specs.Repetitions.{RepetitionReport}
use Rattle.graphql_project_checking.specs.Silence.{SilentOnlyIf}
use Rattle.graphql_project_checking.specs.Truth.{AreOfBuilding, IsFragmentNameReport}
use Rattle.graphql_project_checking.proofs.BuildingLemmas.{name_of}
use Rattle.graphql_project_checking.proofs.ProjectLemmas.{flat_of_both}
use Rattle.graphql_project_checking.proofs.SilenceLemmas.{checked_holds, on_ok, silent_so}
use Rattle.graphql_project_checking.proofs.TruthLemmas.{each_checked, of_building_list}
use Rattle.graphql_project_checking.proofs.building.check_fragment_names.Goals as goal

pub returns : goal.returns
returns c =
    let own = c.args.own.now in
    let lent = c.args.lent.now in
    let old = c.args.found.now.items in
    let new = c.add_reports.new.found.items in
    let names = nows c.push_fragment_names-2.new.names.items in
    let H = AreDistinct (map name_of (fragments_among (own ++ lent))) in
    let both : names ≡ map name_of (fragments_among (own ++ lent)) =
    c.in_ok-push_fragment_names-2.ensures ∙ ap (λ l. l ++ map name_of (fragments_among lent)) (c.in_ok-push_fragment_names.ensures ∙ ap (λ l. nows l ++ map name_of (fragments_among own)) c.new-names.ensures.items) ∙
    sym (ap (map name_of) (flat_of_both (λ (t : Document). fragments_in t.definitions) own lent) ∙ map-append name_of (fragments_among own) (fragments_among lent)) in
    let same = ap nows c.deref.ensures.value ∙ both in
    let list = reports_of c.check_repetitions-checked.new.reports in
    let each : All (RepetitionReport (nows c.deref.result.now) rule.FragmentNameCollision) list =
    each_checked c.check_repetitions-checked.result _ _ _ _ c.check_repetitions-checked.ensures c.new_list-reports.ensures in
    record {
      silence = on_ok (SilentOnlyIf old new (IsOk c.check_repetitions-checked.result × (list ≡ []))) (SilentOnlyIf old new H)
          (silent_so old new (IsOk c.check_repetitions-checked.result × (list ≡ [])) H
          (λ h. subst AreDistinct same (checked_holds c.check_repetitions-checked.result _ _ _ _ c.check_repetitions-checked.ensures c.new_list-reports.ensures h.0 h.1)))
          c.add_reports.result c.add_reports.ensures.silence;
      truth = on_ok (KeepsReports (AreOfBuilding (Contains list)) old new) (KeepsReports (AreOfBuilding (IsFragmentNameReport (own ++ lent))) old new)
          (of_building_list old new (IsFragmentNameReport (own ++ lent)) list (subst (λ l. All (RepetitionReport l rule.FragmentNameCollision) list) same each))
          c.add_reports.result c.add_reports.ensures.truth;
    }
