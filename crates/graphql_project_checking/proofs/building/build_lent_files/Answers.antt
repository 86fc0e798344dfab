use Rattle.std.proofs.Common.{subst}
use Rattle.std.specs.Prelude.{All, Some}
use Rattle.graphql_diagnostics.specs.Reports.{KeepsReports}
use Rattle.graphql_document_checking.specs.DocumentReports.{DocumentBuildingReport}
use Rattle.graphql_projects.proofs.SaidReachLemmas.{zip_first}
use Rattle.graphql_project_checking.specs.Silence.{BuildAll, BuildAsLent, HasFragmentsOf, OthersBuild, SilentOnlyIf}
use Rattle.graphql_project_checking.specs.Truth.{AreOfOneDocument}
use Rattle.graphql_project_checking.proofs.LentLemmas.{report_of_whole}
use Rattle.graphql_project_checking.proofs.SilenceLemmas.{silent_then}
use Rattle.graphql_project_checking.proofs.TruthLemmas.{adds_so, adds_then, building_so}
use Rattle.graphql_project_checking.proofs.building.build_lent_files.Goals as goal

pub returns : goal.returns
returns c =
    let s = c.args.building.schema.now in
    let trees = c.args.documents.items in
    let fragments = c.in_ok-fragments.fragments in
    let files = c.in_ok-files.files in
    let old = c.args.found.now.items in
    let mid = c.fragments_of_files.new.found.items in
    let new = c.build_files.new.found.items in
    record {
      silence = silent_then old mid new (All (OthersBuild s) trees) (BuildAll s fragments.items files.items)
          (BuildAsLent s trees (record { documents = fragments; files = files }))
          (λ others build. record { others = others; fragments = c.in_ok-fragments.ensures.fragments; build = build }) c.in_ok-fragments.ensures.silence
          (subst (λ l. SilentOnlyIf mid new (BuildAll s l files.items)) c.deref.ensures.value c.in_ok-files.ensures.silence);
      truth = adds_then (AreOfOneDocument s trees) old mid new c.in_ok-fragments.ensures.truth
          (adds_so (AreOfOneDocument s fragments.items) (AreOfOneDocument s trees) mid new
          (λ r are.
          let t = zip_first HasFragmentsOf trees fragments.items are.0 c.in_ok-fragments.ensures.fragments are.1 in
          (t.0, t.1, building_so (DocumentBuildingReport (Some s) are.0) (DocumentBuildingReport (Some s) t.0) (report_of_whole (Some s) t.0 are.0 t.2) r are.2))
          (subst (λ l. KeepsReports (AreOfOneDocument s l) mid new) c.deref.ensures.value c.in_ok-files.ensures.truth));
      fragments = c.in_ok-fragments.ensures.fragments;
    }
