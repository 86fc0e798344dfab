use Rattle.std.proofs.Common.{[], subst, sym, take_all}
use Rattle.std.specs.Prelude.{Some}
use Rattle.graphql_document_checking.specs.DocumentReports.{DocumentBuildingReport}
use Rattle.graphql_project_checking.specs.Silence.{BuildAll, SilentOnlyIf}
use Rattle.graphql_project_checking.specs.Truth.{AreOfBuilding, AreOfOneDocument}
use Rattle.graphql_project_checking.proofs.BuildingLemmas.{build_more, build_none}
use Rattle.graphql_project_checking.proofs.SilenceLemmas.{stays_silent}
use Rattle.graphql_project_checking.proofs.TruthLemmas.{adds_nothing, adds_so, adds_then, stands_at}
use Rattle.graphql_project_checking.proofs.building.build_files.Goals as goal

pub loop-document-init : goal.loop-document-init
loop-document-init c =
    let s = c.args.building.schema.now in
    let old = c.args.found.now.items in
    (stays_silent old _ (subst (BuildAll s []) (sym c.new-files.ensures.items) (build_none s)), adds_nothing (AreOfOneDocument s c.args.documents.now) old)

pub loop-document-preserved : goal.loop-document-preserved
loop-document-preserved c =
    let s = c.args.building.schema.now in
    let documents = c.args.documents.now in
    let i = c.loop-document.document-index in
    let x = c.document-item.result in
    let old = c.args.found.now.items in
    let mid = c.loop-document.found.items in
    let new = c.build_file.new.found.items in (
      build_more s documents i x c.loop-document.files.items c.add_file.new.files.items c.in_ok-file.file old mid new c.loop-document-test.true c.document-item.is
          c.in_ok-add_file.ensures c.loop-document.invariant.0 c.in_ok-file.ensures.silence,
      adds_then (AreOfOneDocument s documents) old mid new c.loop-document.invariant.1
          (adds_so (AreOfBuilding (DocumentBuildingReport (Some s) x)) (AreOfOneDocument s documents) mid new
          (λ r are. (x, stands_at documents i x c.loop-document-test.true c.document-item.is, are)) c.in_ok-file.ensures.truth),
    )

pub returns : goal.returns
returns c = record {
  silence = subst (λ l. SilentOnlyIf c.args.found.now.items c.loop-document.found.items (BuildAll c.args.building.schema.now l c.loop-document.files.items))
      (take_all c.loop-document.document-index c.args.documents.now c.loop-document-test.false) c.loop-document.invariant.0;
  truth = c.loop-document.invariant.1;
}
