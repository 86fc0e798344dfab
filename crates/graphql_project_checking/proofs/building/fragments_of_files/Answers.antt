use Rattle.std.proofs.Common.{◌≡◌, ◌∙◌, ◌∷◌, ◌++◌, [], ap, rules, subst, sym}
use Rattle.std.specs.Prelude.{All}
use Rattle.std.specs.List.{AllZip}
use Rattle.std.proofs.lemmas.List.{append-nil, nil_from_length}
use Rattle.std.proofs.lemmas.List.Elements.{All-append, All-cons, All-nil}
use Rattle.std.specs.Prelude.{Some}
use Rattle.graphql_document_checking.specs.DocumentReports.{DocumentBuildingReport}
use Rattle.graphql_documents.proofs.ListLemmas.{done_next, stands_next}
use Rattle.graphql_project_checking.specs.Silence.{HasFragmentsOf, OthersBuild, SilentOnlyIf}
use Rattle.graphql_project_checking.specs.Truth.{AreOfBuilding, AreOfOneDocument}
use Rattle.graphql_project_checking.proofs.BuildingLemmas.{zip_last}
use Rattle.graphql_project_checking.proofs.SilenceLemmas.{silent_then, stays_silent}
use Rattle.graphql_project_checking.proofs.TruthLemmas.{adds_nothing, adds_so, adds_then}
use Rattle.graphql_project_checking.proofs.building.fragments_of_files.Goals as goal

pub loop-document-init : goal.loop-document-init
loop-document-init c =
    let s = c.args.building.schema.now in (
      [],
      search rules,
      stays_silent c.args.found.now.items (All (OthersBuild s) []) (All-nil (OthersBuild s)),
      subst (AllZip HasFragmentsOf []) (sym c.new-fragments.ensures.items) tt,
      adds_nothing (AreOfOneDocument s c.args.documents.items) c.args.found.now.items,
    )

pub loop-document-preserved : goal.loop-document-preserved
loop-document-preserved c =
    let s = c.args.building.schema.now in
    let before = c.loop-document.invariant in
    let x = c.in-Some.document in
    let alone = c.in_ok-alone.alone in (
      before.0 ++ x ∷ [],
      done_next _ before.0 c.loop-document.document-iterator.rest.items c.next.new.self.rest.items x before.1 c.in-Some.ensures.steps.0,
      silent_then c.args.found.now.items c.loop-document.found.items c.fragments_of_file.new.found.items (All (OthersBuild s) before.0) (OthersBuild s x)
          (All (OthersBuild s) (before.0 ++ x ∷ []))
          (λ a b. All-append (OthersBuild s) before.0 (x ∷ []) a (All-cons (OthersBuild s) x [] b (All-nil (OthersBuild s)))) before.2 c.in_ok-alone.ensures.silence,
      subst (AllZip HasFragmentsOf (before.0 ++ x ∷ [])) (sym c.in_ok-push.ensures.items)
          (zip_last HasFragmentsOf before.0 c.loop-document.fragments.items x alone before.3 c.in_ok-alone.ensures.fragments),
      adds_then (AreOfOneDocument s c.args.documents.items) c.args.found.now.items c.loop-document.found.items c.fragments_of_file.new.found.items before.4
          (adds_so (AreOfBuilding (DocumentBuildingReport (Some s) x)) (AreOfOneDocument s c.args.documents.items) c.loop-document.found.items c.fragments_of_file.new.found.items
          (λ r are. (x, stands_next c.args.documents.items before.0 c.loop-document.document-iterator.rest.items c.next.new.self.rest.items x before.1 c.in-Some.ensures.steps.0, are))
          c.in_ok-alone.ensures.truth),
    )

pub returns : goal.returns
returns c =
    let s = c.args.building.schema.now in
    let before = c.loop-document.invariant in
    let rest = c.loop-document.document-iterator.rest in
    let none : rest.items ≡ [] = nil_from_length rest.items (sym rest.ok.0 ∙ c.in-None.ensures.steps.0) in
    let done = before.1 ∙ ap (λ l. before.0 ++ l) none ∙ append-nil before.0 in
    record {
      silence = subst (λ l. SilentOnlyIf c.args.found.now.items c.loop-document.found.items (All (OthersBuild s) l)) (sym done) before.2;
      truth = before.4;
      fragments = subst (λ l. AllZip HasFragmentsOf l c.loop-document.fragments.items) (sym done) before.3;
    }
