use Rattle.std.proofs.Common.{subst, sym}
use Rattle.std.specs.Prelude.{All}
use Rattle.graphql_kept_reports.specs.Reports.{KeepsReports}
use Rattle.graphql_kept_projects.specs.Documents.{AreFurtherOf, IsOneOrPart}
use Rattle.graphql_kept_projects.proofs.DocumentLemmas.{all_are_one, further_of_parts, left_of_parts}
use Rattle.graphql_kept_projects.proofs.LeftLemmas.{on_ok}
use Rattle.graphql_project_checking.proofs.TruthLemmas.{adds_nothing, adds_then}
use Rattle.graphql_kept_projects.proofs.documents.add_all_further.Goals.{else-not-is_empty, then-not-is_empty+in_ok-add_reports}
use Rattle.graphql_kept_projects.proofs.documents.add_all_further.Goals as goal

pub returns : goal.returns
returns c = λ of_parts.
    let b = c.args.bounds in
    let s = c.args.schema.now in
    let sources = c.args.sources.now in
    let P = AreFurtherOf b s sources in
    let old = c.args.found.now.lists.items in
    let mid = c.if-not-is_empty.found.lists.items in
    let new = c.add_further.new.found.lists.items in
    let each = c.in_ok-read.ensures sources (all_are_one sources) of_parts in
    let first : KeepsReports P old mid = elim c.if-not-is_empty.branch [
      | then-not-is_empty+in_ok-add_reports w ↦ subst (λ (v : _). KeepsReports P old v.lists.items) (sym w.found-is)
          (left_of_parts b s sources w.deref.result.now old w.add_reports.new.found.lists.items (subst (All (IsOneOrPart sources)) (sym w.deref.ensures.value) each)
          w.in_ok-add_reports.ensures)
      | else-not-is_empty w ↦ subst (λ (v : _). KeepsReports P old v.lists.items) (sym w.found-is) (adds_nothing P old)
    ] in
    on_ok c.add_further.result _ _
    (λ adds. adds_then P old mid new first
    (further_of_parts b s sources c.deref-2.result.now mid new (subst (All (IsOneOrPart sources)) (sym c.deref-2.ensures.value) each) adds)) c.add_further.ensures
