use Rattle.std.specs.Prelude.{All, Contains}
use Rattle.std.proofs.lemmas.List.Elements.{All-contains}
use Rattle.graphql_kept_projects.specs.Left.{AreTrueOfLeft}
use Rattle.graphql_kept_projects.proofs.LeftLemmas.{on_ok, zip_all}
use Rattle.graphql_project_checking.proofs.TruthLemmas.{adds_so}
use Rattle.graphql_project_checking.specs.Truth.{AreTrueOf}
use Rattle.std.proofs.Common.{ap, subst, sym}
use Rattle.std.specs.List.{AllZip}
use Rattle.graphql_kept_projects.specs.Left.{IsSourceLeft}
use Rattle.graphql_kept_projects.proofs.documents.add_reports.Goals as goal

pub returns : goal.returns
returns c =
    let b = c.args.bounds in
    let s = c.args.schema.now in
    let read = c.args.read.now in
    let lists = c.into_parts-lists.result.0.items in
    let (own, lent, both, are_true) = c.in_ok-further.ensures in
    let known = are_true.0 in
    let each = subst (All (AreTrueOf b s own lent known)) (sym (ap (λ (v : _). v.items) c.into_parts-lists.ensures.lists)) are_true.1 in
    on_ok c.add_all.result _ _
    (adds_so (Contains lists) (AreTrueOfLeft b s read) c.args.found.now.lists.items c.add_all.new.found.lists.items
    (λ r among. record {
      own = own;
      lent = lent;
      left = subst (AllZip IsSourceLeft read) (sym both) (zip_all read);
      known = known;
      are = All-contains (AreTrueOf b s own lent known) lists r each among;
    })) c.add_all.ensures
