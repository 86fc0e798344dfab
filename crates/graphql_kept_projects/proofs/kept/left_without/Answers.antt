use Rattle.std.proofs.Common.{◌++◌, ◌∷◌, [], subst, sym}
use Rattle.std.specs.List.{AllZip}
use Rattle.graphql_documents.proofs.ListLemmas.{done_next}
use Rattle.graphql_kept_projects.specs.Left.{IsLess}
use Rattle.graphql_kept_projects.proofs.LeftLemmas.{zip_more}
use Rattle.graphql_kept_projects.proofs.kept.left_without.Goals as goal

pub loop-text-preserved : goal.loop-text-preserved
loop-text-preserved c =
    let before = c.loop-text.invariant in
    let x = c.in-Some.text in
    let added = c.in_ok-add.ensures in (
      before.0 ++ x ∷ [],
      done_next _ before.0 c.loop-text.text-iterator.rest.items c.next.new.self.rest.items x before.1 c.in-Some.ensures.steps.0,
      subst (AllZip IsLess (before.0 ++ x ∷ [])) (sym added.2) (zip_more IsLess before.0 c.loop-text.kept.texts.items x added.0 before.2 added.1),
    )
