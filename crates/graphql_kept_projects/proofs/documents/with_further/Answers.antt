use Rattle.std.proofs.Common.{◌++◌, ◌∙◌, ◌∷◌, [], ap, subst, sym}
use Rattle.std.specs.Prelude.{All}
use Rattle.graphql_kept_projects.specs.Documents.{AreFurtherOf, AreWithFurther, IsPartOfOne}
use Rattle.graphql_kept_projects.proofs.DocumentLemmas.{with_first}
use Rattle.graphql_kept_projects.proofs.documents.with_further.Goals as goal

pub returns : goal.returns
returns c =
    let sources = c.args.sources.now in
    let P = AreFurtherOf c.args.bounds c.args.schema.now sources in
    let of_parts = subst (All (IsPartOfOne sources)) (sym c.deref.ensures.value) c.in_ok-parts.ensures in
    subst (AreWithFurther c.args.first P) (sym (ap (λ (v : _). v.items) c.into_parts-lists.ensures.lists))
    (with_first c.args.first P c.push.new.self.lists.items c.add_all_further.new.found.lists.items (c.in_ok-push.ensures.lists ∙ ap (λ l. l ++ c.args.first ∷ []) c.new-found.ensures.lists) (c.in_ok-add_all_further.ensures of_parts))
