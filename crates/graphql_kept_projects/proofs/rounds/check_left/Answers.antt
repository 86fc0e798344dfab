use Rattle.std.proofs.Common.{◌∙◌, subst, sym}
use Rattle.std.specs.List.{AllZip}
use Rattle.std.proofs.lemmas.List.Elements.{All-weaker}
use Rattle.std.proofs.lemmas.Result.{IfOk-weaker}
use Rattle.graphql_kept_projects.specs.Left.{AreTrueOfLeft, IsSourceLeft}
use Rattle.graphql_kept_projects.proofs.LeftLemmas.{zip_sources}
use Rattle.graphql_project_checking.specs.Truth.{AreTrueOf}
use Rattle.graphql_kept_projects.proofs.rounds.check_left.Goals as goal

pub returns : goal.returns
returns c = λ read left.
    let b = c.args.bounds in
    let s = c.args.schema.now in
    let sources = zip_sources read c.args.left.now.texts.items c.in_ok-sources.sources.items left c.in_ok-sources.ensures in
    IfOk-weaker c.reports_of.result _ _
    (λ found (own, lent, both, are_true).
    let known = are_true.0 in
    All-weaker (AreTrueOf b s own lent known) (AreTrueOfLeft b s read)
    (λ r are. record { own = own; lent = lent; left = subst (AllZip IsSourceLeft read) (sym (both ∙ c.deref.ensures.value)) sources; known = known; are = are })
    found.lists.items are_true.1)
    c.reports_of.ensures
