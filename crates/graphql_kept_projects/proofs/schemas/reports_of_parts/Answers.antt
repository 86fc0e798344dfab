use Rattle.std.proofs.Common.{◌++◌, ◌∙◌, ◌∷◌, [], ap, subst, sym}
use Rattle.std.specs.Prelude.{All}
use Rattle.std.proofs.lemmas.List.Elements.{All-cons, All-nil}
use Rattle.graphql_frontend.specs.declared.reports.Reports.TheVariants.{Syntax}
use Rattle.graphql_kept_projects.specs.Schemas.{AreFurtherOfSchema, of_parts}
use Rattle.graphql_kept_projects.proofs.schemas.reports_of_parts.Goals.{else-not-is_empty, then-not-is_empty+in_ok-push}
use Rattle.graphql_kept_projects.proofs.schemas.reports_of_parts.Goals as goal

pub returns : goal.returns
returns c = λ first.
    let P = AreFurtherOfSchema c.args.bounds c.args.sources.now first in
    let list = Syntax c.in_ok-errors.errors in
    elim c.if-not-is_empty.branch [
      | then-not-is_empty+in_ok-push w ↦ subst (λ (v : _). All P v.items) (sym w.further-is)
          (subst (All P) (sym (w.in_ok-push.ensures.items ∙ ap (λ l. l ++ list ∷ []) c.new-further.ensures.items))
          (All-cons P list [] (of_parts c.in_ok-errors.ensures) (All-nil P)))
      | else-not-is_empty w ↦ subst (λ (v : _). All P v.items) (sym w.further-is) (subst (All P) (sym c.new-further.ensures.items) (All-nil P))
    ]
