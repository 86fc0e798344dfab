use Rattle.std.proofs.Common.{◌∙◌, ap, subst, sym}
use Rattle.std.specs.Prelude.{All}
use Rattle.std.proofs.lemmas.List.Elements.{All-nil}
use Rattle.graphql_kept_projects.specs.Documents.{IsPartOfOne}
use Rattle.graphql_kept_projects.proofs.DocumentLemmas.{parts_of_none}
use Rattle.graphql_kept_projects.proofs.parts.parts_of.Goals.{in-Syntax+in_ok-by_file+in_ok-add_all_parts, in_default}
use Rattle.graphql_kept_projects.proofs.parts.parts_of.Goals as goal

pub returns : goal.returns
returns c =
    let sources = c.args.sources.now in
    let P = IsPartOfOne sources in
    elim c.match-reports.branch [
      | in-Syntax+in_ok-by_file+in_ok-add_all_parts w ↦ subst (λ (v : _). All P v.items) (sym w.parts-is)
          (parts_of_none sources c.new-parts.result.items w.add_all_parts.new.parts.items c.new-parts.ensures.items w.in_ok-add_all_parts.ensures)
      | in_default w ↦ subst (All P) (sym (ap (λ (v : _). v.items) w.parts-is ∙ c.new-parts.ensures.items)) (All-nil P)
    ]
