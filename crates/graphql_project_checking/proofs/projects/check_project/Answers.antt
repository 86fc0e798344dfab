use Rattle.std.proofs.Common.{refl, subst, sym}
use Rattle.std.specs.Prelude.{All}
use Rattle.std.proofs.lemmas.List.Elements.{All-nil}
use Rattle.graphql_frontend.specs.Documents.{IsOnlyOff}
use Rattle.graphql_frontend.specs.RuleSets.{nothing_off}
use Rattle.graphql_project_checking.specs.Truth.{AreTrueOf}
use Rattle.graphql_project_checking.proofs.ProjectLemmas.{whole_project_holds}
use Rattle.graphql_project_checking.proofs.TruthLemmas.{all_added}
use Rattle.graphql_project_checking.proofs.projects.check_project.Goals as goal

pub returns : goal.returns
returns c =
    let adds = c.in_ok-check_texts.ensures.truth in
    let others = c.in_ok-check_texts.ensures.others refl c.new-found.ensures.lists in
    record {
      silence = λ none. whole_project_holds c.args.bounds c.args.schema.now c.args.sources.now c.args.lent.now
          (others nothing_off (subst (All (IsOnlyOff nothing_off)) (sym none) (All-nil (IsOnlyOff nothing_off))));
      others = others;
      truth = (adds.0, all_added (AreTrueOf c.args.bounds c.args.schema.now c.args.sources.now c.args.lent.now adds.0) c.new-found.result.lists.items c.check_texts.new.found.lists.items adds.1 c.new-found.ensures.lists);
    }
