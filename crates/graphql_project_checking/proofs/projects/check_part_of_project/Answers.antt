use Rattle.graphql_project_checking.specs.Truth.{AreTrueOf}
use Rattle.graphql_project_checking.proofs.TruthLemmas.{all_added}
use Rattle.graphql_project_checking.proofs.projects.check_part_of_project.Goals as goal

pub returns : goal.returns
returns c =
    let adds = c.in_ok-check_texts.ensures.truth in
    record {
      truth = (adds.0, all_added (AreTrueOf c.args.bounds c.args.schema.now c.args.sources.now c.args.lent.now adds.0) c.new-found.result.lists.items c.check_texts.new.found.lists.items adds.1 c.new-found.ensures.lists);
    }
