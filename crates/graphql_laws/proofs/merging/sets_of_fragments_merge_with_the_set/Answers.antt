use Rattle.graphql_laws.proofs.MergingLaws.{included_merges}
use Rattle.graphql_laws.proofs.merging.sets_of_fragments_merge_with_the_set.Goals as goal

pub returns : goal.returns
returns c = included_merges
