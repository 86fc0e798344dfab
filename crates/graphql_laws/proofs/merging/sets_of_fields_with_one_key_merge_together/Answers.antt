use Rattle.graphql_laws.proofs.MergingLaws.{sets_below_merge}
use Rattle.graphql_laws.proofs.merging.sets_of_fields_with_one_key_merge_together.Goals as goal

pub returns : goal.returns
returns c = sets_below_merge
