use Rattle.graphql_laws.proofs.MergingLaws.{leaf_fields_merge}
use Rattle.graphql_laws.proofs.merging.leaf_fields_that_agree_merge.Goals as goal

pub returns : goal.returns
returns c = leaf_fields_merge
