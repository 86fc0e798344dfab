use Rattle.graphql_laws.proofs.MergingLaws.{cyclic_fragment_clashes}
use Rattle.graphql_laws.proofs.merging.cyclic_fragment_with_different_fields_does_not_merge.Goals as goal

pub returns : goal.returns
returns c = cyclic_fragment_clashes
