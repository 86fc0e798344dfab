use Rattle.graphql_laws.proofs.MergingLaws.{different_names_clash_below}
use Rattle.graphql_laws.proofs.merging.different_fields_below_one_key_do_not_merge.Goals as goal

pub returns : goal.returns
returns c = different_names_clash_below
