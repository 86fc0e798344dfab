use Rattle.graphql_laws.proofs.OneExpansionLaws.{one_expansion}
use Rattle.graphql_laws.proofs.merged_sets.no_list_of_sets_has_another_expansion.Goals as goal

pub returns : goal.returns
returns c fragments sets a b first second = one_expansion fragments first second
