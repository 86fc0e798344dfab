use Rattle.graphql_kept_rules.proofs.LocationLemmas.{usage_stays}
use Rattle.graphql_kept_rules.proofs.values.allowed_usages_stay_allowed.Goals as goal

pub returns : goal.returns
returns c = usage_stays
