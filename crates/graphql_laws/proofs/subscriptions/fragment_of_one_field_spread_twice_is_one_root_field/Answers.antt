use Rattle.graphql_laws.proofs.SubscriptionLaws.{spread_twice}
use Rattle.graphql_laws.proofs.subscriptions.fragment_of_one_field_spread_twice_is_one_root_field.Goals as goal

pub returns : goal.returns
returns c = spread_twice
