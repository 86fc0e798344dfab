use Rattle.graphql_laws.proofs.SubscriptionLaws.{two_fields}
use Rattle.graphql_laws.proofs.subscriptions.two_fields_are_not_one_root_field.Goals as goal

pub returns : goal.returns
returns c = two_fields
