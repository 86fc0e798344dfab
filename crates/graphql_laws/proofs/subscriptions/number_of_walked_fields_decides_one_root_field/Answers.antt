use Rattle.graphql_laws.proofs.SubscriptionLaws.{walked_fields_decide}
use Rattle.graphql_laws.proofs.subscriptions.number_of_walked_fields_decides_one_root_field.Goals as goal

pub returns : goal.returns
returns c = walked_fields_decide
