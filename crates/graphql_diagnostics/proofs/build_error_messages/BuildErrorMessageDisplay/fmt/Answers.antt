use Rattle.std.proofs.Common.{rules}
use Rattle.graphql_diagnostics.proofs.build_error_messages.BuildErrorMessageDisplay.fmt.Goals as goal

pub returns-in-SubscriptionUsesIntrospection-clause-writes : goal.returns-in-SubscriptionUsesIntrospection-clause-writes
returns-in-SubscriptionUsesIntrospection-clause-writes g c = rw c.in-SubscriptionUsesIntrospection.is (search rules)

pub returns-in-SubscriptionUsesConditionalSelection-clause-writes : goal.returns-in-SubscriptionUsesConditionalSelection-clause-writes
returns-in-SubscriptionUsesConditionalSelection-clause-writes g c = rw c.in-SubscriptionUsesConditionalSelection.is (search rules)

pub returns-in-SubscriptionUsesMultipleFields-clause-writes : goal.returns-in-SubscriptionUsesMultipleFields-clause-writes
returns-in-SubscriptionUsesMultipleFields-clause-writes g c = rw c.in-SubscriptionUsesMultipleFields.is (search rules)

pub returns-in-DuplicateDeferLabel-clause-writes : goal.returns-in-DuplicateDeferLabel-clause-writes
returns-in-DuplicateDeferLabel-clause-writes g c = rw c.in-DuplicateDeferLabel.is (search rules)

pub returns-in-ConflictingFieldName-clause-writes : goal.returns-in-ConflictingFieldName-clause-writes
returns-in-ConflictingFieldName-clause-writes g c = rw c.in-ConflictingFieldName.is (search rules)

pub returns-in-ConflictingFieldArgument-clause-writes : goal.returns-in-ConflictingFieldArgument-clause-writes
returns-in-ConflictingFieldArgument-clause-writes g c = rw c.in-ConflictingFieldArgument.is (search rules)

pub returns-in-ConflictingFieldType-clause-writes : goal.returns-in-ConflictingFieldType-clause-writes
returns-in-ConflictingFieldType-clause-writes g c = rw c.in-ConflictingFieldType.is (search rules)
