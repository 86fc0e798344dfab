use Rattle.std.proofs.Common.{sym}
use Rattle.graphql_rules.proofs.operations.operation.validate_operation.Goals as goal

pub returns : goal.returns
returns c = rw (sym c.new-context.ensures.schema, sym c.unknown-levels.ensures.document) c.check_operation.ensures.checks
