use Rattle.std.proofs.Common.{[], sym}
use Rattle.std.proofs.lemmas.List.{append-nil}
use Rattle.graphql_diagnostics.specs.Diagnostics.{entries}
use Rattle.graphql_merging.specs.MergedOperations.{beyond_bound, within_bound}
use Rattle.graphql_merging.proofs.merging.FieldsInSetCanMerge.report_limit.Goals as goal

pub returns-in_ok-push-clause-limits : goal.returns-in_ok-push-clause-limits
returns-in_ok-push-clause-limits c = record { added = _; appended = c.in_ok-push.ensures.ok; are = beyond_bound c.if-self.true }

pub returns-else-self-clause-limits : goal.returns-else-self-clause-limits
returns-else-self-clause-limits c = record { added = []; appended = sym (append-nil (entries c.args.diagnostics.now)); are = within_bound c.if-self.false }
