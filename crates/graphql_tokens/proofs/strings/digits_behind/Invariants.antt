use Rattle.std.proofs.Common.{◌≡◌, ◌≤◌, length}
use Rattle.graphql_tokens.specs.Scans.{digits_behind}
use Rattle.graphql_tokens.proofs.strings.digits_behind.Given as goal

abbrev pub invariant-loop-rest : goal.invariant-loop-rest
invariant-loop-rest l = record {
  same : digits_behind l.value l.rest ≡ digits_behind l.first l.text;
  bound : l.value ≤ 1114111;
}

abbrev pub decreases-loop-rest : goal.decreases-loop-rest
decreases-loop-rest l = length l.rest
