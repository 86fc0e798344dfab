use Rattle.std.proofs.Common.{◌≡◌, ◌≤◌, ◌+◌}
use Rattle.graphql_places.specs.Places.{line, column}
use Rattle.graphql_places.proofs.Place.further.Given as goal

abbrev pub invariant-loop-k : goal.invariant-loop-k
invariant-loop-k l = record {
  lines : l.line ≡ line l.bytes l.k;
  columns : l.column ≡ column l.bytes l.k;
  few_lines : l.line ≤ l.k + 1;
  few_columns : l.column ≤ l.k + 1;
}
