use Rattle.std.proofs.Common.{◌≡◌, ◌+◌, length}
use Rattle.graphql_strings.specs.BlockStrings.{indent}
use Rattle.graphql_strings.proofs.lines.indent.Given as goal

abbrev pub invariant-loop-rest : goal.invariant-loop-rest
invariant-loop-rest l = record {
  so_far : l.count + indent l.rest ≡ indent l.line;
  within : l.count + length l.rest ≡ length l.line;
}

abbrev pub decreases-loop-rest : goal.decreases-loop-rest
decreases-loop-rest l = length l.rest
