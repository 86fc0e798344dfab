use Rattle.std.proofs.Common.{◌≡◌, ◌≤◌, ◌-◌, ℕ, get_or}
use Rattle.graphql_literals.specs.Literals.{blank_in}
use Rattle.graphql_literals.proofs.texts.blank_within.Given as goal

abbrev pub invariant-loop-k : goal.invariant-loop-k
invariant-loop-k l = record {
  each : (j : ℕ) → get_or l.bytes j 0 ≡ blank_in (record { start = l.fn.part.start; end = l.k }) j (get_or l.initial.bytes j 0);
  few : l.k - l.fn.part.start ≤ l.k-end - l.fn.part.start;
}
