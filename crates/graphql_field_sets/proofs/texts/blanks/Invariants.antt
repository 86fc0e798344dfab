use Rattle.std.proofs.Common.{◌≡◌, replicate, string_bytes}
use Rattle.graphql_field_sets.proofs.texts.blanks.Given as goal

abbrev pub invariant-loop-turn : goal.invariant-loop-turn
invariant-loop-turn l = string_bytes l.text ≡ replicate l._turn 32
