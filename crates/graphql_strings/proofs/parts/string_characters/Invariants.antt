use Rattle.std.proofs.Common.{◌≡◌, length}
use Rattle.graphql_strings.specs.Scans.{with_part, string_part_at, all_parts}
use Rattle.graphql_strings.proofs.parts.string_characters.Given as goal

abbrev pub invariant-loop-part : goal.invariant-loop-part
invariant-loop-part l = with_part l.value.items (all_parts string_part_at l.rest) ≡ all_parts string_part_at l.text

abbrev pub decreases-loop-part : goal.decreases-loop-part
decreases-loop-part l = length l.rest
