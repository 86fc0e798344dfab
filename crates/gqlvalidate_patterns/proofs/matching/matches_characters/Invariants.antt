-- The row is that behind the parts so far, from the first place on.
use Rattle.std.proofs.Common.{take}
use Rattle.gqlvalidate_patterns.specs.Patterns.{MatchInTurn, PartMatches}
use Rattle.gqlvalidate_patterns.specs.Rows.{IsRowBehind}
use Rattle.gqlvalidate_patterns.proofs.MatchingLemmas.{first_place}
use Rattle.gqlvalidate_patterns.proofs.matching.matches_characters.Given as goal

abbrev pub invariant-loop-part : goal.invariant-loop-part
invariant-loop-part l = IsRowBehind (MatchInTurn PartMatches (take l.part-index l.pattern.parts.items)) l.path (first_place l.path) l.row.items
