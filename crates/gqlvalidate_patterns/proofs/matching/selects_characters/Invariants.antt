-- The patterns so far select the characters, or do not.
use Rattle.std.proofs.Common.{◌≡◌, take, true}
use Rattle.std.specs.Prelude.{◌↔◌}
use Rattle.gqlvalidate_patterns.specs.Patterns.{Selects}
use Rattle.gqlvalidate_patterns.proofs.matching.selects_characters.Given as goal

abbrev pub invariant-loop-pattern : goal.invariant-loop-pattern
invariant-loop-pattern l = (l.selects ≡ true) ↔ Selects (take l.pattern-index l.patterns) l.path
