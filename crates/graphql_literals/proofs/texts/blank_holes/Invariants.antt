use Rattle.std.proofs.Common.{◌≡◌, ◌<◌, ℕ, All, get_or, length, take}
use Rattle.std.specs.Str.{IsUtf8}
use Rattle.graphql_literals.specs.Literals.{blank_in_any, HasAsciiEnds}
use Rattle.graphql_literals.proofs.texts.blank_holes.Given as goal

abbrev pub invariant-loop-hole : goal.invariant-loop-hole
invariant-loop-hole l = record {
  each : (k : ℕ) → k < length l.initial.bytes → get_or l.bytes k 0 ≡ blank_in_any (take l.hole-index l.holes) k (get_or l.initial.bytes k 0);
  utf8 : IsUtf8 l.initial.bytes → All (HasAsciiEnds l.initial.bytes) l.holes → IsUtf8 l.bytes;
}
