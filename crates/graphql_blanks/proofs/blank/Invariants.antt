use Rattle.std.proofs.Common.{◌≡◌, map, take}
use Rattle.graphql_blanks.specs.Blanks.{blank_byte}
use Rattle.graphql_blanks.proofs.blank.Given as goal

abbrev pub invariant-loop-byte : goal.invariant-loop-byte
invariant-loop-byte l = l.blank.items ≡ map blank_byte (take l.byte-index l.bytes)
