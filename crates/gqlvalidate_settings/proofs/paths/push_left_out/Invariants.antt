use Rattle.std.proofs.Common.{◌≡◌, ◌++◌, map, string_bytes, take}
use Rattle.gqlvalidate_settings.specs.Paths.{left_out}
use Rattle.gqlvalidate_settings.proofs.paths.push_left_out.Given as goal

abbrev pub invariant-loop-pattern : goal.invariant-loop-pattern
invariant-loop-pattern l = map string_bytes l.words.items ≡ map string_bytes l.fn.words.items ++ map (left_out l.folder) (map string_bytes (take l.pattern-index l.patterns))
