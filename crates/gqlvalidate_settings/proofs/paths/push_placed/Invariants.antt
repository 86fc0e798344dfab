use Rattle.std.proofs.Common.{◌≡◌, ◌++◌, map, string_bytes, take}
use Rattle.gqlvalidate_settings.specs.Paths.{placed}
use Rattle.gqlvalidate_settings.proofs.paths.push_placed.Given as goal

abbrev pub invariant-loop-text : goal.invariant-loop-text
invariant-loop-text l = map string_bytes l.words.items ≡ map string_bytes l.fn.words.items ++ map (placed l.folder) (map string_bytes (take l.text-index l.texts))
