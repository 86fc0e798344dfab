use Rattle.std.proofs.Common.{◌≡◌, Some, map, string_bytes, take}
use Rattle.gqlvalidate_settings.specs.Settings.{as_text}
use Rattle.gqlvalidate_settings.proofs.lists.texts_in.Given as goal

abbrev pub invariant-loop-item : goal.invariant-loop-item
invariant-loop-item l = map as_text (take l.item-index l.items) ≡ map Some (map string_bytes l.texts.items)
