-- What is in a list that first made room for a report, and then took it.
use Rattle.std.proofs.Common.{◌≡◌, ◌++◌, ◌∙◌, List, ap}
use Rattle.std.specs.declared.alloc.Global.{Global}
use Rattle.std.specs.Prelude.{Vec}

-- reports are added to those that the list had before it made room
pub added_to : {Report : Type 0} {old mid : Vec Report Global} {new : List Report} (rest : List Report) → new ≡ mid.items ++ rest → mid ≡ old → new ≡ old.items ++ rest
added_to rest added same = added ∙ ap (λ l. l.items ++ rest) same

-- the list keeps what it had if it takes no report
pub as_before : {Report : Type 0} {old mid : Vec Report Global} {new : List Report} → new ≡ mid.items → mid ≡ old → new ≡ old.items
as_before kept same = kept ∙ ap (λ l. l.items) same
