-- Lists of references.
use Rattle.std.specs.Prelude.{List, map}
use Rattle.std.specs.Borrow.{Bor}

-- what references stand for
abbrev pub nows : {T : Type 0} → List (Bor T) → List T
nows references = map (λ r. r.now) references
