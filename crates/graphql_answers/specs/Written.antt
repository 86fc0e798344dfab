-- Answers in the memory of a caller.
use Rattle.std.specs.Prelude.{◌++◌, ℕ, List, drop, length, min, take}

-- as much of the JSON as there is room for is written to the beginning, and the rest stays
abbrev pub written : List ℕ → List ℕ → List ℕ
written json old = let room = min (length old) (length json) in take room json ++ drop room old
