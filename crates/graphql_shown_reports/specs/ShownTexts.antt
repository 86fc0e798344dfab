-- Messages as they are shown.
use Rattle.std.specs.Prelude.{◌≤◌, ◌<◌, ◌++◌, ℕ, List, codes, length, take}
use Rattle.std.specs.Str.{IsCharBoundary}

-- a message as it is shown: whole, if it has at most 2,000 bytes; else its first characters, as many as these have room for, and three dots
pub data IsShownText (text : List ℕ) : List ℕ → Type 0 where
  is_whole : length text ≤ 2000 → IsShownText text text
  is_cut : (end : ℕ) → 2000 < length text → end ≤ 2000 → IsCharBoundary text end →
      ((later : ℕ) → end < later → later ≤ 2000 → ¬ IsCharBoundary text later) → IsShownText text (take end text ++ codes "...")
