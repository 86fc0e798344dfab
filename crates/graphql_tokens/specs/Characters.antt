-- Source characters as bytes of UTF-8, and runs of them. Specification: 2.1.1 Source Text.
use Rattle.std.specs.Prelude.{◌≡◌, ℕ, Bool, false, ◌||◌, ◌==◌, nat_lt, List, [], ◌∷◌, ◌++◌, IsTrue, IsFalse}
use Rattle.std.specs.List.{list_all}

-- a byte of a line terminator: line feed or carriage return. Specification: 2.1.3 Line Terminators
abbrev pub is_line_byte : ℕ → Bool
is_line_byte c = c == 10 || c == 13

-- a byte of a source character: below U+0020 the tab and the line terminators alone, and all from
-- U+0020 on. A character above U+007F is a run of bytes from 128 on
abbrev pub is_source_byte : ℕ → Bool
is_source_byte c = (c == 9 || is_line_byte c) || nat_lt 31 c

-- a text whose first byte passes the test
abbrev pub begins_with : (ℕ → Bool) → List ℕ → Bool
begins_with test [] = false
begins_with test (c ∷ rest) = test c

-- a text that begins with this byte
abbrev pub begins_with_byte : ℕ → List ℕ → Bool
begins_with_byte b text = begins_with (λ c. c == b) text

-- the text is the run, whose bytes pass the test, and the rest, whose first byte does not
pub record IsRun (test : ℕ → Bool) (text run rest : List ℕ) : Type 0 where
  pub written : text ≡ run ++ rest
  pub each : IsTrue (list_all test run)
  pub ends : IsFalse (begins_with test rest)
