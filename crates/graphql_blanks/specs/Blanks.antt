-- Parts of texts. Specification: 2.1.2 White Space, 2.1.3 Line Terminators
use Rattle.std.specs.Prelude.{◌++◌, ◌==◌, ◌||◌, ℕ, List, if◌then◌else◌, map, take}
use Rattle.std.specs.List.{slice_range}

-- a byte that ends a line stays, and another becomes a space
abbrev pub blank_byte : ℕ → ℕ
blank_byte byte = if (byte == 10) || (byte == 13) then byte else 32

-- the text up to the end of a part, in which all before the part is blank
abbrev pub part_text : List ℕ → ℕ → ℕ → List ℕ
part_text text start end = map blank_byte (take start text) ++ slice_range text start end
