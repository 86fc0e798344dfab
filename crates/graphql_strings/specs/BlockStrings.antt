-- What a block string stands for: BlockStringValue() of its raw value, step by step.
-- Specification: 2.9.4 String Value, Semantics.
use Rattle.std.specs.Prelude.{ℕ, Bool, ◌&&◌, ◌||◌, ◌==◌, nat_lt, List, [], ◌∷◌, ◌++◌, length, drop, map, reverse, fold, flat_map, Option, Some, None, if◌then◌else◌}
use Rattle.std.specs.List.{list_all, prefix_len}
use Rattle.graphql_tokens.specs.Characters.{is_line_byte}

-- WhiteSpace: tab and space. Specification: 2.1.2 White Space
abbrev pub is_white_space : ℕ → Bool
is_white_space c = c == 9 || c == 32

-- a line that contains only white space
abbrev pub is_blank : List ℕ → Bool
is_blank line = list_all is_white_space line

-- the lines, their first with one more byte at its start
abbrev pub in_first_line : ℕ → List (List ℕ) → List (List ℕ)
in_first_line c [] = (c ∷ []) ∷ []
in_first_line c (line ∷ lines) = (c ∷ line) ∷ lines

-- 1. the lines: the text split at each line feed, carriage return, and carriage return with the line feed
-- behind it. Specification: 2.1.3 Line Terminators
abbrev pub split_lines : List ℕ → List (List ℕ)
split_lines [] = [] ∷ []
split_lines (c ∷ []) = if is_line_byte c then [] ∷ [] ∷ [] else (c ∷ []) ∷ []
split_lines (c ∷ d ∷ rest) =
    if c == 13 && d == 10 then [] ∷ split_lines rest
    else (if is_line_byte c then [] ∷ split_lines (d ∷ rest) else in_first_line c (split_lines (d ∷ rest)))

-- 3.c. the number of leading consecutive white space characters
abbrev pub indent : List ℕ → ℕ
indent line = prefix_len is_white_space line

-- 3.d. the least indent so far, with one line more: a line of white space alone has no part in it
abbrev pub least_indent : Option ℕ → List ℕ → Option ℕ
least_indent None line = if nat_lt (indent line) (length line) then Some (indent line) else None
least_indent (Some least) line =
    if nat_lt (indent line) (length line) && nat_lt (indent line) least then Some (indent line) else Some least

-- 2., 3. the indent that lines have in common
abbrev pub common_indent : List (List ℕ) → Option ℕ
common_indent lines = fold least_indent None lines

-- 4. so many characters removed from the beginning of each line
abbrev pub without_indent : Option ℕ → List (List ℕ) → List (List ℕ)
without_indent None lines = lines
without_indent (Some common) lines = map (drop common) lines

-- 2. to 4. all lines but the first without the indent that they have in common
abbrev pub without_common_indent : List (List ℕ) → List (List ℕ)
without_common_indent [] = []
without_common_indent (first ∷ lines) = first ∷ without_indent (common_indent lines) lines

-- 5. without the blank lines at the beginning
abbrev pub without_first_blanks : List (List ℕ) → List (List ℕ)
without_first_blanks [] = []
without_first_blanks (line ∷ lines) = if is_blank line then without_first_blanks lines else line ∷ lines

-- 6. without the blank lines at the end
abbrev pub without_last_blanks : List (List ℕ) → List (List ℕ)
without_last_blanks lines = reverse (without_first_blanks (reverse lines))

-- 7., 8. the lines, a line feed before each but the first
abbrev pub join_lines : List (List ℕ) → List ℕ
join_lines [] = []
join_lines (first ∷ lines) = first ++ flat_map (λ line. 10 ∷ line) lines

-- BlockStringValue()
unfoldable pub block_string_value : List ℕ → List ℕ
block_string_value raw =
    join_lines (without_last_blanks (without_first_blanks (without_common_indent (split_lines raw))))
