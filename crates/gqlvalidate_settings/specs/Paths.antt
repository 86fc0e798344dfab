-- Paths and patterns of a configuration, which are relative to its folder.
use Rattle.std.specs.Prelude.{ℕ, ◌==◌, Bool, false, List, [], ◌∷◌, ◌++◌, if◌then◌else◌}

-- a path, a pattern or a name
abbrev pub Text : Type 0
Text = List ℕ

-- the path begins at the root: with a `/`
abbrev pub is_absolute : Text → Bool
is_absolute [] = false
is_absolute (c ∷ rest) = c == 47

-- a path that leads to where this path leads from a folder, which is empty or ends in `/`
abbrev pub from_folder : Text → Text → Text
from_folder folder path = if is_absolute path then path else folder ++ path

-- a word that leaves out what the pattern matches
abbrev pub left_out : Text → Text → Text
left_out folder pattern = 33 ∷ from_folder folder pattern

-- a path, a pattern, or a word that begins with a `!` and leaves files out
abbrev pub placed : Text → Text → Text
placed folder [] = from_folder folder []
placed folder (c ∷ rest) = if c == 33 then left_out folder rest else from_folder folder (c ∷ rest)
