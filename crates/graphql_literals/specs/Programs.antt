-- Paths of programs.
use Rattle.std.specs.Prelude.{◌||◌, ℕ, Bool, List, codes, nat_eq}
use Rattle.std.specs.List.{ends_with}

abbrev pub is_typescript : List ℕ → Bool
is_typescript path = ends_with nat_eq path (codes ".ts") || (ends_with nat_eq path (codes ".tsx") || (ends_with nat_eq path (codes ".mts") || ends_with nat_eq path (codes ".cts")))

abbrev pub is_javascript : List ℕ → Bool
is_javascript path = ends_with nat_eq path (codes ".js") || (ends_with nat_eq path (codes ".jsx") || (ends_with nat_eq path (codes ".mjs") || ends_with nat_eq path (codes ".cjs")))

-- a file of a framework, in which a program is a part
abbrev pub is_component : List ℕ → Bool
is_component path = ends_with nat_eq path (codes ".vue") || ends_with nat_eq path (codes ".svelte")

-- the path is that of a program
abbrev pub is_program : List ℕ → Bool
is_program path = is_typescript path || (is_javascript path || is_component path)
