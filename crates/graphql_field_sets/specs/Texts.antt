-- Field sets as texts. Apollo Federation 2: scalar FieldSet
use Rattle.std.specs.Prelude.{ℕ, ◌+◌, ◌-◌, List, [], ◌∷◌, ◌++◌, codes, length, replicate}

-- a fragment on the type with these fields, whose brace is at that byte, or where there is first room for it; all before the fragment is blank
abbrev pub fragment_text : List ℕ → List ℕ → ℕ → List ℕ
fragment_text ty fields brace =
    replicate (brace - (length (codes "fragment F on ") + length ty)) 32 ++ codes "fragment F on " ++ ty ++ codes "{" ++ fields ++ codes "}"
