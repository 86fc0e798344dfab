use Rattle.std.proofs.Common.{◌≡◌, true, false, List, ℕ, [], ◌∷◌, ◌++◌, take, drop}
use Rattle.graphql_syntax_helps.specs.SyntaxHelps.{HasEscape, is_open}
use Rattle.graphql_syntax_helps.proofs.strings.help_in_string.Given as goal

abbrev pub invariant-loop-byte : goal.invariant-loop-byte
invariant-loop-byte l =
    (is_open false l.inside ≡ is_open l.is_escaped (drop l.byte-index l.inside)) ×
    (l.is_escaped ≡ true → (before : List ℕ) × (take l.byte-index l.inside ≡ before ++ 92 ∷ [])) ×
    (l.has_code ≡ true → HasEscape l.inside 117)
