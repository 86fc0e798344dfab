-- Names that may have been meant by a name that is not defined.
use Rattle.std.specs.Prelude.{◌≡◌, ◌≤◌, ◌+◌, ◌*◌, ◌/◌, ℕ, List, All, Contains, chars, length, nat_eq}
use Rattle.strsim.specs.Edits.{levenshtein_row}
use Rattle.graphql_nodes.specs.Names.{NameText}
use Rattle.graphql_suggestions.specs.declared.alike.Suggestion.{Suggestion}

-- how many characters have to be put in, taken out or exchanged to make one text of the other
abbrev pub edits : List ℕ → List ℕ → ℕ
edits from to = levenshtein_row nat_eq (chars from) (chars to) (length (chars to))

-- so many edits a name may be away that is suggested: one, and two for each five bytes of the wanted one
abbrev pub most_edits : List ℕ → ℕ
most_edits wanted = length wanted * 2 / 5 + 1

-- one of these names, if it is like the wanted one
pub record IsSuggested (names : List NameText) (wanted : NameText) (s : Suggestion) : Type 0 where
  pub defined : Contains names s.name
  pub edits_are : s.edits ≡ edits wanted.text s.name.text
  pub alike : s.edits ≤ most_edits wanted.text

-- at most five of these names, each like the wanted one
pub record AreSuggested (names : List NameText) (wanted : NameText) (found : List Suggestion) : Type 0 where
  pub each : All (IsSuggested names wanted) found
  pub few : length found ≤ 5
