-- Names and their sameness. Specification: 2.1.9 Names.
use Rattle.std.specs.Prelude.{◌≡◌, ℕ, Bool, false, ◌||◌, ◌&&◌, ◌==◌, List, [], ◌∷◌, ◌++◌, Option, None, Some, length, fold, if◌then◌else◌, IsTrue, IsFalse, All, AllPairs, Contains}
use Rattle.std.specs.List.{list_all, list_any}
use Rattle.std.specs.Char.{is_ascii_alphabetic, is_ascii_alphanumeric}
use Rattle.std.specs.Str.{bytes_eq}
use Rattle.graphql_nodes.specs.declared.spans.SourceSpan.{SourceSpan}

-- what a contract sees of a name: its text, and where it is
pub record NameText : Type 0 where
  pub text : List ℕ
  pub location : Option SourceSpan

-- a letter or `_`
abbrev pub starts_name : ℕ → Bool
starts_name c = is_ascii_alphabetic c || c == 95

-- a letter, a digit or `_`
abbrev pub continues_name : ℕ → Bool
continues_name c = is_ascii_alphanumeric c || c == 95

-- a letter or `_`, then letters, digits and `_`
abbrev pub is_name : List ℕ → Bool
is_name [] = false
is_name (c ∷ cs) = starts_name c && list_all continues_name cs

-- two names are the same where their texts are, wherever they are
abbrev pub same_name : NameText → NameText → Bool
same_name a b = bytes_eq a.text b.text

-- the two names are the same
abbrev pub SameName : NameText → NameText → Type 0
SameName a b = IsTrue (same_name a b)

-- the two names differ
abbrev pub DifferentNames : NameText → NameText → Type 0
DifferentNames a b = IsFalse (same_name a b)

-- no two of the names are the same
abbrev pub AreDistinct : List NameText → Type 0
AreDistinct names = AllPairs DifferentNames names

-- a name with this text is among them
abbrev pub stands_on : List NameText → NameText → Bool
stands_on names name = list_any (same_name name) names

-- with the name behind them, unless one of its text is there
abbrev pub with_name : List NameText → NameText → List NameText
with_name known name = if stands_on known name then known else known ++ name ∷ []

-- the different names of a list, each where it first is
abbrev pub different_names : List NameText → List NameText
different_names names = fold with_name [] names

-- there are this many different names in the list, or more
abbrev pub HasDifferentNames : ℕ → List NameText → Type 0
HasDifferentNames count names =
    (chosen : List NameText) × (length chosen ≡ count) × AreDistinct chosen × All (Contains names) chosen

-- a text that begins with two underscores
abbrev pub begins_with_two_underscores : List ℕ → Bool
begins_with_two_underscores (c ∷ (d ∷ cs)) = c == 95 && d == 95
begins_with_two_underscores _ = false

-- a place in the file of the definitions that every schema has
abbrev pub is_built_in_location : Option SourceSpan → Bool
is_built_in_location None = false
is_built_in_location (Some span) = span.file_id.0 == 0

-- names that begin with two underscores are kept for introspection. Specification: 2.1.9 Names, Reserved Names
abbrev pub IsFreeName : NameText → Type 0
IsFreeName name = IsTrue (begins_with_two_underscores name.text) → IsTrue (is_built_in_location name.location)
