-- Definitions that the texts of a schema may lack.
use Rattle.std.specs.Prelude.{ℕ, Bool, not, List, ◌++◌, filter, flat_map}
use Rattle.std.specs.List.{list_any}
use Rattle.std.specs.Str.{bytes_eq}
use Rattle.graphql_nodes.specs.Names.{NameText}
use Rattle.graphql_dialects.specs.declared.rows.Row.{Row}

-- a definition: its name, with the words before and after it
abbrev pub words_of : Row → List ℕ
words_of row = row.head.now ++ row.name.now ++ row.tail.now

-- one of the names is this text
abbrev pub is_taken : List NameText → List ℕ → Bool
is_taken taken name = list_any (λ it. bytes_eq it.text name) taken

-- the definitions whose names are not taken, one after another
abbrev pub definitions_of : List NameText → List Row → List ℕ
definitions_of taken rows = flat_map words_of (filter (λ row. not (is_taken taken row.name.now)) rows)
