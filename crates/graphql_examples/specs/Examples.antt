use Rattle.std.specs.Prelude.{ℕ, List, Option, find}
use Rattle.std.specs.Str.{bytes_eq}
use Rattle.graphql_examples.specs.declared.examples.Example.{Example}

-- the first example of the table with this name
abbrev pub example_named : List ℕ → List Example → Option Example
example_named id examples = find (λ example. bytes_eq example.id.now id) examples
