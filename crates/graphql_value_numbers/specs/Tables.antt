-- What contracts see of the numbers of values.
use Rattle.std.specs.Prelude.{List}
use Rattle.indexmap.specs.IndexSet.{hasher_of}
use Rattle.graphql_hash_seeds.specs.declared.seeds.HashSeed.{HashSeed}
use Rattle.graphql_value_numbers.specs.declared.shapes.Shape.{Shape}
use Rattle.graphql_value_numbers.specs.declared.values.ValueNumbers.{ValueNumbers}

-- the shapes that have numbers, in order of these
abbrev pub shapes_of : ValueNumbers → List Shape
shapes_of v = v.shapes.keys

-- the seed by which shapes are hashed
abbrev pub hash_seed_of : ValueNumbers → HashSeed
hash_seed_of v = hasher_of v.shapes
