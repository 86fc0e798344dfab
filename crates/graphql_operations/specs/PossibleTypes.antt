-- The objects that are values of a type, as the checks of spreads hold them.
use Rattle.std.specs.Prelude.{List, [], ◌∷◌, map}
use Rattle.graphql_nodes.specs.Names.{NameText}
use Rattle.graphql_operations.specs.declared.possible_types.ObjectNames.{ObjectNames}
use Rattle.graphql_operations.specs.declared.possible_types.ObjectNames.TheVariants.{Implementers, Members, Nothing, Own}

-- the names that it holds
abbrev pub object_names : ObjectNames → List NameText
object_names Nothing = []
object_names (Own name) = name.now ∷ []
object_names (Implementers names) = map (λ name. name.now) names.now.keys
object_names (Members members) = map (λ member. member.name) members.now.keys
