-- The name and the location of an argument, for the walk that reports repetitions.
use Rattle.std.specs.Prelude.{List, Option}
use Rattle.std.specs.Option.{option_map}
use Rattle.graphql_documents.specs.Directives.{argument_named}
use Rattle.graphql_nodes.specs.Names.{NameText}
use Rattle.graphql_documents.specs.declared.documents.directives.Argument.{Argument}
use Rattle.graphql_nodes.specs.declared.nodes.Node.{Node}
use Rattle.graphql_nodes.specs.declared.spans.SourceSpan.{SourceSpan}

abbrev pub argument_name : Node Argument → NameText
argument_name a = a.value.value.name

-- the name of an argument beside its location
abbrev pub visited_argument : Node Argument → NameText × Option SourceSpan
visited_argument a = (a.value.value.name, a.location)

-- the location of the first argument that has the name
abbrev pub argument_place_in : List (Node Argument) → NameText → Option (Option SourceSpan)
argument_place_in arguments name = option_map (λ a. a.location) (argument_named name arguments)
