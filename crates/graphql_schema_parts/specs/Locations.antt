-- Where documents, and not only schemas, can apply directives. Specification: 3.13 Directives.
use Rattle.std.specs.Prelude.{Bool, true, false}
use Rattle.graphql_nodes.specs.declared.directive_locations.DirectiveLocation.{DirectiveLocation}
use Rattle.graphql_nodes.specs.declared.directive_locations.DirectiveLocation.TheVariants as location

-- documents, and not schemas alone, can apply a directive at the location. Specification: 3.13 Directives, ExecutableDirectiveLocation
abbrev pub is_in_documents : DirectiveLocation → Bool
is_in_documents location.Query = true
is_in_documents location.Mutation = true
is_in_documents location.Subscription = true
is_in_documents location.Field = true
is_in_documents location.FragmentDefinition = true
is_in_documents location.FragmentSpread = true
is_in_documents location.InlineFragment = true
is_in_documents location.VariableDefinition = true
is_in_documents _ = false
