-- The texts of directive locations. Specification: 3.13 Directives, and Appendix B.3 Document Syntax.
use Rattle.std.specs.Prelude.{ℕ, List, [], ◌∷◌, codes}
use Rattle.graphql_nodes.specs.declared.directive_locations.DirectiveLocation.{DirectiveLocation}
use Rattle.graphql_nodes.specs.declared.directive_locations.DirectiveLocation.TheVariants as location

abbrev pub location_text : DirectiveLocation → List ℕ
-- ExecutableDirectiveLocation
location_text location.Query = codes "QUERY"
location_text location.Mutation = codes "MUTATION"
location_text location.Subscription = codes "SUBSCRIPTION"
location_text location.Field = codes "FIELD"
location_text location.FragmentDefinition = codes "FRAGMENT_DEFINITION"
location_text location.FragmentSpread = codes "FRAGMENT_SPREAD"
location_text location.InlineFragment = codes "INLINE_FRAGMENT"
location_text location.VariableDefinition = codes "VARIABLE_DEFINITION"
-- TypeSystemDirectiveLocation
location_text location.Schema = codes "SCHEMA"
location_text location.Scalar = codes "SCALAR"
location_text location.Object = codes "OBJECT"
location_text location.FieldDefinition = codes "FIELD_DEFINITION"
location_text location.ArgumentDefinition = codes "ARGUMENT_DEFINITION"
location_text location.Interface = codes "INTERFACE"
location_text location.Union = codes "UNION"
location_text location.Enum = codes "ENUM"
location_text location.EnumValue = codes "ENUM_VALUE"
location_text location.InputObject = codes "INPUT_OBJECT"
location_text location.InputFieldDefinition = codes "INPUT_FIELD_DEFINITION"

-- all of them
abbrev pub locations : List DirectiveLocation
locations =
    location.Query ∷ location.Mutation ∷ location.Subscription ∷ location.Field
    ∷ location.FragmentDefinition ∷ location.FragmentSpread ∷ location.InlineFragment ∷ location.VariableDefinition
    ∷ location.Schema ∷ location.Scalar ∷ location.Object ∷ location.FieldDefinition
    ∷ location.ArgumentDefinition ∷ location.Interface ∷ location.Union ∷ location.Enum
    ∷ location.EnumValue ∷ location.InputObject ∷ location.InputFieldDefinition ∷ []
