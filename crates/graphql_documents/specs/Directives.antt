-- Directives that are defined and applied, their arguments, and whether they may leave a selection out. Specification: 2.12 Directives,
-- 3.13 Directives.
use Rattle.std.specs.Prelude.{Option, List, find, ℕ, option_map, filter, Bool, false, cond, not, codes, true, ◌&&◌, ◌||◌, map}
use Rattle.std.specs.Option.{option_and_then, option_map_or}
use Rattle.std.specs.Str.{bytes_eq}
use Rattle.indexmap.specs.IndexMap.{get}
use Rattle.graphql_nodes.specs.Names.{NameText, same_name}
use Rattle.graphql_nodes.specs.declared.nodes.Node.{Node}
use Rattle.graphql_documents.specs.declared.documents.definitions.DirectiveDefinition.{DirectiveDefinition}
use Rattle.graphql_documents.specs.declared.documents.schemas.Schema.{Schema}
use Rattle.graphql_documents.specs.declared.documents.directives.Argument.{Argument}
use Rattle.graphql_documents.specs.declared.documents.values.Value.{Value}
use Rattle.graphql_documents.specs.declared.documents.directives.Directive.{Directive}
use Rattle.graphql_documents.specs.declared.documents.schemas.ExtendedType.{ExtendedType}
use Rattle.graphql_documents.specs.declared.documents.schemas.ExtendedType.TheVariants.{Scalar, Object, Interface, Union, Enum, InputObject}
use Rattle.graphql_documents.specs.declared.documents.values.Value.TheVariants as literal

-- the definition of the directive with this name. Specification: 3.13 Directives
abbrev pub directive_definition : Schema → NameText → Option (Node DirectiveDefinition)
directive_definition schema name = get same_name schema.directive_definitions name

-- the same, where there may be no schema
abbrev pub directive_in : Option Schema → NameText → Option (Node DirectiveDefinition)
directive_in schema name = option_and_then (λ s. directive_definition s name) schema

-- the first argument with this name
abbrev pub argument_named : NameText → List (Node Argument) → Option (Node Argument)
argument_named name given = find (λ a. same_name a.value.value.name name) given

-- the first argument of this name, as a value
abbrev pub argument_value : List ℕ → Directive → Option (Node Value)
argument_value name d = option_map (λ a. a.value.value.value) (find (λ a. bytes_eq a.value.value.name.text name) d.arguments.items)

-- the directives of this name
abbrev pub applications_of : List ℕ → List (Node Directive) → List (Node Directive)
applications_of name directives = filter (λ d. bytes_eq d.value.value.name.text name) directives

-- the value is this truth value
abbrev pub is_boolean : Bool → Value → Bool
is_boolean b (literal.Boolean c) = cond b c (not c)
is_boolean b _ = false

-- the argument `if` is literally this truth value
abbrev pub is_literally : Bool → Directive → Bool
is_literally b d = option_map_or (λ value. is_boolean b value.value.value) (argument_value (codes "if") d) false

-- `@skip` or `@include` that may leave a selection out
abbrev pub may_exclude : Directive → Bool
may_exclude d =
    (bytes_eq d.name.text (codes "skip") && not (is_literally false d)) ||
    (bytes_eq d.name.text (codes "include") && not (is_literally true d))

-- the directives applied on a type definition
abbrev pub directives_of_type : ExtendedType → List (Node Directive)
directives_of_type (Scalar d) = map (λ c. c.node) d.value.value.directives.items
directives_of_type (Object d) = map (λ c. c.node) d.value.value.directives.items
directives_of_type (Interface d) = map (λ c. c.node) d.value.value.directives.items
directives_of_type (Union d) = map (λ c. c.node) d.value.value.directives.items
directives_of_type (Enum d) = map (λ c. c.node) d.value.value.directives.items
directives_of_type (InputObject d) = map (λ c. c.node) d.value.value.directives.items
