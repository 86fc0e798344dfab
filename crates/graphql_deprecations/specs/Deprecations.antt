-- Elements that are deprecated, why, and what a message says. Specification: 3.13.3 @deprecated.
use Rattle.std.specs.Prelude.{ℕ, List, ◌++◌, ◌≡◌, Option, Some, codes, find, string_bytes}
use Rattle.std.specs.Option.{option_map_or}
use Rattle.std.specs.Str.{bytes_eq}
use Rattle.graphql_nodes.specs.Names.{NameText}
use Rattle.graphql_nodes.specs.declared.nodes.Node.{Node}
use Rattle.graphql_nodes.specs.declared.spans.SourceSpan.{SourceSpan}
use Rattle.graphql_coordinates.specs.Coordinates.{directive_argument_text, field_argument_text, type_attribute_text}
use Rattle.graphql_documents.specs.declared.documents.directives.Argument.{Argument}
use Rattle.graphql_documents.specs.declared.documents.directives.Directive.{Directive}
use Rattle.graphql_documents.specs.declared.documents.values.Value.{Value}
use Rattle.graphql_documents.specs.declared.documents.values.Value.TheVariants as literal
use Rattle.graphql_deprecations.specs.declared.reports.DeprecatedElement.{DeprecatedElement}
use Rattle.graphql_deprecations.specs.declared.reports.DeprecatedElement.TheVariants as kind
use Rattle.graphql_deprecations.specs.declared.reports.DeprecatedUsage.{DeprecatedUsage}

-- the first `@deprecated` among the directives of a definition
abbrev pub deprecation_in : List (Node Directive) → Option (Node Directive)
deprecation_in directives = find (λ d. bytes_eq d.value.value.name.text (codes "deprecated")) directives

-- the text of a string, and the default reason of any other value
abbrev pub reason_in : Value → List ℕ
reason_in (literal.String text) = string_bytes text
reason_in _ = codes "No longer supported"

-- the first argument `reason`
abbrev pub reason_argument : Directive → Option (Node Argument)
reason_argument d = find (λ a. bytes_eq a.value.value.name.text (codes "reason")) d.arguments.items

-- why the element is deprecated: the argument `reason`, if it is given as a string, and its default otherwise
abbrev pub reason_of : Directive → List ℕ
reason_of d = option_map_or (λ a. reason_in a.value.value.value.value.value) (reason_argument d) (codes "No longer supported")

-- a use of a deprecated element: which element, at which place, and why it is deprecated
pub record Usage : Type 0 where
  pub element : DeprecatedElement
  pub place : Option SourceSpan
  pub reason : List ℕ

-- these directives deprecate the element, and the name uses it
pub record IsUsageOf (element : DeprecatedElement) (name : NameText) (directives : List (Node Directive)) (usage : Usage) : Type 0 where
  pub deprecation : Node Directive
  pub deprecates : deprecation_in directives ≡ Some deprecation
  pub usage_is : usage ≡ record { element = element; place = name.location; reason = reason_of deprecation.value.value }

-- the text of an element: its kind and its coordinate
abbrev pub element_text : DeprecatedElement → List ℕ
element_text (kind.Field c) = codes "the field `" ++ (type_attribute_text c ++ codes "`")
element_text (kind.FieldArgument c) = codes "the argument `" ++ (field_argument_text c ++ codes "`")
element_text (kind.DirectiveArgument c) = codes "the argument `" ++ (directive_argument_text c ++ codes "`")
element_text (kind.InputField c) = codes "the input field `" ++ (type_attribute_text c ++ codes "`")
element_text (kind.EnumValue c) = codes "the enum value `" ++ (type_attribute_text c ++ codes "`")

-- the message
abbrev pub usage_text : DeprecatedUsage → List ℕ
usage_text usage = element_text usage.element ++ (codes " is deprecated: " ++ reason_of usage.deprecation.value.value)
