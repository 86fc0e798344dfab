-- The numbers of the arguments of fields.
use Rattle.std.specs.Prelude.{ℕ, List, Option}
use Rattle.std.specs.Option.{option_map}
use Rattle.graphql_nodes.specs.Names.{NameText}
use Rattle.graphql_nodes.specs.declared.nodes.Node.{Node}
use Rattle.graphql_documents.specs.Directives.{argument_named}
use Rattle.graphql_documents.specs.declared.documents.directives.Argument.{Argument}
use Rattle.graphql_documents.specs.declared.documents.values.Value.{Value}
use Rattle.graphql_value_numbers.specs.Numbers.{AreNumbered, IsAt}
use Rattle.graphql_value_numbers.specs.declared.named_numbers.NamedNumbers.{NamedNumbers}
use Rattle.graphql_value_numbers.specs.declared.shapes.Shape.{Shape}
use Rattle.graphql_value_numbers.specs.declared.shapes.Shape.TheVariants as shape

-- the value of the first argument under this name
abbrev pub value_named : List (Node Argument) → NameText → Option (Node Value)
value_named arguments name = option_map (λ argument. argument.value.value.value) (argument_named name arguments)

-- under each name is the number of the value of the first of the arguments of this name
abbrev pub AreArgumentsNumbered : List Shape → List (Node Argument) → NamedNumbers → Type 0
AreArgumentsNumbered shapes arguments numbers = AreNumbered shapes (value_named arguments) numbers

-- the arguments have this number: that of an object with the first argument of each name as its entries
pub record HaveNumber (shapes : List Shape) (arguments : List (Node Argument)) (n : ℕ) : Type 0 where
  pub numbers : NamedNumbers
  pub are : AreArgumentsNumbered shapes arguments numbers
  pub at : IsAt shapes (shape.Object numbers) n
