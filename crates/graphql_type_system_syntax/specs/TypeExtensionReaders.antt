-- Readers of extensions of types, behind `extend`. That they answer by the grammar is proved.
use Rattle.std.specs.Prelude.{ℕ, ◌||◌, None}
use Rattle.graphql_trees.specs.declared.type_system.EnumTypeDefinition.{EnumTypeDefinition}
use Rattle.graphql_trees.specs.declared.type_system.InputObjectTypeDefinition.{InputObjectTypeDefinition}
use Rattle.graphql_trees.specs.declared.type_system.InterfaceTypeDefinition.{InterfaceTypeDefinition}
use Rattle.graphql_trees.specs.declared.type_system.ObjectTypeDefinition.{ObjectTypeDefinition}
use Rattle.graphql_trees.specs.declared.type_system.ScalarTypeDefinition.{ScalarTypeDefinition}
use Rattle.graphql_trees.specs.declared.type_system.TypeDefinition.{TypeDefinition}
use Rattle.graphql_trees.specs.declared.type_system.TypeDefinition.TheVariants as tree
use Rattle.graphql_trees.specs.declared.type_system.UnionTypeDefinition.{UnionTypeDefinition}
use Rattle.graphql_syntax.specs.declared.keywords.Keyword.TheVariants as keyword
use Rattle.graphql_syntax.specs.declared.refusals.Expected.TheVariants as expected
use Rattle.graphql_syntax.specs.Inputs.{is_keyword}
use Rattle.graphql_syntax.specs.Reading.{Reader, ◌>>=◌, answer, refuse, choose}
use Rattle.graphql_type_system_syntax.specs.BodyReaders.{is_filled, with_part}
use Rattle.graphql_type_system_syntax.specs.TypeDefinitionReaders.{enum_behind, input_object_behind, interface_behind, object_behind, scalar_behind, union_behind}

unfoldable pub scalar_added : ℕ → ℕ → Reader ScalarTypeDefinition
scalar_added depth start = scalar_behind depth start None >>= λ x. with_part (is_filled x.directives) x

unfoldable pub object_added : ℕ → ℕ → Reader ObjectTypeDefinition
object_added depth start = object_behind depth start None >>= λ x. with_part (is_filled x.interfaces || is_filled x.directives || is_filled x.fields) x

unfoldable pub interface_added : ℕ → ℕ → Reader InterfaceTypeDefinition
interface_added depth start = interface_behind depth start None >>= λ x. with_part (is_filled x.interfaces || is_filled x.directives || is_filled x.fields) x

unfoldable pub union_added : ℕ → ℕ → Reader UnionTypeDefinition
union_added depth start = union_behind depth start None >>= λ x. with_part (is_filled x.directives || is_filled x.members) x

unfoldable pub enum_added : ℕ → ℕ → Reader EnumTypeDefinition
enum_added depth start = enum_behind depth start None >>= λ x. with_part (is_filled x.directives || is_filled x.values) x

unfoldable pub input_object_added : ℕ → ℕ → Reader InputObjectTypeDefinition
input_object_added depth start = input_object_behind depth start None >>= λ x. with_part (is_filled x.directives || is_filled x.fields) x

-- by its keyword
unfoldable pub type_extension_behind : ℕ → ℕ → Reader TypeDefinition
type_extension_behind depth start =
    choose (is_keyword keyword.Scalar) (scalar_added depth start >>= λ x. answer (tree.Scalar x))
    (choose (is_keyword keyword.«Type») (object_added depth start >>= λ x. answer (tree.Object x))
    (choose (is_keyword keyword.Interface) (interface_added depth start >>= λ x. answer (tree.Interface x))
    (choose (is_keyword keyword.Union) (union_added depth start >>= λ x. answer (tree.Union x))
    (choose (is_keyword keyword.Enum) (enum_added depth start >>= λ x. answer (tree.Enum x))
    (choose (is_keyword keyword.Input) (input_object_added depth start >>= λ x. answer (tree.InputObject x))
    (refuse expected.Extension))))))
