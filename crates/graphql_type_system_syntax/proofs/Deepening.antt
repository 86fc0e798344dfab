-- A reader of the type system that may go deeper answers the same, but where the other went too deep.
use Rattle.std.proofs.Common.{ℕ, zero, suc, true, Option, None}
use Rattle.graphql_tokens.specs.declared.token.TokenKind.TheVariants.{LeftBrace}
use Rattle.graphql_trees.specs.declared.type_system.Description.{Description}
use Rattle.graphql_syntax.specs.Reading.{Reader}
use Rattle.graphql_syntax.proofs.Deepening.{Grows, grows_itself, grows_sequence, grows_choose, grows_starting, grows_some, grows_from_nothing, type_grows, directives_grow, default_value_grows}
use Rattle.graphql_type_system_syntax.specs.BodyReaders.{in_braces_with, in_braces_at, perhaps_in_braces_at}
use Rattle.graphql_type_system_syntax.specs.DefinitionReaders.{definition_behind, type_system_definition_at, extension_behind, extension_at}
use Rattle.graphql_type_system_syntax.specs.DirectiveDefinitionReaders.{directive_behind}
use Rattle.graphql_type_system_syntax.specs.FieldReaders.{field_definition_at}
use Rattle.graphql_type_system_syntax.specs.InputValueReaders.{input_value_definition_at, argument_definitions_in, argument_definitions_at}
use Rattle.graphql_type_system_syntax.specs.SchemaReaders.{root_operation_at, schema_behind, schema_added}
use Rattle.graphql_type_system_syntax.specs.TypeDefinitionReaders.{enum_value_definition_at, scalar_behind, object_behind, interface_behind, union_behind, enum_behind, input_object_behind, type_definition_behind}
use Rattle.graphql_type_system_syntax.specs.TypeExtensionReaders.{scalar_added, object_added, interface_added, union_added, enum_added, input_object_added, type_extension_behind}

-- bodies in braces
braces_grow : {A : Type 0} (item : ℕ → Reader A) → ((depth : ℕ) → Grows (item depth) (item (suc depth))) → (depth : ℕ) → Grows (in_braces_at item depth) (in_braces_at item (suc depth))
unfolding in_braces_at in_braces_with
braces_grow item f zero = grows_from_nothing LeftBrace _
braces_grow item f (suc depth) =
    grows_sequence _ _ _ _ (grows_itself _) (λ opening. grows_sequence _ _ _ _ (grows_some _ _ _ (f depth)) (λ found. grows_itself _))

perhaps_braces_grow : {A : Type 0} (item : ℕ → Reader A) → ((depth : ℕ) → Grows (item depth) (item (suc depth))) → (depth : ℕ) →
    Grows (perhaps_in_braces_at item depth) (perhaps_in_braces_at item (suc depth))
unfolding perhaps_in_braces_at
perhaps_braces_grow item f depth = grows_choose _ _ _ _ _ (braces_grow item f depth) (grows_itself _)

-- input values and fields
input_value_grows : (depth : ℕ) → Grows (input_value_definition_at depth) (input_value_definition_at (suc depth))
unfolding input_value_definition_at
input_value_grows depth =
    grows_starting _ _ (λ start. grows_sequence _ _ _ _ (grows_itself _) (λ description. grows_sequence _ _ _ _ (grows_itself _) (λ name.
    grows_sequence _ _ _ _ (grows_itself _) (λ colon. grows_sequence _ _ _ _ (type_grows depth) (λ type_reference.
    grows_sequence _ _ _ _ (default_value_grows depth) (λ default_value. grows_sequence _ _ _ _ (directives_grow true depth) (λ directives. grows_itself _)))))))

argument_definitions_grow : (depth : ℕ) → Grows (argument_definitions_at depth) (argument_definitions_at (suc depth))
unfolding argument_definitions_at argument_definitions_in
argument_definitions_grow depth =
    grows_choose _ _ _ _ _
    (grows_sequence _ _ _ _ (grows_itself _) (λ opening. grows_sequence _ _ _ _ (grows_some _ _ _ (input_value_grows depth)) (λ found. grows_itself _)))
    (grows_itself _)

field_grows : (depth : ℕ) → Grows (field_definition_at depth) (field_definition_at (suc depth))
unfolding field_definition_at
field_grows depth =
    grows_starting _ _ (λ start. grows_sequence _ _ _ _ (grows_itself _) (λ description. grows_sequence _ _ _ _ (grows_itself _) (λ name.
    grows_sequence _ _ _ _ (argument_definitions_grow depth) (λ arguments. grows_sequence _ _ _ _ (grows_itself _) (λ colon.
    grows_sequence _ _ _ _ (type_grows depth) (λ type_reference. grows_sequence _ _ _ _ (directives_grow true depth) (λ directives. grows_itself _)))))))

enum_value_grows : (depth : ℕ) → Grows (enum_value_definition_at depth) (enum_value_definition_at (suc depth))
unfolding enum_value_definition_at
enum_value_grows depth =
    grows_starting _ _ (λ start. grows_sequence _ _ _ _ (grows_itself _) (λ description. grows_sequence _ _ _ _ (grows_itself _) (λ name.
    grows_sequence _ _ _ _ (directives_grow true depth) (λ directives. grows_itself _))))

root_operation_grows : (depth : ℕ) → Grows (root_operation_at depth) (root_operation_at (suc depth))
unfolding root_operation_at
root_operation_grows depth = grows_itself _

-- schemas
schema_grows : (depth start : ℕ) (description : Option Description) → Grows (schema_behind depth start description) (schema_behind (suc depth) start description)
unfolding schema_behind
schema_grows depth start description =
    grows_sequence _ _ _ _ (grows_itself _) (λ word. grows_sequence _ _ _ _ (directives_grow true depth) (λ directives.
    grows_sequence _ _ _ _ (braces_grow root_operation_at root_operation_grows depth) (λ root_operations. grows_itself _)))

schema_added_grows : (depth start : ℕ) → Grows (schema_added depth start) (schema_added (suc depth) start)
unfolding schema_added
schema_added_grows depth start =
    grows_sequence _ _ _ _ (grows_itself _) (λ word. grows_sequence _ _ _ _ (directives_grow true depth) (λ directives.
    grows_sequence _ _ _ _ (perhaps_braces_grow root_operation_at root_operation_grows depth) (λ root_operations. grows_itself _)))

-- types
scalar_grows : (depth start : ℕ) (description : Option Description) → Grows (scalar_behind depth start description) (scalar_behind (suc depth) start description)
unfolding scalar_behind
scalar_grows depth start description =
    grows_sequence _ _ _ _ (grows_itself _) (λ word. grows_sequence _ _ _ _ (grows_itself _) (λ name.
    grows_sequence _ _ _ _ (directives_grow true depth) (λ directives. grows_itself _)))

object_grows : (depth start : ℕ) (description : Option Description) → Grows (object_behind depth start description) (object_behind (suc depth) start description)
unfolding object_behind
object_grows depth start description =
    grows_sequence _ _ _ _ (grows_itself _) (λ word. grows_sequence _ _ _ _ (grows_itself _) (λ name. grows_sequence _ _ _ _ (grows_itself _) (λ interfaces.
    grows_sequence _ _ _ _ (directives_grow true depth) (λ directives.
    grows_sequence _ _ _ _ (perhaps_braces_grow field_definition_at field_grows depth) (λ fields. grows_itself _)))))

interface_grows : (depth start : ℕ) (description : Option Description) → Grows (interface_behind depth start description) (interface_behind (suc depth) start description)
unfolding interface_behind
interface_grows depth start description =
    grows_sequence _ _ _ _ (grows_itself _) (λ word. grows_sequence _ _ _ _ (grows_itself _) (λ name. grows_sequence _ _ _ _ (grows_itself _) (λ interfaces.
    grows_sequence _ _ _ _ (directives_grow true depth) (λ directives.
    grows_sequence _ _ _ _ (perhaps_braces_grow field_definition_at field_grows depth) (λ fields. grows_itself _)))))

union_grows : (depth start : ℕ) (description : Option Description) → Grows (union_behind depth start description) (union_behind (suc depth) start description)
unfolding union_behind
union_grows depth start description =
    grows_sequence _ _ _ _ (grows_itself _) (λ word. grows_sequence _ _ _ _ (grows_itself _) (λ name.
    grows_sequence _ _ _ _ (directives_grow true depth) (λ directives. grows_itself _)))

enum_grows : (depth start : ℕ) (description : Option Description) → Grows (enum_behind depth start description) (enum_behind (suc depth) start description)
unfolding enum_behind
enum_grows depth start description =
    grows_sequence _ _ _ _ (grows_itself _) (λ word. grows_sequence _ _ _ _ (grows_itself _) (λ name.
    grows_sequence _ _ _ _ (directives_grow true depth) (λ directives.
    grows_sequence _ _ _ _ (perhaps_braces_grow enum_value_definition_at enum_value_grows depth) (λ values. grows_itself _))))

input_object_grows : (depth start : ℕ) (description : Option Description) → Grows (input_object_behind depth start description) (input_object_behind (suc depth) start description)
unfolding input_object_behind
input_object_grows depth start description =
    grows_sequence _ _ _ _ (grows_itself _) (λ word. grows_sequence _ _ _ _ (grows_itself _) (λ name.
    grows_sequence _ _ _ _ (directives_grow true depth) (λ directives.
    grows_sequence _ _ _ _ (perhaps_braces_grow input_value_definition_at input_value_grows depth) (λ fields. grows_itself _))))

type_definition_grows : (depth start : ℕ) (description : Option Description) → Grows (type_definition_behind depth start description) (type_definition_behind (suc depth) start description)
unfolding type_definition_behind
type_definition_grows depth start description =
    grows_choose _ _ _ _ _ (grows_sequence _ _ _ _ (scalar_grows depth start description) (λ x. grows_itself _))
    (grows_choose _ _ _ _ _ (grows_sequence _ _ _ _ (object_grows depth start description) (λ x. grows_itself _))
    (grows_choose _ _ _ _ _ (grows_sequence _ _ _ _ (interface_grows depth start description) (λ x. grows_itself _))
    (grows_choose _ _ _ _ _ (grows_sequence _ _ _ _ (union_grows depth start description) (λ x. grows_itself _))
    (grows_choose _ _ _ _ _ (grows_sequence _ _ _ _ (enum_grows depth start description) (λ x. grows_itself _))
    (grows_choose _ _ _ _ _ (grows_sequence _ _ _ _ (input_object_grows depth start description) (λ x. grows_itself _)) (grows_itself _))))))

type_extension_grows : (depth start : ℕ) → Grows (type_extension_behind depth start) (type_extension_behind (suc depth) start)
unfolding type_extension_behind scalar_added object_added interface_added union_added enum_added input_object_added
type_extension_grows depth start =
    grows_choose _ _ _ _ _ (grows_sequence _ _ _ _ (grows_sequence _ _ _ _ (scalar_grows depth start None) (λ x. grows_itself _)) (λ x. grows_itself _))
    (grows_choose _ _ _ _ _ (grows_sequence _ _ _ _ (grows_sequence _ _ _ _ (object_grows depth start None) (λ x. grows_itself _)) (λ x. grows_itself _))
    (grows_choose _ _ _ _ _ (grows_sequence _ _ _ _ (grows_sequence _ _ _ _ (interface_grows depth start None) (λ x. grows_itself _)) (λ x. grows_itself _))
    (grows_choose _ _ _ _ _ (grows_sequence _ _ _ _ (grows_sequence _ _ _ _ (union_grows depth start None) (λ x. grows_itself _)) (λ x. grows_itself _))
    (grows_choose _ _ _ _ _ (grows_sequence _ _ _ _ (grows_sequence _ _ _ _ (enum_grows depth start None) (λ x. grows_itself _)) (λ x. grows_itself _))
    (grows_choose _ _ _ _ _ (grows_sequence _ _ _ _ (grows_sequence _ _ _ _ (input_object_grows depth start None) (λ x. grows_itself _)) (λ x. grows_itself _)) (grows_itself _))))))

-- definitions
directive_definition_grows : (depth start : ℕ) (description : Option Description) → Grows (directive_behind depth start description) (directive_behind (suc depth) start description)
unfolding directive_behind
directive_definition_grows depth start description =
    grows_sequence _ _ _ _ (grows_itself _) (λ word. grows_sequence _ _ _ _ (grows_itself _) (λ at. grows_sequence _ _ _ _ (grows_itself _) (λ name.
    grows_sequence _ _ _ _ (argument_definitions_grow depth) (λ arguments. grows_itself _))))

pub definition_grows : (depth : ℕ) → Grows (type_system_definition_at depth) (type_system_definition_at (suc depth))
unfolding type_system_definition_at definition_behind
definition_grows depth =
    grows_starting _ _ (λ start. grows_sequence _ _ _ _ (grows_itself _) (λ description.
    grows_choose _ _ _ _ _ (grows_sequence _ _ _ _ (schema_grows depth start description) (λ x. grows_itself _))
    (grows_choose _ _ _ _ _ (grows_sequence _ _ _ _ (directive_definition_grows depth start description) (λ x. grows_itself _))
    (grows_sequence _ _ _ _ (type_definition_grows depth start description) (λ x. grows_itself _)))))

pub extension_grows : (depth : ℕ) → Grows (extension_at depth) (extension_at (suc depth))
unfolding extension_at extension_behind
extension_grows depth =
    grows_starting _ _ (λ start. grows_sequence _ _ _ _ (grows_itself _) (λ extend.
    grows_choose _ _ _ _ _ (grows_sequence _ _ _ _ (schema_added_grows depth start) (λ x. grows_itself _))
    (grows_sequence _ _ _ _ (type_extension_grows depth start) (λ x. grows_itself _))))
