-- The texts of the messages of building rules.
use Rattle.std.specs.Prelude.{ℕ, List, ◌++◌, None, Some, codes}
use Rattle.graphql_nodes.specs.OperationTypes.{operation_type_text}
use Rattle.graphql_building_reports.specs.declared.kinds.ExecutableKind.{ExecutableKind}
use Rattle.graphql_building_reports.specs.declared.kinds.ExecutableKind.TheVariants as executable
use Rattle.graphql_building_reports.specs.declared.kinds.LeafKind.{LeafKind}
use Rattle.graphql_building_reports.specs.declared.kinds.LeafKind.TheVariants as leaf
use Rattle.graphql_building_reports.specs.declared.kinds.TypeKind.{TypeKind}
use Rattle.graphql_building_reports.specs.declared.kinds.TypeKind.TheVariants as kind
use Rattle.graphql_building_reports.specs.declared.rules.BuildingRule.{BuildingRule}
use Rattle.graphql_building_reports.specs.declared.rules.BuildingRule.TheVariants as rule

-- what a definition that can be executed is called
abbrev pub executable_words : ExecutableKind → List ℕ
executable_words executable.Operation = codes "an operation definition"
executable_words executable.Fragment = codes "a fragment definition"

-- what a type is called, without an article
abbrev pub type_kind_words : TypeKind → List ℕ
type_kind_words kind.Scalar = codes "scalar type"
type_kind_words kind.Object = codes "object type"
type_kind_words kind.Interface = codes "interface type"
type_kind_words kind.Union = codes "union type"
type_kind_words kind.Enum = codes "enum type"
type_kind_words kind.InputObject = codes "input object type"

-- the same with its article
abbrev pub type_words : TypeKind → List ℕ
type_words kind.Scalar = codes "a scalar type"
type_words kind.Object = codes "an object type"
type_words kind.Interface = codes "an interface type"
type_words kind.Union = codes "a union type"
type_words kind.Enum = codes "an enum type"
type_words kind.InputObject = codes "an input object type"

-- what a scalar or an enum is called, without an article
abbrev pub leaf_words : LeafKind → List ℕ
leaf_words leaf.Scalar = codes "scalar type"
leaf_words leaf.Enum = codes "enum type"

-- what a part of a type is called
abbrev pub member_words : TypeKind → List ℕ
member_words kind.Union = codes "member"
member_words kind.Enum = codes "value"
member_words _ = codes "field"

-- the message of a rule
abbrev pub building_message : BuildingRule → List ℕ
building_message rule.TypeSystemDefinition = codes "an executable document must not contain definitions of the type system"
building_message rule.AmbiguousAnonymousOperation = codes "anonymous operation cannot be selected when the document contains other operations"
building_message (rule.OperationNameCollision name original) = codes "the operation `" ++ (name.text ++ codes "` is defined multiple times in the document")
building_message (rule.FragmentNameCollision name original) = codes "the fragment `" ++ (name.text ++ codes "` is defined multiple times in the document")
building_message (rule.UndefinedRootOperation operation) = codes "`" ++ (operation_type_text operation ++ codes "` root operation type is not defined")
building_message (rule.UndefinedTypeInNamedFragmentTypeCondition type_name fragment_name) =
    codes "type condition `" ++ (type_name.text ++ (codes "` of fragment `" ++ (fragment_name.text ++ codes "` is not a type defined in the schema")))
building_message (rule.UndefinedTypeInInlineFragmentTypeCondition type_name) =
    codes "type condition `" ++ (type_name.text ++ codes "` of inline fragment is not a type defined in the schema")
building_message (rule.InvalidFragmentTarget (Some name)) =
    codes "fragment `" ++ (name.text ++ codes "` must have a composite type in its type condition")
building_message (rule.InvalidFragmentTarget None) = codes "inline fragment must have a composite type in its type condition"
building_message (rule.UndefinedField type_name field_name) =
    codes "type `" ++ (type_name.text ++ (codes "` does not have a field `" ++ (field_name.text ++ codes "`")))
building_message (rule.SubselectionOnLeafType k type_name) =
    codes "field selection of " ++ (leaf_words k ++ (codes " `" ++ (type_name.text ++ codes "` must not have subselections")))
building_message (rule.ExecutableDefinition k) = codes "a schema document must not contain " ++ executable_words k
building_message (rule.SchemaDefinitionCollision original) = codes "must not have multiple `schema` definitions"
building_message (rule.DuplicateRootOperation operation original) =
    codes "duplicate definitions for the `" ++ (operation_type_text operation ++ codes "` root operation type")
building_message rule.BuiltInScalarTypeRedefinition = codes "built-in scalar definitions must be omitted"
building_message (rule.TypeDefinitionCollision name original) = codes "the type `" ++ (name.text ++ codes "` is defined multiple times in the schema")
building_message (rule.DirectiveDefinitionCollision name original) =
    codes "the directive `@" ++ (name.text ++ codes "` is defined multiple times in the schema")
building_message (rule.OrphanTypeExtension name) = codes "type extension for undefined type `" ++ (name.text ++ codes "`")
building_message (rule.TypeExtensionKindMismatch name extension definition original) =
    codes "adding " ++ (type_words extension ++ (codes " extension, but `" ++ (name.text ++ (codes "` is " ++ type_words definition))))
building_message (rule.BuiltInTypeExtension name) = codes "the built-in type `" ++ (name.text ++ codes "` must not be extended")
building_message (rule.ImplementedNonInterface name definition original) =
    codes "only interfaces can be implemented, but `" ++ (name.text ++ (codes "` is " ++ type_words definition))
building_message rule.OrphanSchemaExtension = codes "schema extension without a schema definition"
building_message (rule.MemberNameCollision k type_name name original) =
    codes "duplicate definitions for the `" ++ (name.text ++ (codes "` " ++ (member_words k ++ (codes " of " ++ (type_kind_words k ++ (codes " `" ++ (type_name.text ++ codes "`")))))))
building_message (rule.DuplicateImplementsInterface k type_name name original) =
    type_kind_words k ++ (codes " `" ++ (type_name.text ++ (codes "` implements interface `" ++ (name.text ++ codes "` more than once"))))
