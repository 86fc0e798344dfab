-- Where a document uses deprecated elements of a schema. Specification: 3.13.3 @deprecated; draft, for arguments and input fields.
use Rattle.std.specs.Prelude.{◌≡◌, ◌⊎◌, List, Any, Contains, None, Option, Some, Vec}
use Rattle.std.specs.Option.{option_and_then}
use Rattle.std.specs.Result.{result_ok}
use Rattle.std.specs.declared.alloc.Global.{Global}
use Rattle.indexmap.specs.IndexMap.{get, values}
use Rattle.graphql_nodes.specs.Names.{NameText, same_name}
use Rattle.graphql_nodes.specs.declared.nodes.Node.{Node}
use Rattle.graphql_documents.specs.Definitions.{definition_named}
use Rattle.graphql_documents.specs.Directives.{directive_definition}
use Rattle.graphql_documents.specs.Executables.{operations_of}
use Rattle.graphql_documents.specs.Schemas.{input_object_named, type_definition, type_field}
use Rattle.graphql_documents.specs.Selections.{SetWritten, directives_of, selections_of}
use Rattle.graphql_documents.specs.TypeReferences.{inner_named_type}
use Rattle.graphql_documents.specs.declared.documents.components.Component.{Component}
use Rattle.graphql_documents.specs.declared.documents.definitions.DirectiveDefinition.{DirectiveDefinition}
use Rattle.graphql_documents.specs.declared.documents.definitions.EnumValueDefinition.{EnumValueDefinition}
use Rattle.graphql_documents.specs.declared.documents.definitions.FieldDefinition.{FieldDefinition}
use Rattle.graphql_documents.specs.declared.documents.definitions.InputValueDefinition.{InputValueDefinition}
use Rattle.graphql_documents.specs.declared.documents.definitions.VariableDefinition.{VariableDefinition}
use Rattle.graphql_documents.specs.declared.documents.directives.Argument.{Argument}
use Rattle.graphql_documents.specs.declared.documents.directives.Directive.{Directive}
use Rattle.graphql_documents.specs.declared.documents.executables.ExecutableDocument.{ExecutableDocument}
use Rattle.graphql_documents.specs.declared.documents.executables.Field.{Field}
use Rattle.graphql_documents.specs.declared.documents.executables.Fragment.{Fragment}
use Rattle.graphql_documents.specs.declared.documents.executables.Operation.{Operation}
use Rattle.graphql_documents.specs.declared.documents.executables.Selection.{Selection}
use Rattle.graphql_documents.specs.declared.documents.executables.Selection.TheVariants as selection
use Rattle.graphql_documents.specs.declared.documents.executables.SelectionSet.{SelectionSet}
use Rattle.graphql_documents.specs.declared.documents.schemas.EnumType.{EnumType}
use Rattle.graphql_documents.specs.declared.documents.schemas.ExtendedType.{ExtendedType}
use Rattle.graphql_documents.specs.declared.documents.schemas.ExtendedType.TheVariants.{Enum}
use Rattle.graphql_documents.specs.declared.documents.schemas.Schema.{Schema}
use Rattle.graphql_documents.specs.declared.documents.values.Value.{Value}
use Rattle.graphql_documents.specs.declared.documents.values.Value.TheVariants as literal
use Rattle.graphql_deprecations.specs.Deprecations.{IsUsageOf, Usage}
use Rattle.graphql_deprecations.specs.declared.reports.DeprecatedElement.{DeprecatedElement}
use Rattle.graphql_deprecations.specs.declared.reports.DeprecatedElement.TheVariants as kind

-- the field of this name in the type. Specification: 5.3.1 Field Selections
abbrev pub field_at : Schema → NameText → NameText → Option (Component FieldDefinition)
field_at schema ty name = result_ok (type_field schema ty name)

-- the input field of this name, if the type is an input object. Specification: 3.10 Input Objects
abbrev pub input_field_at : Schema → NameText → NameText → Option (Component InputValueDefinition)
input_field_at schema ty name = option_and_then (λ d. get same_name d.value.value.fields name) (input_object_named schema ty)

-- a type definition as an enum
abbrev pub as_enum : ExtendedType → Option (Node EnumType)
as_enum (Enum d) = Some d
as_enum _ = None

-- the value of this name, if the type is an enum. Specification: 3.9 Enums
abbrev pub enum_value_at : Schema → NameText → NameText → Option (Component EnumValueDefinition)
enum_value_at schema ty name = option_and_then (λ d. get same_name d.value.value.values name) (option_and_then as_enum (type_definition schema ty))

-- the usage is in the value, where a value of the named type is expected, or a list of such: of the enum value that it is, in an item of a list value,
-- of an input field that an object value gives, or in what it gives for one. Specification: 2.9 Input Values, 3.11 List
pub data UsedIn (schema : Schema) : NameText → Value → Usage → Type 0 where
  of_enum_value : {ty name : NameText} {usage : Usage} (d : Component EnumValueDefinition) →
      enum_value_at schema ty name ≡ Some d →
      IsUsageOf (kind.EnumValue (record { ty = ty; attribute = name })) name d.node.value.value.directives.items usage →
      UsedIn schema ty (literal.Enum name) usage
  in_item : {ty : NameText} (items : Vec (Node Value) Global) (item : Node Value) {usage : Usage} →
      Contains items.items item → UsedIn schema ty item.value.value usage → UsedIn schema ty (literal.List items) usage
  of_input_field : {ty : NameText} (entries : Vec (NameText × Node Value) Global) (entry : NameText × Node Value) {usage : Usage}
      (d : Component InputValueDefinition) →
      Contains entries.items entry → input_field_at schema ty entry.0 ≡ Some d →
      IsUsageOf (kind.InputField (record { ty = ty; attribute = entry.0 })) entry.0 d.node.value.value.directives.items usage →
      UsedIn schema ty (literal.Object entries) usage
  in_input_field : {ty : NameText} (entries : Vec (NameText × Node Value) Global) (entry : NameText × Node Value) {usage : Usage}
      (d : Component InputValueDefinition) →
      Contains entries.items entry → input_field_at schema ty entry.0 ≡ Some d →
      UsedIn schema (inner_named_type d.node.value.value.ty.value.value) entry.1.value.value usage →
      UsedIn schema ty (literal.Object entries) usage

-- the usage is of this argument, or in its value. One that is not defined uses nothing. Specification: 2.6 Arguments
abbrev pub UsedInArgument : Schema → (NameText → DeprecatedElement) → List (Node InputValueDefinition) → Argument → Usage → Type 0
UsedInArgument schema element_of definitions a usage =
    (d : Node InputValueDefinition) × (definition_named a.name definitions ≡ Some d) ×
    (IsUsageOf (element_of a.name) a.name d.value.value.directives.items usage ⊎
    UsedIn schema (inner_named_type d.value.value.ty.value.value) a.value.value.value usage)

-- of one of these arguments, or in its value
abbrev pub UsedInArguments : Schema → (NameText → DeprecatedElement) → List (Node InputValueDefinition) → List (Node Argument) → Usage → Type 0
UsedInArguments schema element_of definitions arguments usage = Any (λ a. UsedInArgument schema element_of definitions a.value.value usage) arguments

-- in the arguments of this directive. One that is not defined uses nothing. Specification: 2.12 Directives
abbrev pub UsedInDirective : Schema → Directive → Usage → Type 0
UsedInDirective schema applied usage =
    (d : Node DirectiveDefinition) × (directive_definition schema applied.name ≡ Some d) ×
    UsedInArguments schema (λ argument. kind.DirectiveArgument (record { directive = applied.name; argument = argument }))
    d.value.value.arguments.items applied.arguments.items usage

-- in those of one of these directives
abbrev pub UsedInDirectives : Schema → List (Node Directive) → Usage → Type 0
UsedInDirectives schema directives usage = Any (λ d. UsedInDirective schema d.value.value usage) directives

-- of a field of this type, or in its arguments. One that the type lacks uses nothing. Specification: 2.5 Fields
abbrev pub UsedByField : Schema → NameText → Field → Usage → Type 0
UsedByField schema parent f usage =
    (d : Component FieldDefinition) × (field_at schema parent f.name ≡ Some d) ×
    (IsUsageOf (kind.Field (record { ty = parent; attribute = f.name })) f.name d.node.value.value.directives.items usage ⊎
    UsedInArguments schema (λ argument. kind.FieldArgument (record { ty = parent; field = f.name; argument = argument }))
    d.node.value.value.arguments.items f.arguments.items usage)

-- by a selection on this type: of the field that it is, in its arguments, or in its directives. Specification: 2.4 Selection Sets
abbrev pub UsedBySelection : Schema → NameText → Selection → Usage → Type 0
UsedBySelection schema parent s usage =
    ((f : Node Field) × (s ≡ selection.Field f) × UsedByField schema parent f.value.value usage) ⊎ UsedInDirectives schema (directives_of s) usage

-- by a selection in the set, or at any depth below it, spreads not followed
abbrev pub UsedInSet : Schema → SelectionSet → Usage → Type 0
UsedInSet schema set usage =
    (inner : SelectionSet) × (s : Selection) × SetWritten set inner × Contains (selections_of inner) s × UsedBySelection schema inner.ty s usage

-- in the default value of a variable. Specification: 2.10 Variables
abbrev pub UsedInDefault : Schema → VariableDefinition → Usage → Type 0
UsedInDefault schema v usage =
    (value : Node Value) × (v.default_value ≡ Some value) × UsedIn schema (inner_named_type v.ty.value.value) value.value.value usage

-- in its default value or its directives
abbrev pub UsedInVariable : Schema → VariableDefinition → Usage → Type 0
UsedInVariable schema v usage = UsedInDefault schema v usage ⊎ UsedInDirectives schema v.directives.items usage

-- in an operation: its variables, directives and selections. Specification: 2.3 Operations
abbrev pub UsedInOperation : Schema → Operation → Usage → Type 0
UsedInOperation schema o usage =
    Any (λ v. UsedInVariable schema v.value.value usage) o.variables.items ⊎
    (UsedInDirectives schema o.directives.items usage ⊎ UsedInSet schema o.selection_set usage)

-- in a fragment: its directives and selections. Specification: 2.8 Fragments
abbrev pub UsedInFragment : Schema → Fragment → Usage → Type 0
UsedInFragment schema f usage = UsedInDirectives schema f.directives.items usage ⊎ UsedInSet schema f.selection_set usage

-- the usage is in an operation or a fragment of the document, reached or not
abbrev pub IsDeprecatedUsage : Schema → ExecutableDocument → Usage → Type 0
IsDeprecatedUsage schema document usage =
    Any (λ o. UsedInOperation schema o.value.value usage) (operations_of document) ⊎
    Any (λ f. UsedInFragment schema f.value.value usage) (values document.fragments)

-- the list has each usage of which this is true, and no others
pub record AreExactly (IsUsage : Usage → Type 0) (found : List Usage) : Type 0 where
  pub each : (usage : Usage) → Contains found usage → IsUsage usage
  pub all : (usage : Usage) → IsUsage usage → Contains found usage
