-- What fields, directives and input objects take, while two schemas are compared. Specification: 3.6.1 Field Arguments, 3.10 Input Objects, 3.13 Directives.
use Rattle.std.specs.Prelude.{◌↔◌, ◌⊎◌, if◌then◌else◌, List, Any, IsFalse, IsNone, IsTrue}
use Rattle.indexmap.specs.IndexMap.{get}
use Rattle.graphql_nodes.specs.Names.{NameText, SameName, same_name}
use Rattle.graphql_nodes.specs.declared.nodes.Node.{Node}
use Rattle.graphql_documents.specs.Definitions.{definition_named}
use Rattle.graphql_documents.specs.Schemas.{is_required}
use Rattle.graphql_documents.specs.declared.documents.definitions.InputValueDefinition.{InputValueDefinition}
use Rattle.graphql_documents.specs.declared.documents.schemas.InputObjectType.{InputObjectType}
use Rattle.graphql_documents.specs.declared.documents.schemas.Schema.{Schema}
use Rattle.graphql_change_kinds.specs.Changes.{HasInput, IsApplicableIf, IsArgumentOf, IsFieldOf, IsGivenTwice, LacksInput}
use Rattle.graphql_change_kinds.specs.declared.changes.InputCoordinate.{InputCoordinate}
use Rattle.graphql_change_kinds.specs.declared.changes.InputCoordinate.TheVariants as input
use Rattle.graphql_input_comparison.specs.declared.inputs.Owner.{Owner}
use Rattle.graphql_input_comparison.specs.declared.inputs.Owner.TheVariants as owner

-- the coordinate of the field of this name of an input object
abbrev pub field_coordinate : NameText → NameText → InputCoordinate
field_coordinate ty name = input.InputField (record { ty = ty; attribute = name })

-- the coordinate of the argument or input field of this name
abbrev pub coordinate_of : Owner → NameText → InputCoordinate
coordinate_of (owner.Field ty field) name = input.Argument (record { ty = ty.now; field = field.now; argument = name })
coordinate_of (owner.InputObject ty) name = field_coordinate ty.now name
coordinate_of (owner.Directive directive is_executable) name =
    if is_executable
    then input.DirectiveArgument (record { directive = directive.now; argument = name })
    else input.SchemaDirectiveArgument (record { directive = directive.now; argument = name })

-- of a directive, it is known whether documents could apply the old one
abbrev pub IsOwner : Schema → Owner → Type 0
IsOwner old (owner.Directive directive is_executable) = IsApplicableIf old directive.now is_executable
IsOwner old _ = Unit {0}

abbrev pub OwnerHas : Schema → Owner → NameText → InputValueDefinition → Type 0
OwnerHas schema o name a = HasInput schema (coordinate_of o name) a

abbrev pub OwnerLacks : Schema → Owner → NameText → Type 0
OwnerLacks schema o name = LacksInput schema (coordinate_of o name)

abbrev pub OwnerHasTwice : Schema → Owner → NameText → Type 0
OwnerHasTwice schema o name = IsGivenTwice schema (coordinate_of o name)

-- these are its arguments in the schema
abbrev pub HasArguments : Schema → Owner → List (Node InputValueDefinition) → Type 0
HasArguments schema o arguments = (name : NameText) (a : InputValueDefinition) → OwnerHas schema o name a ↔ IsArgumentOf arguments name a

-- and these the fields of an input object
abbrev pub HasInputFields : Schema → NameText → InputObjectType → Type 0
HasInputFields schema ty d = (name : NameText) (a : InputValueDefinition) → HasInput schema (field_coordinate ty name) a ↔ IsFieldOf d name a

-- no old argument has the name of the new one; or another new one has it, which need not be given
abbrev pub IsNewArgument : List (Node InputValueDefinition) → List (Node InputValueDefinition) → InputValueDefinition → Type 0
IsNewArgument old new b =
    IsNone (definition_named b.name old) ⊎ (IsTrue (is_required b) × Any (λ a. SameName a.value.value.name b.name × IsFalse (is_required a.value.value)) new)

-- the same of a field of an input object, with its name
abbrev pub IsNewField : InputObjectType → InputObjectType → NameText → InputValueDefinition → Type 0
IsNewField old new name b =
    IsNone (get same_name old.fields name) ⊎ (IsTrue (is_required b) × Any (λ a. SameName a.0 name × IsFalse (is_required a.1.node.value.value)) new.fields.entries)
