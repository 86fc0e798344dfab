-- The usages in parts of a document, for the contracts of the walk over it.
use Rattle.std.specs.Prelude.{◌≡◌, ◌⊎◌, IsTrue, List, Any, Option, Some}
use Rattle.indexmap.specs.IndexMap.{get}
use Rattle.graphql_nodes.specs.Names.{NameText, same_name}
use Rattle.graphql_nodes.specs.declared.nodes.Node.{Node}
use Rattle.graphql_documents.specs.Definitions.{definition_named}
use Rattle.graphql_documents.specs.Directives.{directive_definition}
use Rattle.graphql_documents.specs.Selections.{Fragments}
use Rattle.graphql_documents.specs.Schemas.{input_object_named}
use Rattle.graphql_documents.specs.TypeReferences.{inner_named_type, is_list}
use Rattle.graphql_documents.specs.declared.documents.components.Component.{Component}
use Rattle.graphql_documents.specs.declared.documents.definitions.InputValueDefinition.{InputValueDefinition}
use Rattle.graphql_documents.specs.declared.documents.directives.Argument.{Argument}
use Rattle.graphql_documents.specs.declared.documents.directives.Directive.{Directive}
use Rattle.graphql_documents.specs.declared.documents.executables.Field.{Field}
use Rattle.graphql_documents.specs.declared.documents.executables.Fragment.{Fragment}
use Rattle.graphql_documents.specs.declared.documents.executables.InlineFragment.{InlineFragment}
use Rattle.graphql_documents.specs.declared.documents.executables.Operation.{Operation}
use Rattle.graphql_documents.specs.declared.documents.executables.Selection.{Selection}
use Rattle.graphql_documents.specs.declared.documents.executables.SelectionSet.{SelectionSet}
use Rattle.graphql_documents.specs.declared.documents.schemas.InputObjectType.{InputObjectType}
use Rattle.graphql_documents.specs.declared.documents.schemas.Schema.{Schema}
use Rattle.graphql_documents.specs.declared.documents.values.Value.{Value}
use Rattle.graphql_reach.specs.Written.{SelectionHas, SetHas}
use Rattle.graphql_usage_rules.specs.Usages.{Location, Usage, UsedIn, UsedInArguments, UsedInDirectives, UsedAtSelection, item_location, location_of}
use Rattle.graphql_usage_rules.specs.declared.locations.UsageLocation.{UsageLocation}

-- what a location in the code expects
abbrev pub location_at : UsageLocation → Location
location_at location = record { ty = location.ty.now; has_default = location.has_default }

-- something is there, and the usage is in it
abbrev pub InFound : {X : Type 0} → Option X → (X → Usage → Type 0) → Usage → Type 0
InFound {X = X} found In usage = (x : X) × (found ≡ Some x) × In x usage

-- in the item of a list
abbrev pub UsedInItem : Schema → Location → Node Value → Usage → Type 0
UsedInItem schema location item usage = UsedIn schema location item usage

-- in one of the items, where a list is expected
abbrev pub UsedInList : Schema → Location → List (Node Value) → Usage → Type 0
UsedInList schema location items usage = IsTrue (is_list location.ty) × Any (λ item. UsedInItem schema (item_location location) item usage) items

-- in the value of an input field
abbrev pub UsedInField : Schema → Node Value → Component InputValueDefinition → Usage → Type 0
UsedInField schema value field usage = UsedIn schema (location_of field.node.value.value) value usage

-- in an entry of an object value, where an input object of this definition is expected
abbrev pub UsedInEntry : Schema → Node InputObjectType → NameText × Node Value → Usage → Type 0
UsedInEntry schema d entry usage = InFound (get same_name d.value.value.fields entry.0) (UsedInField schema entry.1) usage

-- in one of the entries, where an input object is expected
abbrev pub UsedInObject : Schema → Location → List (NameText × Node Value) → Usage → Type 0
UsedInObject schema location entries usage =
    InFound (input_object_named schema (inner_named_type location.ty)) (λ d usage. Any (λ entry. UsedInEntry schema d entry usage) entries) usage

-- in the value of an argument, by the definition of its name
abbrev pub UsedInArgument : Schema → List (Node InputValueDefinition) → Argument → Usage → Type 0
UsedInArgument schema definitions a usage =
    InFound (definition_named a.name definitions) (λ d. UsedIn schema (location_of d.value.value) a.value) usage

-- in the arguments of a directive, by their definitions
abbrev pub UsedInDirective : Schema → Directive → Usage → Type 0
UsedInDirective schema applied usage =
    InFound (directive_definition schema applied.name) (λ d. UsedInArguments schema d.value.value.arguments.items applied.arguments.items) usage

-- the selections of a set use the variable
abbrev pub SetUses : Schema → SelectionSet → Usage → Type 0
SetUses schema = SetHas (UsedAtSelection schema)

abbrev pub SelectionUses : Schema → Selection → Usage → Type 0
SelectionUses schema = SelectionHas (UsedAtSelection schema)

-- a field does: in its arguments, its directives or its set
abbrev pub FieldUses : Schema → Field → Usage → Type 0
FieldUses schema f usage =
    UsedInArguments schema f.definition.value.value.arguments.items f.arguments.items usage ⊎
    (UsedInDirectives schema f.directives.items usage ⊎ SetUses schema f.selection_set usage)

-- an inline fragment: in its directives or its set
abbrev pub InlineFragmentUses : Schema → InlineFragment → Usage → Type 0
InlineFragmentUses schema i usage = UsedInDirectives schema i.directives.items usage ⊎ SetUses schema i.selection_set usage

-- the definition of a fragment
abbrev pub FragmentUses : Schema → Fragment → Usage → Type 0
FragmentUses schema d usage = UsedInDirectives schema d.directives.items usage ⊎ SetUses schema d.selection_set usage

-- the definition of the fragment of this name
abbrev pub UsedInFragment : Schema → Fragments → NameText → Usage → Type 0
UsedInFragment schema fragments name usage = InFound (fragments name) (λ d. FragmentUses schema d.value.value) usage

-- one of those of these names
abbrev pub UsedInFragments : Schema → Fragments → List NameText → Usage → Type 0
UsedInFragments schema fragments names usage = Any (λ name. UsedInFragment schema fragments name usage) names

-- the directives of an operation do, its own selections, or one of the fragments of these names
abbrev pub UsedInParts : Schema → Fragments → Operation → List NameText → Usage → Type 0
UsedInParts schema fragments o names usage =
    UsedInDirectives schema o.directives.items usage ⊎ (SetUses schema o.selection_set usage ⊎ UsedInFragments schema fragments names usage)
