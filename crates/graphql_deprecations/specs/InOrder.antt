-- The usages of deprecated elements in the parts of a document, in the order of the document, each as often as it has it.
use Rattle.std.specs.Prelude.{◌≡◌, List, [], ◌∷◌, ◌++◌, None, Option, Some, Vec, map, option_map, option_to_list}
use Rattle.std.specs.declared.alloc.Global.{Global}
use Rattle.indexmap.specs.IndexMap.{values}
use Rattle.graphql_nodes.specs.Names.{NameText}
use Rattle.graphql_nodes.specs.declared.nodes.Node.{Node}
use Rattle.graphql_documents.specs.Definitions.{definition_named}
use Rattle.graphql_documents.specs.Directives.{directive_definition}
use Rattle.graphql_documents.specs.Executables.{operations_of}
use Rattle.graphql_documents.specs.Selections.{selections_of}
use Rattle.graphql_documents.specs.TypeReferences.{inner_named_type}
use Rattle.graphql_documents.specs.declared.documents.components.Component.{Component}
use Rattle.graphql_documents.specs.declared.documents.definitions.FieldDefinition.{FieldDefinition}
use Rattle.graphql_documents.specs.declared.documents.definitions.InputValueDefinition.{InputValueDefinition}
use Rattle.graphql_documents.specs.declared.documents.definitions.VariableDefinition.{VariableDefinition}
use Rattle.graphql_documents.specs.declared.documents.directives.Argument.{Argument}
use Rattle.graphql_documents.specs.declared.documents.directives.Directive.{Directive}
use Rattle.graphql_documents.specs.declared.documents.executables.ExecutableDocument.{ExecutableDocument}
use Rattle.graphql_documents.specs.declared.documents.executables.Field.{Field}
use Rattle.graphql_documents.specs.declared.documents.executables.Fragment.{Fragment}
use Rattle.graphql_documents.specs.declared.documents.executables.FragmentSpread.{FragmentSpread}
use Rattle.graphql_documents.specs.declared.documents.executables.InlineFragment.{InlineFragment}
use Rattle.graphql_documents.specs.declared.documents.executables.Operation.{Operation}
use Rattle.graphql_documents.specs.declared.documents.executables.Selection.{Selection}
use Rattle.graphql_documents.specs.declared.documents.executables.Selection.TheVariants as selection
use Rattle.graphql_documents.specs.declared.documents.executables.SelectionSet.{SelectionSet}
use Rattle.graphql_documents.specs.declared.documents.schemas.Schema.{Schema}
use Rattle.graphql_documents.specs.declared.documents.values.Value.{Value}
use Rattle.graphql_documents.specs.declared.documents.values.Value.TheVariants as literal
use Rattle.graphql_deprecations.specs.Deprecations.{Usage, deprecation_in, reason_of}
use Rattle.graphql_deprecations.specs.Usages.{enum_value_at, field_at, input_field_at}
use Rattle.graphql_deprecations.specs.declared.arguments.ArgumentOwner.{ArgumentOwner}
use Rattle.graphql_deprecations.specs.declared.arguments.ArgumentOwner.TheVariants as owner
use Rattle.graphql_deprecations.specs.declared.reports.DeprecatedElement.{DeprecatedElement}
use Rattle.graphql_deprecations.specs.declared.reports.DeprecatedElement.TheVariants as kind
use Rattle.graphql_deprecations.specs.declared.reports.DeprecatedUsage.{DeprecatedUsage}

-- the usage that is reported, and those of a list of reports
abbrev pub usage_of : DeprecatedUsage → Usage
usage_of reported = record { element = reported.element; place = reported.place; reason = reason_of reported.deprecation.value.value }

abbrev pub usages : List DeprecatedUsage → List Usage
usages found = map usage_of found

-- the new list reports what the old one does, and then usages of which this is true
pub record Adds (Are : List Usage → Type 0) (old new : List DeprecatedUsage) : Type 0 where
  pub added : List Usage
  pub appended : usages new ≡ usages old ++ added
  pub are : Are added

-- usages of one kind, and then usages of another
pub record Then (First Second : List Usage → Type 0) (uses : List Usage) : Type 0 where
  pub first : List Usage
  pub second : List Usage
  pub are_first : First first
  pub are_second : Second second
  pub together : uses ≡ first ++ second

-- those of each element of a list in turn
abbrev pub InTurn : {X : Type 0} → (X → List Usage → Type 0) → List X → List Usage → Type 0
InTurn Of [] uses = uses ≡ []
InTurn Of (x ∷ xs) uses = Then (Of x) (InTurn Of xs) uses

-- those of what is found, and none if nothing is
abbrev pub OfFound : {X : Type 0} → Option X → (X → List Usage → Type 0) → List Usage → Type 0
OfFound None Of uses = uses ≡ []
OfFound (Some x) Of uses = Of x uses

-- the one use of an element that these directives deprecate, by the name, and none if they do not
abbrev pub element_uses : DeprecatedElement → NameText → List (Node Directive) → List Usage
element_uses element name directives =
    option_to_list (option_map (λ d. let u : Usage = record { element = element; place = name.location; reason = reason_of d.value.value } in u) (deprecation_in directives))

-- the one use of a deprecated enum value, if the type is an enum that has it
abbrev pub EnumValueUses : Schema → NameText → NameText → List Usage → Type 0
EnumValueUses schema ty name =
    OfFound (enum_value_at schema ty name) (λ d uses.
    uses ≡ element_uses (kind.EnumValue (record { ty = ty; attribute = name })) name d.node.value.value.directives.items)

-- a value of none of the kinds that use elements
abbrev pub uses_nothing : Value → Type 0
uses_nothing value =
    ((name : NameText) → value ≡ literal.Enum name → ⊥) × ((items : Vec (Node Value) Global) → value ≡ literal.List items → ⊥) ×
    ((entries : Vec (NameText × Node Value) Global) → value ≡ literal.Object entries → ⊥)

-- those in a value where a value of the named type is expected, or a list of such
mutual
  pub data ValueUses (schema : Schema) : NameText → Value → List Usage → Type 0 where
    enum_uses : {ty name : NameText} {uses : List Usage} → EnumValueUses schema ty name uses → ValueUses schema ty (literal.Enum name) uses
    list_uses : {ty : NameText} (items : Vec (Node Value) Global) {uses : List Usage} →
        ItemsUse schema ty items.items uses → ValueUses schema ty (literal.List items) uses
    object_uses : {ty : NameText} (entries : Vec (NameText × Node Value) Global) {uses : List Usage} →
        EntriesUse schema ty entries.items uses → ValueUses schema ty (literal.Object entries) uses
    other_uses : {ty : NameText} {value : Value} → uses_nothing value → ValueUses schema ty value []

  pub data ItemsUse (schema : Schema) : NameText → List (Node Value) → List Usage → Type 0 where
    no_items : {ty : NameText} → ItemsUse schema ty [] []
    next_item : {ty : NameText} {item : Node Value} {items : List (Node Value)} {uses more : List Usage} →
        ValueUses schema ty item.value.value uses → ItemsUse schema ty items more → ItemsUse schema ty (item ∷ items) (uses ++ more)

  -- an input field comes before those in its value; an entry that the type lacks uses nothing
  pub data EntriesUse (schema : Schema) : NameText → List (NameText × Node Value) → List Usage → Type 0 where
    no_entries : {ty : NameText} → EntriesUse schema ty [] []
    next_entry : {ty : NameText} {entry : NameText × Node Value} {entries : List (NameText × Node Value)} {uses more : List Usage}
        (d : Component InputValueDefinition) → input_field_at schema ty entry.0 ≡ Some d →
        ValueUses schema (inner_named_type d.node.value.value.ty.value.value) entry.1.value.value uses → EntriesUse schema ty entries more →
        EntriesUse schema ty (entry ∷ entries)
        ((element_uses (kind.InputField (record { ty = ty; attribute = entry.0 })) entry.0 d.node.value.value.directives.items ++ uses) ++ more)
    unknown_entry : {ty : NameText} {entry : NameText × Node Value} {entries : List (NameText × Node Value)} {more : List Usage} →
        input_field_at schema ty entry.0 ≡ None → EntriesUse schema ty entries more → EntriesUse schema ty (entry ∷ entries) more

-- an input field of this definition, then those in its value
abbrev pub InputFieldUses : Schema → NameText → NameText → InputValueDefinition → Value → List Usage → Type 0
InputFieldUses schema ty name d value =
    Then (λ uses. uses ≡ element_uses (kind.InputField (record { ty = ty; attribute = name })) name d.directives.items)
    (ValueUses schema (inner_named_type d.ty.value.value) value)

-- an argument of this definition, then those in its value
abbrev pub KnownArgumentUses : Schema → (NameText → DeprecatedElement) → Argument → InputValueDefinition → List Usage → Type 0
KnownArgumentUses schema element_of a d =
    Then (λ uses. uses ≡ element_uses (element_of a.name) a.name d.directives.items) (ValueUses schema (inner_named_type d.ty.value.value) a.value.value.value)

-- an argument by its definition
abbrev pub ArgumentUses : Schema → (NameText → DeprecatedElement) → List (Node InputValueDefinition) → Argument → List Usage → Type 0
ArgumentUses schema element_of definitions a = OfFound (definition_named a.name definitions) (λ d. KnownArgumentUses schema element_of a d.value.value)

abbrev pub ArgumentsUse : Schema → (NameText → DeprecatedElement) → List (Node InputValueDefinition) → List (Node Argument) → List Usage → Type 0
ArgumentsUse schema element_of definitions = InTurn (λ a. ArgumentUses schema element_of definitions a.value.value)

-- an argument of what owns it
abbrev pub argument_element : ArgumentOwner → NameText → DeprecatedElement
argument_element (owner.Field ty field) argument = kind.FieldArgument (record { ty = ty.now; field = field.now; argument = argument })
argument_element (owner.Directive directive) argument = kind.DirectiveArgument (record { directive = directive.now; argument = argument })

-- the arguments of a directive
abbrev pub DirectiveUses : Schema → Directive → List Usage → Type 0
DirectiveUses schema applied =
    OfFound (directive_definition schema applied.name) (λ d.
    ArgumentsUse schema (λ argument. kind.DirectiveArgument (record { directive = applied.name; argument = argument })) d.value.value.arguments.items
    applied.arguments.items)

abbrev pub DirectivesUse : Schema → List (Node Directive) → List Usage → Type 0
DirectivesUse schema = InTurn (λ d. DirectiveUses schema d.value.value)

-- a field of this definition, then its arguments
abbrev pub KnownFieldUses : Schema → NameText → Field → FieldDefinition → List Usage → Type 0
KnownFieldUses schema parent f d =
    Then (λ uses. uses ≡ element_uses (kind.Field (record { ty = parent; attribute = f.name })) f.name d.directives.items)
    (ArgumentsUse schema (λ argument. kind.FieldArgument (record { ty = parent; field = f.name; argument = argument })) d.arguments.items f.arguments.items)

-- a field by its definition in the type
abbrev pub FieldItselfUses : Schema → NameText → Field → List Usage → Type 0
FieldItselfUses schema parent f = OfFound (field_at schema parent f.name) (λ d. KnownFieldUses schema parent f d.node.value.value)

-- selections on this type, in order: a field, its arguments, its directives and its set; the directives of a spread; those of an inline fragment and
-- its set
pub data SelectionsUse (schema : Schema) : NameText → List Selection → List Usage → Type 0 where
  no_selections : {parent : NameText} → SelectionsUse schema parent [] []
  next_field : {parent : NameText} (f : Node Field) {selections : List Selection} (itself applied : List Usage) {below more : List Usage} →
      FieldItselfUses schema parent f.value.value itself → DirectivesUse schema f.value.value.directives.items applied →
      SelectionsUse schema f.value.value.selection_set.ty (selections_of f.value.value.selection_set) below →
      SelectionsUse schema parent selections more →
      SelectionsUse schema parent (selection.Field f ∷ selections) ((itself ++ (applied ++ below)) ++ more)
  next_spread : {parent : NameText} (p : Node FragmentSpread) {selections : List Selection} (applied : List Usage) {more : List Usage} →
      DirectivesUse schema p.value.value.directives.items applied → SelectionsUse schema parent selections more →
      SelectionsUse schema parent (selection.FragmentSpread p ∷ selections) (applied ++ more)
  next_inline_fragment : {parent : NameText} (i : Node InlineFragment) {selections : List Selection} (applied : List Usage) {below more : List Usage} →
      DirectivesUse schema i.value.value.directives.items applied →
      SelectionsUse schema i.value.value.selection_set.ty (selections_of i.value.value.selection_set) below →
      SelectionsUse schema parent selections more →
      SelectionsUse schema parent (selection.InlineFragment i ∷ selections) ((applied ++ below) ++ more)

-- the selections of a set
abbrev pub SetUses : Schema → SelectionSet → List Usage → Type 0
SetUses schema set = SelectionsUse schema set.ty (selections_of set)

-- one field on this type, and one inline fragment
abbrev pub FieldUses : Schema → NameText → Field → List Usage → Type 0
FieldUses schema parent f = Then (FieldItselfUses schema parent f) (Then (DirectivesUse schema f.directives.items) (SetUses schema f.selection_set))

abbrev pub InlineFragmentUses : Schema → InlineFragment → List Usage → Type 0
InlineFragmentUses schema i = Then (DirectivesUse schema i.directives.items) (SetUses schema i.selection_set)

-- a default value, by the type of its variable
abbrev pub DefaultUses : Schema → VariableDefinition → List Usage → Type 0
DefaultUses schema v = OfFound v.default_value (λ value. ValueUses schema (inner_named_type v.ty.value.value) value.value.value)

abbrev pub VariableUses : Schema → VariableDefinition → List Usage → Type 0
VariableUses schema v = Then (DefaultUses schema v) (DirectivesUse schema v.directives.items)

abbrev pub OperationUses : Schema → Operation → List Usage → Type 0
OperationUses schema o =
    Then (InTurn (λ v. VariableUses schema v.value.value) o.variables.items) (Then (DirectivesUse schema o.directives.items) (SetUses schema o.selection_set))

abbrev pub FragmentUses : Schema → Fragment → List Usage → Type 0
FragmentUses schema f = Then (DirectivesUse schema f.directives.items) (SetUses schema f.selection_set)

-- the operations of a document, then its fragments
abbrev pub DocumentUses : Schema → ExecutableDocument → List Usage → Type 0
DocumentUses schema document =
    Then (InTurn (λ o. OperationUses schema o.value.value) (operations_of document)) (InTurn (λ f. FragmentUses schema f.value.value) (values document.fragments))
