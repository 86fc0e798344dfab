-- Which changes break documents that were valid. Specification: 5 Validation.
use Rattle.std.specs.Prelude.{◌&&◌, Bool, true, false, IsFalse, IsTrue, not}
use Rattle.graphql_documents.specs.TypeReferences.{is_assignable}
use Rattle.graphql_schema_parts.specs.Locations.{is_in_documents}
use Rattle.graphql_change_kinds.specs.declared.changes.Change.{Change}
use Rattle.graphql_change_kinds.specs.declared.changes.Change.TheVariants as change
use Rattle.graphql_change_kinds.specs.declared.changes.Gain.{Gain}
use Rattle.graphql_change_kinds.specs.declared.changes.Gain.TheVariants as gain
use Rattle.graphql_change_kinds.specs.declared.changes.InputCoordinate.{InputCoordinate}
use Rattle.graphql_change_kinds.specs.declared.changes.InputCoordinate.TheVariants as input
use Rattle.graphql_change_kinds.specs.declared.changes.SchemaChange.{SchemaChange}
use Rattle.graphql_change_kinds.specs.declared.changes.TypeEffect.{TypeEffect}
use Rattle.graphql_change_kinds.specs.declared.changes.TypeEffect.TheVariants as effect
use Rattle.graphql_change_kinds.specs.declared.changes.TypeKind.{TypeKind}
use Rattle.graphql_change_kinds.specs.declared.changes.TypeKind.TheVariants as kind
use Rattle.graphql_change_kinds.specs.declared.levels.BreakingReason.TheVariants as reason
use Rattle.graphql_change_kinds.specs.declared.levels.Level.{Level}
use Rattle.graphql_change_kinds.specs.declared.levels.Level.TheVariants as level

-- ==== changes

-- documents can give a value for the argument or input field
abbrev pub is_given : InputCoordinate → Bool
is_given (input.SchemaDirectiveArgument coordinate) = false
is_given _ = true

-- a type of the second kind can be in the place of one of the first: a composite type in that of a union or an interface, a custom
-- scalar in that of each input type, and each kind in its own. Specification: 3.4 Types
abbrev pub can_become : TypeKind → TypeKind → Bool
can_become kind.Object kind.Object = true
can_become kind.Interface kind.Object = true
can_become kind.Interface kind.Interface = true
can_become kind.Interface kind.Union = true
can_become kind.Union kind.Object = true
can_become kind.Union kind.Interface = true
can_become kind.Union kind.Union = true
can_become kind.BuiltInScalar kind.BuiltInScalar = true
can_become kind.BuiltInScalar kind.CustomScalar = true
can_become kind.CustomScalar kind.CustomScalar = true
can_become kind.Enum kind.Enum = true
can_become kind.Enum kind.CustomScalar = true
can_become kind.InputObject kind.InputObject = true
can_become kind.InputObject kind.CustomScalar = true
can_become _ _ = false

-- below the field is another type, or nothing any longer, or something for the first time; or, among all documents, it meets a
-- field of another shape. Specification: 5.3.2 Field Selection Merging, 5.3.3 Leaf Field Selections
abbrev pub breaks_selections : Bool → TypeEffect → Bool
breaks_selections merging effect.OtherSelections = true
breaks_selections merging (effect.MeetsOther other) = merging
breaks_selections merging _ = false

-- a subscription may have a second root field. Specification: 5.2.3.1 Single Root Field
abbrev pub breaks_subscriptions : Gain → Bool
breaks_subscriptions gain.SubscriptionRoot = true
breaks_subscriptions _ = false

-- the change breaks documents: with merging, some of all that were valid; without it, some of those in which no two fields come
-- together in a response
abbrev pub breaks : Bool → Change → Bool
breaks merging (change.RootRemoved operation) = true
breaks merging (change.RootChanged operation from to) = true
breaks merging (change.TypeRemoved ty) = true
breaks merging (change.KindChanged ty from to) = not (can_become from to)
breaks merging (change.FieldRemoved field) = true
breaks merging (change.FieldTypeChanged field from to effect) = breaks_selections merging effect
breaks merging (change.InputAdded input is_required) = is_given input && is_required
breaks merging (change.InputRemoved input) = is_given input
breaks merging (change.InputTypeChanged input from to) = is_given input && not (is_assignable from to)
breaks merging (change.DefaultRemoved input is_required) = is_required && is_given input
breaks merging (change.EnumValueRemoved value) = true
breaks merging (change.MemberAdded ty member gain) = breaks_subscriptions gain
breaks merging (change.MemberRemoved ty member) = true
breaks merging (change.InterfaceAdded ty interface gain) = breaks_subscriptions gain
breaks merging (change.InterfaceRemoved ty interface is_lost) = is_lost
breaks merging (change.DirectiveRemoved directive is_executable) = is_executable
breaks merging (change.LocationRemoved directive place) = is_in_documents place
breaks merging (change.RepeatableRemoved directive is_executable) = is_executable
breaks merging _ = false

-- a change of an argument or an input field
abbrev pub is_input_change : Change → Bool
is_input_change (change.InputAdded input is_required) = true
is_input_change (change.InputRemoved input) = true
is_input_change (change.InputTypeChanged input from to) = true
is_input_change (change.DefaultAdded input) = true
is_input_change (change.DefaultRemoved input is_required) = true
is_input_change (change.DefaultChanged input) = true
is_input_change _ = false

-- the level is that of such a change
abbrev pub is_breaking : Bool → Level → Bool
is_breaking merging (level.Breaking reason.Documents) = true
is_breaking merging (level.Breaking reason.Merging) = merging
is_breaking merging _ = false

-- ==== lists of changes

abbrev pub Breaks : Bool → SchemaChange → Type 0
Breaks merging found = IsTrue (breaks merging found.change)

abbrev pub IsHarmless : Bool → SchemaChange → Type 0
IsHarmless merging found = IsFalse (breaks merging found.change)
