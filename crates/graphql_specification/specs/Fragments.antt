-- Fragments and their spreads: when they hold, what a diagnostic says of one, and the limit of spreads in one another. Specification: 5.5
-- Fragments.
use Rattle.std.specs.Prelude.{◌≡◌, ◌⊎◌, Option, None, Some, ⊤, List, ℕ, IsFalse, reverse, ◌+◌, codes}
use Rattle.std.specs.List.{AllZip}
use Rattle.std.specs.Borrow.{Bor}
use Rattle.graphql_nodes.specs.Names.{NameText, SameName, stands_on}
use Rattle.graphql_documents.specs.Schemas.{is_composite, NamesKind, IsPossibleType, type_definition, location_of}
use Rattle.graphql_documents.specs.Selections.{Written, Fragments}
use Rattle.graphql_documents.specs.Paths.{IsCycle, HasNoCycle, HasLongPath}
use Rattle.graphql_specification.specs.Directives.{ApplicationsHold, DirectivesReport}
use Rattle.graphql_nodes.specs.Nodes.{SameNode}
use Rattle.graphql_nodes.specs.Spans.{recompose}
use Rattle.graphql_documents.specs.declared.documents.schemas.Schema.{Schema}
use Rattle.graphql_documents.specs.declared.documents.schemas.ExtendedType.{ExtendedType}
use Rattle.graphql_nodes.specs.declared.nodes.Node.{Node}
use Rattle.graphql_documents.specs.declared.documents.executables.FragmentSpread.{FragmentSpread}
use Rattle.graphql_documents.specs.declared.documents.executables.Fragment.{Fragment}
use Rattle.graphql_documents.specs.declared.documents.definitions.VariableDefinition.{VariableDefinition}
use Rattle.graphql_documents.specs.declared.documents.executables.InlineFragment.{InlineFragment}
use Rattle.graphql_nodes.specs.declared.spans.SourceSpan.{SourceSpan}
use Rattle.graphql_diagnostics.specs.declared.data.DiagnosticData.{DiagnosticData}
use Rattle.graphql_diagnostics.specs.declared.details.Details.{Details}
use Rattle.graphql_documents.specs.declared.documents.executables.Selection.TheVariants as kind
use Rattle.graphql_nodes.specs.declared.directive_locations.DirectiveLocation.TheVariants as allowed_at
use Rattle.graphql_diagnostics.specs.declared.data.DiagnosticData.TheVariants as report
use Rattle.graphql_diagnostics.specs.declared.details.Details.TheVariants as details

-- the name is that of an object, interface or union. Specification: 5.5.1.3 Fragments on Composite Types
abbrev pub NamesComposite : Schema → NameText → Type 0
NamesComposite schema name = NamesKind schema is_composite name

-- an object is a value of both types
abbrev pub HaveCommonObject : Schema → ExtendedType → ExtendedType → Type 0
HaveCommonObject schema a b =
    (name : NameText) × (other : NameText) × IsPossibleType schema a name × IsPossibleType schema b other × SameName name other

-- what is selected on the condition can apply on this type. Specification: 5.5.2.3 Fragment Spread Is
-- Possible
abbrev pub IsPossibleAt : Schema → NameText → Option NameText → Type 0
IsPossibleAt schema condition None = ⊤
IsPossibleAt schema condition (Some parent) =
    (a b : ExtendedType) → type_definition schema condition ≡ Some a → type_definition schema parent ≡ Some b →
    SameName condition parent ⊎ HaveCommonObject schema a b

-- the spread is in the fragment, at any depth
abbrev pub SpreadsBy : Node Fragment → Node FragmentSpread → Type 0
SpreadsBy d p = Written d.value.value.selection_set (kind.FragmentSpread p)

-- the fragment that a spread names
abbrev pub fragment_of : Fragments → Node FragmentSpread → Option (Node Fragment)
fragment_of fragments p = fragments p.value.value.fragment_name

-- the spread names the fragment
abbrev pub SpreadsBack : Node Fragment → Node FragmentSpread → Type 0
SpreadsBack d p = SameName p.value.value.fragment_name d.value.value.name

-- the path of spreads leads from the fragment back to it
abbrev pub IsFragmentCycle : Fragments → Node Fragment → List (Node FragmentSpread) → Type 0
IsFragmentCycle fragments d path = IsCycle SpreadsBy (fragment_of fragments) SpreadsBack d path

-- no path of spreads leads from the fragment back to it. Specification: 5.5.2.2 Fragment Spreads Must
-- Not Form Cycles
abbrev pub FragmentHasNoCycle : Fragments → Node Fragment → Type 0
FragmentHasNoCycle fragments d = HasNoCycle SpreadsBy (fragment_of fragments) SpreadsBack d

-- a path of spreads from the fragment goes through this many fragments, or more, its own counted
abbrev pub HasLongSpreadPath : Fragments → Node Fragment → ℕ → Type 0
HasLongSpreadPath fragments d count =
    HasLongPath SpreadsBy (fragment_of fragments) (λ p. p.value.value.fragment_name) d.value.value.name d count

-- with a schema, the type that the fragment is on is composite
abbrev pub TargetHolds : Option Schema → NameText → Type 0
TargetHolds schema condition = (s : Schema) → schema ≡ Some s → NamesComposite s condition

-- with a schema, what is selected on the condition can apply on the type
abbrev pub IsPossibleIn : Option Schema → NameText → Option NameText → Type 0
IsPossibleIn schema condition parent = (s : Schema) → schema ≡ Some s → IsPossibleAt s condition parent

-- an inline fragment holds on this type
pub record InlineFragmentHolds (schema : Option Schema) (variables : List (Node VariableDefinition)) (parent : Option NameText) (i : InlineFragment) : Type 0 where
  pub directives : ApplicationsHold schema variables allowed_at.InlineFragment i.directives.items
  pub target : (condition : NameText) → i.type_condition ≡ Some condition → TargetHolds schema condition
  pub possible : (condition : NameText) → i.type_condition ≡ Some condition → IsPossibleIn schema condition parent

-- a fragment holds by itself, with the variables of an operation that reaches it
pub record FragmentHolds (schema : Option Schema) (fragments : Fragments) (variables : List (Node VariableDefinition)) (d : Node Fragment) : Type 0 where
  pub directives : ApplicationsHold schema variables allowed_at.FragmentDefinition d.value.value.directives.items
  pub target : TargetHolds schema d.value.value.selection_set.ty
  pub no_cycle : FragmentHasNoCycle fragments d

-- a spread holds on this type: its directives do, and it names a fragment that is possible there, and
-- holds, unless it was visited before
pub record SpreadHolds (schema : Option Schema) (visited_fragments : List NameText) (fragments : Fragments) (variables : List (Node VariableDefinition)) (parent : Option NameText) (p : FragmentSpread) : Type 0 where
  pub directives : ApplicationsHold schema variables allowed_at.FragmentSpread p.directives.items
  pub definition : Node Fragment
  pub defined : fragments p.fragment_name ≡ Some definition
  pub possible : IsPossibleIn schema definition.value.value.selection_set.ty parent
  pub holds : IsFalse (stands_on visited_fragments p.fragment_name) → FragmentHolds schema fragments variables definition

-- the condition of a fragment is no composite type: reported at the fragment
pub record HasInvalidTarget (schema : Option Schema) (condition : NameText) (fragment_at : Option SourceSpan) (ty : NameText) (at : Option SourceSpan) : Type 0 where
  pub against : Schema
  pub has_schema : schema ≡ Some against
  pub not_composite : ¬ NamesComposite against condition
  pub type_is : ty ≡ condition
  pub at_is : at ≡ fragment_at

-- the diagnostic names such a fragment, by this name if it has one
pub data InvalidTargetReport (schema : Option Schema) (name : Option NameText) (condition : NameText) (fragment_at : Option SourceSpan) : DiagnosticData → Option SourceSpan → Type 0 where
  invalid_target : {ty : NameText} {at : Option SourceSpan} → HasInvalidTarget schema condition fragment_at ty at →
      InvalidTargetReport schema name condition fragment_at (report.InvalidFragmentTarget name ty) at

-- what is on the condition cannot apply on the type around: reported at the selection, with the places of
-- the fragment and of the type around
pub record IsImpossible (schema : Option Schema) (condition : NameText) (parent : Option NameText) (fragment_at selection_at : Option SourceSpan) (type_condition type_name : NameText) (fragment_location type_location at : Option SourceSpan) : Type 0 where
  pub against : Schema
  pub ty : NameText
  pub definition : ExtendedType
  pub has_schema : schema ≡ Some against
  pub parent_is : parent ≡ Some ty
  pub impossible : ¬ IsPossibleAt against condition (Some ty)
  pub defined : type_definition against ty ≡ Some definition
  pub type_condition_is : type_condition ≡ condition
  pub type_name_is : type_name ≡ ty
  pub fragment_location_is : fragment_location ≡ fragment_at
  pub type_location_is : type_location ≡ location_of definition
  pub at_is : at ≡ selection_at

-- the diagnostic names such a fragment, by the name by which it is spread if it is
pub data ImpossibleReport (schema : Option Schema) (name : Option NameText) (condition : NameText) (parent : Option NameText) (fragment_at selection_at : Option SourceSpan) : DiagnosticData → Option SourceSpan → Type 0 where
  impossible_use : {type_condition type_name : NameText} {fragment_location type_location at : Option SourceSpan} →
      IsImpossible schema condition parent fragment_at selection_at type_condition type_name fragment_location type_location at →
      ImpossibleReport schema name condition parent fragment_at selection_at (report.InvalidFragmentSpread name type_condition type_name fragment_location type_location) at

-- the diagnostic names what is wrong with an inline fragment, its directives apart
abbrev pub InlineFragmentConditionReport : Option Schema → Option NameText → Node InlineFragment → DiagnosticData → Option SourceSpan → Type 0
InlineFragmentConditionReport schema parent i (report.InvalidFragmentTarget name ty) at =
    (condition : NameText) × (i.value.value.type_condition ≡ Some condition) × (name ≡ None) ×
    HasInvalidTarget schema condition i.location ty at
InlineFragmentConditionReport schema parent i (report.InvalidFragmentSpread name type_condition type_name fragment_location type_location) at =
    (condition : NameText) × (i.value.value.type_condition ≡ Some condition) × (name ≡ None) ×
    IsImpossible schema condition parent i.location i.location type_condition type_name fragment_location type_location at
InlineFragmentConditionReport schema parent i _ at = ⊥

-- the diagnostic names what is wrong with an inline fragment, the selections in it apart
pub data InlineFragmentReport (schema : Option Schema) (variables : List (Node VariableDefinition)) (parent : Option NameText) (i : Node InlineFragment) : DiagnosticData → Option SourceSpan → Type 0 where
  by_inline_directives : {r : DiagnosticData} {at : Option SourceSpan} →
      DirectivesReport schema variables allowed_at.InlineFragment i.value.value.directives.items r at → InlineFragmentReport schema variables parent i r at
  by_condition : {r : DiagnosticData} {at : Option SourceSpan} →
      InlineFragmentConditionReport schema parent i r at → InlineFragmentReport schema variables parent i r at

-- a spread names no fragment: reported at the spread
pub record IsUndefinedSpread (fragments : Fragments) (p : Node FragmentSpread) (name : NameText) (at : Option SourceSpan) : Type 0 where
  pub undefined : fragments p.value.value.fragment_name ≡ None
  pub name_is : name ≡ p.value.value.fragment_name
  pub at_is : at ≡ p.location

-- a fragment spreads itself: reported at the fragment, with the cycle, last spread first
pub record SpreadsItself (fragments : Fragments) (d : Node Fragment) (name : NameText) (head : Option SourceSpan) (trace : List (Node FragmentSpread)) (at : Option SourceSpan) : Type 0 where
  pub path : List (Node FragmentSpread)
  pub is_cycle : IsFragmentCycle fragments d path
  pub trace_is : AllZip SameNode (reverse path) trace
  pub name_is : name ≡ d.value.value.name
  pub head_is : head ≡ recompose d.location d.value.value.name.location
  pub at_is : at ≡ d.location

-- the diagnostic names what is wrong with a fragment by itself, its directives apart
abbrev pub FragmentFormReport : Option Schema → Fragments → Node Fragment → DiagnosticData → Option SourceSpan → Type 0
FragmentFormReport schema fragments d (report.InvalidFragmentTarget name ty) at =
    (name ≡ Some d.value.value.name) × HasInvalidTarget schema d.value.value.selection_set.ty d.location ty at
FragmentFormReport schema fragments d (report.RecursiveFragmentDefinition name head trace) at =
    SpreadsItself fragments d name head trace.items at
FragmentFormReport schema fragments d _ at = ⊥

-- the diagnostic names what is wrong with a fragment by itself
pub data FragmentReport (schema : Option Schema) (fragments : Fragments) (variables : List (Node VariableDefinition)) (d : Node Fragment) : DiagnosticData → Option SourceSpan → Type 0 where
  by_fragment_directives : {r : DiagnosticData} {at : Option SourceSpan} →
      DirectivesReport schema variables allowed_at.FragmentDefinition d.value.value.directives.items r at → FragmentReport schema fragments variables d r at
  by_fragment : {r : DiagnosticData} {at : Option SourceSpan} →
      FragmentFormReport schema fragments d r at → FragmentReport schema fragments variables d r at

-- the diagnostic names what is wrong with a spread, its directives and its fragment apart
abbrev pub SpreadTargetReport : Option Schema → Fragments → Option NameText → Node FragmentSpread → DiagnosticData → Option SourceSpan → Type 0
SpreadTargetReport schema fragments parent p (report.UndefinedFragment name) at = IsUndefinedSpread fragments p name at
SpreadTargetReport schema fragments parent p (report.InvalidFragmentSpread name type_condition type_name fragment_location type_location) at =
    (d : Node Fragment) × (fragments p.value.value.fragment_name ≡ Some d) × (name ≡ Some p.value.value.fragment_name) ×
    IsImpossible schema d.value.value.selection_set.ty parent d.location p.location type_condition type_name fragment_location type_location at
SpreadTargetReport schema fragments parent p _ at = ⊥

-- the diagnostic names what is wrong with a spread, its fragment apart
pub data SpreadReport (schema : Option Schema) (fragments : Fragments) (variables : List (Node VariableDefinition)) (parent : Option NameText) (p : Node FragmentSpread) : DiagnosticData → Option SourceSpan → Type 0 where
  by_spread_directives : {r : DiagnosticData} {at : Option SourceSpan} →
      DirectivesReport schema variables allowed_at.FragmentSpread p.value.value.directives.items r at → SpreadReport schema fragments variables parent p r at
  by_spread : {r : DiagnosticData} {at : Option SourceSpan} →
      SpreadTargetReport schema fragments parent p r at → SpreadReport schema fragments variables parent p r at

-- how many names a path of fragments, of input objects or of directives and of types may have
abbrev pub fragment_depth_limit : ℕ
fragment_depth_limit = 100

-- a diagnostic that a definition nests too deep is true of a fragment: reported at its head
pub record FragmentNestsTooDeep (fragments : Fragments) (d : Node Fragment) (name : NameText) (describe : List ℕ) (at : Option SourceSpan) : Type 0 where
  pub long : HasLongSpreadPath fragments d (fragment_depth_limit + 1)
  pub name_is : name ≡ d.value.value.name
  pub describe_is : describe ≡ codes "fragment"
  pub at_is : at ≡ recompose d.location d.value.value.name.location

-- a diagnostic of a limit is true of a fragment: it nests too deep
pub data FragmentLimit (fragments : Fragments) (d : Node Fragment) : Details → Option SourceSpan → Type 0 where
  spreads_nest : {name : NameText} {describe : Bor (List ℕ)} {at : Option SourceSpan} →
      FragmentNestsTooDeep fragments d name describe.now at →
      FragmentLimit fragments d (details.Diagnostic (report.DeeplyNestedType name describe)) at

-- the same of a fragment that a name finds
pub record SpreadLimit (fragments : Fragments) (said : Details) (at : Option SourceSpan) : Type 0 where
  pub name : NameText
  pub d : Node Fragment
  pub found : fragments name ≡ Some d
  pub passes : FragmentLimit fragments d said at
