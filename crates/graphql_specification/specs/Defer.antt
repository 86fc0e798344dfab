-- Where `@defer` may be, and what a diagnostic says where it may not. Specification: the incremental delivery proposal, Defer And Stream Directives
-- Are Used On Valid Root Field, In Valid Operations, and Directive Labels Are Unique.
use Rattle.std.specs.Prelude.{List, codes, [], ◌∷◌, ◌++◌, ◌≡◌, flat_map, ◌≢◌, Some, String, string_bytes, All, AllPairs, Contains, IsFalse, ◌⊎◌, false, IsTrue, IsSomeAnd, ℕ, suc, Bool, true, Option, None}
use Rattle.std.specs.List.{AllZip}
use Rattle.std.specs.declared.alloc.Global.{Global}
use Rattle.graphql_documents.specs.Selections.{selections_of, Fragments, InExpandedSet, directives_of, fragments_of, can_be_excluded}
use Rattle.graphql_nodes.specs.Names.{NameText}
use Rattle.graphql_documents.specs.Executables.{sets_of, operations_of}
use Rattle.graphql_documents.specs.Directives.{argument_value, applications_of, is_literally}
use Rattle.graphql_documents.specs.Walks.{PassesDepth, open_walk, root_walk, walk_depth_limit, written_walk}
use Rattle.graphql_nodes.specs.declared.nodes.Node.{Node}
use Rattle.graphql_documents.specs.declared.documents.directives.Directive.{Directive}
use Rattle.graphql_documents.specs.declared.documents.executables.Selection.{Selection}
use Rattle.graphql_documents.specs.declared.documents.executables.Field.{Field}
use Rattle.graphql_documents.specs.declared.documents.executables.InlineFragment.{InlineFragment}
use Rattle.graphql_documents.specs.declared.documents.executables.FragmentSpread.{FragmentSpread}
use Rattle.graphql_documents.specs.declared.documents.executables.ExecutableDocument.{ExecutableDocument}
use Rattle.graphql_documents.specs.declared.documents.values.Value.{Value}
use Rattle.graphql_documents.specs.declared.documents.executables.SelectionSet.{SelectionSet}
use Rattle.graphql_documents.specs.declared.documents.executables.Fragment.{Fragment}
use Rattle.graphql_nodes.specs.declared.operation_types.OperationType.TheVariants.{Query, Subscription}
use Rattle.graphql_documents.specs.declared.documents.executables.Operation.{Operation}
use Rattle.graphql_nodes.specs.declared.spans.SourceSpan.{SourceSpan}
use Rattle.graphql_nodes.specs.declared.operation_types.OperationType.{OperationType}
use Rattle.graphql_diagnostics.specs.declared.build_errors.BuildError.{BuildError}
use Rattle.graphql_diagnostics.specs.declared.details.Details.{Details}
use Rattle.graphql_documents.specs.declared.documents.executables.Selection.TheVariants as kind
use Rattle.graphql_documents.specs.declared.documents.values.Value.TheVariants as literal
use Rattle.graphql_nodes.specs.declared.operation_types.OperationType.TheVariants as operation
use Rattle.graphql_diagnostics.specs.declared.build_errors.BuildError.TheVariants as build
use Rattle.graphql_diagnostics.specs.declared.details.Details.TheVariants as details
use Rattle.graphql_diagnostics.specs.declared.data.DiagnosticData.TheVariants as report

-- the `@defer` applications among these directives
abbrev pub defers : List (Node Directive) → List (Node Directive)
defers directives = applications_of (codes "defer") directives

-- these `@defer` applications are on the selections and on those written below them, in order
pub data DefersOn : List Selection → List (Node Directive) → Type 0 where
  defers_on_none : DefersOn [] []
  defers_on_field : (f : Node Field) {rest : List Selection} {below after : List (Node Directive)} →
      DefersOn (selections_of f.value.value.selection_set) below → DefersOn rest after →
      DefersOn (kind.Field f ∷ rest) (defers f.value.value.directives.items ++ (below ++ after))
  defers_on_inline_fragment : (i : Node InlineFragment) {rest : List Selection} {below after : List (Node Directive)} →
      DefersOn (selections_of i.value.value.selection_set) below → DefersOn rest after →
      DefersOn (kind.InlineFragment i ∷ rest) (defers i.value.value.directives.items ++ (below ++ after))
  defers_on_spread : (p : Node FragmentSpread) {rest : List Selection} {after : List (Node Directive)} →
      DefersOn rest after →
      DefersOn (kind.FragmentSpread p ∷ rest) (defers p.value.value.directives.items ++ after)

-- these `@defer` applications are in the document, in order
abbrev pub DefersIn : ExecutableDocument → List (Node Directive) → Type 0
DefersIn document applications =
    (parts : List (List (Node Directive))) × AllZip (λ set part. DefersOn (selections_of set) part) (sets_of document) parts ×
    (applications ≡ flat_map (λ part. part) parts)

-- two `@defer` applications do not have one text as their label
abbrev pub HaveDifferentLabels : Node Directive → Node Directive → Type 0
HaveDifferentLabels a b =
    (x y : Node Value) (s t : String Global) →
    argument_value (codes "label") a.value.value ≡ Some x → argument_value (codes "label") b.value.value ≡ Some y →
    x.value.value ≡ literal.String s → y.value.value ≡ literal.String t →
    string_bytes s ≢ string_bytes t

-- the label is no variable
abbrev pub HasFixedLabel : Node Directive → Type 0
HasFixedLabel d =
    (value : Node Value) (name : NameText) → argument_value (codes "label") d.value.value ≡ Some value →
    value.value.value ≢ literal.Variable name

-- the labels of a document are texts and differ
abbrev pub LabelsHold : ExecutableDocument → Type 0
LabelsHold document =
    (applications : List (Node Directive)) → DefersIn document applications →
    AllPairs HaveDifferentLabels applications × All HasFixedLabel applications

-- the selection is answered whatever its conditions are: neither it nor one above it can be left out
pub data Open (fragments : Fragments) : SelectionSet → Selection → Type 0 where
  open_here : {set : SelectionSet} {s : Selection} →
      Contains (selections_of set) s → IsFalse (can_be_excluded s) → Open fragments set s
  open_in_field : {set : SelectionSet} {s : Selection} {f : Node Field} →
      Contains (selections_of set) (kind.Field f) → IsFalse (can_be_excluded (kind.Field f)) →
      Open fragments f.value.value.selection_set s → Open fragments set s
  open_in_inline_fragment : {set : SelectionSet} {s : Selection} {i : Node InlineFragment} →
      Contains (selections_of set) (kind.InlineFragment i) → IsFalse (can_be_excluded (kind.InlineFragment i)) →
      Open fragments i.value.value.selection_set s → Open fragments set s
  open_in_spread : {set : SelectionSet} {s : Selection} {p : Node FragmentSpread} {d : Node Fragment} →
      Contains (selections_of set) (kind.FragmentSpread p) → IsFalse (can_be_excluded (kind.FragmentSpread p)) →
      fragments p.value.value.fragment_name ≡ Some d →
      Open fragments d.value.value.selection_set s → Open fragments set s

-- the argument `if` is `false` or a variable
abbrev pub CanBeDisabled : Node Directive → Type 0
CanBeDisabled d =
    IsTrue (is_literally false d.value.value) ⊎
    IsSomeAnd (argument_value (codes "if") d.value.value) (λ value. (name : NameText) × (value.value.value ≡ literal.Variable name))

-- no inline fragment or spread at the root has `@defer`
abbrev pub HasNoDeferAtRoot : Fragments → SelectionSet → Type 0
HasNoDeferAtRoot fragments set =
    ((i : Node InlineFragment) → InExpandedSet fragments set (kind.InlineFragment i) → defers i.value.value.directives.items ≡ []) ×
    ((p : Node FragmentSpread) → InExpandedSet fragments set (kind.FragmentSpread p) → defers p.value.value.directives.items ≡ [])

-- each `@defer` on such a selection can be disabled
abbrev pub DefersCanBeDisabled : Fragments → SelectionSet → Type 0
DefersCanBeDisabled fragments set =
    (s : Selection) → Open fragments set s → All CanBeDisabled (defers (directives_of s))

-- `@defer` in an operation holds: not at the root of a mutation or subscription, and in a
-- subscription only where it can be disabled
pub record OperationDeferHolds (fragments : Fragments) (operation : Operation) : Type 0 where
  pub root : operation.operation_type ≢ Query → HasNoDeferAtRoot fragments operation.selection_set
  pub conditions : operation.operation_type ≡ Subscription → DefersCanBeDisabled fragments operation.selection_set

-- `@defer` in a document holds
pub record DeferHolds (document : ExecutableDocument) : Type 0 where
  pub labels : LabelsHold document
  pub operations : All (λ o. OperationDeferHolds (fragments_of document) o.value.value) (operations_of document)

-- these `@defer` applications are visited by a walk over what is written on the selections and below them, in order,
-- which may go into so many sets, one in another, that of the selections counted; and whether it comes to its
-- end. Where it would go into a further set it stops
pub data DefersVisited : ℕ → List Selection → List (Node Directive) → Bool → Type 0 where
  visited_no_further : {selections : List Selection} → DefersVisited 0 selections [] false
  visited_on_none : {room : ℕ} → DefersVisited (suc room) [] [] true
  visited_on_field : (f : Node Field) {room : ℕ} {rest : List Selection} {below after : List (Node Directive)} {complete : Bool} →
      DefersVisited room (selections_of f.value.value.selection_set) below true → DefersVisited (suc room) rest after complete →
      DefersVisited (suc room) (kind.Field f ∷ rest) (defers f.value.value.directives.items ++ (below ++ after)) complete
  visited_until_in_field : (f : Node Field) {room : ℕ} {rest : List Selection} {below : List (Node Directive)} →
      DefersVisited room (selections_of f.value.value.selection_set) below false →
      DefersVisited (suc room) (kind.Field f ∷ rest) (defers f.value.value.directives.items ++ below) false
  visited_on_inline_fragment : (i : Node InlineFragment) {room : ℕ} {rest : List Selection} {below after : List (Node Directive)} {complete : Bool} →
      DefersVisited room (selections_of i.value.value.selection_set) below true → DefersVisited (suc room) rest after complete →
      DefersVisited (suc room) (kind.InlineFragment i ∷ rest) (defers i.value.value.directives.items ++ (below ++ after)) complete
  visited_until_in_inline_fragment : (i : Node InlineFragment) {room : ℕ} {rest : List Selection} {below : List (Node Directive)} →
      DefersVisited room (selections_of i.value.value.selection_set) below false →
      DefersVisited (suc room) (kind.InlineFragment i ∷ rest) (defers i.value.value.directives.items ++ below) false
  visited_on_spread : (p : Node FragmentSpread) {room : ℕ} {rest : List Selection} {after : List (Node Directive)} {complete : Bool} →
      DefersVisited (suc room) rest after complete →
      DefersVisited (suc room) (kind.FragmentSpread p ∷ rest) (defers p.value.value.directives.items ++ after) complete

-- these are visited in the document, in order: in each of its sets, by a walk that goes as deep below the set as walks go
abbrev pub DefersVisitedIn : ExecutableDocument → List (Node Directive) → Type 0
DefersVisitedIn document visited =
    (parts : List (List (Node Directive))) ×
    AllZip (λ set part. (complete : Bool) × DefersVisited (suc walk_depth_limit) (selections_of set) part complete) (sets_of document) parts ×
    (visited ≡ flat_map (λ part. part) parts)

-- a set of the document is too deep for the walk that seeks labels
abbrev pub LabelsStandTooDeep : ExecutableDocument → Type 0
LabelsStandTooDeep document =
    (set : SelectionSet) × Contains (sets_of document) set × PassesDepth (fragments_of document) written_walk set

-- the label of a `@defer` is a variable: reported at its value
pub record HasVariableLabel (document : ExecutableDocument) (at : Option SourceSpan) : Type 0 where
  pub applications : List (Node Directive)
  pub d : Node Directive
  pub value : Node Value
  pub name : NameText
  pub are_all : DefersIn document applications
  pub is_one : Contains applications d
  pub labelled : argument_value (codes "label") d.value.value ≡ Some value
  pub is_variable : value.value.value ≡ literal.Variable name
  pub at_is : at ≡ value.location

-- the text of the label of a `@defer`, and where it is
pub record HasLabel (d : Node Directive) (text : List ℕ) (location : Option SourceSpan) : Type 0 where
  pub value : Node Value
  pub label : String Global
  pub labelled : argument_value (codes "label") d.value.value ≡ Some value
  pub is_text : value.value.value ≡ literal.String label
  pub text_is : text ≡ string_bytes label
  pub location_is : location ≡ value.location

-- a `@defer` has the label of an earlier one, among those that the walks over what is written meet within their
-- limit: reported at the later label's value, with the place of the first of these that has it
pub record RepeatsLabel (document : ExecutableDocument) (text : List ℕ) (original at : Option SourceSpan) : Type 0 where
  pub before : List (Node Directive)
  pub first : Node Directive
  pub between : List (Node Directive)
  pub again : Node Directive
  pub after : List (Node Directive)
  pub are_visited : DefersVisitedIn document (before ++ first ∷ (between ++ again ∷ after))
  pub none_before : (d : Node Directive) (location : Option SourceSpan) → Contains before d → ¬ HasLabel d text location
  pub first_has_it : HasLabel first text original
  pub again_has_it : HasLabel again text at

-- a `@defer` is at the root of a mutation or subscription: reported at the directive
pub record HasDeferAtRoot (fragments : Fragments) (o : Operation) (operation_type : OperationType) (at : Option SourceSpan) : Type 0 where
  pub s : Selection
  pub d : Node Directive
  pub not_query : o.operation_type ≢ operation.Query
  pub inside : InExpandedSet fragments o.selection_set s
  pub no_field : (f : Node Field) → s ≢ kind.Field f
  pub deferred : Contains (defers (directives_of s)) d
  pub type_is : operation_type ≡ o.operation_type
  pub at_is : at ≡ d.location

-- a `@defer` in a subscription cannot be disabled: reported at the directive
pub record HasFixedDefer (fragments : Fragments) (o : Operation) (at : Option SourceSpan) : Type 0 where
  pub s : Selection
  pub d : Node Directive
  pub is_subscription : o.operation_type ≡ operation.Subscription
  pub is_open : Open fragments o.selection_set s
  pub deferred : Contains (defers (directives_of s)) d
  pub fixed : ¬ CanBeDisabled d
  pub at_is : at ≡ d.location

-- the diagnostic names a rule of `@defer` that a document breaks
abbrev pub DeferErrorReport : ExecutableDocument → BuildError → Option SourceSpan → Type 0
DeferErrorReport document build.DeferLabelMustNotBeVariable at = HasVariableLabel document at
DeferErrorReport document (build.DuplicateDeferLabel label original) at = RepeatsLabel document (string_bytes label) original at
DeferErrorReport document (build.DeferOnRootMutationOrSubscriptionField operation_type) at =
    (o : Node Operation) × Contains (operations_of document) o × HasDeferAtRoot (fragments_of document) o.value.value operation_type at
DeferErrorReport document build.DeferInSubscriptionMustBeConditional at =
    (o : Node Operation) × Contains (operations_of document) o × HasFixedDefer (fragments_of document) o.value.value at
DeferErrorReport document _ at = ⊥

-- the same of an entry of a list of diagnostics
pub data DeferReport (document : ExecutableDocument) : Details → Option SourceSpan → Type 0 where
  of_defer : {e : BuildError} {at : Option SourceSpan} →
      DeferErrorReport document e at → DeferReport document (details.Build e) at

-- a diagnostic of a limit is true of a walk that seeks `@defer`: for labels, at the root of a mutation or
-- subscription, or for conditions in a subscription; reported without a place
pub data DeferLimit (document : ExecutableDocument) : Details → Option SourceSpan → Type 0 where
  label_walk_passes : LabelsStandTooDeep document → DeferLimit document (details.Diagnostic report.RecursionError) None
  defer_root_walk_passes : {o : Node Operation} →
      Contains (operations_of document) o → o.value.value.operation_type ≢ operation.Query →
      PassesDepth (fragments_of document) root_walk o.value.value.selection_set →
      DeferLimit document (details.Diagnostic report.RecursionError) None
  condition_walk_passes : {o : Node Operation} →
      Contains (operations_of document) o → o.value.value.operation_type ≡ operation.Subscription →
      PassesDepth (fragments_of document) open_walk o.value.value.selection_set →
      DeferLimit document (details.Diagnostic report.RecursionError) None
