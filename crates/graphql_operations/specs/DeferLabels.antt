-- The steps of the check of the labels of `@defer`, for the contracts of its private functions.
use Rattle.std.specs.Prelude.{◌≡◌, ◌⊎◌, ◌+◌, ◌<◌, ◌≤◌, ℕ, suc, Bool, false, List, [], ◌∷◌, ◌++◌, Option, All, AllPairs, Contains, IsFalse, IsTrue, Result, MatchResult, codes, find, option_map, string_bytes}
use Rattle.std.specs.Borrow.{Bor}
use Rattle.std.specs.Option.{option_and_then, option_map_or}
use Rattle.std.specs.Str.{bytes_eq}
use Rattle.indexmap.specs.IndexMap.{IndexMap, get_by}
use Rattle.graphql_specification.specs.Defer.{DefersIn, DefersOn, HasFixedLabel, HaveDifferentLabels, defers, DeferReport, DeferLimit, DefersVisited, DefersVisitedIn}
use Rattle.graphql_documents.specs.Directives.{argument_value}
use Rattle.graphql_documents.specs.Executables.{sets_of}
use Rattle.graphql_diagnostics.specs.Diagnostics.{IsLimitEntry, entries}
use Rattle.graphql_diagnostics.specs.Reports.{KeepsReports, ReportsWithin}
use Rattle.graphql_documents.specs.Selections.{Fragments, Written, directives_of, selections_of}
use Rattle.graphql_documents.specs.Walks.{Descent, PassesDepth, walk_depth_limit, written_walk}
use Rattle.graphql_diagnostics.specs.declared.lists.DiagnosticEntry.{DiagnosticEntry}
use Rattle.graphql_diagnostics.specs.declared.lists.DiagnosticList.{DiagnosticList}
use Rattle.graphql_documents.specs.declared.documents.directives.Directive.{Directive}
use Rattle.graphql_documents.specs.declared.documents.executables.ExecutableDocument.{ExecutableDocument}
use Rattle.graphql_documents.specs.declared.documents.executables.Selection.{Selection}
use Rattle.graphql_documents.specs.declared.documents.executables.SelectionSet.{SelectionSet}
use Rattle.graphql_nodes.specs.declared.nodes.Node.{Node}
use Rattle.graphql_nodes.specs.declared.spans.SourceSpan.{SourceSpan}
use Rattle.graphql_documents.specs.declared.documents.values.Value.{Value}
use Rattle.graphql_documents.specs.declared.documents.values.Value.TheVariants as literal

-- a descent from a set with these selections goes beyond the limit of a walk over what is written, which is so deep
abbrev pub GoesBeyond : ℕ → ℕ → List Selection → Type 0
GoesBeyond limit depth selections =
    (fragments : Fragments) (set : SelectionSet) → ((s : Selection) → Contains selections s → Contains (selections_of set) s) →
    (steps : ℕ) × Descent fragments written_walk set steps [] × (limit < steps + depth)

-- behind those that it had visited, a walk that is so deep has visited these `@defer` applications; with those that it missed they are all that are
-- on the selections and below them. It missed some only where it did not come to its end. They are those within its limit, where it has room for so
-- many sets at least
pub record MeetsDefers (limit depth least : ℕ) (selections : List Selection) (old new : List (Node Directive)) (complete : Bool) : Type 0 where
  pub visited : List (Node Directive)
  pub missed : List (Node Directive)
  pub appended : new ≡ old ++ visited
  pub order : DefersOn selections (visited ++ missed)
  pub all : IsTrue complete → missed ≡ []
  pub bound : IsFalse complete → GoesBeyond limit depth selections
  pub within : (room : ℕ) → least ≤ room → depth + room ≡ limit + 1 → DefersVisited room selections visited complete

-- a whole walk over a set has visited these
pub record HasVisitedDefers (set : SelectionSet) (visited : List (Node Directive)) (complete : Bool) : Type 0 where
  pub missed : List (Node Directive)
  pub order : DefersOn (selections_of set) (visited ++ missed)
  pub all : IsTrue complete → missed ≡ []
  pub bound : IsFalse complete → (fragments : Fragments) → PassesDepth fragments written_walk set
  pub within : DefersVisited (suc walk_depth_limit) (selections_of set) visited complete

-- a `@defer` is written in the document: on a selection that is in one of its sets, at any depth, spreads not followed
pub record IsWrittenDefer (document : ExecutableDocument) (d : Node Directive) : Type 0 where
  pub set : SelectionSet
  pub s : Selection
  pub of_document : Contains (sets_of document) set
  pub written : Written set s
  pub deferred : Contains (defers (directives_of s)) d

-- the value is this text
abbrev pub is_text : List ℕ → Value → Bool
is_text text (literal.String s) = bytes_eq (string_bytes s) text
is_text text _ = false

-- the label of a `@defer`
abbrev pub label_of : Node Directive → Option (Node Value)
label_of d = argument_value (codes "label") d.value.value

-- the label is this text
abbrev pub has_text : List ℕ → Node Directive → Bool
has_text text d = option_map_or (λ value. is_text text value.value.value) (label_of d) false

-- where the label is
abbrev pub label_place : Node Directive → Option SourceSpan
label_place d = option_and_then (λ value. value.location) (label_of d)

-- where the first of these with this label has it
abbrev pub first_place_in : List (Node Directive) → List ℕ → Option (Option SourceSpan)
first_place_in visited text = option_map label_place (find (has_text text) visited)

-- the map has for each text the place of the first label
pub record RemembersLabels {S : Type 0} (labels : IndexMap (Bor (List ℕ)) (Option SourceSpan) S) (visited : List (Node Directive)) : Type 0 where
  pub look_up : (text : List ℕ) → get_by (λ k. bytes_eq text k.now) labels ≡ first_place_in visited text

-- the labels of these are texts and differ
abbrev pub LabelsHoldAmong : List (Node Directive) → Type 0
LabelsHoldAmong applications = AllPairs HaveDifferentLabels applications × All HasFixedLabel applications

-- an entry is a diagnostic of `@defer`, or one of a limit
abbrev pub DeferEntryReport : ExecutableDocument → DiagnosticEntry → Type 0
DeferEntryReport document e = DeferReport document e.details e.location ⊎ DeferLimit document e.details e.location

-- the check of labels has passed these applications, the first of the document, and has visited those: all of them,
-- or it has reported that a walk passes its limit. It remembers the labels that it has visited, and has reported what
-- is wrong with them
pub record LabelsSoFar {S : Type 0} (document : ExecutableDocument) (passed visited : List (Node Directive)) (labels : IndexMap (Bor (List ℕ)) (Option SourceSpan) S) (old new : List DiagnosticEntry) : Type 0 where
  pub remembered : RemembersLabels labels visited
  pub reported : ReportsWithin IsLimitEntry (LabelsHoldAmong visited) (DeferEntryReport document) old new
  pub whole : (added : List DiagnosticEntry) → new ≡ old ++ added → All (λ e. ¬ IsLimitEntry e) added → visited ≡ passed

-- a call that checks the labels of further applications, which are in the document behind those that were passed, of which walks meet these
abbrev pub PassesLabelsIn : {S T E : Type 0} → Result T E → ExecutableDocument → List (Node Directive) → List (Node Directive) → IndexMap (Bor (List ℕ)) (Option SourceSpan) S → IndexMap (Bor (List ℕ)) (Option SourceSpan) S → DiagnosticList → DiagnosticList → Type 0
PassesLabelsIn result document applications found labels labels' old new =
    (passed after visited later : List (Node Directive)) (first : List DiagnosticEntry) →
    DefersIn document (passed ++ (applications ++ after)) → DefersVisitedIn document (visited ++ (found ++ later)) →
    LabelsSoFar document passed visited labels first (entries old) →
    MatchResult result
    (λ _. LabelsSoFar document (passed ++ applications) (visited ++ found) labels' first (entries new))
    (λ _. KeepsReports (DeferEntryReport document) first (entries new))

-- the same of applications that walks meet, whatever the document is
abbrev pub PassesLabels : {S T E : Type 0} → Result T E → List (Node Directive) → IndexMap (Bor (List ℕ)) (Option SourceSpan) S → IndexMap (Bor (List ℕ)) (Option SourceSpan) S → DiagnosticList → DiagnosticList → Type 0
PassesLabels result applications labels labels' old new =
    (document : ExecutableDocument) → PassesLabelsIn result document applications applications labels labels' old new
