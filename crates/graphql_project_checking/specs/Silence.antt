-- What follows where nothing is reported, for the contracts of what is checked here. Specification: 5 Validation.
use Rattle.std.specs.Prelude.{◌≡◌, ◌⊎◌, Bool, true, false, List, [], ◌∷◌, ◌++◌, None, Option, Some, All, Any, Contains, IsFalse, IsSome, filter, not, option_to_list}
use Rattle.std.specs.List.{AllZip}
use Rattle.std.specs.Map.{lookup}
use Rattle.indexmap.specs.IndexMap.{IsUnique, values}
use Rattle.graphql_diagnostics.specs.declared.lists.DiagnosticEntry.{DiagnosticEntry}
use Rattle.graphql_documents.specs.Executables.{operations_of}
use Rattle.graphql_document_checking.specs.BuildingRules.{DefinitionBuilds, DocumentBuilds}
use Rattle.graphql_document_checking.specs.Documents.{DocumentSays}
use Rattle.graphql_documents.specs.Selections.{fragments_of}
use Rattle.graphql_documents.specs.declared.documents.executables.ExecutableDocument.{ExecutableDocument}
use Rattle.graphql_documents.specs.declared.documents.executables.Fragment.{Fragment}
use Rattle.graphql_documents.specs.declared.documents.executables.Operation.{Operation}
use Rattle.graphql_documents.specs.declared.documents.executables.OperationMap.{OperationMap}
use Rattle.graphql_documents.specs.declared.documents.schemas.Schema.{Schema}
use Rattle.graphql_frontend.specs.Documents.{EveryRuleHoldsBut, IsBuiltFor, IsOnlyOff}
use Rattle.graphql_frontend.specs.RuleSets.{RuleSet}
use Rattle.graphql_frontend.specs.declared.reports.Reports.{Reports}
use Rattle.graphql_frontend.specs.InputFields.{InputFieldsAreUnique}
use Rattle.graphql_frontend.specs.declared.texts.SourceText.{SourceText}
use Rattle.graphql_nodes.specs.Names.{NameText, same_name}
use Rattle.graphql_nodes.specs.Nodes.{SameNode}
use Rattle.graphql_nodes.specs.declared.nodes.Node.{Node}
use Rattle.graphql_pools.specs.Pools.{Entry, IsOperationDocument}
use Rattle.graphql_projects.specs.Reached.{IsReachedFrom, IsSpreadFrom, ReachesNames}
use Rattle.graphql_project_checking.specs.declared.building.Lent.{Lent}
use Rattle.graphql_projects.specs.OperationTrees.{Pool, ReachesFragment, fragments_among}
use Rattle.graphql_projects.specs.Projects.{FileHolds, OperationIsValidBut, operations_among}
use Rattle.graphql_projects.specs.Defer.{LabelsHold}
use Rattle.graphql_projects.specs.Lexical.{AreTokens}
use Rattle.graphql_trees.specs.declared.documents.Definition.TheVariants as definition
use Rattle.graphql_trees.specs.declared.documents.Definition.{Definition}
use Rattle.graphql_trees.specs.declared.documents.Document.{Document}
use Rattle.graphql_variables.specs.Uses.{IsNamedIn}

-- where nothing is reported afterwards, nothing was before, and this holds
abbrev pub SilentOnlyIf : List Reports → List Reports → Type 0 → Type 0
SilentOnlyIf old new Holds = new ≡ [] → (old ≡ []) × Holds

-- if each report afterwards is of a rule that is off, each was before, and this holds, which depends on what is off
abbrev pub QuietOnlyIf : List Reports → List Reports → (RuleSet → Type 0) → Type 0
QuietOnlyIf old new Holds = (off : RuleSet) → All (IsOnlyOff off) new → All (IsOnlyOff off) old × Holds off

-- the second texts are the first without some that have no token
pub data LeavesOutEmpty : List SourceText → List SourceText → Type 0 where
  no_text : LeavesOutEmpty [] []
  leaves_out : {source : SourceText} {sources kept : List SourceText} →
      AreTokens source.text.now [] → LeavesOutEmpty sources kept → LeavesOutEmpty (source ∷ sources) kept
  keeps : {source : SourceText} {sources kept : List SourceText} → LeavesOutEmpty sources kept → LeavesOutEmpty (source ∷ sources) (source ∷ kept)

-- the second texts are the first with this one behind them, unless it has no token
pub data AddsIfToken (source : SourceText) (old new : List SourceText) : Type 0 where
  has_none : AreTokens source.text.now [] → new ≡ old → AddsIfToken source old new
  is_added : new ≡ old ++ source ∷ [] → AddsIfToken source old new

-- the rules that are not off hold of the document of the operation with the fragments of these names, if it is built against the schema
abbrev pub HoldsWith : RuleSet → Schema → ExecutableDocument → Node Operation → List NameText → Type 0
HoldsWith off schema pool o names =
    (document : ExecutableDocument) × IsOperationDocument pool o names document × (IsBuiltFor (Some schema) document → EveryRuleHoldsBut off (Some schema) document)

-- and the names are those of the fragments that it reaches in the pool
abbrev pub OperationPasses : RuleSet → Schema → ExecutableDocument → Node Operation → Type 0
OperationPasses off schema pool o =
    (names : List NameText) × ReachesNames (fragments_of pool) o.value.value.selection_set names × HoldsWith off schema pool o names

-- the fragment is one that one of the operations reaches in the pool, under its own name
pub record IsReachedByOne (pool : ExecutableDocument) (operations : List (Node Operation)) (e : Entry) : Type 0 where
  pub o : Node Operation
  pub name : NameText
  pub d : Node Fragment
  pub among : Contains operations o
  pub reached : IsReachedFrom (fragments_of pool) o.value.value.selection_set name
  pub found : fragments_of pool name ≡ Some d
  pub key : e.0 ≡ d.value.value.name
  pub same : SameNode d e.1

-- each fragment that one of the operations reaches in the pool is there under its own name: those that were not are behind the old ones
pub record BorrowsForAll (pool : ExecutableDocument) (operations : List (Node Operation)) (old new : List Entry) : Type 0 where
  pub added : List Entry
  pub appended : new ≡ old ++ added
  pub each : All (IsReachedByOne pool operations) added
  pub there : (o : Node Operation) (name : NameText) (d : Node Fragment) → Contains operations o → IsSpreadFrom (fragments_of pool) o.value.value.selection_set name →
      fragments_of pool name ≡ Some d → IsSome (lookup (same_name d.value.value.name) new)

-- the operations of a map: the one without a name, then the others in order
abbrev pub operations_in_map : OperationMap → List (Node Operation)
operations_in_map operations = option_to_list operations.anonymous ++ values operations.named

-- each rule of an operation that is not off holds of each operation of the file, and those of its definitions together hold of the document
-- with them, and with the fragments that its operations reach in the pool
pub record FilePasses (off : RuleSet) (schema : Schema) (pool file : ExecutableDocument) : Type 0 where
  pub operations : All (OperationPasses off schema pool) (operations_of file)
  pub whole : ExecutableDocument
  pub same_operations : whole.operations ≡ file.operations
  pub borrows : BorrowsForAll pool (operations_of file) file.fragments.entries whole.fragments.entries
  pub unique : IsUnique same_name whole.fragments
  pub labels : LabelsHold whole
  pub input_fields : InputFieldsAreUnique whole

-- one of the operations reaches a fragment of this name in the pool
pub record IsUsedName (pool : ExecutableDocument) (operations : List (Node Operation)) (used : NameText) : Type 0 where
  pub o : Node Operation
  pub name : NameText
  pub d : Node Fragment
  pub among : Contains operations o
  pub reached : IsReachedFrom (fragments_of pool) o.value.value.selection_set name
  pub found : fragments_of pool name ≡ Some d
  pub is : used ≡ d.value.value.name

-- each name that was not there is that of a fragment that one of the operations reaches
abbrev pub NotesUses : ExecutableDocument → List (Node Operation) → List NameText → List NameText → Type 0
NotesUses pool operations old new = (name : NameText) → Contains new name → Contains old name ⊎ IsUsedName pool operations name

-- the second document has the fragments of the first, in order, and nothing else
abbrev pub is_fragment : Definition → Bool
is_fragment (definition.Fragment x) = true
is_fragment _ = false

abbrev pub HasFragmentsOf : Document → Document → Type 0
HasFragmentsOf tree alone = alone.definitions ≡ filter is_fragment tree.definitions

-- the definitions of which none is a fragment, in order
abbrev pub others_in : List Definition → List Definition
others_in definitions = filter (λ d. not (is_fragment d)) definitions

abbrev pub OthersBuild : Schema → Document → Type 0
OthersBuild schema tree = All (DefinitionBuilds (Some schema)) (others_in tree.definitions)

-- the document can be built, and this is what it says
abbrev pub BuildsTo : Schema → Document → Option ExecutableDocument → Type 0
BuildsTo schema tree None = ⊥
BuildsTo schema tree (Some file) = DocumentBuilds (Some schema) tree × DocumentSays (Some schema) tree file

-- so can each of these
abbrev pub BuildAll : Schema → List Document → List ExecutableDocument → Type 0
BuildAll schema trees files = All (DocumentBuilds (Some schema)) trees × AllZip (DocumentSays (Some schema)) trees files

-- the definitions of these documents can be built, and this is what their fragments say
pub record BuildAsLent (schema : Schema) (trees : List Document) (lent : Lent) : Type 0 where
  pub others : All (OthersBuild schema) trees
  pub fragments : AllZip HasFragmentsOf trees lent.documents.items
  pub build : BuildAll schema lent.documents.items lent.files.items

-- the rules of files that build, with the fragments of those that are lent, except for rules that are off
pub record FilesHold (off : RuleSet) (schema : Schema) (own lent : List Document) : Type 0 where
  pub files : All (FileHolds schema (fragments_among (own ++ lent))) own
  pub operations : All (OperationIsValidBut off schema (fragments_among (own ++ lent))) (operations_among own)
  pub used : IsFalse off.unused_fragments → All (λ p. Any (λ x. ReachesFragment (fragments_among (own ++ lent)) x p.1) (operations_among own)) (fragments_among own)

-- if no entry is there afterwards, none was before, and each of the fragments has one of the names
abbrev pub ReportsUnused : List NameText → Pool → List DiagnosticEntry → List DiagnosticEntry → Type 0
ReportsUnused used fragments old new = new ≡ [] → (old ≡ []) × All (λ p. IsNamedIn used p.0) fragments
