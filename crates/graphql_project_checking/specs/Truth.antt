-- What is true of each report on files that are validated together, with the fragments of files that are lent. Specification: 5 Validation.
use Rattle.std.specs.Prelude.{◌≡◌, ◌≢◌, ◌⊎◌, ℕ, List, [], ◌∷◌, ◌++◌, Option, None, Some, All, Any, Contains, map}
use Rattle.std.specs.List.{AllZip}
use Rattle.graphql_building_reports.specs.Checks.{reports_of}
use Rattle.graphql_building_reports.specs.declared.lists.BuildingReport.{BuildingReport}
use Rattle.graphql_building_reports.specs.declared.rules.BuildingRule.TheVariants as rule
use Rattle.graphql_diagnostics.specs.Diagnostics.{entries}
use Rattle.graphql_diagnostics.specs.Reports.{KeepsReports}
use Rattle.graphql_diagnostics.specs.declared.data.DiagnosticData.TheVariants as report
use Rattle.graphql_diagnostics.specs.declared.details.Details.TheVariants as details
use Rattle.graphql_diagnostics.specs.declared.lists.DiagnosticEntry.{DiagnosticEntry}
use Rattle.graphql_document_checking.specs.BuildingRules.{DefinitionBuilds, DocumentBuilds}
use Rattle.graphql_document_checking.specs.Documents.{DocumentSays}
use Rattle.graphql_document_checking.specs.Trees.{operations_in}
use Rattle.graphql_document_checking.specs.DocumentReports.{DocumentBuildingReport}
use Rattle.graphql_documents.specs.Built.{IsBuilt}
use Rattle.graphql_documents.specs.Executables.{operations_of}
use Rattle.graphql_documents.specs.Selections.{fragments_of}
use Rattle.graphql_documents.specs.declared.documents.executables.ExecutableDocument.{ExecutableDocument}
use Rattle.graphql_documents.specs.declared.documents.executables.Fragment.{Fragment}
use Rattle.graphql_documents.specs.declared.documents.executables.Operation.{Operation}
use Rattle.graphql_documents.specs.declared.documents.schemas.Schema.{Schema}
use Rattle.graphql_frontend.specs.Documents.{JudgesDocument}
use Rattle.graphql_frontend.specs.Texts.{IsDocumentOf, IsErrorOf}
use Rattle.graphql_frontend.specs.declared.reports.Reports.{Reports}
use Rattle.graphql_frontend.specs.declared.reports.Reports.TheVariants.{Syntax, Building, FirstBuilding, DocumentRules, FirstDocumentRules}
use Rattle.graphql_frontend.specs.declared.texts.SourceText.{SourceText}
use Rattle.graphql_frontend.specs.declared.texts.SyntaxReport.{SyntaxReport}
use Rattle.graphql_frontend.specs.InputFields.{InputFieldReport}
use Rattle.graphql_frontend.specs.InputFieldRepetition.{InputFieldRepetition}
use Rattle.graphql_nodes.specs.Names.{NameText}
use Rattle.graphql_nodes.specs.declared.nodes.Node.{Node}
use Rattle.graphql_parser.specs.declared.bounds.Bounds.{Bounds}
use Rattle.graphql_pools.specs.Pools.{IsOperationDocument}
use Rattle.graphql_project_checking.specs.Silence.{BorrowsForAll, HasFragmentsOf}
use Rattle.graphql_projects.specs.OperationTrees.{IsTreeOf, Pool, ReachesFragment, fragments_among}
use Rattle.graphql_projects.specs.Projects.{ReadFiles, operations_among}
use Rattle.graphql_projects.specs.Reached.{IsSpreadFrom, ReachesNames}
use Rattle.graphql_document_checking.specs.Repetitions.{RepetitionReport}
use Rattle.graphql_projects.specs.Defer.{DeferLimit, DeferReport}
use Rattle.graphql_projects.specs.Lexical.{AreTokens}
use Rattle.graphql_trees.specs.declared.documents.Definition.TheVariants as definition
use Rattle.graphql_trees.specs.declared.documents.Definition.{Definition}
use Rattle.graphql_trees.specs.declared.documents.Document.{Document}
use Rattle.graphql_trees.specs.declared.executable.FragmentDefinition.{FragmentDefinition}
use Rattle.graphql_trees.specs.declared.executable.OperationDefinition.{OperationDefinition}
use Rattle.graphql_variables.specs.Uses.{IsNamedIn}

-- ==== lists of reports

-- the list has errors of texts, each of one of these, which is no document. Specification: 2.2 Document
abbrev pub AreErrorsOf : Bounds → List SourceText → Reports → Type 0
AreErrorsOf bounds sources (Syntax errors) = (errors.items ≢ []) × All (λ e. Any (λ source. IsErrorOf bounds source e) sources) errors.items
AreErrorsOf bounds sources _ = ⊥

-- the list has these errors, and there is one
abbrev pub HasErrors : List SyntaxReport → Reports → Type 0
HasErrors given (Syntax errors) = (errors.items ≢ []) × (errors.items ≡ given)
HasErrors given _ = ⊥

-- the list has reports of rules that keep something from being built, and each of them is true
abbrev pub AreOfBuilding : (BuildingReport → Type 0) → Reports → Type 0
AreOfBuilding IsTrueReport (Building list) = (reports_of list ≢ []) × All IsTrueReport (reports_of list)
AreOfBuilding IsTrueReport (FirstBuilding list) = (reports_of list ≢ []) × All IsTrueReport (reports_of list)
AreOfBuilding IsTrueReport _ = ⊥

-- the list has reports of rules of validation alone, and each of them is true
abbrev pub AreOfRules : (DiagnosticEntry → Type 0) → Reports → Type 0
AreOfRules IsTrueReport (DocumentRules reports) =
    (entries reports.rules ≢ []) × All IsTrueReport (entries reports.rules) × (reports.undefined_variables.items ≡ []) × (reports.input_fields.items ≡ []) ×
    (reports.usages.items ≡ [])
AreOfRules IsTrueReport (FirstDocumentRules list) = (entries list ≢ []) × All IsTrueReport (entries list)
AreOfRules IsTrueReport _ = ⊥

-- the list has reports of input fields that are given again alone, and each of them is true
abbrev pub AreOfInputFields : (InputFieldRepetition → Type 0) → Reports → Type 0
AreOfInputFields IsTrueReport (DocumentRules reports) =
    (entries reports.rules ≡ []) × (reports.undefined_variables.items ≡ []) × (reports.input_fields.items ≢ []) × All IsTrueReport reports.input_fields.items ×
    (reports.usages.items ≡ [])
AreOfInputFields IsTrueReport _ = ⊥

-- ==== texts, and what is built of them

-- the trees are those of the texts that are documents, in order. A text without a token defines nothing, and of one that is no document nothing is known
pub data ParsedFiles (bounds : Bounds) : List SourceText → List Document → Type 0 where
  no_more_texts : ParsedFiles bounds [] []
  next_is_empty : {source : SourceText} {sources : List SourceText} {trees : List Document} →
      AreTokens source.text.now [] → ParsedFiles bounds sources trees → ParsedFiles bounds (source ∷ sources) trees
  next_is_document : {source : SourceText} {sources : List SourceText} {tree : Document} {trees : List Document} →
      IsDocumentOf bounds source tree → ParsedFiles bounds sources trees → ParsedFiles bounds (source ∷ sources) (tree ∷ trees)
  next_is_no_document : {source : SourceText} {sources : List SourceText} {trees : List Document} →
      ((tree : Document) → IsDocumentOf bounds source tree → ⊥) → ParsedFiles bounds sources trees → ParsedFiles bounds (source ∷ sources) trees

-- the second definitions are those of the first that can be built against the schema, in order
pub data KeepsThatBuild (schema : Schema) : List Definition → List Definition → Type 0 where
  keeps_none : KeepsThatBuild schema [] []
  keeps_next : {d : Definition} {ds kept : List Definition} →
      DefinitionBuilds (Some schema) d → KeepsThatBuild schema ds kept → KeepsThatBuild schema (d ∷ ds) (d ∷ kept)
  leaves_out_next : {d : Definition} {ds kept : List Definition} →
      ¬ DefinitionBuilds (Some schema) d → KeepsThatBuild schema ds kept → KeepsThatBuild schema (d ∷ ds) kept

-- of each tree, in order, those of its definitions that can be built against the schema; and nothing of a tree in which these cannot be built together
pub data PartsThatBuild (schema : Schema) : List Document → List Document → Type 0 where
  no_parts : PartsThatBuild schema [] []
  next_part : {tree part : Document} {trees parts : List Document} → KeepsThatBuild schema tree.definitions part.definitions →
      DocumentBuilds (Some schema) part → PartsThatBuild schema trees parts → PartsThatBuild schema (tree ∷ trees) (part ∷ parts)
  no_next_part : {tree part : Document} {trees parts : List Document} → KeepsThatBuild schema tree.definitions part.definitions →
      ¬ DocumentBuilds (Some schema) part → PartsThatBuild schema trees parts → PartsThatBuild schema (tree ∷ trees) parts

-- the document is what the part of the tree says, if it has one
pub data SaysPart (schema : Schema) (tree : Document) : Option ExecutableDocument → Type 0 where
  says_part : {file : ExecutableDocument} (part : Document) → KeepsThatBuild schema tree.definitions part.definitions →
      DocumentBuilds (Some schema) part → DocumentSays (Some schema) part file → SaysPart schema tree (Some file)
  has_no_part : (part : Document) → KeepsThatBuild schema tree.definitions part.definitions → ¬ DocumentBuilds (Some schema) part → SaysPart schema tree None

-- the documents are what the parts of the trees say
abbrev pub SayParts : Schema → List Document → List ExecutableDocument → Type 0
SayParts schema trees files = (parts : List Document) × PartsThatBuild schema trees parts × AllZip (DocumentSays (Some schema)) parts files

-- the reports are of what keeps one of these documents from being built
abbrev pub AreOfOneDocument : Schema → List Document → Reports → Type 0
AreOfOneDocument schema trees reports = (tree : Document) × Contains trees tree × AreOfBuilding (DocumentBuildingReport (Some schema) tree) reports

-- the report says that a fragment of these documents has the name of an earlier one. Specification: 5.5.1.1 Fragment Name Uniqueness
abbrev pub IsFragmentNameReport : List Document → BuildingReport → Type 0
IsFragmentNameReport trees report = RepetitionReport (map (λ p. p.0) (fragments_among trees)) rule.FragmentNameCollision report

-- ==== an operation, and the definitions of a file together

-- the reports are what the document of the operation with the fragments of these names comes to
pub record AreOfDocumentWith (bounds : Bounds) (schema : Schema) (pool : ExecutableDocument) (o : Node Operation) (names : List NameText) (reports : Reports) : Type 0 where
  pub document : ExecutableDocument
  pub bytes : ℕ
  pub is : IsOperationDocument pool o names document
  pub judged : JudgesDocument bounds bytes (Some schema) document (Some reports)

-- and the names are those of the fragments that it reaches in the pool
pub record AreOfOperation (bounds : Bounds) (schema : Schema) (pool : ExecutableDocument) (o : Node Operation) (reports : Reports) : Type 0 where
  pub names : List NameText
  pub reached : ReachesNames (fragments_of pool) o.value.value.selection_set names
  pub of_document : AreOfDocumentWith bounds schema pool o names reports

-- they are so for one of these operations
abbrev pub AreOfOneOperation : Bounds → Schema → ExecutableDocument → List (Node Operation) → Reports → Type 0
AreOfOneOperation bounds schema pool operations reports =
    (o : Node Operation) × Contains operations o × AreOfOperation bounds schema pool o reports

-- the diagnostic is true of `@defer` in the document, or of the limit of a walk that seeks it
abbrev pub IsDeferEntry : ExecutableDocument → DiagnosticEntry → Type 0
IsDeferEntry document e = DeferReport document e.details e.location ⊎ DeferLimit document e.details e.location

-- the reports are of `@defer` in the document, or of input fields that its object values give again. Specification: the incremental delivery proposal,
-- Directive Labels Are Unique; 5.6.3 Input Object Field Uniqueness
abbrev pub AreOfDefinitions : ExecutableDocument → Reports → Type 0
AreOfDefinitions document reports = AreOfRules (IsDeferEntry document) reports ⊎ AreOfInputFields (InputFieldReport document) reports

-- the reports are of an operation of the file; or of its definitions together, followed by fragments that its operations reach in the pool
pub data AreOfFile (bounds : Bounds) (schema : Schema) (pool file : ExecutableDocument) (reports : Reports) : Type 0 where
  of_operation : AreOfOneOperation bounds schema pool (operations_of file) reports → AreOfFile bounds schema pool file reports
  of_definitions : (whole : ExecutableDocument) → whole.operations ≡ file.operations →
      BorrowsForAll pool (operations_of file) file.fragments.entries whole.fragments.entries → AreOfDefinitions whole reports →
      AreOfFile bounds schema pool file reports

-- they are so for one of these files
abbrev pub AreOfOneFile : Bounds → Schema → ExecutableDocument → List ExecutableDocument → Reports → Type 0
AreOfOneFile bounds schema pool files reports = (file : ExecutableDocument) × Contains files file × AreOfFile bounds schema pool file reports

-- ==== unused fragments

-- each fragment that one of the operations reaches in the pool is noted, and the old names stay
pub record NotesAll (pool : ExecutableDocument) (operations : List (Node Operation)) (old new : List NameText) : Type 0 where
  pub stay : (used : NameText) → Contains old used → Contains new used
  pub noted : (o : Node Operation) (name : NameText) (d : Node Fragment) → Contains operations o →
      IsSpreadFrom (fragments_of pool) o.value.value.selection_set name → fragments_of pool name ≡ Some d → IsNamedIn new d.value.value.name

-- the diagnostic says that the fragment is not used, at the fragment
abbrev pub unused_entry : FragmentDefinition → DiagnosticEntry
unused_entry d = record { location = Some d.span; details = details.Diagnostic (report.UnusedFragment d.name) }

-- it says so of one of these fragments, whose name is none of these
abbrev pub IsUnnamedEntry : List NameText → Pool → DiagnosticEntry → Type 0
IsUnnamedEntry used fragments e = (p : NameText × FragmentDefinition) × Contains fragments p × (¬ IsNamedIn used p.0) × (e ≡ unused_entry p.1)

-- it says so of a fragment of these files that none of their operations reaches. Specification: 5.5.1.4 Fragments Must Be Used
abbrev pub IsUnusedEntry : Pool → List Document → DiagnosticEntry → Type 0
IsUnusedEntry pool trees e =
    (p : NameText × FragmentDefinition) × Contains (fragments_among trees) p × ((x : OperationDefinition) → Contains (operations_among trees) x → ¬ ReachesFragment pool x p.1) ×
    (e ≡ unused_entry p.1)

-- ==== files as trees

-- the reports are what the document of one of the operations comes to: of the operation, and of exactly the fragments that it reaches
pub record AreOfTree (bounds : Bounds) (schema : Schema) (pool : Pool) (operations : List OperationDefinition) (reports : Reports) : Type 0 where
  pub x : OperationDefinition
  pub among : Contains operations x
  pub whole : Document
  pub is : IsTreeOf pool x whole
  pub document : ExecutableDocument
  pub says : DocumentSays (Some schema) whole document
  pub built : IsBuilt schema document
  pub bytes : ℕ
  pub judged : JudgesDocument bounds bytes (Some schema) document (Some reports)

-- the reports are of the definitions of one of these files together, and of fragments behind them that its operations reach
pub record AreOfFileTree (schema : Schema) (pool : Pool) (files : List Document) (reports : Reports) : Type 0 where
  pub file : Document
  pub among : Contains files file
  pub borrowed : List FragmentDefinition
  pub each : All (λ d. Any (λ x. ReachesFragment pool x d) (operations_in file.definitions)) borrowed
  pub whole : Document
  pub is : whole.definitions ≡ file.definitions ++ map definition.Fragment borrowed
  pub document : ExecutableDocument
  pub says : DocumentSays (Some schema) whole document
  pub of_definitions : AreOfDefinitions document reports

-- the reports are of an operation of these files, or of the definitions of one of them together
pub data AreOfParts (bounds : Bounds) (schema : Schema) (pool : Pool) (files : List Document) (reports : Reports) : Type 0 where
  of_tree : AreOfTree bounds schema pool (operations_among files) reports → AreOfParts bounds schema pool files reports
  of_file_tree : AreOfFileTree schema pool files reports → AreOfParts bounds schema pool files reports

-- the same of files of which each can be built; or the reports are of fragments that are not used
pub data AreOfWhole (bounds : Bounds) (schema : Schema) (pool : Pool) (files : List Document) (reports : Reports) : Type 0 where
  of_parts : AreOfParts bounds schema pool files reports → AreOfWhole bounds schema pool files reports
  of_unused : AreOfRules (IsUnusedEntry pool files) reports → AreOfWhole bounds schema pool files reports

-- the further reports are true of the parts of these files that can be built, and of the fragments of those that are lent
abbrev pub AddsOfParts : Bounds → Schema → List Document → List Document → List Reports → List Reports → Type 0
AddsOfParts bounds schema own lent old new =
    (parts : List Document) × (lent_parts : List Document) × PartsThatBuild schema own parts × PartsThatBuild schema lent lent_parts ×
    KeepsReports (AreOfParts bounds schema (fragments_among (parts ++ lent_parts)) parts) old new

-- ==== the project

-- what is known of the files: the trees of those that are documents, and the parts of these that can be built, of files that are lent with fragments alone
pub record KnownFiles (bounds : Bounds) (schema : Schema) (sources lent : List SourceText) : Type 0 where
  pub trees : List Document
  pub lent_trees : List Document
  pub are : ParsedFiles bounds sources trees
  pub lent_are : ParsedFiles bounds lent lent_trees
  pub lent_fragments : List Document
  pub are_fragments : AllZip HasFragmentsOf lent_trees lent_fragments
  pub parts : List Document
  pub lent_parts : List Document
  pub are_parts : PartsThatBuild schema trees parts
  pub are_lent_parts : PartsThatBuild schema lent_fragments lent_parts

-- the fragments that operations may spread: those that can be built
abbrev pub pool_of_files : {bounds : Bounds} {schema : Schema} {sources lent : List SourceText} → KnownFiles bounds schema sources lent → Pool
pool_of_files known = fragments_among (known.parts ++ known.lent_parts)

-- all is known of the files: each is a document, or has no token, and each of their definitions can be built
pub record AreAllKnown {bounds : Bounds} {schema : Schema} {sources lent : List SourceText} (known : KnownFiles bounds schema sources lent) : Type 0 where
  pub are_read : ReadFiles bounds sources known.trees
  pub lent_are_read : ReadFiles bounds lent known.lent_trees
  pub whole : known.parts ≡ known.trees
  pub lent_whole : known.lent_parts ≡ known.lent_fragments

-- the reports are true of the files: of texts that are no documents; of what keeps a document from being built; of names of fragments that repeat; of the
-- document of an operation, or of a file; or, if all is known of them, of fragments that no operation reaches
pub data AreTrueOf (bounds : Bounds) (schema : Schema) (sources lent : List SourceText) (known : KnownFiles bounds schema sources lent) (reports : Reports) : Type 0 where
  of_texts : AreErrorsOf bounds (sources ++ lent) reports → AreTrueOf bounds schema sources lent known reports
  of_one_document : AreOfOneDocument schema (known.trees ++ known.lent_trees) reports → AreTrueOf bounds schema sources lent known reports
  of_fragment_names : AreOfBuilding (IsFragmentNameReport (known.trees ++ known.lent_trees)) reports → AreTrueOf bounds schema sources lent known reports
  of_known_parts : AreOfParts bounds schema (pool_of_files known) known.parts reports → AreTrueOf bounds schema sources lent known reports
  of_unused_fragments : AreAllKnown known → AreOfRules (IsUnusedEntry (pool_of_files known) known.trees) reports → AreTrueOf bounds schema sources lent known reports

-- the further reports are true of the files
abbrev pub AddsTrue : Bounds → Schema → List SourceText → List SourceText → List Reports → List Reports → Type 0
AddsTrue bounds schema sources lent old new =
    (known : KnownFiles bounds schema sources lent) × KeepsReports (AreTrueOf bounds schema sources lent known) old new

-- each of the reports is true of the files
abbrev pub AreAllTrue : Bounds → Schema → List SourceText → List SourceText → List Reports → Type 0
AreAllTrue bounds schema sources lent found =
    (known : KnownFiles bounds schema sources lent) × All (AreTrueOf bounds schema sources lent known) found
