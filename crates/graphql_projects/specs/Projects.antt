-- When the rules hold of a project: files that are validated together, in which operations spread fragments of each other's files, and of files
-- that are lent. Specification: 5 Validation.
use Rattle.std.specs.Prelude.{◌≡◌, ◌≢◌, IsFalse, List, [], ◌∷◌, ◌++◌, Some, All, Any, Contains, flat_map, map}
use Rattle.graphql_nodes.specs.Names.{AreDistinct}
use Rattle.graphql_documents.specs.declared.documents.executables.ExecutableDocument.{ExecutableDocument}
use Rattle.graphql_documents.specs.declared.documents.schemas.Schema.{Schema}
use Rattle.graphql_document_building.specs.BuildingRules.{AnonymousOperationIsAlone, DefinitionBuilds}
use Rattle.graphql_document_building.specs.Documents.{DocumentSays}
use Rattle.graphql_document_building.specs.Trees.{fragments_in, named_operations_in, operations_in}
use Rattle.graphql_frontend.specs.Documents.{EveryRuleHolds, EveryRuleHoldsBut}
use Rattle.graphql_frontend.specs.RuleSets.{RuleSet}
use Rattle.graphql_frontend.specs.Texts.{IsDocumentOf}
use Rattle.graphql_frontend.specs.declared.texts.SourceText.{SourceText}
use Rattle.graphql_input_rules.specs.InputFields.{InputFieldsAreUnique}
use Rattle.graphql_parser.specs.declared.bounds.Bounds.{Bounds}
use Rattle.graphql_specification.specs.Defer.{LabelsHold}
use Rattle.graphql_tokens.specs.Lexical.{AreTokens}
use Rattle.graphql_trees.specs.declared.documents.Definition.TheVariants as definition
use Rattle.graphql_trees.specs.declared.documents.Document.{Document}
use Rattle.graphql_trees.specs.declared.executable.FragmentDefinition.{FragmentDefinition}
use Rattle.graphql_trees.specs.declared.executable.OperationDefinition.{OperationDefinition}
use Rattle.graphql_projects.specs.OperationTrees.{IsTreeOf, Pool, ReachesFragment, fragments_among}

-- the trees are those of the texts that have a token, in order; a text without one defines nothing
pub data ReadFiles (bounds : Bounds) : List SourceText → List Document → Type 0 where
  no_file : ReadFiles bounds [] []
  empty_file : {source : SourceText} {sources : List SourceText} {trees : List Document} →
      AreTokens source.text.now [] → ReadFiles bounds sources trees → ReadFiles bounds (source ∷ sources) trees
  next_file : {source : SourceText} {sources : List SourceText} {tree : Document} {trees : List Document} →
      IsDocumentOf bounds source tree → ReadFiles bounds sources trees → ReadFiles bounds (source ∷ sources) (tree ∷ trees)

-- the operations that these trees define, in order
abbrev pub operations_among : List Document → List OperationDefinition
operations_among trees = flat_map (λ (t : Document). operations_in t.definitions) trees

-- every rule holds of the document of the operation
abbrev pub OperationIsValid : Schema → Pool → OperationDefinition → Type 0
OperationIsValid schema pool x =
    (whole : Document) × (document : ExecutableDocument) × IsTreeOf pool x whole × DocumentSays (Some schema) whole document ×
    EveryRuleHolds (Some schema) document

-- the same, except for rules that are off
abbrev pub OperationIsValidBut : RuleSet → Schema → Pool → OperationDefinition → Type 0
OperationIsValidBut off schema pool x =
    (whole : Document) × (document : ExecutableDocument) × IsTreeOf pool x whole × DocumentSays (Some schema) whole document ×
    EveryRuleHoldsBut off (Some schema) document

-- the document of a file: its definitions, and those fragments of other files that its operations reach
pub record IsDocumentOfFile (pool : Pool) (file whole : Document) : Type 0 where
  pub borrowed : List FragmentDefinition
  pub definitions_are : whole.definitions ≡ file.definitions ++ map definition.Fragment borrowed
  pub each : All (λ d. Any (λ x. ReachesFragment pool x d) (operations_in file.definitions)) borrowed
  pub others : All (λ d. All (λ p. p.1 ≢ d) (fragments_in file.definitions)) borrowed
  pub all : (x : OperationDefinition) (d : FragmentDefinition) → Contains (operations_in file.definitions) x → ReachesFragment pool x d →
      Contains (map (λ p. p.1) (fragments_in whole.definitions)) d

-- the rules that are asked of the definitions of a file together: an operation without a name is alone, names of operations differ, labels of `@defer`
-- differ, those in fragments that its operations reach in other files too, and object values give each input field once
pub record FileHolds (schema : Schema) (pool : Pool) (file : Document) : Type 0 where
  pub alone : AnonymousOperationIsAlone file.definitions
  pub operation_names : AreDistinct (map (λ p. p.0) (named_operations_in file.definitions))
  pub whole : Document
  pub document : ExecutableDocument
  pub is_whole : IsDocumentOfFile pool file whole
  pub says : DocumentSays (Some schema) whole document
  pub labels : LabelsHold document
  pub input_fields : InputFieldsAreUnique document

-- every rule holds of these files together, with the fragments of the files that are lent
pub record ProjectHolds (bounds : Bounds) (schema : Schema) (sources lent : List SourceText) : Type 0 where
  pub trees : List Document
  pub lent_trees : List Document
  pub are : ReadFiles bounds sources trees
  pub lent_are : ReadFiles bounds lent lent_trees
  pub build : All (λ (t : Document). All (DefinitionBuilds (Some schema)) t.definitions) (trees ++ lent_trees)
  pub fragment_names : AreDistinct (map (λ p. p.0) (fragments_among (trees ++ lent_trees)))
  pub files : All (FileHolds schema (fragments_among (trees ++ lent_trees))) trees
  pub operations : All (OperationIsValid schema (fragments_among (trees ++ lent_trees))) (operations_among trees)
  pub used : All (λ p. Any (λ x. ReachesFragment (fragments_among (trees ++ lent_trees)) x p.1) (operations_among trees)) (fragments_among trees)

-- the same, except for rules that are off
pub record ProjectHoldsBut (off : RuleSet) (bounds : Bounds) (schema : Schema) (sources lent : List SourceText) : Type 0 where
  pub trees : List Document
  pub lent_trees : List Document
  pub are : ReadFiles bounds sources trees
  pub lent_are : ReadFiles bounds lent lent_trees
  pub build : All (λ (t : Document). All (DefinitionBuilds (Some schema)) t.definitions) (trees ++ lent_trees)
  pub fragment_names : AreDistinct (map (λ p. p.0) (fragments_among (trees ++ lent_trees)))
  pub files : All (FileHolds schema (fragments_among (trees ++ lent_trees))) trees
  pub operations : All (OperationIsValidBut off schema (fragments_among (trees ++ lent_trees))) (operations_among trees)
  pub used : IsFalse off.unused_fragments →
      All (λ p. Any (λ x. ReachesFragment (fragments_among (trees ++ lent_trees)) x p.1) (operations_among trees)) (fragments_among trees)
