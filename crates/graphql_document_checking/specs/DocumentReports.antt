-- What a report says of a document that cannot be built. Specification: 5.2.1.1 Operation Name Uniqueness, 5.2.2.1 Lone
-- Anonymous Operation, 5.5.1.1 Fragment Name Uniqueness.
use Rattle.std.specs.Prelude.{◌≤◌, IsTrue, List, Contains, Option, Some, is_none, length, map}
use Rattle.graphql_nodes.specs.Names.{NameText}
use Rattle.graphql_documents.specs.declared.documents.schemas.Schema.{Schema}
use Rattle.graphql_trees.specs.declared.documents.Definition.{Definition}
use Rattle.graphql_trees.specs.declared.documents.Document.{Document}
use Rattle.graphql_trees.specs.declared.executable.OperationDefinition.{OperationDefinition}
use Rattle.graphql_building_reports.specs.Checks.{Says}
use Rattle.graphql_building_reports.specs.declared.lists.BuildingReport.{BuildingReport}
use Rattle.graphql_building_reports.specs.declared.rules.BuildingRule.TheVariants as rule
use Rattle.graphql_repetitions.specs.Repetitions.{RepetitionReport}
use Rattle.graphql_document_building.specs.Trees.{fragments_in, named_operations_in, operations_in}
use Rattle.graphql_document_checking.specs.DefinitionReports.{IsReportOfDefinitions}

-- the names of the operations that have one, in order
abbrev pub operation_names : List Definition → List NameText
operation_names definitions = map (λ p. p.0) (named_operations_in definitions)

-- the names of the fragments, in order
abbrev pub fragment_names : List Definition → List NameText
fragment_names definitions = map (λ p. p.0) (fragments_in definitions)

-- one of several operations has no name, reported at the operation
pub record AnonymousOperationReport (operations : List OperationDefinition) (report : BuildingReport) : Type 0 where
  pub x : OperationDefinition
  pub among : Contains operations x
  pub anonymous : IsTrue (is_none x.name)
  pub several : 2 ≤ length operations
  pub says : Says rule.AmbiguousAnonymousOperation (Some x.span) report

-- the report is true of the document with this tree, against a schema or without one
pub data DocumentBuildingReport (schema : Option Schema) (x : Document) (report : BuildingReport) : Type 0 where
  of_anonymous_operation : AnonymousOperationReport (operations_in x.definitions) report → DocumentBuildingReport schema x report
  of_operation_name : RepetitionReport (operation_names x.definitions) rule.OperationNameCollision report → DocumentBuildingReport schema x report
  of_fragment_name : RepetitionReport (fragment_names x.definitions) rule.FragmentNameCollision report → DocumentBuildingReport schema x report
  of_definition : IsReportOfDefinitions schema x.definitions report → DocumentBuildingReport schema x report
