-- What is reported of the fragments of a document alone, or of its other definitions, is true of the document.
use Rattle.std.proofs.Common.{◌≡◌, ◌∙◌, Bool, List, [], ◌∷◌, ◌++◌, Option, ap, map, refl, subst, sym}
use Rattle.std.specs.Prelude.{All, Contains, filter, not}
use Rattle.std.proofs.lemmas.List.Elements.{All-contains, All-contains_itself, All-filter, All-weaker}
use Rattle.graphql_building_reports.specs.declared.lists.BuildingReport.{BuildingReport}
use Rattle.graphql_building_reports.specs.declared.rules.BuildingRule.TheVariants as rule
use Rattle.graphql_documents.proofs.ListLemmas.{none_stands}
use Rattle.graphql_documents.specs.declared.documents.schemas.Schema.{Schema}
use Rattle.graphql_document_checking.specs.Trees.{named_operations_in, operations_in}
use Rattle.graphql_document_checking.specs.DefinitionReports.{IsReportOfDefinitions}
use Rattle.graphql_document_checking.specs.DocumentReports.{DocumentBuildingReport, fragment_names, of_anonymous_operation, of_definition, of_fragment_name, of_operation_name, operation_names}
use Rattle.graphql_nodes.specs.Names.{NameText}
use Rattle.graphql_document_checking.specs.Repetitions.{RepetitionReport}
use Rattle.graphql_trees.specs.declared.documents.Definition.TheVariants as definition
use Rattle.graphql_trees.specs.declared.documents.Definition.{Definition}
use Rattle.graphql_trees.specs.declared.documents.Document.{Document}
use Rattle.graphql_trees.specs.declared.executable.OperationDefinition.{OperationDefinition}
use Rattle.graphql_project_checking.proofs.ProjectLemmas.{alone_fragments, name_of}
use Rattle.graphql_project_checking.specs.Silence.{HasFragmentsOf, is_fragment, others_in}

filtered_stands : {X : Type 0} (p : X → Bool) (xs : List X) (x : X) → Contains (filter p xs) x → Contains xs x
filtered_stands p xs x c = All-contains (Contains xs) (filter p xs) x (All-filter p (Contains xs) xs (All-contains_itself xs)) c

no_operations : (ds : List Definition) → operations_in (filter is_fragment ds) ≡ []
no_operations [] = refl
no_operations (definition.Fragment x ∷ ds) = no_operations ds
no_operations (_ ∷ ds) = no_operations ds

no_operation_names : (ds : List Definition) → named_operations_in (filter is_fragment ds) ≡ []
no_operation_names [] = refl
no_operation_names (definition.Fragment x ∷ ds) = no_operation_names ds
no_operation_names (_ ∷ ds) = no_operation_names ds

cut_is_some : (before after : List NameText) (again : NameText) → ¬ ([] ≡ before ++ again ∷ after)
cut_is_some [] after again is = cc
cut_is_some (n ∷ before) after again is = cc

nothing_repeats : (names : List NameText) (r : BuildingReport) → names ≡ [] → ¬ RepetitionReport names rule.OperationNameCollision r
nothing_repeats names r none report = cut_is_some report.repeats.before report.repeats.after report.again (sym none ∙ report.repeats.split)

abbrev name_of_operation : NameText × OperationDefinition → NameText
name_of_operation p = p.0

-- of the fragments alone
pub report_of_whole : (schema : Option Schema) (tree alone : Document) → HasFragmentsOf tree alone → (r : BuildingReport) →
    DocumentBuildingReport schema alone r → DocumentBuildingReport schema tree r
report_of_whole schema tree alone has r (of_anonymous_operation report) =
    absurd (none_stands report.x (subst (λ l. Contains l report.x) (ap operations_in has ∙ no_operations tree.definitions) report.among))
report_of_whole schema tree alone has r (of_operation_name report) =
    absurd (nothing_repeats (operation_names alone.definitions) r (ap operation_names has ∙ ap (map name_of_operation) (no_operation_names tree.definitions)) report)
report_of_whole schema tree alone has r (of_fragment_name report) =
    of_fragment_name (subst (λ l. RepetitionReport l rule.FragmentNameCollision r) (ap fragment_names has ∙ ap (map name_of) (alone_fragments tree.definitions)) report)
report_of_whole schema tree alone has r (of_definition report) =
    of_definition (report.0, filtered_stands is_fragment tree.definitions report.0 (subst (λ l. Contains l report.0) has report.1), report.2)

-- of the other definitions
pub reports_of_others : (schema : Option Schema) (tree : Document) (reports : List BuildingReport) → All (IsReportOfDefinitions schema (others_in tree.definitions)) reports →
    All (DocumentBuildingReport schema tree) reports
reports_of_others schema tree reports all =
    All-weaker (IsReportOfDefinitions schema (others_in tree.definitions)) (DocumentBuildingReport schema tree)
    (λ r report. of_definition (report.0, filtered_stands (λ d. not (is_fragment d)) tree.definitions report.0 report.1, report.2)) reports all
