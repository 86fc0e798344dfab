use Rattle.std.proofs.Common.{All, Contains, List, take}
use Rattle.graphql_diagnostics.specs.Reports.{Reports}
use Rattle.graphql_trees.specs.declared.documents.Definition.{Definition}
use Rattle.graphql_building_reports.specs.Checks.{reports_of}
use Rattle.graphql_schema_checking.specs.Definitions.{type_extensions, types}
use Rattle.graphql_schema_checking.specs.SchemaBuilds.{HasDistinctParts}
use Rattle.graphql_schema_checking.specs.SchemaReports.{DefinitionsReport}
use Rattle.graphql_repetitions.specs.References.{nows}
use Rattle.graphql_schema_checking.specs.Steps.{FindsAll}
use Rattle.graphql_schema_checking.proofs.checks.check_all_parts.Given as goal

abbrev pub invariant-loop-definition : goal.invariant-loop-definition
invariant-loop-definition l = (definitions : List Definition) → All (Contains (types definitions)) (nows l.first) → FindsAll l.found (type_extensions definitions) →
    Reports (All (HasDistinctParts definitions) (nows (take l.definition-index l.first))) (DefinitionsReport definitions) (reports_of l.initial.reports) (reports_of l.reports)
