use Rattle.std.proofs.Common.{All, List, take}
use Rattle.graphql_trees.specs.declared.type_system.TypeDefinition.{TypeDefinition}
use Rattle.graphql_diagnostics.specs.Reports.{Reports}
use Rattle.graphql_building_reports.specs.Checks.{reports_of}
use Rattle.graphql_schema_checking.specs.Definitions.{name_of, type_named}
use Rattle.graphql_schema_checking.specs.SchemaBuilds.{IsOfKind}
use Rattle.graphql_schema_checking.specs.SchemaReports.{ExtensionReport}
use Rattle.graphql_repetitions.specs.References.{nows}
use Rattle.graphql_schema_checking.specs.Steps.{AreFirst}
use Rattle.graphql_schema_checking.proofs.checks.check_type_extensions.Given as goal

abbrev pub invariant-loop-extension : goal.invariant-loop-extension
invariant-loop-extension l = (types : List TypeDefinition) → AreFirst l.first types →
    Reports (All (λ e. IsOfKind (type_named types (name_of e)) e) (nows (take l.extension-index l.extensions)))
    (ExtensionReport types (nows l.extensions)) (reports_of l.initial.reports) (reports_of l.reports)
