use Rattle.std.proofs.Common.{All, List, take}
use Rattle.graphql_trees.specs.declared.type_system.TypeDefinition.{TypeDefinition}
use Rattle.graphql_diagnostics.specs.Reports.{Reports}
use Rattle.graphql_building_reports.specs.Checks.{reports_of}
use Rattle.graphql_schema_checking.specs.Definitions.{type_named}
use Rattle.graphql_schema_checking.specs.SchemaBuilds.{IsNoOtherThanInterface}
use Rattle.graphql_schema_checking.specs.SchemaReports.{NonInterfaceReport}
use Rattle.graphql_repetitions.specs.References.{nows}
use Rattle.graphql_schema_checking.specs.Steps.{AreFirst}
use Rattle.graphql_schema_checking.proofs.checks.check_implemented.Given as goal

abbrev pub invariant-loop-name : goal.invariant-loop-name
invariant-loop-name l = (types : List TypeDefinition) → AreFirst l.first types →
    Reports (All (λ name. IsNoOtherThanInterface (type_named types name)) (nows (take l.name-index l.names)))
    (NonInterfaceReport types (nows l.names)) (reports_of l.initial.reports) (reports_of l.reports)
