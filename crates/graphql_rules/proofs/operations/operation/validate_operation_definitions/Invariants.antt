-- The operations so far, and the schema of the context.
use Rattle.std.proofs.Common.{◌≡◌, All, take}
use Rattle.std.specs.Option.{option_copied}
use Rattle.graphql_diagnostics.specs.Diagnostics.{IsLimitEntry, entries}
use Rattle.graphql_specification.specs.Operations.{OperationHolds}
use Rattle.graphql_rules.specs.RuleSets.{HoldsIfOthersAreSilent, OperationHoldsBut}
use Rattle.graphql_diagnostics.specs.Reports.{ReportsWithin}
use Rattle.graphql_operations.specs.Contexts.{schema_of}
use Rattle.graphql_rules.proofs.OperationLemmas.{OperationsEntryReport}
use Rattle.graphql_rules.proofs.operations.operation.validate_operation_definitions.Given as goal

abbrev pub invariant-loop-operation : goal.invariant-loop-operation
invariant-loop-operation l = record {
  checked : ReportsWithin IsLimitEntry
      (All (λ o. OperationHolds (option_copied l.schema) l.document o.now.value.value) (take l.operation-index l.operation-items))
      (OperationsEntryReport (option_copied l.schema) l.document) (entries l.initial.diagnostics) (entries l.diagnostics);
  others : HoldsIfOthersAreSilent
      (λ off. All (λ o. OperationHoldsBut off (option_copied l.schema) l.document o.now.value.value) (take l.operation-index l.operation-items))
      (entries l.initial.diagnostics) (entries l.diagnostics);
  schema : schema_of l.context ≡ option_copied l.schema;
}
