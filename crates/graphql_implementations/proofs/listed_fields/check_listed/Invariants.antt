use Rattle.std.proofs.Common.{All, take}
use Rattle.graphql_diagnostics.specs.Diagnostics.{IsDiagnostic, entries}
use Rattle.graphql_diagnostics.specs.Reports.{Reports}
use Rattle.graphql_implementations.specs.ImplementationSteps.{FieldRuleHolds, FieldRuleReport, OfEachField}
use Rattle.graphql_implementations.proofs.listed_fields.check_listed.Given as goal

abbrev pub invariant-loop-listed : goal.invariant-loop-listed
invariant-loop-listed l =
    Reports (All (λ listed. OfEachField l.implementer.schema.now listed.name (FieldRuleHolds l.implementer l.rule)) (take l.listed-index l.listed-items))
    (IsDiagnostic (FieldRuleReport l.implementer l.rule)) (entries l.initial.diagnostics) (entries l.diagnostics)
