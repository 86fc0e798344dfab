use Rattle.std.proofs.Common.{◌≡◌, ◌++◌, List, All}
use Rattle.graphql_diagnostics.specs.Diagnostics.{IsDiagnostic, entries}
use Rattle.graphql_diagnostics.specs.Reports.{Reports}
use Rattle.graphql_implementations.specs.ImplementationSteps.{FieldEntry, FieldRuleHolds, FieldRuleReport}
use Rattle.graphql_implementations.proofs.listed_fields.check_interface.Given as goal

abbrev pub invariant-loop-name : goal.invariant-loop-name
invariant-loop-name l = record {
  can_next : (goal.iterator-loop-name).can_next l.name-iterator;
  is_finite : (goal.iterator-loop-name).is_finite l.name-iterator;
  done : List FieldEntry;
  all : l.initial.name-iterator ≡ done ++ l.name-iterator;
  checked : Reports (All (FieldRuleHolds l.implementer l.rule) done)
      (IsDiagnostic (FieldRuleReport l.implementer l.rule)) (entries l.initial.diagnostics) (entries l.diagnostics);
}
