use Rattle.std.proofs.Common.{All, take}
use Rattle.graphql_diagnostics.specs.Diagnostics.{IsDiagnostic, entries}
use Rattle.graphql_diagnostics.specs.Reports.{Reports}
use Rattle.graphql_implementations.specs.ImplementationSteps.{ListingReport, ListsAllOf}
use Rattle.graphql_implementations.proofs.names.ListedInterfaces.check_transitive.Given as goal

abbrev pub invariant-loop-listed : goal.invariant-loop-listed
invariant-loop-listed l =
    Reports (All (λ listed. ListsAllOf l.self.schema.now l.self.names.now.keys listed) (take l.listed-index l.listed-items))
    (IsDiagnostic (ListingReport l.self)) (entries l.initial.diagnostics) (entries l.diagnostics)
