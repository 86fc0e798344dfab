use Rattle.std.proofs.Common.{All, take}
use Rattle.graphql_diagnostics.specs.Diagnostics.{IsDiagnostic, entries}
use Rattle.graphql_diagnostics.specs.Reports.{Reports}
use Rattle.graphql_documents.specs.Schemas.{IsListed}
use Rattle.graphql_implementations.specs.ImplementationSteps.{ListingReport}
use Rattle.graphql_implementations.proofs.names.ListedInterfaces.check_lists_all_of.Given as goal

abbrev pub invariant-loop-further : goal.invariant-loop-further
invariant-loop-further l =
    Reports (All (λ further. IsListed further.name l.self.names.now.keys) (take l.further-index l.further-items))
    (IsDiagnostic (ListingReport l.self)) (entries l.initial.diagnostics) (entries l.diagnostics)
