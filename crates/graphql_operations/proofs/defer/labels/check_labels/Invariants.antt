use Rattle.std.proofs.Common.{◌++◌, List, map, take}
use Rattle.graphql_specification.specs.Defer.{DefersIn, DefersVisitedIn}
use Rattle.graphql_diagnostics.specs.Diagnostics.{entries}
use Rattle.graphql_diagnostics.specs.declared.lists.DiagnosticEntry.{DiagnosticEntry}
use Rattle.graphql_documents.specs.declared.documents.directives.Directive.{Directive}
use Rattle.graphql_documents.specs.declared.documents.executables.ExecutableDocument.{ExecutableDocument}
use Rattle.graphql_nodes.specs.declared.nodes.Node.{Node}
use Rattle.graphql_operations.specs.DeferLabels.{LabelsSoFar}
use Rattle.graphql_operations.proofs.defer.labels.check_labels.Given as goal

abbrev pub invariant-loop-application : goal.invariant-loop-application
invariant-loop-application l =
    (document : ExecutableDocument) (passed after visited later : List (Node Directive)) (first : List DiagnosticEntry) →
    DefersIn document (passed ++ (map (λ d. d.now) l.applications ++ after)) →
    DefersVisitedIn document (visited ++ (map (λ d. d.now) l.applications ++ later)) →
    LabelsSoFar document passed visited l.initial.labels first (entries l.initial.diagnostics) →
    LabelsSoFar document (passed ++ map (λ d. d.now) (take l.application-index l.applications))
    (visited ++ map (λ d. d.now) (take l.application-index l.applications)) l.labels first (entries l.diagnostics)
