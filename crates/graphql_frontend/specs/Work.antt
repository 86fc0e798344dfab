-- What is reported of a document whose fields take too much work to compare. Specification: 5.3.2 Field Selection Merging.
use Rattle.std.specs.Prelude.{◌≡◌, ◌<◌, ◌++◌, ℕ, List, [], ◌∷◌, Option, None, codes, decimal}
use Rattle.graphql_documents.specs.Executables.{operations_of}
use Rattle.graphql_documents.specs.declared.documents.executables.ExecutableDocument.{ExecutableDocument}
use Rattle.graphql_documents.specs.declared.documents.executables.Operation.{Operation}
use Rattle.graphql_nodes.specs.declared.nodes.Node.{Node}
use Rattle.graphql_nodes.specs.declared.spans.SourceSpan.{SourceSpan}
use Rattle.graphql_parser.specs.declared.bounds.Bounds.{Bounds}
use Rattle.graphql_frontend.specs.declared.work.WorkReport.{WorkReport}

-- the message of a report
abbrev pub work_message : WorkReport → List ℕ
work_message report =
    codes "takes too much: " ++ (decimal report.counted ++ (codes " steps to compare the fields that come together, at most " ++ decimal report.most))

-- where the first operation is
abbrev pub first_location : List (Node Operation) → Option SourceSpan
first_location [] = None
first_location (operation ∷ operations) = operation.location

-- more work was counted than the bounds allow
pub record IsWorkReport (bounds : Bounds) (document : ExecutableDocument) (report : WorkReport) : Type 0 where
  pub bound : report.most ≡ bounds.work
  pub passed : report.most < report.counted
  pub place : report.location ≡ first_location (operations_of document)
