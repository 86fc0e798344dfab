-- What is reported of files that are validated together.
use Rattle.std.specs.Prelude.{◌≡◌, ◌∷◌, ◌++◌, ℕ, [], List, None, Option, Some}
use Rattle.graphql_documents.specs.declared.documents.executables.Operation.{Operation}
use Rattle.graphql_frontend.specs.declared.project_reports.ListOperation.{ListOperation}
use Rattle.graphql_frontend.specs.declared.project_reports.OperationMark.{OperationMark}
use Rattle.graphql_nodes.specs.declared.nodes.Node.{Node}

-- it has the name of the operation, with the place of that, and the operation's own place
pub record IsMarkOf (o : Node Operation) (mark : OperationMark) : Type 0 where
  pub name : mark.name ≡ o.value.value.name
  pub location : mark.location ≡ o.location

-- the operations are the old ones, and that of the list with this position, if it is about one
abbrev pub AddsOperation : Option OperationMark → ℕ → List ListOperation → List ListOperation → Type 0
AddsOperation None list old new = new ≡ old
AddsOperation (Some mark) list old new = new ≡ old ++ record { list = list; operation = mark } ∷ []
