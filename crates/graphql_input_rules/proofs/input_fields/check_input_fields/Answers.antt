use Rattle.indexmap.specs.IndexMap.{values}
use Rattle.graphql_nodes.specs.declared.nodes.Node.{Node}
use Rattle.graphql_documents.specs.Executables.{operations_of}
use Rattle.graphql_documents.specs.declared.documents.executables.Fragment.{Fragment}
use Rattle.graphql_documents.specs.declared.documents.executables.Operation.{Operation}
use Rattle.graphql_documents.specs.declared.documents.values.Value.{Value}
use Rattle.graphql_documents.specs.declared.documents.values.Value.TheVariants as literal
use Rattle.graphql_diagnostics.proofs.ReportLemmas.{kept_wider}
use Rattle.graphql_input_rules.specs.Selections.{OperationsWrite}
use Rattle.graphql_input_rules.specs.ValuesWritten.{FragmentWrites, OperationWrites}
use Rattle.graphql_input_rules.proofs.DocumentLemmas.{operations_among}
use Rattle.graphql_input_rules.proofs.PlaceLemmas.{Among, first_refused, moved, reported_in, then_checked}
use Rattle.graphql_input_rules.proofs.input_fields.check_input_fields.Goals as goal

abbrev InOperation : Node Operation → Value → Type 0
InOperation x v = OperationWrites x.value.value v

abbrev InFragment : Node Fragment → Value → Type 0
InFragment x v = FragmentWrites x.value.value v

pub returns-in_err-check_operations : goal.returns-in_err-check_operations
returns-in_err-check_operations c =
    let d = c.args.document.now in
    first_refused c.from_residual.result (Among InOperation (operations_of d)) (Among InFragment (values d.fragments)) c.args.reports.now.kept.items
    c.check_operations.new.reports.kept.items c.from_residual.ensures.0
    (kept_wider (moved (λ v w. (operations_among d v).0 w)) c.in_err-check_operations.ensures)

pub returns : goal.returns
returns c =
    let d = c.args.document.now in
    let old = c.args.reports.now.kept.items in
    let mid = c.check_operations.new.reports.kept.items in
    then_checked c.check_fragments.result (Among InOperation (operations_of d)) (Among InFragment (values d.fragments)) old mid c.check_fragments.new.reports.kept.items
    (reported_in (OperationsWrite d.operations) (Among InOperation (operations_of d)) old mid (λ v w. (operations_among d v).0 w)
    (λ e w. (operations_among d (literal.Object e)).1 w) c.in_ok-check_operations.ensures) c.check_fragments.ensures
