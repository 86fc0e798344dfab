use Rattle.std.proofs.Common.{subst}
use Rattle.graphql_documents.specs.declared.documents.executables.Operation.{Operation}
use Rattle.graphql_nesting.specs.Written.{AreWrittenLevels}
use Rattle.graphql_nesting.proofs.CheckLemmas.{operation_checked}
use Rattle.graphql_nesting.proofs.nesting.check_operation.Goals as goal

pub returns : goal.returns
returns c =
    let document = c.args.document.now in
    let o = c.args.operation.now in
    let written = subst (λ (x : Operation). AreWrittenLevels document x.selection_set c.in_ok-written.written) c.deref.ensures c.in_ok-written.ensures in
    operation_checked document c.args.most o c.in_ok-written.written.levels c.in_ok-levels_of.field-0 c.unwrap_or-levels.result c.report_of.result written.levels
    (c.in_ok-levels_of.ensures document o.value.value.selection_set c.requires written) c.unwrap_or-levels.ensures c.report_of.ensures
