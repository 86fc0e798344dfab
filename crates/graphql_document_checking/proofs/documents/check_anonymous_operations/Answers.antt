use Rattle.std.proofs.Common.{◌≡◌, ◌≤◌, ◌<◌, ◌∙◌, All, IsFalse, length, ap, subst, arith}
use Rattle.std.specs.Prelude.{is_none}
use Rattle.std.proofs.lemmas.List.{length-map}
use Rattle.graphql_diagnostics.proofs.ReportLemmas.{ChecksList, checks_words, holds}
use Rattle.graphql_trees.specs.declared.executable.OperationDefinition.{OperationDefinition}
use Rattle.graphql_building_reports.specs.Checks.{reports_of}
use Rattle.graphql_repetitions.specs.References.{nows}
use Rattle.graphql_document_building.specs.Trees.{operations_in}
use Rattle.graphql_document_checking.specs.DocumentReports.{AnonymousOperationReport}
use Rattle.graphql_document_checking.proofs.DocumentLemmas.{few_alone, several_alone}
use Rattle.graphql_document_checking.proofs.documents.check_anonymous_operations.Goals as goal

pub returns-then-len-lt2 : goal.returns-then-len-lt2
returns-then-len-lt2 c =
    let ds = c.args.tree.now.definitions in
    let xs = c.in_ok-operations.operations.items in
    let are : nows xs ≡ operations_in ds = c.in_ok-operations.ensures ∙ ap operations_in c.as_slice.ensures in
    let few : length xs < 2 = omega arith in
    let mapped : length (nows xs) < 2 = rw length-map few in
    holds _ _ _ (few_alone ds (subst (λ l. length l < 2) are mapped))

pub returns : goal.returns
returns c =
    let ds = c.args.tree.now.definitions in
    let xs = c.in_ok-operations.operations.items in
    let are : nows xs ≡ operations_in ds = c.in_ok-operations.ensures ∙ ap operations_in c.as_slice.ensures in
    let several : 2 ≤ length xs = omega arith in
    let mapped : 2 ≤ length (nows xs) = rw length-map several in
    let old = reports_of c.args.reports.now in
    let new = reports_of c.check_all_named.new.reports in
    checks_words c.check_all_named.result _ _ _ _ old new (several_alone ds (subst (λ l. 2 ≤ length l) are mapped)) (λ e q. q)
    (subst (λ l. ChecksList c.check_all_named.result (All (λ (x : OperationDefinition). IsFalse (is_none x.name)) l) (AnonymousOperationReport l) old new)
    (ap nows c.deref.ensures.value ∙ are) c.check_all_named.ensures)
