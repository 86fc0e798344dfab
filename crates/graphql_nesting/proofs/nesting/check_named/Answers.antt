use Rattle.std.proofs.Common.{◌≡◌, ◌++◌, ◌∷◌, [], All, List, Option, ap, rules, subst, sym, ◌∙◌, Some}
use Rattle.graphql_nesting.proofs.CheckLemmas.{first_ahead, operations_then}
use Rattle.std.proofs.lemmas.List.{append-nil}
use Rattle.std.proofs.lemmas.List.Elements.{All-append}
use Rattle.indexmap.specs.IndexMap.{values}
use Rattle.graphql_nodes.specs.declared.nodes.Node.{Node}
use Rattle.graphql_documents.specs.Selections.{fragments_of}
use Rattle.graphql_documents.specs.declared.documents.executables.Operation.{Operation}
use Rattle.graphql_documents.proofs.ListLemmas.{done_next}
use Rattle.graphql_nesting.specs.Checks.{ChecksOperations}
use Rattle.graphql_nesting.specs.Nesting.{OperationNests, IsFirstAfter}
use Rattle.graphql_nesting.specs.declared.reports.NestingReport.{NestingReport}
use Rattle.graphql_nesting.proofs.nesting.check_named.Goals as goal

pub returns-in-Some-2 : goal.returns-in-Some-2
returns-in-Some-2 c =
    let document = c.args.document.now in
    let x : Node Operation = c.in-Some.operation.now in
    let i = c.loop-operation.invariant in
    let rest = c.next.new.self in
    let P = OperationNests (fragments_of document) c.args.most in
    let checked = subst (λ (found : Option NestingReport). ChecksOperations c.args.most document (x ∷ []) found) c.in-Some-2.is c.in_ok-report.ensures in
    let (o, first, report) = operations_then document c.args.most i.done (x ∷ []) (Some c.in-Some-2.report) i.nest checked in
    let next : c.loop-operation.operation-iterator ≡ x ∷ rest = c.in-Some.ensures.steps in
    let same : c.into_iter-operation-iterator.result ≡ values document.operations.named = search rules in
    let all = done_next _ i.done c.loop-operation.operation-iterator rest x i.all next in (
      o,
      subst (λ (l : List (Node Operation)). IsFirstAfter P l o) (sym all ∙ same) (first_ahead P (i.done ++ x ∷ []) rest o first),
      report,
    )

pub loop-operation-preserved : goal.loop-operation-preserved
loop-operation-preserved c =
    let document = c.args.document.now in
    let x : Node Operation = c.in-Some.operation.now in
    let i = c.loop-operation.invariant in
    let P = OperationNests (fragments_of document) c.args.most in
    let checked : All P (x ∷ []) = subst (λ (found : Option NestingReport). ChecksOperations c.args.most document (x ∷ []) found) c.in_default.is c.in_ok-report.ensures in
    let next : c.loop-operation.operation-iterator ≡ x ∷ c.next.new.self = c.in-Some.ensures.steps in
    record {
      done = i.done ++ x ∷ [];
      all = done_next _ i.done c.loop-operation.operation-iterator c.next.new.self x i.all next;
      nest = All-append P i.done (x ∷ []) i.nest checked;
    }

pub returns : goal.returns
returns c =
    let document = c.args.document.now in
    let i = c.loop-operation.invariant in
    let P = OperationNests (fragments_of document) c.args.most in
    let none : c.loop-operation.operation-iterator ≡ [] = c.in-None.ensures.steps.0 in
    let same : c.into_iter-operation-iterator.result ≡ values document.operations.named = search rules in
    subst (All P) (sym (append-nil i.done) ∙ ap (λ (l : List (Node Operation)). i.done ++ l) (sym none) ∙ sym i.all ∙ same) i.nest
