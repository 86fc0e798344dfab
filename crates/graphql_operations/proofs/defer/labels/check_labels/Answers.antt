use Rattle.std.proofs.Common.{◌+◌, ◌++◌, ◌∷◌, [], Bor, List, map, subst, take}
use Rattle.std.proofs.lemmas.List.{take_all}
use Rattle.std.proofs.lemmas.Result.{MatchResult-from_err}
use Rattle.graphql_specification.specs.Defer.{DefersIn, DefersVisitedIn}
use Rattle.graphql_diagnostics.specs.Diagnostics.{entries}
use Rattle.graphql_documents.specs.declared.documents.directives.Directive.{Directive}
use Rattle.graphql_nodes.specs.declared.nodes.Node.{Node}
use Rattle.graphql_operations.specs.DeferLabels.{LabelsSoFar}
use Rattle.graphql_operations.proofs.DeferWalkLemmas.{behind, refs_at, refs_more}
use Rattle.graphql_operations.proofs.defer.labels.check_labels.Goals as goal

pub returns-in_err-check_label : goal.returns-in_err-check_label
returns-in_err-check_label c = λ document passed after visited later first are_all are_visited so_far.
    let xs = c.args.applications.now in
    let i = c.loop-application.application-index in
    let x = c.application-item.result in
    let in' = c.loop-application-test.true in
    let item = c.application-item.is in
    MatchResult-from_err _ _ _ c.from_residual.ensures.0
    (λ y. c.in_err-check_label.ensures document _ (behind xs i x in' item ++ after) _ (behind xs i x in' item ++ later) first
    (subst (DefersIn document) (refs_at xs i x in' item passed after) are_all) (subst (DefersVisitedIn document) (refs_at xs i x in' item visited later) are_visited)
    (c.loop-application.invariant document passed after visited later first are_all are_visited so_far))

pub loop-application-preserved : goal.loop-application-preserved
loop-application-preserved c = λ document passed after visited later first are_all are_visited so_far.
    let xs = c.args.applications.now in
    let i = c.loop-application.application-index in
    let x = c.application-item.result in
    let in' = c.loop-application-test.true in
    let item = c.application-item.is in
    let refs = λ (l : List (Bor (Node Directive))). map (λ d. d.now) l in
    subst (λ l. LabelsSoFar document l (visited ++ refs (take (i + 1) xs)) c.check_label.new.labels first (entries c.check_label.new.diagnostics)) (refs_more xs i x in' item passed)
    (subst (λ l. LabelsSoFar document ((passed ++ refs (take i xs)) ++ x.now ∷ []) l c.check_label.new.labels first (entries c.check_label.new.diagnostics)) (refs_more xs i x in' item visited)
    (c.in_ok-check_label.ensures document _ (behind xs i x in' item ++ after) _ (behind xs i x in' item ++ later) first
    (subst (DefersIn document) (refs_at xs i x in' item passed after) are_all) (subst (DefersVisitedIn document) (refs_at xs i x in' item visited later) are_visited)
    (c.loop-application.invariant document passed after visited later first are_all are_visited so_far)))

pub returns : goal.returns
returns c = λ document passed after visited later first are_all are_visited so_far.
    let refs = λ (l : List (Bor (Node Directive))). map (λ d. d.now) l in
    subst (λ (l : List (Bor (Node Directive))). LabelsSoFar document (passed ++ refs l) (visited ++ refs l) c.loop-application.labels first (entries c.loop-application.diagnostics))
    (take_all c.loop-application.application-index c.args.applications.now c.loop-application-test.false)
    (c.loop-application.invariant document passed after visited later first are_all are_visited so_far)
