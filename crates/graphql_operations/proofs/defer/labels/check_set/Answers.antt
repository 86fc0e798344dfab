use Rattle.std.proofs.Common.{◌++◌, Bor, List, map, sym, subst}
use Rattle.std.proofs.lemmas.Result.{MatchResult-from_err}
use Rattle.graphql_documents.specs.declared.documents.directives.Directive.{Directive}
use Rattle.graphql_nodes.specs.declared.nodes.Node.{Node}
use Rattle.graphql_operations.specs.DeferLabels.{HasVisitedDefers}
use Rattle.graphql_operations.proofs.DeferWalkLemmas.{at_visited, at_set, set_cut, set_whole}
use Rattle.graphql_operations.proofs.defer.labels.check_set.Goals as goal

pub returns-in_err-check_labels : goal.returns-in_err-check_labels
returns-in_err-check_labels c = λ document here found done stands on within passed after known later first are_all are_visited so_far.
    let set = c.args.set.now in
    let complete = c.in_ok-written.written.complete in
    let visited = map (λ (d : Bor (Node Directive)). d.now) c.deref.result.now in
    let h = subst (λ (l : List (Bor (Node Directive))). HasVisitedDefers set (map (λ d. d.now) l) complete) (sym c.deref.ensures.value) c.in_ok-written.ensures in
    MatchResult-from_err _ _ _ c.from_residual-in_err-check_labels.ensures.0
    (λ y. c.in_err-check_labels.ensures document passed (h.missed ++ after) known later first (at_set document set stands here on found done within visited complete h passed after are_all)
    (at_visited document set stands here on found done within visited complete h known later are_visited) so_far)

pub returns-then-written : goal.returns-then-written
returns-then-written c = λ document here found done stands on within passed after known later first are_all are_visited so_far.
    let set = c.args.set.now in
    let complete = c.in_ok-written.written.complete in
    let visited = map (λ (d : Bor (Node Directive)). d.now) c.deref.result.now in
    let h = subst (λ (l : List (Bor (Node Directive))). HasVisitedDefers set (map (λ d. d.now) l) complete) (sym c.deref.ensures.value) c.in_ok-written.ensures in
    set_whole document set stands here on found done within visited complete h passed known
    (c.in_ok-check_labels.ensures document passed (h.missed ++ after) known later first (at_set document set stands here on found done within visited complete h passed after are_all)
    (at_visited document set stands here on found done within visited complete h known later are_visited) so_far) c.if-written.true

pub returns : goal.returns
returns c = λ document here found done stands on within passed after known later first are_all are_visited so_far.
    let set = c.args.set.now in
    let complete = c.in_ok-written.written.complete in
    let visited = map (λ (d : Bor (Node Directive)). d.now) c.deref.result.now in
    let h = subst (λ (l : List (Bor (Node Directive))). HasVisitedDefers set (map (λ d. d.now) l) complete) (sym c.deref.ensures.value) c.in_ok-written.ensures in
    set_cut document set stands here on found done within visited complete h passed known
    (c.in_ok-check_labels.ensures document passed (h.missed ++ after) known later first (at_set document set stands here on found done within visited complete h passed after are_all)
    (at_visited document set stands here on found done within visited complete h known later are_visited) so_far)
    c.if-written.false c.push.result _ c.push.ensures.ok c.push.ensures.err
