use Rattle.std.proofs.Common.{◌≡◌, All, Bor, List, rules, map, sym, subst}
use Rattle.std.proofs.lemmas.Result.{MatchResult-from_err}
use Rattle.graphql_documents.specs.Selections.{InExpandedSet, fragments_of}
use Rattle.graphql_documents.specs.Walks.{HasListed, PassesDepth, root_walk}
use Rattle.graphql_nodes.specs.declared.operation_types.OperationType.TheVariants.{Subscription}
use Rattle.graphql_documents.specs.declared.documents.executables.Operation.{Operation}
use Rattle.graphql_documents.specs.declared.documents.executables.Selection.{Selection}
use Rattle.graphql_diagnostics.proofs.ReportLemmas.{kept_wider}
use Rattle.graphql_operations.proofs.SubscriptionLemmas.{each_inside}
use Rattle.graphql_document_rules.proofs.RootLemmas.{bound_reported, keys_checked, roots_checked, says}
use Rattle.graphql_document_rules.proofs.subscriptions.validate_subscription_root.Goals as goal

pub returns-in_err-check_selections : goal.returns-in_err-check_selections
returns-in_err-check_selections c =
    let S = c.args.schema.now in
    let F = fragments_of c.args.document.now in
    let o = c.args.operation.now in
    let xs = c.in_ok-walked.walked.selections.items in
    let is_one : o.value.value.operation_type ≡ Subscription = subst (λ (p : Operation). p.operation_type ≡ Subscription) c.deref.ensures (search rules) in
    let listed = subst (λ (p : Operation). HasListed (InExpandedSet F p.selection_set) (PassesDepth F root_walk p.selection_set) (map (λ (s : Bor Selection). s.now) xs) c.in_ok-walked.walked.complete)
    c.deref-2.ensures c.in_ok-walked.ensures.listed in
    let inside = each_inside c.args.document.now o xs c.in_ok-walked.walked.complete listed in
    MatchResult-from_err _ _ _ c.from_residual-in_err-check_selections.ensures.0
    (λ y. kept_wider (says S F o) (c.in_err-check_selections.ensures S F is_one
    (subst (λ (l : List (Bor Selection)). All (λ (s : Bor Selection). InExpandedSet F o.value.value.selection_set s.now) l) (sym c.deref-3.ensures.value) inside)))

pub returns-then-walked : goal.returns-then-walked
returns-then-walked c =
    let S = c.args.schema.now in
    let D = c.args.document.now in
    let F = fragments_of D in
    let o = c.args.operation.now in
    let xs = c.in_ok-walked.walked.selections.items in
    let is_one : o.value.value.operation_type ≡ Subscription = subst (λ (p : Operation). p.operation_type ≡ Subscription) c.deref.ensures (search rules) in
    let listed = subst (λ (p : Operation). HasListed (InExpandedSet F p.selection_set) (PassesDepth F root_walk p.selection_set) (map (λ (s : Bor Selection). s.now) xs) c.in_ok-walked.walked.complete)
    c.deref-2.ensures c.in_ok-walked.ensures.listed in
    let checked = roots_checked S D o xs c.in_ok-walked.walked.complete listed c.deref-3.result.now c.deref-3.ensures.value _ _ (c.in_ok-check_selections.ensures S F is_one) in
    keys_checked S D o xs c.in_ok-walked.walked.complete listed is_one _ _ _ checked c.check_response_keys.result c.if-walked.true (c.check_response_keys.ensures is_one)

pub returns : goal.returns
returns c =
    let S = c.args.schema.now in
    let D = c.args.document.now in
    let F = fragments_of D in
    let o = c.args.operation.now in
    let xs = c.in_ok-walked.walked.selections.items in
    let is_one : o.value.value.operation_type ≡ Subscription = subst (λ (p : Operation). p.operation_type ≡ Subscription) c.deref.ensures (search rules) in
    let listed = subst (λ (p : Operation). HasListed (InExpandedSet F p.selection_set) (PassesDepth F root_walk p.selection_set) (map (λ (s : Bor Selection). s.now) xs) c.in_ok-walked.walked.complete)
    c.deref-2.ensures c.in_ok-walked.ensures.listed in
    let checked = roots_checked S D o xs c.in_ok-walked.walked.complete listed c.deref-3.result.now c.deref-3.ensures.value _ _ (c.in_ok-check_selections.ensures S F is_one) in
    bound_reported S D o xs c.in_ok-walked.walked.complete listed is_one _ _ _ checked c.push.result c.if-walked.false c.push.ensures.ok c.push.ensures.err
