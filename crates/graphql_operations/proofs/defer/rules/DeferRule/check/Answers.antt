use Rattle.std.proofs.Common.{Bor, List, map, refl, subst, sym}
use mathlib.Core.Logic.{inl, inr}
use Rattle.graphql_diagnostics.specs.Diagnostics.{IsLimitEntry, limit_of_walk}
use Rattle.graphql_documents.specs.Selections.{fragments_of}
use Rattle.graphql_documents.specs.Walks.{HasListed, PassesDepth}
use Rattle.graphql_documents.specs.declared.documents.executables.Selection.{Selection}
use Rattle.graphql_diagnostics.proofs.ReportLemmas.{kept_by, kept_wider, wider}
use Rattle.graphql_diagnostics.proofs.ReportWithinLemmas.{checks_refused_within, in_words_within, within}
use Rattle.graphql_operations.proofs.OperationDeferLemmas.{checks_to_limit, rule_broken, rule_decided}
use Rattle.graphql_operations.specs.OperationDefers.{IsVisited, walk_of}
use Rattle.graphql_operations.proofs.defer.rules.DeferRule.check.Goals as goal

pub returns-in_err-check_selections : goal.returns-in_err-check_selections
returns-in_err-check_selections c =
    let r = c.args.self in
    let fragments = fragments_of c.args.document.now in
    let set = c.args.set.now in
    let Listed = λ (l : List (Bor Selection)). HasListed (IsVisited r fragments set) (PassesDepth fragments (walk_of r) set) (map (λ s. s.now) l) c.in_ok-walked.walked.complete in
    let listed = subst Listed (sym c.deref.ensures.value) c.in_ok-walked.ensures in
    checks_refused_within IsLimitEntry _ _ _ _ _ c.from_residual-in_err-check_selections.ensures.0
    (kept_wider (λ e breaks. inl (rule_broken r fragments set c.deref.result.now listed e breaks)) c.in_err-check_selections.ensures)

pub returns-then-walked : goal.returns-then-walked
returns-then-walked c =
    let r = c.args.self in
    let fragments = fragments_of c.args.document.now in
    let set = c.args.set.now in
    let Listed = λ (l : List (Bor Selection)). HasListed (IsVisited r fragments set) (PassesDepth fragments (walk_of r) set) (map (λ s. s.now) l) c.in_ok-walked.walked.complete in
    let listed = subst Listed (sym c.deref.ensures.value) c.in_ok-walked.ensures in
    in_words_within IsLimitEntry (rule_decided r fragments set c.deref.result.now listed c.if-walked.true)
    (within IsLimitEntry (wider (λ e breaks. inl (rule_broken r fragments set c.deref.result.now listed e breaks)) c.in_ok-check_selections.ensures))

pub returns : goal.returns
returns c =
    let r = c.args.self in
    let fragments = fragments_of c.args.document.now in
    let set = c.args.set.now in
    let Listed = λ (l : List (Bor Selection)). HasListed (IsVisited r fragments set) (PassesDepth fragments (walk_of r) set) (map (λ s. s.now) l) c.in_ok-walked.walked.complete in
    let listed = subst Listed (sym c.deref.ensures.value) c.in_ok-walked.ensures in
    checks_to_limit IsLimitEntry _ _ _ _ _ _ _
    (kept_wider (λ e breaks. inl (rule_broken r fragments set c.deref.result.now listed e breaks)) (kept_by c.in_ok-check_selections.ensures))
    c.push.ensures.ok c.push.ensures.err limit_of_walk
    (inr (record { passes = listed.bound c.if-walked.false; details_are = refl; at_is = refl }))
