use Rattle.std.proofs.Common.{subst}
use Rattle.std.specs.Prelude.{◌⊎◌}
use mathlib.Core.Logic.{inl}
use Rattle.graphql_diagnostics.proofs.ReportLemmas.{kept_wider}
use Rattle.graphql_documents.specs.Selections.{fragments_of}
use Rattle.graphql_usage_rules.specs.Parts.{SetUses, UsedInFragments}
use Rattle.graphql_reach.specs.Reached.{names_at}
use Rattle.graphql_usage_rules.specs.Usages.{Usage, UsedInDirectives}
use Rattle.graphql_usage_rules.proofs.PlaceLemmas.{Kept, Reported, first_refused, moved, second_refused, then_checked}
use Rattle.graphql_usage_rules.proofs.variable_usages.check_scope.Goals as goal

pub returns-in_err-check_directives : goal.returns-in_err-check_directives
returns-in_err-check_directives c =
    let v = c.args.variables.now in
    let s = c.args.schema.now in
    let o = c.args.operation.now in
    let Rest : Usage → Type 0 = λ u. SetUses s o.selection_set u ⊎ UsedInFragments s (fragments_of c.args.document.now) (names_at c.args.reached.now.keys) u in
    let old = c.args.reports.now.kept.items in
    let new = c.check_directives.new.reports.kept.items in
    first_refused v c.from_residual.result (UsedInDirectives s o.directives.items) Rest old new c.from_residual.ensures.0
    (subst (λ l. Kept v (UsedInDirectives s l) old new) c.deref.ensures.value c.in_err-check_directives.ensures)

pub returns-in_err-check_selection_set : goal.returns-in_err-check_selection_set
returns-in_err-check_selection_set c =
    let v = c.args.variables.now in
    let s = c.args.schema.now in
    let o = c.args.operation.now in
    let Rest : Usage → Type 0 = λ u. SetUses s o.selection_set u ⊎ UsedInFragments s (fragments_of c.args.document.now) (names_at c.args.reached.now.keys) u in
    let old = c.args.reports.now.kept.items in
    let mid = c.check_directives.new.reports.kept.items in
    let new = c.check_selection_set.new.reports.kept.items in
    second_refused v c.from_residual-in_err-check_selection_set.result (UsedInDirectives s o.directives.items) Rest old mid new
    c.from_residual-in_err-check_selection_set.ensures.0
    (subst (λ l. Reported v (UsedInDirectives s l) old mid) c.deref.ensures.value c.in_ok-check_directives.ensures)
    (kept_wider (moved v (λ u p. inl p)) c.in_err-check_selection_set.ensures)

pub returns : goal.returns
returns c =
    let v = c.args.variables.now in
    let s = c.args.schema.now in
    let o = c.args.operation.now in
    let r = c.check_fragments.result in
    let Last : Usage → Type 0 = UsedInFragments s (fragments_of c.args.document.now) (names_at c.args.reached.now.keys) in
    let old = c.args.reports.now.kept.items in
    let first = c.check_directives.new.reports.kept.items in
    let second = c.check_selection_set.new.reports.kept.items in
    let new = c.check_fragments.new.reports.kept.items in
    then_checked v r (UsedInDirectives s o.directives.items) (λ u. SetUses s o.selection_set u ⊎ Last u) old first new
    (subst (λ l. Reported v (UsedInDirectives s l) old first) c.deref.ensures.value c.in_ok-check_directives.ensures)
    (then_checked v r (SetUses s o.selection_set) Last first second new c.in_ok-check_selection_set.ensures c.check_fragments.ensures)
