use Rattle.std.proofs.Common.{subst}
use Rattle.graphql_usage_rules.specs.Parts.{SetUses}
use Rattle.graphql_usage_rules.specs.Usages.{UsedInDirectives}
use Rattle.graphql_usage_rules.proofs.PlaceLemmas.{Kept, Reported, first_refused, then_checked}
use Rattle.graphql_usage_rules.proofs.selections.check_fragment.Goals as goal

pub returns-in_err-check_directives : goal.returns-in_err-check_directives
returns-in_err-check_directives c =
    let v = c.args.variables.now in
    let f = c.args.fragment.now in
    let old = c.args.reports.now.kept.items in
    let new = c.check_directives.new.reports.kept.items in
    first_refused v c.from_residual.result (UsedInDirectives c.args.schema.now f.directives.items) (SetUses c.args.schema.now f.selection_set) old new
    c.from_residual.ensures.0 (subst (λ l. Kept v (UsedInDirectives c.args.schema.now l) old new) c.deref.ensures.value c.in_err-check_directives.ensures)

pub returns : goal.returns
returns c =
    let v = c.args.variables.now in
    let f = c.args.fragment.now in
    let old = c.args.reports.now.kept.items in
    let mid = c.check_directives.new.reports.kept.items in
    then_checked v c.check_selection_set.result (UsedInDirectives c.args.schema.now f.directives.items) (SetUses c.args.schema.now f.selection_set) old mid
    c.check_selection_set.new.reports.kept.items
    (subst (λ l. Reported v (UsedInDirectives c.args.schema.now l) old mid) c.deref.ensures.value c.in_ok-check_directives.ensures) c.check_selection_set.ensures
