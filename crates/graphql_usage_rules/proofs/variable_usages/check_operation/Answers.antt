use Rattle.std.proofs.Common.{◌≡◌, ◌∙◌, subst}
use Rattle.graphql_documents.specs.Selections.{fragments_of}
use Rattle.graphql_usage_rules.specs.Parts.{UsedInParts}
use Rattle.graphql_reach.specs.Reached.{names_at}
use Rattle.graphql_usage_rules.specs.Usages.{UsedInScope}
use Rattle.graphql_usage_rules.proofs.PlaceLemmas.{Checked, in_places}
use Rattle.graphql_usage_rules.proofs.ScopeLemmas.{scope_words}
use Rattle.graphql_usage_rules.proofs.variable_usages.check_operation.Goals as goal

pub returns : goal.returns
returns c =
    let s = c.args.schema.now in
    let d = c.args.document.now in
    let o = c.args.operation.now in
    let r = c.check_scope.result in
    let names = names_at c.in_ok-reached.reached.keys in
    let old = c.args.reports.now.kept.items in
    let new = c.check_scope.new.reports.kept.items in
    let variables : c.in_ok-variables.variables ≡ o.variables.items = c.in_ok-variables.ensures ∙ c.deref.ensures.value in
    in_places o.variables.items r (UsedInParts s (fragments_of d) o names) (UsedInScope s (fragments_of d) o) old new
    (scope_words s d o names c.in_ok-reached.ensures)
    (subst (λ v. Checked v r (UsedInParts s (fragments_of d) o names) old new) variables c.check_scope.ensures)
