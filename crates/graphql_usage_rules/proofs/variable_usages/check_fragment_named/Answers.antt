use Rattle.std.proofs.Common.{◌≡◌, Some, rules, subst}
use Rattle.graphql_nodes.specs.declared.nodes.Node.{Node}
use Rattle.graphql_documents.specs.Selections.{fragments_of}
use Rattle.graphql_documents.specs.declared.documents.executables.Fragment.{Fragment}
use Rattle.graphql_usage_rules.specs.Parts.{FragmentUses}
use Rattle.graphql_usage_rules.specs.Usages.{Usage}
use Rattle.graphql_usage_rules.proofs.PlaceLemmas.{Checked, found_checked, not_found}
use Rattle.graphql_usage_rules.proofs.variable_usages.check_fragment_named.Goals as goal

pub returns-in-Some : goal.returns-in-Some
returns-in-Some c =
    let v = c.args.variables.now in
    let r = c.check_fragment.result in
    let old = c.args.reports.now.kept.items in
    let new = c.check_fragment.new.reports.kept.items in
    let d = c.in-Some.fragment.now in
    let In : Node Fragment → Usage → Type 0 = λ d. FragmentUses c.args.schema.now d.value.value in
    let is : fragments_of c.args.document.now c.args.name.now ≡ Some d = search rules in
    found_checked v r (fragments_of c.args.document.now c.args.name.now) In d old new is
    (subst (λ x. Checked v r (FragmentUses c.args.schema.now x) old new) c.deref.ensures c.check_fragment.ensures)

pub returns-in-None : goal.returns-in-None
returns-in-None c =
    let In : Node Fragment → Usage → Type 0 = λ d. FragmentUses c.args.schema.now d.value.value in
    not_found c.args.variables.now (fragments_of c.args.document.now c.args.name.now) In c.args.reports.now.kept.items (search rules)
