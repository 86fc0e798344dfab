use Rattle.graphql_change_kinds.specs.Changes.{IsApplicable}
use Rattle.std.proofs.Common.{◌≡◌, ◌∙◌, false, sym, subst, true, Option}
use Rattle.std.specs.Prelude.{Any, IsSomeAnd, IsTrue, ◌↔◌}
use Rattle.graphql_nodes.specs.declared.directive_locations.DirectiveLocation.{DirectiveLocation}
use Rattle.graphql_nodes.specs.declared.nodes.Node.{Node}
use Rattle.graphql_documents.specs.declared.documents.definitions.DirectiveDefinition.{DirectiveDefinition}
use Rattle.graphql_schema_parts.specs.Locations.{is_in_documents}
use Rattle.graphql_schema_comparison.specs.Comparisons.{KeepsApplications}
use Rattle.graphql_change_kinds.proofs.FindsLemmas.{found_words}
use Rattle.graphql_schema_comparison.proofs.directives.compare_old_directive.Goals as goal

pub returns-in_ok-compare_two_directives-in-Some : goal.returns-in_ok-compare_two_directives-in-Some
returns-in_ok-compare_two_directives-in-Some c =
    found_words (λ merging kept any. subst (λ (o : Option (Node DirectiveDefinition)). IsSomeAnd o (λ (after : Node DirectiveDefinition). KeepsApplications c.args.old.now.value.value after.value.value))
    c.in-Some.ensures.value
    (kept (c.is_executable-is_executable.ensures.1
    (subst (λ (d : DirectiveDefinition). Any (λ (place : DirectiveLocation). IsTrue (is_in_documents place)) d.locations.items) (sym c.deref.ensures) any))))
    c.in_ok-compare_two_directives-in-Some.ensures

pub returns-in_ok-push_removed_directive-in-None : goal.returns-in_ok-push_removed_directive-in-None
returns-in_ok-push_removed_directive-in-None c =
    found_words (λ merging other any. absurd (
    let is = c.is_executable-is_executable.ensures.1
    (subst (λ (d : DirectiveDefinition). Any (λ (place : DirectiveLocation). IsTrue (is_in_documents place)) d.locations.items) (sym c.deref.ensures) any) in
    let e : false ≡ true = sym other ∙ is in let none : ⊥ = cc in none))
    c.in_ok-push_removed_directive-in-None.ensures

pub compare_two_directives-requires-clause-applicable : goal.compare_two_directives-requires-clause-applicable
compare_two_directives-requires-clause-applicable c =
    (c.args.old.now, c.requires, subst (λ (d : DirectiveDefinition). IsTrue c.is_executable-is_executable.result ↔ IsApplicable d) c.deref.ensures c.is_executable-is_executable.ensures)

pub push_removed_directive-requires-clause-applicable : goal.push_removed_directive-requires-clause-applicable
push_removed_directive-requires-clause-applicable c =
    (c.args.old.now, c.requires, subst (λ (d : DirectiveDefinition). IsTrue c.is_executable-is_executable.result ↔ IsApplicable d) c.deref.ensures c.is_executable-is_executable.ensures)
