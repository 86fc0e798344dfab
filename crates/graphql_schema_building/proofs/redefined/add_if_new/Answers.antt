use Rattle.std.proofs.Common.{◌≡◌, Bor, None, refl, sym, ap, ◌∙◌, true≢false, rules}
use Rattle.std.specs.Option.{is_some}
use Rattle.indexmap.specs.IndexMap.{get_by}
use Rattle.graphql_nodes.specs.Names.{NameText, same_name}
use Rattle.graphql_variables.proofs.FirstPlaceLemmas.{none_mapped}
use Rattle.graphql_trees.specs.declared.type_system.DirectiveDefinition.{DirectiveDefinition}
use Rattle.graphql_schema_building.proofs.FoundLemmas.{first_with, first_without}
use Rattle.graphql_schema_building.proofs.redefined.add_if_new.Goals as goal

pub returns-in_ok-insert : goal.returns-in_ok-insert
returns-in_ok-insert c = λ before f.
    let n = c.args.directive.now.name in
    let none : get_by (λ b. same_name n b.now) c.args.found.now ≡ None = search rules in
    first_with n c.args.directive refl none
    (λ other. let key : Bor NameText = record { ref_ptr = (0, 0); now = other } in c.in_ok-insert.ensures.updates.0 key) f

pub returns-else-not-contains_key : goal.returns-else-not-contains_key
returns-else-not-contains_key c = λ before f.
    let n = c.args.directive.now.name in
    let some : ¬ (get_by (λ b. same_name n b.now) c.args.found.now ≡ None) =
    λ none. true≢false (sym c.if-not-contains_key.false ∙ c.contains_key.ensures ∙ ap is_some none) in
    first_without c.args.directive.now
    (λ none. some (none_mapped (λ (b : Bor DirectiveDefinition). b.now) (get_by (λ b. same_name n b.now) c.args.found.now) (f.look_up n ∙ none))) f
