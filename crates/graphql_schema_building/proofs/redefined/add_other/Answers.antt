use Rattle.std.proofs.Common.{◌≡◌, ◌++◌, ◌∷◌, ◌∙◌, [], true, false, cond, ap, sym}
use Rattle.std.specs.Prelude.{not}
use Rattle.std.specs.List.{list_any}
use Rattle.std.proofs.lemmas.List.{append-nil, map-append}
use Rattle.graphql_nodes.specs.Names.{same_name}
use Rattle.graphql_trees.specs.declared.type_system.DirectiveDefinition.{DirectiveDefinition}
use Rattle.graphql_repetitions.specs.References.{nows}
use Rattle.graphql_schema_building.proofs.FoundLemmas.{is_named}
use Rattle.graphql_schema_building.proofs.redefined.add_other.Goals as goal

pub returns-in_ok-push : goal.returns-in_ok-push
returns-in_ok-push c = λ all f.
    let d = c.args.directive.now in
    let none : list_any (λ (o : DirectiveDefinition). same_name o.name d.name) all ≡ false =
    sym (is_named d.name f) ∙ sym c.contains_key.ensures ∙ c.if-not-contains_key.true in
    ap nows c.in_ok-push.ensures.items ∙ map-append (λ r. r.now) c.args.said.now.items (c.args.directive ∷ []) ∙
    ap (λ b. nows c.args.said.now.items ++ cond (not b) (d ∷ []) []) (sym none)

pub returns-else-not-contains_key : goal.returns-else-not-contains_key
returns-else-not-contains_key c = λ all f.
    let d = c.args.directive.now in
    let some : list_any (λ (o : DirectiveDefinition). same_name o.name d.name) all ≡ true =
    sym (is_named d.name f) ∙ sym c.contains_key.ensures ∙ c.if-not-contains_key.false in
    sym (append-nil (nows c.args.said.now.items)) ∙ ap (λ b. nows c.args.said.now.items ++ cond (not b) (d ∷ []) []) (sym some)
