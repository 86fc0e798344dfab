use Rattle.std.proofs.Common.{◌≡◌, ◌++◌, ◌∷◌, ◌∙◌, [], None, sym, subst, ap, find}
use Rattle.indexmap.specs.IndexMap.{get}
use Rattle.indexmap.proofs.CallerLemmas.{insert_entry-new}
use Rattle.graphql_nodes.specs.Names.{same_name}
use Rattle.graphql_trees.specs.declared.type_system.DirectiveDefinition.{DirectiveDefinition}
use Rattle.graphql_leaf_building.specs.Definitions.{DirectiveDefinitionSays}
use Rattle.graphql_schema_building.specs.SchemaSays.{DirectivesStand}
use Rattle.graphql_schema_building.proofs.DistinctLemmas.{last_is_new, none_there}
use Rattle.graphql_schema_building.proofs.PartLemmas.{zip_then}
use Rattle.graphql_schema_building.proofs.directives.add_directive_definition.Goals as goal

pub returns : goal.returns
returns c = λ written distinct s.
    let k = c.in_ok-name.name in
    let map = c.args.built.now in
    let d = c.args.tree.now in
    let node = c.in_ok-definition.definition in
    let none : get same_name map k ≡ None =
    none_there (λ (d : DirectiveDefinition). d.name) (λ d entry. (entry.0 ≡ d.name) × DirectiveDefinitionSays d entry.1) (λ d entry q. q.0) written map.entries k s
    (ap (λ n. find (λ (y : DirectiveDefinition). same_name y.name n) written) c.in_ok-name.ensures ∙ last_is_new (λ (d : DirectiveDefinition). d.name) written d distinct) in
    subst (DirectivesStand (written ++ d ∷ [])) (sym (c.in_ok-insert.ensures.entries ∙ insert_entry-new same_name map k node none))
    (zip_then (λ d entry. (entry.0 ≡ d.name) × DirectiveDefinitionSays d entry.1) written (d ∷ []) map.entries ((k, node) ∷ []) s
    ((c.in_ok-name.ensures, c.in_ok-definition.ensures), tt))
