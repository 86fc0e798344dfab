use Rattle.std.proofs.Common.{◌≡◌, ◌∙◌, Option, None, Some, ap, find, sym}
use Rattle.std.specs.Prelude.{unwrap_or}
use Rattle.std.specs.Option.{option_copied}
use Rattle.indexmap.specs.IndexMap.{get_by}
use Rattle.graphql_nodes.specs.Names.{same_name}
use Rattle.graphql_trees.specs.declared.type_system.DirectiveDefinition.{DirectiveDefinition}
use Rattle.graphql_schema_building.proofs.redefined.in_place_of.Goals as goal

pub returns-in-Some : goal.returns-in-Some
returns-in-Some c = λ all f.
    let d = c.args.directive.now in
    let there : get_by (λ b. same_name d.name b.now) c.args.own.now ≡ Some c.in-Some.own.now = sym c.in-Some.ensures.value in
    let found : find (λ (o : DirectiveDefinition). same_name o.name d.name) all ≡ Some c.in-Some.own.now.now = sym (f.look_up d.name) ∙ ap option_copied there in
    sym (ap (λ (o : Option DirectiveDefinition). unwrap_or o d) found)

pub returns-in-None : goal.returns-in-None
returns-in-None c = λ all f.
    let d = c.args.directive.now in
    let there : get_by (λ b. same_name d.name b.now) c.args.own.now ≡ None = sym c.in-None.ensures.value in
    let found : find (λ (o : DirectiveDefinition). same_name o.name d.name) all ≡ None = sym (f.look_up d.name) ∙ ap option_copied there in
    sym (ap (λ (o : Option DirectiveDefinition). unwrap_or o d) found)
