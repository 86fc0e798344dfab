use Rattle.std.proofs.Common.{◌≡◌, ◌∙◌, None}
use Rattle.indexmap.specs.IndexMap.{get}
use Rattle.indexmap.proofs.CallerLemmas.{insert_entry-new}
use Rattle.graphql_nodes.specs.Names.{same_name}
use Rattle.graphql_leaf_building.specs.Definitions.{EnumValueSays}
use Rattle.graphql_schema_building.proofs.DistinctLemmas.{entry_is_new}
use Rattle.graphql_schema_building.proofs.PartLemmas.{entry_more}
use Rattle.graphql_schema_building.proofs.parts.add_value.Goals as goal

pub returns : goal.returns
returns c = λ written distinct s.
    let k = c.in_ok-name.name in
    let map = c.args.values.now in
    let none : get same_name map k ≡ None =
    entry_is_new (λ x. x.name) EnumValueSays written (c.args.origin, c.args.tree.now) map.entries k c.in_ok-name.ensures distinct s in
    entry_more (λ x. x.name) EnumValueSays c.args.origin written map.entries c.insert.new.self.entries c.args.tree.now k c.in_ok-node.node s
    c.in_ok-name.ensures c.in_ok-node.ensures
    (c.in_ok-insert.ensures.entries ∙ insert_entry-new same_name map k (record { origin = c.args.origin; node = c.in_ok-node.node }) none)
