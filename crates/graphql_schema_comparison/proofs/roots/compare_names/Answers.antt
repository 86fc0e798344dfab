use Rattle.std.proofs.Common.{◌≡◌, Some, rules, false}
use Rattle.graphql_nodes.specs.Names.{same_name}
use Rattle.graphql_document_building.specs.Trees.{root_name}
use Rattle.graphql_change_kinds.specs.Changes.{root_changed}
use Rattle.graphql_schema_comparison.proofs.roots.compare_names.Goals as goal

pub push-requires : goal.push-requires
push-requires c =
    let was : root_name c.args.pair.old.now c.args.operation ≡ Some c.in_ok-from.from = search rules in
    let is : root_name c.args.pair.new.now c.args.operation ≡ Some c.in_ok-to.to = search rules in
    let other : same_name c.in_ok-from.from c.in_ok-to.to ≡ false = search rules in
    root_changed was is (λ same. let no : ⊥ = cc in no)
