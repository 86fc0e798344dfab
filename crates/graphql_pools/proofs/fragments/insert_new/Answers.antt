use Rattle.std.proofs.Common.{◌∙◌}
use Rattle.indexmap.proofs.CallerLemmas.{insert_entry-new}
use Rattle.graphql_nodes.specs.Names.{same_name}
use Rattle.graphql_pools.proofs.fragments.insert_new.Goals as goal

pub returns : goal.returns
returns g c = c.in_ok-insert.ensures.entries ∙ insert_entry-new same_name c.args.nodes.now c.args.name c.args.node c.requires
