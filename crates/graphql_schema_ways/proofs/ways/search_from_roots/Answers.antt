use Rattle.graphql_schema_ways.proofs.ways.search_from_roots.Goals as goal

pub returns : goal.returns
returns c = c.in_ok-go_on.ensures (c.in_ok-reach_root-3.ensures (c.in_ok-reach_root-2.ensures (c.in_ok-reach_root.ensures c.in_ok-no_steps.ensures)))
