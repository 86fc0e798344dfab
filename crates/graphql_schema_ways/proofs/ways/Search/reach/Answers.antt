use Rattle.std.proofs.Common.{sym}
use Rattle.graphql_schema_ways.proofs.WayLemmas.{step_added}
use Rattle.graphql_schema_ways.proofs.ways.Search.reach.Goals as goal

pub returns-in_ok-push : goal.returns-in_ok-push
returns-in_ok-push c =
    step_added c.args.schema.now c.args.self.now.steps.items c.in-Some.index c.args.step c.args.name.now c.in-Some.field-0-1.now c.in-Some.definition.now
    c.requires c.in-Some.ensures.entry (sym c.in-Some.ensures.key)

pub returns-else-is_composite : goal.returns-else-is_composite
returns-else-is_composite c =
    step_added c.args.schema.now c.args.self.now.steps.items c.in-Some.index c.args.step c.args.name.now c.in-Some.field-0-1.now c.in-Some.definition.now
    c.requires c.in-Some.ensures.entry (sym c.in-Some.ensures.key)
