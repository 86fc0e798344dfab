use Rattle.std.proofs.Common.{◌∙◌}
use Rattle.graphql_tokens.specs.Scans.{belongs}
use Rattle.graphql_tokens.proofs.LoadLemmas.{load_within, load_passed, load_ended}
use Rattle.graphql_tokens.proofs.characters.after_run.Goals as goal

pub split_at-requires : goal.split_at-requires
split_at-requires c = load_within (belongs c.args.class) c.loop-rest.rest.now c.run_in_load-run.result c.loop-rest-test.true c.run_in_load-run.ensures

pub returns-then-run-lt-LANES : goal.returns-then-run-lt-LANES
returns-then-run-lt-LANES c =
    load_ended (belongs c.args.class) c.loop-rest.rest.now _ c.run_in_load-run.result c.loop-rest-test.true c.run_in_load-run.ensures c.split_at.ensures.back
    c.if-run-lt-LANES.true ∙ c.loop-rest.invariant

pub loop-rest-preserved : goal.loop-rest-preserved
loop-rest-preserved c =
    load_passed (belongs c.args.class) c.loop-rest.rest.now _ c.run_in_load-run.result c.loop-rest-test.true c.run_in_load-run.ensures c.split_at.ensures.back
    c.if-run-lt-LANES.false ∙ c.loop-rest.invariant
