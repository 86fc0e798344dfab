use Rattle.std.proofs.Common.{length, ap, arith}
use Rattle.graphql_tokens.specs.Scans.{belongs}
use Rattle.graphql_tokens.proofs.ScanLemmas.{run_within, run_cut}
use Rattle.graphql_tokens.proofs.characters.split_run.Goals as goal

pub overflow_sub-text : goal.overflow_sub-text
overflow_sub-text c = omega (arith, run_within (belongs c.args.class) c.args.text.now, ap length c.after_run-rest.ensures)

pub returns : goal.returns
returns c = run_cut (belongs c.args.class) c.args.text.now _ c.after_run-rest.result.now c.after_run-rest.ensures c.split_at.ensures.front
