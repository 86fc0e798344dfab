use Rattle.std.proofs.Common.{◌≡◌}
use Rattle.graphql_strings.specs.Scans.{ended, block_bytes_at}
use Rattle.graphql_strings.proofs.ValueLemmas.{plain_block_read}
use Rattle.graphql_strings.proofs.values.block_bytes.Goals as goal

pub returns-in_ok-block_value-in-Some : goal.returns-in_ok-block_value-in-Some
returns-in_ok-block_value-in-Some c =
    let read : block_bytes_at c.args.text.now ≡ ended c.in_ok-block_value-in-Some.field-0.items c.in-Some.behind.now =
    plain_block_read c.args.text.now c.split_run.result.0.now c.split_run.result.1.now c.in-Some.behind.now
    c.in_ok-block_value-in-Some.field-0.items c.split_run.ensures c.in-Some.ensures c.in_ok-block_value-in-Some.ensures in
    rw read c.ended.ensures
