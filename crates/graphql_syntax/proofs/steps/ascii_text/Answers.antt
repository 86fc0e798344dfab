use Rattle.graphql_nodes.proofs.AsciiLemmas.{ascii_utf8}
use Rattle.graphql_syntax.proofs.steps.ascii_text.Goals as goal

pub unreachable-requires : goal.unreachable-requires
unreachable-requires c = c.in-Err.ensures.cases.0 (ascii_utf8 c.args.bytes.now c.requires)
