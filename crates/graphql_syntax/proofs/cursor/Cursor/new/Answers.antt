use Rattle.graphql_syntax.proofs.SpelledLemmas.{tokens_spelled, tokens_floats}
use Rattle.graphql_syntax.proofs.cursor.Cursor.new.Goals as goal

pub invariant_of-result : goal.invariant_of-result
invariant_of-result c = record {
  spelled = tokens_spelled c.args.source.now c.args.tokens.now c.requires.0 c.requires.1;
  floats = tokens_floats c.args.source.now c.args.tokens.now c.requires.0 c.requires.1;
}
