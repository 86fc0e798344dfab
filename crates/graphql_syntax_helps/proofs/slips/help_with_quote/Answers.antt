use Rattle.graphql_syntax_helps.specs.SyntaxHelps.{in_block_string}
use Rattle.graphql_syntax_helps.proofs.SlipLemmas.{string_helps}
use Rattle.graphql_syntax_helps.proofs.slips.help_with_quote.Goals as goal

pub returns-then-begins_block : goal.returns-then-begins_block
returns-then-begins_block c =
    let begins = c.begins_block.ensures c.if-begins_block.true in
    rw begins.1 (in_block_string begins.0)

pub returns-else-begins_block : goal.returns-else-begins_block
returns-else-begins_block c = string_helps c.args.behind.now _ c.help_in_string.ensures
