use Rattle.std.proofs.Common.{◌≡◌, rules}
use Rattle.graphql_syntax_helps.proofs.BracketLemmas.{counted, passed}
use Rattle.graphql_syntax_helps.proofs.brackets.open_among.Goals.{then-token-at+in_ok-add, else-token-at}
use Rattle.graphql_syntax_helps.proofs.brackets.open_among.Goals as goal

pub loop-token-preserved : goal.loop-token-preserved
loop-token-preserved c = elim c.if-token-at.branch [
  | then-token-at+in_ok-add w ↦ rw w.unclosed-is
      (counted _ c.args.tokens.now c.loop-token.token-index _ c.loop-token-test.true c.loop-token.unclosed.items c.loop-token.invariant w.add.new.unclosed.items
      w.if-token-at.true w.in_ok-add.ensures)
  | else-token-at w ↦ rw w.unclosed-is
      (passed _ c.args.tokens.now c.loop-token.token-index _ c.loop-token-test.true c.loop-token.unclosed.items c.loop-token.invariant w.if-token-at.false)
]
