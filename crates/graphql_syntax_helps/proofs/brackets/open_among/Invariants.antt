use Rattle.std.proofs.Common.{◌≡◌, [], filter, nat_lt, reverse, take}
use Rattle.graphql_syntax_helps.specs.Brackets.{open_after}
use Rattle.graphql_syntax_helps.proofs.brackets.open_among.Given as goal

abbrev pub invariant-loop-token : goal.invariant-loop-token
invariant-loop-token l = reverse l.unclosed.items ≡ open_after [] (filter (λ t. nat_lt t.start l.at) (take l.token-index l.tokens))
