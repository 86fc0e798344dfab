use Rattle.std.proofs.Common.{◌≡◌, ◌++◌, drop, take}
use Rattle.graphql_syntax_messages.specs.SyntaxMessages.{excerpt, excerpt_within}
use Rattle.graphql_syntax_messages.proofs.excerpts.excerpt_end.Given as goal

abbrev pub invariant-loop-k : goal.invariant-loop-k
invariant-loop-k l = excerpt l.bytes ≡ take l.k l.bytes ++ excerpt_within l.left (drop l.k l.bytes)
