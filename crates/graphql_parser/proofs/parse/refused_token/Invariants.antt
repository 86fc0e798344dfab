use Rattle.std.proofs.Common.{◌≡◌, drop}
use Rattle.graphql_syntax.specs.Reading.{input}
use Rattle.graphql_parser.proofs.parse.refused_token.Given as goal

-- one token is left out in each turn
abbrev pub invariant-loop-turn : goal.invariant-loop-turn
invariant-loop-turn l = (input l.here).tokens ≡ drop l._turn (input l.fn.cursor).tokens
