use Rattle.std.proofs.Common.{◌≡◌, ◌-◌, length}
use Rattle.graphql_syntax.specs.Reading.{input, many_from, many_behind, more_test}
use Rattle.graphql_syntax.specs.declared.production.More.TheVariants.{Until}
use Rattle.graphql_tokens.specs.declared.token.TokenKind.TheVariants.{RightParenthesis}
use Rattle.graphql_executable_syntax.specs.OperationReaders.{variable_definition_at}
use Rattle.graphql_executable_syntax.proofs.operations.definitions_behind.Given as goal

-- what is to be read from the start is what is left to read behind those found
abbrev pub invariant-loop-turn : goal.invariant-loop-turn
invariant-loop-turn l =
    many_behind (more_test (Until RightParenthesis)) (variable_definition_at l.depth) l.fn.found.items (input l.fn.cursor) ≡
    many_from (more_test (Until RightParenthesis)) (variable_definition_at l.depth) (length l.fn.cursor.tokens.now - l._turn) l.found.items (input l.here)
