use Rattle.std.proofs.Common.{◌≡◌, ◌+◌, ◌*◌, ◌-◌, [], length}
use Rattle.graphql_syntax.specs.Reading.{input, many_from, many_behind, more_test}
use Rattle.graphql_syntax.specs.ValueReaders.{object_field_with, value_at}
use Rattle.graphql_syntax.specs.declared.production.More.TheVariants.{Until}
use Rattle.graphql_tokens.specs.declared.token.TokenKind.TheVariants.{RightBracket, RightBrace}
use Rattle.graphql_syntax.proofs.values.+values.Given as goal

abbrev pub decreases-value : goal.decreases-value
decreases-value l = 4 * l.depth

abbrev pub decreases-list : goal.decreases-list
decreases-list l = 4 * l.depth + 3

abbrev pub decreases-values : goal.decreases-values
decreases-values l = 4 * l.depth + 1

abbrev pub decreases-object : goal.decreases-object
decreases-object l = 4 * l.depth + 3

abbrev pub decreases-object_fields : goal.decreases-object_fields
decreases-object_fields l = 4 * l.depth + 2

abbrev pub decreases-object_field : goal.decreases-object_field
decreases-object_field l = 4 * l.depth + 1

-- what is to be read from the start is what is left to read behind those found
abbrev pub invariant-values-loop-turn : goal.invariant-values-loop-turn
invariant-values-loop-turn l =
    many_behind (more_test (Until RightBracket)) (value_at l.constant l.depth) [] (input l.fn.cursor) ≡
    many_from (more_test (Until RightBracket)) (value_at l.constant l.depth) (length l.fn.cursor.tokens.now - l._turn) l.found.items (input l.here)

abbrev pub invariant-object_fields-loop-turn : goal.invariant-object_fields-loop-turn
invariant-object_fields-loop-turn l =
    many_behind (more_test (Until RightBrace)) (object_field_with (value_at l.constant l.depth)) [] (input l.fn.cursor) ≡
    many_from (more_test (Until RightBrace)) (object_field_with (value_at l.constant l.depth)) (length l.fn.cursor.tokens.now - l._turn) l.found.items (input l.here)
