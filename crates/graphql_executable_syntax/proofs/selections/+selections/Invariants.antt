use Rattle.std.proofs.Common.{◌≡◌, ◌+◌, ◌*◌, ◌-◌, length}
use Rattle.graphql_syntax.specs.Reading.{input, many_from, many_behind, more_test}
use Rattle.graphql_syntax.specs.declared.production.More.TheVariants.{Until}
use Rattle.graphql_tokens.specs.declared.token.TokenKind.TheVariants.{RightBrace}
use Rattle.graphql_executable_syntax.specs.SelectionReaders.{selection_at}
use Rattle.graphql_executable_syntax.proofs.selections.+selections.Given as goal

abbrev pub decreases-selection_set : goal.decreases-selection_set
decreases-selection_set l = 8 * l.depth

abbrev pub decreases-perhaps_set : goal.decreases-perhaps_set
decreases-perhaps_set l = 8 * l.depth + 1

abbrev pub decreases-inline_fragment : goal.decreases-inline_fragment
decreases-inline_fragment l = 8 * l.depth + 1

abbrev pub decreases-field_from : goal.decreases-field_from
decreases-field_from l = 8 * l.depth + 2

abbrev pub decreases-spread : goal.decreases-spread
decreases-spread l = 8 * l.depth + 2

abbrev pub decreases-field : goal.decreases-field
decreases-field l = 8 * l.depth + 3

abbrev pub decreases-selection : goal.decreases-selection
decreases-selection l = 8 * l.depth + 4

abbrev pub decreases-selections_behind : goal.decreases-selections_behind
decreases-selections_behind l = 8 * l.depth + 5

abbrev pub decreases-selections : goal.decreases-selections
decreases-selections l = 8 * l.depth + 6

abbrev pub decreases-in_braces : goal.decreases-in_braces
decreases-in_braces l = 8 * l.depth + 7

-- what is to be read from the start is what is left to read behind those found
abbrev pub invariant-selections_behind-loop-turn : goal.invariant-selections_behind-loop-turn
invariant-selections_behind-loop-turn l =
    many_behind (more_test (Until RightBrace)) (selection_at l.depth) l.fn.found.items (input l.fn.cursor) ≡
    many_from (more_test (Until RightBrace)) (selection_at l.depth) (length l.fn.cursor.tokens.now - l._turn) l.found.items (input l.here)
