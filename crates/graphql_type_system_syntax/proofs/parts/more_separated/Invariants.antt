use Rattle.std.proofs.Common.{◌≡◌, ◌-◌, length}
use Rattle.graphql_syntax.specs.Inputs.{is_kind}
use Rattle.graphql_syntax.specs.Reading.{input, many_from, many_behind}
use Rattle.graphql_type_system_syntax.specs.BodyReaders.{separated_with}
use Rattle.graphql_type_system_syntax.proofs.parts.more_separated.Given as goal

-- what is to be read from the start is what is left to read behind those found
abbrev pub invariant-loop-turn : goal.invariant-loop-turn
invariant-loop-turn g l =
    many_behind (is_kind l.separator) (separated_with l.separator (g.P.Part.read_at l.depth)) l.fn.found.items (input l.fn.cursor) ≡
    many_from (is_kind l.separator) (separated_with l.separator (g.P.Part.read_at l.depth)) (length l.fn.cursor.tokens.now - l._turn) l.found.items (input l.here)
