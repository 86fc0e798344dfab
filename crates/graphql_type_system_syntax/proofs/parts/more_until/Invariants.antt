use Rattle.std.proofs.Common.{◌≡◌, ◌-◌, length}
use Rattle.graphql_syntax.specs.Reading.{input, many_from, many_behind, more_test}
use Rattle.graphql_syntax.specs.declared.production.More.TheVariants.{Until}
use Rattle.graphql_type_system_syntax.proofs.parts.more_until.Given as goal

-- what is to be read from the start is what is left to read behind those found
abbrev pub invariant-loop-turn : goal.invariant-loop-turn
invariant-loop-turn g l =
    many_behind (more_test (Until l.closing)) (g.P.Part.read_at l.depth) l.fn.found.items (input l.fn.cursor) ≡
    many_from (more_test (Until l.closing)) (g.P.Part.read_at l.depth) (length l.fn.cursor.tokens.now - l._turn) l.found.items (input l.here)
