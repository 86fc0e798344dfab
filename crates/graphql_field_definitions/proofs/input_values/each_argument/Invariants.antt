use Rattle.std.proofs.Common.{◌≡◌, map, take}
use Rattle.graphql_field_definitions.proofs.input_values.each_argument.Given as goal

-- the arguments so far
abbrev pub invariant-loop-argument : goal.invariant-loop-argument
invariant-loop-argument l = map (λ d. d.now) l.each.items ≡ take l.argument-index l.arguments
