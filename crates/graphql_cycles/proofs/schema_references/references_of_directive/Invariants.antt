use Rattle.std.proofs.Common.{◌≡◌, map, take}
use Rattle.graphql_specification.specs.DirectiveCycles.{input_references}
use Rattle.graphql_cycles.specs.References.{reference_of}
use Rattle.graphql_cycles.proofs.schema_references.references_of_directive.Given as goal

abbrev pub invariant-loop-argument : goal.invariant-loop-argument
invariant-loop-argument l = map reference_of l.found.items ≡ input_references (take l.argument-index l.argument-items)
