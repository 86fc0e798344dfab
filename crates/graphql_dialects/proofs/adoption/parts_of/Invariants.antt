use Rattle.std.proofs.Common.{◌≡◌, take}
use Rattle.graphql_repetitions.specs.References.{nows}
use Rattle.graphql_dialects.specs.Adoption.{parts_defined}
use Rattle.graphql_dialects.proofs.adoption.parts_of.Given as goal

abbrev pub invariant-loop-definition : goal.invariant-loop-definition
invariant-loop-definition l = parts_defined l.parts.items ≡ nows (take l.definition-index l.definitions)
