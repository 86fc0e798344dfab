use Rattle.std.proofs.Common.{take}
use Rattle.graphql_variables.specs.VariablesByName.{FindsFirst}
use Rattle.graphql_variables.proofs.by_name.first_of_each_name.Given as goal

-- the first of each name so far
abbrev pub invariant-loop-definition : goal.invariant-loop-definition
invariant-loop-definition l = FindsFirst l.first (take l.definition-index l.definitions)
