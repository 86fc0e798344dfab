use Rattle.std.proofs.Common.{◌⊎◌, [], take}
use Rattle.std.specs.List.{Any}
use Rattle.graphql_documents.specs.Selections.{fragments_of}
use Rattle.graphql_documents.specs.VariableUses.{StandsInDirectives}
use Rattle.graphql_variables.specs.Uses.{NamesAlso, NamesDefinitions, UsedAt}
use Rattle.graphql_variables.proofs.unused.used_variables.Given as goal

abbrev pub invariant-loop-selection : goal.invariant-loop-selection
invariant-loop-selection l =
    NamesAlso (λ n. StandsInDirectives n l.operation.directives.items ⊎ Any (λ s. UsedAt (fragments_of l.document) s.now n) (take l.selection-index l.selections))
    [] l.names.items × NamesDefinitions (fragments_of l.document) l.entered.keys l.names.items
