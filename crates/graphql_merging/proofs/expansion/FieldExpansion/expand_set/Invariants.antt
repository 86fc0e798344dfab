use Rattle.std.proofs.Common.{take}
use Rattle.graphql_merging.specs.ExpansionSteps.{Expands, expanding}
use Rattle.graphql_merging.proofs.expansion.FieldExpansion.expand_set.Given as goal

abbrev pub invariant-loop-selection : goal.invariant-loop-selection
invariant-loop-selection l = Expands (expanding l.initial.self) (expanding l.self) l.set.ty (take l.selection-index l.selection-items)
