use Rattle.std.proofs.Common.{take}
use Rattle.graphql_schema_checking.specs.Definitions.{definitions_in}
use Rattle.graphql_schema_building.specs.Numbered.{AreNumbered}
use Rattle.graphql_schema_building.proofs.numbered.NumberedExtensions.of.Given as goal

abbrev pub invariant-loop-tree : goal.invariant-loop-tree
invariant-loop-tree l = AreNumbered (definitions_in (take l.tree-index l.trees)) l.extensions
