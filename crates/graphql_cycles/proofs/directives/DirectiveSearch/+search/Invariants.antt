-- The search goes on with a path that is longer each time, or to what refers to no type; and it has
-- searched what it has passed.
use Rattle.std.proofs.Common.{◌+◌, ◌*◌, map, take}
use Rattle.std.specs.List.{list_any}
use Rattle.graphql_cycles.proofs.DirectiveRoomLemmas.{list_weight, names_type, room, weight}
use Rattle.graphql_cycles.specs.DirectiveSearches.{ClosesFrom, KeepsPaths}
use Rattle.graphql_cycles.specs.References.{reference_of}
use Rattle.graphql_cycles.proofs.directives.DirectiveSearch.+search.Given as goal

abbrev pub decreases-search_references : goal.decreases-search_references
decreases-search_references l = 6 * room l.progress.now + list_weight (list_any names_type (map reference_of l.references.now))

abbrev pub decreases-search_reference : goal.decreases-search_reference
decreases-search_reference l = 6 * room l.progress.now + weight (names_type (reference_of l.reference))

abbrev pub decreases-search_type : goal.decreases-search_type
decreases-search_type l = 6 * room l.progress.now + 3

abbrev pub decreases-search_application : goal.decreases-search_application
decreases-search_application l = 6 * room l.progress.now + 0

abbrev pub invariant-search_references-loop-reference : goal.invariant-search_references-loop-reference
invariant-search_references-loop-reference l = record {
  keeps : KeepsPaths l.initial.progress l.progress;
  closes : ClosesFrom l.self.schema.now l.self.root.now (map reference_of (take l.reference-index l.references)) l.initial.progress l.progress;
}
