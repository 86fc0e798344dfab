use Rattle.std.proofs.Common.{◌≡◌, ◌++◌, Some, map, take}
use Rattle.std.specs.Prelude.{filter_map}
use Rattle.graphql_documents.specs.Selections.{fragments_of, no_fragments}
use Rattle.graphql_nesting.specs.Nesting.{set_below}
use Rattle.graphql_nesting.specs.Written.{fragment_spread, left_of, spreads_of}
use Rattle.graphql_nesting.proofs.written.LevelWalk.add_selections.Given as goal

abbrev pub invariant-loop-selection : goal.invariant-loop-selection
invariant-loop-selection l = record {
  document : l.self.document ≡ l.initial.self.document;
  levels : l.self.written.levels ≡ l.initial.self.written.levels;
  left : left_of l.self ≡ left_of l.initial.self ++
      map (λ set. (set, l.above)) (filter_map (set_below no_fragments) (take l.selection-index l.selection-items));
  spreads : spreads_of l.self ≡ spreads_of l.initial.self ++
      map (λ d. (Some d, l.above)) (filter_map (fragment_spread (fragments_of l.initial.self.document.now)) (take l.selection-index l.selection-items));
}
