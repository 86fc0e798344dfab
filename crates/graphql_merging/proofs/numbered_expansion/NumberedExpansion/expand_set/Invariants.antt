use Rattle.std.proofs.Common.{◌≡◌, ◌+◌, take}
use Rattle.graphql_contents.specs.Documents.{contents_in}
use Rattle.graphql_merging.specs.ExpansionSteps.{Expands}
use Rattle.graphql_merging.specs.NumberedExpansions.{HasNumbers, expanding}
use Rattle.graphql_merging.proofs.numbered_expansion.NumberedExpansion.expand_set.Given as goal

abbrev pub invariant-loop-index : goal.invariant-loop-index
invariant-loop-index g l = record {
  document : l.self.numbered ≡ l.initial.self.numbered;
  expands : Expands (expanding l.initial.self) (expanding l.self) l.set.set.now.ty (take l.index l.selection-items);
  numbers : HasNumbers (contents_in l.initial.self.numbered.now) l.self;
  steps : l.steps ≡ l.initial.steps + l.index;
}
