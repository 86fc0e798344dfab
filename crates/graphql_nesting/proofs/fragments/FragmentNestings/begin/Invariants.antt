use Rattle.std.proofs.Common.{◌≡◌, ◌++◌, All, length, map}
use Rattle.graphql_nesting.specs.Spreads.{NothingKnown}
use Rattle.graphql_nesting.specs.Written.{AreWrittenLevels}
use Rattle.graphql_nesting.proofs.fragments.FragmentNestings.begin.Given as goal

abbrev pub invariant-loop-fragment : goal.invariant-loop-fragment
invariant-loop-fragment l = record {
  all : map (λ x. x.fragment.now) l.fragments.items ++ l.fragment-iterator ≡ l.initial.fragment-iterator;
  written : All (λ x. AreWrittenLevels l.document x.fragment.now.value.value.selection_set x.written) l.fragments.items;
  count : length l.known.items ≡ length l.fragments.items;
  awaited : All NothingKnown l.known.items;
}
