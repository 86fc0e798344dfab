-- The types so far have had their turns.
use Rattle.std.proofs.Common.{◌≡◌, List, take, true, ◌+◌, ◌*◌}
use Rattle.graphql_merging.specs.Groups.{pass_of}
use Rattle.graphql_pair_merging.specs.FieldGroups.{IsGrouped, names_in}
use Rattle.graphql_pair_merging.specs.Pairs.{AreComparable, Both, Settles, lists_at}
use Rattle.graphql_pair_merging.specs.Parents.{IsInTurn}
use Rattle.graphql_pair_merging.specs.Works.{most_of, Paid, places_in}
use Rattle.graphql_pair_merging.specs.declared.field_groups.GroupedBy.TheVariants.{ParentType}
use Rattle.graphql_pair_merging.specs.declared.numbered_sets.NumberedField.{NumberedField}
use Rattle.graphql_pair_merging.proofs.GroupLemmas.{is_among}
use Rattle.graphql_pair_merging.proofs.pairs.PairPass.look_by_parents.Given as goal

abbrev pub invariant-loop-parent : goal.invariant-loop-parent
invariant-loop-parent g l = record {
  settles : (fields : List NumberedField) → AreComparable fields → IsGrouped ParentType fields l.groups.entries → l.parents ≡ names_in l.groups.entries →
      Settles l.self.schema.now (pass_of l.self.pass) fields (λ x y. Both fields x y × IsInTurn l.self.schema.now x y × (is_among ParentType (take l.parent-index l.parents) x ≡ true)) (lists_at l.initial.waiting.items) (lists_at l.waiting.items);
  most : most_of l.work ≡ most_of l.initial.work;
  cost : Paid l.initial.work (l.initial.steps + 3 * places_in (lists_at l.initial.waiting.items)) l.work (l.steps + 3 * places_in (lists_at l.waiting.items)) (4 * l.parent-index);
}
