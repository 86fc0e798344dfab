-- The fields with the names so far were compared.
use Rattle.std.proofs.Common.{◌≡◌, List, take, true, ◌+◌, ◌*◌}
use Rattle.graphql_merging.specs.Groups.{pass_of}
use Rattle.graphql_pair_merging.specs.FieldGroups.{IsGrouped, names_in}
use Rattle.graphql_pair_merging.specs.NumberedSets.{HaveNumbers}
use Rattle.graphql_pair_merging.specs.Pairs.{Both, Settles, lists_at}
use Rattle.graphql_pair_merging.specs.Works.{most_of, Paid, places_in}
use Rattle.graphql_pair_merging.specs.declared.field_groups.GroupedBy.TheVariants.{ResponseKey}
use Rattle.graphql_pair_merging.specs.declared.numbered_sets.NumberedField.{NumberedField}
use Rattle.graphql_pair_merging.proofs.GroupLemmas.{is_among}
use Rattle.graphql_pair_merging.proofs.pairs.PairPass.look_by_keys.Given as goal

abbrev pub invariant-loop-key : goal.invariant-loop-key
invariant-loop-key g l = record {
  settles : (fields : List NumberedField) → HaveNumbers fields → IsGrouped ResponseKey fields l.groups.entries → l.keys ≡ names_in l.groups.entries →
      Settles l.self.schema.now (pass_of l.self.pass) fields (λ x y. Both fields x y × (is_among ResponseKey (take l.key-index l.keys) x ≡ true)) (lists_at l.initial.waiting.items) (lists_at l.waiting.items);
  most : most_of l.work ≡ most_of l.initial.work;
  cost : Paid l.initial.work (l.initial.steps + 3 * places_in (lists_at l.initial.waiting.items)) l.work (l.steps + 3 * places_in (lists_at l.waiting.items)) (4 * l.key-index);
}
