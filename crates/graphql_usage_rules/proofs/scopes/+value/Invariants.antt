use Rattle.std.proofs.Common.{◌+◌, ◌*◌, take}
use Rattle.graphql_usage_rules.specs.Scopes.{Adds, InEntries, InItems, values_at}
use Rattle.graphql_usage_rules.proofs.scopes.+value.Given as goal

-- the items and the entries of a value are less deep than it is
abbrev pub decreases-add_in_value : goal.decreases-add_in_value
decreases-add_in_value l = 2 * goal.size-add_in_value l

abbrev pub decreases-add_in_items : goal.decreases-add_in_items
decreases-add_in_items l = 2 * goal.size-add_in_items l + 1

abbrev pub decreases-add_in_entries : goal.decreases-add_in_entries
decreases-add_in_entries l = 2 * goal.size-add_in_entries l + 1

abbrev pub invariant-add_in_entries-loop-entry : goal.invariant-add_in_entries-loop-entry
invariant-add_in_entries-loop-entry l =
    Adds (InEntries (take l.entry-index l.entries)) (values_at l.initial.variables.items) (values_at l.variables.items)

abbrev pub invariant-add_in_items-loop-item : goal.invariant-add_in_items-loop-item
invariant-add_in_items-loop-item l =
    Adds (InItems (take l.item-index l.items)) (values_at l.initial.variables.items) (values_at l.variables.items)
