use Rattle.std.proofs.Common.{◌+◌, ◌*◌, take}
use Rattle.graphql_deprecations.specs.InOrder.{Adds, EntriesUse, ItemsUse}
use Rattle.graphql_deprecations.proofs.values.+value.Given as goal

-- the items and the entries of a value are less deep than it is
abbrev pub decreases-add_in_value : goal.decreases-add_in_value
decreases-add_in_value l = 5 * goal.size-add_in_value l

abbrev pub decreases-add_in_items : goal.decreases-add_in_items
decreases-add_in_items l = 5 * goal.size-add_in_items l + 1

abbrev pub decreases-add_in_entries : goal.decreases-add_in_entries
decreases-add_in_entries l = 5 * goal.size-add_in_entries l + 3

abbrev pub decreases-add_in_entry : goal.decreases-add_in_entry
decreases-add_in_entry l = 5 * goal.size-add_in_entry l + 2

abbrev pub decreases-add_in_input_field : goal.decreases-add_in_input_field
decreases-add_in_input_field l = 5 * goal.size-add_in_input_field l + 1

abbrev pub invariant-add_in_items-loop-item : goal.invariant-add_in_items-loop-item
invariant-add_in_items-loop-item l =
    Adds (ItemsUse l.schema l.ty (take l.item-index l.items)) l.initial.found.items l.found.items

abbrev pub invariant-add_in_entries-loop-name : goal.invariant-add_in_entries-loop-name
invariant-add_in_entries-loop-name l =
    Adds (EntriesUse l.schema l.ty (take l.name-index l.entries)) l.initial.found.items l.found.items
