use Rattle.std.proofs.Common.{◌+◌, ◌*◌, take}
use Rattle.graphql_usage_rules.specs.Parts.{UsedInEntry, UsedInItem, location_at}
use Rattle.graphql_usage_rules.proofs.PlaceLemmas.{WalkedTo}
use Rattle.graphql_usage_rules.proofs.values.+value.Given as goal

-- the items and the entries of a value are less deep than it is
abbrev pub decreases-check_value : goal.decreases-check_value
decreases-check_value l = 4 * goal.size-check_value l

abbrev pub decreases-check_list : goal.decreases-check_list
decreases-check_list l = 4 * goal.size-check_list l + 2

abbrev pub decreases-check_items : goal.decreases-check_items
decreases-check_items l = 4 * goal.size-check_items l + 1

abbrev pub decreases-check_object : goal.decreases-check_object
decreases-check_object l = 4 * goal.size-check_object l + 3

abbrev pub decreases-check_entries : goal.decreases-check_entries
decreases-check_entries l = 4 * goal.size-check_entries l + 2

abbrev pub decreases-check_entry : goal.decreases-check_entry
decreases-check_entry l = 4 * goal.size-check_entry l + 1

abbrev pub invariant-check_entries-loop-name : goal.invariant-check_entries-loop-name
invariant-check_entries-loop-name l =
    WalkedTo l.variables (UsedInEntry l.schema l.input_object) l.entries (take l.name-index l.entries) l.initial.reports.kept.items l.reports.kept.items

abbrev pub invariant-check_items-loop-item : goal.invariant-check_items-loop-item
invariant-check_items-loop-item l =
    WalkedTo l.variables (UsedInItem l.schema (location_at l.location)) l.items (take l.item-index l.items) l.initial.reports.kept.items l.reports.kept.items
