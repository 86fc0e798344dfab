use Rattle.std.proofs.Common.{take}
use Rattle.graphql_documents.specs.Values.{VariablesInEntries, VariablesInItems}
use Rattle.graphql_variables.specs.Uses.{AddsNames}
use Rattle.graphql_variables.proofs.uses.+value.Given as goal

abbrev pub invariant-add_in_entries-loop-entry : goal.invariant-add_in_entries-loop-entry
invariant-add_in_entries-loop-entry l =
    AddsNames (VariablesInEntries (take l.entry-index l.entries)) l.initial.names.items l.names.items

abbrev pub invariant-add_in_items-loop-item : goal.invariant-add_in_items-loop-item
invariant-add_in_items-loop-item l =
    AddsNames (VariablesInItems (take l.item-index l.items)) l.initial.names.items l.names.items
