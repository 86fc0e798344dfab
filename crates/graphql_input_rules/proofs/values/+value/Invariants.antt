use Rattle.std.proofs.Common.{take}
use Rattle.graphql_nodes.specs.Names.{NameText}
use Rattle.graphql_nodes.specs.declared.nodes.Node.{Node}
use Rattle.graphql_documents.specs.declared.documents.values.Value.{Value}
use Rattle.graphql_input_rules.specs.ValuesWritten.{ValueWritten}
use Rattle.graphql_input_rules.proofs.PlaceLemmas.{WalkedTo}
use Rattle.graphql_input_rules.proofs.values.+value.Given as goal

abbrev pub invariant-check_entries-loop-entry : goal.invariant-check_entries-loop-entry
invariant-check_entries-loop-entry l =
    WalkedTo (λ (e : NameText × Node Value). ValueWritten e.1.value.value) l.entries (take l.entry-index l.entries) l.initial.reports.kept.items l.reports.kept.items

abbrev pub invariant-check_items-loop-item : goal.invariant-check_items-loop-item
invariant-check_items-loop-item l =
    WalkedTo (λ (i : Node Value). ValueWritten i.value.value) l.items (take l.item-index l.items) l.initial.reports.kept.items l.reports.kept.items
