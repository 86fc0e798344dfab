use Rattle.std.proofs.Common.{[], ◌∷◌, ◌∙◌, ap, map, sym, subst}
use Rattle.std.proofs.lemmas.List.{map-append}
use Rattle.std.specs.Borrow.{Bor}
use Rattle.graphql_nodes.specs.Names.{NameText}
use Rattle.graphql_nodes.specs.declared.nodes.Node.{Node}
use Rattle.graphql_documents.specs.declared.documents.values.Value.{Value}
use Rattle.graphql_usage_rules.specs.Scopes.{Adds, InEntries, InItems, values_at}
use Rattle.graphql_usage_rules.specs.UndefinedVariables.{VariableIn}
use Rattle.graphql_usage_rules.proofs.AddLemmas.{adds_all, adds_more, adds_none, adds_none_yet, adds_one, adds_words}
use Rattle.graphql_usage_rules.proofs.VariableLemmas.{list_words, not_in_others, object_words, variable_words}
use Rattle.graphql_usage_rules.proofs.scopes.+value.Goals as goal

abbrev now_of : Bor (Node Value) → Node Value
now_of v = v.now

abbrev InValue : Node Value → Node Value → Type 0
InValue value variable = VariableIn variable value

abbrev InEntry : NameText × Node Value → Node Value → Type 0
InEntry entry variable = VariableIn variable entry.1

-- a value
pub add_in_value-returns-in_ok-push-in-Variable : goal.add_in_value-returns-in_ok-push-in-Variable
add_in_value-returns-in_ok-push-in-Variable t c =
    let value = c.args.value.now in
    let old = c.args.variables.now.items in
    adds_one (InValue value) (values_at old) (values_at c.push.new.self.items) value
    (ap (map now_of) c.in_ok-push-in-Variable.ensures.items ∙ map-append now_of old (c.args.value ∷ []))
    (variable_words value _ (sym c.deref.ensures ∙ c.in-Variable.is))

pub add_in_value-returns-in_ok-add_in_items-in-List : goal.add_in_value-returns-in_ok-add_in_items-in-List
add_in_value-returns-in_ok-add_in_items-in-List t c =
    let value = c.args.value.now in
    let old = values_at c.args.variables.now.items in
    let new = values_at c.add_in_items.new.variables.items in
    adds_words (InItems c.in-List.items.items) (InValue value) old new (list_words value c.in-List.items (sym c.deref.ensures ∙ c.in-List.is))
    (subst (λ l. Adds (InItems l) old new) c.deref-in-List.ensures.value c.in_ok-add_in_items-in-List.ensures)

pub add_in_value-returns-in_ok-add_in_entries-in-Object : goal.add_in_value-returns-in_ok-add_in_entries-in-Object
add_in_value-returns-in_ok-add_in_entries-in-Object t c =
    let value = c.args.value.now in
    let old = values_at c.args.variables.now.items in
    let new = values_at c.add_in_entries.new.variables.items in
    adds_words (InEntries c.in-Object.entries.items) (InValue value) old new (object_words value c.in-Object.entries (sym c.deref.ensures ∙ c.in-Object.is))
    (subst (λ l. Adds (InEntries l) old new) c.deref-in-Object.ensures.value c.in_ok-add_in_entries-in-Object.ensures)

pub add_in_value-returns-in_default : goal.add_in_value-returns-in_default
add_in_value-returns-in_default t c =
    adds_none (InValue c.args.value.now) (values_at c.args.variables.now.items)
    (λ v inside. not_in_others inside (λ name is. c.in_default.not-Variable name (c.deref.ensures ∙ is)) (λ items is. c.in_default.not-List items (c.deref.ensures ∙ is))
    (λ entries is. c.in_default.not-Object entries (c.deref.ensures ∙ is)))

-- items and entries
pub add_in_items-loop-item-init : goal.add_in_items-loop-item-init
add_in_items-loop-item-init t c = adds_none_yet InValue c.args.items.now (values_at c.args.variables.now.items)

pub add_in_items-loop-item-preserved : goal.add_in_items-loop-item-preserved
add_in_items-loop-item-preserved t c =
    adds_more InValue c.args.items.now c.loop-item.item-index c.item-item.result (values_at c.args.variables.now.items) (values_at c.loop-item.variables.items)
    (values_at c.add_in_value.new.variables.items) c.loop-item-test.true c.item-item.is c.loop-item.invariant c.in_ok-add_in_value.ensures

pub add_in_items-returns : goal.add_in_items-returns
add_in_items-returns t c =
    adds_all InValue c.args.items.now c.loop-item.item-index (values_at c.args.variables.now.items) (values_at c.loop-item.variables.items) c.loop-item-test.false c.loop-item.invariant

pub add_in_entries-loop-entry-init : goal.add_in_entries-loop-entry-init
add_in_entries-loop-entry-init t c = adds_none_yet InEntry c.args.entries.now (values_at c.args.variables.now.items)

pub add_in_entries-loop-entry-preserved : goal.add_in_entries-loop-entry-preserved
add_in_entries-loop-entry-preserved t c =
    adds_more InEntry c.args.entries.now c.loop-entry.entry-index c.loop-entry-item.result (values_at c.args.variables.now.items) (values_at c.loop-entry.variables.items)
    (values_at c.add_in_value.new.variables.items) c.loop-entry-test.true c.loop-entry-item.is c.loop-entry.invariant c.in_ok-add_in_value.ensures

pub add_in_entries-returns : goal.add_in_entries-returns
add_in_entries-returns t c =
    adds_all InEntry c.args.entries.now c.loop-entry.entry-index (values_at c.args.variables.now.items) (values_at c.loop-entry.variables.items) c.loop-entry-test.false c.loop-entry.invariant
