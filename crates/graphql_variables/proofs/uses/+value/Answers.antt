use Rattle.std.proofs.Common.{[], ◌∷◌, sym, subst}
use Rattle.std.proofs.lemmas.List.{take_all}
use Rattle.graphql_documents.specs.Values.{VariablesIn, VariablesInEntries, VariablesInItems, in_list, in_object, in_variable, no_entries, no_items}
use Rattle.graphql_variables.specs.Uses.{AddsNames}
use Rattle.graphql_variables.proofs.UseLemmas.{adds_entry, adds_in_words, adds_item, adds_none, adds_one, has_no_variables}
use Rattle.graphql_variables.proofs.uses.+value.Goals as goal

pub add_variables-returns-in_ok-push-in-Variable :
    goal.add_variables-returns-in_ok-push-in-Variable
add_variables-returns-in_ok-push-in-Variable t c =
    adds_one _ c.in_ok-push-in-Variable.ensures.items
    (subst (λ v. VariablesIn v (c.in-Variable.name ∷ [])) (sym c.in-Variable.is) in_variable)

pub add_variables-returns-in_ok-add_in_items-in-List :
    goal.add_variables-returns-in_ok-add_in_items-in-List
add_variables-returns-in_ok-add_in_items-in-List t c =
    adds_in_words
    (λ a in'. subst (λ v. VariablesIn v a) (sym c.in-List.is) (in_list c.in-List.items (subst (λ l. VariablesInItems l a) c.deref.ensures.value in')))
    c.in_ok-add_in_items-in-List.ensures

pub add_variables-returns-in_ok-add_in_entries-in-Object :
    goal.add_variables-returns-in_ok-add_in_entries-in-Object
add_variables-returns-in_ok-add_in_entries-in-Object t c =
    adds_in_words
    (λ a in'. subst (λ v. VariablesIn v a) (sym c.in-Object.is) (in_object c.in-Object.entries (subst (λ l. VariablesInEntries l a) c.deref-in-Object.ensures.value in')))
    c.in_ok-add_in_entries-in-Object.ensures

pub add_variables-returns-in_default : goal.add_variables-returns-in_default
add_variables-returns-in_default t c =
    adds_none (has_no_variables c.args.value.now c.in_default.not-Variable c.in_default.not-List c.in_default.not-Object)

pub add_in_items-loop-item-init : goal.add_in_items-loop-item-init
add_in_items-loop-item-init t c = adds_none no_items

pub add_in_items-loop-item-preserved : goal.add_in_items-loop-item-preserved
add_in_items-loop-item-preserved t c =
    adds_item c.args.items.now c.loop-item.item-index c.item-item.result c.loop-item-test.true c.item-item.is c.loop-item.invariant
    (subst (λ v. AddsNames (VariablesIn v) c.loop-item.names.items c.add_variables.new.names.items) c.deref.ensures c.in_ok-add_variables.ensures)

pub add_in_items-returns : goal.add_in_items-returns
add_in_items-returns t c =
    subst (λ l. AddsNames (VariablesInItems l) c.args.names.now.items c.loop-item.names.items)
    (take_all c.loop-item.item-index c.args.items.now c.loop-item-test.false) c.loop-item.invariant

pub add_in_entries-loop-entry-init : goal.add_in_entries-loop-entry-init
add_in_entries-loop-entry-init t c = adds_none no_entries

pub add_in_entries-loop-entry-preserved : goal.add_in_entries-loop-entry-preserved
add_in_entries-loop-entry-preserved t c =
    adds_entry c.args.entries.now c.loop-entry.entry-index c.loop-entry-item.result c.loop-entry-test.true c.loop-entry-item.is c.loop-entry.invariant
    (subst (λ v. AddsNames (VariablesIn v) c.loop-entry.names.items c.add_variables.new.names.items) c.deref.ensures c.in_ok-add_variables.ensures)

pub add_in_entries-returns : goal.add_in_entries-returns
add_in_entries-returns t c =
    subst (λ l. AddsNames (VariablesInEntries l) c.args.names.now.items c.loop-entry.names.items)
    (take_all c.loop-entry.entry-index c.args.entries.now c.loop-entry-test.false) c.loop-entry.invariant
