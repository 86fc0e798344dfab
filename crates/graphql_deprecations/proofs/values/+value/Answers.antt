use Rattle.std.proofs.Common.{sym, ap, ◌∙◌, subst, rules, ◌≡◌, None, Some, OnOk}
use Rattle.std.proofs.lemmas.Result.{on_ok_weaker}
use Rattle.graphql_documents.specs.TypeReferences.{inner_named_type}
use Rattle.graphql_deprecations.specs.InOrder.{Adds, EntriesUse, InputFieldUses, ItemsUse, ValueUses, element_uses, enum_uses, list_uses, no_entries, no_items, object_uses, other_uses, unknown_entry}
use Rattle.graphql_deprecations.specs.Usages.{input_field_at}
use Rattle.graphql_deprecations.specs.declared.reports.DeprecatedElement.TheVariants as kind
use Rattle.graphql_deprecations.proofs.AddLemmas.{adds_both, adds_none, adds_words}
use Rattle.graphql_deprecations.proofs.ValueLemmas.{adds_entry, adds_item, entries_all, items_all, known_entry}
use Rattle.graphql_deprecations.proofs.values.+value.Goals as goal

-- a value
pub add_in_value-returns-in-Enum : goal.add_in_value-returns-in-Enum
add_in_value-returns-in-Enum t c =
    let s = c.args.schema.now in
    let ty = c.args.ty.now in
    on_ok_weaker c.add_enum_value.result (adds_words (λ a h. subst (λ v. ValueUses s ty v a) (sym c.in-Enum.is) (enum_uses h))) c.add_enum_value.ensures

pub add_in_value-returns-in-List : goal.add_in_value-returns-in-List
add_in_value-returns-in-List t c =
    let s = c.args.schema.now in
    let ty = c.args.ty.now in
    on_ok_weaker c.add_in_items.result
    (adds_words (λ a h. subst (λ v. ValueUses s ty v a) (sym c.in-List.is) (list_uses c.in-List.items (subst (λ l. ItemsUse s ty l a) c.deref.ensures.value h))))
    c.add_in_items.ensures

pub add_in_value-returns-in-Object : goal.add_in_value-returns-in-Object
add_in_value-returns-in-Object t c =
    let s = c.args.schema.now in
    let ty = c.args.ty.now in
    on_ok_weaker c.add_in_entries.result
    (adds_words
    (λ a h. subst (λ v. ValueUses s ty v a) (sym c.in-Object.is) (object_uses c.in-Object.entries (subst (λ l. EntriesUse s ty l a) c.deref-in-Object.ensures.value h))))
    c.add_in_entries.ensures

pub add_in_value-returns-in_default : goal.add_in_value-returns-in_default
add_in_value-returns-in_default t c = adds_none (other_uses (c.in_default.not-Enum, c.in_default.not-List, c.in_default.not-Object))

-- items
pub add_in_items-loop-item-init : goal.add_in_items-loop-item-init
add_in_items-loop-item-init t c = adds_none no_items

pub add_in_items-loop-item-preserved : goal.add_in_items-loop-item-preserved
add_in_items-loop-item-preserved t c =
    let s = c.args.schema.now in
    let ty = c.args.ty.now in
    adds_item s c.args.items.now c.loop-item.item-index c.item-item.result c.loop-item-test.true c.item-item.is c.loop-item.invariant
    (subst (λ v. Adds (ValueUses s ty v) c.loop-item.found.items c.add_in_value.new.found.items) c.deref.ensures c.in_ok-add_in_value.ensures)

pub add_in_items-returns : goal.add_in_items-returns
add_in_items-returns t c = items_all c.args.schema.now c.args.items.now c.loop-item.item-index c.loop-item-test.false c.loop-item.invariant

-- entries
pub add_in_entries-loop-name-init : goal.add_in_entries-loop-name-init
add_in_entries-loop-name-init t c = adds_none no_entries

pub add_in_entries-loop-name-preserved : goal.add_in_entries-loop-name-preserved
add_in_entries-loop-name-preserved t c =
    adds_entry c.args.schema.now c.args.entries.now c.loop-name.name-index c.loop-name-item.result c.loop-name-test.true c.loop-name-item.is c.loop-name.invariant
    c.in_ok-add_in_entry.ensures

pub add_in_entries-returns : goal.add_in_entries-returns
add_in_entries-returns t c = entries_all c.args.schema.now c.args.entries.now c.loop-name.name-index c.loop-name-test.false c.loop-name.invariant

pub add_in_entry-returns-in-None : goal.add_in_entry-returns-in-None
add_in_entry-returns-in-None t c =
    let none : input_field_at c.args.schema.now c.args.ty.now c.args.name.now ≡ None = search rules in
    adds_none (unknown_entry none no_entries)

pub add_in_entry-returns-in-Some : goal.add_in_entry-returns-in-Some
add_in_entry-returns-in-Some t c =
    let s = c.args.schema.now in
    let ty = c.args.ty.now in
    let name = c.args.name.now in
    let value = c.args.value.now in
    let field = c.in-Some.field.now in
    let r = c.add_in_input_field.result in
    let old = c.args.found.now.items in
    let new = c.add_in_input_field.new.found.items in
    let is : input_field_at s ty name ≡ Some field = search rules in
    on_ok_weaker r (adds_words (λ a h. known_entry s ty (name, value) field a is h))
    (subst (λ d. OnOk r (Adds (InputFieldUses s ty name d value.value.value) old new)) c.deref.ensures
    (subst (λ v. OnOk r (Adds (InputFieldUses s ty name c.deref.result.now v) old new)) c.deref-in-Some.ensures c.add_in_input_field.ensures))

-- an input field
pub add_in_input_field-returns : goal.add_in_input_field-returns
add_in_input_field-returns t c =
    let s = c.args.schema.now in
    let ty = c.args.ty.now in
    let name = c.args.name.now in
    let r = c.add_in_value.result in
    let mid = c.add_input_field.new.found.items in
    let new = c.add_in_value.new.found.items in
    let element = kind.InputField (record { ty = ty; attribute = name }) in
    let itself = subst (λ l. Adds (λ uses. uses ≡ element_uses element name l) c.args.found.now.items mid) c.deref.ensures.value c.in_ok-add_input_field.ensures in
    let field_type = c.inner_named_type-field_type.ensures ∙ ap inner_named_type c.deref-2.ensures in
    on_ok_weaker r (λ inside. adds_both itself inside)
    (subst (λ n. OnOk r (Adds (ValueUses s n c.args.value.now) mid new)) field_type c.add_in_value.ensures)
