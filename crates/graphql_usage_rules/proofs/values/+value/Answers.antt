use Rattle.std.proofs.Common.{sym, ap, ◌∙◌, subst, rules, ◌≡◌, Some}
use Rattle.std.specs.Prelude.{IsTrue}
use Rattle.indexmap.specs.IndexMap.{get}
use Rattle.graphql_nodes.specs.Names.{same_name}
use Rattle.graphql_documents.specs.Schemas.{input_object_named}
use Rattle.graphql_documents.specs.TypeReferences.{inner_named_type, is_list}
use Rattle.graphql_usage_rules.specs.Parts.{UsedInEntry, UsedInField, UsedInItem, UsedInList, UsedInObject, location_at}
use Rattle.graphql_usage_rules.specs.Usages.{UsedIn, item_location, location_of}
use Rattle.graphql_usage_rules.proofs.PlaceLemmas.{Among, Checked, found_checked, in_places, not_found, nothing_used, place_refused, places_all, places_more}
use Rattle.graphql_usage_rules.proofs.UsageLemmas.{IsThis}
use Rattle.graphql_usage_rules.proofs.ValueLemmas.{list_words, not_in_others, object_words, variable_words}
use Rattle.graphql_usage_rules.proofs.values.+value.Goals as goal

-- a value
pub check_value-returns-in-Variable : goal.check_value-returns-in-Variable
check_value-returns-in-Variable t c =
    let v = c.args.variables.now in
    let at = location_at c.args.location in
    let value = c.args.value.now in
    in_places v c.check_usage.result (IsThis v c.in-Variable.name value.location at) (UsedIn c.args.schema.now at value) c.args.reports.now.kept.items
    c.check_usage.new.reports.kept.items (variable_words c.args.schema.now at value c.in-Variable.name (sym c.deref.ensures ∙ c.in-Variable.is)) c.check_usage.ensures

pub check_value-returns-in-List : goal.check_value-returns-in-List
check_value-returns-in-List t c =
    let v = c.args.variables.now in
    let s = c.args.schema.now in
    let r = c.check_list.result in
    let at = location_at c.args.location in
    let value = c.args.value.now in
    let old = c.args.reports.now.kept.items in
    let new = c.check_list.new.reports.kept.items in
    in_places v r (UsedInList s at c.in-List.items.items) (UsedIn s at value) old new (list_words s at value c.in-List.items (sym c.deref.ensures ∙ c.in-List.is))
    (subst (λ l. Checked v r (UsedInList s at l) old new) c.deref-in-List.ensures.value c.check_list.ensures)

pub check_value-returns-in-Object : goal.check_value-returns-in-Object
check_value-returns-in-Object t c =
    let v = c.args.variables.now in
    let s = c.args.schema.now in
    let r = c.check_object.result in
    let at = location_at c.args.location in
    let value = c.args.value.now in
    let old = c.args.reports.now.kept.items in
    let new = c.check_object.new.reports.kept.items in
    in_places v r (UsedInObject s at c.in-Object.entries.items) (UsedIn s at value) old new
    (object_words s at value c.in-Object.entries (sym c.deref.ensures ∙ c.in-Object.is))
    (subst (λ l. Checked v r (UsedInObject s at l) old new) c.deref-in-Object.ensures.value c.check_object.ensures)

pub check_value-returns-in_default : goal.check_value-returns-in_default
check_value-returns-in_default t c =
    nothing_used c.args.variables.now (UsedIn c.args.schema.now (location_at c.args.location) c.args.value.now) _
    (λ u used. not_in_others c.args.schema.now used (λ name is. c.in_default.not-Variable name (c.deref.ensures ∙ is))
    (λ items is. c.in_default.not-List items (c.deref.ensures ∙ is)) (λ entries is. c.in_default.not-Object entries (c.deref.ensures ∙ is)))

-- a list
pub check_list-returns : goal.check_list-returns
check_list-returns t c =
    let v = c.args.variables.now in
    let r = c.check_items.result in
    let at = location_at c.args.location in
    let old = c.args.reports.now.kept.items in
    let new = c.check_items.new.reports.kept.items in
    let listed : IsTrue (is_list at.ty) = sym c.is_list.ensures ∙ c.if-not-is_list.false in
    let checked = subst (λ l. Checked v r (Among v (UsedInItem c.args.schema.now l) c.args.items.now) old new) c.of_item.ensures c.check_items.ensures in
    in_places v r (Among v (UsedInItem c.args.schema.now (item_location at)) c.args.items.now) (UsedInList c.args.schema.now at c.args.items.now) old new
    (λ u. (λ any. (listed, any), λ both. both.1)) checked

pub check_items-returns-in_err-check_value : goal.check_items-returns-in_err-check_value
check_items-returns-in_err-check_value t c =
    let v = c.args.variables.now in
    let at = location_at c.args.location in
    let mid = c.loop-item.reports.kept.items in
    let new = c.check_value.new.reports.kept.items in
    place_refused v (UsedInItem c.args.schema.now at) c.args.items.now c.from_residual.result c.loop-item.item-index c.item-item.result c.args.reports.now.kept.items mid new
    c.from_residual.ensures.0 c.loop-item-test.true c.item-item.is c.loop-item.invariant
    c.in_err-check_value.ensures

pub check_items-loop-item-preserved : goal.check_items-loop-item-preserved
check_items-loop-item-preserved t c =
    let v = c.args.variables.now in
    let at = location_at c.args.location in
    let mid = c.loop-item.reports.kept.items in
    let new = c.check_value.new.reports.kept.items in
    places_more v (UsedInItem c.args.schema.now at) c.args.items.now c.loop-item.item-index c.item-item.result c.args.reports.now.kept.items mid new
    c.loop-item-test.true c.item-item.is c.loop-item.invariant
    c.in_ok-check_value.ensures

pub check_items-returns : goal.check_items-returns
check_items-returns t c =
    places_all c.args.variables.now (UsedInItem c.args.schema.now (location_at c.args.location)) c.args.items.now c.loop-item.item-index c.args.reports.now.kept.items
    c.loop-item.reports.kept.items c.loop-item-test.false c.loop-item.invariant

-- an object value
pub check_object-returns-in-Some : goal.check_object-returns-in-Some
check_object-returns-in-Some t c =
    let at = location_at c.args.location in
    let is : input_object_named c.args.schema.now (inner_named_type at.ty) ≡ Some c.in-Some.input_object.now = search rules in
    found_checked c.args.variables.now c.check_entries.result (input_object_named c.args.schema.now (inner_named_type at.ty))
    (λ d. Among c.args.variables.now (UsedInEntry c.args.schema.now d) c.args.entries.now)
    c.in-Some.input_object.now c.args.reports.now.kept.items c.check_entries.new.reports.kept.items is c.check_entries.ensures

pub check_object-returns-in-None : goal.check_object-returns-in-None
check_object-returns-in-None t c =
    not_found c.args.variables.now (input_object_named c.args.schema.now (inner_named_type (location_at c.args.location).ty))
    (λ d. Among c.args.variables.now (UsedInEntry c.args.schema.now d) c.args.entries.now) c.args.reports.now.kept.items (search rules)

pub check_entry-returns-in-Some : goal.check_entry-returns-in-Some
check_entry-returns-in-Some t c =
    let v = c.args.variables.now in
    let r = c.check_value.result in
    let old = c.args.reports.now.kept.items in
    let new = c.check_value.new.reports.kept.items in
    let field = c.in-Some.field.now in
    let is : get same_name c.args.input_object.now.value.value.fields c.args.name.now ≡ Some field = search rules in
    let place : location_at c.of-location.result ≡ location_of field.node.value.value = c.of-location.ensures ∙ ap (λ d. location_of d) c.deref-in-Some.ensures in
    found_checked v r (get same_name c.args.input_object.now.value.value.fields c.args.name.now) (UsedInField c.args.schema.now c.args.value.now) field old new is
    (subst (λ l. Checked v r (UsedIn c.args.schema.now l c.args.value.now) old new) place c.check_value.ensures)

pub check_entry-returns-in-None : goal.check_entry-returns-in-None
check_entry-returns-in-None t c =
    not_found c.args.variables.now (get same_name c.args.input_object.now.value.value.fields c.args.name.now) (UsedInField c.args.schema.now c.args.value.now)
    c.args.reports.now.kept.items (search rules)

pub check_entries-returns-in_err-check_entry : goal.check_entries-returns-in_err-check_entry
check_entries-returns-in_err-check_entry t c =
    let v = c.args.variables.now in
    let In = UsedInEntry c.args.schema.now c.args.input_object.now in
    let entry = c.loop-name-item.result in
    let mid = c.loop-name.reports.kept.items in
    let new = c.check_entry.new.reports.kept.items in
    place_refused v In c.args.entries.now c.from_residual.result c.loop-name.name-index entry c.args.reports.now.kept.items mid new
    c.from_residual.ensures.0 c.loop-name-test.true c.loop-name-item.is c.loop-name.invariant
    c.in_err-check_entry.ensures

pub check_entries-loop-name-preserved : goal.check_entries-loop-name-preserved
check_entries-loop-name-preserved t c =
    let v = c.args.variables.now in
    let In = UsedInEntry c.args.schema.now c.args.input_object.now in
    let entry = c.loop-name-item.result in
    let mid = c.loop-name.reports.kept.items in
    let new = c.check_entry.new.reports.kept.items in
    places_more v In c.args.entries.now c.loop-name.name-index entry c.args.reports.now.kept.items mid new
    c.loop-name-test.true c.loop-name-item.is c.loop-name.invariant
    c.in_ok-check_entry.ensures

pub check_entries-returns : goal.check_entries-returns
check_entries-returns t c =
    places_all c.args.variables.now (UsedInEntry c.args.schema.now c.args.input_object.now) c.args.entries.now c.loop-name.name-index c.args.reports.now.kept.items
    c.loop-name.reports.kept.items c.loop-name-test.false c.loop-name.invariant
