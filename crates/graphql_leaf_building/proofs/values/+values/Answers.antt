use Rattle.std.proofs.Common.{◌∙◌}
use Rattle.graphql_leaf_building.proofs.ValueLemmas.{boolean_said, enum_said, fields_more, float_said, int_said, items_more, list_said, null_said, object_said, string_said, variable_said}
use Rattle.graphql_leaf_building.specs.Values.{no_fields, no_items}
use Rattle.graphql_leaf_building.proofs.values.+values.Goals as goal

pub contents-returns-in_ok-clone_in-in-Variable : goal.contents-returns-in_ok-clone_in-in-Variable
contents-returns-in_ok-clone_in-in-Variable t c =
    variable_said c.args.tree.now c.in-Variable.variable c.in_ok-clone_in-in-Variable.field-0 c.in-Variable.is c.in_ok-clone_in-in-Variable.ensures

pub contents-returns-in_ok-integer-in-Int : goal.contents-returns-in_ok-integer-in-Int
contents-returns-in_ok-integer-in-Int t c =
    int_said c.args.tree.now c.in-Int.number c.in_ok-integer-in-Int.field-0 c.in-Int._span c.in-Int.is c.in_ok-integer-in-Int.ensures

pub contents-returns-in_ok-float-in-Float : goal.contents-returns-in_ok-float-in-Float
contents-returns-in_ok-float-in-Float t c =
    float_said c.args.tree.now c.in-Float.number c.in_ok-float-in-Float.field-0 c.in-Float._span c.in-Float.is c.in_ok-float-in-Float.ensures

pub contents-returns-in_ok-text-in-String : goal.contents-returns-in_ok-text-in-String
contents-returns-in_ok-text-in-String t c =
    string_said c.args.tree.now c.in-String.literal c.in_ok-text-in-String.text c.in-String.is (c.in_ok-text-in-String.ensures.ok ∙ c.as_str.ensures.text)

pub contents-returns-in-Boolean : goal.contents-returns-in-Boolean
contents-returns-in-Boolean t c = boolean_said c.args.tree.now c.in-Boolean.truth c.in-Boolean._span c.in-Boolean.is

pub contents-returns-in-Null : goal.contents-returns-in-Null
contents-returns-in-Null t c = null_said c.args.tree.now c.in-Null._span c.in-Null.is

pub contents-returns-in_ok-clone_in-in-Enum : goal.contents-returns-in_ok-clone_in-in-Enum
contents-returns-in_ok-clone_in-in-Enum t c =
    enum_said c.args.tree.now c.in-Enum.name c.in_ok-clone_in-in-Enum.field-0 c.in-Enum.is c.in_ok-clone_in-in-Enum.ensures

pub contents-returns-in_ok-items_of_list-in-List : goal.contents-returns-in_ok-items_of_list-in-List
contents-returns-in_ok-items_of_list-in-List t c =
    list_said c.args.tree.now c.in-List.items c.in_ok-items_of_list-in-List.field-0 c.in-List._span c.in-List.is
    (rw c.as_slice.ensures at c.in_ok-items_of_list-in-List.ensures)

pub contents-returns-in_ok-fields_of_object-in-Object : goal.contents-returns-in_ok-fields_of_object-in-Object
contents-returns-in_ok-fields_of_object-in-Object t c =
    object_said c.args.tree.now c.in-Object.fields c.in_ok-fields_of_object-in-Object.field-0 c.in-Object._span c.in-Object.is
    (rw c.as_slice-in-Object.ensures at c.in_ok-fields_of_object-in-Object.ensures)

pub items_of_list-loop-tree-init : goal.items_of_list-loop-tree-init
items_of_list-loop-tree-init t c = rw c.new-items.ensures.items no_items

pub items_of_list-loop-tree-preserved : goal.items_of_list-loop-tree-preserved
items_of_list-loop-tree-preserved t c =
    items_more c.args.trees.now c.loop-tree.tree-index c.tree-item.result c.loop-tree.items.items c.push.new.self.items c.in_ok-item.item
    c.loop-tree-test.true c.tree-item.is c.loop-tree.invariant c.in_ok-item.ensures c.in_ok-push.ensures.items

pub fields_of_object-loop-tree-init : goal.fields_of_object-loop-tree-init
fields_of_object-loop-tree-init t c = rw c.new-fields.ensures.items no_fields

pub fields_of_object-loop-tree-preserved : goal.fields_of_object-loop-tree-preserved
fields_of_object-loop-tree-preserved t c =
    fields_more c.args.trees.now c.loop-tree.tree-index c.tree-item.result c.loop-tree.fields.items c.push.new.self.items (c.in_ok-name.name, c.in_ok-field.field)
    c.loop-tree-test.true c.tree-item.is c.loop-tree.invariant c.in_ok-name.ensures c.in_ok-field.ensures c.in_ok-push.ensures.items
