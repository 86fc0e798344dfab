use Rattle.std.proofs.Common.{rules, arith, ◌≡◌, ◌≤◌, [], ap, ◌∙◌, Contains}
use Rattle.std.specs.Prelude.{unwrap_or}
use Rattle.graphql_documents.specs.declared.documents.executables.Field.{Field}
use Rattle.graphql_documents.specs.declared.documents.executables.InlineFragment.{InlineFragment}
use Rattle.graphql_documents.specs.TypeReferences.{inner_named_type}
use Rattle.graphql_trees.specs.declared.executable.Field as field_tree
use Rattle.graphql_document_building.proofs.BuildsLemmas.{field_is_defined, one_builds_in, set_below_builds_in, set_of_fragment_builds_in}
use Rattle.graphql_document_building.specs.FieldDefinitions.{schema_of}
use Rattle.graphql_trees.specs.declared.executable.Selection.{size-Selection}
use Rattle.graphql_document_building.proofs.MeasureLemmas.{item_is_no_deeper, most_size, set_is_smaller}
use Rattle.graphql_document_building.proofs.SaysLemmas.{field_said, inline_fragment_said, selections_more, spread_said}
use Rattle.graphql_document_building.specs.Selections.{no_selections}
use Rattle.graphql_document_building.specs.Trees.{selections_in}
use Rattle.graphql_document_building.proofs.selections.+selections.Goals as goal

pub build_field-of_field-requires-clause-defined : goal.build_field-of_field-requires-clause-defined
build_field-of_field-requires-clause-defined t c =
    field_is_defined c.args.definitions.now c.args.parent.now c.args.tree.now c.requires.proper c.requires.builds

pub build_field-build_set_below-requires : goal.build_field-build_set_below-requires
build_field-build_set_below-requires t c =
    let is : c.inner_named_type.result.now ≡ inner_named_type c.of_field.result.now.value.value.ty =
    c.inner_named_type.ensures ∙ ap (λ d. inner_named_type d.ty) (c.deref.ensures ∙ c.in_ok-definition.ensures.cases.same_value) in (
      search rules,
      (
        c.requires.proper,
        set_below_builds_in (schema_of c.args.definitions.now) c.args.parent.now c.inner_named_type.result.now c.args.tree.now c.of_field.result.now
            c.requires.builds c.of_field.ensures is,
      ),
    )

pub build_field-returns : goal.build_field-returns
build_field-returns t c =
    let d = c.of_field.result.now in
    let x = c.args.tree.now in
    let is : c.inner_named_type.result.now ≡ inner_named_type d.value.value.ty =
    c.inner_named_type.ensures ∙ ap (λ d. inner_named_type d.ty) (c.deref.ensures ∙ c.in_ok-definition.ensures.cases.same_value) in
    let y : Field = record {
      definition = c.in_ok-definition.definition;
      alias = c.in_ok-alias.alias;
      name = c.in_ok-name.name;
      arguments = c.in_ok-arguments.arguments;
      directives = c.in_ok-directives.directives;
      selection_set = c.in_ok-selection_set.selection_set;
    } in
    field_said (schema_of c.args.definitions.now) c.args.parent.now x y c.in_ok-node.node c.in_ok-node.ensures.value
    (record {
      definition = d;
      defines = c.of_field.ensures;
      same_definition = c.in_ok-definition.ensures.cases;
      alias = c.in_ok-alias.ensures;
      name = c.in_ok-name.ensures;
      arguments = rw c.as_slice.ensures at c.in_ok-arguments.ensures;
      directives = rw c.as_slice-2.ensures at c.in_ok-directives.ensures;
      set_type = c.in_ok-selection_set.ensures.set_type ∙ is;
    })
    c.in_ok-selection_set.ensures.selections c.in_ok-node.ensures.location

pub build_inline_fragment-build_selection_set-requires : goal.build_inline_fragment-build_selection_set-requires
build_inline_fragment-build_selection_set-requires t c =
    let is : c.unwrap_or-ty.result.now ≡ unwrap_or c.args.tree.now.type_condition c.args.parent.now = search rules in
    let falls : most_size c.as_slice-2.result.now ≡ most_size c.args.tree.now.selection_set.selections = ap most_size c.as_slice-2.ensures in (
      omega (arith, falls, set_is_smaller c.args.tree.now, c.decreases),
      (c.requires.proper, set_of_fragment_builds_in (schema_of c.args.definitions.now) c.args.parent.now c.unwrap_or-ty.result.now c.args.tree.now c.as_slice-2.result.now c.requires.builds is c.as_slice-2.ensures),
    )

pub build_inline_fragment-returns : goal.build_inline_fragment-returns
build_inline_fragment-returns t c =
    let is : c.unwrap_or-ty.result.now ≡ unwrap_or c.args.tree.now.type_condition c.args.parent.now = search rules in
    let y : InlineFragment = record {
      type_condition = c.in_ok-type_condition.type_condition;
      directives = c.in_ok-directives.directives;
      selection_set = c.in_ok-selection_set.selection_set;
    } in
    inline_fragment_said (schema_of c.args.definitions.now) c.args.parent.now c.args.tree.now y c.in_ok-node.node c.in_ok-node.ensures.value
    (record {
      type_condition = c.in_ok-type_condition.ensures;
      directives = rw c.as_slice.ensures at c.in_ok-directives.ensures;
      set_type = c.in_ok-selection_set.ensures.set_type ∙ is;
    })
    (rw c.as_slice-2.ensures at c.in_ok-selection_set.ensures.selections) c.in_ok-node.ensures.location

pub build_selection-returns-in_ok-spread-in-FragmentSpread : goal.build_selection-returns-in_ok-spread-in-FragmentSpread
build_selection-returns-in_ok-spread-in-FragmentSpread t c =
    spread_said (schema_of c.args.definitions.now) c.args.parent.now c.args.tree.now c.in-FragmentSpread.spread c.in_ok-spread-in-FragmentSpread.spread
    c.in-FragmentSpread.is c.in_ok-spread-in-FragmentSpread.ensures

pub build_selection_set-build_selection-requires : goal.build_selection_set-build_selection-requires
build_selection_set-build_selection-requires t c =
    let stands : Contains c.args.trees.now c.tree-item.result = search rules in
    let falls : size-Selection c.tree-item.result ≤ most_size c.args.trees.now =
    item_is_no_deeper c.args.trees.now c.loop-tree.tree-index c.tree-item.result c.loop-tree-test.true c.tree-item.is in (
      omega (arith, falls, c.decreases),
      (c.requires.proper, (c.of_type-own_type.ensures, one_builds_in (schema_of c.args.definitions.now) c.args.ty.now c.args.trees.now c.tree-item.result stands c.requires.builds)),
    )

pub build_selection_set-loop-tree-init : goal.build_selection_set-loop-tree-init
build_selection_set-loop-tree-init t c = rw c.in_ok-selections.ensures.items no_selections

pub build_selection_set-loop-tree-preserved : goal.build_selection_set-loop-tree-preserved
build_selection_set-loop-tree-preserved t c =
    selections_more (schema_of c.args.definitions.now) c.args.ty.now c.args.trees.now c.loop-tree.tree-index c.tree-item.result c.loop-tree.selections.items c.push.new.self.items
    c.in_ok-selection.selection c.loop-tree-test.true c.tree-item.is c.loop-tree.invariant c.in_ok-selection.ensures c.in_ok-push.ensures.items

pub build_set_below-returns-in_ok-ty-in-None : goal.build_set_below-returns-in_ok-ty-in-None
build_set_below-returns-in_ok-ty-in-None t c =
    let none : selections_in (field_tree.out-Field c.args.field.now).selection_set ≡ [] = ap selections_in c.in-None.is in
    record {
      set_type = c.in_ok-ty-in-None.ensures;
      selections = rw (none, c.new.ensures.items) no_selections;
    }
