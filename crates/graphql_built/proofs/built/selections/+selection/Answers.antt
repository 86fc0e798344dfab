use Rattle.std.proofs.Common.{rules, ◌∙◌, refl, subst, All, Contains}
use Rattle.std.proofs.lemmas.List.{take_all}
use Rattle.std.proofs.lemmas.List.Elements.{All-more}
use Rattle.graphql_built.specs.BuiltSelections.{SelectionIsBuilt}
use Rattle.graphql_built.proofs.BuiltLemmas.{field_part, one_not_built, sets_built}
use Rattle.graphql_documents.specs.Selections.{selections_of}
use Rattle.graphql_built.proofs.built.selections.+selection.Goals as goal

pub selection_is_built-returns-then-field_is_built : goal.selection_is_built-returns-then-field_is_built
selection_is_built-returns-then-field_is_built t c =
    field_part c.args.schema.now c.args.parent.now c.args.selection.now c.in-Field.field _ _ _ _ c.in-Field.is
    c.deref.ensures c.deref-then-field_is_built.ensures c.if-field_is_built.true c.field_is_built.ensures c.sets_are_built.ensures

pub sets_are_built-returns-then-not-selection_is_built : goal.sets_are_built-returns-then-not-selection_is_built
sets_are_built-returns-then-not-selection_is_built t c =
    let stands : Contains (selections_of c.args.set.now) c.selection-item.result = search rules in
    one_not_built c.args.schema.now c.args.set.now c.selection-item.result _ stands c.selection_is_built.ensures (search rules)

pub sets_are_built-loop-selection-preserved : goal.sets_are_built-loop-selection-preserved
sets_are_built-loop-selection-preserved t c =
    let P = SelectionIsBuilt c.args.schema.now c.args.set.now.ty in
    let built : P c.selection-item.result = c.selection_is_built.ensures.0 (search rules) in
    All-more P c.deref-selection-items.result.now c.loop-selection.selection-index c.selection-item.result c.loop-selection-test.true
    c.loop-selection.invariant (subst P c.selection-item.is built)

pub sets_are_built-returns : goal.sets_are_built-returns
sets_are_built-returns t c =
    let P = SelectionIsBuilt c.args.schema.now c.args.set.now.ty in
    let all : All P (selections_of c.args.set.now) =
    subst (All P) (take_all c.loop-selection.selection-index c.deref-selection-items.result.now c.loop-selection-test.false ∙ c.deref-selection-items.ensures.value)
    c.loop-selection.invariant in
    (λ e. sets_built c.args.schema.now c.args.set.now all, λ h. refl)
