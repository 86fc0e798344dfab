use Rattle.std.proofs.Common.{◌++◌, ◌∷◌, [], ap, refl, subst, ◌∙◌}
use Rattle.std.specs.Prelude.{is_some}
use Rattle.graphql_documents.specs.declared.documents.executables.Field.{Field}
use Rattle.graphql_documents.specs.declared.documents.executables.FragmentSpread.{FragmentSpread}
use Rattle.graphql_documents.specs.declared.documents.executables.InlineFragment.{InlineFragment}
use Rattle.graphql_merging.specs.ExpansionSteps.{fragments_in}
use Rattle.graphql_pair_merging.specs.NumberedSets.{sets_at}
use Rattle.graphql_value_numbers.specs.Arguments.{HaveNumber}
use Rattle.graphql_value_numbers.specs.Numbers.{Grows}
use Rattle.graphql_value_numbers.specs.Tables.{shapes_of}
use Rattle.graphql_value_numbers.specs.declared.values.ValueNumbers.{ValueNumbers}
use Rattle.graphql_pair_merging.proofs.ArgumentNumberLemmas.{field_numbered}
use Rattle.graphql_pair_merging.proofs.NumberLemmas.{field_described, inline_described, spread_described, unknown_described}
use Rattle.graphql_pair_merging.proofs.numbered_sets.Numbering.add_selection.Goals as goal

pub returns-in_ok-push-in-Field-clause-described :
    goal.returns-in_ok-push-in-Field-clause-described
returns-in_ok-push-in-Field-clause-described c done d =
    let sets = sets_at c.args.self.now.sets.items in
    field_described (fragments_in c.args.self.now.fragments.now) c.args.described.now.set.now.ty sets _ done c.args.selection.now c.in-Field.field c.args.described.now _ _
    c.in-Field.is (c.in_ok-set-in-Field.ensures.sets ∙ ap (λ (x : Field). sets ++ x.selection_set ∷ []) c.deref.ensures) c.in_ok-push-in-Field.ensures.items refl
    refl c.in_ok-set-in-Field.ensures.number d

pub returns-in_ok-push-in-InlineFragment-clause-described :
    goal.returns-in_ok-push-in-InlineFragment-clause-described
returns-in_ok-push-in-InlineFragment-clause-described c done d =
    let sets = sets_at c.args.self.now.sets.items in
    inline_described (fragments_in c.args.self.now.fragments.now) c.args.described.now.set.now.ty sets _ done c.args.selection.now c.in-InlineFragment.inline c.args.described.now _ _
    c.in-InlineFragment.is (c.in_ok-number-in-InlineFragment.ensures.sets ∙ ap (λ (x : InlineFragment). sets ++ x.selection_set ∷ []) c.deref-in-InlineFragment.ensures) refl
    c.in_ok-push-in-InlineFragment.ensures.items c.in_ok-number-in-InlineFragment.ensures.number d

pub returns-in_ok-push-in-FragmentSpread-clause-described :
    goal.returns-in_ok-push-in-FragmentSpread-clause-described
returns-in_ok-push-in-FragmentSpread-clause-described c done d =
    let F = fragments_in c.args.self.now.fragments.now in
    spread_described F c.args.described.now.set.now.ty (sets_at c.args.self.now.sets.items) _ c.requires.0 done c.args.selection.now c.in-FragmentSpread.spread c.args.described.now _ _
    c.in-FragmentSpread.is c.requires.1
    (c.in-Some.ensures.value ∙ ap (λ (x : FragmentSpread). F x.fragment_name) c.deref-in-FragmentSpread.ensures)
    (c.in-Some.ensures.found ∙ ap (λ (x : FragmentSpread). is_some (F x.fragment_name)) c.deref-in-FragmentSpread.ensures)
    refl c.in_ok-push-in-FragmentSpread.ensures.items d

pub returns-in_default-clause-described : goal.returns-in_default-clause-described
returns-in_default-clause-described c done d =
    let F = fragments_in c.args.self.now.fragments.now in
    unknown_described F c.args.described.now.set.now.ty (sets_at c.args.self.now.sets.items) done c.args.selection.now c.in-FragmentSpread.spread c.args.described.now
    c.in-FragmentSpread.is (c.in_default.ensures.found ∙ ap (λ (x : FragmentSpread). is_some (F x.fragment_name)) c.deref-in-FragmentSpread.ensures) d

pub returns-in_ok-push-in-Field-clause-arguments :
    goal.returns-in_ok-push-in-Field-clause-arguments
returns-in_ok-push-in-Field-clause-arguments c all =
    let old = shapes_of c.args.self.now.values in
    let new = shapes_of c.number_arguments.new.self in
    let e = c.in_ok-arguments-in-Field.ensures in
    let n = c.in_ok-arguments-in-Field.arguments in
    let given = c.deref-in-Field-2.ensures.value ∙ ap (λ (f : Field). f.arguments.items) c.deref-in-Field.ensures in
    field_numbered old new (subst (λ (v : ValueNumbers). Grows (shapes_of v) new) c.in_ok-set-in-Field.ensures.values e.grows)
    c.args.described.now.fields.items c.push.new.self.items _ c.in_ok-push-in-Field.ensures.items (subst (λ l. HaveNumber new l n) given e.number) all
