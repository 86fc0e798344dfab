-- Each exit of the walk, and each of its steps.
use Rattle.std.proofs.Common.{arith, ◌≡◌, ◌∷◌, ◌++◌, ◌<◌, [], ap, get_or, inl, inr, length, refl, subst, sym, take, ◌∙◌}
use Rattle.std.proofs.lemmas.List.{map-append, take_all}
use Rattle.std.specs.Prelude.{Vec, IfSome, IsFalse, IsTrue}
use Rattle.std.specs.declared.alloc.Global.{Global}
use Rattle.graphql_specification.specs.CollectFields.{AppliesTo}
use Rattle.graphql_nodes.specs.Names.{stands_on}
use Rattle.graphql_documents.specs.Selections.{fragments_of}
use Rattle.graphql_documents.specs.declared.documents.executables.Fragment.{Fragment}
use Rattle.graphql_documents.specs.declared.documents.executables.FragmentSpread.{FragmentSpread}
use Rattle.graphql_documents.specs.declared.documents.executables.InlineFragment.{InlineFragment}
use Rattle.graphql_documents.specs.declared.documents.executables.Selection.{size-Selection}
use Rattle.graphql_documents.specs.declared.documents.executables.SelectionSet.{size-SelectionSet}
use Rattle.graphql_nodes.proofs.NameLemmas.{same_name_itself}
use Rattle.graphql_diagnostics.proofs.ReportLemmas.{on_ok}
use Rattle.graphql_documents.proofs.ListLemmas.{more_is}
use Rattle.graphql_field_conflicts.specs.FieldSelections.{listed, selection_of}
use Rattle.graphql_field_conflicts.specs.declared.field_selections.FieldSelection as Code
use Rattle.graphql_operations.proofs.MeasureLemmas.{room_falls, room_stays, selection_is_smaller}
use Rattle.graphql_rules.proofs.SeenNameLemmas.{marked_grows, marked_is_seen, was_marked, was_seen}
use Rattle.graphql_validation.specs.CollectionSteps.{CollectsMore, WalksAmong, WalksIn, visited_of}
use Rattle.graphql_validation.proofs.CollectingLemmas.{among_grows}
use Rattle.graphql_validation.proofs.CollectionLemmas.{field_collected, inline_collected, inline_passed, more_then, nothing_more, set_collected, set_passed, spread_collected, spread_passed}
use Rattle.graphql_validation.proofs.collect.FieldCollection.+collect.Goals as goal

pub collect_selection-returns-then-not-condition_applies : goal.collect_selection-returns-then-not-condition_applies
collect_selection-returns-then-not-condition_applies t c =
    let of = c.args.self.now in
    let condition = c.as_ref.ensures.value ∙ ap (λ (i : InlineFragment). i.type_condition) c.deref.ensures in
    inline_passed of c.args.parent_type.now c.in-InlineFragment.inline c.args.selection.now c.in-InlineFragment.is
    (λ holds.
    let yes = c.condition_applies.ensures.1 (subst (λ o. IfSome o (AppliesTo of.schema.now of.object_type.now)) (sym condition) holds) in
    let no' : ⊥ = cc in no')

pub collect_selection-returns-in_ok-push-in-Field : goal.collect_selection-returns-in_ok-push-in-Field
collect_selection-returns-in_ok-push-in-Field t c =
    field_collected c.args.self.now c.args.parent_type.now c.in-Field.field c.args.selection.now c.in-Field.is refl
    (ap listed c.in_ok-push-in-Field.ensures.items ∙ map-append selection_of c.args.found.now.fields.items (record { parent_type = c.args.parent_type; field = _ } ∷ []))

pub collect_selection-returns-else-not-condition_applies : goal.collect_selection-returns-else-not-condition_applies
collect_selection-returns-else-not-condition_applies t c =
    let of = c.args.self.now in
    let condition = c.as_ref.ensures.value ∙ ap (λ (i : InlineFragment). i.type_condition) c.deref.ensures in
    on_ok c.collect_set.result _ _
    (λ m. inline_collected of c.args.parent_type.now c.in-InlineFragment.inline c.args.selection.now c.in-InlineFragment.is
    (subst (λ o. IfSome o (AppliesTo of.schema.now of.object_type.now)) condition (c.condition_applies.ensures.0 c.if-not-condition_applies.false))
    (subst (λ (i : InlineFragment). CollectsMore c.args.found.now c.collect_set.new.found (WalksIn c.args.self.now i.selection_set)) c.deref-in-InlineFragment.ensures m))
    c.collect_set.ensures

pub collect_set-returns-then-not-applies : goal.collect_set-returns-then-not-applies
collect_set-returns-then-not-applies t c = set_passed c.args.self.now c.args.set.now (λ applies. let yes = c.applies.ensures.1 applies in let no' : ⊥ = cc in no')

pub collect_set-loop-selection-init : goal.collect_set-loop-selection-init
collect_set-loop-selection-init t c = nothing_more c.args.self.now c.args.set.now.ty

pub collect_set-collect_selection-requires : goal.collect_set-collect_selection-requires
collect_set-collect_selection-requires t c =
    let of = c.args.self.now in
    let set = c.args.set.now in
    let old = visited_of c.args.found.now in
    let now = visited_of c.loop-selection.found in
    let grows = among_grows of.schema.now (fragments_of of.document.now) of.object_type.now c.loop-selection.invariant.walks in
    let kept = room_stays old now grows of.document.now.fragments.entries in
    let falls : size-Selection c.selection-item.result < size-SelectionSet set =
    subst (λ x. size-Selection x < size-SelectionSet set) (sym (c.selection-item.is ∙ ap (λ l. get_or l c.loop-selection.selection-index c.selection-item.result) c.deref-selection-items.ensures.value))
    (selection_is_smaller set c.loop-selection.selection-index c.selection-item.result
    (subst (λ l. c.loop-selection.selection-index < length l) c.deref-selection-items.ensures.value c.loop-selection-test.true)) in
    omega (arith, falls, kept, c.decreases)

pub collect_set-loop-selection-preserved : goal.collect_set-loop-selection-preserved
collect_set-loop-selection-preserved t c =
    let xs = c.deref-selection-items.result.now in
    let i = c.loop-selection.selection-index in
    let x = c.selection-item.result in
    subst (λ l. CollectsMore c.args.found.now c.collect_selection.new.found (WalksAmong c.args.self.now c.args.set.now.ty l))
    (sym (more_is xs i x c.loop-selection-test.true c.selection-item.is))
    (more_then c.args.self.now c.args.set.now.ty (take i xs) (x ∷ []) c.loop-selection.invariant c.in_ok-collect_selection.ensures)

pub collect_set-returns : goal.collect_set-returns
collect_set-returns t c =
    let xs = c.deref-selection-items.result.now in
    let all = take_all c.loop-selection.selection-index xs c.loop-selection-test.false ∙ c.deref-selection-items.ensures.value in
    set_collected c.args.self.now c.args.set.now (c.applies.ensures.0 c.if-not-applies.false)
    (subst (λ l. CollectsMore c.args.found.now c.loop-selection.found (WalksAmong c.args.self.now c.args.set.now.ty l)) all c.loop-selection.invariant)

pub collect_spread-returns-in_default : goal.collect_spread-returns-in_default
collect_spread-returns-in_default t c =
    let p = c.args.spread.now in
    spread_passed c.args.self.now c.args.parent_type.now p
    (inr (ap (λ (s : FragmentSpread). fragments_of c.args.self.now.document.now s.fragment_name) (sym c.deref.ensures) ∙ sym c.in_default.ensures.value)) refl refl

pub collect_spread-returns-then-not-branch : goal.collect_spread-returns-then-not-branch
collect_spread-returns-then-not-branch t c =
    let p = c.args.spread.now in
    let old = c.args.found.now in
    let name = c.deref.result.now.fragment_name in
    let seen = was_seen name old.visited.keys c.enter.new.self.visited.keys c.in_ok-enter.field-0 c.in_ok-enter.ensures.is_new c.in_ok-enter.ensures.names c.if-not-branch.true in
    spread_passed c.args.self.now c.args.parent_type.now p
    (inl (subst (λ (s : FragmentSpread). IsTrue (stands_on (visited_of old) s.fragment_name)) c.deref.ensures seen.0)) seen.1 c.in_ok-enter.ensures.fields

pub collect_spread-collect_set-requires : goal.collect_spread-collect_set-requires
collect_spread-collect_set-requires t c =
    let old = c.args.found.now in
    let new = c.enter.new.self in
    let name = c.deref.result.now.fragment_name in
    let d = c.in-Some.fragment.now in
    let es = c.args.self.now.document.now.fragments.entries in
    let m = was_marked name old.visited.keys new.visited.keys c.in_ok-enter.field-0 c.in_ok-enter.ensures.is_new c.in_ok-enter.ensures.names c.if-not-branch.false in
    let falls = room_falls (visited_of old) (visited_of new) (marked_grows m) name d m.unseen (marked_is_seen m name (same_name_itself name)) es (sym c.in-Some.ensures.value) in
    let same_size : size-SelectionSet c.deref-2.result.now.selection_set ≡ size-SelectionSet d.value.value.selection_set =
    ap (λ (f : Fragment). size-SelectionSet f.selection_set) c.deref-2.ensures in
    omega (arith, falls, same_size, c.decreases)

pub collect_spread-returns : goal.collect_spread-returns
collect_spread-returns t c =
    let p = c.args.spread.now in
    let of = c.args.self.now in
    let old = c.args.found.now in
    let new = c.enter.new.self in
    let name = c.deref.result.now.fragment_name in
    let d = c.in-Some.fragment.now in
    let m = was_marked name old.visited.keys new.visited.keys c.in_ok-enter.field-0 c.in_ok-enter.ensures.is_new c.in_ok-enter.ensures.names c.if-not-branch.false in
    on_ok c.collect_set.result _ _
    (λ more. spread_collected of c.args.parent_type.now p d
    (subst (λ (s : FragmentSpread). IsFalse (stands_on (visited_of old) s.fragment_name)) c.deref.ensures m.unseen)
    (ap (λ (s : FragmentSpread). fragments_of of.document.now s.fragment_name) (sym c.deref.ensures) ∙ sym c.in-Some.ensures.value)
    (m.names ∙ ap (λ (s : FragmentSpread). visited_of old ++ s.fragment_name ∷ []) c.deref.ensures)
    (ap (λ (f : Vec Code.FieldSelection Global). listed f.items) c.in_ok-enter.ensures.fields)
    (subst (λ (f : Fragment). CollectsMore new c.collect_set.new.found (WalksIn of f.selection_set)) c.deref-2.ensures more))
    c.collect_set.ensures
