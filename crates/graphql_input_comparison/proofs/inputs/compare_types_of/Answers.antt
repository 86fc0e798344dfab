use Rattle.graphql_change_kinds.specs.declared.changes.InputCoordinate.{InputCoordinate}
use Rattle.graphql_change_kinds.specs.declared.changes.Change.TheVariants as change
use Rattle.graphql_change_kinds.specs.Changes.{IsChange, input_type_changed}
use Rattle.std.proofs.Common.{◌≡◌, ◌∙◌, not, rules, subst, sym, true, false}
use Rattle.graphql_documents.specs.TypeReferences.{IsTypeCopy, is_assignable, same_type}
use Rattle.graphql_documents.specs.declared.documents.type_references.Type.{«Type»}
use Rattle.graphql_change_kinds.specs.Breaks.{is_given}
use Rattle.graphql_input_comparison.proofs.InputLemmas.{says_applicable}
use Rattle.graphql_change_kinds.proofs.FindsLemmas.{found_words, keeps_here}
use Rattle.graphql_input_comparison.proofs.TypeCopyLemmas.{assignable_copies, assignable_same, not_false, second_false}
use Rattle.graphql_input_comparison.proofs.inputs.compare_types_of.Goals as goal

pub returns-then-is_same_type : goal.returns-then-is_same_type
returns-then-is_same_type c =
    let from = c.args.old.now.value.value.ty.value.value in
    let to = c.args.new.now.value.value.ty.value.value in
    let same : same_type from to ≡ true = search rules in
    keeps_here (λ merging given. assignable_same from to same)

pub returns : goal.returns
returns c =
    let from = c.args.old.now.value.value.ty.value.value in
    let to = c.args.new.now.value.value.ty.value.value in
    let first = c.in_ok-from.from in
    let second = c.in_ok-to.to in
    let input = c.in_ok-input.input in
    let from_copy : IsTypeCopy from first = subst (λ (t : «Type»). IsTypeCopy t first) c.type_of_input-from.ensures c.in_ok-from.ensures.cases in
    let to_copy : IsTypeCopy to second = subst (λ (t : «Type»). IsTypeCopy t second) c.type_of_input-to.ensures c.in_ok-to.ensures.cases in
    found_words (λ merging harmless given.
    sym (assignable_copies from to first second from_copy to_copy) ∙
    not_false (is_assignable first second) (second_false (is_given input) (not (is_assignable first second)) harmless (c.in_ok-input.ensures.given ∙ given)))
    c.in_ok-push.ensures

pub push-requires : goal.push-requires
push-requires c =
    let old = c.args.pair.old.now in
    let new = c.args.pair.new.now in
    let owner = c.args.owner in
    let name = c.args.name.now in
    let a = c.args.old.now.value.value in
    let b = c.args.new.now.value.value in
    let from = c.in_ok-from.from in
    let to = c.in_ok-to.to in
    let from_copy : IsTypeCopy a.ty.value.value from = subst (λ (t : «Type»). IsTypeCopy t from) c.type_of_input-from.ensures c.in_ok-from.ensures.cases in
    let to_copy : IsTypeCopy b.ty.value.value to = subst (λ (t : «Type»). IsTypeCopy t to) c.type_of_input-to.ensures c.in_ok-to.ensures.cases in
    let differ : same_type a.ty.value.value b.ty.value.value ≡ false = search rules in
    subst (λ (i : InputCoordinate). IsChange old new (change.InputTypeChanged i from to)) (sym c.in_ok-input.ensures.is)
    (input_type_changed a b (says_applicable old owner name c.requires.known) c.requires.was c.requires.is from_copy to_copy differ)
