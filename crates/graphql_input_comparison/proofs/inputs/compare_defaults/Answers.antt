use Rattle.graphql_input_comparison.proofs.InputLemmas.{says_applicable}
use Rattle.graphql_change_kinds.specs.declared.changes.InputCoordinate.{InputCoordinate}
use Rattle.graphql_change_kinds.specs.declared.changes.Change.TheVariants as change
use Rattle.graphql_change_kinds.specs.Changes.{IsChange, default_added, default_changed}
use Rattle.graphql_documents.specs.contracts.documents.values.ValuePartialEq.TheImpl as value_impl
use Rattle.graphql_documents.proofs.ValueContentLemmas.{equality_of_values}
use Rattle.std.proofs.Common.{◌≡◌, Some, refl, rules, subst, sym, false}
use Rattle.std.specs.Prelude.{IsSome, IsNone}
use Rattle.graphql_change_kinds.proofs.FindsLemmas.{found_words}
use Rattle.graphql_input_comparison.proofs.inputs.compare_defaults.Goals as goal

pub returns-in_ok-push-in-Some-Some : goal.returns-in_ok-push-in-Some-Some
returns-in_ok-push-in-Some-Some c =
    let there : c.args.new.now.value.value.default_value ≡ Some c.in-Some-Some.to = search rules in
    found_words (λ merging harmless given non_null had. subst IsSome (sym there) refl) c.in_ok-push-in-Some-Some.ensures

pub returns-in_ok-push-in-None-Some : goal.returns-in_ok-push-in-None-Some
returns-in_ok-push-in-None-Some c =
    let there : c.args.new.now.value.value.default_value ≡ Some c.in-None-Some.field-0-1 = search rules in
    found_words (λ merging harmless given non_null had. subst IsSome (sym there) refl) c.in_ok-push-in-None-Some.ensures

pub push-requires-in-None-Some : goal.push-requires-in-None-Some
push-requires-in-None-Some c =
    let old = c.args.pair.old.now in
    let new = c.args.pair.new.now in
    let owner = c.args.owner in
    let name = c.args.name.now in
    let a = c.args.old.now.value.value in
    let b = c.args.new.now.value.value in
    let none : IsNone a.default_value = search rules in
    let some : IsSome b.default_value = search rules in
    subst (λ (i : InputCoordinate). IsChange old new (change.DefaultAdded i)) (sym c.in_ok-input-in-None-Some.ensures.is)
    (default_added a b (says_applicable old owner name c.requires.known) c.requires.was c.requires.is none some)

pub push-requires : goal.push-requires
push-requires c =
    let old = c.args.pair.old.now in
    let new = c.args.pair.new.now in
    let owner = c.args.owner in
    let name = c.args.name.now in
    let a = c.args.old.now.value.value in
    let b = c.args.new.now.value.value in
    let from = c.in-Some-Some.from in
    let to = c.in-Some-Some.to in
    let was : a.default_value ≡ Some from = search rules in
    let is : b.default_value ≡ Some to = search rules in
    let other : value_impl.ghosts.eq from.value.value to.value.value ≡ false = search rules in
    subst (λ (i : InputCoordinate). IsChange old new (change.DefaultChanged i)) (sym c.in_ok-input-in-Some-Some.ensures.is)
    (default_changed a b from to (says_applicable old owner name c.requires.known) c.requires.was c.requires.is was is
    (λ copy. let same = (equality_of_values from.value.value to.value.value).1 copy in let no : ⊥ = cc in no))

pub returns-in_ok-push_removed_default-in-Some-None : goal.returns-in_ok-push_removed_default-in-Some-None
returns-in_ok-push_removed_default-in-Some-None c =
    found_words (λ merging nullable given non_null had. absurd (let is = nullable given in let no : ⊥ = cc in no)) c.in_ok-push_removed_default-in-Some-None.ensures
