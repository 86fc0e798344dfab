use Rattle.std.proofs.Common.{◌⊎◌, subst, sym}
use Rattle.graphql_documents.specs.declared.documents.definitions.InputValueDefinition.{InputValueDefinition}
use Rattle.graphql_input_comparison.specs.Owners.{OwnerHasTwice, OwnerLacks}
use Rattle.graphql_change_kinds.proofs.FindsLemmas.{found_words}
use Rattle.graphql_input_comparison.proofs.InputLemmas.{is_new_argument}
use Rattle.graphql_input_comparison.proofs.arguments.compare_new_argument.Goals as goal

pub push_added_input-requires-clause-is_new : goal.push_added_input-requires-clause-is_new
push_added_input-requires-clause-is_new c =
    let old = c.args.pair.old.now in
    let new = c.args.pair.new.now in
    let owner = c.args.owner in
    subst (λ (d : InputValueDefinition). OwnerLacks old owner d.name ⊎ OwnerHasTwice new owner d.name) (sym c.deref.ensures)
    (is_new_argument old new owner c.args.old.now c.args.new.now c.requires.was c.requires.is c.args.argument.now c.requires.contained
    (c.was_required.ensures.was_not c.if-was_required.false))

pub returns : goal.returns
returns c =
    found_words (λ merging optional given kept required. absurd (let is = optional given in let no : ⊥ = cc in no)) c.in_ok-push_added_input.ensures
