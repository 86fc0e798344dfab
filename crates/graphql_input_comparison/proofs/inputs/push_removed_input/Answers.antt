use Rattle.graphql_change_kinds.proofs.FindsLemmas.{found_words}
use Rattle.std.proofs.Common.{sym, subst, ◌∙◌}
use Rattle.graphql_change_kinds.specs.Changes.{IsChange, input_removed}
use Rattle.graphql_change_kinds.specs.declared.changes.Change.TheVariants as change
use Rattle.graphql_change_kinds.specs.declared.changes.InputCoordinate.{InputCoordinate}
use Rattle.graphql_input_comparison.proofs.InputLemmas.{says_applicable}
use Rattle.graphql_input_comparison.proofs.inputs.push_removed_input.Goals as goal

pub push-requires : goal.push-requires
push-requires c =
    let old = c.args.pair.old.now in
    let new = c.args.pair.new.now in
    let owner = c.args.owner in
    let name = c.args.name.now in
    subst (λ (i : InputCoordinate). IsChange old new (change.InputRemoved i)) (sym c.in_ok-input.ensures.is)
    (input_removed c.args.old.now.value.value (says_applicable old owner name c.requires.known) c.requires.was c.requires.lacks)

pub returns : goal.returns
returns c = found_words (λ merging harmless. sym c.in_ok-input.ensures.given ∙ harmless) c.in_ok-push.ensures
