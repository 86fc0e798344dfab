use Rattle.std.specs.Prelude.{Bool}
use Rattle.graphql_input_comparison.specs.Owners.{coordinate_of}
use Rattle.graphql_change_kinds.specs.declared.changes.InputCoordinate.{InputCoordinate}
use Rattle.graphql_change_kinds.specs.declared.changes.Change.TheVariants as change
use Rattle.graphql_change_kinds.specs.Changes.{IsChange, input_added}
use Rattle.std.proofs.Common.{◌≡◌, ◌∙◌, rules, sym, subst}
use Rattle.graphql_documents.specs.Schemas.{is_required}
use Rattle.graphql_change_kinds.specs.Breaks.{is_given}
use Rattle.graphql_input_comparison.proofs.InputLemmas.{says_applicable}
use Rattle.graphql_change_kinds.proofs.FindsLemmas.{found_words}
use Rattle.graphql_input_comparison.proofs.TypeCopyLemmas.{second_false}
use Rattle.graphql_input_comparison.proofs.inputs.push_added_input.Goals as goal

pub returns : goal.returns
returns c =
    let required : c.is_required-is_required.result ≡ is_required c.args.new.now.value.value = search rules in
    found_words (λ merging harmless given.
    sym required ∙ second_false (is_given c.in_ok-input.input) c.is_required-is_required.result harmless (c.in_ok-input.ensures.given ∙ given))
    c.in_ok-push.ensures

pub push-requires : goal.push-requires
push-requires c =
    let old = c.args.pair.old.now in
    let new = c.args.pair.new.now in
    let owner = c.args.owner in
    let name = c.args.name.now in
    let b = c.args.new.now.value.value in
    let required : c.is_required-is_required.result ≡ is_required b = search rules in
    subst (λ (i : InputCoordinate). IsChange old new (change.InputAdded i c.is_required-is_required.result)) (sym c.in_ok-input.ensures.is)
    (subst (λ (r : Bool). IsChange old new (change.InputAdded (coordinate_of owner name) r)) (sym required)
    (input_added b (says_applicable old owner name c.requires.known) c.requires.is c.requires.is_new))
