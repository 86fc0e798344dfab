use Rattle.std.proofs.Common.{refl}
use Rattle.graphql_input_comparison.proofs.InputLemmas.{has_field, is_new_field}
use Rattle.graphql_change_kinds.proofs.FindsLemmas.{found_words}
use Rattle.graphql_input_comparison.proofs.input_types.compare_new_field.Goals as goal

pub push_added_input-requires-clause-is : goal.push_added_input-requires-clause-is
push_added_input-requires-clause-is c =
    has_field c.args.pair.new.now c.args.ty.now c.args.new.now c.requires.is (c.args.name.now, c.args.field.now) c.requires.contained

pub push_added_input-requires-clause-is_new : goal.push_added_input-requires-clause-is_new
push_added_input-requires-clause-is_new c =
    is_new_field c.args.pair.old.now c.args.pair.new.now c.args.ty.now c.args.old.now c.args.new.now c.requires.was c.requires.is (c.args.name.now, c.args.field.now) c.requires.contained
    (c.was_field_required.ensures.was_not c.if-was_field_required.false)

pub returns : goal.returns
returns c =
    found_words (λ merging optional kept required. absurd (let is = optional refl in let no : ⊥ = cc in no)) c.in_ok-push_added_input.ensures
