use Rattle.std.proofs.Common.{◌≡◌, ◌∙◌, ◌++◌, [], ◌∷◌, refl, sym}
use Rattle.graphql_documents.proofs.ListLemmas.{done_next, stands_next}
use Rattle.graphql_input_comparison.specs.Inputs.{InputField, KeepsInputField}
use Rattle.graphql_input_comparison.proofs.InputLemmas.{has_field}
use Rattle.graphql_change_kinds.proofs.FindsLemmas.{found_behind, found_none, found_whole}
use Rattle.graphql_input_comparison.proofs.input_types.compare_old_fields.Goals as goal

pub loop-name-init : goal.loop-name-init
loop-name-init c = record { can_next = tt; is_finite = tt; done = []; all = refl; found = found_none (λ merging (entry : InputField). KeepsInputField c.args.new.now entry) }

pub loop-name-preserved : goal.loop-name-preserved
loop-name-preserved c =
    let done = c.loop-name.invariant.done in
    let x : InputField = (c.in-Some.name.now, c.in-Some.field.now) in
    record {
      can_next = tt;
      is_finite = tt;
      done = done ++ x ∷ [];
      all = done_next _ done c.loop-name.name-iterator c.next.new.self x c.loop-name.invariant.all c.in-Some.ensures.steps;
      found = found_behind (λ merging (entry : InputField). KeepsInputField c.args.new.now entry) done x c.loop-name.invariant.found c.in_ok-compare_old_field.ensures;
    }

pub returns : goal.returns
returns c =
    let whole : c.args.old.now.fields.entries ≡ c.into_iter-name-iterator.result = cc in
    found_whole (λ merging (entry : InputField). KeepsInputField c.args.new.now entry) c.args.old.now.fields.entries c.loop-name.invariant.done
    c.loop-name.name-iterator (whole ∙ c.loop-name.invariant.all) c.in-None.ensures.steps.0 c.loop-name.invariant.found

pub compare_old_field-requires-clause-was : goal.compare_old_field-requires-clause-was
compare_old_field-requires-clause-was c =
    let x : InputField = (c.in-Some.name.now, c.in-Some.field.now) in
    let gives = c.into_iter-name-iterator.ensures.into_iter_gives in
    has_field c.args.pair.old.now c.args.ty.now c.args.old.now c.requires.was x
    (stands_next c.args.old.now.fields.entries c.loop-name.invariant.done c.loop-name.name-iterator c.next.new.self x (sym gives.0 ∙ c.loop-name.invariant.all) c.in-Some.ensures.steps)
