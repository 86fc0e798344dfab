use Rattle.std.proofs.Common.{◌≡◌, None, Some, sym, ◌∙◌}
use Rattle.graphql_specification.specs.Defer.{HasLabel}
use Rattle.graphql_operations.specs.DeferLabels.{first_place_in}
use Rattle.graphql_operations.proofs.DeferLabelLemmas.{new_text_holds, passed_well, reported_repetition}
use Rattle.graphql_operations.proofs.defer.labels.check_text.Goals as goal

pub returns-in_default : goal.returns-in_default
returns-in_default c = λ d value labelled is at document passed after visited later first are_all are_visited so_far.
    let text = c.as_str.result.now in
    let h : HasLabel d text c.args.location = record { value = value; label = c.args.text.now; labelled = labelled; is_text = is; text_is = c.as_str.ensures.value; location_is = at } in
    let none : None ≡ first_place_in visited text = sym c.in_default.is ∙ c.in_ok-original_location.ensures.found visited so_far.remembered in
    passed_well so_far d (c.in_ok-original_location.ensures.remembered visited d so_far.remembered h) (new_text_holds visited d text c.args.location h none)

pub returns : goal.returns
returns c = λ d value labelled is at document passed after visited later first are_all are_visited so_far.
    let text = c.as_str.result.now in
    let h : HasLabel d text c.args.location = record { value = value; label = c.args.text.now; labelled = labelled; is_text = is; text_is = c.as_str.ensures.value; location_is = at } in
    let known : Some c.in-Some.original_location ≡ first_place_in visited text =
    sym c.in-Some.is ∙ c.in_ok-original_location.ensures.found visited so_far.remembered in
    reported_repetition so_far d c.push.result text c.in-Some.original_location c.args.location c.in_ok-label.label h known
    (c.in_ok-label.ensures.cases ∙ sym c.as_str.ensures.value) (c.in_ok-original_location.ensures.remembered visited d so_far.remembered h)
    later are_visited _ c.push.ensures.ok c.push.ensures.err
