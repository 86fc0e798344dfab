use Rattle.graphql_shape_comparison.specs.declared.meetings.Meeting.{Meeting}
use Rattle.graphql_shape_comparison.specs.declared.meetings.FieldPlace.{FieldPlace}
use Rattle.graphql_change_kinds.specs.Changes.{PartsFrom}
use Rattle.graphql_coordinates.specs.declared.coordinates.TypeAttributeCoordinate.{TypeAttributeCoordinate}
use Rattle.std.proofs.Common.{◌≡◌, ◌∙◌, None, Some, rules, sym, Option, subst}
use Rattle.std.specs.Prelude.{IsNone, IfSome}
use Rattle.graphql_change_kinds.specs.Forms.{form_in}
use Rattle.graphql_shape_comparison.specs.Shapes.{meeting_at, HasOtherForm, IsMeeting, form_of}
use Rattle.graphql_shape_comparison.proofs.LearnsLemmas.{none_met, one_met, parts_from}
use Rattle.graphql_shape_comparison.proofs.meetings.Meetings.met.Goals as goal

pub returns-in_default-clause-none : goal.returns-in_default-clause-none
returns-in_default-clause-none c = λ none.
    let at : meeting_at c.args.self.now.by_shape c.in_ok-old_shape.old_shape ≡ None = search rules in
    none_met c.args.self.now.by_shape c.in_ok-old_shape.old_shape (form_in c.args.pair.old.now c.args.from.now) (form_in c.args.pair.new.now c.args.to.now) c.in_ok-old_shape.ensures at

pub returns-in-None-clause-none : goal.returns-in-None-clause-none
returns-in-None-clause-none c = λ none.
    let alone : IsNone c.differing-differing.result = search rules in
    let both = c.differing-differing.ensures.none alone in
    one_met c.args.self.now.by_shape c.in_ok-old_shape.old_shape (form_in c.args.pair.old.now c.args.from.now) (form_in c.args.pair.new.now c.args.to.now) c.in-Some.meeting.now
    c.in_ok-old_shape.ensures (sym c.in-Some.ensures.value) (both.0 ∙ c.in_ok-new_shape.ensures, both.1)

pub returns-in_ok-coordinate-in-Some-differing-clause-some : goal.returns-in_ok-coordinate-in-Some-differing-clause-some
returns-in_ok-coordinate-in-Some-differing-clause-some c =
    let old = c.args.pair.old.now in
    let new = c.args.pair.new.now in
    let before = form_of c.in_ok-old_shape.old_shape in
    let after = form_of c.in_ok-new_shape.new_shape in
    let meeting : IsMeeting old new before c.in-Some.meeting.now =
    subst (λ (o : Option Meeting). IfSome o (IsMeeting old new before)) (sym c.in-Some.ensures.value) (c.requires c.in_ok-old_shape.old_shape) in
    let at : c.differing-differing.result ≡ Some c.in-Some-differing.place = search rules in
    let differs : HasOtherForm old new before after c.in-Some-differing.place =
    subst (λ (o : Option FieldPlace). IfSome o (HasOtherForm old new before after)) at (c.differing-differing.ensures.some old new before meeting) in
    subst (λ (k : TypeAttributeCoordinate). PartsFrom old new c.args.from.now c.args.to.now k) (sym c.in_ok-coordinate-in-Some-differing.ensures)
    (parts_from old new c.args.from.now c.args.to.now before after c.in-Some-differing.place c.in_ok-old_shape.ensures c.in_ok-new_shape.ensures differs)
