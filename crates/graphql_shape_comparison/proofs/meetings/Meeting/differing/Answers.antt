use Rattle.graphql_change_kinds.specs.Forms.{Form}
use Rattle.graphql_shape_comparison.specs.Shapes.{HasOtherForm, form_of}
use Rattle.std.specs.Prelude.{IfSome}
use Rattle.std.proofs.Common.{◌≡◌, rules, true, false, subst}
use Rattle.graphql_shape_comparison.proofs.ShapeLemmas.{equal_forms, equal_shapes, equal_by_form}
use Rattle.graphql_shape_comparison.proofs.meetings.Meeting.differing.Goals as goal

pub returns-then-eq-clause-none : goal.returns-then-eq-clause-none
returns-then-eq-clause-none c = λ none.
    let same : equal_shapes c.args.self.now.shape c.args.shape.now ≡ true = search rules in
    (equal_forms c.args.self.now.shape c.args.shape.now same, none)

pub returns-then-eq-clause-some : goal.returns-then-eq-clause-some
returns-then-eq-clause-some c = λ old new before meeting.
    let same : equal_shapes c.args.self.now.shape c.args.shape.now ≡ true = search rules in
    subst (λ (form : Form). IfSome c.args.self.now.other (HasOtherForm old new before form)) (equal_forms c.args.self.now.shape c.args.shape.now same) meeting.other

pub returns-else-eq-clause-some : goal.returns-else-eq-clause-some
returns-else-eq-clause-some c = λ old new before meeting.
    let differ : equal_shapes c.args.self.now.shape c.args.shape.now ≡ false = search rules in
    (meeting.was, form_of c.args.self.now.shape, meeting.is, λ e. let same = equal_by_form c.args.self.now.shape c.args.shape.now e in let no : ⊥ = cc in no)
