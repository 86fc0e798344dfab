use Rattle.graphql_shape_comparison.specs.Shapes.{form_of}
use Rattle.std.proofs.Common.{◌≡◌, inl, rules, true, false, sym}
use Rattle.graphql_shape_comparison.proofs.ShapeLemmas.{equal_forms, equal_shapes, equal_by_form}
use Rattle.graphql_shape_comparison.proofs.meetings.Meeting.meet.Goals as goal

pub returns-then-eq-clause-noted : goal.returns-then-eq-clause-noted
returns-then-eq-clause-noted c =
    let same : equal_shapes c.args.self.now.shape c.args.shape.now ≡ true = search rules in
    inl (equal_forms c.args.self.now.shape c.args.shape.now same)

pub returns-then-is_none-clause-each : goal.returns-then-is_none-clause-each
returns-then-is_none-clause-each c = λ old new before meeting was is.
    let differ : equal_shapes c.args.self.now.shape c.args.shape.now ≡ false = search rules in
    record {
      was = meeting.was;
      is = meeting.is;
      other = (was, form_of c.args.shape.now, is, λ e. let same = equal_by_form c.args.self.now.shape c.args.shape.now (sym e) in let no : ⊥ = cc in no);
    }
