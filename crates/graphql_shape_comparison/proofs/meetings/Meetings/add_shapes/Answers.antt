use Rattle.std.proofs.Common.{◌∙◌, None, Option, Some, ap, cond, inl, refl, subst, sym}
use Rattle.std.specs.Prelude.{IfSome, IsSome, IsSomeAnd}
use Rattle.graphql_shape_comparison.specs.Shapes.{IsMeeting, ShapeTable, form_of, meeting_at}
use Rattle.graphql_shape_comparison.specs.declared.meetings.Meeting.{Meeting}
use Rattle.graphql_shape_comparison.proofs.LearnsLemmas.{Good, good_stays, learned_at}
use Rattle.graphql_shape_comparison.proofs.ShapeLemmas.{equal_shapes}
use Rattle.graphql_shape_comparison.proofs.meetings.Meetings.add_shapes.Goals as goal

pub returns-in-Some : goal.returns-in-Some
returns-in-Some c =
    learned_at c.args.self.now.by_shape _ c.args.old_shape c.meet.new.self
    ((c.get_mut.follows.holds c.meet.new.self).3 (subst IsSome c.in-Some.ensures.value refl)).0
    (form_of c.args.new_shape)
    (good_stays c.in-Some.meeting.now c.meet.new.self (meeting_at c.args.self.now.by_shape c.args.old_shape) c.in-Some.ensures.value c.meet.ensures.same c.meet.ensures.others)
    c.meet.ensures.noted
    c.args.pair.old.now c.args.pair.new.now
    (λ all. c.meet.ensures.each c.args.pair.old.now c.args.pair.new.now (form_of c.args.old_shape)
    (subst (λ (o : Option Meeting). IfSome o (IsMeeting c.args.pair.old.now c.args.pair.new.now (form_of c.args.old_shape))) (sym c.in-Some.ensures.value) (all c.args.old_shape))
    c.requires.was c.requires.is)

pub returns-in_ok-insert-in-None : goal.returns-in_ok-insert-in-None
returns-in_ok-insert-in-None c =
    let w : Meeting = record { first = c.args.place; shape = c.args.new_shape; other = None } in
    learned_at c.args.self.now.by_shape _ c.args.old_shape w
    (λ q. c.in_ok-insert-in-None.ensures.updates.0 q ∙
    ap (λ (m : ShapeTable). cond (equal_shapes c.args.old_shape q) (Some w) (meeting_at m q)) c.get_mut.follows.holds-at-none)
    (form_of c.args.new_shape)
    (λ form good. absurd (subst (λ (o : Option Meeting). IsSomeAnd o (Good form)) (sym c.in-None.ensures.value) good))
    (inl refl)
    c.args.pair.old.now c.args.pair.new.now
    (λ all. record { was = c.requires.was; is = c.requires.is; other = tt })
