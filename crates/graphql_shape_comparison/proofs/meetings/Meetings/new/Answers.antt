use Rattle.graphql_shape_comparison.specs.declared.meetings.Meeting.{Meeting}
use Rattle.std.proofs.Common.{◌≡◌, ◌∙◌, ◌++◌, [], ◌∷◌, refl, sym, None, Option, subst, rules}
use Rattle.std.specs.Prelude.{IsTrue, IfSome}
use Rattle.std.proofs.lemmas.List.Elements.{All-nil}
use Rattle.graphql_documents.proofs.ListLemmas.{done_next}
use Rattle.graphql_nodes.specs.Names.{NameText}
use Rattle.graphql_documents.specs.declared.documents.schemas.ExtendedType.{ExtendedType}
use Rattle.graphql_documents.specs.Schemas.{is_composite}
use Rattle.graphql_shape_comparison.specs.Shapes.{KnowsType, IsMeeting, form_of, meeting_at}
use Rattle.graphql_change_kinds.proofs.TruthLemmas.{found_own}
use Rattle.graphql_shape_comparison.proofs.LearnsLemmas.{learned_behind, learned_here, learned_whole, type_more}
use Rattle.graphql_shape_comparison.proofs.meetings.Meetings.new.Goals as goal

pub loop-ty-init : goal.loop-ty-init
loop-ty-init c = record {
  can_next = tt;
  is_finite = tt;
  done = [];
  all = refl;
  learned = learned_here (All-nil _);
}

pub loop-ty-preserved : goal.loop-ty-preserved
loop-ty-preserved c =
    let done = c.loop-ty.invariant.done in
    let x : NameText × ExtendedType = (c.in-Some.ty.now, c.in-Some.definition.now) in
    record {
      can_next = tt;
      is_finite = tt;
      done = done ++ x ∷ [];
      all = done_next _ done c.loop-ty.ty-iterator c.next.new.self x c.loop-ty.invariant.all c.in-Some.ensures.steps;
      learned = learned_behind (λ table (entry : NameText × ExtendedType). IsTrue (is_composite entry.1) → KnowsType table c.args.pair.old.now c.args.pair.new.now entry.0 entry.1)
          (λ more entry knows. type_more c.args.pair.old.now c.args.pair.new.now more entry.0 entry.1 knows) done x c.loop-ty.invariant.learned c.in_ok-add_type.ensures;
    }

pub returns : goal.returns
returns c =
    let whole : c.args.pair.old.now.types.entries ≡ c.into_iter-ty-iterator.result = cc in
    record {
      knows = (learned_whole (λ table (entry : NameText × ExtendedType). IsTrue (is_composite entry.1) → KnowsType table c.args.pair.old.now c.args.pair.new.now entry.0 entry.1) c.args.pair.old.now.types.entries c.loop-ty.invariant.done
          c.loop-ty.ty-iterator (whole ∙ c.loop-ty.invariant.all) c.in-None.ensures.steps.0 c.loop-ty.invariant.learned).known;
      each = c.loop-ty.invariant.learned.each (λ key.
          let none : meeting_at c.with_hasher.result key ≡ None = search rules in
          subst (λ (o : Option Meeting). IfSome o (IsMeeting c.args.pair.old.now c.args.pair.new.now (form_of key))) (sym none) tt);
    }

pub add_type-requires : goal.add_type-requires
add_type-requires c =
    let x : NameText × ExtendedType = (c.in-Some.ty.now, c.in-Some.definition.now) in
    let gives = c.into_iter-ty-iterator.ensures.into_iter_gives in
    found_own c.args.pair.old.now.types.entries c.loop-ty.invariant.done c.loop-ty.ty-iterator x c.next.new.self (sym gives.0 ∙ c.loop-ty.invariant.all) c.in-Some.ensures.steps gives.4
