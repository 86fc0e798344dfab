use Rattle.std.proofs.Common.{◌≡◌, ◌++◌, List, All}
use Rattle.std.specs.Prelude.{IsTrue}
use Rattle.graphql_nodes.specs.Names.{NameText}
use Rattle.graphql_documents.specs.declared.documents.schemas.ExtendedType.{ExtendedType}
use Rattle.graphql_documents.specs.Schemas.{is_composite}
use Rattle.graphql_shape_comparison.specs.Shapes.{KnowsType, Learns}
use Rattle.graphql_shape_comparison.proofs.meetings.Meetings.new.Given as goal

abbrev pub invariant-loop-ty : goal.invariant-loop-ty
invariant-loop-ty l = record {
  can_next : (goal.iterator-loop-ty).can_next l.ty-iterator;
  is_finite : (goal.iterator-loop-ty).is_finite l.ty-iterator;
  done : List (NameText × ExtendedType);
  all : l.initial.ty-iterator ≡ done ++ l.ty-iterator;
  learned : Learns l.pair.old.now l.pair.new.now l.initial.meetings.by_shape l.meetings.by_shape (λ table. All (λ (entry : NameText × ExtendedType). IsTrue (is_composite entry.1) → KnowsType table l.pair.old.now l.pair.new.now entry.0 entry.1) done);
}
