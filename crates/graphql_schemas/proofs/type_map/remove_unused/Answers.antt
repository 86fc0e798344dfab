use Rattle.std.proofs.Common.{arith, refl, sym, ◌∙◌}
use Rattle.std.specs.Prelude.{remove}
use Rattle.graphql_schemas.proofs.TypeMapLemmas.{none_counted, none_left, takes_first_out}
use Rattle.graphql_field_definitions.specs.BuiltInScalarUses.{holds_text}
use Rattle.graphql_schemas.specs.TypeMapChanges.{is_unused}
use Rattle.graphql_schemas.proofs.type_map.remove_unused.Goals as goal

pub take_out-requires-clause-capacity : goal.take_out-requires-clause-capacity
take_out-requires-clause-capacity c =
    let p = is_unused (holds_text c.args.built_in_scalars.now) in
    let out = takes_first_out p c.loop-index.types.entries (remove c.loop-index.types.entries c.in-Some.index) c.in-Some.index (sym c.in-Some.ensures) refl in
    let counted = out.counted in
    omega (arith, counted, c.loop-index.invariant.counted, c.loop-index.invariant.capacity)

pub loop-index-preserved : goal.loop-index-preserved
loop-index-preserved c =
    let p = is_unused (holds_text c.args.built_in_scalars.now) in
    let out = takes_first_out p c.loop-index.types.entries c.take_out.new.types.entries c.in-Some.index (sym c.in-Some.ensures) c.take_out.ensures.kept in
    let counted = out.counted in
    let before = c.loop-index.invariant in
    let done = c.take_out.ensures in
    record {
      kept = out.kept ∙ before.kept;
      back = done.back ∙ before.back;
      fit = done.fit before.fit;
      counted = omega (arith, counted, before.counted, done.counted);
      capacity = omega (arith, before.capacity, done.capacity);
      room = omega (arith, before.room, done.room);
    }

pub returns-clause-kept : goal.returns-clause-kept
returns-clause-kept c =
    sym (none_left (is_unused (holds_text c.args.built_in_scalars.now)) c.loop-index.types.entries (sym c.in_default.ensures)) ∙ c.loop-index.invariant.kept

pub returns-clause-counted : goal.returns-clause-counted
returns-clause-counted c =
    let none = none_counted (is_unused (holds_text c.args.built_in_scalars.now)) c.loop-index.types.entries (sym c.in_default.ensures) in
    omega (arith, none, c.loop-index.invariant.counted)
