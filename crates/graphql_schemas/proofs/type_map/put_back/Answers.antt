use Rattle.std.proofs.Common.{◌≡◌, ◌∙◌, arith, subst, sym}
use Rattle.std.specs.List.{IsDistinct}
use Rattle.std.specs.Map.{keys_of}
use Rattle.graphql_nodes.specs.Names.{same_name}
use Rattle.graphql_schemas.specs.TypeMapChanges.{FitBack, restored}
use Rattle.graphql_schemas.proofs.TypeMapLemmas.{puts_back}
use Rattle.graphql_schemas.proofs.type_map.put_back.Goals as goal

pub put_at-requires : goal.put_at-requires
put_at-requires c =
    let next = puts_back c.loop-entry.removed.items c.pop.new.self.items c.in-Some.entry c.loop-entry.types.entries c.in-Some.ensures.items c.loop-entry.invariant.fit c.loop-entry.invariant.distinct in
    let counted = next.counted in
    record { fits = next.within; distinct = next.apart; room = omega (arith, counted, c.loop-entry.invariant.room) }

pub loop-entry-preserved : goal.loop-entry-preserved
loop-entry-preserved c =
    let next = puts_back c.loop-entry.removed.items c.pop.new.self.items c.in-Some.entry c.loop-entry.types.entries c.in-Some.ensures.items c.loop-entry.invariant.fit c.loop-entry.invariant.distinct in
    let counted = next.counted in
    let is = sym c.put_at.ensures.entries in
    let left = c.pop.new.self.items in
    record {
      back = subst (λ types. restored left types ≡ restored c.args.removed.items c.args.types.now.entries) is (next.same ∙ c.loop-entry.invariant.back);
      fit = subst (FitBack left) is next.fit;
      distinct = subst (λ types. IsDistinct same_name (keys_of (restored left types))) is (subst (λ types. IsDistinct same_name (keys_of types)) (sym next.same) c.loop-entry.invariant.distinct);
      room = omega (arith, counted, c.loop-entry.invariant.room, c.put_at.ensures.room);
    }
