use Rattle.std.proofs.Common.{◌∷◌, [], All, Bor, map, sym, ap, subst, ◌∙◌}
use Rattle.std.proofs.lemmas.List.{map-append}
use Rattle.std.proofs.lemmas.List.Elements.{All-push}
use Rattle.graphql_nodes.specs.Names.{NameText}
use Rattle.graphql_cycles.specs.InputObjectLevels.{RequiresLowerUnder}
use Rattle.graphql_cycles.proofs.input_object_levels.next_input_objects.Goals as goal

pub loop-name-preserved-then-is_next : goal.loop-name-preserved-then-is_next
loop-name-preserved-then-is_next c =
    let now = λ (b : Bor NameText). b.now in
    let P = RequiresLowerUnder c.args.levels.now c.args.schema.now c.args.level in
    let names = map now c.loop-name.next.items in
    let x = c.in-Some.name in
    record {
      can_next = tt;
      is_finite = tt;
      ready = subst (All P) (sym (ap (map now) c.in_ok-push.ensures.items ∙ map-append now c.loop-name.next.items (x ∷ [])))
          (All-push P names x.now c.loop-name.invariant.ready (c.is_next.ensures c.if-is_next.true));
    }
