use Rattle.std.proofs.Common.{◌∷◌, [], All, Bor, map, sym, ap, subst, ◌∙◌}
use Rattle.std.proofs.lemmas.List.{map-append}
use Rattle.std.proofs.lemmas.List.Elements.{All-push}
use Rattle.graphql_nodes.specs.Names.{NameText}
use Rattle.graphql_cycles.specs.DirectiveLevels.{DirectiveLeadsLowerUnder}
use Rattle.graphql_cycles.proofs.directive_levels.PartLevels.next_directives.Goals as goal

pub loop-name-preserved-in-Continue-branch-2 : goal.loop-name-preserved-in-Continue-branch-2
loop-name-preserved-in-Continue-branch-2 c =
    let now = λ (b : Bor NameText). b.now in
    let P = DirectiveLeadsLowerUnder c.args.schema.now c.args.self.now c.args.level in
    let x = c.in-Some.name in
    record {
      can_next = tt;
      is_finite = tt;
      ready = subst (All P) (sym (ap (map now) c.in_ok-push.ensures.items ∙ map-append now c.loop-name.next.items (x ∷ [])))
          (All-push P (map now c.loop-name.next.items) x.now c.loop-name.invariant.ready (c.in_ok-is_next.ensures c.if-is_next.true));
    }
