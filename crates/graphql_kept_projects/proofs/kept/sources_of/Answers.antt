use Rattle.std.proofs.Common.{refl}
use Rattle.graphql_kept_projects.proofs.LeftLemmas.{IsSourceOf, zip_take}
use Rattle.graphql_kept_projects.proofs.kept.sources_of.Goals as goal

pub loop-left-preserved : goal.loop-left-preserved
loop-left-preserved c =
    zip_take IsSourceOf c.deref-left-items.result.now c.loop-left.sources.items c.push.new.self.items c.loop-left.left-index c.left-item.result _ c.loop-left-test.true c.left-item.is
    c.in_ok-push.ensures.items c.loop-left.invariant (refl, c.as_str.ensures.value)
