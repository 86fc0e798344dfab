use Rattle.std.proofs.Common.{rules}
use Rattle.graphql_kept_projects.specs.Left.{IsTextLeft}
use Rattle.graphql_kept_projects.proofs.LeftLemmas.{zip_take}
use Rattle.graphql_kept_projects.proofs.kept.Left.of.Goals as goal

pub loop-source-preserved : goal.loop-source-preserved
loop-source-preserved c =
    zip_take IsTextLeft c.args.read.now c.loop-source.texts.items c.push.new.self.items c.loop-source.source-index _ _ c.loop-source-test.true (search rules)
    c.in_ok-push.ensures.items c.loop-source.invariant c.in_ok-of.ensures
