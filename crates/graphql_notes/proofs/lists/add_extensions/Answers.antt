use Rattle.std.proofs.Common.{codes, rules}
use Rattle.graphql_notes.specs.Labels.{label}
use Rattle.graphql_notes.proofs.NoteLemmas.{labelled_more}
use Rattle.graphql_notes.proofs.lists.add_extensions.Goals as goal

pub loop-extension-preserved : goal.loop-extension-preserved
loop-extension-preserved c =
    labelled_more (λ extension. label extension (codes "extended here")) c.args.at c.args.extensions.now c.loop-extension.extension-index _ _ _ _
    c.loop-extension-test.true (search rules) c.loop-extension.invariant c.in_ok-add_extension.ensures
