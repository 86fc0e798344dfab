use Rattle.graphql_deprecations.proofs.AddLemmas.{adds_both, all_added}
use Rattle.graphql_deprecations.proofs.SelectionLemmas.{exactly_document}
use Rattle.graphql_deprecations.proofs.usages.deprecated_usages.Goals as goal

pub returns-clause-order : goal.returns-clause-order
returns-clause-order c = all_added c.new-found.result.items c.add_in_fragments.new.found.items c.new-found.ensures.items (adds_both c.in_ok-add_in_operations.ensures c.in_ok-add_in_fragments.ensures)

pub returns-clause-exact : goal.returns-clause-exact
returns-clause-exact c = exactly_document c.args.schema.now c.args.document.now _ (returns-clause-order c)
