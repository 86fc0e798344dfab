use Rattle.std.proofs.Common.{sym, subst}
use Rattle.graphql_documents.proofs.ListLemmas.{more_is}
use Rattle.graphql_merging.specs.ExpansionSteps.{Expands, expanding}
use Rattle.graphql_merging.proofs.ExpansionStepLemmas.{expands_none, expands_then}
use Rattle.graphql_merging.proofs.expansion.FieldExpansion.expand_set.Goals as goal

pub loop-selection-init : goal.loop-selection-init
loop-selection-init c = expands_none (expanding c.args.self.now) c.args.set.now.ty

pub loop-selection-preserved : goal.loop-selection-preserved
loop-selection-preserved c =
    subst (Expands (expanding c.args.self.now) (expanding c.expand_selection.new.self) c.args.set.now.ty)
    (sym (more_is c.deref-selection-items.result.now c.loop-selection.selection-index c.selection-item.result c.loop-selection-test.true c.selection-item.is))
    (expands_then c.loop-selection.invariant c.in_ok-expand_selection.ensures)
