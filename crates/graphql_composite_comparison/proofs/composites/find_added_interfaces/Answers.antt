use Rattle.graphql_composite_comparison.proofs.ListedLemmas.{implements_listed}
use Rattle.graphql_documents.specs.declared.documents.components.ComponentName.{ComponentName}
use Rattle.std.proofs.Common.{sym, subst, List, Contains}
use Rattle.graphql_change_kinds.proofs.FindsLemmas.{adds_none, adds_then}
use Rattle.graphql_composite_comparison.proofs.composites.find_added_interfaces.Goals as goal

pub loop-listed-init : goal.loop-listed-init
loop-listed-init c = adds_none

pub loop-listed-preserved : goal.loop-listed-preserved
loop-listed-preserved c = adds_then c.loop-listed.invariant c.in_ok-find_added_interface.ensures

pub returns : goal.returns
returns c = c.loop-listed.invariant

pub find_added_interface-requires-clause-is : goal.find_added_interface-requires-clause-is
find_added_interface-requires-clause-is c =
    implements_listed c.args.pair.new.now c.args.ty.now c.args.new.now c.requires.is c.listed-item.result
    (subst (λ (l : List ComponentName). Contains l c.listed-item.result) c.implements_interfaces-listed-items.ensures
    (c.loop-listed.listed-index, c.loop-listed-test.true, sym c.listed-item.is))
