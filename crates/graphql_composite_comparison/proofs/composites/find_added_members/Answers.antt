use Rattle.graphql_composite_comparison.proofs.ListedLemmas.{has_member}
use Rattle.graphql_documents.specs.declared.documents.components.ComponentName.{ComponentName}
use Rattle.std.proofs.Common.{sym, subst, List, Contains}
use Rattle.graphql_change_kinds.proofs.FindsLemmas.{adds_none, adds_then}
use Rattle.graphql_composite_comparison.proofs.composites.find_added_members.Goals as goal

pub loop-member-init : goal.loop-member-init
loop-member-init c = adds_none

pub loop-member-preserved : goal.loop-member-preserved
loop-member-preserved c = adds_then c.loop-member.invariant c.in_ok-find_added_member.ensures

pub returns : goal.returns
returns c = c.loop-member.invariant

pub find_added_member-requires : goal.find_added_member-requires
find_added_member-requires c =
    has_member c.args.pair.new.now c.args.ty.now c.args.new.now c.requires c.member-item.result
    (subst (λ (l : List ComponentName). Contains l c.member-item.result) c.members_of-member-items.ensures
    (c.loop-member.member-index, c.loop-member-test.true, sym c.member-item.is))
