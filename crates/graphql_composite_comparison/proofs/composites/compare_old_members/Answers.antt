use Rattle.graphql_composite_comparison.proofs.ListedLemmas.{has_member}
use Rattle.std.proofs.Common.{All, subst, sym, List, Contains}
use Rattle.graphql_documents.specs.declared.documents.components.ComponentName.{ComponentName}
use Rattle.graphql_change_kinds.specs.Kinds.{IsObjectOf}
use Rattle.graphql_change_kinds.proofs.FindsLemmas.{found_all_of, found_more, found_none, found_words}
use Rattle.graphql_composite_comparison.proofs.composites.compare_old_members.Goals as goal

pub loop-member-init : goal.loop-member-init
loop-member-init c = found_none (λ merging (x : ComponentName). IsObjectOf c.args.pair.new.now c.args.ty.now x.name)

pub loop-member-preserved : goal.loop-member-preserved
loop-member-preserved c =
    found_more (λ merging (x : ComponentName). IsObjectOf c.args.pair.new.now c.args.ty.now x.name) c.members_of-member-items.result.now c.loop-member.member-index c.member-item.result c.loop-member-test.true c.member-item.is
    c.loop-member.invariant c.in_ok-compare_old_member.ensures

pub returns : goal.returns
returns c =
    found_words (λ merging all. subst (All (λ (x : ComponentName). IsObjectOf c.args.pair.new.now c.args.ty.now x.name)) c.members_of-member-items.ensures all)
    (found_all_of (λ merging (x : ComponentName). IsObjectOf c.args.pair.new.now c.args.ty.now x.name) c.members_of-member-items.result.now
    c.loop-member.member-index c.loop-member-test.false c.loop-member.invariant)

pub compare_old_member-requires : goal.compare_old_member-requires
compare_old_member-requires c =
    has_member c.args.pair.old.now c.args.ty.now c.args.old.now c.requires c.member-item.result
    (subst (λ (l : List ComponentName). Contains l c.member-item.result) c.members_of-member-items.ensures
    (c.loop-member.member-index, c.loop-member-test.true, sym c.member-item.is))
