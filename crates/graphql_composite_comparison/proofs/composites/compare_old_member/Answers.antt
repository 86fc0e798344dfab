use Rattle.graphql_change_kinds.proofs.FindsLemmas.{keeps_here}
use Rattle.std.proofs.Common.{subst₂, sym}
use Rattle.graphql_change_kinds.specs.Changes.{IsChange, member_removed}
use Rattle.graphql_change_kinds.specs.declared.changes.Change.TheVariants as change
use Rattle.graphql_nodes.specs.Names.{NameText}
use Rattle.graphql_composite_comparison.proofs.composites.compare_old_member.Goals as goal

pub push-requires : goal.push-requires
push-requires c =
    subst₂ (λ (ty member : NameText). IsChange c.args.pair.old.now c.args.pair.new.now (change.MemberRemoved ty member)) (sym c.in_ok-union.ensures) (sym c.in_ok-member.ensures)
    (member_removed c.requires (λ is. let yes = c.is_object_of.ensures.1 is in let no : ⊥ = cc in no))

pub returns-then-is_object_of : goal.returns-then-is_object_of
returns-then-is_object_of c = keeps_here (λ merging. c.is_object_of.ensures.0 c.if-is_object_of.true)
