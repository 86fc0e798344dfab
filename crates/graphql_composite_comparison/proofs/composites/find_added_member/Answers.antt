use Rattle.graphql_change_kinds.proofs.FindsLemmas.{adds_found}
use Rattle.graphql_change_kinds.specs.Changes.{member_added}
use Rattle.graphql_composite_comparison.proofs.composites.find_added_member.Goals as goal

pub push_added_member-requires : goal.push_added_member-requires
push_added_member-requires c = member_added (λ sub. let there = c.is_subtype.ensures.1 sub in let no : ⊥ = cc in no) c.requires c.gain_of-gain.ensures

pub returns : goal.returns
returns c = adds_found c.in_ok-push_added_member.ensures
