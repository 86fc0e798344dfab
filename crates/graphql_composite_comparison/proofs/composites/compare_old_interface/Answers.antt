use Rattle.graphql_change_kinds.proofs.FindsLemmas.{found_words}
use Rattle.graphql_composite_comparison.proofs.composites.compare_old_interface.Goals as goal

pub returns-in_ok-compare_listing : goal.returns-in_ok-compare_listing
returns-in_ok-compare_listing c = found_words (λ merging listed is_object. c.is_subtype.ensures.0 c.if-is_subtype.true) c.in_ok-compare_listing.ensures

pub push_removed_interface-requires-clause-no_longer : goal.push_removed_interface-requires-clause-no_longer
push_removed_interface-requires-clause-no_longer c = λ both. let yes = c.is_subtype.ensures.1 both.1 in let no : ⊥ = cc in no

pub push_removed_interface-requires-clause-lost : goal.push_removed_interface-requires-clause-lost
push_removed_interface-requires-clause-lost c = λ is. (c.requires.object is, λ sub. let yes = c.is_subtype.ensures.1 sub in let no : ⊥ = cc in no)

pub returns-in_ok-push_removed_interface : goal.returns-in_ok-push_removed_interface
returns-in_ok-push_removed_interface c = found_words (λ merging lost object. absurd (let no : ⊥ = cc in no)) c.in_ok-push_removed_interface.ensures
