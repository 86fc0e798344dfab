use Rattle.graphql_change_kinds.proofs.FindsLemmas.{adds_found}
use Rattle.graphql_composite_comparison.proofs.ListedLemmas.{implements_none}
use Rattle.graphql_composite_comparison.proofs.composites.compare_listing.Goals as goal

pub push_removed_interface-requires-clause-no_longer : goal.push_removed_interface-requires-clause-no_longer
push_removed_interface-requires-clause-no_longer c = λ both.
    implements_none c.args.pair.new.now c.args.ty.now c.args.new.now c.requires.is c.args.listed.now.name (λ listed. let yes = c.lists_interface.ensures.1 listed in let no : ⊥ = cc in no) both.0

pub returns : goal.returns
returns c = adds_found c.in_ok-push_removed_interface.ensures
