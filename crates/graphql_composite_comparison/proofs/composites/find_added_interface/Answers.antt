use Rattle.graphql_change_kinds.proofs.FindsLemmas.{adds_found}
use Rattle.graphql_change_kinds.specs.Changes.{interface_added}
use Rattle.graphql_composite_comparison.proofs.ListedLemmas.{implements_none}
use Rattle.graphql_composite_comparison.proofs.composites.find_added_interface.Goals as goal

pub push_added_interface-requires : goal.push_added_interface-requires
push_added_interface-requires c =
    interface_added (implements_none c.args.pair.old.now c.args.ty.now c.args.old.now c.requires.was c.args.listed.now.name (λ listed. let there = c.lists_interface.ensures.1 listed in let no : ⊥ = cc in no)) c.requires.is c.gain_of-gain.ensures

pub returns : goal.returns
returns c = adds_found c.in_ok-push_added_interface.ensures
