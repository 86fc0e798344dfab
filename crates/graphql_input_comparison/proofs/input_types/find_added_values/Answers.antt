use Rattle.std.proofs.Common.{◌∙◌, ◌++◌, [], ◌∷◌, refl, sym}
use Rattle.graphql_documents.proofs.ListLemmas.{done_next}
use Rattle.graphql_nodes.specs.Names.{NameText}
use Rattle.graphql_documents.specs.declared.documents.components.Component.{Component}
use Rattle.graphql_documents.specs.declared.documents.definitions.EnumValueDefinition.{EnumValueDefinition}
use Rattle.graphql_change_kinds.proofs.TruthLemmas.{found_some}
use Rattle.graphql_change_kinds.proofs.FindsLemmas.{adds_none, adds_then}
use Rattle.graphql_input_comparison.proofs.input_types.find_added_values.Goals as goal

pub loop-name-init : goal.loop-name-init
loop-name-init c = record { can_next = tt; is_finite = tt; done = []; all = refl; found = adds_none }

pub loop-name-preserved : goal.loop-name-preserved
loop-name-preserved c =
    let done = c.loop-name.invariant.done in
    let x : NameText × Component EnumValueDefinition = (c.in-Some.name.now, c.in-Some.value.now) in
    record {
      can_next = tt;
      is_finite = tt;
      done = done ++ x ∷ [];
      all = done_next _ done c.loop-name.name-iterator c.next.new.self x c.loop-name.invariant.all c.in-Some.ensures.steps;
      found = adds_then c.loop-name.invariant.found c.in_ok-find_added_value.ensures;
    }

pub returns : goal.returns
returns c = c.loop-name.invariant.found

pub find_added_value-requires-clause-there : goal.find_added_value-requires-clause-there
find_added_value-requires-clause-there c =
    let x : NameText × Component EnumValueDefinition = (c.in-Some.name.now, c.in-Some.value.now) in
    let gives = c.into_iter-name-iterator.ensures.into_iter_gives in
    found_some c.args.new.now.values.entries c.loop-name.invariant.done c.loop-name.name-iterator x c.next.new.self (sym gives.0 ∙ c.loop-name.invariant.all) c.in-Some.ensures.steps
