use Rattle.std.proofs.Common.{ap, ◌∙◌, subst}
use Rattle.graphql_nodes.specs.Names.{NameText}
use Rattle.graphql_documents.specs.Values.{StandsIn, VariablesIn}
use Rattle.graphql_documents.specs.declared.documents.directives.Argument.{Argument}
use Rattle.graphql_nodes.specs.declared.nodes.Node.{Node}
use Rattle.graphql_variables.specs.Uses.{AddsNames}
use Rattle.graphql_variables.proofs.UseLemmas.{also_all, also_in_value, also_more, also_none_yet}
use Rattle.graphql_variables.proofs.uses.add_in_arguments.Goals as goal

-- the variable is in the value of the argument
abbrev In : NameText → Node Argument → Type 0
In name a = StandsIn name a.value.value.value.value.value

pub loop-argument-init : goal.loop-argument-init
loop-argument-init c = also_none_yet In c.args.arguments.now _

pub loop-argument-preserved : goal.loop-argument-preserved
loop-argument-preserved c =
    also_more In c.args.arguments.now c.loop-argument.argument-index c.argument-item.result _ _ _ c.loop-argument-test.true c.argument-item.is
    c.loop-argument.invariant
    (also_in_value
    (subst (λ v. AddsNames (VariablesIn v) c.loop-argument.names.items c.add_variables.new.names.items)
    (c.deref-in-loop-argument.ensures ∙ ap (λ (a : Argument). a.value.value.value) c.deref.ensures) c.in_ok-add_variables.ensures))

pub returns : goal.returns
returns c = also_all In c.args.arguments.now c.loop-argument.argument-index _ _ c.loop-argument-test.false c.loop-argument.invariant
