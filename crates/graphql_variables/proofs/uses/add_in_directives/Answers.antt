use Rattle.std.proofs.Common.{ap, ◌∙◌, subst}
use Rattle.graphql_nodes.specs.Names.{NameText}
use Rattle.graphql_documents.specs.VariableUses.{StandsInArguments}
use Rattle.graphql_documents.specs.declared.documents.directives.Directive.{Directive}
use Rattle.graphql_nodes.specs.declared.nodes.Node.{Node}
use Rattle.graphql_variables.specs.Uses.{NamesAlso}
use Rattle.graphql_variables.proofs.UseLemmas.{also_all, also_more, also_none_yet}
use Rattle.graphql_variables.proofs.uses.add_in_directives.Goals as goal

-- the variable is in an argument of the directive
abbrev In : NameText → Node Directive → Type 0
In name d = StandsInArguments name d.value.value.arguments.items

pub loop-directive-init : goal.loop-directive-init
loop-directive-init c = also_none_yet In c.args.directives.now _

pub loop-directive-preserved : goal.loop-directive-preserved
loop-directive-preserved c =
    also_more In c.args.directives.now c.loop-directive.directive-index c.directive-item.result _ _ _ c.loop-directive-test.true c.directive-item.is
    c.loop-directive.invariant
    (subst (λ l. NamesAlso (λ name. StandsInArguments name l) c.loop-directive.names.items c.add_in_arguments.new.names.items)
    (c.deref-in-loop-directive.ensures.value ∙ ap (λ (d : Directive). d.arguments.items) c.deref.ensures) c.in_ok-add_in_arguments.ensures)

pub returns : goal.returns
returns c = also_all In c.args.directives.now c.loop-directive.directive-index _ _ c.loop-directive-test.false c.loop-directive.invariant
