use Rattle.std.proofs.Common.{subst, sym, Contains}
use Rattle.graphql_documents.proofs.ListLemmas.{stands_mapped}
use Rattle.graphql_documents.specs.declared.documents.definitions.InputValueDefinition.{InputValueDefinition}
use Rattle.graphql_nodes.specs.declared.nodes.Node.{Node}
use Rattle.graphql_suggestions.specs.Defined.{names_of_arguments}
use Rattle.graphql_suggestions.proofs.suggestions.like_argument_of.Goals as goal

pub loop-argument-preserved : goal.loop-argument-preserved
loop-argument-preserved c =
    let xs = c.args.arguments.now in
    let x = c.argument-item.result in
    let among : Contains xs x = (c.loop-argument.argument-index, c.loop-argument-test.true, sym c.argument-item.is) in
    let named : Contains (names_of_arguments xs) x.value.value.name = stands_mapped (λ (a : Node InputValueDefinition). a.value.value.name) xs x among in
    c.in_ok-add_if_alike.ensures (names_of_arguments xs)
    (subst (λ (d : InputValueDefinition). Contains (names_of_arguments xs) d.name) (sym c.deref.ensures) named) c.loop-argument.invariant
