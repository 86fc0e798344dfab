use Rattle.std.proofs.Common.{subst}
use Rattle.std.proofs.lemmas.Result.{on_ok_weaker}
use Rattle.std.specs.Prelude.{List}
use Rattle.graphql_nodes.specs.declared.nodes.Node.{Node}
use Rattle.graphql_documents.specs.declared.documents.definitions.VariableDefinition.{VariableDefinition}
use Rattle.graphql_deprecations.specs.Deprecations.{Usage}
use Rattle.graphql_deprecations.specs.InOrder.{Adds, DirectivesUse, InTurn, VariableUses}
use Rattle.graphql_deprecations.proofs.AddLemmas.{adds_both}
use Rattle.graphql_deprecations.proofs.usages.add_in_operation.Goals as goal

pub returns : goal.returns
returns c =
    let s = c.args.schema.now in
    let Of : Node VariableDefinition → List Usage → Type 0 = λ v. VariableUses s v.value.value in
    let first = c.add_in_variables.new.found.items in
    let variables = subst (λ l. Adds (InTurn Of l) c.args.found.now.items first) c.deref.ensures.value c.in_ok-add_in_variables.ensures in
    let applied = subst (λ l. Adds (DirectivesUse s l) first c.add_in_directives.new.found.items) c.deref-2.ensures.value c.in_ok-add_in_directives.ensures in
    on_ok_weaker c.add_in_selection_set.result (λ below. adds_both variables (adds_both applied below)) c.add_in_selection_set.ensures
