use Rattle.std.proofs.Common.{◌≡◌, None, Option, Some, rules, subst, sym}
use Rattle.std.specs.Prelude.{IsSomeAnd}
use Rattle.graphql_nodes.specs.declared.nodes.Node.{Node}
use Rattle.graphql_documents.specs.declared.documents.definitions.InputValueDefinition.{InputValueDefinition}
use Rattle.graphql_schema_changes.specs.Keeps.{KeepsInputValue}
use Rattle.graphql_change_kinds.proofs.FindsLemmas.{found_words}
use Rattle.graphql_documents.specs.Definitions.{definition_named}
use Rattle.graphql_input_comparison.proofs.InputLemmas.{has_found, lacks_argument}
use Rattle.graphql_input_comparison.proofs.arguments.compare_old_argument.Goals as goal

pub compare_inputs-requires-clause-is : goal.compare_inputs-requires-clause-is
compare_inputs-requires-clause-is c =
    let name = c.deref-in-Some.result.now.name in
    let found : definition_named name c.args.new.now ≡ Some c.in-Some.new.now = search rules in
    has_found c.args.pair.new.now c.args.owner c.args.new.now c.requires.is name c.in-Some.new.now found

pub push_removed_input-requires-clause-lacks : goal.push_removed_input-requires-clause-lacks
push_removed_input-requires-clause-lacks c =
    let name = c.deref-in-None.result.now.name in
    let none : definition_named name c.args.new.now ≡ None = search rules in
    lacks_argument c.args.pair.new.now c.args.owner c.args.new.now c.requires.is name none

pub returns-in_ok-compare_inputs-in-Some : goal.returns-in_ok-compare_inputs-in-Some
returns-in_ok-compare_inputs-in-Some c =
    let found : definition_named c.args.argument.now.value.value.name c.args.new.now ≡ Some c.in-Some.new.now = search rules in
    found_words (λ merging keeps given.
    subst (λ (o : Option (Node InputValueDefinition)). IsSomeAnd o (λ b. KeepsInputValue c.args.argument.now.value.value b.value.value)) (sym found) (keeps given))
    c.in_ok-compare_inputs-in-Some.ensures

pub returns-in_ok-push_removed_input-in-None : goal.returns-in_ok-push_removed_input-in-None
returns-in_ok-push_removed_input-in-None c =
    found_words (λ merging other given. absurd (let no : ⊥ = cc in no)) c.in_ok-push_removed_input-in-None.ensures
