use Rattle.graphql_input_comparison.proofs.InputLemmas.{has_field_found, lacks_field}
use Rattle.graphql_nodes.specs.Names.{same_name}
use Rattle.indexmap.specs.IndexMap.{get}
use Rattle.std.proofs.Common.{Option, refl, subst, sym, None, rules, ◌≡◌}
use Rattle.std.specs.Prelude.{IsSomeAnd}
use Rattle.graphql_documents.specs.declared.documents.components.Component.{Component}
use Rattle.graphql_documents.specs.declared.documents.definitions.InputValueDefinition.{InputValueDefinition}
use Rattle.graphql_schema_changes.specs.Keeps.{KeepsInputValue}
use Rattle.graphql_change_kinds.proofs.FindsLemmas.{found_words}
use Rattle.graphql_input_comparison.proofs.input_types.compare_old_field.Goals as goal

pub returns-in_ok-compare_inputs-in-Some : goal.returns-in_ok-compare_inputs-in-Some
returns-in_ok-compare_inputs-in-Some c =
    found_words (λ merging kept. subst (λ (o : Option (Component InputValueDefinition)). IsSomeAnd o (λ (b : Component InputValueDefinition). KeepsInputValue c.args.field.now.node.value.value b.node.value.value))
    c.in-Some.ensures.value (kept refl))
    c.in_ok-compare_inputs-in-Some.ensures

pub compare_inputs-requires-clause-is : goal.compare_inputs-requires-clause-is
compare_inputs-requires-clause-is c =
    has_field_found c.args.pair.new.now c.args.ty.now c.args.new.now c.requires.is c.args.name.now c.in-Some.new.now (sym c.in-Some.ensures.value)

pub push_removed_input-requires-clause-lacks : goal.push_removed_input-requires-clause-lacks
push_removed_input-requires-clause-lacks c =
    let none : get same_name c.args.new.now.fields c.args.name.now ≡ None = search rules in
    lacks_field c.args.pair.new.now c.args.ty.now c.args.new.now c.requires.is c.args.name.now none
