use Rattle.graphql_input_comparison.specs.declared.inputs.Owner.TheVariants as owner
use Rattle.graphql_input_comparison.specs.Owners.{HasArguments}
use Rattle.graphql_nodes.specs.declared.nodes.Node.{Node}
use Rattle.graphql_documents.specs.declared.documents.definitions.InputValueDefinition.{InputValueDefinition}
use Rattle.graphql_input_comparison.proofs.InputLemmas.{field_arguments}
use Rattle.std.proofs.Common.{◌≡◌, refl, subst₂, subst, List}
use Rattle.graphql_schema_changes.specs.Keeps.{KeepsArguments}
use Rattle.graphql_change_kinds.proofs.FindsLemmas.{found_both, found_words}
use Rattle.graphql_schema_comparison.proofs.fields.compare_two_fields.Goals as goal

pub returns : goal.returns
returns c =
    let before : c.deref-2.result.now ≡ c.args.old.now.node.value.value.arguments.items = cc in
    let after : c.deref-4.result.now ≡ c.args.new.now.node.value.value.arguments.items = cc in
    found_words (λ merging h. record { arguments = subst₂ KeepsArguments before after (h.1 refl); ty = h.0 }) (found_both c.in_ok-compare_field_types.ensures c.in_ok-compare_arguments.ensures)

pub compare_arguments-requires-clause-was : goal.compare_arguments-requires-clause-was
compare_arguments-requires-clause-was c =
    let before : c.args.old.now.node.value.value.arguments.items ≡ c.deref-2.result.now = cc in
    subst (λ (l : List (Node InputValueDefinition)). HasArguments c.args.pair.old.now (owner.Field c.args.ty c.args.name) l) before
    (field_arguments c.args.pair.old.now c.args.ty.now c.args.name.now c.args.old.now c.requires.was)

pub compare_arguments-requires-clause-is : goal.compare_arguments-requires-clause-is
compare_arguments-requires-clause-is c =
    let after : c.args.new.now.node.value.value.arguments.items ≡ c.deref-4.result.now = cc in
    subst (λ (l : List (Node InputValueDefinition)). HasArguments c.args.pair.new.now (owner.Field c.args.ty c.args.name) l) after
    (field_arguments c.args.pair.new.now c.args.ty.now c.args.name.now c.args.new.now c.requires.is)
