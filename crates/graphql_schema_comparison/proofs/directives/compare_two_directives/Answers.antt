use Rattle.graphql_input_comparison.specs.declared.inputs.Owner.TheVariants as owner
use Rattle.graphql_input_comparison.specs.Owners.{HasArguments}
use Rattle.graphql_nodes.specs.declared.nodes.Node.{Node}
use Rattle.graphql_documents.specs.declared.documents.definitions.InputValueDefinition.{InputValueDefinition}
use Rattle.graphql_input_comparison.proofs.InputLemmas.{directive_arguments}
use Rattle.std.proofs.Common.{◌≡◌, All, subst₂, sym, subst, List}
use Rattle.std.specs.Prelude.{IsTrue}
use Rattle.graphql_documents.specs.declared.documents.definitions.DirectiveDefinition.{DirectiveDefinition}
use Rattle.graphql_schema_changes.specs.Keeps.{KeepsArguments}
use Rattle.graphql_schema_comparison.specs.Comparisons.{KeepsLocation}
use Rattle.graphql_change_kinds.proofs.FindsLemmas.{found_both, found_words}
use Rattle.graphql_schema_comparison.proofs.directives.compare_two_directives.Goals as goal

pub returns : goal.returns
returns c =
    let before : c.deref-8.result.now ≡ c.args.old.now.value.value.arguments.items = cc in
    let after : c.deref-10.result.now ≡ c.args.new.now.value.value.arguments.items = cc in
    found_words (λ merging h is. record {
      arguments = subst₂ KeepsArguments before after (h.1 is);
      locations = subst₂ (λ (a b : DirectiveDefinition). All (KeepsLocation b) a.locations.items) c.deref-3.ensures c.deref-4.ensures h.0.0.1;
      repeatable = subst₂ (λ (a b : DirectiveDefinition). IsTrue a.repeatable → IsTrue b.repeatable) c.deref.ensures c.deref-2.ensures (h.0.0.0 is);
    })
    (found_both (found_both (found_both c.in_ok-compare_repeatable.ensures c.in_ok-compare_locations.ensures) c.in_ok-find_added_locations.ensures)
    c.in_ok-compare_arguments.ensures)

pub compare_repeatable-requires-clause-was : goal.compare_repeatable-requires-clause-was
compare_repeatable-requires-clause-was c = (c.args.old.now, c.requires.was, sym c.deref.ensures)

pub compare_repeatable-requires-clause-is : goal.compare_repeatable-requires-clause-is
compare_repeatable-requires-clause-is c = (c.args.new.now, c.requires.is, sym c.deref-2.ensures)

pub compare_locations-requires-clause-was : goal.compare_locations-requires-clause-was
compare_locations-requires-clause-was c = (c.args.old.now, c.requires.was, sym c.deref-3.ensures)

pub compare_locations-requires-clause-is : goal.compare_locations-requires-clause-is
compare_locations-requires-clause-is c = (c.args.new.now, c.requires.is, sym c.deref-4.ensures)

pub find_added_locations-requires-clause-was : goal.find_added_locations-requires-clause-was
find_added_locations-requires-clause-was c = (c.args.old.now, c.requires.was, sym c.deref-5.ensures)

pub find_added_locations-requires-clause-is : goal.find_added_locations-requires-clause-is
find_added_locations-requires-clause-is c = (c.args.new.now, c.requires.is, sym c.deref-6.ensures)

pub compare_arguments-requires-clause-was : goal.compare_arguments-requires-clause-was
compare_arguments-requires-clause-was c =
    let before : c.args.old.now.value.value.arguments.items ≡ c.deref-8.result.now = cc in
    subst (λ (l : List (Node InputValueDefinition)). HasArguments c.args.pair.old.now (owner.Directive c.args.name c.args.is_executable) l) before
    (directive_arguments c.args.pair.old.now c.args.name.now c.args.old.now c.requires.was c.args.is_executable)

pub compare_arguments-requires-clause-is : goal.compare_arguments-requires-clause-is
compare_arguments-requires-clause-is c =
    let after : c.args.new.now.value.value.arguments.items ≡ c.deref-10.result.now = cc in
    subst (λ (l : List (Node InputValueDefinition)). HasArguments c.args.pair.new.now (owner.Directive c.args.name c.args.is_executable) l) after
    (directive_arguments c.args.pair.new.now c.args.name.now c.args.new.now c.requires.is c.args.is_executable)
