use Rattle.std.proofs.Common.{sym}
use Rattle.std.specs.Prelude.{IsTrue}
use Rattle.std.proofs.lemmas.List.Elements.{All-weaker}
use Rattle.graphql_nodes.specs.declared.nodes.Node.{Node}
use Rattle.graphql_documents.specs.declared.documents.definitions.InputValueDefinition.{InputValueDefinition}
use Rattle.graphql_input_comparison.specs.Inputs.{KeepsArgument, is_owner_given}
use Rattle.graphql_input_comparison.proofs.InputLemmas.{has_argument}
use Rattle.graphql_change_kinds.proofs.FindsLemmas.{found_all_of, found_more, found_none, found_words}
use Rattle.graphql_input_comparison.proofs.arguments.compare_old_arguments.Goals as goal

pub loop-argument-init : goal.loop-argument-init
loop-argument-init c = found_none (λ merging (x : Node InputValueDefinition). IsTrue (is_owner_given c.args.owner) → KeepsArgument c.args.new.now x)

pub loop-argument-preserved : goal.loop-argument-preserved
loop-argument-preserved c =
    found_more (λ merging (x : Node InputValueDefinition). IsTrue (is_owner_given c.args.owner) → KeepsArgument c.args.new.now x) c.args.old.now c.loop-argument.argument-index c.argument-item.result c.loop-argument-test.true c.argument-item.is
    c.loop-argument.invariant c.in_ok-compare_old_argument.ensures

pub returns : goal.returns
returns c =
    found_words (λ merging all given. All-weaker (λ (x : Node InputValueDefinition). IsTrue (is_owner_given c.args.owner) → KeepsArgument c.args.new.now x)
    (KeepsArgument c.args.new.now) (λ x keeps. keeps given) c.args.old.now all)
    (found_all_of (λ merging (x : Node InputValueDefinition). IsTrue (is_owner_given c.args.owner) → KeepsArgument c.args.new.now x) c.args.old.now
    c.loop-argument.argument-index c.loop-argument-test.false c.loop-argument.invariant)

pub compare_old_argument-requires-clause-was : goal.compare_old_argument-requires-clause-was
compare_old_argument-requires-clause-was c =
    has_argument c.args.pair.old.now c.args.owner c.args.old.now c.requires.was c.argument-item.result
    (c.loop-argument.argument-index, c.loop-argument-test.true, sym c.argument-item.is)
