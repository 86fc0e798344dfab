use Rattle.std.proofs.Common.{All, subst, sym}
use Rattle.std.specs.Prelude.{IsTrue}
use Rattle.std.proofs.lemmas.List.Elements.{All-weaker}
use Rattle.graphql_nodes.specs.declared.nodes.Node.{Node}
use Rattle.graphql_documents.specs.declared.documents.definitions.InputValueDefinition.{InputValueDefinition}
use Rattle.graphql_input_comparison.specs.Inputs.{KeepsArgument, WasRequired, is_owner_given}
use Rattle.graphql_input_comparison.proofs.InputLemmas.{has_argument}
use Rattle.graphql_input_comparison.specs.Owners.{HasArguments}
use Rattle.graphql_change_kinds.proofs.FindsLemmas.{found_all_of, found_more, found_none, found_words}
use Rattle.graphql_input_comparison.proofs.arguments.compare_new_arguments.Goals as goal

pub loop-argument-init : goal.loop-argument-init
loop-argument-init c = found_none (λ merging (x : Node InputValueDefinition). IsTrue (is_owner_given c.args.owner) → All (KeepsArgument c.args.new_by_name.now) c.args.old.now → WasRequired c.args.old.now x)

pub loop-argument-preserved : goal.loop-argument-preserved
loop-argument-preserved c =
    found_more (λ merging (x : Node InputValueDefinition). IsTrue (is_owner_given c.args.owner) → All (KeepsArgument c.args.new_by_name.now) c.args.old.now → WasRequired c.args.old.now x) c.args.new.now c.loop-argument.argument-index c.argument-item.result
    c.loop-argument-test.true c.argument-item.is c.loop-argument.invariant c.in_ok-compare_new_argument.ensures

pub returns : goal.returns
returns c =
    found_words (λ merging all given kept. All-weaker (λ (x : Node InputValueDefinition). IsTrue (is_owner_given c.args.owner) → All (KeepsArgument c.args.new_by_name.now) c.args.old.now → WasRequired c.args.old.now x)
    (WasRequired c.args.old.now) (λ x was. was given kept) c.args.new.now all)
    (found_all_of (λ merging (x : Node InputValueDefinition). IsTrue (is_owner_given c.args.owner) → All (KeepsArgument c.args.new_by_name.now) c.args.old.now → WasRequired c.args.old.now x) c.args.new.now
    c.loop-argument.argument-index c.loop-argument-test.false c.loop-argument.invariant)

pub compare_new_argument-requires-clause-there : goal.compare_new_argument-requires-clause-there
compare_new_argument-requires-clause-there c =
    has_argument c.args.pair.new.now c.args.owner c.args.new.now c.requires.is c.argument-item.result
    (c.loop-argument.argument-index, c.loop-argument-test.true, sym c.argument-item.is)

pub compare_new_argument-requires-clause-is : goal.compare_new_argument-requires-clause-is
compare_new_argument-requires-clause-is c = subst (λ l. HasArguments c.args.pair.new.now c.args.owner l) (sym c.requires.same) c.requires.is
