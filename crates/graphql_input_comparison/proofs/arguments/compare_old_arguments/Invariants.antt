use Rattle.std.proofs.Common.{All, take}
use Rattle.std.specs.Prelude.{IsTrue}
use Rattle.graphql_nodes.specs.declared.nodes.Node.{Node}
use Rattle.graphql_documents.specs.declared.documents.definitions.InputValueDefinition.{InputValueDefinition}
use Rattle.graphql_input_comparison.specs.Inputs.{KeepsArgument, is_owner_given}
use Rattle.graphql_change_kinds.specs.Found.{Finds}
use Rattle.graphql_input_comparison.proofs.arguments.compare_old_arguments.Given as goal

abbrev pub invariant-loop-argument : goal.invariant-loop-argument
invariant-loop-argument l = Finds l.pair.old.now l.pair.new.now l.initial.changes l.changes (λ merging. All (λ (x : Node InputValueDefinition). IsTrue (is_owner_given l.owner) → KeepsArgument l.new x) (take l.argument-index l.old))
