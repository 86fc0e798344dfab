use Rattle.std.proofs.Common.{◌≡◌, ◌++◌, List, All}
use Rattle.graphql_nodes.specs.Names.{NameText}
use Rattle.graphql_nodes.specs.declared.nodes.Node.{Node}
use Rattle.graphql_documents.specs.declared.documents.definitions.DirectiveDefinition.{DirectiveDefinition}
use Rattle.graphql_schema_comparison.specs.Comparisons.{KeepsDirectiveNamed}
use Rattle.graphql_change_kinds.specs.Found.{Finds}
use Rattle.graphql_schema_comparison.proofs.directives.compare_old_directives.Given as goal

abbrev pub invariant-loop-name : goal.invariant-loop-name
invariant-loop-name l = record {
  can_next : (goal.iterator-loop-name).can_next l.name-iterator;
  is_finite : (goal.iterator-loop-name).is_finite l.name-iterator;
  done : List (NameText × Node DirectiveDefinition);
  all : l.initial.name-iterator ≡ done ++ l.name-iterator;
  found : Finds l.pair.old.now l.pair.new.now l.initial.changes l.changes (λ merging. All (λ (entry : NameText × Node DirectiveDefinition). KeepsDirectiveNamed l.pair.new.now entry.0 entry.1) done);
}
