use Rattle.std.proofs.Common.{◌≡◌, ◌++◌, List}
use Rattle.graphql_nodes.specs.Names.{NameText}
use Rattle.graphql_documents.specs.declared.documents.components.Component.{Component}
use Rattle.graphql_documents.specs.declared.documents.definitions.EnumValueDefinition.{EnumValueDefinition}
use Rattle.graphql_change_kinds.specs.Found.{Adds}
use Rattle.graphql_input_comparison.proofs.input_types.find_added_values.Given as goal

abbrev pub invariant-loop-name : goal.invariant-loop-name
invariant-loop-name l = record {
  can_next : (goal.iterator-loop-name).can_next l.name-iterator;
  is_finite : (goal.iterator-loop-name).is_finite l.name-iterator;
  done : List (NameText × Component EnumValueDefinition);
  all : l.initial.name-iterator ≡ done ++ l.name-iterator;
  found : Adds l.pair.old.now l.pair.new.now l.initial.changes l.changes;
}
