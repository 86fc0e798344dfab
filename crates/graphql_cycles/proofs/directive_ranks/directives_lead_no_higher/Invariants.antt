use Rattle.std.proofs.Common.{◌≡◌, ◌++◌, All, List}
use Rattle.graphql_nodes.specs.Names.{NameText}
use Rattle.graphql_nodes.specs.declared.nodes.Node.{Node}
use Rattle.graphql_documents.specs.declared.documents.definitions.DirectiveDefinition.{DirectiveDefinition}
use Rattle.graphql_cycles.specs.DirectiveRanks.{DirectiveEntryLeadsNoHigher}
use Rattle.graphql_cycles.proofs.directive_ranks.directives_lead_no_higher.Given as goal

-- those so far lead no higher
abbrev pub invariant-loop-name : goal.invariant-loop-name
invariant-loop-name l = record {
  can_next : (goal.iterator-loop-name).can_next l.name-iterator;
  is_finite : (goal.iterator-loop-name).is_finite l.name-iterator;
  done : List (NameText × Node DirectiveDefinition);
  all : l.schema.directive_definitions.entries ≡ done ++ l.name-iterator;
  leads : All (DirectiveEntryLeadsNoHigher l.ranks) done;
}
