use Rattle.std.proofs.Common.{◌≡◌, ◌++◌, Bor, List}
use Rattle.graphql_nodes.specs.Names.{NameText}
use Rattle.graphql_documents.specs.Selections.{fragments_of}
use Rattle.graphql_usage_rules.specs.Parts.{UsedInFragment}
use Rattle.graphql_usage_rules.proofs.PlaceLemmas.{WalkedTo}
use Rattle.graphql_usage_rules.proofs.variable_usages.check_fragments.Given as goal

abbrev pub invariant-loop-name : goal.invariant-loop-name
invariant-loop-name l = record {
  can_next : (goal.iterator-loop-name).can_next l.name-iterator;
  is_finite : (goal.iterator-loop-name).is_finite l.name-iterator;
  done : List (Bor NameText);
  all : l.names.keys ≡ done ++ l.name-iterator;
  reported : WalkedTo l.variables (λ (name : Bor NameText). UsedInFragment l.schema (fragments_of l.document) name.now) l.names.keys done l.initial.reports.kept.items l.reports.kept.items;
}
