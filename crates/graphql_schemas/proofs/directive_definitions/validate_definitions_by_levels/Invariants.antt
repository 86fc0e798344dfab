-- The definitions that were gone over were checked, and what they refer to was recorded.
use Rattle.std.proofs.Common.{◌≡◌, ◌++◌, All, List, flat_map}
use Rattle.graphql_diagnostics.specs.Diagnostics.{IsLimitEntry, entries}
use Rattle.graphql_nodes.specs.Names.{NameText}
use Rattle.graphql_diagnostics.specs.Reports.{ReportsWithin}
use Rattle.graphql_specification.specs.DirectiveDefinitions.{DirectiveDefinitionHolds}
use Rattle.graphql_specification.specs.BuiltInScalars.{argument_types}
use Rattle.graphql_documents.specs.declared.documents.definitions.DirectiveDefinition.{DirectiveDefinition}
use Rattle.graphql_nodes.specs.declared.nodes.Node.{Node}
use Rattle.graphql_schemas.proofs.DirectiveDefinitionLemmas.{NamesDefinitions}
use Rattle.graphql_field_definitions.specs.BuiltInScalarUses.{Records}
use Rattle.graphql_schemas.proofs.directive_definitions.validate_definitions_by_levels.Given as goal

abbrev pub invariant-loop-definition : goal.invariant-loop-definition
invariant-loop-definition l = record {
  can_next : (goal.iterator-loop-definition).can_next l.definition-iterator;
  is_finite : (goal.iterator-loop-definition).is_finite l.definition-iterator;
  done : List (NameText × Node DirectiveDefinition);
  all : l.levels.schema.now.directive_definitions.entries ≡ done ++ l.definition-iterator;
  checked : ReportsWithin IsLimitEntry (All (λ entry. DirectiveDefinitionHolds l.levels.schema.now entry.1) done) (NamesDefinitions l.levels.schema.now)
      (entries l.initial.diagnostics) (entries l.diagnostics);
  records : Records l.initial.built_in_scalars l.built_in_scalars (flat_map (λ entry. argument_types entry.1.value.value.arguments.items) done);
}
