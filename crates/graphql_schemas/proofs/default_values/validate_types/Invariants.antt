use Rattle.std.proofs.Common.{◌≡◌, ◌++◌, List}
use Rattle.std.specs.Prelude.{flat_map}
use Rattle.graphql_diagnostics.specs.Diagnostics.{entries}
use Rattle.graphql_nodes.specs.Names.{NameText}
use Rattle.graphql_diagnostics.specs.Reports.{Reports}
use Rattle.graphql_specification.specs.DefaultValues.{inputs_of_type}
use Rattle.graphql_documents.specs.declared.documents.schemas.ExtendedType.{ExtendedType}
use Rattle.graphql_schemas.proofs.DefaultValueLemmas.{Break, Hold}
use Rattle.graphql_schemas.proofs.default_values.validate_types.Given as goal

abbrev pub invariant-loop-definition : goal.invariant-loop-definition
invariant-loop-definition l = record {
  can_next : (goal.iterator-loop-definition).can_next l.definition-iterator;
  is_finite : (goal.iterator-loop-definition).is_finite l.definition-iterator;
  done : List (NameText × ExtendedType);
  all : l.schema.types.entries ≡ done ++ l.definition-iterator;
  checked : Reports (Hold l.schema (flat_map (λ entry. inputs_of_type entry.1) done)) (Break l.schema (flat_map (λ entry. inputs_of_type entry.1) l.schema.types.entries)) (entries l.initial.diagnostics) (entries l.diagnostics);
}
