use Rattle.std.proofs.Common.{◌≡◌, ◌++◌, map}
use Rattle.graphql_diagnostics.specs.Diagnostics.{IsDiagnostic, entries}
use Rattle.graphql_diagnostics.specs.Reports.{Reports}
use Rattle.graphql_documents.specs.Roots.{roots_left}
use Rattle.graphql_specification.specs.SchemaDefinitions.{RootsReport}
use Rattle.graphql_documents.specs.Schemas.{roots_of}
use Rattle.graphql_schemas.specs.RootSteps.{AreRoots, lent_root}
use Rattle.graphql_schemas.proofs.schema_definition.validate_root_operation_definitions.Given as goal

-- what is wrong with the roots so far is reported, and `seen` has them
abbrev pub invariant-loop-root : goal.invariant-loop-root
invariant-loop-root l = record {
  can_next : (goal.iterator-loop-root).can_next l.root-iterator;
  is_finite : (goal.iterator-loop-root).is_finite l.root-iterator;
  all : roots_of l.schema.schema_definition.value.value ≡ map lent_root l.seen.items ++ roots_left l.root-iterator;
  reported : Reports (AreRoots l.schema (map lent_root l.seen.items))
      (IsDiagnostic (RootsReport l.schema l.schema.schema_definition.value.value)) (entries l.initial.diagnostics) (entries l.diagnostics);
}
