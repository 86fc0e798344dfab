use Rattle.std.proofs.Common.{◌≡◌, ◌++◌, All, List}
use Rattle.std.specs.Prelude.{◌⊎◌, flat_map}
use Rattle.graphql_diagnostics.specs.Diagnostics.{IsDiagnostic, IsLimitEntry, entries}
use Rattle.graphql_specification.specs.Types.{TypesLimit, TypesReport, TypeHolds}
use Rattle.graphql_nodes.specs.Names.{IsFreeName, NameText}
use Rattle.graphql_diagnostics.specs.Reports.{ReportsWithin}
use Rattle.graphql_specification.specs.BuiltInScalars.{types_referred_by}
use Rattle.graphql_documents.specs.declared.documents.schemas.ExtendedType.{ExtendedType}
use Rattle.graphql_field_definitions.specs.BuiltInScalarUses.{Records}
use Rattle.graphql_schemas.proofs.types.validate_types_by_levels.Given as goal

-- the types so far
abbrev pub invariant-loop-name : goal.invariant-loop-name
invariant-loop-name l = record {
  can_next : (goal.iterator-loop-name).can_next l.name-iterator;
  is_finite : (goal.iterator-loop-name).is_finite l.name-iterator;
  done : List (NameText × ExtendedType);
  all : l.levels.schema.now.types.entries ≡ done ++ l.name-iterator;
  checked : ReportsWithin IsLimitEntry (All (λ entry. IsFreeName entry.0 × TypeHolds l.levels.schema.now entry.1) done)
      (λ e. IsDiagnostic (TypesReport l.levels.schema.now) e ⊎ IsDiagnostic (TypesLimit l.levels.schema.now) e) (entries l.initial.diagnostics) (entries l.diagnostics);
  records : Records l.initial.built_in_scalars l.built_in_scalars (flat_map (λ entry. types_referred_by entry.1) done);
}
