use Rattle.std.proofs.Common.{◌≡◌, ◌++◌, All, List}
use Rattle.graphql_diagnostics.specs.Diagnostics.{IsDiagnostic, entries}
use Rattle.graphql_nodes.specs.Names.{NameText}
use Rattle.graphql_diagnostics.specs.Reports.{Reports}
use Rattle.graphql_specification.specs.Types.{EnumValueHolds, TypeReport}
use Rattle.graphql_documents.specs.declared.documents.components.Component.{Component}
use Rattle.graphql_documents.specs.declared.documents.definitions.EnumValueDefinition.{EnumValueDefinition}
use Rattle.graphql_documents.specs.declared.documents.schemas.ExtendedType.TheVariants as types
use Rattle.graphql_schemas.proofs.enums.validate_values.Given as goal

-- the values so far
abbrev pub invariant-loop-enum_value : goal.invariant-loop-enum_value
invariant-loop-enum_value l = record {
  can_next : (goal.iterator-loop-enum_value).can_next l.enum_value-iterator;
  is_finite : (goal.iterator-loop-enum_value).is_finite l.enum_value-iterator;
  done : List (NameText × Component EnumValueDefinition);
  all : l.enum_type.value.value.values.entries ≡ done ++ l.enum_value-iterator;
  checked : Reports (All (λ entry. EnumValueHolds l.schema entry.1.node.value.value) done)
      (IsDiagnostic (TypeReport l.schema (types.Enum l.enum_type))) (entries l.initial.diagnostics) (entries l.diagnostics);
}
