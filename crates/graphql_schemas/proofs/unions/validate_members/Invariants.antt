use Rattle.std.proofs.Common.{All, take}
use Rattle.graphql_diagnostics.specs.Diagnostics.{IsDiagnostic, entries}
use Rattle.graphql_diagnostics.specs.Reports.{Reports}
use Rattle.graphql_documents.specs.Schemas.{NamesKind, is_object_type}
use Rattle.graphql_specification.specs.Types.{TypeReport}
use Rattle.graphql_documents.specs.declared.documents.schemas.ExtendedType.TheVariants as types
use Rattle.graphql_schemas.proofs.unions.validate_members.Given as goal

-- the members so far
abbrev pub invariant-loop-member : goal.invariant-loop-member
invariant-loop-member l =
    Reports (All (λ member. NamesKind l.schema is_object_type member.name) (take l.member-index l.member-items))
    (IsDiagnostic (TypeReport l.schema (types.Union l.union))) (entries l.initial.diagnostics) (entries l.diagnostics)
