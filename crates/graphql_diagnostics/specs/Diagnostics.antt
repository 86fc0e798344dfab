-- Lists of reports.
use Rattle.std.specs.Prelude.{Bool, List, Option, ℕ}
use Rattle.std.specs.Vec.{vec_allocator}
use Rattle.std.specs.declared.alloc.Global.{Global}
use Rattle.std.specs.Borrow.{Bor}
use Rattle.graphql_hash_seeds.specs.declared.seeds.HashSeed.{HashSeed}
use Rattle.graphql_nodes.specs.Names.{NameText}
use Rattle.graphql_diagnostics.specs.declared.bounds.ReportBound.{ReportBound}
use Rattle.graphql_diagnostics.specs.declared.lists.DiagnosticEntry.{DiagnosticEntry}
use Rattle.graphql_diagnostics.specs.declared.lists.DiagnosticList.{DiagnosticList}
use Rattle.graphql_nodes.specs.declared.spans.SourceSpan.{SourceSpan}
use Rattle.graphql_diagnostics.specs.declared.data.DiagnosticData.{DiagnosticData}
use Rattle.graphql_diagnostics.specs.declared.details.Details.{Details}
use Rattle.graphql_diagnostics.specs.declared.details.Details.TheVariants.{Diagnostic, RecursionLimit}
use Rattle.graphql_nodes.specs.declared.errors.RecursionLimitError.{RecursionLimitError}
use Rattle.graphql_diagnostics.specs.declared.data.DiagnosticData.TheVariants as report

-- the diagnostics of a list, in the order in which they were pushed
abbrev pub entries : DiagnosticList → List DiagnosticEntry
entries list = list.entries.items

-- what a list grows by
abbrev pub allocator_of : DiagnosticList → Global
allocator_of list = vec_allocator list.entries

-- the seed by which names are hashed
abbrev pub hash_seed_of : DiagnosticList → HashSeed
hash_seed_of list = list.hash_seed

-- what a list may still keep, if it has a bound
abbrev pub room_of : DiagnosticList → Option ReportBound
room_of list = list.room

-- the list refused a report that its bound does not admit
abbrev pub has_more_of : DiagnosticList → Bool
has_more_of list = list.has_more

-- what is reported is a broken rule, and this holds of it and its place
abbrev pub DiagnosticReport : (DiagnosticData → Option SourceSpan → Type 0) → Details → Option SourceSpan → Type 0
DiagnosticReport P (Diagnostic broken) at = P broken at
DiagnosticReport P _ at = ⊥

-- the same of an entry
abbrev pub IsDiagnostic : (DiagnosticData → Option SourceSpan → Type 0) → DiagnosticEntry → Type 0
IsDiagnostic P entry = DiagnosticReport P entry.details entry.location

-- what is reported is that a walk or a path passes its limit
pub data IsLimit : Details → Type 0 where
  limit_of_walk : IsLimit (Diagnostic report.RecursionError)
  limit_of_path : {name : NameText} {describe : Bor (List ℕ)} → IsLimit (Diagnostic (report.DeeplyNestedType name describe))
  limit_of_depth : {limit : RecursionLimitError} → IsLimit (RecursionLimit limit)

-- the same of an entry
abbrev pub IsLimitEntry : DiagnosticEntry → Type 0
IsLimitEntry entry = IsLimit entry.details
