-- Sets of places, for the contracts of what is reported beside validation.
use Rattle.std.specs.Prelude.{◌≡◌, Bool, false, List, None, Option, Some}
use Rattle.std.specs.List.{list_any}
use Rattle.std.specs.HashSet.{HashSet, contains}
use Rattle.graphql_diagnostics.specs.declared.data.DiagnosticData.TheVariants as report
use Rattle.graphql_diagnostics.specs.declared.details.Details.{Details}
use Rattle.graphql_diagnostics.specs.declared.details.Details.TheVariants as details
use Rattle.graphql_diagnostics.specs.declared.lists.DiagnosticEntry.{DiagnosticEntry}
use Rattle.graphql_nodes.specs.declared.spans.SourceSpan.{SourceSpan}
use Rattle.graphql_nodes.specs.contracts.spans.SourceSpanPartialEq.TheImpl as equality

-- this place, if the details say of a variable that it is not defined
abbrev pub place_of_undefined : Details → Option SourceSpan → Option SourceSpan
place_of_undefined (details.Diagnostic (report.UndefinedVariable name)) place = place
place_of_undefined _ place = None

-- the place of the variable that a diagnostic reports as undefined
abbrev pub undefined_place : DiagnosticEntry → Option SourceSpan
undefined_place e = place_of_undefined e.details e.location

-- the end of a place, as a place
abbrev pub end_of : Option SourceSpan → Option SourceSpan
end_of None = None
end_of (Some place) = Some (record { file_id = place.file_id; start = place.end; end = place.end })

-- this end, if the details name a rule that is never off
abbrev pub end_of_fixed : Details → Option SourceSpan → Option SourceSpan
end_of_fixed (details.Diagnostic (report.UnusedVariable name)) end = None
end_of_fixed (details.Diagnostic (report.UnusedFragment name)) end = None
end_of_fixed _ end = end

-- the end of the place of a diagnostic, if its rule is never off
abbrev pub reported_end : DiagnosticEntry → Option SourceSpan
reported_end e = end_of_fixed e.details (end_of e.location)

-- whether two places are equal
abbrev pub same_place : SourceSpan → SourceSpan → Bool
same_place = equality.ghosts.eq

-- the set has exactly these places
abbrev pub HasThese : {S : Type 0} → List SourceSpan → HashSet SourceSpan S → Type 0
HasThese places set = (place : SourceSpan) → contains same_place set place ≡ list_any (same_place place) places

-- whether there is a place, and the set has it
abbrev pub is_place_among : {S : Type 0} → Option SourceSpan → HashSet SourceSpan S → Bool
is_place_among None set = false
is_place_among (Some place) set = contains same_place set place
