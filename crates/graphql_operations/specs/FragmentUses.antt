-- How a fragment comes to be on a type: by a spread, or in place.
use Rattle.std.specs.Prelude.{Option, None, Some}
use Rattle.graphql_nodes.specs.Names.{NameText}
use Rattle.graphql_specification.specs.Fragments.{ImpossibleReport}
use Rattle.graphql_diagnostics.specs.declared.data.DiagnosticData.{DiagnosticData}
use Rattle.graphql_documents.specs.declared.documents.schemas.Schema.{Schema}
use Rattle.graphql_nodes.specs.declared.spans.SourceSpan.{SourceSpan}
use Rattle.graphql_operations.specs.declared.spread_types.FragmentUse.{FragmentUse}
use Rattle.graphql_operations.specs.declared.spread_types.FragmentUse.TheVariants.{Inline, Spread}

-- the name by which it is spread
abbrev pub name_of_use : FragmentUse → Option NameText
name_of_use (Spread spread fragment) = Some spread.now.value.value.fragment_name
name_of_use (Inline fragment) = None

-- where it is used
abbrev pub place_of_use : FragmentUse → Option SourceSpan
place_of_use (Spread spread fragment) = spread.now.location
place_of_use (Inline fragment) = fragment.now.location

-- where it is defined
abbrev pub place_of_fragment : FragmentUse → Option SourceSpan
place_of_fragment (Spread spread fragment) = fragment.now.location
place_of_fragment (Inline fragment) = fragment.now.location

-- the diagnostic says that what it selects can never be visited on the type around
abbrev pub UseReport : Option Schema → NameText → Option NameText → FragmentUse → DiagnosticData → Option SourceSpan → Type 0
UseReport schema condition parent used =
    ImpossibleReport schema (name_of_use used) condition parent (place_of_fragment used) (place_of_use used)
