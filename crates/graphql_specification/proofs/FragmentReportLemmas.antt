-- What the checks of the types of fragments report, in the words of selections and fragments.
use Rattle.std.proofs.Common.{◌≡◌, Option, None, Some, refl}
use Rattle.graphql_nodes.specs.Names.{NameText}
use Rattle.graphql_specification.specs.Fragments.{FragmentFormReport, ImpossibleReport, InlineFragmentConditionReport, InvalidTargetReport, SpreadTargetReport, impossible_use, invalid_target}
use Rattle.graphql_documents.specs.Selections.{Fragments}
use Rattle.graphql_diagnostics.specs.declared.data.DiagnosticData.{DiagnosticData}
use Rattle.graphql_documents.specs.declared.documents.executables.Fragment.{Fragment}
use Rattle.graphql_documents.specs.declared.documents.executables.FragmentSpread.{FragmentSpread}
use Rattle.graphql_documents.specs.declared.documents.executables.InlineFragment.{InlineFragment}
use Rattle.graphql_nodes.specs.declared.nodes.Node.{Node}
use Rattle.graphql_documents.specs.declared.documents.schemas.Schema.{Schema}
use Rattle.graphql_nodes.specs.declared.spans.SourceSpan.{SourceSpan}

-- the condition of an inline fragment
pub inline_target : {schema : Option Schema} (parent : Option NameText) (i : Node InlineFragment) (condition : NameText) → i.value.value.type_condition ≡ Some condition →
    (r : DiagnosticData) (at : Option SourceSpan) → InvalidTargetReport schema None condition i.location r at → InlineFragmentConditionReport schema parent i r at
inline_target parent i condition is r at (invalid_target invalid) = (condition, is, refl, invalid)

-- the condition of a fragment
pub fragment_target : {schema : Option Schema} (fragments : Fragments) (d : Node Fragment) (r : DiagnosticData) (at : Option SourceSpan) →
    InvalidTargetReport schema (Some d.value.value.name) d.value.value.selection_set.ty d.location r at → FragmentFormReport schema fragments d r at
fragment_target fragments d r at (invalid_target invalid) = (refl, invalid)

-- an inline fragment on the type around
pub inline_impossible : {schema : Option Schema} (parent : Option NameText) (i : Node InlineFragment) (condition : NameText) → i.value.value.type_condition ≡ Some condition →
    (r : DiagnosticData) (at : Option SourceSpan) → ImpossibleReport schema None condition parent i.location i.location r at → InlineFragmentConditionReport schema parent i r at
inline_impossible parent i condition is r at (impossible_use impossible) = (condition, is, refl, impossible)

-- a spread on the type around
pub spread_impossible : {schema : Option Schema} (fragments : Fragments) (parent : Option NameText) (p : Node FragmentSpread) (d : Node Fragment) →
    fragments p.value.value.fragment_name ≡ Some d → (r : DiagnosticData) (at : Option SourceSpan) →
    ImpossibleReport schema (Some p.value.value.fragment_name) d.value.value.selection_set.ty parent d.location p.location r at →
    SpreadTargetReport schema fragments parent p r at
spread_impossible fragments parent p d found r at (impossible_use impossible) = (d, found, refl, impossible)
