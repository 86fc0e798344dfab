-- No report of a broken rule is one of a limit, and each of a limit is.
use Rattle.std.proofs.Common.{◌≡◌, ◌⊎◌, inl, inr, Bool, true, false, List, [], Option, refl}
use Rattle.graphql_diagnostics.specs.Diagnostics.{IsLimit, IsLimitEntry, DiagnosticReport, limit_of_depth, limit_of_path, limit_of_walk}
use Rattle.graphql_specification.specs.Directives.{ApplicationReport, DirectivesReport, of_application, of_argument_values, of_misplaced_directive, of_missing_argument, of_repeated_argument, of_repeated_directive, of_undefined_directive, of_unknown_argument}
use Rattle.graphql_specification.specs.Arguments.{ArgumentValuesReport, of_usage, of_value}
use Rattle.graphql_specification.specs.Documents as documents
use Rattle.graphql_specification.specs.Operations as operations
use Rattle.graphql_specification.specs.Documents.{DocumentReport, DocumentLimit}
use Rattle.graphql_specification.specs.Operations.{OperationReport}
use Rattle.graphql_specification.specs.Fields.{FieldFormReport, by_directives, by_form, by_values}
use Rattle.graphql_nodes.specs.Names.{NameText}
use Rattle.graphql_specification.specs.Fragments.{FragmentFormReport, InlineFragmentConditionReport, SpreadTargetReport, by_inline_directives, by_condition, by_spread_directives, by_spread, by_fragment_directives, by_fragment}
use Rattle.graphql_specification.specs.Selections.{SelectionReport, of_field, of_inline_fragment, of_spread, of_fragment}
use Rattle.graphql_documents.specs.Selections.{Fragments}
use Rattle.graphql_documents.specs.TypeReferences.{TypeReference}
use Rattle.graphql_specification.specs.Values.{ValueItselfReport}
use Rattle.graphql_specification.specs.Variables.{VariableReport, VariablesReport, of_default, of_no_input_type, of_repetition, of_undefined_type, of_variable, of_variable_directives}
use Rattle.graphql_documents.specs.declared.documents.executables.Operation.{Operation}
use Rattle.graphql_diagnostics.specs.declared.data.DiagnosticData.{DiagnosticData}
use Rattle.graphql_diagnostics.specs.declared.data.DiagnosticData.TheVariants as report
use Rattle.graphql_diagnostics.specs.declared.details.Details.{Details}
use Rattle.graphql_diagnostics.specs.declared.details.Details.TheVariants as details
use Rattle.graphql_diagnostics.specs.declared.lists.DiagnosticEntry.{DiagnosticEntry}
use Rattle.graphql_nodes.specs.declared.directive_locations.DirectiveLocation.{DirectiveLocation}
use Rattle.graphql_documents.specs.declared.documents.definitions.VariableDefinition.{VariableDefinition}
use Rattle.graphql_documents.specs.declared.documents.definitions.DirectiveDefinition.{DirectiveDefinition}
use Rattle.graphql_documents.specs.declared.documents.definitions.InputValueDefinition.{InputValueDefinition}
use Rattle.graphql_documents.specs.declared.documents.directives.Argument.{Argument}
use Rattle.graphql_documents.specs.declared.documents.directives.Directive.{Directive}
use Rattle.graphql_documents.specs.declared.documents.executables.ExecutableDocument.{ExecutableDocument}
use Rattle.graphql_documents.specs.declared.documents.executables.Field.{Field}
use Rattle.graphql_documents.specs.declared.documents.executables.Fragment.{Fragment}
use Rattle.graphql_documents.specs.declared.documents.executables.FragmentSpread.{FragmentSpread}
use Rattle.graphql_documents.specs.declared.documents.executables.InlineFragment.{InlineFragment}
use Rattle.graphql_documents.specs.declared.documents.executables.Selection.{Selection}
use Rattle.graphql_nodes.specs.declared.nodes.Node.{Node}
use Rattle.graphql_documents.specs.declared.documents.schemas.Schema.{Schema}
use Rattle.graphql_nodes.specs.declared.spans.SourceSpan.{SourceSpan}
use Rattle.graphql_documents.specs.declared.documents.values.Value.{Value}

-- the broken rules that are limits
abbrev is_bound : DiagnosticData → Bool
is_bound report.RecursionError = true
is_bound (report.DeeplyNestedType name describe) = true
is_bound _ = false

abbrev pub says_limit : Details → Bool
says_limit (details.Diagnostic r) = is_bound r
says_limit (details.Build b) = false
says_limit (details.RecursionLimit l) = true

pub limit_says : (d : Details) → IsLimit d → says_limit d ≡ true
limit_says d limit_of_walk = refl
limit_says d limit_of_path = refl
limit_says d limit_of_depth = refl

-- no report of a selection is one
module _ (schema : Schema) (variables : List (Node VariableDefinition)) (ty : TypeReference) (value : Node Value) where
  of_values : (r : DiagnosticData) (at : Option SourceSpan) → ValueItselfReport schema variables ty value r at → is_bound r ≡ false
  of_values report.RecursionError at b = absurd b
  of_values (report.DeeplyNestedType name describe) at b = absurd b
  of_values r at b = refl

of_arguments : {schema : Schema} {variables : List (Node VariableDefinition)} {definitions : List (Node InputValueDefinition)} {given : List (Node Argument)} {r : DiagnosticData} {at : Option SourceSpan} →
    ArgumentValuesReport schema variables definitions given r at → is_bound r ≡ false
of_arguments (of_usage b) = refl
of_arguments {schema} {variables} {r = r} {at = at} (of_value b) = of_values schema variables _ _ r at b.broken.broken

of_directives : {schema : Option Schema} {variables : List (Node VariableDefinition)} {location : DirectiveLocation} {directives : List (Node Directive)} {r : DiagnosticData} {at : Option SourceSpan} →
    DirectivesReport schema variables location directives r at → is_bound r ≡ false
of_directives (of_repeated_argument d in' b) = refl
of_directives (of_undefined_directive b) = refl
of_directives (of_repeated_directive b) = refl
of_directives (of_misplaced_directive b) = refl
of_directives (of_application is b) = by_application b where
  by_application : {against : Schema} {variables : List (Node VariableDefinition)} {d : Node Directive} {definition : Node DirectiveDefinition} {r : DiagnosticData} {at : Option SourceSpan} →
      ApplicationReport against variables d definition r at → is_bound r ≡ false
  by_application (of_unknown_argument b) = refl
  by_application (of_missing_argument b) = refl
  by_application (of_argument_values b) = of_arguments b

of_form : (schema : Option Schema) (parent : Option NameText) (f : Node Field) (r : DiagnosticData) (at : Option SourceSpan) → FieldFormReport schema parent f r at → is_bound r ≡ false
of_form schema parent f report.RecursionError at b = absurd b
of_form schema parent f (report.DeeplyNestedType name describe) at b = absurd b
of_form schema parent f r at b = refl

of_inline : (schema : Option Schema) (parent : Option NameText) (i : Node InlineFragment) (r : DiagnosticData) (at : Option SourceSpan) → InlineFragmentConditionReport schema parent i r at → is_bound r ≡ false
of_inline schema parent i report.RecursionError at b = absurd b
of_inline schema parent i (report.DeeplyNestedType name describe) at b = absurd b
of_inline schema parent i r at b = refl

of_spreads : (schema : Option Schema) (fragments : Fragments) (parent : Option NameText) (p : Node FragmentSpread) (r : DiagnosticData) (at : Option SourceSpan) → SpreadTargetReport schema fragments parent p r at → is_bound r ≡ false
of_spreads schema fragments parent p report.RecursionError at b = absurd b
of_spreads schema fragments parent p (report.DeeplyNestedType name describe) at b = absurd b
of_spreads schema fragments parent p r at b = refl

of_fragments : (schema : Option Schema) (fragments : Fragments) (d : Node Fragment) (r : DiagnosticData) (at : Option SourceSpan) → FragmentFormReport schema fragments d r at → is_bound r ≡ false
of_fragments schema fragments d report.RecursionError at b = absurd b
of_fragments schema fragments d (report.DeeplyNestedType name describe) at b = absurd b
of_fragments schema fragments d r at b = refl

of_selections : {schema : Option Schema} {fragments : Fragments} {variables : List (Node VariableDefinition)} {parent : Option NameText} {selections : List Selection} (r : DiagnosticData) (at : Option SourceSpan) →
    SelectionReport schema fragments variables parent selections r at → is_bound r ≡ false
of_selections r at (of_field f p (by_directives b)) = of_directives b
of_selections r at (of_field f p (by_form b)) = of_form _ _ f r at b
of_selections r at (of_field f p (by_values b)) = of_arguments b.broken
of_selections r at (of_inline_fragment i p (by_inline_directives b)) = of_directives b
of_selections r at (of_inline_fragment i p (by_condition b)) = of_inline _ _ i r at b
of_selections r at (of_spread s p (by_spread_directives b)) = of_directives b
of_selections r at (of_spread s p (by_spread b)) = of_spreads _ _ _ s r at b
of_selections r at (of_fragment s p found (by_fragment_directives b)) = of_directives b
of_selections r at (of_fragment s {d = d} p found (by_fragment b)) = of_fragments _ _ d r at b

pub says_no_bound : (schema : Option Schema) (fragments : Fragments) (variables : List (Node VariableDefinition)) (parent : Option NameText) (selections : List Selection) (d : Details) (at : Option SourceSpan) →
    DiagnosticReport (SelectionReport schema fragments variables parent selections) d at → says_limit d ≡ false
says_no_bound schema fragments variables parent selections (details.Diagnostic r) at says = of_selections r at says
says_no_bound schema fragments variables parent selections (details.Build b) at says = absurd says
says_no_bound schema fragments variables parent selections (details.RecursionLimit l) at says = absurd says

of_definitions : {schema : Option Schema} {v : Node VariableDefinition} {r : DiagnosticData} {at : Option SourceSpan} → VariableReport schema v r at → is_bound r ≡ false
of_definitions (of_no_input_type b) = refl
of_definitions (of_undefined_type b) = refl
of_definitions (of_default {r = r} {at = at} b) = of_values b.against [] _ _ r at b.broken.broken

of_variable_definitions : {schema : Option Schema} {variables : List (Node VariableDefinition)} {r : DiagnosticData} {at : Option SourceSpan} →
    VariablesReport schema variables r at → is_bound r ≡ false
of_variable_definitions (of_variable_directives in' b) = of_directives b
of_variable_definitions (of_variable in' b) = of_definitions b
of_variable_definitions (of_repetition b) = refl

of_operations : {schema : Option Schema} {document : ExecutableDocument} {o : Operation} {r : DiagnosticData} {at : Option SourceSpan} →
    OperationReport schema document o r at → is_bound r ≡ false
of_operations (operations.of_directives b) = of_directives b
of_operations (operations.of_variables b) = of_variable_definitions b
of_operations (operations.of_unused_variable b) = refl
of_operations (operations.of_selection {r = r} {at = at} b) = of_selections r at b

-- no report of a document says that a limit is passed
of_documents : {schema : Option Schema} {document : ExecutableDocument} {d : Details} {at : Option SourceSpan} →
    DocumentReport schema document d at → says_limit d ≡ false
of_documents (documents.of_operation in' b) = of_operations b
of_documents (documents.of_unused_fragment b) = refl
of_documents (documents.of_defer b) = refl
of_documents (documents.of_subscription is in' type b) = refl
of_documents (documents.of_merging is in' b) = refl

pub report_is_no_limit : {schema : Option Schema} {document : ExecutableDocument} {d : Details} {at : Option SourceSpan} →
    DocumentReport schema document d at → ¬ IsLimit d
report_is_no_limit {d = d} b limit =
    let is = limit_says d limit in
    let is_none = of_documents b in
    let no' : ⊥ = cc in no'

-- each limit of a document is one
pub limit_is_one : {schema : Option Schema} {document : ExecutableDocument} {d : Details} {at : Option SourceSpan} →
    DocumentLimit schema document d at → IsLimit d
limit_is_one (documents.fragment_nests in' nests) = limit_of_path
limit_is_one (documents.walk_of_variables in' passes) = limit_of_walk
limit_is_one (documents.walk_of_root in' other passes) = limit_of_walk
limit_is_one (documents.walk_of_labels passes) = limit_of_walk
limit_is_one (documents.walk_of_conditions in' one passes) = limit_of_walk
limit_is_one (documents.walk_of_fragments in' passes) = limit_of_depth
limit_is_one (documents.merging_limit after is split nests) = limit_of_depth

-- what is true of an entry, where it is no limit, and where it is one
module _ (schema : Option Schema) (document : ExecutableDocument) where
  pub report_unless_limit : (e : DiagnosticEntry) → DocumentReport schema document e.details e.location ⊎ DocumentLimit schema document e.details e.location →
      ¬ IsLimitEntry e → DocumentReport schema document e.details e.location
  report_unless_limit e (inl b) no' = b
  report_unless_limit e (inr l) no' = absurd (no' (limit_is_one l))

  pub limit_if_one : (e : DiagnosticEntry) → DocumentReport schema document e.details e.location ⊎ DocumentLimit schema document e.details e.location →
      IsLimitEntry e → DocumentLimit schema document e.details e.location
  limit_if_one e (inl b) is = absurd (report_is_no_limit b is)
  limit_if_one e (inr l) is = l
