-- Reports on what is left of the texts of a schema that could be false of the whole texts. Specification: 3 Type System
use Rattle.std.specs.Prelude.{◌||◌, Bool, codes, false, not}
use Rattle.std.specs.BTreeSet.{contains_text}
use Rattle.std.specs.List.{list_any}
use Rattle.graphql_nodes.specs.Names.{NameText}
use Rattle.graphql_coordinates.specs.declared.coordinates.SchemaCoordinate.TheVariants as coordinate
use Rattle.graphql_coordinates.specs.declared.coordinates.SchemaCoordinate.{SchemaCoordinate}
use Rattle.graphql_diagnostics.specs.Diagnostics.{entries}
use Rattle.graphql_diagnostics.specs.declared.data.DiagnosticData.TheVariants as report
use Rattle.graphql_diagnostics.specs.declared.data.DiagnosticData.{DiagnosticData}
use Rattle.graphql_diagnostics.specs.declared.details.Details.TheVariants as details
use Rattle.graphql_diagnostics.specs.declared.details.Details.{Details}
use Rattle.graphql_diagnostics.specs.declared.lists.DiagnosticEntry.{DiagnosticEntry}
use Rattle.graphql_diagnostics.specs.declared.lists.DiagnosticList.{DiagnosticList}
use Rattle.graphql_kept_reports.specs.declared.schema_doubts.SchemaDoubts.{SchemaDoubts}

-- a definition or an extension of the type is left out, or it is where it is implemented
abbrev pub is_cut_type : SchemaDoubts → NameText → Bool
is_cut_type doubts name = contains_text doubts.types name.text

-- the same, or a field of it is left out
abbrev pub has_cut_fields : SchemaDoubts → NameText → Bool
has_cut_fields doubts name = is_cut_type doubts name || contains_text doubts.fields name.text

-- a definition of the directive is left out
abbrev pub is_cut_directive : SchemaDoubts → NameText → Bool
is_cut_directive doubts name = contains_text doubts.directives name.text

-- something of a directive is left out, or may be of another element
abbrev pub is_cut_element : SchemaDoubts → SchemaCoordinate → Bool
is_cut_element doubts (coordinate.Directive it) = is_cut_directive doubts it.directive
is_cut_element doubts (coordinate.DirectiveArgument it) = is_cut_directive doubts it.directive
is_cut_element doubts _ = doubts.has_inputs

-- the report says what a type, a directive or the schema lacks, or is not, and something of that is left out.
-- Specification: 3.3.1 Root Operation Types, 3.4 Types, 3.6 Objects to 3.10 Input Objects, 3.13 Directives
abbrev pub could_be_false : SchemaDoubts → DiagnosticData → Bool
could_be_false doubts (report.UndefinedDefinition name) = is_cut_type doubts name
could_be_false doubts (report.RootOperationObjectType name _) = is_cut_type doubts name
could_be_false doubts (report.UnionMemberObjectType name _) = is_cut_type doubts name
could_be_false doubts (report.UndefinedDirective name) = is_cut_directive doubts name
could_be_false doubts (report.UnsupportedLocation name _ _ _) = is_cut_directive doubts name
could_be_false doubts (report.UniqueDirective name _) = is_cut_directive doubts name
could_be_false doubts (report.EmptyFieldSet name _ _) = is_cut_type doubts name
could_be_false doubts (report.EmptyValueSet name _ _) = is_cut_type doubts name
could_be_false doubts (report.EmptyMemberSet name _ _) = is_cut_type doubts name
could_be_false doubts (report.EmptyInputValueSet name _ _) = is_cut_type doubts name
could_be_false doubts (report.OutputType _ _ _) = doubts.has_types
could_be_false doubts (report.InputType _ _ _) = doubts.has_types
could_be_false doubts report.QueryRootOperationType = doubts.has_schema || contains_text doubts.types (codes "Query")
could_be_false doubts _ = false

-- the report compares a type with an interface, and something of one of them is left out. Specification: 3.6 Objects, 3.7 Interfaces
abbrev pub implementation_could_be_false : SchemaDoubts → DiagnosticData → Bool
implementation_could_be_false doubts (report.MissingInterfaceField name interface _ _ _) = is_cut_type doubts name || is_cut_type doubts interface
implementation_could_be_false doubts (report.TransitiveImplementedInterfaces interface via _ _) = is_cut_type doubts interface || is_cut_type doubts via
implementation_could_be_false doubts (report.InvalidImplementationFieldType name interface _ _ _ _ _) =
    doubts.has_types || has_cut_fields doubts name || has_cut_fields doubts interface
implementation_could_be_false doubts (report.MissingInterfaceFieldArgument name interface _ _ _ _) = has_cut_fields doubts name || has_cut_fields doubts interface
implementation_could_be_false doubts (report.InvalidImplementationFieldArgumentType name interface _ _ _ _ _ _) =
    has_cut_fields doubts name || has_cut_fields doubts interface
implementation_could_be_false doubts (report.ExtraRequiredImplementationFieldArgument name interface _ _ _ _) =
    has_cut_fields doubts name || has_cut_fields doubts interface
implementation_could_be_false doubts _ = false

-- the report compares a value, or the arguments of a directive, with definitions of which something may be left out. Specification: 3.5 Scalars,
-- 3.9 Enums, 3.10 Input Objects, 3.13 Directives
abbrev pub value_could_be_false : SchemaDoubts → DiagnosticData → Bool
value_could_be_false doubts (report.UndefinedEnumValue _ _ _) = doubts.has_inputs
value_could_be_false doubts (report.UndefinedInputValue _ _ _) = doubts.has_inputs
value_could_be_false doubts (report.UndefinedArgument _ coordinate _) = is_cut_element doubts coordinate
value_could_be_false doubts (report.RequiredArgument _ coordinate _ _) = is_cut_element doubts coordinate
value_could_be_false doubts (report.RequiredField _ _ _ _) = doubts.has_inputs
value_could_be_false doubts (report.UnsupportedValueType _ _ _) = doubts.has_inputs
value_could_be_false doubts (report.IntCoercionError _) = doubts.has_inputs
value_could_be_false doubts _ = false

-- the same of what is reported
abbrev pub are_doubtful_of_schema : SchemaDoubts → Details → Bool
are_doubtful_of_schema doubts (details.Diagnostic broken) =
    could_be_false doubts broken || implementation_could_be_false doubts broken || value_could_be_false doubts broken
are_doubtful_of_schema doubts _ = false

-- the report could be false of the whole texts
abbrev pub is_doubtful_of_schema : SchemaDoubts → DiagnosticEntry → Bool
is_doubtful_of_schema doubts e = are_doubtful_of_schema doubts e.details

-- one of the reports could
abbrev pub has_doubtful_of_schema : SchemaDoubts → DiagnosticList → Bool
has_doubtful_of_schema doubts list = list_any (is_doubtful_of_schema doubts) (entries list)

-- the report could not
abbrev pub is_certain_of_schema : SchemaDoubts → DiagnosticEntry → Bool
is_certain_of_schema doubts e = not (is_doubtful_of_schema doubts e)
