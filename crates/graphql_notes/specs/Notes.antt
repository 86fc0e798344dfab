-- What the other places of a report say. Specification: 3 Type System; 5 Validation.
use Rattle.std.specs.Prelude.{ℕ, List, [], ◌∷◌, ◌++◌, Option, None, Some, codes, map}
use Rattle.graphql_building_reports.specs.Messages.{type_words}
use Rattle.graphql_building_reports.specs.declared.rules.BuildingRule.{BuildingRule}
use Rattle.graphql_building_reports.specs.declared.rules.BuildingRule.TheVariants as rule
use Rattle.graphql_coordinates.specs.Coordinates.{coordinate_text, field_argument_text, type_attribute_text}
use Rattle.graphql_coordinates.specs.declared.coordinates.FieldArgumentCoordinate.{FieldArgumentCoordinate}
use Rattle.graphql_diagnostics.specs.declared.build_errors.BuildError.{BuildError}
use Rattle.graphql_diagnostics.specs.declared.build_errors.BuildError.TheVariants as error
use Rattle.graphql_diagnostics.specs.declared.data.DiagnosticData.{DiagnosticData}
use Rattle.graphql_diagnostics.specs.declared.data.DiagnosticData.TheVariants as diagnostic
use Rattle.graphql_diagnostics.specs.declared.details.Details.{Details}
use Rattle.graphql_diagnostics.specs.declared.details.Details.TheVariants.{Diagnostic, Build, RecursionLimit}
use Rattle.graphql_documents.specs.TypeReferences.{type_text}
use Rattle.graphql_documents.specs.Values.{value_kind_text}
use Rattle.graphql_documents.specs.declared.documents.type_references.Type.{«Type»}
use Rattle.graphql_documents.specs.declared.documents.values.Value.{Value}
use Rattle.graphql_nodes.specs.Names.{NameText}
use Rattle.graphql_nodes.specs.OperationTypes.{operation_type_text}
use Rattle.graphql_nodes.specs.declared.nodes.Node.{Node}
use Rattle.graphql_nodes.specs.declared.spans.SourceSpan.{SourceSpan}
use Rattle.graphql_notes.specs.Cycles.{application_step, cycle_labels, input_field_step, spread_step}
use Rattle.graphql_notes.specs.Labels.{Label, label}

-- of something that is given or defined again, the first
abbrev pub first_here : Option SourceSpan → List Label
first_here place = label place (codes "first here") ∷ []

-- the definition of what has this text, in backquotes
abbrev pub defined : List ℕ → List ℕ
defined text = codes "`" ++ (text ++ codes "` is defined here")

-- the same with its type
abbrev pub defined_as : List ℕ → «Type» → List ℕ
defined_as text ty = codes "`" ++ (text ++ (codes "` of type `" ++ (type_text ty ++ codes "` is defined here")))

-- `T.f`, and then these words
abbrev pub field_then : NameText → NameText → List ℕ → List ℕ
field_then ty field words = ty.text ++ (codes "." ++ (field.text ++ words))

-- `T.f(a:)`, and then these words
abbrev pub argument_then : NameText → NameText → NameText → List ℕ → List ℕ
argument_then ty field argument words = field_then ty field (codes "(" ++ (argument.text ++ (codes ":)" ++ words)))

-- what ends the words on a definition, and on one with its type
abbrev pub is_defined : List ℕ
is_defined = codes "` is defined here"

abbrev pub of_type : «Type» → List ℕ
of_type ty = codes "` of type `" ++ (type_text ty ++ is_defined)

-- a spread of a fragment that is not in place: the definition of the fragment
abbrev pub fragment_label : Option NameText → NameText → Option SourceSpan → List Label
fragment_label None condition place = []
fragment_label (Some name) condition place =
    label place (codes "fragment `" ++ (name.text ++ (codes "` on `" ++ (condition.text ++ codes "` is defined here")))) ∷ []

-- a type without members, and its extensions
abbrev pub extended : NameText → Option SourceSpan → List (Option SourceSpan) → List Label
extended name place extensions = label place (defined name.text) ∷ map (λ extension. label extension (codes "extended here")) extensions

-- the other places of a rule of validation
abbrev pub diagnostic_labels : DiagnosticData → List Label
diagnostic_labels (diagnostic.UniqueVariable name original redefined) = first_here original
diagnostic_labels (diagnostic.UniqueArgument name original redefined) = first_here original
diagnostic_labels (diagnostic.UniqueInputValue name original redefined) = label redefined (codes "again here") ∷ []
diagnostic_labels (diagnostic.UndefinedArgument name coordinate definition) = label definition (defined (coordinate_text coordinate)) ∷ []
diagnostic_labels (diagnostic.UndefinedEnumValue value name definition) = label definition (codes "the enum `" ++ (name.text ++ codes "` is defined here")) ∷ []
diagnostic_labels (diagnostic.UndefinedInputValue value name definition) = label definition (codes "the input object `" ++ (name.text ++ codes "` is defined here")) ∷ []
diagnostic_labels (diagnostic.MissingInterfaceField name interface field implements definition) =
    label implements (codes "`" ++ (interface.text ++ codes "` is implemented here")) ∷ label definition (codes "`" ++ field_then interface field is_defined) ∷ []
diagnostic_labels (diagnostic.InvalidImplementationFieldType name interface field interface_type actual_type own definition) =
    label definition (codes "`" ++ field_then interface field (of_type interface_type)) ∷ []
diagnostic_labels (diagnostic.MissingInterfaceFieldArgument name interface field argument own definition) =
    label definition (codes "`" ++ argument_then interface field argument is_defined) ∷ []
diagnostic_labels (diagnostic.InvalidImplementationFieldArgumentType name interface field argument interface_type actual_type own definition) =
    label definition (codes "`" ++ argument_then interface field argument (of_type interface_type.value.value)) ∷ []
diagnostic_labels (diagnostic.ExtraRequiredImplementationFieldArgument name interface field argument own definition) =
    label definition (codes "`" ++ field_then interface field is_defined) ∷ []
diagnostic_labels (diagnostic.RequiredArgument name coordinate ty definition) = label definition (defined_as (coordinate_text coordinate) ty.value.value) ∷ []
diagnostic_labels (diagnostic.RequiredField name coordinate ty definition) = label definition (defined_as (type_attribute_text coordinate) ty.value.value) ∷ []
diagnostic_labels (diagnostic.TransitiveImplementedInterfaces name via missing place) =
    label place (codes "`" ++ (via.text ++ (codes "` implements `" ++ (missing.text ++ codes "` here")))) ∷ []
diagnostic_labels (diagnostic.OutputType name describe place) = label place (codes "this is " ++ describe.now) ∷ []
diagnostic_labels (diagnostic.InputType name describe place) = label place (codes "this is " ++ describe.now) ∷ []
diagnostic_labels (diagnostic.VariableInputType name ty describe) = label ty.location (codes "this is " ++ describe.now) ∷ []
diagnostic_labels (diagnostic.DuplicateRootOperationType name operation original other redefined) =
    label original (codes "the type of `" ++ (operation_type_text operation ++ codes "` here")) ∷ []
diagnostic_labels (diagnostic.UnsupportedLocation name place valid definition) = label definition (codes "`@" ++ (name.text ++ codes "` is defined here")) ∷ []
diagnostic_labels (diagnostic.UnsupportedValueType value ty definition) = label definition (codes "`" ++ (type_text ty.value.value ++ codes "` is expected here")) ∷ []
diagnostic_labels (diagnostic.UniqueDirective name original) = label original (codes "first applied here") ∷ []
diagnostic_labels (diagnostic.InvalidFragmentTarget name ty) = label ty.location (codes "`" ++ (ty.text ++ codes "` is no object, interface or union")) ∷ []
diagnostic_labels (diagnostic.InvalidFragmentSpread name condition type_name fragment definition) =
    fragment_label name condition fragment ++ label definition (defined type_name.text) ∷ []
diagnostic_labels (diagnostic.DisallowedVariableUsage variable variable_type argument argument_type definition own) =
    label definition (codes "`$" ++ (variable.text ++ of_type variable_type)) ∷ []
diagnostic_labels (diagnostic.RecursiveDirectiveDefinition name trace) = cycle_labels name (map application_step trace.items)
diagnostic_labels (diagnostic.RecursiveInputObjectDefinition name trace) = cycle_labels name (map input_field_step trace.items)
diagnostic_labels (diagnostic.RecursiveFragmentDefinition name head trace) = cycle_labels name (map spread_step trace.items)
diagnostic_labels (diagnostic.EmptyFieldSet name place extensions) = extended name place extensions.items
diagnostic_labels (diagnostic.EmptyValueSet name place extensions) = extended name place extensions.items
diagnostic_labels (diagnostic.EmptyMemberSet name place extensions) = extended name place extensions.items
diagnostic_labels (diagnostic.EmptyInputValueSet name place extensions) = extended name place extensions.items
diagnostic_labels _ = []

-- an argument of one of two fields that conflict: its value, if the field has one
abbrev pub side : FieldArgumentCoordinate → Option (Node Value) → Option SourceSpan → Label
side coordinate None field = label field (codes "`" ++ (field_argument_text coordinate ++ codes "` is not given here"))
side coordinate (Some value) field = label value.location (codes "`" ++ (field_argument_text coordinate ++ (codes "` is " ++ (value_kind_text value.value.value ++ codes " here"))))

-- the other places of what breaks a rule of subscriptions, of `@defer` or of merging fields
abbrev pub build_error_labels : BuildError → List Label
build_error_labels (error.SubscriptionUsesMultipleFields name fields) = map (λ (field : NameText). label field.location (codes "a root field")) fields.items
build_error_labels (error.DuplicateDeferLabel text original) = first_here original
build_error_labels (error.ConflictingFieldName alias place original conflicting_place conflicting) =
    label place (codes "`" ++ (alias.text ++ (codes "` is `" ++ (type_attribute_text original ++ codes "` here")))) ∷ []
build_error_labels (error.ConflictingFieldArgument alias place original value conflicting_place conflicting conflicting_value) =
    side original value place ∷ side conflicting conflicting_value conflicting_place ∷ []
build_error_labels (error.ConflictingFieldType alias place original ty conflicting_place conflicting conflicting_type) =
    label place (codes "`" ++ (alias.text ++ (codes "` is `" ++ (type_attribute_text original ++ (codes "` of type `" ++ (type_text ty ++ codes "` here")))))) ∷ []
build_error_labels _ = []

-- the other places of what a diagnostic is about
abbrev pub details_labels : Details → List Label
details_labels (Diagnostic broken) = diagnostic_labels broken
details_labels (Build e) = build_error_labels e
details_labels (RecursionLimit limit) = []

-- the other places of a rule that keeps a schema or a document from being built
abbrev pub building_labels : BuildingRule → List Label
building_labels (rule.OperationNameCollision name original) = first_here original
building_labels (rule.FragmentNameCollision name original) = first_here original
building_labels (rule.SchemaDefinitionCollision original) = first_here original
building_labels (rule.DuplicateRootOperation operation original) = first_here original
building_labels (rule.TypeDefinitionCollision name original) = first_here original
building_labels (rule.DirectiveDefinitionCollision name original) = first_here original
building_labels (rule.TypeExtensionKindMismatch name extension definition original) = label original (codes "defined as " ++ (type_words definition ++ codes " here")) ∷ []
building_labels (rule.ImplementedNonInterface name definition original) = label original (codes "defined as " ++ (type_words definition ++ codes " here")) ∷ []
building_labels (rule.MemberNameCollision kind type_name name original) = first_here original
building_labels (rule.DuplicateImplementsInterface kind type_name name original) = first_here original
building_labels _ = []
