-- The texts of reports.
use Rattle.std.specs.Prelude.{ℕ, List, ◌++◌, Option, None, Some, codes}
use Rattle.std.specs.Option.{option_map}
use Rattle.graphql_nodes.specs.Names.{NameText}
use Rattle.graphql_documents.specs.TypeReferences.{type_text}
use Rattle.graphql_coordinates.specs.Coordinates.{field_text, type_attribute_text, coordinate_text}
use Rattle.graphql_documents.specs.Values.{value_kind_text}
use Rattle.graphql_nodes.specs.DirectiveLocations.{location_text}
use Rattle.graphql_diagnostics.specs.declared.names.NameOrAnon.{NameOrAnon}
use Rattle.graphql_diagnostics.specs.declared.data.DiagnosticData.{DiagnosticData}
use Rattle.graphql_diagnostics.specs.declared.data.DiagnosticData.TheVariants.{UniqueVariable, UniqueArgument, UniqueInputValue, UndefinedArgument, UndefinedDefinition, UndefinedDirective, UndefinedVariable, UndefinedFragment, UndefinedEnumValue, UndefinedInputValue, MissingInterfaceField, InvalidImplementationFieldType, MissingInterfaceFieldArgument, InvalidImplementationFieldArgumentType, ExtraRequiredImplementationFieldArgument, RequiredArgument, RequiredField, TransitiveImplementedInterfaces, OutputType, InputType, VariableInputType, QueryRootOperationType, UnusedVariable, RootOperationObjectType, DuplicateRootOperationType, UnionMemberObjectType, UnsupportedLocation, UnsupportedValueType, IntCoercionError, UniqueDirective, MissingSubselection, InvalidFragmentTarget, InvalidFragmentSpread, UnusedFragment, DisallowedVariableUsage, RecursiveDirectiveDefinition, RecursiveInterfaceDefinition, RecursiveInputObjectDefinition, RecursiveFragmentDefinition, DeeplyNestedType, RecursionError, EmptyFieldSet, EmptyValueSet, EmptyMemberSet, EmptyInputValueSet, ReservedName}
use Rattle.graphql_diagnostics.specs.declared.build_errors.BuildError.{BuildError}
use Rattle.graphql_diagnostics.specs.declared.build_errors.BuildError.TheVariants.{SubscriptionUsesIntrospection, SubscriptionUsesConditionalSelection, SubscriptionUsesMultipleFields, DeferLabelMustNotBeVariable, DuplicateDeferLabel, DeferOnRootMutationOrSubscriptionField, DeferInSubscriptionMustBeConditional, ConflictingFieldName, ConflictingFieldArgument, ConflictingFieldType}
use Rattle.graphql_diagnostics.specs.declared.details.Details.{Details}
use Rattle.graphql_diagnostics.specs.declared.details.Details.TheVariants.{Diagnostic, Build, RecursionLimit}

-- a prefix, a space and a name in backquotes, or the words for what has no name, where `text_of`
-- says what is printed for a name
abbrev pub name_or_anon_text : {T : Type 0} → (T → Option (List ℕ)) → NameOrAnon T → Option (List ℕ)
name_or_anon_text text_of n =
    elim n.name [
      | None ↦ Some n.if_none.now
      | Some name ↦ option_map (λ text. n.if_some_prefix.now ++ (codes " `" ++ (text ++ codes "`"))) (text_of name.now)
    ]

-- what a message calls a fragment of this name, or one without a name
abbrev pub fragment_text : Option NameText → List ℕ
fragment_text None = codes "inline fragment"
fragment_text (Some name) = codes "fragment `" ++ (name.text ++ codes "`")

-- the name of a broken rule
abbrev pub diagnostic_name : DiagnosticData → List ℕ
diagnostic_name (UniqueVariable name original_definition redefined_definition) = codes "UniqueVariable"
diagnostic_name (UniqueArgument name original_definition redefined_definition) = codes "UniqueArgument"
diagnostic_name (UniqueInputValue name original_definition redefined_definition) = codes "UniqueInputValue"
diagnostic_name (UndefinedArgument name coordinate definition_location) = codes "UndefinedArgument"
diagnostic_name (UndefinedDefinition name) = codes "UndefinedDefinition"
diagnostic_name (UndefinedDirective name) = codes "UndefinedDirective"
diagnostic_name (UndefinedVariable name) = codes "UndefinedVariable"
diagnostic_name (UndefinedFragment name) = codes "UndefinedFragment"
diagnostic_name (UndefinedEnumValue value definition definition_location) = codes "UndefinedEnumValue"
diagnostic_name (UndefinedInputValue value definition definition_location) = codes "UndefinedInputValue"
diagnostic_name (MissingInterfaceField name interface field implements_location field_location) = codes "MissingInterfaceField"
diagnostic_name (InvalidImplementationFieldType name interface field interface_type actual_type field_location interface_field_location) = codes "InvalidImplementationFieldType"
diagnostic_name (MissingInterfaceFieldArgument name interface field argument field_location interface_argument_location) = codes "MissingInterfaceFieldArgument"
diagnostic_name (InvalidImplementationFieldArgumentType name interface field argument interface_type actual_type argument_location interface_argument_location) = codes "InvalidImplementationFieldArgumentType"
diagnostic_name (ExtraRequiredImplementationFieldArgument name interface field argument argument_location interface_field_location) = codes "ExtraRequiredImplementationFieldArgument"
diagnostic_name (RequiredArgument name coordinate expected_type definition_location) = codes "RequiredArgument"
diagnostic_name (RequiredField name coordinate expected_type definition_location) = codes "RequiredField"
diagnostic_name (TransitiveImplementedInterfaces interface via_interface missing_interface transitive_interface_location) = codes "TransitiveImplementedInterfaces"
diagnostic_name (OutputType name describe_type type_location) = codes "OutputType"
diagnostic_name (InputType name describe_type type_location) = codes "InputType"
diagnostic_name (VariableInputType name ty describe_type) = codes "VariableInputType"
diagnostic_name QueryRootOperationType = codes "QueryRootOperationType"
diagnostic_name (UnusedVariable name) = codes "UnusedVariable"
diagnostic_name (RootOperationObjectType name describe_type) = codes "RootOperationObjectType"
diagnostic_name (DuplicateRootOperationType name original_operation original_definition redefined_operation redefined_definition) = codes "DuplicateRootOperationType"
diagnostic_name (UnionMemberObjectType name describe_type) = codes "UnionMemberObjectType"
diagnostic_name (UnsupportedLocation name location valid_locations definition_location) = codes "UnsupportedLocation"
diagnostic_name (UnsupportedValueType value ty definition_location) = codes "UnsupportedValueType"
diagnostic_name (IntCoercionError value) = codes "IntCoercionError"
diagnostic_name (UniqueDirective name original_application) = codes "UniqueDirective"
diagnostic_name (MissingSubselection coordinate output_type describe_type) = codes "MissingSubselection"
diagnostic_name (InvalidFragmentTarget name ty) = codes "InvalidFragmentTarget"
diagnostic_name (InvalidFragmentSpread name type_condition type_name fragment_location type_location) = codes "InvalidFragmentSpread"
diagnostic_name (UnusedFragment name) = codes "UnusedFragment"
diagnostic_name (DisallowedVariableUsage variable variable_type argument argument_type variable_location argument_location) = codes "DisallowedVariableUsage"
diagnostic_name (RecursiveDirectiveDefinition name trace) = codes "RecursiveDirectiveDefinition"
diagnostic_name (RecursiveInterfaceDefinition name) = codes "RecursiveInterfaceDefinition"
diagnostic_name (RecursiveInputObjectDefinition name trace) = codes "RecursiveInputObjectDefinition"
diagnostic_name (RecursiveFragmentDefinition name head_location trace) = codes "RecursiveFragmentDefinition"
diagnostic_name (DeeplyNestedType name describe_type) = codes "DeeplyNestedType"
diagnostic_name RecursionError = codes "RecursionError"
diagnostic_name (EmptyFieldSet type_name type_location extensions_locations) = codes "EmptyFieldSet"
diagnostic_name (EmptyValueSet type_name type_location extensions_locations) = codes "EmptyValueSet"
diagnostic_name (EmptyMemberSet type_name type_location extensions_locations) = codes "EmptyMemberSet"
diagnostic_name (EmptyInputValueSet type_name type_location extensions_locations) = codes "EmptyInputValueSet"
diagnostic_name (ReservedName name describe) = codes "ReservedName"

-- the text of a broken rule
abbrev pub message : DiagnosticData → List ℕ
message (UniqueVariable name original_definition redefined_definition) =
    codes "the variable `$" ++ (name.text ++ codes "` is declared multiple times")
message (UniqueArgument name original_definition redefined_definition) =
    codes "the argument `" ++ (name.text ++ codes "` is provided multiple times")
message (UniqueInputValue name original_definition redefined_definition) =
    codes "the value `" ++ (name.text ++ codes "` is defined multiple times")
message (UndefinedArgument name coordinate definition_location) =
    codes "the argument `" ++ (name.text ++ (codes "` is not supported by `" ++ (coordinate_text coordinate ++ codes "`")))
message (UndefinedDefinition name) =
    codes "cannot find type `" ++ (name.text ++ codes "` in this document")
message (UndefinedDirective name) =
    codes "cannot find directive `@" ++ (name.text ++ codes "` in this document")
message (UndefinedVariable name) =
    codes "variable `$" ++ (name.text ++ codes "` is not defined")
message (UndefinedFragment name) =
    codes "cannot find fragment `" ++ (name.text ++ codes "` in this document")
message (UndefinedEnumValue value definition definition_location) =
    codes "value `" ++ (value.text ++ (codes "` does not exist on `" ++ (definition.text ++ codes "`")))
message (UndefinedInputValue value definition definition_location) =
    codes "field `" ++ (value.text ++ (codes "` does not exist on `" ++ (definition.text ++ codes "`")))
message (MissingInterfaceField name interface field implements_location field_location) =
    codes "type `" ++ (name.text ++ (codes "` does not satisfy interface `" ++ (interface.text ++ (codes "`: missing field `" ++ (field.text ++ codes "`")))))
message (InvalidImplementationFieldType name interface field interface_type actual_type field_location interface_field_location) =
    codes "interface field `" ++ (field_text interface field ++ (codes "` expects type `" ++ (type_text interface_type ++ (codes "` but `" ++ (field_text name field ++ (codes "` of type `" ++ (type_text actual_type ++ codes "` is not a proper subtype")))))))
message (MissingInterfaceFieldArgument name interface field argument field_location interface_argument_location) =
    codes "interface field `" ++ (field_text interface field ++ (codes "` expects argument `" ++ (argument.text ++ (codes "` but `" ++ (field_text name field ++ codes "` does not provide it")))))
message (InvalidImplementationFieldArgumentType name interface field argument interface_type actual_type argument_location interface_argument_location) =
    codes "interface field `" ++ (field_text interface field ++ (codes "` expects argument `" ++ (argument.text ++ (codes "` of type `" ++ (type_text interface_type.value.value ++ (codes "` but `" ++ (field_text name field ++ (codes "` provides type `" ++ (type_text actual_type.value.value ++ codes "`")))))))))
message (ExtraRequiredImplementationFieldArgument name interface field argument argument_location interface_field_location) =
    codes "`" ++ (field_text name field ++ (codes "` has extra required argument `" ++ (argument.text ++ (codes "` not present in interface `" ++ (field_text interface field ++ codes "`")))))
message (RequiredArgument name coordinate expected_type definition_location) =
    codes "the required argument `" ++ (coordinate_text coordinate ++ codes "` is not provided")
message (RequiredField name coordinate expected_type definition_location) =
    codes "the required field `" ++ (type_attribute_text coordinate ++ codes "` is not provided")
message (TransitiveImplementedInterfaces interface via_interface missing_interface transitive_interface_location) =
    codes "interface `" ++ (interface.text ++ (codes "` declares that it implements `" ++ (via_interface.text ++ (codes "`, but to do so it must also implement `" ++ (missing_interface.text ++ codes "`")))))
message (OutputType name describe_type type_location) =
    codes "`" ++ (name.text ++ codes "` field must return an output type")
message (InputType name describe_type type_location) =
    codes "`" ++ (name.text ++ codes "` field must be of an input type")
message (VariableInputType name ty describe_type) =
    codes "`$" ++ (name.text ++ codes "` variable must be of an input type")
message QueryRootOperationType =
    codes "missing query root operation type in schema definition"
message (UnusedVariable name) =
    codes "unused variable: `$" ++ (name.text ++ codes "`")
message (RootOperationObjectType name describe_type) =
    codes "`" ++ (name.text ++ codes "` field must return an object type")
message (DuplicateRootOperationType name original_operation original_definition redefined_operation redefined_definition) =
    codes "the same type `" ++ (name.text ++ codes "` must not be used for multiple root operation types")
message (UnionMemberObjectType name describe_type) =
    codes "union member `" ++ (name.text ++ codes "` must be an object type")
message (UnsupportedLocation name location valid_locations definition_location) =
    name.text ++ (codes " directive is not supported for " ++ (location_text location ++ codes " location"))
message (UnsupportedValueType value ty definition_location) =
    codes "expected value of type " ++ (type_text ty.value.value ++ (codes ", found " ++ value_kind_text value.value.value))
message (IntCoercionError value) =
    codes "int cannot represent non 32-bit signed integer value"
message (UniqueDirective name original_application) =
    codes "non-repeatable directive " ++ (name.text ++ codes " can only be used once per location")
message (MissingSubselection coordinate output_type describe_type) =
    codes "interface, union and object types must have a subselection set"
message (InvalidFragmentTarget name ty) =
    fragment_text name ++ codes " must have a composite type in its type condition"
message (InvalidFragmentSpread name type_condition type_name fragment_location type_location) =
    fragment_text name ++ (codes " with type condition `" ++ (type_condition.text ++ (codes "` cannot be applied to `" ++ (type_name.text ++ codes "`"))))
message (UnusedFragment name) =
    codes "fragment `" ++ (name.text ++ codes "` must be used in an operation")
message (DisallowedVariableUsage variable variable_type argument argument_type variable_location argument_location) =
    codes "variable `$" ++ (variable.text ++ (codes "` of type `" ++ (type_text variable_type ++ (codes "` cannot be used for argument `" ++ (argument.text ++ (codes "` of type `" ++ (type_text argument_type ++ codes "`")))))))
message (RecursiveDirectiveDefinition name trace) =
    codes "`" ++ (name.text ++ codes "` directive definition cannot reference itself")
message (RecursiveInterfaceDefinition name) =
    codes "interface " ++ (name.text ++ codes " cannot implement itself")
message (RecursiveInputObjectDefinition name trace) =
    codes "`" ++ (name.text ++ codes "` input object cannot reference itself")
message (RecursiveFragmentDefinition name head_location trace) =
    codes "`" ++ (name.text ++ codes "` fragment cannot reference itself")
message (DeeplyNestedType name describe_type) =
    codes "`" ++ (name.text ++ codes "` contains too much nesting")
message RecursionError =
    codes "too much recursion"
message (EmptyFieldSet type_name type_location extensions_locations) =
    codes "`" ++ (type_name.text ++ codes "` has no fields")
message (EmptyValueSet type_name type_location extensions_locations) =
    codes "`" ++ (type_name.text ++ codes "` has no enum values")
message (EmptyMemberSet type_name type_location extensions_locations) =
    codes "`" ++ (type_name.text ++ codes "` has no member types")
message (EmptyInputValueSet type_name type_location extensions_locations) =
    codes "`" ++ (type_name.text ++ codes "` has no input values")
message (ReservedName name describe) =
    describe.now ++ (codes " cannot be named `" ++ (name.text ++ codes "` as names starting with two underscores are reserved"))

-- the name of a broken rule that has no text
abbrev pub build_error_name : BuildError → List ℕ
build_error_name (SubscriptionUsesIntrospection name field) = codes "SubscriptionUsesIntrospection"
build_error_name (SubscriptionUsesConditionalSelection name) = codes "SubscriptionUsesConditionalSelection"
build_error_name (SubscriptionUsesMultipleFields name fields) = codes "SubscriptionUsesMultipleFields"
build_error_name DeferLabelMustNotBeVariable = codes "DeferLabelMustNotBeVariable"
build_error_name (DuplicateDeferLabel label original) = codes "DuplicateDeferLabel"
build_error_name (DeferOnRootMutationOrSubscriptionField operation) = codes "DeferOnRootMutationOrSubscriptionField"
build_error_name DeferInSubscriptionMustBeConditional = codes "DeferInSubscriptionMustBeConditional"
build_error_name (ConflictingFieldName alias original_location original conflicting_location conflicting) = codes "ConflictingFieldName"
build_error_name (ConflictingFieldArgument alias original_location original original_value conflicting_location conflicting conflicting_value) = codes "ConflictingFieldArgument"
build_error_name (ConflictingFieldType alias original_location original original_type conflicting_location conflicting conflicting_type) = codes "ConflictingFieldType"

-- the text of what a diagnostic is about
abbrev pub details_text : Details → List ℕ
details_text (Diagnostic report) = message report
details_text (Build error) = build_error_name error
details_text (RecursionLimit error) = codes "RecursionLimitError"
