use Rattle.graphql_notes.proofs.details.notes_of_diagnostic.Goals as goal

pub returns-in-MissingInterfaceField : goal.returns-in-MissingInterfaceField
returns-in-MissingInterfaceField c = rw c.in-MissingInterfaceField.is c.field_missing.ensures

pub returns-in-InvalidImplementationFieldType : goal.returns-in-InvalidImplementationFieldType
returns-in-InvalidImplementationFieldType c = rw c.in-InvalidImplementationFieldType.is c.typed_field_defined.ensures

pub returns-in-MissingInterfaceFieldArgument : goal.returns-in-MissingInterfaceFieldArgument
returns-in-MissingInterfaceFieldArgument c = rw c.in-MissingInterfaceFieldArgument.is c.argument_defined.ensures

pub returns-in-InvalidImplementationFieldArgumentType : goal.returns-in-InvalidImplementationFieldArgumentType
returns-in-InvalidImplementationFieldArgumentType c = rw c.in-InvalidImplementationFieldArgumentType.is c.typed_argument_defined.ensures

pub returns-in-ExtraRequiredImplementationFieldArgument : goal.returns-in-ExtraRequiredImplementationFieldArgument
returns-in-ExtraRequiredImplementationFieldArgument c = rw c.in-ExtraRequiredImplementationFieldArgument.is c.field_defined.ensures

pub returns-in-RequiredArgument : goal.returns-in-RequiredArgument
returns-in-RequiredArgument c = rw c.in-RequiredArgument.is c.argument_of_type.ensures

pub returns-in-RequiredField : goal.returns-in-RequiredField
returns-in-RequiredField c = rw c.in-RequiredField.is c.input_field_of_type.ensures

pub returns-in-TransitiveImplementedInterfaces : goal.returns-in-TransitiveImplementedInterfaces
returns-in-TransitiveImplementedInterfaces c = rw c.in-TransitiveImplementedInterfaces.is c.implements.ensures

pub returns-in-UnsupportedLocation : goal.returns-in-UnsupportedLocation
returns-in-UnsupportedLocation c = rw c.in-UnsupportedLocation.is c.directive_defined.ensures

pub returns-in-UnsupportedValueType : goal.returns-in-UnsupportedValueType
returns-in-UnsupportedValueType c = rw c.in-UnsupportedValueType.is c.type_expected.ensures

pub returns-in-InvalidFragmentSpread : goal.returns-in-InvalidFragmentSpread
returns-in-InvalidFragmentSpread c = rw c.in-InvalidFragmentSpread.is c.spread_between.ensures

pub returns-in-DisallowedVariableUsage : goal.returns-in-DisallowedVariableUsage
returns-in-DisallowedVariableUsage c = rw c.in-DisallowedVariableUsage.is c.variable_defined.ensures
