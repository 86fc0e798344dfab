use Rattle.std.proofs.Common.{rules}
use Rattle.graphql_diagnostics.proofs.data.DiagnosticDataDisplay.fmt.Goals as goal

pub returns-in-MissingInterfaceField-clause-writes : goal.returns-in-MissingInterfaceField-clause-writes
returns-in-MissingInterfaceField-clause-writes g c = rw c.in-MissingInterfaceField.is (search rules)

pub returns-in-InvalidImplementationFieldType-clause-writes : goal.returns-in-InvalidImplementationFieldType-clause-writes
returns-in-InvalidImplementationFieldType-clause-writes g c = rw c.in-InvalidImplementationFieldType.is (search rules)

pub returns-in-MissingInterfaceFieldArgument-clause-writes : goal.returns-in-MissingInterfaceFieldArgument-clause-writes
returns-in-MissingInterfaceFieldArgument-clause-writes g c = rw c.in-MissingInterfaceFieldArgument.is (search rules)

pub returns-in-InvalidImplementationFieldArgumentType-clause-writes : goal.returns-in-InvalidImplementationFieldArgumentType-clause-writes
returns-in-InvalidImplementationFieldArgumentType-clause-writes g c = rw c.in-InvalidImplementationFieldArgumentType.is (search rules)

pub returns-in-TransitiveImplementedInterfaces-clause-writes : goal.returns-in-TransitiveImplementedInterfaces-clause-writes
returns-in-TransitiveImplementedInterfaces-clause-writes g c = rw c.in-TransitiveImplementedInterfaces.is (search rules)

pub returns-in-OutputType-clause-writes : goal.returns-in-OutputType-clause-writes
returns-in-OutputType-clause-writes g c = rw c.in-OutputType.is (search rules)

pub returns-in-InputType-clause-writes : goal.returns-in-InputType-clause-writes
returns-in-InputType-clause-writes g c = rw c.in-InputType.is (search rules)

pub returns-in-VariableInputType-clause-writes : goal.returns-in-VariableInputType-clause-writes
returns-in-VariableInputType-clause-writes g c = rw c.in-VariableInputType.is (search rules)

pub returns-in-RootOperationObjectType-clause-writes : goal.returns-in-RootOperationObjectType-clause-writes
returns-in-RootOperationObjectType-clause-writes g c = rw c.in-RootOperationObjectType.is (search rules)

pub returns-in-DuplicateRootOperationType-clause-writes : goal.returns-in-DuplicateRootOperationType-clause-writes
returns-in-DuplicateRootOperationType-clause-writes g c = rw c.in-DuplicateRootOperationType.is (search rules)

pub returns-in-UnionMemberObjectType-clause-writes : goal.returns-in-UnionMemberObjectType-clause-writes
returns-in-UnionMemberObjectType-clause-writes g c = rw c.in-UnionMemberObjectType.is (search rules)

pub returns-in-UnsupportedLocation-clause-writes : goal.returns-in-UnsupportedLocation-clause-writes
returns-in-UnsupportedLocation-clause-writes g c = rw c.in-UnsupportedLocation.is (search rules)

pub returns-in-InvalidFragmentSpread-clause-writes : goal.returns-in-InvalidFragmentSpread-clause-writes
returns-in-InvalidFragmentSpread-clause-writes g c = rw c.in-InvalidFragmentSpread.is (search rules)

pub returns-in-RecursiveDirectiveDefinition-clause-writes : goal.returns-in-RecursiveDirectiveDefinition-clause-writes
returns-in-RecursiveDirectiveDefinition-clause-writes g c = rw c.in-RecursiveDirectiveDefinition.is (search rules)

pub returns-in-RecursiveInterfaceDefinition-clause-writes : goal.returns-in-RecursiveInterfaceDefinition-clause-writes
returns-in-RecursiveInterfaceDefinition-clause-writes g c = rw c.in-RecursiveInterfaceDefinition.is (search rules)

pub returns-in-RecursiveInputObjectDefinition-clause-writes : goal.returns-in-RecursiveInputObjectDefinition-clause-writes
returns-in-RecursiveInputObjectDefinition-clause-writes g c = rw c.in-RecursiveInputObjectDefinition.is (search rules)

pub returns-in-RecursiveFragmentDefinition-clause-writes : goal.returns-in-RecursiveFragmentDefinition-clause-writes
returns-in-RecursiveFragmentDefinition-clause-writes g c = rw c.in-RecursiveFragmentDefinition.is (search rules)

pub returns-in-EmptyFieldSet-clause-writes : goal.returns-in-EmptyFieldSet-clause-writes
returns-in-EmptyFieldSet-clause-writes g c = rw c.in-EmptyFieldSet.is (search rules)

pub returns-in-EmptyValueSet-clause-writes : goal.returns-in-EmptyValueSet-clause-writes
returns-in-EmptyValueSet-clause-writes g c = rw c.in-EmptyValueSet.is (search rules)

pub returns-in-EmptyInputValueSet-clause-writes : goal.returns-in-EmptyInputValueSet-clause-writes
returns-in-EmptyInputValueSet-clause-writes g c = rw c.in-EmptyInputValueSet.is (search rules)
