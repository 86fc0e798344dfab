use Rattle.graphql_findings.proofs.notes.notes_of.Goals as goal

pub returns-in-Syntax : goal.returns-in-Syntax
returns-in-Syntax c = rw c.in-Syntax.is c.notes_of_error.ensures

pub returns-in-Building : goal.returns-in-Building
returns-in-Building c = rw c.in-Building.is c.notes_of_building.ensures

pub returns-in-Validation : goal.returns-in-Validation
returns-in-Validation c = rw c.in-Validation.is c.notes_of_details.ensures

pub returns-in-InputField : goal.returns-in-InputField
returns-in-InputField c = rw c.in-InputField.is c.notes_of_repetition.ensures

pub returns-in-Usage : goal.returns-in-Usage
returns-in-Usage c = rw c.in-Usage.is c.notes_of_misuse.ensures
