-- What `==` answers of values, definitions of fields, fields and selections.
use Rattle.std.specs.Prelude.{Bool}
use Rattle.graphql_documents.specs.contracts.documents.definitions.FieldDefinitionPartialEq.TheImpl as field_definition_impl
use Rattle.graphql_documents.specs.contracts.documents.executables.FieldPartialEq.TheImpl as field_impl
use Rattle.graphql_documents.specs.contracts.documents.executables.SelectionPartialEq.TheImpl as selection_impl
use Rattle.graphql_documents.specs.contracts.documents.values.ValuePartialEq.TheImpl as value_impl
use Rattle.graphql_documents.specs.declared.documents.definitions.FieldDefinition.{FieldDefinition}
use Rattle.graphql_documents.specs.declared.documents.executables.Field.{Field}
use Rattle.graphql_documents.specs.declared.documents.executables.Selection.{Selection}
use Rattle.graphql_documents.specs.declared.documents.values.Value.{Value}

abbrev pub value_equality : Value → Value → Bool
value_equality = value_impl.ghosts.eq

abbrev pub field_definition_equality : FieldDefinition → FieldDefinition → Bool
field_definition_equality = field_definition_impl.ghosts.eq

abbrev pub field_equality : Field → Field → Bool
field_equality = field_impl.ghosts.eq

abbrev pub selection_equality : Selection → Selection → Bool
selection_equality = selection_impl.ghosts.eq
