-- Object values that give an input field more than once. Specification: 5.6.3 Input Object Field Uniqueness.
use Rattle.std.specs.Prelude.{◌≡◌, ℕ, List, ◌++◌, codes, Vec, map}
use Rattle.std.specs.declared.alloc.Global.{Global}
use Rattle.graphql_nodes.specs.Names.{AreDistinct, NameText}
use Rattle.graphql_nodes.specs.declared.nodes.Node.{Node}
use Rattle.graphql_documents.specs.declared.documents.executables.ExecutableDocument.{ExecutableDocument}
use Rattle.graphql_documents.specs.declared.documents.values.Value.{Value}
use Rattle.graphql_documents.specs.declared.documents.values.Value.TheVariants as literal
use Rattle.graphql_repetitions.specs.Repetitions.{Repeats}
use Rattle.graphql_input_rules.specs.ValuesWritten.{DocumentWrites}
use Rattle.graphql_input_rules.specs.declared.reports.InputFieldRepetition.{InputFieldRepetition}

-- the names of the input fields that an object value gives, in order
abbrev pub entry_names : List (NameText × Node Value) → List NameText
entry_names entries = map (λ e. e.0) entries

-- each object value so written gives its input fields under different names
abbrev pub FieldsAreUnique : (Value → Type 0) → Type 0
FieldsAreUnique IsWritten =
    (entries : Vec (NameText × Node Value) Global) → IsWritten (literal.Object entries) → AreDistinct (entry_names entries.items)

-- "There must be one and only one input field under each name": in each object value in the document
abbrev pub InputFieldsAreUnique : ExecutableDocument → Type 0
InputFieldsAreUnique document = FieldsAreUnique (DocumentWrites document)

-- the report says that one of the names is there again, at its place and with that of the first
pub record RepetitionReport (names : List NameText) (report : InputFieldRepetition) : Type 0 where
  pub first : NameText
  pub again : NameText
  pub repeats : Repeats names first again
  pub name_is : report.name ≡ again
  pub original_is : report.original ≡ first.location
  pub location_is : report.location ≡ again.location

-- it says so of the names of an object value so written
pub record FieldReport (IsWritten : Value → Type 0) (report : InputFieldRepetition) : Type 0 where
  pub entries : Vec (NameText × Node Value) Global
  pub written : IsWritten (literal.Object entries)
  pub repetition : RepetitionReport (entry_names entries.items) report

-- the report is true of the document
abbrev pub InputFieldReport : ExecutableDocument → InputFieldRepetition → Type 0
InputFieldReport document = FieldReport (DocumentWrites document)

-- the text of the message
abbrev pub repetition_message : NameText → List ℕ
repetition_message name = codes "there can be only one input field named `" ++ name.text ++ codes "`"
