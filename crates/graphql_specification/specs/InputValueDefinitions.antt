-- Arguments of definitions and input fields: when they hold, and what a diagnostic says of one. Specification: 3.6.1 Field
-- Arguments, 3.10 Input Objects.
use Rattle.std.specs.Prelude.{List, [], Some, ◌≡◌, ◌⊎◌, Bool, None, IsTrue, All, map, ℕ, Option, IsFalse, Contains, ◌∷◌, ◌++◌, codes}
use Rattle.std.specs.Borrow.{Bor}
use Rattle.graphql_specification.specs.Directives.{ApplicationsHold, DirectivesReport}
use Rattle.graphql_nodes.specs.Names.{NameText, IsFreeName, AreDistinct}
use Rattle.graphql_documents.specs.Schemas.{NamesKind, type_definition, is_input_type, kind_text}
use Rattle.graphql_specification.specs.BuiltInScalars.{names_built_in_scalar}
use Rattle.graphql_documents.specs.TypeReferences.{inner_named_type}
use Rattle.graphql_documents.specs.Definitions.{definition_named}
use Rattle.graphql_nodes.specs.declared.nodes.Node.{Node}
use Rattle.graphql_documents.specs.declared.documents.directives.Directive.{Directive}
use Rattle.graphql_nodes.specs.declared.directive_locations.DirectiveLocation.{DirectiveLocation}
use Rattle.graphql_documents.specs.declared.documents.schemas.Schema.{Schema}
use Rattle.graphql_documents.specs.declared.documents.schemas.ExtendedType.{ExtendedType}
use Rattle.graphql_documents.specs.declared.documents.definitions.InputValueDefinition.{InputValueDefinition}
use Rattle.graphql_nodes.specs.declared.spans.SourceSpan.{SourceSpan}
use Rattle.graphql_diagnostics.specs.declared.data.DiagnosticData.{DiagnosticData}
use Rattle.graphql_diagnostics.specs.declared.data.DiagnosticData.TheVariants as report

-- the directives applied on a definition hold there; definitions have no variables
abbrev pub DirectivesHoldAt : Schema → DirectiveLocation → List (Node Directive) → Type 0
DirectivesHoldAt schema location directives = ApplicationsHold (Some schema) [] location directives

-- the name is that of a type of which the test is true, or of a built-in scalar that may still be added
abbrev pub NamesType : Schema → (ExtendedType → Bool) → NameText → Type 0
NamesType schema test name =
    NamesKind schema test name ⊎ ((type_definition schema name ≡ None) × IsTrue (names_built_in_scalar name.text))

-- an argument or an input field holds. Specification: 3.6.1 Field Arguments, 3.10 Input Objects
pub record InputValueDefinitionHolds (schema : Schema) (location : DirectiveLocation) (d : InputValueDefinition) : Type 0 where
  pub name : IsFreeName d.name
  pub directives : DirectivesHoldAt schema location d.directives.items
  pub ty : NamesType schema is_input_type (inner_named_type d.ty.value.value)

-- the arguments of a field or a directive, whose directives are at this location, hold, and their names are distinct
pub record ArgumentDefinitionsHold (schema : Schema) (location : DirectiveLocation) (arguments : List (Node InputValueDefinition)) : Type 0 where
  pub each : All (λ d. InputValueDefinitionHolds schema location d.value.value) arguments
  pub distinct : AreDistinct (map (λ d. d.value.value.name) arguments)

-- a name is reserved: reported at the name, with what has it
abbrev pub IsReserved : List ℕ → NameText → List ℕ → NameText → Option SourceSpan → Type 0
IsReserved expected name describe reported at =
    ¬ IsFreeName name × (describe ≡ expected) × (reported ≡ name) × (at ≡ name.location)

-- the diagnostic says that a name is reserved, of what this text describes
pub data NameReport (what : List ℕ) (reserved : NameText) : DiagnosticData → Option SourceSpan → Type 0 where
  of_reserved_name : {describe : Bor (List ℕ)} {name : NameText} {at : Option SourceSpan} →
      IsReserved what reserved describe.now name at → NameReport what reserved (report.ReservedName name describe) at

-- a name stands for no type, nor for a built-in scalar that may be added: reported at the name
abbrev pub IsUndefinedType : Schema → NameText → NameText → Option SourceSpan → Type 0
IsUndefinedType schema name reported at =
    (type_definition schema name ≡ None) × IsFalse (names_built_in_scalar name.text) × (reported ≡ name) × (at ≡ name.location)

-- the name is that of a type of another kind, which the diagnostic calls by its kind
abbrev pub IsOfOtherKind : Schema → (ExtendedType → Bool) → NameText → List ℕ → Type 0
IsOfOtherKind schema test name describe =
    (d : ExtendedType) × (type_definition schema name ≡ Some d) × IsFalse (test d) × (describe ≡ kind_text d)

-- an argument or input field is of no input type: reported there, with the place of the type
pub record HasNoInput (schema : Schema) (d : Node InputValueDefinition) (name : NameText) (describe : List ℕ) (type_location at : Option SourceSpan) : Type 0 where
  pub kind_is : IsOfOtherKind schema is_input_type (inner_named_type d.value.value.ty.value.value) describe
  pub name_is : name ≡ d.value.value.name
  pub type_location_is : type_location ≡ d.value.value.ty.location
  pub at_is : at ≡ d.location

-- the diagnostic names what is wrong with an argument or an input field, which this text describes
pub data InputValueReport (schema : Schema) (location : DirectiveLocation) (what : List ℕ) (d : Node InputValueDefinition) : DiagnosticData → Option SourceSpan → Type 0 where
  of_input_name : {describe : Bor (List ℕ)} {name : NameText} {at : Option SourceSpan} →
      IsReserved what d.value.value.name describe.now name at → InputValueReport schema location what d (report.ReservedName name describe) at
  of_input_directives : {r : DiagnosticData} {at : Option SourceSpan} →
      DirectivesReport (Some schema) [] location d.value.value.directives.items r at → InputValueReport schema location what d r at
  of_input_type : {describe : Bor (List ℕ)} {name : NameText} {type_location at : Option SourceSpan} →
      HasNoInput schema d name describe.now type_location at → InputValueReport schema location what d (report.InputType name describe type_location) at
  of_undefined_input_type : {name : NameText} {at : Option SourceSpan} →
      IsUndefinedType schema (inner_named_type d.value.value.ty.value.value) name at →
      InputValueReport schema location what d (report.UndefinedDefinition name) at

-- the diagnostic names what is wrong with one of these arguments or input fields
abbrev pub InputValuesReport : Schema → DirectiveLocation → List ℕ → List (Node InputValueDefinition) → DiagnosticData → Option SourceSpan → Type 0
InputValuesReport schema location what inputs r at =
    (d : Node InputValueDefinition) × Contains inputs d × InputValueReport schema location what d r at

-- an argument has the name of an earlier one: reported at the first
pub record RepeatsDefinition (arguments : List (Node InputValueDefinition)) (name : NameText) (original redefined at : Option SourceSpan) : Type 0 where
  pub before : List (Node InputValueDefinition)
  pub first : Node InputValueDefinition
  pub again : Node InputValueDefinition
  pub after : List (Node InputValueDefinition)
  pub split : arguments ≡ before ++ again ∷ after
  pub first_is : definition_named again.value.value.name before ≡ Some first
  pub name_is : name ≡ again.value.value.name
  pub original_is : original ≡ first.location
  pub redefined_is : redefined ≡ again.location
  pub at_is : at ≡ first.location

-- the diagnostic names what is wrong with the arguments of a field or a directive, whose directives are at this location
pub data ArgumentDefinitionsReport (schema : Schema) (location : DirectiveLocation) (arguments : List (Node InputValueDefinition)) : DiagnosticData → Option SourceSpan → Type 0 where
  of_argument : {d : Node InputValueDefinition} {r : DiagnosticData} {at : Option SourceSpan} →
      Contains arguments d → InputValueReport schema location (codes "an argument") d r at →
      ArgumentDefinitionsReport schema location arguments r at
  of_repeated_definition : {name : NameText} {original redefined at : Option SourceSpan} →
      RepeatsDefinition arguments name original redefined at →
      ArgumentDefinitionsReport schema location arguments (report.UniqueInputValue name original redefined) at
