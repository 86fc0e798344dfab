-- Input objects that require themselves: the rule, its diagnostic and its limit. Specification: 3.10 Input Objects, Circular
-- References.
use Rattle.std.specs.Prelude.{Option, None, Some, Contains, IsSome, map, List, ℕ, ◌≡◌, reverse, Vec, ◌+◌, codes}
use Rattle.std.specs.Option.{option_and_then}
use Rattle.std.specs.List.{AllZip}
use Rattle.std.specs.declared.alloc.Global.{Global}
use Rattle.std.specs.Borrow.{Bor}
use Rattle.graphql_nodes.specs.Names.{NameText, SameName}
use Rattle.graphql_documents.specs.Schemas.{type_definition, as_input_object}
use Rattle.graphql_documents.specs.TypeReferences.{inner_named_type}
use Rattle.graphql_documents.specs.Paths.{IsCycle, HasNoCycle, HasLongPath}
use Rattle.graphql_nodes.specs.Nodes.{SameNode}
use Rattle.graphql_documents.specs.declared.documents.type_references.Type.{«Type»}
use Rattle.graphql_documents.specs.declared.documents.type_references.Type.TheVariants.{NonNullNamed}
use Rattle.graphql_nodes.specs.declared.nodes.Node.{Node}
use Rattle.graphql_documents.specs.declared.documents.definitions.InputValueDefinition.{InputValueDefinition}
use Rattle.graphql_documents.specs.declared.documents.schemas.InputObjectType.{InputObjectType}
use Rattle.graphql_documents.specs.declared.documents.schemas.Schema.{Schema}
use Rattle.graphql_nodes.specs.declared.spans.SourceSpan.{SourceSpan}
use Rattle.graphql_diagnostics.specs.declared.data.DiagnosticData.{DiagnosticData}
use Rattle.graphql_diagnostics.specs.declared.details.Details.{Details}
use Rattle.graphql_diagnostics.specs.declared.data.DiagnosticData.TheVariants as report
use Rattle.graphql_diagnostics.specs.declared.details.Details.TheVariants as details

-- the name of a non-null type that is no list
abbrev pub required_name : «Type» → Option NameText
required_name (NonNullNamed name) = Some name
required_name _ = None

-- the input object of which a field must hold one
abbrev pub input_object_of : Schema → Node InputValueDefinition → Option (Node InputObjectType)
input_object_of schema field =
    option_and_then as_input_object (option_and_then (type_definition schema) (required_name field.value.value.ty.value.value))

-- a field of the input object must hold an input object
pub record RequiresBy (schema : Schema) (d : Node InputObjectType) (field : Node InputValueDefinition) : Type 0 where
  pub stands : Contains (map (λ entry. entry.1.node) d.value.value.fields.entries) field
  pub requires : IsSome (input_object_of schema field)

-- the field is of the input object's own name
abbrev pub RequiresBack : Node InputObjectType → Node InputValueDefinition → Type 0
RequiresBack d field = SameName (inner_named_type field.value.value.ty.value.value) d.value.value.name

-- the chain of required fields leads from the input object back to it
abbrev pub IsInputObjectCycle : Schema → Node InputObjectType → List (Node InputValueDefinition) → Type 0
IsInputObjectCycle schema d path = IsCycle (RequiresBy schema) (input_object_of schema) RequiresBack d path

-- no chain of required fields leads from the input object back to it
abbrev pub InputObjectHasNoCycle : Schema → Node InputObjectType → Type 0
InputObjectHasNoCycle schema d = HasNoCycle (RequiresBy schema) (input_object_of schema) RequiresBack d

-- a chain of required fields goes through this many input objects, or more, its first counted
abbrev pub HasLongRequiredPath : Schema → Node InputObjectType → ℕ → Type 0
HasLongRequiredPath schema d count =
    HasLongPath (RequiresBy schema) (input_object_of schema) (λ field. inner_named_type field.value.value.ty.value.value) d.value.value.name d count

-- a chain of required fields leads back to the input object: reported there, last field first
pub record RequiresItself (schema : Schema) (d : Node InputObjectType) (name : NameText) (trace : List (Node InputValueDefinition)) (at : Option SourceSpan) : Type 0 where
  pub path : List (Node InputValueDefinition)
  pub is_cycle : IsInputObjectCycle schema d path
  pub trace_is : AllZip SameNode (reverse path) trace
  pub name_is : name ≡ d.value.value.name
  pub at_is : at ≡ d.location

-- the diagnostic says that an input object requires itself
pub data InputObjectCycleReport (schema : Schema) (d : Node InputObjectType) : DiagnosticData → Option SourceSpan → Type 0 where
  required_fields_lead_back : {name : NameText} {trace : Vec (Node InputValueDefinition) Global} {at : Option SourceSpan} →
      RequiresItself schema d name trace.items at → InputObjectCycleReport schema d (report.RecursiveInputObjectDefinition name trace) at

abbrev pub input_object_depth_limit : ℕ
input_object_depth_limit = 32

-- the same of an input object: reported there
pub record InputObjectNestsTooDeep (schema : Schema) (d : Node InputObjectType) (name : NameText) (describe : List ℕ) (at : Option SourceSpan) : Type 0 where
  pub long : HasLongRequiredPath schema d (input_object_depth_limit + 1)
  pub name_is : name ≡ d.value.value.name
  pub describe_is : describe ≡ codes "input object"
  pub at_is : at ≡ d.location

-- a diagnostic of a limit is true of an input object: it nests too deep
pub data InputObjectLimit (schema : Schema) (d : Node InputObjectType) : Details → Option SourceSpan → Type 0 where
  required_fields_nest : {name : NameText} {describe : Bor (List ℕ)} {at : Option SourceSpan} →
      InputObjectNestsTooDeep schema d name describe.now at →
      InputObjectLimit schema d (details.Diagnostic (report.DeeplyNestedType name describe)) at
