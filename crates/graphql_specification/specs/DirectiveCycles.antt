-- Directive definitions that refer to themselves: the rule, its diagnostic and its limit. Specification: 3.13 Directives.
use Rattle.std.specs.Prelude.{List, [], ◌∷◌, ◌++◌, flat_map, map, Contains, Option, option_map, None, Some, ℕ, filter_map, ◌≡◌, reverse, Vec, ◌+◌, ◌⊎◌, codes}
use Rattle.std.specs.List.{AllZip}
use Rattle.std.specs.declared.alloc.Global.{Global}
use Rattle.std.specs.Borrow.{Bor}
use Rattle.graphql_nodes.specs.Names.{NameText, SameName, HasDifferentNames}
use Rattle.graphql_documents.specs.TypeReferences.{inner_named_type}
use Rattle.graphql_documents.specs.Schemas.{type_definition}
use Rattle.graphql_documents.specs.Directives.{directive_definition, directives_of_type}
use Rattle.graphql_documents.specs.Paths.{IsCycle, HasNoCycle, Path}
use Rattle.graphql_nodes.specs.Nodes.{SameNode}
use Rattle.graphql_nodes.specs.Spans.{recompose}
use Rattle.graphql_nodes.specs.declared.nodes.Node.{Node}
use Rattle.graphql_documents.specs.declared.documents.definitions.DirectiveDefinition.{DirectiveDefinition}
use Rattle.graphql_documents.specs.declared.documents.schemas.ExtendedType.{ExtendedType}
use Rattle.graphql_documents.specs.declared.documents.directives.Directive.{Directive}
use Rattle.graphql_documents.specs.declared.documents.definitions.InputValueDefinition.{InputValueDefinition}
use Rattle.graphql_documents.specs.declared.documents.schemas.ExtendedType.TheVariants.{Enum, InputObject}
use Rattle.graphql_documents.specs.declared.documents.schemas.Schema.{Schema}
use Rattle.graphql_nodes.specs.declared.spans.SourceSpan.{SourceSpan}
use Rattle.graphql_diagnostics.specs.declared.data.DiagnosticData.{DiagnosticData}
use Rattle.graphql_diagnostics.specs.declared.details.Details.{Details}
use Rattle.graphql_diagnostics.specs.declared.data.DiagnosticData.TheVariants as report
use Rattle.graphql_diagnostics.specs.declared.details.Details.TheVariants as details

-- what a directive definition reaches: directive definitions and types
pub data SchemaPart : Type 0 where
  directive_part : Node DirectiveDefinition → SchemaPart
  type_part : ExtendedType → SchemaPart

-- how: by an application of a directive, or by the name of a type
pub data SchemaReference : Type 0 where
  by_directive : Node Directive → SchemaReference
  by_type : NameText → SchemaReference

-- the references of arguments or input fields: their directives and their types
abbrev pub input_references : List (Node InputValueDefinition) → List SchemaReference
input_references inputs =
    flat_map (λ d. map by_directive d.value.value.directives.items ++ by_type (inner_named_type d.value.value.ty.value.value) ∷ []) inputs

-- the references of the values of an enum, and of the fields of an input object
abbrev pub member_references : ExtendedType → List SchemaReference
member_references (Enum d) =
    flat_map (λ entry. map by_directive entry.1.node.value.value.directives.items) d.value.value.values.entries
member_references (InputObject d) = input_references (map (λ entry. entry.1.node) d.value.value.fields.entries)
member_references _ = []

-- the references written in a definition
abbrev pub references_of : SchemaPart → List SchemaReference
references_of (directive_part d) = input_references d.value.value.arguments.items
references_of (type_part d) = map by_directive (directives_of_type d) ++ member_references d

abbrev pub PartRefersBy : SchemaPart → SchemaReference → Type 0
PartRefersBy part reference = Contains (references_of part) reference

-- the definition to which a reference leads, if there is one
abbrev pub part_of : Schema → SchemaReference → Option SchemaPart
part_of schema (by_directive d) = option_map directive_part (directive_definition schema d.value.value.name)
part_of schema (by_type name) = option_map type_part (type_definition schema name)

-- the reference applies the directive; a type of its name does not
abbrev pub AppliesBack : SchemaPart → SchemaReference → Type 0
AppliesBack (directive_part d) (by_directive r) = SameName r.value.value.name d.value.value.name
AppliesBack _ _ = ⊥

-- the path of references leads from the directive definition back to it
abbrev pub IsDirectiveCycle : Schema → Node DirectiveDefinition → List SchemaReference → Type 0
IsDirectiveCycle schema d path = IsCycle PartRefersBy (part_of schema) AppliesBack (directive_part d) path

-- no path of references leads from the directive definition back to it
abbrev pub DirectiveHasNoCycle : Schema → Node DirectiveDefinition → Type 0
DirectiveHasNoCycle schema d = HasNoCycle PartRefersBy (part_of schema) AppliesBack (directive_part d)

-- the applications of directives on a path
abbrev pub applied : SchemaReference → Option (Node Directive)
applied (by_directive d) = Some d
applied (by_type name) = None

-- the types named on a path
abbrev pub named : SchemaReference → Option NameText
named (by_directive d) = None
named (by_type name) = Some name

-- a path of references from the directive definition goes through this many directives, or more, its
-- own counted
abbrev pub HasLongDirectivePath : Schema → Node DirectiveDefinition → ℕ → Type 0
HasLongDirectivePath schema d count =
    (path : List SchemaReference) × Path PartRefersBy (part_of schema) (directive_part d) path ×
    HasDifferentNames count (d.value.value.name ∷ map (λ r. r.value.value.name) (filter_map applied path))

-- a path of references from the directive definition goes through this many types, or more
abbrev pub HasLongTypePath : Schema → Node DirectiveDefinition → ℕ → Type 0
HasLongTypePath schema d count =
    (path : List SchemaReference) × Path PartRefersBy (part_of schema) (directive_part d) path ×
    HasDifferentNames count (filter_map named path)

-- a directive definition leads back to itself: reported at its head, with the applications on the way,
-- last first
pub record AppliesItself (schema : Schema) (d : Node DirectiveDefinition) (name : NameText) (trace : List (Node Directive)) (at : Option SourceSpan) : Type 0 where
  pub path : List SchemaReference
  pub is_cycle : IsDirectiveCycle schema d path
  pub trace_is : AllZip SameNode (reverse (filter_map applied path)) trace
  pub name_is : name ≡ d.value.value.name
  pub at_is : at ≡ recompose d.location d.value.value.name.location

-- the diagnostic says that a directive definition leads back to itself
pub data DirectiveCycleReport (schema : Schema) (d : Node DirectiveDefinition) : DiagnosticData → Option SourceSpan → Type 0 where
  references_lead_back : {name : NameText} {trace : Vec (Node Directive) Global} {at : Option SourceSpan} →
      AppliesItself schema d name trace.items at → DirectiveCycleReport schema d (report.RecursiveDirectiveDefinition name trace) at

abbrev pub directive_depth_limit : ℕ
directive_depth_limit = 32

-- the same of a directive definition: reported at its head
pub record DirectiveNestsTooDeep (schema : Schema) (d : Node DirectiveDefinition) (name : NameText) (describe : List ℕ) (at : Option SourceSpan) : Type 0 where
  pub long : HasLongDirectivePath schema d (directive_depth_limit + 1) ⊎ HasLongTypePath schema d (directive_depth_limit + 1)
  pub name_is : name ≡ d.value.value.name
  pub describe_is : describe ≡ codes "directive"
  pub at_is : at ≡ recompose d.location d.value.value.name.location

-- the same of a directive definition
pub data DirectiveLimit (schema : Schema) (d : Node DirectiveDefinition) : Details → Option SourceSpan → Type 0 where
  references_nest : {name : NameText} {describe : Bor (List ℕ)} {at : Option SourceSpan} →
      DirectiveNestsTooDeep schema d name describe.now at →
      DirectiveLimit schema d (details.Diagnostic (report.DeeplyNestedType name describe)) at

-- the same of one of the directive definitions of a schema
abbrev pub DirectivesLimit : Schema → Details → Option SourceSpan → Type 0
DirectivesLimit schema said at =
    (entry : NameText × Node DirectiveDefinition) × Contains schema.directive_definitions.entries entry × DirectiveLimit schema entry.1 said at
