-- Usages of variables that are allowed, and what is reported of the others. Specification: 5.8.5 All Variable Usages Are Allowed.
use Rattle.std.specs.Prelude.{◌≡◌, ◌⊎◌, ◌&&◌, ◌++◌, All, Any, IsTrue, List, MatchBool, Result, Some, codes, not, ℕ}
use Rattle.graphql_nodes.specs.Names.{NameText}
use Rattle.graphql_nodes.specs.Nodes.{SameNode}
use Rattle.graphql_nodes.specs.declared.nodes.Node.{Node}
use Rattle.graphql_documents.specs.Definitions.{variable_named}
use Rattle.graphql_documents.specs.Executables.{operations_of}
use Rattle.graphql_documents.specs.Selections.{fragments_of}
use Rattle.graphql_documents.specs.TypeReferences.{IsTypeCopy, is_assignable, is_non_null, nullable, type_text}
use Rattle.graphql_documents.specs.declared.documents.definitions.VariableDefinition.{VariableDefinition}
use Rattle.graphql_documents.specs.declared.documents.executables.ExecutableDocument.{ExecutableDocument}
use Rattle.graphql_documents.specs.declared.documents.executables.Operation.{Operation}
use Rattle.graphql_documents.specs.declared.documents.schemas.Schema.{Schema}
use Rattle.graphql_documents.specs.declared.documents.type_references.Type.{«Type»}
use Rattle.graphql_reporting.specs.Lists.{Checks}
use Rattle.graphql_specification.specs.VariableUsages.{HasNonNullDefault}
use Rattle.graphql_usage_rules.specs.Usages.{Location, Usage, UsedInScope}
use Rattle.graphql_reporting.specs.declared.lists.ReportList.{ReportList}
use Rattle.graphql_usage_rules.specs.declared.reports.VariableMisuse.{VariableMisuse}

-- IsVariableUsageAllowed: where null is expected nowhere but the variable may be null, one of the two has a default, for the variable one that is not
-- null, and the types are compatible apart from null; else they are compatible
abbrev pub IsAllowedAt : VariableDefinition → Location → Type 0
IsAllowedAt v location = MatchBool (is_non_null location.ty && not (is_non_null v.ty.value.value))
    ((HasNonNullDefault v ⊎ IsTrue location.has_default) × IsTrue (is_assignable v.ty.value.value (nullable location.ty)))
    (IsTrue (is_assignable v.ty.value.value location.ty))

-- each usage is allowed by the first definition of its name; one without a definition is another rule's business
abbrev pub UsagesAreAllowed : List (Node VariableDefinition) → (Usage → Type 0) → Type 0
UsagesAreAllowed variables IsUsed =
    (usage : Usage) → IsUsed usage → (v : Node VariableDefinition) → variable_named usage.name variables ≡ Some v → IsAllowedAt v.value.value usage.location

-- each usage in the scope of the operation is
abbrev pub OperationUsagesAreAllowed : Schema → ExecutableDocument → Operation → Type 0
OperationUsagesAreAllowed schema document o = UsagesAreAllowed o.variables.items (UsedInScope schema (fragments_of document) o)

-- "All Variable Usages Are Allowed": in each operation of the document
abbrev pub VariableUsagesAreAllowed : Schema → ExecutableDocument → Type 0
VariableUsagesAreAllowed schema document = All (λ o. OperationUsagesAreAllowed schema document o.value.value) (operations_of document)

-- the report says so of one that is not allowed: with both types, the place of the variable's definition and that of the usage
pub record MisuseReport (variables : List (Node VariableDefinition)) (IsUsed : Usage → Type 0) (report : VariableMisuse) : Type 0 where
  pub usage : Usage
  pub used : IsUsed usage
  pub v : Node VariableDefinition
  pub is_variable : variable_named usage.name variables ≡ Some v
  pub disallowed : ¬ IsAllowedAt v.value.value usage.location
  pub name_is : report.name ≡ usage.name
  pub variable_type_is : SameNode v.value.value.ty report.variable_type
  pub location_type_is : IsTypeCopy usage.location.ty report.location_type
  pub definition_location_is : report.definition_location ≡ v.location
  pub location_is : report.location ≡ usage.place

-- it is one in the scope of the operation
abbrev pub OperationMisuseReport : Schema → ExecutableDocument → Operation → VariableMisuse → Type 0
OperationMisuseReport schema document o report = MisuseReport o.variables.items (UsedInScope schema (fragments_of document) o) report

-- and of one of the operations of the document
abbrev pub DocumentMisuseReport : Schema → ExecutableDocument → VariableMisuse → Type 0
DocumentMisuseReport schema document report = Any (λ o. OperationMisuseReport schema document o.value.value report) (operations_of document)

-- a call that checks these usages
abbrev pub ChecksUsages : {T E : Type 0} → Result T E → List (Node VariableDefinition) → (Usage → Type 0) → ReportList VariableMisuse → ReportList VariableMisuse → Type 0
ChecksUsages result variables IsUsed old new = Checks result (UsagesAreAllowed variables IsUsed) (MisuseReport variables IsUsed) old new

-- the text of the message
abbrev pub misuse_message : NameText → «Type» → «Type» → List ℕ
misuse_message name variable_type location_type =
    codes "variable `$" ++ (name.text ++ (codes "` of type `" ++ (type_text variable_type ++ (codes "` used in position expecting type `" ++ (type_text location_type ++ codes "`")))))
