-- The names of rules, as machines read them.
use Rattle.std.specs.Prelude.{ℕ, List, codes}
use Rattle.graphql_building_reports.specs.declared.rules.BuildingRule.{BuildingRule}
use Rattle.graphql_building_reports.specs.declared.rules.BuildingRule.TheVariants as rule
use Rattle.graphql_diagnostics.specs.Messages.{build_error_name, diagnostic_name}
use Rattle.graphql_diagnostics.specs.declared.details.Details.{Details}
use Rattle.graphql_diagnostics.specs.declared.details.Details.TheVariants.{Diagnostic, Build, RecursionLimit}

-- the name of a rule of building
abbrev pub building_name : BuildingRule → List ℕ
building_name rule.TypeSystemDefinition = codes "TypeSystemDefinition"
building_name rule.AmbiguousAnonymousOperation = codes "AmbiguousAnonymousOperation"
building_name (rule.OperationNameCollision name original) = codes "OperationNameCollision"
building_name (rule.FragmentNameCollision name original) = codes "FragmentNameCollision"
building_name (rule.UndefinedRootOperation operation) = codes "UndefinedRootOperation"
building_name (rule.UndefinedTypeInNamedFragmentTypeCondition type_name fragment_name) = codes "UndefinedTypeInNamedFragmentTypeCondition"
building_name (rule.UndefinedTypeInInlineFragmentTypeCondition type_name) = codes "UndefinedTypeInInlineFragmentTypeCondition"
building_name (rule.InvalidFragmentTarget fragment_name) = codes "InvalidFragmentTarget"
building_name (rule.UndefinedField type_name field_name) = codes "UndefinedField"
building_name (rule.SubselectionOnLeafType k type_name) = codes "SubselectionOnLeafType"
building_name (rule.ExecutableDefinition k) = codes "ExecutableDefinition"
building_name (rule.SchemaDefinitionCollision original) = codes "SchemaDefinitionCollision"
building_name (rule.DuplicateRootOperation operation original) = codes "DuplicateRootOperation"
building_name rule.BuiltInScalarTypeRedefinition = codes "BuiltInScalarTypeRedefinition"
building_name (rule.TypeDefinitionCollision name original) = codes "TypeDefinitionCollision"
building_name (rule.DirectiveDefinitionCollision name original) = codes "DirectiveDefinitionCollision"
building_name (rule.OrphanTypeExtension name) = codes "OrphanTypeExtension"
building_name (rule.TypeExtensionKindMismatch name extension definition original) = codes "TypeExtensionKindMismatch"
building_name (rule.BuiltInTypeExtension name) = codes "BuiltInTypeExtension"
building_name (rule.ImplementedNonInterface name definition original) = codes "ImplementedNonInterface"
building_name rule.OrphanSchemaExtension = codes "OrphanSchemaExtension"
building_name (rule.MemberNameCollision k type_name name original) = codes "MemberNameCollision"
building_name (rule.DuplicateImplementsInterface k type_name name original) = codes "DuplicateImplementsInterface"

-- the name of what a diagnostic is about
abbrev pub details_name : Details → List ℕ
details_name (Diagnostic broken) = diagnostic_name broken
details_name (Build error) = build_error_name error
details_name (RecursionLimit limit) = codes "RecursionLimit"
