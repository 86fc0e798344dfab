-- What reports on building say is left out of the texts of a schema. Specification: 3.3 Schema, 3.4 Types, 3.13 Directives
use Rattle.std.specs.Prelude.{◌≡◌, ◌||◌, Bool, List, None, Option, Some, false, is_some, map, true, ℕ}
use Rattle.std.specs.BTreeSet.{BTreeSet, contains_text}
use Rattle.std.specs.List.{list_any}
use Rattle.std.specs.Str.{bytes_eq}
use Rattle.std.specs.declared.alloc.Global.{Global}
use Rattle.std.specs.declared.string.String.{String}
use Rattle.graphql_building_reports.specs.Checks.{reports_of}
use Rattle.graphql_building_reports.specs.declared.kinds.TypeKind.TheVariants as kind
use Rattle.graphql_building_reports.specs.declared.lists.BuildingReport.{BuildingReport}
use Rattle.graphql_building_reports.specs.declared.lists.BuildingReportList.{BuildingReportList}
use Rattle.graphql_building_reports.specs.declared.rules.BuildingRule.TheVariants as rule
use Rattle.graphql_building_reports.specs.declared.rules.BuildingRule.{BuildingRule}
use Rattle.graphql_nodes.specs.Names.{NameText}
use Rattle.graphql_kept_reports.specs.declared.schema_doubts.SchemaDoubts.{SchemaDoubts}

-- the rules that these reports say are broken
abbrev pub rules_of : BuildingReportList → List BuildingRule
rules_of list = map (λ (report : BuildingReport). report.rule) (reports_of list)

-- the type of which a definition or an extension is left out, or that is left out where it is implemented
abbrev pub cut_type : BuildingRule → Option NameText
cut_type (rule.TypeDefinitionCollision name _) = Some name
cut_type (rule.OrphanTypeExtension name) = Some name
cut_type (rule.TypeExtensionKindMismatch name _ _ _) = Some name
cut_type (rule.BuiltInTypeExtension name) = Some name
cut_type (rule.ImplementedNonInterface name _ _) = Some name
cut_type _ = None

-- the object, interface or input object of which a field is left out
abbrev pub cut_fields : BuildingRule → Option NameText
cut_fields (rule.MemberNameCollision kind.Object name _ _) = Some name
cut_fields (rule.MemberNameCollision kind.Interface name _ _) = Some name
cut_fields (rule.MemberNameCollision kind.InputObject name _ _) = Some name
cut_fields _ = None

-- the directive of which a definition is left out
abbrev pub cut_directive : BuildingRule → Option NameText
cut_directive (rule.DirectiveDefinitionCollision name _) = Some name
cut_directive _ = None

-- something of a type or of a directive is left out, or a field of an input object
abbrev pub cuts_input : BuildingRule → Bool
cuts_input (rule.TypeDefinitionCollision _ _) = true
cuts_input (rule.OrphanTypeExtension _) = true
cuts_input (rule.TypeExtensionKindMismatch _ _ _ _) = true
cuts_input (rule.BuiltInTypeExtension _) = true
cuts_input (rule.ImplementedNonInterface _ _ _) = true
cuts_input (rule.DirectiveDefinitionCollision _ _) = true
cuts_input (rule.MemberNameCollision kind.InputObject _ _ _) = true
cuts_input _ = false

-- something of the schema's definition is left out
abbrev pub cuts_schema : BuildingRule → Bool
cuts_schema (rule.SchemaDefinitionCollision _) = true
cuts_schema rule.OrphanSchemaExtension = true
cuts_schema (rule.DuplicateRootOperation _ _) = true
cuts_schema _ = false

-- the name is this text
abbrev pub is_named : List ℕ → Option NameText → Bool
is_named text None = false
is_named text (Some name) = bytes_eq name.text text

-- the doubts are those of what these rules say is left out, and no others
pub record AreDoubtsOf (found : List BuildingRule) (doubts : SchemaDoubts) : Type 0 where
  pub types : (text : List ℕ) → contains_text doubts.types text ≡ list_any (λ it. is_named text (cut_type it)) found
  pub fields : (text : List ℕ) → contains_text doubts.fields text ≡ list_any (λ it. is_named text (cut_fields it)) found
  pub directives : (text : List ℕ) → contains_text doubts.directives text ≡ list_any (λ it. is_named text (cut_directive it)) found
  pub has_types : doubts.has_types ≡ list_any (λ it. is_some (cut_type it)) found
  pub has_inputs : doubts.has_inputs ≡ list_any cuts_input found
  pub has_schema : doubts.has_schema ≡ list_any cuts_schema found

-- the second set has the names of the first, and this one, if there is one
abbrev pub HasAlso : Option NameText → BTreeSet (String Global) → BTreeSet (String Global) → Type 0
HasAlso name old new = (text : List ℕ) → contains_text new text ≡ (contains_text old text || is_named text name)

-- the second doubts are the first ones, and those of what the rule says is left out
pub record AddsDoubts (broken : BuildingRule) (old new : SchemaDoubts) : Type 0 where
  pub types : HasAlso (cut_type broken) old.types new.types
  pub fields : HasAlso (cut_fields broken) old.fields new.fields
  pub directives : HasAlso (cut_directive broken) old.directives new.directives
  pub has_types : new.has_types ≡ (old.has_types || is_some (cut_type broken))
  pub has_inputs : new.has_inputs ≡ (old.has_inputs || cuts_input broken)
  pub has_schema : new.has_schema ≡ (old.has_schema || cuts_schema broken)
