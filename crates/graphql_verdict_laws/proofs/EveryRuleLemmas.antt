-- Every rule of documents and of schemas holds of those that are the same. Specification: 5 Validation, 3 Type System.
use Rattle.std.proofs.Common.{ℕ, Option, None, Some}
use Rattle.graphql_documents.specs.Contents.{SameIfAny}
use Rattle.graphql_documents.specs.Schemas.{is_output_type}
use Rattle.graphql_documents.specs.declared.documents.executables.ExecutableDocument.{ExecutableDocument}
use Rattle.graphql_documents.specs.declared.documents.schemas.Schema.{Schema}
use Rattle.graphql_specification.specs.BuiltInScalars.{SchemaRetainsUsedBuiltInScalars}
use Rattle.graphql_document_building.specs.SameDocuments.{SameDocument}
use Rattle.graphql_building_laws.specs.MetaFieldTypes.{HasTypesOfMetaFields}
use Rattle.graphql_building_laws.specs.SameSchemas.{SameSchema}
use Rattle.graphql_parser.specs.declared.bounds.Bounds.{Bounds}
use Rattle.graphql_frontend.specs.Documents.{EveryRuleHolds, ReachesWithinBounds, UsagesAreAllowed, counted_bytes, most_reached, reaches_its_bytes, reaches_more}
use Rattle.graphql_frontend.specs.Schemas.{IsAccepted}
use Rattle.graphql_sameness_laws.proofs.DefaultValueLemmas.{default_values_too}
use Rattle.graphql_sameness_laws.proofs.NestingLemmas.{nests_too}
use Rattle.graphql_sameness_laws.proofs.RetainedLemmas.{retained_alike}
use Rattle.graphql_sameness_laws.proofs.SchemaLookupLemmas.{names_kind_too}
use Rattle.graphql_sameness_laws.proofs.SchemaRuleLemmas.{schema_holds_too}
use Rattle.graphql_sameness_laws.proofs.SchemaSamenessLemmas.{schema_itself}
use Rattle.graphql_sameness_laws.proofs.SelectionLemmas.{loose_document}
use Rattle.graphql_sameness_laws.proofs.TypeKindLemmas.{both_output_type}
use Rattle.graphql_sameness_laws.proofs.TypeLemmas.{one_name}
use Rattle.graphql_sameness_laws.proofs.ReachedByteLemmas.{reaches_within_too}
use Rattle.graphql_sameness_laws.proofs.ZipLemmas.{options_themselves}
use Rattle.graphql_verdict_laws.proofs.RootLemmas.{document_rules_too}
use Rattle.graphql_sameness_laws.proofs.UsageLemmas.{variable_usages_too, variable_uses_too}
use Rattle.graphql_sameness_laws.proofs.WrittenValueLemmas.{input_fields_unique_too, schema_input_fields_unique_too}

usages_too : (a b : Option Schema) → SameIfAny SameSchema a b → (d e : ExecutableDocument) → SameDocument None d e → UsagesAreAllowed a d → UsagesAreAllowed b e
usages_too None None schemas d e same h = tt
usages_too None (Some b) schemas d e same h = absurd schemas
usages_too (Some a) None schemas d e same h = absurd schemas
usages_too (Some a) (Some b) schemas d e same h = variable_usages_too a b schemas d e same h

pub every_rule_too : (a b : Option Schema) → SameIfAny SameSchema a b → (d e : ExecutableDocument) → SameDocument None d e → EveryRuleHolds a d → EveryRuleHolds b e
every_rule_too a b schemas d e same h = record {
  rules = document_rules_too a b schemas d e same h.rules;
  variables = variable_uses_too d e same h.variables;
  input_fields = input_fields_unique_too d e same h.input_fields;
  usages = usages_too a b schemas d e same h.usages;
}

-- against one schema, or without one
pub one_schema_too : (schema : Option Schema) (d e : ExecutableDocument) → SameDocument schema d e → EveryRuleHolds schema d → EveryRuleHolds schema e
one_schema_too schema d e same = every_rule_too schema schema (options_themselves SameSchema schema_itself schema) d e (loose_document schema d e same)

pub reaches_within_bounds_too : (bounds : Bounds) (bytes : ℕ) (d e : ExecutableDocument) → SameDocument None d e →
    ReachesWithinBounds bounds bytes d → ReachesWithinBounds bounds bytes e
reaches_within_bounds_too bounds bytes d e same (reaches_its_bytes reaches) = reaches_its_bytes (reaches_within_too (counted_bytes bytes) d e same reaches)
reaches_within_bounds_too bounds bytes d e same (reaches_more nests reaches) =
    reaches_more (nests_too 99 d e same nests) (reaches_within_too (most_reached bounds bytes) d e same reaches)

pub meta_field_types_too : (a b : Schema) → SameSchema a b → HasTypesOfMetaFields a → HasTypesOfMetaFields b
meta_field_types_too a b same h = record {
  typename = names_kind_too a b same is_output_type both_output_type _ _ (one_name _ _ same.meta_fields.typename.1.ty) h.typename;
  schema_field = names_kind_too a b same is_output_type both_output_type _ _ (one_name _ _ same.meta_fields.schema.1.ty) h.schema_field;
  type_by_name = names_kind_too a b same is_output_type both_output_type _ _ (one_name _ _ same.meta_fields.type_by_name.1.ty) h.type_by_name;
}

pub accepted_too : (a b retained other : Schema) → SameSchema a b → IsAccepted a retained → SchemaRetainsUsedBuiltInScalars b other → IsAccepted b other
accepted_too a b retained other same h retains =
    let alike = retained_alike a b retained other same h.retains retains in
    record {
      holds = schema_holds_too a b same h.holds;
      input_fields = schema_input_fields_unique_too a b same h.input_fields;
      retains = retains;
      defaults = default_values_too retained other alike h.defaults;
      meta_fields = meta_field_types_too retained other alike h.meta_fields;
    }
