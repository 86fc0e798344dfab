-- How the checks of a whole schema compose, and what it is to retain its types.
use Rattle.std.proofs.Common.{◌≡◌, ◌↔◌, ℕ, Bool, true, false, not, ◌&&◌, List, ◌++◌, refl, ap, subst, ◌∙◌, ◌⊎◌, inl, inr, All}
use Rattle.std.specs.Prelude.{Result, Ok, Err, IsErr, OnErr, OnOk, Option, IsFalse, ⊤, ◌||◌, filter}
use Rattle.std.proofs.lemmas.Result.{MatchResult-from_err}
use Rattle.graphql_specification.specs.DefaultValues.{DefaultValuesReport}
use Rattle.graphql_diagnostics.specs.Diagnostics.{IsDiagnostic, IsLimitEntry, DiagnosticReport}
use Rattle.graphql_specification.specs.DirectiveCycles.{DirectiveLimit, DirectivesLimit}
use Rattle.graphql_specification.specs.Schemas.{SchemaLimit, SchemaReport, SchemaHolds}
use Rattle.graphql_specification.specs.Types.{TypesLimit, TypesReport, TypeHolds}
use Rattle.graphql_specification.specs.DirectiveCycles.DirectiveLimit.{references_nest}
use Rattle.graphql_specification.specs.Schemas.SchemaLimit.{directive_nests, type_nests}
use Rattle.graphql_nodes.specs.Names.{IsFreeName, NameText}
use Rattle.graphql_diagnostics.specs.Reports.{Reports, ReportsWithin}
use Rattle.graphql_specification.specs.DirectiveDefinitions.{DirectiveDefinitionsReport, DirectiveDefinitionHolds}
use Rattle.graphql_specification.specs.SchemaDefinitions.{SchemaDefinitionReport, SchemaDefinitionHolds}
use Rattle.graphql_specification.specs.Schemas.SchemaReport.{of_default_value, of_directive_definition, of_schema_definition, of_types}
use Rattle.graphql_documents.specs.Schemas.{is_built_in}
use Rattle.graphql_specification.specs.BuiltInScalars.{RetainsUsedBuiltInScalars, SchemaRetainsUsedBuiltInScalars, is_recorded, is_unused_built_in, names_built_in_scalar, types_referred, uses_type}
use Rattle.graphql_diagnostics.specs.declared.details.Details.{Details}
use Rattle.graphql_diagnostics.specs.declared.lists.DiagnosticEntry.{DiagnosticEntry}
use Rattle.graphql_documents.specs.declared.documents.definitions.DirectiveDefinition.{DirectiveDefinition}
use Rattle.graphql_nodes.specs.declared.nodes.Node.{Node}
use Rattle.graphql_documents.specs.declared.documents.schemas.ExtendedType.{ExtendedType}
use Rattle.graphql_documents.specs.declared.documents.schemas.Schema.{Schema}
use Rattle.graphql_nodes.specs.declared.spans.SourceSpan.{SourceSpan}
use Rattle.graphql_diagnostics.proofs.DiagnosticLemmas.{diagnostic_wider}
use Rattle.graphql_diagnostics.proofs.ReportWithinLemmas.{ChecksListWithin, both_within, checks_after_within, checks_words_within, wider_within, within}
use Rattle.graphql_schemas.proofs.TypeLemmas.{checks_wider_within}
use Rattle.graphql_field_definitions.specs.BuiltInScalarUses.{Records, holds_text}
use Rattle.graphql_schemas.specs.SchemaChecks.{SchemaEntryReport}
use Rattle.graphql_schemas.specs.TypeMapChanges.{Retains, is_unused}
use Rattle.graphql_field_definitions.specs.declared.built_in_scalars.BuiltInScalars.{BuiltInScalars}
use Rattle.graphql_schemas.specs.declared.type_map.TypeMapChanges.{TypeMapChanges}

-- ---- what is reported of parts of a schema is reported of it

module _ (schema : Schema) where
  pub definition_breaks : (e : DiagnosticEntry) → IsDiagnostic (SchemaDefinitionReport schema schema.schema_definition) e → SchemaEntryReport schema e
  definition_breaks e said =
      inl (diagnostic_wider (SchemaDefinitionReport schema schema.schema_definition) (SchemaReport schema) (λ r at broken. of_schema_definition broken) e said)

  pub directives_break : (e : DiagnosticEntry) → IsDiagnostic (DirectiveDefinitionsReport schema) e ⊎ DirectivesLimit schema e.details e.location → SchemaEntryReport schema e
  directives_break e (inl said) =
      inl (diagnostic_wider (DirectiveDefinitionsReport schema) (SchemaReport schema) (λ r at broken. of_directive_definition broken.1 broken.2) e said)
  directives_break e (inr limit) = inr (by e.details e.location limit.2) where
    by : (details : Details) (at : Option SourceSpan) → DirectiveLimit schema limit.0.1 details at → DiagnosticReport (SchemaLimit schema) details at
    by details at (references_nest nests) = directive_nests limit.1 nests

  types_break : (e : DiagnosticEntry) → IsDiagnostic (TypesReport schema) e ⊎ IsDiagnostic (TypesLimit schema) e → SchemaEntryReport schema e
  types_break e (inl said) = inl (diagnostic_wider (TypesReport schema) (SchemaReport schema) (λ r at broken. of_types broken) e said)
  types_break e (inr limit) = inr (diagnostic_wider (TypesLimit schema) (SchemaLimit schema) (λ r at nests. type_nests nests) e limit)

  pub defaults_break : (retained : Schema) → SchemaRetainsUsedBuiltInScalars schema retained → (e : DiagnosticEntry) → IsDiagnostic (DefaultValuesReport retained) e → SchemaEntryReport schema e
  defaults_break retained is e said =
      inl (diagnostic_wider (DefaultValuesReport retained) (SchemaReport schema) (λ r at wrong. of_default_value is wrong) e said)

  -- the parts of a schema, one after another
  pub parts_checked : {T E : Type 0} (result : Result T E) (first second third last : List DiagnosticEntry) →
      Reports (SchemaDefinitionHolds schema schema.schema_definition.value.value) (IsDiagnostic (SchemaDefinitionReport schema schema.schema_definition)) first second →
      ReportsWithin IsLimitEntry (All (λ entry. DirectiveDefinitionHolds schema entry.1) schema.directive_definitions.entries)
      (λ e. IsDiagnostic (DirectiveDefinitionsReport schema) e ⊎ DirectivesLimit schema e.details e.location) second third →
      ChecksListWithin IsLimitEntry result (All (λ entry. IsFreeName entry.0 × TypeHolds schema entry.1) schema.types.entries)
      (λ e. IsDiagnostic (TypesReport schema) e ⊎ IsDiagnostic (TypesLimit schema) e) third last →
      ChecksListWithin IsLimitEntry result (SchemaHolds schema) (SchemaEntryReport schema) first last
  parts_checked result first second third last a b c =
      let A = SchemaDefinitionHolds schema schema.schema_definition.value.value in
      let B = All (λ (entry : NameText × Node DirectiveDefinition). DirectiveDefinitionHolds schema entry.1) schema.directive_definitions.entries in
      let C = All (λ (entry : NameText × ExtendedType). IsFreeName entry.0 × TypeHolds schema entry.1) schema.types.entries in
      let before = both_within IsLimitEntry (wider_within IsLimitEntry definition_breaks (within IsLimitEntry a)) (wider_within IsLimitEntry directives_break b) in
      checks_words_within IsLimitEntry result ((A × B) × C) (SchemaHolds schema) (SchemaEntryReport schema) (SchemaEntryReport schema) first last
      (always result ((A × B) × C ↔ SchemaHolds schema) (
        λ p. record { definition = p.0.0; directives = p.0.1; types = p.1 },
        λ h. ((h.definition, h.directives), h.types),
      ))
      (λ e q. q)
      (checks_after_within IsLimitEntry result (A × B) C (SchemaEntryReport schema) first third last before
      (checks_wider_within result C _ (SchemaEntryReport schema) third last types_break c)) where
        always : {T E : Type 0} (r : Result T E) (P : Type 0) → P → OnOk r P
        always (Ok x) P p = p
        always (Err x) P p = tt

-- ---- the types that are recorded are those that the schema refers to

same_test : {X : Type 0} (p q : X → Bool) → ((x : X) → p x ≡ q x) → (xs : List X) → filter p xs ≡ filter q xs
same_test p q same xs = λ i. filter (λ x. same x i) xs

used_or_not : (built_in named used : Bool) → (built_in && (named && not (named && used))) ≡ (built_in && (named && not used))
used_or_not false named used = refl
used_or_not true false used = refl
used_or_not true true used = refl

recorded_uses : (old new : BuiltInScalars) (names : List NameText) → ((text : List ℕ) → IsFalse (holds_text old text)) → Records old new names →
    (text : List ℕ) → holds_text new text ≡ is_recorded names text
recorded_uses old new names none r text = r.each text ∙ ap (λ b. b || is_recorded names text) (none text)

pub retained_schema : (old new : BuiltInScalars) (schema retained : Schema) (changes : TypeMapChanges) (spare : ℕ) →
    ((text : List ℕ) → IsFalse (holds_text old text)) → Records old new (types_referred schema) →
    Retains (holds_text new) changes schema.types.entries retained.types.entries spare → RetainsUsedBuiltInScalars schema retained.types.entries
retained_schema old new schema retained changes spare none records s =
    let used : holds_text new ≡ is_recorded (types_referred schema) = λ i text. recorded_uses old new (types_referred schema) none records text i in
    let s' : Retains (is_recorded (types_referred schema)) changes schema.types.entries retained.types.entries spare =
    subst (λ u. Retains u changes schema.types.entries retained.types.entries spare) used s in
    let kept =
    same_test (λ (entry : NameText × ExtendedType). not (is_unused (is_recorded (types_referred schema)) entry)) (λ entry. not (is_unused_built_in schema entry))
    (λ entry. ap not (used_or_not (is_built_in entry.1) (names_built_in_scalar entry.0.text) (uses_type schema entry.0.text)))
    schema.types.entries in
    (s'.added, s'.are ∙ ap (λ l. l ++ s'.added) kept, s'.are_added)

-- ---- a refusal

pub refused_ok : {T E : Type 0} (r : Result T E) (P : Type 0) → IsErr r → OnOk r P
refused_ok r P e = MatchResult-from_err r (λ _. P) (λ _. ⊤) e (λ y. tt)

pub refused_err : {T E : Type 0} (r : Result T E) (P : Type 0) → P → OnErr r P
refused_err (Ok x) P p = tt
refused_err (Err x) P p = p
