-- Root operation types, one by one, and what is reported of them.
use Rattle.std.proofs.Common.{◌≡◌, ◌↔◌, ◌∷◌, ◌++◌, [], Bool, Bor, Contains, List, Option, Some, ap, cond, false, find, map, refl, subst, sym, true, ◌∙◌}
use Rattle.std.specs.Option.{option_map}
use Rattle.std.specs.Prelude.{IsSome, Result}
use Rattle.std.proofs.lemmas.List.Elements.{All-append, All-cons, All-head, All-nil}
use Rattle.graphql_diagnostics.specs.Diagnostics.{IsDiagnostic}
use Rattle.graphql_specification.specs.Directives.{DirectivesReport}
use Rattle.graphql_nodes.specs.Names.{NameText, same_name}
use Rattle.graphql_diagnostics.specs.Reports.{Reports}
use Rattle.graphql_specification.specs.SchemaDefinitions.{RootsReport, SchemaDefinitionReport, of_roots, root_is_no_object, root_is_undefined, schema_directives, RootsHold, SchemaDefinitionHolds}
use Rattle.graphql_specification.specs.InputValueDefinitions.{DirectivesHoldAt}
use Rattle.graphql_documents.specs.Schemas.{NamesKind, is_object_type, roots_of}
use Rattle.graphql_diagnostics.proofs.DiagnosticLemmas.{diagnostic_wider}
use Rattle.graphql_diagnostics.proofs.ReportLemmas.{ChecksList, checks_after, checks_words, wider}
use Rattle.graphql_documents.proofs.ListLemmas.{All-append_left, All-append_right}
use Rattle.graphql_diagnostics.specs.declared.data.DiagnosticData.TheVariants as report
use Rattle.graphql_diagnostics.specs.declared.data.DiagnosticData.{DiagnosticData}
use Rattle.graphql_diagnostics.specs.declared.lists.DiagnosticEntry.{DiagnosticEntry}
use Rattle.graphql_documents.specs.declared.documents.components.ComponentName.{ComponentName}
use Rattle.graphql_nodes.specs.declared.directive_locations.DirectiveLocation.TheVariants as allowed_at
use Rattle.graphql_nodes.specs.declared.operation_types.OperationType.{OperationType}
use Rattle.graphql_nodes.specs.declared.nodes.Node.{Node}
use Rattle.graphql_documents.specs.declared.documents.schemas.Schema.{Schema}
use Rattle.graphql_documents.specs.declared.documents.schemas.SchemaDefinition.{SchemaDefinition}
use Rattle.graphql_nodes.specs.declared.spans.SourceSpan.{SourceSpan}
use Rattle.graphql_variables.proofs.FirstPlaceLemmas.{distinct_names_more}
use Rattle.graphql_schemas.specs.RootSteps.{AreRoots, FollowsWell, RootReport, lent_root, of_no_object, of_undefined_root, root_named}

found_lent : (name : NameText) (seen : List (OperationType × Bor ComponentName)) →
    root_named name (map lent_root seen) ≡ option_map lent_root (find (λ root. same_name root.1.now.name name) seen)
found_lent name [] = refl
found_lent name (root ∷ seen) = by (same_name root.1.now.name name) (found_lent name seen) where
  by : (b : Bool) → root_named name (map lent_root seen) ≡ option_map lent_root (find (λ root. same_name root.1.now.name name) seen) →
      cond b (Some (lent_root root)) (root_named name (map lent_root seen)) ≡
      option_map lent_root (cond b (Some root) (find (λ root. same_name root.1.now.name name) seen))
  by true behind = refl
  by false behind = behind

-- the first of the name among roots that were visited
pub first_lent : (name : NameText) (seen : List (OperationType × Bor ComponentName)) (o : Option (OperationType × Bor ComponentName)) →
    o ≡ find (λ root. same_name root.1.now.name name) seen → root_named name (map lent_root seen) ≡ option_map lent_root o
first_lent name seen o found = found_lent name seen ∙ ap (option_map lent_root) (sym found)

module _ (schema : Schema) where
  -- roots hold exactly where those before the last hold, and it may follow them
  pub roots_more : (xs : List (OperationType × ComponentName)) (x : OperationType × ComponentName) →
      (AreRoots schema xs × FollowsWell schema xs x) ↔ AreRoots schema (xs ++ x ∷ [])
  roots_more xs x =
      let P = λ (root : OperationType × ComponentName). NamesKind schema is_object_type root.1.name in
      let names = distinct_names_more (λ (root : OperationType × ComponentName). root.1.name) xs x in (
        λ p. (All-append P xs (x ∷ []) p.0.0 (All-cons P x [] p.1.0 (All-nil P)), names.0 (p.0.1, p.1.1)),
        λ h.
            let distinct = names.1 h.1 in
            ((All-append_left P xs (x ∷ []) h.0, distinct.0), (All-head P x [] (All-append_right P xs (x ∷ []) h.0), distinct.1)),
      )

  pub roots_hold : (d : SchemaDefinition) → AreRoots schema (roots_of d) ↔ RootsHold schema d
  roots_hold d = (λ p. record { objects = p.0; distinct = p.1 }, λ h. (h.objects, h.distinct))

  -- a diagnostic on the type of a root is one on the roots
  pub names_root : (d : SchemaDefinition) (root : OperationType × ComponentName) → Contains (roots_of d) root →
      (e : DiagnosticEntry) → IsDiagnostic (RootReport schema root.1.name) e → IsDiagnostic (RootsReport schema d) e
  names_root d root among = diagnostic_wider (RootReport schema root.1.name) (RootsReport schema d) by_report where
    by_report : (r : DiagnosticData) (at : Option SourceSpan) → RootReport schema root.1.name r at → RootsReport schema d r at
    by_report r at (of_undefined_root undefined same place) =
        subst (λ n. RootsReport schema d (report.UndefinedDefinition n) at) (sym same) (root_is_undefined among undefined place)
    by_report r at (of_no_object {describe = describe} other same place) =
        subst (λ n. RootsReport schema d (report.RootOperationObjectType n describe) at) (sym same) (root_is_no_object among other place)

  module _ (d : Node SchemaDefinition) where
    -- a diagnostic on the roots, or on the directives, is one on the schema definition
    pub names_roots : (e : DiagnosticEntry) → IsDiagnostic (RootsReport schema d.value.value) e → IsDiagnostic (SchemaDefinitionReport schema d) e
    names_roots = diagnostic_wider (RootsReport schema d.value.value) (SchemaDefinitionReport schema d) (λ r at said. of_roots said)

    pub names_schema_directives : (e : DiagnosticEntry) →
        IsDiagnostic (DirectivesReport (Some schema) [] allowed_at.Schema (map (λ c. c.node) d.value.value.directives.items)) e →
        IsDiagnostic (SchemaDefinitionReport schema d) e
    names_schema_directives =
        diagnostic_wider (DirectivesReport (Some schema) [] allowed_at.Schema (map (λ c. c.node) d.value.value.directives.items)) (SchemaDefinitionReport schema d)
        (λ r at said. schema_directives said)

    -- it was checked, part by part
    pub schema_definition_checked : {T E : Type 0} (r : Result T E) (old rooted checked new : List DiagnosticEntry) →
        Reports (IsSome d.value.value.query) (IsDiagnostic (SchemaDefinitionReport schema d)) old rooted →
        Reports (RootsHold schema d.value.value) (IsDiagnostic (RootsReport schema d.value.value)) rooted checked →
        ChecksList r (DirectivesHoldAt schema allowed_at.Schema (map (λ c. c.node) d.value.value.directives.items))
        (IsDiagnostic (DirectivesReport (Some schema) [] allowed_at.Schema (map (λ c. c.node) d.value.value.directives.items))) checked new →
        ChecksList r (SchemaDefinitionHolds schema d.value.value) (IsDiagnostic (SchemaDefinitionReport schema d)) old new
    schema_definition_checked r old rooted checked new query roots directives =
        let Q = IsDiagnostic (SchemaDefinitionReport schema d) in
        checks_words r _ (SchemaDefinitionHolds schema d.value.value) Q Q old new
        (λ p. record { has_query = p.0; roots = p.1.0; directives = p.1.1 }, λ h. (h.has_query, (h.roots, h.directives))) (λ e q. q)
        (checks_after r _ _ Q old rooted new query
        (checks_after r _ _ Q rooted checked new (wider names_roots roots)
        (checks_words r _ _ (IsDiagnostic (DirectivesReport (Some schema) [] allowed_at.Schema (map (λ c. c.node) d.value.value.directives.items))) Q checked new
        (λ h. h, λ h. h) names_schema_directives directives)))
