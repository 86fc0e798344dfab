-- Texts whose schema is accepted by one choice of typed values are accepted by each.
use Rattle.std.proofs.Common.{◌≡◌, ◌∙◌, List, refl, subst}
use Rattle.std.specs.Prelude.{All}
use Rattle.std.specs.List.{AllZip}
use Rattle.graphql_building_laws.proofs.SameSchemaLemmas.{schema_is_same}
use Rattle.graphql_building_laws.specs.SameSchemas.{SameSchema}
use Rattle.graphql_diagnostics.specs.Diagnostics.{IsLimitEntry}
use Rattle.graphql_documents.specs.declared.documents.schemas.Schema.{Schema}
use Rattle.graphql_frontend.specs.Schemas.{IsAccepted, Judges, JudgesTrees, ReadsSchema, are_documents, breaks_more, does_not_build, is_built, not_all_are_documents}
use Rattle.graphql_frontend.specs.Texts.{IsDocumentOf}
use Rattle.graphql_frontend.specs.declared.reports.Reports.{Reports}
use Rattle.graphql_frontend.specs.declared.reports.Reports.TheVariants.{Syntax, Building, FirstBuilding, Nesting, Reach, Work, SchemaRules, FirstSchemaRules, DocumentRules, FirstDocumentRules}
use Rattle.graphql_frontend.specs.declared.schemas.SchemaReading.{SchemaReading}
use Rattle.graphql_frontend.specs.declared.schemas.SchemaReading.TheVariants.{Accepted, LacksIntrospection, Rejected}
use Rattle.graphql_frontend.specs.declared.texts.SourceText.{SourceText}
use Rattle.graphql_parser.specs.declared.bounds.Bounds.{Bounds}
use Rattle.graphql_sameness_laws.proofs.RetainedLemmas.{retained_alike}
use Rattle.graphql_schema_building.specs.SchemaSays.{SchemaSays}
use Rattle.graphql_frontend.specs.SchemaBuilds.{SchemaBuilds}
use Rattle.graphql_trees.specs.declared.documents.Document.{Document}
use Rattle.graphql_verdict_laws.proofs.EveryRuleLemmas.{accepted_too}
use Rattle.graphql_verdict_laws.proofs.TextTreeLemmas.{no_errors, one_trees}
use Rattle.graphql_verdict_laws.specs.Limits.{ReadsWithoutLimit, ReportsNoLimit}

module _ (bounds : Bounds) (sources : List SourceText) where
  -- how a schema is accepted
  record AcceptedReading (accepted : Schema) : Type 0 where
    trees : List Document
    said : Schema
    are_documents : AllZip (IsDocumentOf bounds) sources trees
    builds : SchemaBuilds trees
    says : SchemaSays trees said
    is_accepted : IsAccepted said accepted

  tree_reading : (trees : List Document) → AllZip (IsDocumentOf bounds) sources trees → (r : SchemaReading) → JudgesTrees bounds trees r → (accepted : Schema) →
      r ≡ Accepted accepted → AcceptedReading accepted
  tree_reading trees are r (does_not_build no_build some each) accepted e = absurd (let no : ⊥ = cc in no)
  tree_reading trees are r (breaks_more first) accepted e = absurd (let no : ⊥ = cc in no)
  tree_reading trees are r (is_built said builds says judges) accepted e = record {
    trees = trees;
    said = said;
    are_documents = are;
    builds = builds;
    says = says;
    is_accepted = subst (Judges bounds said) e judges;
  }

  accepted_reading : (r : SchemaReading) → ReadsSchema bounds sources r → (accepted : Schema) → r ≡ Accepted accepted → AcceptedReading accepted
  accepted_reading r (not_all_are_documents trees parses some) accepted e = absurd (let no : ⊥ = cc in no)
  accepted_reading r (are_documents trees are judges) accepted e = tree_reading trees are r judges accepted e

  module _ (accepted : Schema) (v : AcceptedReading accepted) where
    -- the schema that was said in another way
    same_said : (trees : List Document) (other : Schema) → AllZip (IsDocumentOf bounds) sources trees → SchemaSays trees other → SameSchema v.said other
    same_said trees other are says =
        schema_is_same v.trees v.said other v.says (subst (λ ts. SchemaSays ts other) (one_trees bounds sources trees v.trees are v.are_documents) says)

    nothing_reported : (other : Schema) → SameSchema v.said other → (reports : Reports) → ReportsNoLimit reports → Judges bounds other (Rejected reports) → ⊥
    nothing_reported other same (SchemaRules reports) no_limit (some, retained, retains, are) =
        let too = accepted_too v.said other accepted retained same v.is_accepted retains in
        let unlimited : All (λ e. ¬ IsLimitEntry e) are.rules.added = subst (All (λ e. ¬ IsLimitEntry e)) are.rules.appended no_limit in
        some (are.rules.appended ∙ (are.rules.silent unlimited).1 (too.holds, too.defaults), are.input_fields.appended ∙ are.input_fields.silent.1 too.input_fields)
    nothing_reported other same (Syntax reports) no_limit h = h
    nothing_reported other same (Building reports) no_limit h = h
    nothing_reported other same (Nesting reports) no_limit h = h
    nothing_reported other same (Reach reports) no_limit h = h
    nothing_reported other same (DocumentRules reports) no_limit h = h
    nothing_reported other same (FirstBuilding list) no_limit h = no_limit
    nothing_reported other same (FirstSchemaRules list) no_limit h = no_limit
    nothing_reported other same (FirstDocumentRules list) no_limit h = no_limit
    nothing_reported other same (Work report) no_limit h = no_limit

    trees_not_rejected : (trees : List Document) → AllZip (IsDocumentOf bounds) sources trees → (r : SchemaReading) → JudgesTrees bounds trees r → (reports : Reports) →
        ReportsNoLimit reports → r ≡ Rejected reports → ⊥
    trees_not_rejected trees are r (does_not_build no_build some each) reports no_limit e =
        no_build (subst SchemaBuilds (one_trees bounds sources v.trees trees v.are_documents are) v.builds)
    trees_not_rejected trees are r (breaks_more {list = list} first) reports no_limit e =
        subst ReportsNoLimit (let same : reports ≡ FirstBuilding list = cc in same) no_limit
    trees_not_rejected trees are r (is_built other builds says judges) reports no_limit e =
        nothing_reported other (same_said trees other are says) reports no_limit (subst (Judges bounds other) e judges)

    not_rejected : (r : SchemaReading) → ReadsSchema bounds sources r → (reports : Reports) → ReportsNoLimit reports → r ≡ Rejected reports → ⊥
    not_rejected r (not_all_are_documents trees parses some) reports no_limit e = some (no_errors bounds parses v.trees v.are_documents)
    not_rejected r (are_documents trees are judges) reports no_limit e = trees_not_rejected trees are r judges reports no_limit e

    trees_have_introspection : (trees : List Document) → AllZip (IsDocumentOf bounds) sources trees → (r : SchemaReading) → JudgesTrees bounds trees r → r ≡ LacksIntrospection → ⊥
    trees_have_introspection trees are r (does_not_build no_build some each) e = let no : ⊥ = cc in no
    trees_have_introspection trees are r (breaks_more first) e = let no : ⊥ = cc in no
    trees_have_introspection trees are r (is_built other builds says judges) e =
        let lacks = subst (Judges bounds other) e judges in
        let too = accepted_too v.said other accepted lacks.0 (same_said trees other are says) v.is_accepted lacks.1 in
        lacks.2 too.meta_fields

    has_introspection : (r : SchemaReading) → ReadsSchema bounds sources r → r ≡ LacksIntrospection → ⊥
    has_introspection r (not_all_are_documents trees parses some) e = let no : ⊥ = cc in no
    has_introspection r (are_documents trees are judges) e = trees_have_introspection trees are r judges e

    by_kind : (r : SchemaReading) → ReadsSchema bounds sources r → ReadsWithoutLimit r → (other : Schema) × (r ≡ Accepted other) × SameSchema accepted other
    by_kind (Accepted other) reads no_limit =
        let w = accepted_reading (Accepted other) reads other refl in
        (other, refl, retained_alike v.said w.said accepted other (same_said w.trees w.said w.are_documents w.says) v.is_accepted.retains w.is_accepted.retains)
    by_kind (Rejected reports) reads no_limit = absurd (not_rejected (Rejected reports) reads reports no_limit refl)
    by_kind LacksIntrospection reads no_limit = absurd (has_introspection LacksIntrospection reads refl)

  pub one_reading : (accepted : Schema) (r : SchemaReading) → ReadsSchema bounds sources (Accepted accepted) → ReadsSchema bounds sources r → ReadsWithoutLimit r →
      (other : Schema) × (r ≡ Accepted other) × SameSchema accepted other
  one_reading accepted r reads also no_limit = by_kind accepted (accepted_reading (Accepted accepted) reads accepted refl) r also no_limit
