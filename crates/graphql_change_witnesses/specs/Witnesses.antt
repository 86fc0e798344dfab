-- Documents that a change of a schema breaks. Specification: 5 Validation.
use Rattle.std.specs.Prelude.{◌≡◌, ℕ, List, All, None, Some}
use Rattle.graphql_diagnostics.specs.Diagnostics.{IsLimitEntry, entries}
use Rattle.graphql_documents.specs.declared.documents.schemas.Schema.{Schema}
use Rattle.graphql_frontend.specs.Documents.{ValidatesDocument}
use Rattle.graphql_frontend.specs.declared.reports.Reports.{Reports}
use Rattle.graphql_frontend.specs.declared.reports.Reports.TheVariants.{Building, DocumentRules}
use Rattle.graphql_frontend.specs.declared.texts.SourceText.{SourceText}
use Rattle.graphql_parser.specs.declared.bounds.Bounds.{Bounds}

-- rules are reported that the text breaks, and no limit
abbrev pub BreaksRules : Reports → Type 0
BreaksRules (Building list) = Unit {0}
BreaksRules (DocumentRules reports) = All (λ e. ¬ IsLimitEntry e) (entries reports.rules)
BreaksRules _ = ⊥

-- what is reported of the text against the schema is that it breaks rules, and no limit
pub record BreaksRulesOf (bounds : Bounds) (schema : Schema) (source : SourceText) : Type 0 where
  pub reports : Reports
  pub reported : ValidatesDocument bounds (Some schema) source (Some reports)
  pub breaks : BreaksRules reports

-- the text is a document that is valid against the old schema, and that breaks a rule against the new one
pub record IsWitness (bounds : Bounds) (old new : Schema) (source : SourceText) : Type 0 where
  pub before : ValidatesDocument bounds (Some old) source None
  pub after : BreaksRulesOf bounds new source

-- the same of a text of these bytes, whatever the number of its file
abbrev pub IsWitnessText : Bounds → Schema → Schema → List ℕ → Type 0
IsWitnessText bounds old new bytes = (source : SourceText) × (source.text.now ≡ bytes) × IsWitness bounds old new source
