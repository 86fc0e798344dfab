-- Reports on what is left of the texts of a schema, and on their parts. Specification: 2.2 Document; 3 Type System
use Rattle.std.specs.Prelude.{◌≡◌, ◌∷◌, ◌++◌, All, Bool, IsTrue, List, [], Option, Some, Vec, false, filter, not, true, ℕ}
use Rattle.std.specs.String.{string_bytes}
use Rattle.std.specs.declared.alloc.Global.{Global}
use Rattle.graphql_frontend.specs.Schemas.{ReadsSchema}
use Rattle.graphql_frontend.specs.Texts.{IsErrorOf}
use Rattle.graphql_frontend.specs.declared.reports.Reports.TheVariants.{Building, FirstBuilding, FirstSchemaRules, SchemaRules, Syntax}
use Rattle.graphql_frontend.specs.declared.reports.Reports.{Reports}
use Rattle.graphql_frontend.specs.declared.reports.SchemaReports.{SchemaReports}
use Rattle.graphql_frontend.specs.declared.schemas.SchemaReading.TheVariants.{Rejected}
use Rattle.graphql_frontend.specs.declared.texts.SourceText.{SourceText}
use Rattle.graphql_frontend.specs.declared.texts.SyntaxReport.{SyntaxReport}
use Rattle.graphql_kept_projects.specs.Documents.{IsOneOrPart}
use Rattle.graphql_kept_projects.specs.Left.{IsLeftOf, IsSourceLeft}
use Rattle.graphql_kept_projects.specs.declared.kept.LeftText.{LeftText}
use Rattle.graphql_kept_reports.specs.Diagnostics.{entries}
use Rattle.graphql_kept_reports.specs.BuildingRule.{BuildingRule}
use Rattle.graphql_kept_reports.specs.SchemaCuts.{AreDoubtsOf, rules_of}
use Rattle.graphql_kept_reports.specs.SchemaDoubtful.{has_doubtful_of_schema, is_certain_of_schema}
use Rattle.graphql_kept_reports.specs.declared.schema_doubts.SchemaDoubts.{SchemaDoubts}
use Rattle.graphql_parser.specs.declared.bounds.Bounds.{Bounds}
use Rattle.graphql_text_parts.specs.Lexical.{AreTokens}

-- the second ones are made of the first ones, in order; there is none of one that may be left out
pub data AreMadeOf {A B : Type 0} (MayBeLeftOut : A → Type 0) (IsMadeOf : A → B → Type 0) : List A → List B → Type 0 where
  none : AreMadeOf MayBeLeftOut IsMadeOf [] []
  next_is_made : {x : A} {y : B} {xs : List A} {ys : List B} → IsMadeOf x y → AreMadeOf MayBeLeftOut IsMadeOf xs ys →
      AreMadeOf MayBeLeftOut IsMadeOf (x ∷ xs) (y ∷ ys)
  next_is_left_out : {x : A} {xs : List A} {ys : List B} → MayBeLeftOut x → AreMadeOf MayBeLeftOut IsMadeOf xs ys → AreMadeOf MayBeLeftOut IsMadeOf (x ∷ xs) ys

-- what is left of texts, as texts, without those of which no token is left
abbrev pub AreSourcesOf : List LeftText → List SourceText → Type 0
AreSourcesOf = AreMadeOf (λ left. AreTokens (string_bytes left.text) []) (λ left source. (source.file_id ≡ left.file_id) × (source.text.now ≡ string_bytes left.text))

-- no token is left of the text
pub record IsNothingLeft (whole : SourceText) : Type 0 where
  pub left : List ℕ
  pub is_left : IsLeftOf whole.text.now left
  pub no_token : AreTokens left []

-- the second texts are what is left of the first ones; there is none if no token is left
abbrev pub AreTextsLeft : List SourceText → List SourceText → Type 0
AreTextsLeft = AreMadeOf IsNothingLeft IsSourceLeft

-- what is left of these texts is rejected with these reports
pub record RejectsLeft (bounds : Bounds) (whole : List SourceText) (reports : Reports) : Type 0 where
  pub left : List SourceText
  pub are_left : AreTextsLeft whole left
  pub reads : ReadsSchema bounds left (Rejected reports)

-- none of the reports could be false of the whole texts. Errors of syntax are: the whole texts have none
abbrev pub are_certain : SchemaDoubts → Reports → Bool
are_certain doubts (Building list) = true
are_certain doubts (FirstBuilding list) = true
are_certain doubts (SchemaRules reports) = not (has_doubtful_of_schema doubts reports.rules)
are_certain doubts (FirstSchemaRules list) = not (has_doubtful_of_schema doubts list)
are_certain doubts _ = false

-- none of the second reports could be false of the whole texts, and they are among the first
pub data AreCertainOfSchema (doubts : SchemaDoubts) : Reports → Reports → Type 0 where
  are_all : {reports : Reports} → IsTrue (are_certain doubts reports) → AreCertainOfSchema doubts reports reports
  are_some : {all some : SchemaReports} → entries some.rules ≡ filter (is_certain_of_schema doubts) (entries all.rules) →
      some.input_fields.items ≡ all.input_fields.items → AreCertainOfSchema doubts (SchemaRules all) (SchemaRules some)

-- the same, if there are any reports
abbrev pub AreCertainOfSome : SchemaDoubts → Option Reports → Reports → Type 0
AreCertainOfSome doubts reports certain = (all : Reports) × (reports ≡ Some all) × AreCertainOfSchema doubts all certain

-- the rules that these reports on building say are broken
abbrev pub building_rules : Reports → List BuildingRule
building_rules (Building list) = rules_of list
building_rules (FirstBuilding list) = rules_of list
building_rules _ = []

-- the doubts are those of what these rules say is left out, and perhaps others beside them
abbrev pub IsInDoubt : List BuildingRule → SchemaDoubts → Type 0
IsInDoubt first doubts = (later : List BuildingRule) × AreDoubtsOf (first ++ later) doubts

-- the reports are true of what is left of these texts: they are among those for which that is rejected. None could be false of the whole texts, by what these
-- rules say is left out, and perhaps later ones
pub record AreTrueOfLeftSchema (bounds : Bounds) (whole : List SourceText) (first : List BuildingRule) (reports : Reports) : Type 0 where
  pub all : Reports
  pub rejects : RejectsLeft bounds whole all
  pub doubts : SchemaDoubts
  pub in_doubt : IsInDoubt first doubts
  pub certain : AreCertainOfSchema doubts all reports

-- the error is that of a text that is one of these or a part of one
pub record IsErrorOfPart (bounds : Bounds) (whole : List SourceText) (report : SyntaxReport) : Type 0 where
  pub part : SourceText
  pub is_part : IsOneOrPart whole part
  pub is_error : IsErrorOf bounds part report

-- the reports are true of what is left of these texts, and not in doubt after the first ones; or each is the syntax error of a part of one of the texts
pub data AreFurtherOfSchema (bounds : Bounds) (whole : List SourceText) (first : Reports) : Reports → Type 0 where
  of_left : {reports : Reports} → AreTrueOfLeftSchema bounds whole (building_rules first) reports → AreFurtherOfSchema bounds whole first reports
  of_parts : {errors : Vec SyntaxReport Global} → All (IsErrorOfPart bounds whole) errors.items → AreFurtherOfSchema bounds whole first (Syntax errors)
