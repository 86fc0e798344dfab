-- All that is reported of texts: a first list, and further ones. Specification: 2.2 Document; 5 Validation
use Rattle.std.specs.Prelude.{◌≡◌, ◌∷◌, ◌++◌, All, Any, List, [], None, Option, Some, ℕ}
use Rattle.std.specs.String.{string_bytes}
use Rattle.graphql_blanks.specs.Blanks.{part_text}
use Rattle.graphql_documents.specs.declared.documents.schemas.Schema.{Schema}
use Rattle.graphql_frontend.specs.declared.reports.Reports.{Reports}
use Rattle.graphql_frontend.specs.declared.texts.SourceText.{SourceText}
use Rattle.graphql_kept_projects.specs.Left.{AreFurther}
use Rattle.graphql_kept_projects.specs.declared.kept.LeftText.{LeftText}
use Rattle.graphql_parser.specs.declared.bounds.Bounds.{Bounds}

-- the second text is the first, or the first up to the end of a part, in which all before the part is blank
pub data IsAllOrPart (text : List ℕ) : List ℕ → Type 0 where
  is_all : IsAllOrPart text text
  is_part : (start end : ℕ) → IsAllOrPart text (part_text text start end)

-- the text is this one, or a part of it
abbrev pub IsTextOrPart : SourceText → SourceText → Type 0
IsTextOrPart s w = (s.file_id ≡ w.file_id) × IsAllOrPart w.text.now s.text.now

-- the text is one of these, or a part of one
abbrev pub IsOneOrPart : List SourceText → SourceText → Type 0
IsOneOrPart whole s = Any (IsTextOrPart s) whole

-- the text is a part of this one, at its place
abbrev pub IsPartOf : LeftText → SourceText → Type 0
IsPartOf part w = (part.file_id ≡ w.file_id) × (start : ℕ) × (end : ℕ) × (string_bytes part.text ≡ part_text w.text.now start end)

-- the text is a part of one of these
abbrev pub IsPartOfOne : List SourceText → LeftText → Type 0
IsPartOfOne whole part = Any (IsPartOf part) whole

-- the new texts are the old ones, and behind them parts of these
abbrev pub AddsParts : List SourceText → List LeftText → List LeftText → Type 0
AddsParts whole old new = (more : List LeftText) × (new ≡ old ++ more) × All (IsPartOfOne whole) more

-- the reports are true of texts of which each is one of these or a part of one, or of what is left of such texts
pub record AreFurtherOf (bounds : Bounds) (schema : Schema) (whole : List SourceText) (reports : Reports) : Type 0 where
  pub read : List SourceText
  pub parts : All (IsOneOrPart whole) read
  pub are : AreFurther bounds schema read reports

-- the lists: the first is what is reported, if something is, and only then there are further ones
pub data AreAllReports (IsFirst : Option Reports → Type 0) (IsFurther : Reports → Type 0) : List Reports → Type 0 where
  are_none : IsFirst None → AreAllReports IsFirst IsFurther []
  are_some : {first : Reports} {further : List Reports} → IsFirst (Some first) → All IsFurther further → AreAllReports IsFirst IsFurther (first ∷ further)

-- the first list is this one, and the others are further ones
abbrev pub AreWithFurther : Reports → (Reports → Type 0) → List Reports → Type 0
AreWithFurther first IsFurther lists = (further : List Reports) × (lists ≡ first ∷ further) × All IsFurther further
