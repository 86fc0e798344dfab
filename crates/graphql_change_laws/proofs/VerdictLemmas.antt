-- The text of a document that is valid against a schema is not rejected against one that keeps documents valid. Specification: 5 Validation.
use Rattle.std.proofs.Common.{◌≡◌, ◌≤◌, ℕ, Option, None, Some, length, le_trans, refl, subst}
use Rattle.std.specs.Prelude.{IfSome}
use Rattle.graphql_documents.specs.declared.documents.executables.ExecutableDocument.{ExecutableDocument}
use Rattle.graphql_documents.specs.declared.documents.schemas.Schema.{Schema}
use Rattle.graphql_trees.specs.declared.documents.Document.{Document}
use Rattle.graphql_document_building.specs.BuildingRules.{DocumentBuilds}
use Rattle.graphql_document_building.specs.Documents.{DocumentSays}
use Rattle.graphql_frontend.specs.Documents.{EveryRuleHolds, IsBuiltFor, IsReachReport, JudgesDocument, JudgesTree, ReachesWithinBounds, ValidatesDocument, breaks_more, counted_bytes, does_not_build, is_built, is_document, is_no_document, most_reached, passes_its_bytes, passes_the_bounds, reaches_its_bytes, reaches_more}
use Rattle.graphql_frontend.specs.Texts.{IsDocumentOf}
use Rattle.graphql_frontend.specs.declared.reports.Reports.{Reports}
use Rattle.graphql_frontend.specs.declared.reports.Reports.TheVariants.{Syntax, Building, FirstBuilding, Nesting, Reach, Work, SchemaRules, FirstSchemaRules, DocumentRules, FirstDocumentRules}
use Rattle.graphql_frontend.specs.declared.texts.SourceText.{SourceText}
use Rattle.graphql_kept_rules.proofs.SaidTextLemmas.{said_text}
use Rattle.graphql_kept_rules.proofs.TextNestingLemmas.{nests_too}
use Rattle.graphql_kept_rules.proofs.TextReachedByteLemmas.{reaches_within_too}
use Rattle.graphql_kept_rules.specs.SameTexts.{SameText}
use Rattle.graphql_nesting.proofs.ExclusionLemmas.{report_excludes}
use Rattle.graphql_nesting.specs.Nesting.{NestsWithin}
use Rattle.graphql_parser.proofs.ParseLemmas.{one_document}
use Rattle.graphql_parser.specs.declared.bounds.Bounds.{Bounds}
use Rattle.graphql_reach.proofs.ReachLemmas.{first_not_within}
use Rattle.graphql_reach.specs.declared.reports.ReachReport.{ReachReport}
use Rattle.graphql_verdict_laws.specs.Limits.{ReportsNoLimit}

-- how a tree is valid
record ValidTree (bounds : Bounds) (bytes : ℕ) (schema : Schema) (tree : Document) : Type 0 where
  built : ExecutableDocument
  builds : DocumentBuilds (Some schema) tree
  says : DocumentSays (Some schema) tree built
  nests : NestsWithin bounds.depth built
  reaches : ReachesWithinBounds bounds bytes built
  rules : EveryRuleHolds (Some schema) built

reaches_bounds_too : (bounds : Bounds) (bytes : ℕ) (d e : ExecutableDocument) → SameText d e → ReachesWithinBounds bounds bytes d → ReachesWithinBounds bounds bytes e
reaches_bounds_too bounds bytes d e same (reaches_its_bytes reaches) = reaches_its_bytes (reaches_within_too (counted_bytes bytes) d e same reaches)
reaches_bounds_too bounds bytes d e same (reaches_more nests reaches) =
    reaches_more (nests_too 99 d e same nests) (reaches_within_too (most_reached bounds bytes) d e same reaches)

-- a document stays valid, whatever tree says it
abbrev pub StaysValid : Schema → Schema → Type 0
StaysValid old new =
    (t : Document) (d : ExecutableDocument) → DocumentBuilds (Some old) t → DocumentSays (Some old) t d → EveryRuleHolds (Some old) d →
    DocumentBuilds (Some new) t × ((e : ExecutableDocument) → DocumentSays (Some new) t e → EveryRuleHolds (Some new) e)

module _ (bounds : Bounds) (bytes : ℕ) (old new : Schema) (stays : StaysValid old new) where
  valid_tree : (tree : Document) (o : Option Reports) → JudgesTree bounds bytes (Some old) tree o → o ≡ None → ValidTree bounds bytes old tree
  valid_tree tree o (does_not_build no_build some each) e = absurd (let no : ⊥ = cc in no)
  valid_tree tree o (breaks_more first) e = absurd (let no : ⊥ = cc in no)
  valid_tree tree o (is_built built builds says for judges) e =
      let judged = subst (JudgesDocument bounds bytes (Some old) built) e judges in
      record { built = built; builds = builds; says = says; nests = judged.0; reaches = judged.1; rules = judged.2 for }

  module _ (enough : counted_bytes bytes ≤ most_reached bounds bytes) where
    within_reach : (d : ExecutableDocument) (report : ReachReport) → ReachesWithinBounds bounds bytes d → IsReachReport bounds bytes d report → ⊥
    within_reach d report (reaches_its_bytes within) (passes_its_bytes deep first) = first_not_within d first within
    within_reach d report (reaches_more nests within) (passes_its_bytes deep first) = deep nests
    within_reach d report (reaches_its_bytes within) (passes_the_bounds nests first) = first_not_within d first (λ n reaches. le_trans (within n reaches) enough)
    within_reach d report (reaches_more nests within) (passes_the_bounds also first) = first_not_within d first within

    module _ (t : Document) (v : ValidTree bounds bytes old t) where
      nothing_reported : (d : ExecutableDocument) → DocumentSays (Some new) t d → IsBuiltFor (Some new) d → (reports : Reports) → ReportsNoLimit reports →
          JudgesDocument bounds bytes (Some new) d (Some reports) → ⊥
      nothing_reported d says for (DocumentRules reports) no_limit (nests, reaches, some, are) =
          some ((are.decides for no_limit).1 ((stays t v.built v.builds v.says v.rules).1 d says))
      nothing_reported d says for (Nesting report) no_limit deep =
          report_excludes bounds.depth d report deep (nests_too bounds.depth v.built d (said_text old new t v.built d v.says says) v.nests)
      nothing_reported d says for (Reach report) no_limit (nests, far) =
          within_reach d report (reaches_bounds_too bounds bytes v.built d (said_text old new t v.built d v.says says) v.reaches) far
      nothing_reported d says for (Syntax reports) no_limit h = h
      nothing_reported d says for (Building reports) no_limit h = h
      nothing_reported d says for (SchemaRules reports) no_limit h = h
      nothing_reported d says for (FirstBuilding list) no_limit h = no_limit
      nothing_reported d says for (FirstSchemaRules list) no_limit h = no_limit
      nothing_reported d says for (FirstDocumentRules list) no_limit h = no_limit
      nothing_reported d says for (Work report) no_limit h = no_limit

      not_rejected : (o : Option Reports) → JudgesTree bounds bytes (Some new) t o → (reports : Reports) → ReportsNoLimit reports → o ≡ Some reports → ⊥
      not_rejected o (does_not_build no_build some each) reports no_limit e = no_build (stays t v.built v.builds v.says v.rules).0
      not_rejected o (breaks_more {list = list} first) reports no_limit e = subst ReportsNoLimit (let same : reports ≡ FirstBuilding list = cc in same) no_limit
      not_rejected o (is_built d builds says for judges) reports no_limit e =
          nothing_reported d says for reports no_limit (subst (JudgesDocument bounds bytes (Some new) d) e judges)

module _ (bounds : Bounds) (old new : Schema) (stays : StaysValid old new) (source : SourceText)
    (enough : counted_bytes (length source.text.now) ≤ most_reached bounds (length source.text.now)) where
  -- the tree of a valid text
  valid_text : (o : Option Reports) → ValidatesDocument bounds (Some old) source o → o ≡ None →
      (tree : Document) × IsDocumentOf bounds source tree × ValidTree bounds (length source.text.now) old tree
  valid_text o (is_no_document report error is) e = absurd (let no : ⊥ = cc in no)
  valid_text o (is_document tree is judges) e = (tree, is, valid_tree bounds (length source.text.now) old new stays tree o judges e)

  text_not_rejected : ValidatesDocument bounds (Some old) source None → (o : Option Reports) → ValidatesDocument bounds (Some new) source o → (reports : Reports) →
      ReportsNoLimit reports → o ≡ Some reports → ⊥
  text_not_rejected valid o (is_no_document report error is) reports no_limit e =
      let v = valid_text None valid refl in error.is_no_document v.0 v.1
  text_not_rejected valid o (is_document tree is judges) reports no_limit e =
      let v = valid_text None valid refl in
      let one : v.0 ≡ tree = one_document bounds bounds source.file_id source.text.now v.0 tree v.1 is in
      not_rejected bounds (length source.text.now) old new stays enough tree (subst (ValidTree bounds (length source.text.now) old) one v.2) o judges reports no_limit e

  pub text_stays_valid : (verdict : Option Reports) → ValidatesDocument bounds (Some old) source None → ValidatesDocument bounds (Some new) source verdict →
      IfSome verdict ReportsNoLimit → verdict ≡ None
  text_stays_valid None valid also no_limit = refl
  text_stays_valid (Some reports) valid also no_limit = absurd (text_not_rejected valid (Some reports) also reports no_limit refl)
