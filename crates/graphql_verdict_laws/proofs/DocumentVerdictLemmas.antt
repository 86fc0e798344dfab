-- Documents that are valid by one choice of typed values are valid by each.
use Rattle.std.proofs.Common.{◌≡◌, ◌∙◌, ◌≤◌, ℕ, List, Option, None, Some, length, le_trans, map, refl, sym, ap, subst}
use Rattle.std.specs.Prelude.{All, IfSome, flat_map, option_to_list}
use Rattle.std.specs.List.{AllZip}
use Rattle.graphql_building_laws.specs.SameSchemas.{SameSchema}
use Rattle.graphql_document_building.specs.BuildingRules.{AnonymousOperationIsAlone, DefinitionBuilds, DocumentBuilds}
use Rattle.graphql_document_building.specs.Documents.{DocumentSays, FragmentSays, OperationSays, SaysUnderName}
use Rattle.graphql_document_building.specs.SameDocuments.{SameDocument}
use Rattle.graphql_document_building.specs.Trees.{anonymous_operations_in, fragments_in, named_operations_in}
use Rattle.graphql_documents.specs.Contents.{SameIfAny}
use Rattle.graphql_documents.specs.declared.documents.executables.ExecutableDocument.{ExecutableDocument}
use Rattle.graphql_documents.specs.declared.documents.schemas.Schema.{Schema}
use Rattle.graphql_frontend.specs.Documents.{EveryRuleHolds, IsBuiltFor, IsReachReport, JudgesDocument, JudgesTree, ReachesWithinBounds, ValidatesDocument, ValidatesDocuments, are_documents, are_not_all_documents, breaks_more, bytes_of, counted_bytes, does_not_build, is_built, is_document, is_no_document, most_reached, passes_its_bytes, passes_the_bounds, reaches_its_bytes, reaches_more}
use Rattle.graphql_frontend.specs.Texts.{IsDocumentOf}
use Rattle.graphql_frontend.specs.declared.reports.Reports.{Reports}
use Rattle.graphql_frontend.specs.declared.reports.Reports.TheVariants.{Syntax, Building, FirstBuilding, Nesting, Reach, Work, SchemaRules, FirstSchemaRules, DocumentRules, FirstDocumentRules}
use Rattle.graphql_frontend.specs.declared.texts.SourceText.{SourceText}
use Rattle.graphql_nodes.specs.Names.{AreDistinct}
use Rattle.graphql_nesting.proofs.ExclusionLemmas.{report_excludes}
use Rattle.graphql_nesting.specs.Nesting.{NestsWithin}
use Rattle.graphql_parser.proofs.ParseLemmas.{one_document}
use Rattle.graphql_parser.specs.declared.bounds.Bounds.{Bounds}
use Rattle.graphql_reach.proofs.ReachLemmas.{first_not_within}
use Rattle.graphql_reach.specs.declared.reports.ReachReport.{ReachReport}
use Rattle.graphql_sameness_laws.proofs.BuildingLemmas.{document_builds_too}
use Rattle.graphql_sameness_laws.proofs.NestingLemmas.{nests_too}
use Rattle.graphql_sameness_laws.proofs.SaidDocumentLemmas.{said_against_same_schemas}
use Rattle.graphql_trees.specs.declared.documents.Document.{Document}
use Rattle.graphql_verdict_laws.proofs.EveryRuleLemmas.{every_rule_too, reaches_within_bounds_too}
use Rattle.graphql_verdict_laws.proofs.TextTreeLemmas.{no_errors, one_trees}
use Rattle.graphql_verdict_laws.specs.Limits.{ReportsNoLimit}

-- ==== trees of the same definitions

says_by_definitions : (schema : Option Schema) (t u : Document) (d : ExecutableDocument) → t.definitions ≡ u.definitions → DocumentSays schema t d → DocumentSays schema u d
says_by_definitions schema t u d e h = record {
  anonymous = subst (λ definitions. AllZip (OperationSays schema) (anonymous_operations_in definitions) (option_to_list d.operations.anonymous)) e h.anonymous;
  named = subst (λ definitions. AllZip (SaysUnderName (OperationSays schema)) (named_operations_in definitions) d.operations.named.entries) e h.named;
  fragments = subst (λ definitions. AllZip (SaysUnderName (FragmentSays schema)) (fragments_in definitions) d.fragments.entries) e h.fragments;
}

builds_by_definitions : (schema : Option Schema) (t u : Document) → t.definitions ≡ u.definitions → DocumentBuilds schema t → DocumentBuilds schema u
builds_by_definitions schema t u e h = record {
  definitions = subst (All (DefinitionBuilds schema)) e h.definitions;
  anonymous_operation = subst AnonymousOperationIsAlone e h.anonymous_operation;
  operation_names = subst (λ definitions. AreDistinct (map (λ p. p.0) (named_operations_in definitions))) e h.operation_names;
  fragment_names = subst (λ definitions. AreDistinct (map (λ p. p.0) (fragments_in definitions))) e h.fragment_names;
}

builds_too : (a b : Option Schema) → SameIfAny SameSchema a b → (t : Document) → DocumentBuilds a t → DocumentBuilds b t
builds_too None None schemas t h = h
builds_too None (Some b) schemas t h = absurd schemas
builds_too (Some a) None schemas t h = absurd schemas
builds_too (Some a) (Some b) schemas t h = document_builds_too a b schemas t h

-- ==== trees

-- how a tree is valid
record ValidTree (bounds : Bounds) (bytes : ℕ) (schema : Option Schema) (tree : Document) : Type 0 where
  built : ExecutableDocument
  builds : DocumentBuilds schema tree
  says : DocumentSays schema tree built
  nests : NestsWithin bounds.depth built
  reaches : ReachesWithinBounds bounds bytes built
  rules : EveryRuleHolds schema built

module _ (bounds : Bounds) (bytes : ℕ) where
  valid_tree : (schema : Option Schema) (tree : Document) (o : Option Reports) → JudgesTree bounds bytes schema tree o → o ≡ None → ValidTree bounds bytes schema tree
  valid_tree schema tree o (does_not_build no_build some each) e = absurd (let no : ⊥ = cc in no)
  valid_tree schema tree o (breaks_more first) e = absurd (let no : ⊥ = cc in no)
  valid_tree schema tree o (is_built built builds says for judges) e =
      let judged = subst (JudgesDocument bounds bytes schema built) e judges in
      record { built = built; builds = builds; says = says; nests = judged.0; reaches = judged.1; rules = judged.2 for }

  module _ (enough : counted_bytes bytes ≤ most_reached bounds bytes) where
    within_reach : (d : ExecutableDocument) (report : ReachReport) → ReachesWithinBounds bounds bytes d → IsReachReport bounds bytes d report → ⊥
    within_reach d report (reaches_its_bytes within) (passes_its_bytes deep first) = first_not_within d first within
    within_reach d report (reaches_more nests within) (passes_its_bytes deep first) = deep nests
    within_reach d report (reaches_its_bytes within) (passes_the_bounds nests first) = first_not_within d first (λ n reaches. le_trans (within n reaches) enough)
    within_reach d report (reaches_more nests within) (passes_the_bounds also first) = first_not_within d first within

    module _ (a b : Option Schema) (schemas : SameIfAny SameSchema a b) (t u : Document) (same : t.definitions ≡ u.definitions) (v : ValidTree bounds bytes a t) where
      built_alike : (d : ExecutableDocument) → DocumentSays b u d → SameDocument None v.built d
      built_alike d says = said_against_same_schemas a b schemas t v.built d v.says (says_by_definitions b u t d (sym same) says)

      nothing_reported : (d : ExecutableDocument) → DocumentSays b u d → IsBuiltFor b d → (reports : Reports) → ReportsNoLimit reports →
          JudgesDocument bounds bytes b d (Some reports) → ⊥
      nothing_reported d says for (DocumentRules reports) no_limit (nests, reaches, some, are) =
          some ((are.decides for no_limit).1 (every_rule_too a b schemas v.built d (built_alike d says) v.rules))
      nothing_reported d says for (Nesting report) no_limit deep = report_excludes bounds.depth d report deep (nests_too bounds.depth v.built d (built_alike d says) v.nests)
      nothing_reported d says for (Reach report) no_limit (nests, far) =
          within_reach d report (reaches_within_bounds_too bounds bytes v.built d (built_alike d says) v.reaches) far
      nothing_reported d says for (Syntax reports) no_limit h = h
      nothing_reported d says for (Building reports) no_limit h = h
      nothing_reported d says for (SchemaRules reports) no_limit h = h
      nothing_reported d says for (FirstBuilding list) no_limit h = no_limit
      nothing_reported d says for (FirstSchemaRules list) no_limit h = no_limit
      nothing_reported d says for (FirstDocumentRules list) no_limit h = no_limit
      nothing_reported d says for (Work report) no_limit h = no_limit

      tree_not_rejected : (o : Option Reports) → JudgesTree bounds bytes b u o → (reports : Reports) → ReportsNoLimit reports → o ≡ Some reports → ⊥
      tree_not_rejected o (does_not_build no_build some each) reports no_limit e = no_build (builds_by_definitions b t u same (builds_too a b schemas t v.builds))
      tree_not_rejected o (breaks_more {list = list} first) reports no_limit e =
          subst ReportsNoLimit (let same : reports ≡ FirstBuilding list = cc in same) no_limit
      tree_not_rejected o (is_built d builds says for judges) reports no_limit e =
          nothing_reported d says for reports no_limit (subst (JudgesDocument bounds bytes b d) e judges)

-- ==== one text, and several texts

module _ (bounds : Bounds) (a b : Option Schema) (schemas : SameIfAny SameSchema a b) where
  module _ (source : SourceText) (enough : counted_bytes (length source.text.now) ≤ most_reached bounds (length source.text.now)) where
    -- the tree of a valid text
    valid_text : (o : Option Reports) → ValidatesDocument bounds a source o → o ≡ None →
        (tree : Document) × IsDocumentOf bounds source tree × ValidTree bounds (length source.text.now) a tree
    valid_text o (is_no_document report error is) e = absurd (let no : ⊥ = cc in no)
    valid_text o (is_document tree is judges) e = (tree, is, valid_tree bounds (length source.text.now) a tree o judges e)

    text_not_rejected : ValidatesDocument bounds a source None → (o : Option Reports) → ValidatesDocument bounds b source o → (reports : Reports) →
        ReportsNoLimit reports → o ≡ Some reports → ⊥
    text_not_rejected valid o (is_no_document report error is) reports no_limit e =
        let v = valid_text None valid refl in error.is_no_document v.0 v.1
    text_not_rejected valid o (is_document tree is judges) reports no_limit e =
        let v = valid_text None valid refl in
        let one : v.0 ≡ tree = one_document bounds bounds source.file_id source.text.now v.0 tree v.1 is in
        tree_not_rejected bounds (length source.text.now) enough a b schemas v.0 tree (ap (λ (t : Document). t.definitions) one) v.2 o judges reports no_limit e

    pub one_document_verdict : (o : Option Reports) → ValidatesDocument bounds a source None → ValidatesDocument bounds b source o → IfSome o ReportsNoLimit → o ≡ None
    one_document_verdict None valid also no_limit = refl
    one_document_verdict (Some reports) valid also no_limit = absurd (text_not_rejected valid (Some reports) also reports no_limit refl)

  module _ (sources : List SourceText) (enough : counted_bytes (bytes_of sources) ≤ most_reached bounds (bytes_of sources)) where
    record ValidTrees : Type 0 where
      trees : List Document
      tree : Document
      are : AllZip (IsDocumentOf bounds) sources trees
      definitions : tree.definitions ≡ flat_map (λ (t : Document). t.definitions) trees
      valid : ValidTree bounds (bytes_of sources) a tree

    valid_texts : (o : Option Reports) → ValidatesDocuments bounds a sources o → o ≡ None → ValidTrees
    valid_texts o (are_not_all_documents trees parses some) e = absurd (let no : ⊥ = cc in no)
    valid_texts o (are_documents trees tree are has judges) e = record {
      trees = trees;
      tree = tree;
      are = are;
      definitions = has;
      valid = valid_tree bounds (bytes_of sources) a tree o judges e;
    }

    texts_not_rejected : ValidTrees → (o : Option Reports) → ValidatesDocuments bounds b sources o → (reports : Reports) → ReportsNoLimit reports → o ≡ Some reports → ⊥
    texts_not_rejected v o (are_not_all_documents trees parses some) reports no_limit e = some (no_errors bounds parses v.trees v.are)
    texts_not_rejected v o (are_documents trees tree are has judges) reports no_limit e =
        let one : v.trees ≡ trees = one_trees bounds sources v.trees trees v.are are in
        let same : v.tree.definitions ≡ tree.definitions = v.definitions ∙ ap (flat_map (λ (t : Document). t.definitions)) one ∙ sym has in
        tree_not_rejected bounds (bytes_of sources) enough a b schemas v.tree tree same v.valid o judges reports no_limit e

    pub one_documents_verdict : (o : Option Reports) → ValidatesDocuments bounds a sources None → ValidatesDocuments bounds b sources o → IfSome o ReportsNoLimit → o ≡ None
    one_documents_verdict None valid also no_limit = refl
    one_documents_verdict (Some reports) valid also no_limit =
        absurd (texts_not_rejected (valid_texts None valid refl) (Some reports) also reports no_limit refl)
