-- What is reported of all files is true of what is known of them. Specification: 5 Validation.
use Rattle.std.proofs.Common.{List, ◌++◌, Some, refl, subst}
use Rattle.std.specs.Prelude.{All, Contains}
use Rattle.std.specs.List.{AllZip}
use Rattle.std.proofs.lemmas.List.Elements.{Contains-append_left, Contains-append_right}
use Rattle.graphql_diagnostics.specs.Reports.{KeepsReports}
use Rattle.graphql_documents.proofs.ListLemmas.{each_standing}
use Rattle.graphql_documents.specs.declared.documents.schemas.Schema.{Schema}
use Rattle.graphql_document_checking.specs.BuildingRules.{DocumentBuilds}
use Rattle.graphql_frontend.specs.declared.reports.Reports.{Reports}
use Rattle.graphql_frontend.specs.declared.texts.SourceText.{SourceText}
use Rattle.graphql_parser.specs.declared.bounds.Bounds.{Bounds}
use Rattle.graphql_projects.specs.OperationTrees.{fragments_among}
use Rattle.graphql_projects.specs.Projects.{ReadFiles}
use Rattle.graphql_trees.specs.declared.documents.Document.{Document}
use Rattle.graphql_project_checking.proofs.ErrorLemmas.{errors_of_more}
use Rattle.graphql_project_checking.proofs.TreeLemmas.{whole_parts}
use Rattle.graphql_project_checking.proofs.TruthLemmas.{adds_so, adds_then}
use Rattle.graphql_project_checking.specs.Silence.{HasFragmentsOf}
use Rattle.graphql_project_checking.specs.Truth.{AddsOfParts, AddsTrue, AreAllKnown, AreErrorsOf, AreOfBuilding, AreOfOneDocument, AreOfParts, AreOfRules, AreOfWhole, AreTrueOf, IsFragmentNameReport, IsUnusedEntry, KnownFiles, ParsedFiles, of_fragment_names, of_known_parts, of_one_document, of_parts, of_texts, of_unused, of_unused_fragments, pool_of_files}

module _ (bounds : Bounds) (s : Schema) (sources lent : List SourceText) where
  -- what is reported before operations are looked at
  module _ (known : KnownFiles bounds s sources lent) where
    abbrev IsTrueOfKnown : Reports → Type 0
    IsTrueOfKnown = AreTrueOf bounds s sources lent known

    of_own_texts : (r : Reports) → AreErrorsOf bounds sources r → IsTrueOfKnown r
    of_own_texts r are = of_texts (errors_of_more bounds sources (sources ++ lent) (each_standing (Contains (sources ++ lent)) sources (Contains-append_left sources lent)) r are)

    of_lent_texts : (r : Reports) → AreErrorsOf bounds lent r → IsTrueOfKnown r
    of_lent_texts r are = of_texts (errors_of_more bounds lent (sources ++ lent) (each_standing (Contains (sources ++ lent)) lent (Contains-append_right sources lent)) r are)

    of_own_document : (r : Reports) → AreOfOneDocument s known.trees r → IsTrueOfKnown r
    of_own_document r are = of_one_document (are.0, Contains-append_left known.trees known.lent_trees are.0 are.1, are.2)

    of_lent_document : (r : Reports) → AreOfOneDocument s known.lent_trees r → IsTrueOfKnown r
    of_lent_document r are = of_one_document (are.0, Contains-append_right known.trees known.lent_trees are.0 are.1, are.2)

    pub adds_before : (old a b c d e : List Reports) → KeepsReports (AreErrorsOf bounds sources) old a → KeepsReports (AreErrorsOf bounds lent) a b →
        KeepsReports (AreOfBuilding (IsFragmentNameReport (known.trees ++ known.lent_trees))) b c → KeepsReports (AreOfOneDocument s known.trees) c d →
        KeepsReports (AreOfOneDocument s known.lent_trees) d e → KeepsReports IsTrueOfKnown old e
    adds_before old a b c d e first second third fourth fifth =
        adds_then IsTrueOfKnown old a e (adds_so (AreErrorsOf bounds sources) IsTrueOfKnown old a of_own_texts first)
        (adds_then IsTrueOfKnown a b e (adds_so (AreErrorsOf bounds lent) IsTrueOfKnown a b of_lent_texts second)
        (adds_then IsTrueOfKnown b c e (adds_so (AreOfBuilding (IsFragmentNameReport (known.trees ++ known.lent_trees))) IsTrueOfKnown b c (λ r are. of_fragment_names are) third)
        (adds_then IsTrueOfKnown c d e (adds_so (AreOfOneDocument s known.trees) IsTrueOfKnown c d of_own_document fourth)
        (adds_so (AreOfOneDocument s known.lent_trees) IsTrueOfKnown d e of_lent_document fifth))))

    of_whole_files : AreAllKnown known → (r : Reports) → AreOfWhole bounds s (pool_of_files known) known.parts r → IsTrueOfKnown r
    of_whole_files all r (of_parts are) = of_known_parts are
    of_whole_files all r (of_unused are) = of_unused_fragments all (subst (λ l. AreOfRules (IsUnusedEntry (pool_of_files known) l) r) all.whole are)

  module _ (own lent_trees fragments : List Document) (are : ParsedFiles bounds sources own) (lent_are : ParsedFiles bounds lent lent_trees)
      (are_fragments : AllZip HasFragmentsOf lent_trees fragments) (old a b c d e new : List Reports) (first : KeepsReports (AreErrorsOf bounds sources) old a)
      (second : KeepsReports (AreErrorsOf bounds lent) a b) (third : KeepsReports (AreOfBuilding (IsFragmentNameReport (own ++ lent_trees))) b c)
      (fourth : KeepsReports (AreOfOneDocument s own) c d) (fifth : KeepsReports (AreOfOneDocument s lent_trees) d e) where
    -- each file can be built
    pub adds_whole : ReadFiles bounds sources own → ReadFiles bounds lent lent_trees → All (DocumentBuilds (Some s)) own → All (DocumentBuilds (Some s)) fragments →
        KeepsReports (AreOfWhole bounds s (fragments_among (own ++ fragments)) own) e new → AddsTrue bounds s sources lent old new
    adds_whole read lent_read builds lent_build adds =
        let known : KnownFiles bounds s sources lent = record {
          trees = own;
          lent_trees = lent_trees;
          are = are;
          lent_are = lent_are;
          lent_fragments = fragments;
          are_fragments = are_fragments;
          parts = own;
          lent_parts = fragments;
          are_parts = whole_parts s own builds;
          are_lent_parts = whole_parts s fragments lent_build;
        } in
        let True = AreTrueOf bounds s sources lent known in (
          known,
          adds_then True old e new (adds_before known old a b c d e first second third fourth fifth)
              (adds_so (AreOfWhole bounds s (fragments_among (own ++ fragments)) own) True e new (of_whole_files known (record { are_read = read; lent_are_read = lent_read; whole = refl; lent_whole = refl })) adds),
        )

    -- parts of them can
    pub adds_parts : AddsOfParts bounds s own fragments e new → AddsTrue bounds s sources lent old new
    adds_parts adds =
        let known : KnownFiles bounds s sources lent = record {
          trees = own;
          lent_trees = lent_trees;
          are = are;
          lent_are = lent_are;
          lent_fragments = fragments;
          are_fragments = are_fragments;
          parts = adds.0;
          lent_parts = adds.1;
          are_parts = adds.2;
          are_lent_parts = adds.3;
        } in
        let True = AreTrueOf bounds s sources lent known in (
          known,
          adds_then True old e new (adds_before known old a b c d e first second third fourth fifth)
              (adds_so (AreOfParts bounds s (fragments_among (adds.0 ++ adds.1)) adds.0) True e new (λ r are. of_known_parts are) adds.4),
        )
