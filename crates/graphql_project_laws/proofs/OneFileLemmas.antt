-- If a project of one file holds, every rule holds of the document of the file. Specification: 5 Validation.
use Rattle.std.proofs.Common.{◌≡◌, ◌∙◌, ◌++◌, List, [], ◌∷◌, Option, None, Some, map, ap, refl, sym, subst}
use Rattle.std.specs.Prelude.{◌≢◌, All, Any, Contains, option_to_list}
use Rattle.std.specs.List.{AllZip}
use Rattle.std.proofs.lemmas.List.{append-nil}
use Rattle.std.proofs.lemmas.List.Elements.{All-contains, All-head}
use Rattle.indexmap.specs.IndexMap.{values}
use Rattle.graphql_nodes.specs.Names.{AreDistinct, NameText, SameName, same_name}
use Rattle.graphql_nodes.specs.declared.nodes.Node.{Node}
use Rattle.graphql_documents.proofs.ListLemmas.{each_standing, made_of}
use Rattle.graphql_documents.specs.Executables.{operations_of}
use Rattle.graphql_documents.specs.Selections.{fragments_of}
use Rattle.graphql_documents.specs.declared.documents.executables.ExecutableDocument.{ExecutableDocument}
use Rattle.graphql_documents.specs.declared.documents.executables.Fragment.{Fragment}
use Rattle.graphql_documents.specs.declared.documents.executables.Operation.{Operation}
use Rattle.graphql_documents.specs.declared.documents.schemas.Schema.{Schema}
use Rattle.graphql_trees.specs.declared.documents.Definition.TheVariants as definition
use Rattle.graphql_trees.specs.declared.documents.Document.{Document}
use Rattle.graphql_trees.specs.declared.executable.FragmentDefinition.{FragmentDefinition}
use Rattle.graphql_trees.specs.declared.executable.OperationDefinition.{OperationDefinition}
use Rattle.graphql_document_building.proofs.SameDocumentLemmas.{document_is_same}
use Rattle.graphql_document_building.specs.BuildingRules.{DefinitionBuilds, DocumentBuilds}
use Rattle.graphql_document_building.specs.Documents.{DocumentSays, FragmentSays, OperationSays, SaysUnderName}
use Rattle.graphql_document_building.specs.Trees.{anonymous_operations_in, fragments_in, named_operations_in, operations_in}
use Rattle.graphql_frontend.specs.Documents.{EveryRuleHolds}
use Rattle.graphql_frontend.specs.Texts.{IsDocumentOf}
use Rattle.graphql_frontend.specs.declared.texts.SourceText.{SourceText}
use Rattle.graphql_operation_laws.proofs.OperationRuleLemmas.{rules_hold_alike}
use Rattle.graphql_operation_laws.specs.OperationRules.{OperationRulesHold}
use Rattle.graphql_parser.specs.declared.bounds.Bounds.{Bounds}
use Rattle.graphql_sameness_laws.proofs.DeferLemmas.{defer_holds_too}
use Rattle.graphql_sameness_laws.proofs.SelectionLemmas.{loose_document}
use Rattle.graphql_sameness_laws.proofs.WrittenValueLemmas.{input_fields_unique_too}
use Rattle.graphql_specification.specs.Defer.{DeferHolds}
use Rattle.graphql_specification.specs.FragmentsUsed.{IsFragmentUsed}
use Rattle.graphql_projects.specs.Lexical.{AreTokens}
use Rattle.graphql_verdict_laws.proofs.EveryRuleLemmas.{one_schema_too}
use Rattle.graphql_projects.specs.OperationTrees.{Pool, ReachesFragment, fragments_among}
use Rattle.graphql_projects.specs.Projects.{FileHolds, OperationIsValid, ProjectHolds, ReadFiles, empty_file, next_file, no_file, operations_among}
use Rattle.graphql_project_laws.proofs.DocumentLemmas.{holds_by_operations}
use Rattle.graphql_projects.proofs.OperationDocumentLemmas.{document_of, document_says, entries_for, fragments_agree}
use Rattle.graphql_projects.proofs.SaidDefinitionLemmas.{found_by_name, found_entry, operation_is_said, operation_says}
use Rattle.graphql_projects.proofs.SaidReachLemmas.{names_say, tree_spread_is_reached, zip_first}

-- ==== the trees of the files

no_trees : {bounds : Bounds} {sources : List SourceText} {trees : List Document} → ReadFiles bounds sources trees → sources ≡ [] → trees ≡ []
no_trees no_file is = refl
no_trees (empty_file tokens rest) is = absurd (let h : ⊥ = cc in h)
no_trees (next_file document rest) is = absurd (let h : ⊥ = cc in h)

one_tree : {bounds : Bounds} {sources : List SourceText} {trees : List Document} → ReadFiles bounds sources trees → (source : SourceText) → sources ≡ source ∷ [] →
    ¬ AreTokens source.text.now [] → (tree : Document) × (trees ≡ tree ∷ []) × IsDocumentOf bounds source tree
one_tree no_file source is has_token = absurd (let h : ⊥ = cc in h)
one_tree (empty_file {source = first} {sources = rest} tokens others) source is has_token =
    let same : first ≡ source = cc in
    absurd (has_token (subst (λ (s : SourceText). AreTokens s.text.now []) same tokens))
one_tree {bounds} (next_file {source = first} {sources = rest} {tree = tree} document others) source is has_token =
    let same : first ≡ source = cc in
    let none : rest ≡ [] = cc in
    (tree, ap (λ l. tree ∷ l) (no_trees others none), subst (λ s. IsDocumentOf bounds s tree) same document)

-- ==== one file

-- what a project of one file asks, with the fragments of the file
record OneFileHolds (schema : Schema) (tree : Document) : Type 0 where
  build : All (DefinitionBuilds (Some schema)) tree.definitions
  fragment_names : AreDistinct (map (λ p. p.0) (fragments_in tree.definitions))
  file : FileHolds schema (fragments_in tree.definitions) tree
  operations : All (OperationIsValid schema (fragments_in tree.definitions)) (operations_in tree.definitions)
  used : All (λ p. Any (λ x. ReachesFragment (fragments_in tree.definitions) x p.1) (operations_in tree.definitions)) (fragments_in tree.definitions)

one_pool : (tree : Document) → fragments_among (tree ∷ []) ≡ fragments_in tree.definitions
one_pool tree = append-nil (fragments_in tree.definitions)

one_list : (tree : Document) → operations_among (tree ∷ []) ≡ operations_in tree.definitions
one_list tree = append-nil (operations_in tree.definitions)

one_file : (bounds : Bounds) (schema : Schema) (source : SourceText) (p : ProjectHolds bounds schema (source ∷ []) []) (tree : Document) → p.trees ≡ tree ∷ [] →
    OneFileHolds schema tree
one_file bounds schema source p tree is =
    let none : p.lent_trees ≡ [] = no_trees p.lent_are refl in
    let all : p.trees ++ p.lent_trees ≡ tree ∷ [] = ap (λ l. p.trees ++ l) none ∙ append-nil p.trees ∙ is in
    let pool : fragments_among (p.trees ++ p.lent_trees) ≡ fragments_in tree.definitions = ap fragments_among all ∙ one_pool tree in
    let operations : operations_among p.trees ≡ operations_in tree.definitions = ap operations_among is ∙ one_list tree in
    let fragments : fragments_among p.trees ≡ fragments_in tree.definitions = ap fragments_among is ∙ one_pool tree in
    record {
      build = All-head (λ (t : Document). All (DefinitionBuilds (Some schema)) t.definitions) tree []
          (subst (All (λ (t : Document). All (DefinitionBuilds (Some schema)) t.definitions)) all p.build);
      fragment_names = subst (λ (l : Pool). AreDistinct (map (λ q. q.0) l)) pool p.fragment_names;
      file = subst (λ l. FileHolds schema l tree) pool
          (All-head (FileHolds schema (fragments_among (p.trees ++ p.lent_trees))) tree [] (subst (All (FileHolds schema (fragments_among (p.trees ++ p.lent_trees)))) is p.files));
      operations = subst (λ l. All (OperationIsValid schema l) (operations_in tree.definitions)) pool
          (subst (All (OperationIsValid schema (fragments_among (p.trees ++ p.lent_trees)))) operations p.operations);
      used = subst (λ (l : Pool). All (λ q. Any (λ x. ReachesFragment l x q.1) (operations_in tree.definitions)) (fragments_in tree.definitions)) pool
          (subst (λ (l : Pool). All (λ q. Any (λ x. ReachesFragment (fragments_among (p.trees ++ p.lent_trees)) x q.1) (operations_in tree.definitions)) l) fragments
          (subst (λ (l : List OperationDefinition). All (λ q. Any (λ x. ReachesFragment (fragments_among (p.trees ++ p.lent_trees)) x q.1) l) (fragments_among p.trees)) operations p.used));
    }

-- ==== the rules of its operations

first_holds : (schema : Option Schema) (d : ExecutableDocument) (n : Option NameText) (o : Node Operation) (entries : List (NameText × Node Fragment)) →
    All (OperationRulesHold schema (document_of d n o entries)) (operations_of (document_of d n o entries)) → OperationRulesHold schema (document_of d n o entries) o
first_holds schema d None o entries h = All-head (OperationRulesHold schema (document_of d None o entries)) o [] h
first_holds schema d (Some name) o entries h = All-head (OperationRulesHold schema (document_of d (Some name) o entries)) o [] h

module _ (schema : Schema) (tree : Document) (h : OneFileHolds schema tree) where
  operation_holds : (d : ExecutableDocument) → DocumentSays (Some schema) tree d → (o : Node Operation) → Contains (operations_of d) o → OperationRulesHold (Some schema) d o
  operation_holds d says o there =
      let x = operation_is_said (Some schema) tree d says o there in
      let valid = All-contains (OperationIsValid schema (fragments_in tree.definitions)) (operations_in tree.definitions) x.0 h.operations x.1 in
      let whole = valid.0 in
      let is_tree = valid.2 in
      let entries = entries_for (Some schema) tree d says x.0 is_tree.fragments is_tree.each in
      let own = document_of d x.0.name o entries.0 in
      let own_says = document_says (Some schema) d x.0 o x.2 is_tree.fragments entries.0 entries.1 whole is_tree.definitions_are x.0.name refl in
      let every = one_schema_too (Some schema) valid.1 own (document_is_same (Some schema) whole valid.1 own valid.3 own_says) valid.4 in
      let rules = first_holds (Some schema) d x.0.name o entries.0 ((holds_by_operations (Some schema) own).0 every).0 in
      (rules_hold_alike (Some schema) d own o (fragments_agree (Some schema) tree d says x.0 o x.2 whole is_tree entries.0 entries.1 entries.2 x.0.name)).1 rules

  operations_hold : (d : ExecutableDocument) → DocumentSays (Some schema) tree d → All (OperationRulesHold (Some schema) d) (operations_of d)
  operations_hold d says = each_standing (OperationRulesHold (Some schema) d) (operations_of d) (operation_holds d says)

  -- ==== no fragment is borrowed

  reached_is_own : (d : FragmentDefinition) → Any (λ x. ReachesFragment (fragments_in tree.definitions) x d) (operations_in tree.definitions) →
      All (λ p. p.1 ≢ d) (fragments_in tree.definitions) → ⊥
  reached_is_own d any none =
      let reaches = any.4 in
      let found = found_entry (same_name reaches.name) (fragments_in tree.definitions) d reaches.found in
      All-contains (λ p. p.1 ≢ d) (fragments_in tree.definitions) (found.0, d) none found.1 refl

  none_borrowed : (borrowed : List FragmentDefinition) → All (λ d. Any (λ x. ReachesFragment (fragments_in tree.definitions) x d) (operations_in tree.definitions)) borrowed →
      All (λ d. All (λ p. p.1 ≢ d) (fragments_in tree.definitions)) borrowed → borrowed ≡ []
  none_borrowed [] each others = refl
  none_borrowed (d ∷ ds) each others =
      absurd (reached_is_own d (All-head (λ d. Any (λ x. ReachesFragment (fragments_in tree.definitions) x d) (operations_in tree.definitions)) d ds each)
      (All-head (λ d. All (λ p. p.1 ≢ d) (fragments_in tree.definitions)) d ds others))

  own_definitions : h.file.whole.definitions ≡ tree.definitions
  own_definitions =
      h.file.is_whole.definitions_are ∙
      ap (λ ds. tree.definitions ++ map definition.Fragment ds) (none_borrowed h.file.is_whole.borrowed h.file.is_whole.each h.file.is_whole.others) ∙
      append-nil tree.definitions

  file_says : DocumentSays (Some schema) tree h.file.document
  file_says = record {
    anonymous = subst (λ ds. AllZip (OperationSays (Some schema)) (anonymous_operations_in ds) (option_to_list h.file.document.operations.anonymous)) own_definitions h.file.says.anonymous;
    named = subst (λ ds. AllZip (SaysUnderName (OperationSays (Some schema))) (named_operations_in ds) h.file.document.operations.named.entries) own_definitions h.file.says.named;
    fragments = subst (λ ds. AllZip (SaysUnderName (FragmentSays (Some schema))) (fragments_in ds) h.file.document.fragments.entries) own_definitions h.file.says.fragments;
  }

  -- ==== the rules that are asked of the whole document

  file_defers : DeferHolds h.file.document
  file_defers = record { labels = h.file.labels; operations = λ k d within. (operations_hold h.file.document file_says k d within).defer }

  module _ (d : ExecutableDocument) (says : DocumentSays (Some schema) tree d) where
    fragment_used : (f : Node Fragment) → Contains (values d.fragments) f → IsFragmentUsed d f.value.value
    fragment_used f there =
        let pool = fragments_in tree.definitions in
        let e = made_of (λ (p : NameText × Node Fragment). p.1) d.fragments.entries f there in
        let y = zip_first (SaysUnderName (FragmentSays (Some schema))) pool d.fragments.entries e.0 says.fragments e.1 in
        let any = All-contains (λ q. Any (λ x. ReachesFragment pool x q.1) (operations_in tree.definitions)) pool y.0 h.used y.1 in
        let reaches = any.4 in
        let o = operation_says (Some schema) tree d says any.1 (any.0, any.2, any.3) in
        let p = tree_spread_is_reached (Some schema) pool (fragments_of d) (λ name. names_say (Some schema) name pool d.fragments.entries says.fragments) reaches.spread
        o.0.value.value.selection_set (o.0.value.value.selection_set.ty, o.2.selections) in
        let name : f.value.value.name ≡ y.0.1.name = ap (λ (n : Node Fragment). n.value.value.name) (sym e.2) ∙ y.2.1.name in
        let named = found_by_name tree.definitions reaches.name y.0.1 reaches.found in
        (o.1.0, o.0, o.1.1, o.1.2, (p.0, p.1, subst (λ n. SameName n f.value.value.name) (sym p.2) (subst (SameName reaches.name) (sym name) named)))

    every_rule_holds : EveryRuleHolds (Some schema) d
    every_rule_holds =
        let same = loose_document (Some schema) h.file.document d (document_is_same (Some schema) tree h.file.document d file_says says) in
        (holds_by_operations (Some schema) d).1 (
          operations_hold d says,
          (defer_holds_too h.file.document d same file_defers).labels,
          each_standing (λ f. IsFragmentUsed d f.value.value) (values d.fragments) fragment_used,
          input_fields_unique_too h.file.document d same h.file.input_fields,
        )

pub one_file_is_valid : (bounds : Bounds) (schema : Schema) (source : SourceText) → ¬ AreTokens source.text.now [] → ProjectHolds bounds schema (source ∷ []) [] →
    (tree : Document) × IsDocumentOf bounds source tree × DocumentBuilds (Some schema) tree ×
    ((document : ExecutableDocument) → DocumentSays (Some schema) tree document → EveryRuleHolds (Some schema) document)
one_file_is_valid bounds schema source has_token p =
    let tree = one_tree p.are source refl has_token in
    let h = one_file bounds schema source p tree.0 tree.1 in (
      tree.0,
      tree.2,
      record { definitions = h.build; anonymous_operation = h.file.alone; operation_names = h.file.operation_names; fragment_names = h.fragment_names },
      every_rule_holds schema tree.0 h,
    )

-- and the document of the file is one that its text says
pub one_file_is_a_document : (bounds : Bounds) (schema : Schema) (source : SourceText) → ¬ AreTokens source.text.now [] → ProjectHolds bounds schema (source ∷ []) [] →
    (tree : Document) × (document : ExecutableDocument) × IsDocumentOf bounds source tree × DocumentBuilds (Some schema) tree ×
    DocumentSays (Some schema) tree document × EveryRuleHolds (Some schema) document
one_file_is_a_document bounds schema source has_token p =
    let tree = one_tree p.are source refl has_token in
    let h = one_file bounds schema source p tree.0 tree.1 in
    let says = file_says schema tree.0 h in (
      tree.0,
      h.file.document,
      tree.2,
      record { definitions = h.build; anonymous_operation = h.file.alone; operation_names = h.file.operation_names; fragment_names = h.fragment_names },
      says,
      every_rule_holds schema tree.0 h h.file.document says,
    )
