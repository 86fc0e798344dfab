-- If the text of a file is a document that builds and of which every rule holds, a project of this one file holds. Specification: 5 Validation.
use Rattle.std.proofs.Common.{◌≡◌, ◌∙◌, Bool, true, false, cond, List, [], ◌∷◌, Option, None, Some, arith, map, ap, inl, inr, refl, sym, subst}
use Rattle.std.specs.Prelude.{All, Any, Contains, filter}
use Rattle.std.specs.List.{AllZip}
use Rattle.std.proofs.lemmas.List.{append-nil}
use Rattle.std.proofs.lemmas.List.Elements.{All-cons, All-contains, All-filter, All-head, All-nil, All-tail, Contains-append_cases, filter_passes}
use Rattle.std.proofs.lemmas.List.Folds.{Any-from_list_any, list_any-from_Any}
use Rattle.indexmap.specs.IndexMap.{values}
use Rattle.graphql_nodes.proofs.NameLemmas.{same_name_back}
use Rattle.graphql_nodes.specs.Names.{AreDistinct, DifferentNames, NameText, SameName, same_name, stands_on}
use Rattle.graphql_nodes.specs.declared.nodes.Node.{Node}
use Rattle.graphql_documents.proofs.ListLemmas.{each_standing, kept_by_filter, made_of, stands_mapped}
use Rattle.graphql_documents.specs.Executables.{operations_of, sets_of}
use Rattle.graphql_documents.specs.Selections.{Reachable, fragments_of, selections_of}
use Rattle.graphql_documents.specs.declared.documents.executables.ExecutableDocument.{ExecutableDocument}
use Rattle.graphql_documents.specs.declared.documents.executables.Fragment.{Fragment}
use Rattle.graphql_documents.specs.declared.documents.executables.FragmentSpread.{FragmentSpread}
use Rattle.graphql_documents.specs.declared.documents.executables.Operation.{Operation}
use Rattle.graphql_documents.specs.declared.documents.executables.Selection.TheVariants as kind
use Rattle.graphql_documents.specs.declared.documents.executables.SelectionSet.{SelectionSet}
use Rattle.graphql_documents.specs.declared.documents.schemas.Schema.{Schema}
use Rattle.graphql_trees.specs.declared.documents.Definition.TheVariants as definition
use Rattle.graphql_trees.specs.declared.documents.Document.{Document}
use Rattle.graphql_trees.specs.declared.executable.FragmentDefinition.{FragmentDefinition}
use Rattle.graphql_trees.specs.declared.executable.OperationDefinition.{OperationDefinition}
use Rattle.graphql_document_building.specs.BuildingRules.{DefinitionBuilds, DocumentBuilds}
use Rattle.graphql_document_building.specs.Documents.{DocumentSays, FragmentSays, OperationSays, SaysUnderName}
use Rattle.graphql_document_building.specs.Trees.{fragments_in, operations_in}
use Rattle.graphql_frontend.specs.Documents.{EveryRuleHolds}
use Rattle.graphql_frontend.specs.Texts.{IsDocumentOf}
use Rattle.graphql_frontend.specs.declared.texts.SourceText.{SourceText}
use Rattle.graphql_input_rules.specs.InputFields.{InputFieldsAreUnique}
use Rattle.graphql_operation_laws.proofs.AgreementLemmas.{agree_back, reachable_back}
use Rattle.graphql_operation_laws.proofs.OperationRuleLemmas.{rules_hold_alike}
use Rattle.graphql_operation_laws.specs.Agreement.{AgreeFrom}
use Rattle.graphql_operation_laws.specs.OperationRules.{OperationRulesHold}
use Rattle.graphql_parser.specs.declared.bounds.Bounds.{Bounds}
use Rattle.graphql_specification.specs.Defer.{LabelsHold}
use Rattle.graphql_specification.specs.FragmentsUsed.{IsFragmentUsed}
use Rattle.graphql_projects.specs.OperationTrees.{IsTreeOf, Pool, ReachesFragment, fragment_named, fragments_among}
use Rattle.graphql_projects.specs.Projects.{FileHolds, OperationIsValid, ProjectHolds, next_file, no_file, operations_among}
use Rattle.graphql_projects.proofs.OperationDocumentLemmas.{AreOf, document_of, document_says, fragments_agree, own}
use Rattle.graphql_projects.proofs.SaidDefinitionLemmas.{found_entry, one_found, operation_is_said, operation_says, own_names}
use Rattle.graphql_projects.proofs.SaidReachLemmas.{SaysIfAny, names_say, spread_is_in_tree, tree_spread_is_reached, zip_first, zip_second}
use Rattle.graphql_project_laws.proofs.DocumentLemmas.{holds_by_operations}
use Rattle.graphql_project_laws.proofs.PartDocumentLemmas.{HasDefers, defers_of_selections, input_fields_of_part, labels_of_part}
use Rattle.graphql_project_laws.proofs.PartLemmas.{PartOf, distinct_is_found, part_contains, part_filter, part_mapped, part_one, part_pairs}
use Rattle.graphql_project_laws.proofs.ReachedTreeLemmas.{HasNames, ReachedNames, names_of_selections, reached_names}

-- ==== entries whose names are among these

abbrev is_kept : {V : Type 0} → List NameText → NameText × V → Bool
is_kept names e = stands_on names e.0

zip_kept : (schema : Option Schema) (names : List NameText) (pool : Pool) (entries : List (NameText × Node Fragment)) →
    AllZip (SaysUnderName (FragmentSays schema)) pool entries → AllZip (SaysUnderName (FragmentSays schema)) (filter (is_kept names) pool) (filter (is_kept names) entries)
zip_kept schema names [] [] zip = tt
zip_kept schema names [] (e ∷ es) zip = absurd zip
zip_kept schema names (p ∷ ps) [] zip = absurd zip
zip_kept schema names (p ∷ ps) (e ∷ es) zip =
    by (stands_on names p.0) (stands_on names e.0) (ap (stands_on names) (sym zip.0.0)) _ _ (zip_kept schema names ps es zip.1)
  where
    by : (b c : Bool) → b ≡ c → (xs : Pool) (ys : List (NameText × Node Fragment)) → AllZip (SaysUnderName (FragmentSays schema)) xs ys →
        AllZip (SaysUnderName (FragmentSays schema)) (cond b (p ∷ xs) xs) (cond c (e ∷ ys) ys)
    by true true is xs ys rest = (zip.0, rest)
    by false false is xs ys rest = rest
    by true false is xs ys rest = absurd (let h : ⊥ = cc in h)
    by false true is xs ys rest = absurd (let h : ⊥ = cc in h)

zip_names : (schema : Option Schema) (pool : Pool) (entries : List (NameText × Node Fragment)) → AllZip (SaysUnderName (FragmentSays schema)) pool entries →
    map (λ (p : NameText × FragmentDefinition). p.0) pool ≡ map (λ (e : NameText × Node Fragment). e.0) entries
zip_names schema [] [] zip = refl
zip_names schema [] (e ∷ es) zip = absurd zip
zip_names schema (p ∷ ps) [] zip = absurd zip
zip_names schema (p ∷ ps) (e ∷ es) zip =
    ap (λ n. n ∷ map (λ (p : NameText × FragmentDefinition). p.0) ps) (sym zip.0.0) ∙ ap (λ l. e.0 ∷ l) (zip_names schema ps es zip.1)

same_by : (spread name key own_name : NameText) → spread ≡ name → SameName key name → key ≡ own_name → SameName spread own_name
same_by spread name key own_name is same named = subst (SameName spread) named (subst (λ m. SameName m key) (sym is) (same_name_back key name same))

-- fragments that are each under their own name
under_own : (l : Pool) → All (λ (p : NameText × FragmentDefinition). p.0 ≡ p.1.name) l → map own (map (λ (p : NameText × FragmentDefinition). p.1) l) ≡ l
under_own [] all = refl
under_own (p ∷ ps) all =
    let here : p.0 ≡ p.1.name = All-head (λ (p : NameText × FragmentDefinition). p.0 ≡ p.1.name) p ps all in
    ap (λ n. (n, p.1) ∷ map own (map (λ (p : NameText × FragmentDefinition). p.1) ps)) (sym here) ∙
    ap (λ l. p ∷ l) (under_own ps (All-tail (λ (p : NameText × FragmentDefinition). p.0 ≡ p.1.name) p ps all))

names_of_own : (fs : List FragmentDefinition) → map (λ (p : NameText × FragmentDefinition). p.0) (map own fs) ≡ map (λ (d : FragmentDefinition). d.name) fs
names_of_own [] = refl
names_of_own (f ∷ fs) = ap (λ l. f.name ∷ l) (names_of_own fs)

-- ==== the document of one operation

own_operations : (d : ExecutableDocument) (n : Option NameText) (o : Node Operation) (entries : List (NameText × Node Fragment)) → operations_of (document_of d n o entries) ≡ o ∷ []
own_operations d None o entries = refl
own_operations d (Some name) o entries = refl

own_fragments : (d : ExecutableDocument) (n : Option NameText) (o : Node Operation) (entries : List (NameText × Node Fragment)) →
    values (document_of d n o entries).fragments ≡ map (λ (e : NameText × Node Fragment). e.1) entries
own_fragments d None o entries = refl
own_fragments d (Some name) o entries = refl

module _ (schema : Schema) (tree : Document) (d : ExecutableDocument) (builds : DocumentBuilds (Some schema) tree) (says : DocumentSays (Some schema) tree d)
    (holds : EveryRuleHolds (Some schema) d) where
  abbrev pool : Pool
  pool = fragments_in tree.definitions

  said_by_name : (name : NameText) → SaysIfAny (Some schema) (fragment_named pool name) (fragments_of d name)
  said_by_name name = names_say (Some schema) name pool d.fragments.entries says.fragments

  found_in_pool : (p : NameText × FragmentDefinition) → Contains pool p → fragment_named pool p.0 ≡ Some p.1
  found_in_pool p there = distinct_is_found pool p builds.fragment_names there

  found_in_document : (e : NameText × Node Fragment) → Contains d.fragments.entries e → fragments_of d e.0 ≡ Some e.1
  found_in_document e there =
      distinct_is_found d.fragments.entries e (subst AreDistinct (zip_names (Some schema) pool d.fragments.entries says.fragments) builds.fragment_names) there

  -- what is under a name in the document is under it in the tree, and has that name
  record IsOfTree (e : NameText × Node Fragment) : Type 0 where
    p : NameText × FragmentDefinition
    there : Contains pool p
    says_it : FragmentSays (Some schema) p.1 e.1
    name : e.0 ≡ e.1.value.value.name

  of_tree : (e : NameText × Node Fragment) → Contains d.fragments.entries e → IsOfTree e
  of_tree e there =
      let y = zip_first (SaysUnderName (FragmentSays (Some schema))) pool d.fragments.entries e says.fragments there in
      record { p = y.0; there = y.1; says_it = y.2.1; name = y.2.0 ∙ own_names tree.definitions y.0 y.1 ∙ sym y.2.1.name }

  names_in : (p : NameText × FragmentDefinition) → Contains pool p → HasNames p.1.selection_set.selections
  names_in p there =
      let e = zip_second (SaysUnderName (FragmentSays (Some schema))) pool d.fragments.entries p says.fragments there in
      names_of_selections e.2.1.selections

  parts_hold : All (OperationRulesHold (Some schema) d) (operations_of d) × LabelsHold d ×
      All (λ f. IsFragmentUsed d f.value.value) (values d.fragments) × InputFieldsAreUnique d
  parts_hold = (holds_by_operations (Some schema) d).0 holds

  set_has_defers : (set : SelectionSet) → Contains (sets_of d) set → HasDefers (selections_of set)
  set_has_defers set there = elim (Contains-append_cases (map (λ (o : Node Operation). o.value.value.selection_set) (operations_of d))
      (map (λ (f : Node Fragment). f.value.value.selection_set) (values d.fragments)) set there) [
        | inl of_operation ↦
            let o = made_of (λ (o : Node Operation). o.value.value.selection_set) (operations_of d) set of_operation in
            let x = operation_is_said (Some schema) tree d says o.0 o.1 in
            subst (λ (s : SelectionSet). HasDefers (selections_of s)) o.2 (defers_of_selections x.2.selections)
        | inr of_fragment ↦
            let f = made_of (λ (f : Node Fragment). f.value.value.selection_set) (values d.fragments) set of_fragment in
            let e = made_of (λ (e : NameText × Node Fragment). e.1) d.fragments.entries f.0 f.1 in
            subst (λ (s : SelectionSet). HasDefers (selections_of s)) (ap (λ (f : Node Fragment). f.value.value.selection_set) e.2 ∙ f.2)
            (defers_of_selections (of_tree e.0 e.1).says_it.selections)
      ]

  module _ (x : OperationDefinition) (o : Node Operation) (there : Contains (operations_of d) o) (said : OperationSays (Some schema) x o) where
    reached : ReachedNames pool x.selection_set.selections
    reached = reached_names pool x.selection_set.selections (names_of_selections said.selections) names_in found_in_pool

    module _ (r : ReachedNames pool x.selection_set.selections) where
      abbrev kept : Pool
      kept = filter (is_kept r.names) pool

      abbrev fragments : List FragmentDefinition
      fragments = map (λ (p : NameText × FragmentDefinition). p.1) kept

      abbrev entries : List (NameText × Node Fragment)
      entries = filter (is_kept r.names) d.fragments.entries

      abbrev whole : Document
      whole = record { definitions = definition.Operation x ∷ map definition.Fragment fragments; span = x.span }

      abbrev document : ExecutableDocument
      document = document_of d x.name o entries

      -- ==== the tree

      kept_under_own : map own fragments ≡ kept
      kept_under_own = under_own kept (All-filter (is_kept r.names) (λ (p : NameText × FragmentDefinition). p.0 ≡ p.1.name) pool
          (each_standing (λ (p : NameText × FragmentDefinition). p.0 ≡ p.1.name) pool (own_names tree.definitions)))

      fragments_said : AllZip (SaysUnderName (FragmentSays (Some schema))) (map own fragments) entries
      fragments_said = subst (λ l. AllZip (SaysUnderName (FragmentSays (Some schema))) l entries) (sym kept_under_own)
          (zip_kept (Some schema) r.names pool d.fragments.entries says.fragments)

      reaches : (f : FragmentDefinition) → Contains fragments f → ReachesFragment pool x f
      reaches f c =
          let p = made_of (λ (p : NameText × FragmentDefinition). p.1) kept f c in
          let in_pool = part_contains (part_filter (is_kept r.names) pool) p.0 p.1 in
          let passes = All-contains (λ p. is_kept r.names p ≡ true) kept p.0 (filter_passes (is_kept r.names) pool) p.1 in
          let n = Any-from_list_any (same_name p.0.0) r.names passes in
          record {
            name = n.1;
            spread = r.each n.1 (n.0, n.2, n.3);
            found = sym (one_found pool p.0.0 n.1 n.4) ∙ found_in_pool p.0 in_pool ∙ ap Some p.2;
          }

      all_reached : (f : FragmentDefinition) → ReachesFragment pool x f → Contains fragments f
      all_reached f h =
          let known = r.all h.name h.spread in
          let e = found_entry (same_name h.name) pool f h.found in
          let passes : stands_on r.names e.0 ≡ true = list_any-from_Any (same_name e.0) r.names (known.0, h.name, known.1, known.2, same_name_back h.name e.0 e.2) in
          stands_mapped (λ (p : NameText × FragmentDefinition). p.1) kept (e.0, f) (kept_by_filter (is_kept r.names) pool (e.0, f) e.1 passes)

      is_tree : IsTreeOf pool x whole
      is_tree = record {
        fragments = fragments;
        definitions_are = refl;
        each = each_standing (ReachesFragment pool x) fragments reaches;
        all = all_reached;
        distinct = subst AreDistinct (ap (map (λ (p : NameText × FragmentDefinition). p.0)) (sym kept_under_own) ∙ names_of_own fragments)
            (part_pairs DifferentNames (part_mapped (λ (p : NameText × FragmentDefinition). p.0) (part_filter (is_kept r.names) pool)) builds.fragment_names);
      }

      document_is_said : DocumentSays (Some schema) whole document
      document_is_said = document_says (Some schema) d x o said fragments entries fragments_said whole refl x.name refl

      -- ==== the rules

      are_of : AreOf d entries
      are_of = each_standing (λ e. fragments_of d e.0 ≡ Some e.1) entries
          (λ e c. found_in_document e (part_contains (part_filter (is_kept r.names) d.fragments.entries) e c))

      agree : (t : IsTreeOf pool x whole) → t.fragments ≡ fragments → AgreeFrom (fragments_of d) (fragments_of document) o.value.value.selection_set
      agree t is = fragments_agree (Some schema) tree d says x o said whole t entries
          (subst (λ (l : List FragmentDefinition). AllZip (SaysUnderName (FragmentSays (Some schema))) (map own l) entries) (sym is) fragments_said) are_of x.name

      are_operations : operations_of document ≡ o ∷ []
      are_operations = own_operations d x.name o entries

      are_fragments : values document.fragments ≡ map (λ (e : NameText × Node Fragment). e.1) entries
      are_fragments = own_fragments d x.name o entries

      operations_part : PartOf (operations_of document) (operations_of d)
      operations_part = subst (λ l. PartOf l (operations_of d)) (sym are_operations) (part_one (operations_of d) o there)

      fragments_part : PartOf (values document.fragments) (values d.fragments)
      fragments_part = subst (λ l. PartOf l (values d.fragments)) (sym are_fragments)
          (part_mapped (λ (e : NameText × Node Fragment). e.1) (part_filter (is_kept r.names) d.fragments.entries))

      module _ (agrees : AgreeFrom (fragments_of d) (fragments_of document) o.value.value.selection_set) where
        operation_holds : All (OperationRulesHold (Some schema) document) (operations_of document)
        operation_holds =
            let here = All-contains (OperationRulesHold (Some schema) d) (operations_of d) o parts_hold.0 there in
            subst (All (OperationRulesHold (Some schema) document)) (sym are_operations)
            (All-cons (OperationRulesHold (Some schema) document) o [] ((rules_hold_alike (Some schema) d document o agrees).0 here)
            (All-nil (OperationRulesHold (Some schema) document)))

        fragment_used : (f : Node Fragment) → Contains (values document.fragments) f → IsFragmentUsed document f.value.value
        fragment_used f c =
            let e = made_of (λ (e : NameText × Node Fragment). e.1) entries f (subst (λ l. Contains l f) are_fragments c) in
            let in_document = part_contains (part_filter (is_kept r.names) d.fragments.entries) e.0 e.1 in
            let passes = All-contains (λ e. is_kept r.names e ≡ true) entries e.0 (filter_passes (is_kept r.names) d.fragments.entries) e.1 in
            let n = Any-from_list_any (same_name e.0.0) r.names passes in
            let p = tree_spread_is_reached (Some schema) pool (fragments_of d) said_by_name (r.each n.1 (n.0, n.2, n.3)) o.value.value.selection_set
            (o.value.value.selection_set.ty, said.selections) in
            let reached_there = reachable_back (fragments_of document) (fragments_of d) {s = kind.FragmentSpread p.0} p.1 (agree_back (fragments_of d) (fragments_of document) agrees) in
            let name : e.0.0 ≡ f.value.value.name = (of_tree e.0 in_document).name ∙ ap (λ (f : Node Fragment). f.value.value.name) e.2 in
            let same = same_by p.0.value.value.fragment_name n.1 e.0.0 f.value.value.name p.2 n.4 name in
            subst (Any (λ o. (p : Node FragmentSpread) × Reachable (fragments_of document) o.value.value.selection_set (kind.FragmentSpread p) ×
            SameName p.value.value.fragment_name f.value.value.name)) (sym are_operations) (0, o, omega arith, refl, (p.0, reached_there, same))

        every_rule_holds : EveryRuleHolds (Some schema) document
        every_rule_holds = (holds_by_operations (Some schema) document).1 (
          operation_holds,
          labels_of_part document d operations_part fragments_part set_has_defers parts_hold.1,
          each_standing (λ f. IsFragmentUsed document f.value.value) (values document.fragments) fragment_used,
          input_fields_of_part document d operations_part fragments_part parts_hold.3,
        )

      is_valid : OperationIsValid schema pool x
      unfolding is_tree
      is_valid = (whole, document, is_tree, document_is_said, every_rule_holds (agree is_tree refl))

  operation_is_valid : (x : OperationDefinition) → Contains (operations_in tree.definitions) x → OperationIsValid schema pool x
  operation_is_valid x c =
      let o = operation_says (Some schema) tree d says x c in
      is_valid x o.0 o.1 o.2 (reached x o.0 o.1 o.2)

  -- ==== the file

  fragment_is_reached : (p : NameText × FragmentDefinition) → Contains pool p → Any (λ x. ReachesFragment pool x p.1) (operations_in tree.definitions)
  fragment_is_reached p c =
      let e = zip_second (SaysUnderName (FragmentSays (Some schema))) pool d.fragments.entries p says.fragments c in
      let used = All-contains (λ f. IsFragmentUsed d f.value.value) (values d.fragments) e.0.1 parts_hold.2
      (stands_mapped (λ (e : NameText × Node Fragment). e.1) d.fragments.entries e.0 e.1) in
      let o = used.1 in
      let q = used.4 in
      let x = operation_is_said (Some schema) tree d says o (used.0, used.2, used.3) in
      let spread = spread_is_in_tree (Some schema) pool (fragments_of d) said_by_name o.value.value.selection_set x.0.selection_set.selections q.0
      (o.value.value.selection_set.ty, x.2.selections) q.1 in
      let same : SameName q.0.value.value.fragment_name p.0 = subst (SameName q.0.value.value.fragment_name) (e.2.1.name ∙ sym (own_names tree.definitions p c)) q.2 in (
        x.1.0,
        x.0,
        x.1.1,
        x.1.2,
        record {
          name = q.0.value.value.fragment_name;
          spread = spread;
          found = one_found pool q.0.value.value.fragment_name p.0 same ∙ found_in_pool p c;
        },
      )

  file_holds : FileHolds schema pool tree
  file_holds = record {
    alone = builds.anonymous_operation;
    operation_names = builds.operation_names;
    whole = tree;
    document = d;
    is_whole = record {
      borrowed = [];
      definitions_are = sym (append-nil tree.definitions);
      each = All-nil _;
      others = All-nil _;
      all = λ x f c h.
          let e = found_entry (same_name h.name) pool f h.found in
          stands_mapped (λ (p : NameText × FragmentDefinition). p.1) pool (e.0, f) e.1;
    };
    says = says;
    labels = parts_hold.1;
    input_fields = parts_hold.3;
  }

-- ==== the project

pub valid_document_is_project : (bounds : Bounds) (schema : Schema) (source : SourceText) (tree : Document) (document : ExecutableDocument) → IsDocumentOf bounds source tree →
    DocumentBuilds (Some schema) tree → DocumentSays (Some schema) tree document → EveryRuleHolds (Some schema) document → ProjectHolds bounds schema (source ∷ []) []
valid_document_is_project bounds schema source tree document text builds says holds =
    let fragments : Pool = fragments_in tree.definitions in
    let one_pool : fragments ≡ fragments_among (tree ∷ []) = sym (append-nil fragments) in
    let one_list : operations_in tree.definitions ≡ operations_among (tree ∷ []) = sym (append-nil (operations_in tree.definitions)) in
    record {
      trees = tree ∷ [];
      lent_trees = [];
      are = next_file text no_file;
      lent_are = no_file;
      build = All-cons (λ (t : Document). All (DefinitionBuilds (Some schema)) t.definitions) tree [] builds.definitions
          (All-nil (λ (t : Document). All (DefinitionBuilds (Some schema)) t.definitions));
      fragment_names = subst (λ (l : Pool). AreDistinct (map (λ p. p.0) l)) one_pool builds.fragment_names;
      files = subst (λ l. All (FileHolds schema l) (tree ∷ [])) one_pool
          (All-cons (FileHolds schema fragments) tree [] (file_holds schema tree document builds says holds) (All-nil (FileHolds schema fragments)));
      operations = subst (λ l. All (OperationIsValid schema l) (operations_among (tree ∷ []))) one_pool
          (subst (All (OperationIsValid schema fragments)) one_list
          (each_standing (OperationIsValid schema fragments) (operations_in tree.definitions) (operation_is_valid schema tree document builds says holds)));
      used = subst (λ (l : Pool). All (λ p. Any (λ x. ReachesFragment l x p.1) (operations_among (tree ∷ []))) l) one_pool
          (subst (λ (l : List OperationDefinition). All (λ p. Any (λ x. ReachesFragment fragments x p.1) l) fragments) one_list
          (each_standing (λ p. Any (λ x. ReachesFragment fragments x p.1) (operations_in tree.definitions)) fragments
          (fragment_is_reached schema tree document builds says holds)));
    }
