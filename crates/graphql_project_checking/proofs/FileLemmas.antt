-- From the typed form of a file whose operations pass, and of the fragments that they borrow, to what is asked of the file. Specification: 5 Validation.
use Rattle.std.proofs.Common.{◌≡◌, ◌∙◌, zero, suc, Bool, true, false, List, [], ◌∷◌, ◌++◌, Option, Some, arith, map, ap, inl, inr, refl, sym, subst}
use Rattle.std.specs.Prelude.{◌≢◌, ◌⊎◌, All, AllPairs, Any, Contains, if◌then◌else◌, option_to_list}
use Rattle.std.specs.List.{AllZip}
use Rattle.std.specs.Map.{keys_of, lookup}
use Rattle.std.proofs.lemmas.List.{append-nil, map-append}
use Rattle.std.proofs.lemmas.List.Elements.{All-cons, All-contains, All-head, All-nil, All-tail, Contains-append_cases, Contains-append_left, Contains-append_right, filter_map-append}
use Rattle.graphql_nodes.proofs.NameLemmas.{not_both, same_name_back, same_name_itself}
use Rattle.graphql_nodes.specs.Names.{AreDistinct, DifferentNames, NameText, SameName, same_name}
use Rattle.graphql_nodes.specs.declared.nodes.Node.{Node}
use Rattle.graphql_documents.proofs.ListLemmas.{each_standing, made_of, stands_mapped}
use Rattle.graphql_documents.specs.Executables.{operations_of}
use Rattle.graphql_documents.specs.Selections.{fragments_of}
use Rattle.graphql_documents.specs.declared.documents.executables.ExecutableDocument.{ExecutableDocument}
use Rattle.graphql_documents.specs.declared.documents.executables.Fragment.{Fragment}
use Rattle.graphql_documents.specs.declared.documents.executables.OperationMap.{OperationMap}
use Rattle.graphql_documents.specs.declared.documents.schemas.Schema.{Schema}
use Rattle.graphql_trees.specs.declared.documents.Definition.TheVariants as definition
use Rattle.graphql_trees.specs.declared.documents.Document.{Document}
use Rattle.graphql_trees.specs.declared.executable.FragmentDefinition.{FragmentDefinition}
use Rattle.graphql_trees.specs.declared.executable.OperationDefinition.{OperationDefinition}
use Rattle.graphql_document_checking.proofs.BuiltLemmas.{document_is_built}
use Rattle.graphql_document_checking.specs.BuildingRules.{DocumentBuilds}
use Rattle.graphql_document_checking.specs.Documents.{DocumentSays, FragmentSays, OperationSays, SaysUnderName}
use Rattle.graphql_document_checking.specs.Trees.{anonymous_operations_in, as_anonymous_operation, as_fragment, as_named_operation, fragments_in, named_operations_in, operations_in}
use Rattle.graphql_frontend.specs.Schemas.{IsUsable}
use Rattle.graphql_pools.specs.Pools.{Entry}
use Rattle.graphql_projects.specs.OperationTrees.{Pool, ReachesFragment, fragment_named}
use Rattle.graphql_frontend.specs.RuleSets.{RuleSet}
use Rattle.graphql_projects.specs.Projects.{FileHolds, OperationIsValidBut}
use Rattle.graphql_projects.proofs.OperationDocumentLemmas.{own, own_fragments}
use Rattle.graphql_projects.proofs.SaidDefinitionLemmas.{found_entry, one_found, operation_is_said, operation_says}
use Rattle.graphql_projects.proofs.SaidReachLemmas.{SaysIfAny, fragment_said, tree_spread_is_reached, zip_first, zip_second}
use Rattle.graphql_project_checking.proofs.OperationLemmas.{HasOwnNames, distinct_pairs, document_is_of_tree, found_by_own, found_some, fragment_in_tree, fragment_said_of_same}
use Rattle.graphql_project_checking.specs.Silence.{FilePasses, IsReachedByOne, OperationPasses}

-- ==== different names

pairs_head : {X : Type 0} (R : X → X → Type 0) (x : X) (xs : List X) → AllPairs R (x ∷ xs) → All (R x) xs
pairs_head R x xs all = λ k d within. all 0 (suc k) d (omega arith) (omega arith)

pairs_tail : {X : Type 0} (R : X → X → Type 0) (x : X) (xs : List X) → AllPairs R (x ∷ xs) → AllPairs R xs
pairs_tail R x xs all = λ i j d before within. all (suc i) (suc j) d (omega arith) (omega arith)

-- names in the two parts of a list of different names differ
pub are_apart : (names others : List NameText) (a b : NameText) → AreDistinct (names ++ others) → Contains names a → Contains others b → ¬ SameName a b
are_apart [] others a b distinct (k, within, is) c same = absurd (omega (arith, within))
are_apart (n ∷ names) others a b distinct (zero, within, is) c same =
    let differ = All-contains (DifferentNames n) (names ++ others) b (pairs_head DifferentNames n (names ++ others) distinct) (Contains-append_right names others b c) in
    not_both n b (subst (λ m. SameName m b) (sym is) same) differ
are_apart (n ∷ names) others a b distinct (suc k, within, is) c same =
    are_apart names others a b (pairs_tail DifferentNames n (names ++ others) distinct) (k, omega (arith, within), is) c same

abbrev name_of : NameText × FragmentDefinition → NameText
name_of p = p.0

-- where names differ, each fragment is found by the name under which it is
found_if : (b : Bool) (v : FragmentDefinition) (o : Option FragmentDefinition) (w : FragmentDefinition) → b ≡ false → o ≡ Some w → (if b then Some v else o) ≡ Some w
found_if true v o w is found = absurd (let h : ⊥ = cc in h)
found_if false v o w is found = found

found_now : (b : Bool) (v : FragmentDefinition) (o : Option FragmentDefinition) → b ≡ true → (if b then Some v else o) ≡ Some v
found_now true v o is = refl
found_now false v o is = absurd (let h : ⊥ = cc in h)

pub distinct_is_found : (pool : Pool) (p : NameText × FragmentDefinition) → AreDistinct (map name_of pool) → Contains pool p → fragment_named pool p.0 ≡ Some p.1
distinct_is_found [] p distinct (k, within, is) = absurd (omega (arith, within))
distinct_is_found (q ∷ pool) p distinct (zero, within, is) =
    subst (λ (r : NameText × FragmentDefinition). fragment_named (q ∷ pool) r.0 ≡ Some r.1) is (found_now (same_name q.0 q.0) q.1 (lookup (same_name q.0) pool) (same_name_itself q.0))
distinct_is_found (q ∷ pool) p distinct (suc k, within, is) =
    let there : Contains pool p = (k, omega (arith, within), is) in
    let differ = All-contains (DifferentNames q.0) (map name_of pool) p.0 (pairs_head DifferentNames q.0 (map name_of pool) distinct) (stands_mapped name_of pool p there) in
    found_if (same_name p.0 q.0) q.1 (lookup (same_name p.0) pool) p.1 (differs_back q.0 p.0 differ)
    (distinct_is_found pool p (pairs_tail DifferentNames q.0 (map name_of pool) distinct) there)
  where
    differs_if : (a b : NameText) (same : Bool) → same_name b a ≡ same → DifferentNames a b → same_name b a ≡ false
    differs_if a b true is differ = absurd (not_both a b (same_name_back b a is) differ)
    differs_if a b false is differ = is

    differs_back : (a b : NameText) → DifferentNames a b → same_name b a ≡ false
    differs_back a b differ = differs_if a b (same_name b a) refl differ

-- ==== a definition behind others

pub no_operations : (fs : List FragmentDefinition) → anonymous_operations_in (map definition.Fragment fs) ≡ []
no_operations [] = refl
no_operations (f ∷ fs) = no_operations fs

pub no_names : (fs : List FragmentDefinition) → named_operations_in (map definition.Fragment fs) ≡ []
no_names [] = refl
no_names (f ∷ fs) = no_names fs

pub zip_append : {X Y : Type 0} (R : X → Y → Type 0) (us xs : List X) (vs ys : List Y) → AllZip R us vs → AllZip R xs ys → AllZip R (us ++ xs) (vs ++ ys)
zip_append R [] xs [] ys first rest = rest
zip_append R [] xs (v ∷ vs) ys first rest = absurd first
zip_append R (u ∷ us) xs [] ys first rest = absurd first
zip_append R (u ∷ us) xs (v ∷ vs) ys first rest = (first.0, zip_append R us xs vs ys first.1 rest)

pub same_operations_say : (schema : Option Schema) (tree whole_tree : Document) (file whole : ExecutableDocument) → DocumentSays schema tree file →
    whole.operations ≡ file.operations → anonymous_operations_in whole_tree.definitions ≡ anonymous_operations_in tree.definitions →
    named_operations_in whole_tree.definitions ≡ named_operations_in tree.definitions →
    AllZip (SaysUnderName (FragmentSays schema)) (fragments_in whole_tree.definitions) whole.fragments.entries → DocumentSays schema whole_tree whole
same_operations_say schema tree whole_tree file whole says same anonymous named fragments = record {
  anonymous = subst (λ l. AllZip (OperationSays schema) l (option_to_list whole.operations.anonymous)) (sym anonymous)
      (subst (λ (m : OperationMap). AllZip (OperationSays schema) (anonymous_operations_in tree.definitions) (option_to_list m.anonymous)) (sym same) says.anonymous);
  named = subst (λ l. AllZip (SaysUnderName (OperationSays schema)) l whole.operations.named.entries) (sym named)
      (subst (λ (m : OperationMap). AllZip (SaysUnderName (OperationSays schema)) (named_operations_in tree.definitions) m.named.entries) (sym same) says.named);
  fragments = fragments;
}

-- ==== a file

module _ (s : Schema) (pool : Pool) (d : ExecutableDocument) (all_said : (name : NameText) → SaysIfAny (Some s) (fragment_named pool name) (fragments_of d name))
    (own_names : HasOwnNames pool) (distinct : AreDistinct (map name_of pool))
    (tree : Document) (file : ExecutableDocument) (says : DocumentSays (Some s) tree file)
    (within : (p : NameText × FragmentDefinition) → Contains (fragments_in tree.definitions) p → Contains pool p) where
  pub operations_are_valid : (off : RuleSet) → IsUsable s → All (OperationPasses off s d) (operations_of file) → All (OperationIsValidBut off s pool) (operations_in tree.definitions)
  operations_are_valid off usable pass = each_standing (OperationIsValidBut off s pool) (operations_in tree.definitions) (λ x c.
      let o = operation_says (Some s) tree file says x c in
      let passes = All-contains (OperationPasses off s d) (operations_of file) o.0 pass o.1 in
      let of_tree = document_is_of_tree (Some s) pool d all_said own_names x o.0 o.2 passes.0 passes.1 passes.2.0 passes.2.1 in
      let built = document_is_built s of_tree.0 passes.2.0 of_tree.2 usable.names usable.output_fields in
      (of_tree.0, passes.2.0, of_tree.1, of_tree.2, passes.2.2 built))

  -- the trees of the fragments that are borrowed
  borrowed_trees_of_all : (added : List Entry) → All (IsReachedByOne d (operations_of file)) added →
      (bs : List FragmentDefinition) × AllZip (SaysUnderName (FragmentSays (Some s))) (map own bs) added ×
      All (λ b. Any (λ x. ReachesFragment pool x b) (operations_in tree.definitions)) bs
  borrowed_trees_of_all [] all = ([], tt, All-nil (λ b. Any (λ x. ReachesFragment pool x b) (operations_in tree.definitions)))
  borrowed_trees_of_all (e ∷ es) all =
      let r = All-head (IsReachedByOne d (operations_of file)) e es all in
      let x = operation_is_said (Some s) tree file says r.o r.among in
      let f = fragment_in_tree (Some s) pool d all_said own_names x.0 r.o x.2 r.name r.d r.reached.0 r.found in
      let rest = borrowed_trees_of_all es (All-tail (IsReachedByOne d (operations_of file)) e es all) in (
        f.0 ∷ rest.0,
        ((r.key ∙ f.1.name, fragment_said_of_same (Some s) f.0 r.d e.1 f.1 r.same), rest.1),
        All-cons (λ b. Any (λ x. ReachesFragment pool x b) (operations_in tree.definitions)) f.0 rest.0 (x.1.0, x.0, x.1.1, x.1.2, f.2) rest.2,
      )

  module _ (off : RuleSet) (passes : FilePasses off s d file) where
    borrowed : (bs : List FragmentDefinition) × AllZip (SaysUnderName (FragmentSays (Some s))) (map own bs) passes.borrows.added ×
        All (λ b. Any (λ x. ReachesFragment pool x b) (operations_in tree.definitions)) bs
    borrowed = borrowed_trees_of_all passes.borrows.added passes.borrows.each

    abbrev whole_tree : Document
    whole_tree = record { definitions = tree.definitions ++ map definition.Fragment borrowed.0; span = tree.span }

    whole_fragments : fragments_in whole_tree.definitions ≡ fragments_in tree.definitions ++ map own borrowed.0
    whole_fragments = filter_map-append as_fragment tree.definitions (map definition.Fragment borrowed.0) ∙
        ap (λ l. fragments_in tree.definitions ++ l) (own_fragments borrowed.0)

    whole_says : DocumentSays (Some s) whole_tree passes.whole
    whole_says = same_operations_say (Some s) tree whole_tree file passes.whole says passes.same_operations
        (filter_map-append as_anonymous_operation tree.definitions (map definition.Fragment borrowed.0) ∙
        ap (λ l. anonymous_operations_in tree.definitions ++ l) (no_operations borrowed.0) ∙ append-nil (anonymous_operations_in tree.definitions))
        (filter_map-append as_named_operation tree.definitions (map definition.Fragment borrowed.0) ∙
        ap (λ l. named_operations_in tree.definitions ++ l) (no_names borrowed.0) ∙ append-nil (named_operations_in tree.definitions))
        (subst (λ l. AllZip (SaysUnderName (FragmentSays (Some s))) (fragments_in whole_tree.definitions) l) (sym passes.borrows.appended)
        (subst (λ l. AllZip (SaysUnderName (FragmentSays (Some s))) l (file.fragments.entries ++ passes.borrows.added)) (sym whole_fragments)
        (zip_append (SaysUnderName (FragmentSays (Some s))) (fragments_in tree.definitions) (map own borrowed.0) file.fragments.entries passes.borrows.added
        says.fragments borrowed.1)))

    keys_apart : (a b : NameText) → Contains (keys_of file.fragments.entries) a → Contains (keys_of passes.borrows.added) b → ¬ SameName a b
    keys_apart a b first rest = are_apart (keys_of file.fragments.entries) (keys_of passes.borrows.added) a b
        (subst AreDistinct (map-append (λ (e : Entry). e.0) file.fragments.entries passes.borrows.added)
        (subst (λ (l : List Entry). AreDistinct (keys_of l)) passes.borrows.appended (distinct_pairs (keys_of passes.whole.fragments.entries) passes.unique)))
        first rest

    -- a fragment of the file is not borrowed
    none_is_own : (b : FragmentDefinition) → Contains borrowed.0 b → (p : NameText × FragmentDefinition) → Contains (fragments_in tree.definitions) p → p.1 ≢ b
    none_is_own b c p there is =
        let e = zip_second (SaysUnderName (FragmentSays (Some s))) (fragments_in tree.definitions) file.fragments.entries p says.fragments there in
        let f = zip_second (SaysUnderName (FragmentSays (Some s))) (map own borrowed.0) passes.borrows.added (own b) borrowed.1 (stands_mapped own borrowed.0 b c) in
        let key : e.0.0 ≡ f.0.0 = e.2.0 ∙ own_names p (within p there) ∙ ap (λ (x : FragmentDefinition). x.name) is ∙ sym f.2.0 in
        keys_apart e.0.0 f.0.0 (stands_mapped (λ (x : Entry). x.0) file.fragments.entries e.0 e.1) (stands_mapped (λ (x : Entry). x.0) passes.borrows.added f.0 f.1)
        (subst (λ n. SameName e.0.0 n) key (same_name_itself e.0.0))

    -- a fragment that a name finds is the one of the same name
    one_of_name : (a b : FragmentDefinition) → fragment_named pool a.name ≡ Some a → fragment_named pool b.name ≡ Some b → SameName a.name b.name → b ≡ a
    one_of_name a b first second same =
        let both : Some a ≡ Some b = sym first ∙ one_found pool a.name b.name same ∙ second in
        cc

    reached_stands : (x : OperationDefinition) (f : FragmentDefinition) → Contains (operations_in tree.definitions) x → ReachesFragment pool x f →
        Contains (map (λ (p : NameText × FragmentDefinition). p.1) (fragments_in tree.definitions ++ map own borrowed.0)) f
    reached_stands x f c r =
        let o = operation_says (Some s) tree file says x c in
        let reach = tree_spread_is_reached (Some s) pool (fragments_of d) all_said r.spread o.0.value.value.selection_set (o.0.value.value.selection_set.ty, o.2.selections) in
        let node = fragment_said (Some s) (fragment_named pool r.name) (fragments_of d r.name) f (all_said r.name) r.found in
        let there = found_some (lookup (same_name node.0.value.value.name) passes.whole.fragments.entries)
        (passes.borrows.there o.0 r.name node.0 o.1 (reach.0, reach.1, sym reach.2) node.1) in
        let entry = found_entry (same_name node.0.value.value.name) passes.whole.fragments.entries there.0 there.1 in
        let same : SameName f.name entry.0 = subst (λ n. same_name n entry.0 ≡ true) node.2.name entry.2 in
        by_place entry.0 there.0 same (Contains-append_cases file.fragments.entries passes.borrows.added (entry.0, there.0)
        (subst (λ l. Contains l (entry.0, there.0)) passes.borrows.appended entry.1))
      where
        of_name : (p : NameText × FragmentDefinition) → Contains (fragments_in tree.definitions ++ map own borrowed.0) p → fragment_named pool p.1.name ≡ Some p.1 → SameName f.name p.1.name →
            Contains (map (λ (q : NameText × FragmentDefinition). q.1) (fragments_in tree.definitions ++ map own borrowed.0)) f
        of_name p there found same =
            let one = one_of_name f p.1 (found_by_own (Some s) pool d all_said own_names r.name f r.found) found same in
            subst (Contains (map (λ (q : NameText × FragmentDefinition). q.1) (fragments_in tree.definitions ++ map own borrowed.0))) one (stands_mapped (λ (q : NameText × FragmentDefinition). q.1) (fragments_in tree.definitions ++ map own borrowed.0) p there)

        by_place : (key : NameText) (node : Node Fragment) → SameName f.name key → Contains file.fragments.entries (key, node) ⊎ Contains passes.borrows.added (key, node) →
            Contains (map (λ (q : NameText × FragmentDefinition). q.1) (fragments_in tree.definitions ++ map own borrowed.0)) f
        by_place key node same (inl first) =
            let p = zip_first (SaysUnderName (FragmentSays (Some s))) (fragments_in tree.definitions) file.fragments.entries (key, node) says.fragments first in
            let name : key ≡ p.0.1.name = p.2.0 ∙ own_names p.0 (within p.0 p.1) in
            let found = distinct_is_found pool p.0 distinct (within p.0 p.1) in
            of_name p.0 (Contains-append_left (fragments_in tree.definitions) (map own borrowed.0) p.0 p.1)
            (subst (λ n. fragment_named pool n ≡ Some p.0.1) (own_names p.0 (within p.0 p.1)) found) (subst (SameName f.name) name same)
        by_place key node same (inr rest) =
            let p = zip_first (SaysUnderName (FragmentSays (Some s))) (map own borrowed.0) passes.borrows.added (key, node) borrowed.1 rest in
            let b = made_of own borrowed.0 p.0 p.1 in
            let reaching = All-contains (λ b. Any (λ x. ReachesFragment pool x b) (operations_in tree.definitions)) borrowed.0 b.0 borrowed.2 b.1 in
            let found = found_by_own (Some s) pool d all_said own_names reaching.4.name b.0 reaching.4.found in
            let name : key ≡ b.0.name = p.2.0 ∙ ap (λ (q : NameText × FragmentDefinition). q.0) (sym b.2) in
            of_name (own b.0) (Contains-append_right (fragments_in tree.definitions) (map own borrowed.0) (own b.0) (stands_mapped own borrowed.0 b.0 b.1)) found
            (subst (SameName f.name) name same)

    pub file_holds : DocumentBuilds (Some s) tree → FileHolds s pool tree
    file_holds builds = record {
      alone = builds.anonymous_operation;
      operation_names = builds.operation_names;
      whole = whole_tree;
      document = passes.whole;
      is_whole = record {
        borrowed = borrowed.0;
        definitions_are = refl;
        each = borrowed.2;
        others = each_standing (λ b. All (λ p. p.1 ≢ b) (fragments_in tree.definitions)) borrowed.0
            (λ b c. each_standing (λ (p : NameText × FragmentDefinition). p.1 ≢ b) (fragments_in tree.definitions) (none_is_own b c));
        all = λ x f c r. subst (λ (l : Pool). Contains (map (λ p. p.1) l) f) (sym whole_fragments) (reached_stands x f c r);
      };
      says = whole_says;
      labels = passes.labels;
      input_fields = passes.input_fields;
    }
