-- From the document of an operation that was put together of nodes, the tree that it says: the operation with exactly the fragments that it reaches.
-- Specification: 2.2 Document, 2.8 Fragments.
use Rattle.std.proofs.Common.{◌≡◌, ◌∙◌, ℕ, zero, suc, ◌<◌, true, List, [], ◌∷◌, Option, None, Some, arith, length, get_or, map, ap, refl, sym, subst}
use Rattle.std.specs.Prelude.{All, AllPairs, Contains, IsSome, is_some, option_to_list}
use Rattle.std.specs.List.{AllZip, IsDistinct}
use Rattle.std.specs.Map.{keys_of, lookup}
use Rattle.std.proofs.lemmas.List.Elements.{All-cons, All-contains, All-from_recursion, All-head, All-nil, All-tail}
use Rattle.std.proofs.lemmas.List.Folds.{Any-from_list_any}
use Rattle.std.proofs.lemmas.Map.Keys.{IsDistinct-head, IsDistinct-tail}
use Rattle.graphql_nodes.specs.Names.{AreDistinct, DifferentNames, NameText, SameName, same_name}
use Rattle.graphql_nodes.specs.Nodes.{SameNode}
use Rattle.graphql_nodes.specs.declared.nodes.Node.{Node}
use Rattle.graphql_documents.proofs.ListLemmas.{made_of}
use Rattle.graphql_documents.proofs.SelectionLemmas.{one_fragment_found}
use Rattle.graphql_documents.specs.Selections.{fragments_of}
use Rattle.graphql_documents.specs.declared.documents.executables.ExecutableDocument.{ExecutableDocument}
use Rattle.graphql_documents.specs.declared.documents.executables.Fragment.{Fragment}
use Rattle.graphql_documents.specs.declared.documents.executables.Operation.{Operation}
use Rattle.graphql_documents.specs.declared.documents.schemas.Schema.{Schema}
use Rattle.graphql_trees.specs.declared.documents.Definition.TheVariants as definition
use Rattle.graphql_trees.specs.declared.documents.Document.{Document}
use Rattle.graphql_trees.specs.declared.executable.FragmentDefinition.{FragmentDefinition}
use Rattle.graphql_trees.specs.declared.executable.OperationDefinition.{OperationDefinition}
use Rattle.graphql_document_checking.specs.Documents.{DocumentSays, FragmentSays, IsRoot, OperationSays, SaysUnderName}
use Rattle.graphql_document_checking.specs.Selections.{SelectionsSay}
use Rattle.graphql_document_checking.specs.Trees.{anonymous_operations_in, fragments_in, named_operations_in}
use Rattle.graphql_document_checking.specs.Definitions.{VariablesSay}
use Rattle.graphql_document_checking.specs.Directives.{DirectivesSay}
use Rattle.graphql_pools.specs.Pools.{Borrows, Entry, IsAlone, IsBorrowed, IsOperationDocument}
use Rattle.graphql_projects.specs.OperationTrees.{IsTreeOf, Pool, ReachesFragment, SpreadsIn, fragment_named}
use Rattle.graphql_projects.proofs.OperationDocumentLemmas.{document_of, document_says, own}
use Rattle.graphql_projects.proofs.SaidDefinitionLemmas.{found_entry, one_found}
use Rattle.graphql_projects.proofs.SaidReachLemmas.{SaysIfAny, fragment_said, said_fragment, spread_is_in_tree, tree_spread_is_reached, zip_first}
use Rattle.graphql_projects.specs.Reached.{IsReachedFrom, IsSpreadFrom, ReachesNames}

-- ==== different names

pairs_cons : {X : Type 0} (R : X → X → Type 0) (x : X) (xs : List X) → All (R x) xs → AllPairs R xs → AllPairs R (x ∷ xs)
pairs_cons {X} R x xs head tail = λ i j d before within. by i j d before within where
  by : (i j : ℕ) (d : X) → i < j → j < length (x ∷ xs) → R (get_or (x ∷ xs) i d) (get_or (x ∷ xs) j d)
  by zero zero d before within = absurd (omega (arith, before))
  by zero (suc j) d before within = head j d (omega (arith, within))
  by (suc i) zero d before within = absurd (omega (arith, before))
  by (suc i) (suc j) d before within = tail i j d (omega (arith, before)) (omega (arith, within))

pub distinct_pairs : (names : List NameText) → IsDistinct same_name names → AreDistinct names
distinct_pairs [] differ = λ i j d before within. absurd (omega (arith, within))
distinct_pairs (x ∷ xs) differ =
    pairs_cons DifferentNames x xs (All-from_recursion (DifferentNames x) xs (IsDistinct-head same_name x xs differ)) (distinct_pairs xs (IsDistinct-tail same_name x xs differ))

-- ==== the same node

pub fragment_said_of_same : (schema : Option Schema) (x : FragmentDefinition) (d e : Node Fragment) → FragmentSays schema x d → SameNode d e → FragmentSays schema x e
fragment_said_of_same schema x d e says same = record {
  name = ap (λ (f : Fragment). f.name) same.same_value ∙ says.name;
  directives = subst (λ (f : Fragment). DirectivesSay x.directives f.directives.items) (sym same.same_value) says.directives;
  type_condition = ap (λ (f : Fragment). f.selection_set.ty) same.same_value ∙ says.type_condition;
  selections = subst (λ (f : Fragment). SelectionsSay schema f.selection_set.ty x.selection_set.selections f.selection_set.selections.items) (sym same.same_value) says.selections;
  location = same.same_location ∙ says.location;
}

pub operation_said_of_same : (schema : Option Schema) (x : OperationDefinition) (d e : Node Operation) → OperationSays schema x d → SameNode d e → OperationSays schema x e
operation_said_of_same schema x d e says same = record {
  operation_type = ap (λ (f : Operation). f.operation_type) same.same_value ∙ says.operation_type;
  name = ap (λ (f : Operation). f.name) same.same_value ∙ says.name;
  variables = subst (λ (f : Operation). VariablesSay x.variables f.variables.items) (sym same.same_value) says.variables;
  directives = subst (λ (f : Operation). DirectivesSay x.directives f.directives.items) (sym same.same_value) says.directives;
  root = subst (λ (f : Operation). IsRoot schema x.operation_type f.selection_set.ty) (sym same.same_value) says.root;
  selections = subst (λ (f : Operation). SelectionsSay schema f.selection_set.ty x.selection_set.selections f.selection_set.selections.items) (sym same.same_value) says.selections;
  location = same.same_location ∙ says.location;
}

-- ==== what a name finds

pub found_some : (o : Option (Node Fragment)) → IsSome o → (d : Node Fragment) × (o ≡ Some d)
found_some None there = absurd (let h : ⊥ = cc in h)
found_some (Some d) there = (d, refl)

pub is_there : (o : Option (Node Fragment)) (d : Node Fragment) → o ≡ Some d → IsSome o
is_there o d is = ap is_some is

-- each fragment of the pool is under its own name
abbrev pub HasOwnNames : Pool → Type 0
HasOwnNames pool = (p : NameText × FragmentDefinition) → Contains pool p → p.0 ≡ p.1.name

module _ (schema : Option Schema) (pool : Pool) (d : ExecutableDocument) (all_said : (name : NameText) → SaysIfAny schema (fragment_named pool name) (fragments_of d name))
    (own_names : HasOwnNames pool) where
  -- the name by which a fragment is found is its own
  pub found_own : (name : NameText) (f : FragmentDefinition) → fragment_named pool name ≡ Some f → SameName name f.name
  found_own name f is =
      let found = found_entry (same_name name) pool f is in
      subst (λ n. same_name name n ≡ true) (own_names (found.0, f) found.1) found.2

  pub found_by_own : (name : NameText) (f : FragmentDefinition) → fragment_named pool name ≡ Some f → fragment_named pool f.name ≡ Some f
  found_by_own name f is = sym (one_found pool name f.name (found_own name f is)) ∙ is

  module _ (x : OperationDefinition) (o : Node Operation) (said : OperationSays schema x o) where
    pub spread_in_tree : (name : NameText) → IsSpreadFrom (fragments_of d) o.value.value.selection_set name → SpreadsIn pool x.selection_set.selections name
    spread_in_tree name (p, reached, named) =
        subst (SpreadsIn pool x.selection_set.selections) (sym named)
        (spread_is_in_tree schema pool (fragments_of d) all_said o.value.value.selection_set x.selection_set.selections p (o.value.value.selection_set.ty, said.selections) reached)

    -- a fragment that a name finds which the operation reaches
    pub fragment_in_tree : (name : NameText) (e : Node Fragment) → IsSpreadFrom (fragments_of d) o.value.value.selection_set name → fragments_of d name ≡ Some e →
        (f : FragmentDefinition) × FragmentSays schema f e × ReachesFragment pool x f
    fragment_in_tree name e spread found =
        let y = said_fragment schema (fragment_named pool name) (fragments_of d name) e (all_said name) found in
        (y.0, y.2, record { name = name; spread = spread_in_tree name spread; found = y.1 })

    module _ (names : List NameText) (reached : ReachesNames (fragments_of d) o.value.value.selection_set names) where
      pub borrowed_trees : (entries : List Entry) → All (IsBorrowed d names) entries →
          (fs : List FragmentDefinition) × AllZip (SaysUnderName (FragmentSays schema)) (map own fs) entries × All (ReachesFragment pool x) fs
      borrowed_trees [] all = ([], tt, All-nil (ReachesFragment pool x))
      borrowed_trees (e ∷ es) all =
          let b = All-head (IsBorrowed d names) e es all in
          let spread = (All-contains (IsReachedFrom (fragments_of d) o.value.value.selection_set) names b.0 reached.each b.1).0 in
          let f = fragment_in_tree b.0 b.2 spread b.3 in
          let rest = borrowed_trees es (All-tail (IsBorrowed d names) e es all) in
          (f.0 ∷ rest.0, ((b.4 ∙ f.1.name, fragment_said_of_same schema f.0 b.2 e.1 f.1 b.5), rest.1), All-cons (ReachesFragment pool x) f.0 rest.0 f.2 rest.2)

      module _ (entries : List Entry) (borrows : Borrows d names [] entries) where
        -- a fragment that the operation reaches in the tree is found among the entries
        pub reached_is_there : (f : FragmentDefinition) → ReachesFragment pool x f → (e : Node Fragment) × (lookup (same_name f.name) entries ≡ Some e)
        reached_is_there f r =
            let reach = tree_spread_is_reached schema pool (fragments_of d) all_said r.spread o.value.value.selection_set (o.value.value.selection_set.ty, said.selections) in
            let node = fragment_said schema (fragment_named pool r.name) (fragments_of d r.name) f (all_said r.name) r.found in
            let known = reached.all r.name (reach.0, reach.1, sym reach.2) (is_there (fragments_of d r.name) node.0 node.1) in
            let at = Any-from_list_any (same_name r.name) names known in
            let n = at.1 in
            let found : fragments_of d n ≡ Some node.0 = sym (one_fragment_found d r.name n at.4) ∙ node.1 in
            let there = found_some (lookup (same_name node.0.value.value.name) entries) (borrows.there n node.0 (at.0, at.2, at.3) found) in
            (there.0, subst (λ (name : NameText). lookup (same_name name) entries ≡ Some there.0) node.2.name there.1)

        module _ (fs : List FragmentDefinition) (fs_said : AllZip (SaysUnderName (FragmentSays schema)) (map own fs) entries) (fs_reached : All (ReachesFragment pool x) fs) where
          pub reached_is_among : (f : FragmentDefinition) → ReachesFragment pool x f → Contains fs f
          reached_is_among f r =
              let there = reached_is_there f r in
              let entry = found_entry (same_name f.name) entries there.0 there.1 in
              let of = zip_first (SaysUnderName (FragmentSays schema)) (map own fs) entries (entry.0, there.0) fs_said entry.1 in
              let g = made_of own fs of.0 of.1 in
              let key : entry.0 ≡ g.0.name = of.2.0 ∙ ap (λ (p : NameText × FragmentDefinition). p.0) (sym g.2) in
              let same : SameName f.name g.0.name = subst (λ n. same_name f.name n ≡ true) key entry.2 in
              let rg = All-contains (ReachesFragment pool x) fs g.0 fs_reached g.1 in
              let both : Some f ≡ Some g.0 = sym (found_by_own r.name f r.found) ∙ one_found pool f.name g.0.name same ∙ found_by_own rg.name g.0 rg.found in
              let one : g.0 ≡ f = cc in
              subst (Contains fs) one g.1

-- ==== the names of trees are those of entries

pub keys_are_names : (schema : Option Schema) (fs : List FragmentDefinition) (entries : List Entry) → AllZip (SaysUnderName (FragmentSays schema)) (map own fs) entries →
    keys_of entries ≡ map (λ (f : FragmentDefinition). f.name) fs
keys_are_names schema [] [] zip = refl
keys_are_names schema [] (e ∷ es) zip = absurd zip
keys_are_names schema (f ∷ fs) [] zip = absurd zip
keys_are_names schema (f ∷ fs) (e ∷ es) zip =
    ap (λ n. n ∷ keys_of es) zip.0.0 ∙ ap (λ l. f.name ∷ l) (keys_are_names schema fs es zip.1)

-- ==== the document

said_alone : (schema : Option Schema) (whole : Document) (d document : ExecutableDocument) (n : Option NameText) (node : Node Operation) (entries : List Entry) →
    IsAlone n node document.operations → entries ≡ document.fragments.entries → DocumentSays schema whole (document_of d n node entries) → DocumentSays schema whole document
said_alone schema whole d document None node entries alone same says = record {
  anonymous = subst (λ o. AllZip (OperationSays schema) (anonymous_operations_in whole.definitions) (option_to_list o)) (sym alone.0) says.anonymous;
  named = subst (λ l. AllZip (SaysUnderName (OperationSays schema)) (named_operations_in whole.definitions) l) (sym alone.1) says.named;
  fragments = subst (λ l. AllZip (SaysUnderName (FragmentSays schema)) (fragments_in whole.definitions) l) same says.fragments;
}
said_alone schema whole d document (Some name) node entries alone same says = record {
  anonymous = subst (λ o. AllZip (OperationSays schema) (anonymous_operations_in whole.definitions) (option_to_list o)) (sym alone.0) says.anonymous;
  named = subst (λ l. AllZip (SaysUnderName (OperationSays schema)) (named_operations_in whole.definitions) l) (sym alone.1) says.named;
  fragments = subst (λ l. AllZip (SaysUnderName (FragmentSays schema)) (fragments_in whole.definitions) l) same says.fragments;
}

-- the document of an operation says the tree of it
pub document_is_of_tree : (schema : Option Schema) (pool : Pool) (d : ExecutableDocument) →
    ((name : NameText) → SaysIfAny schema (fragment_named pool name) (fragments_of d name)) → HasOwnNames pool →
    (x : OperationDefinition) (o : Node Operation) → OperationSays schema x o → (names : List NameText) → ReachesNames (fragments_of d) o.value.value.selection_set names →
    (document : ExecutableDocument) → IsOperationDocument d o names document →
    (whole : Document) × IsTreeOf pool x whole × DocumentSays schema whole document
document_is_of_tree schema pool d all_said own_names x o said names reached document is =
    let entries = document.fragments.entries in
    let added : document.fragments.entries ≡ is.fragments.added = is.fragments.appended in
    let all : All (IsBorrowed d names) entries = subst (All (IsBorrowed d names)) (sym added) is.fragments.each in
    let fs = borrowed_trees schema pool d all_said own_names x o said names reached entries all in
    let whole : Document = record { definitions = definition.Operation x ∷ map definition.Fragment fs.0; span = x.span } in
    let node = is.operation.0 in
    let node_said = operation_said_of_same schema x o node said is.operation.1 in
    let alone : IsAlone x.name node document.operations = subst (λ n. IsAlone n node document.operations) said.name is.operation.2 in
    let says = document_says schema d x node node_said fs.0 entries fs.1 whole refl x.name refl in (
      whole,
      record {
        fragments = fs.0;
        definitions_are = refl;
        each = fs.2;
        all = reached_is_among schema pool d all_said own_names x o said names reached entries is.fragments fs.0 fs.1 fs.2;
        distinct = subst AreDistinct (keys_are_names schema fs.0 entries fs.1) (distinct_pairs (keys_of entries) is.unique);
      },
      said_alone schema whole d document x.name node entries alone refl says,
    )
