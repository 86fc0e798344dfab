-- Documents that one tree says against two schemas: their operations and fragments, set by set. Specification: 2.2 Document to 2.8 Fragments.
use Rattle.std.proofs.Common.{◌≡◌, ◌∙◌, List, [], ◌∷◌, Option, None, Some, sym, ap, subst}
use Rattle.std.specs.Prelude.{All, if◌then◌else◌, is_none, option_map, option_to_list}
use Rattle.std.specs.List.{AllZip}
use Rattle.std.proofs.lemmas.List.Elements.{All-contains, All-head, All-tail}
use Rattle.graphql_nodes.specs.Names.{NameText, SameName}
use Rattle.graphql_nodes.proofs.NameLemmas.{same_name_itself}
use Rattle.graphql_nodes.specs.declared.nodes.Node.{Node}
use Rattle.graphql_documents.proofs.ListLemmas.{each_standing, made_by}
use Rattle.graphql_documents.specs.Contents.{SameIfAny}
use Rattle.graphql_documents.specs.Executables.{operations_of}
use Rattle.graphql_documents.specs.Selections.{Fragments, fragments_of}
use Rattle.graphql_documents.specs.declared.documents.executables.ExecutableDocument.{ExecutableDocument}
use Rattle.graphql_documents.specs.declared.documents.executables.Fragment.{Fragment}
use Rattle.graphql_documents.specs.declared.documents.executables.Operation.{Operation}
use Rattle.graphql_documents.specs.declared.documents.schemas.Schema.{Schema}
use Rattle.graphql_trees.specs.declared.documents.Definition.{Definition}
use Rattle.graphql_trees.specs.declared.documents.Definition.TheVariants as definition
use Rattle.graphql_trees.specs.declared.documents.Document.{Document}
use Rattle.graphql_trees.specs.declared.executable.FragmentDefinition.{FragmentDefinition}
use Rattle.graphql_trees.specs.declared.executable.OperationDefinition.{OperationDefinition}
use Rattle.graphql_document_building.specs.BuildingRules.{DefinitionBuilds, DocumentBuilds, FragmentBuilds, OperationBuilds, SelectionsBuild}
use Rattle.graphql_document_building.specs.Documents.{DocumentSays, FragmentSays, OperationSays, SaysUnderName}
use Rattle.graphql_document_building.specs.SameDocuments.{SameUnderName}
use Rattle.graphql_document_building.specs.Trees.{anonymous_operations_in, as_anonymous_operation, as_fragment, as_named_operation, fragments_in, named_operations_in, root_name}
use Rattle.graphql_schema_changes.specs.Keeps.{KeepsLoneFieldsValid}
use Rattle.graphql_kept_rules.proofs.FoundLemmas.{one_some, some_and_found}
use Rattle.graphql_kept_rules.proofs.PairedLemmas.{Paired}
use Rattle.graphql_kept_rules.proofs.SaidTextLemmas.{fragment_alike, operation_alike}
use Rattle.graphql_kept_rules.specs.SameTexts.{SameFragmentText, SameOperationText}
use Rattle.graphql_sameness_laws.proofs.ZipLemmas.{zip_joined, zip_lookup, zip_mapped}

-- two lists that are said in two ways, by what builds
both_built : {T X : Type 0} (Builds : T → Type 0) (Says Other : T → X → Type 0) (Same : X → X → Type 0) →
    ((t : T) (a b : X) → Builds t → Says t a → Other t b → Same a b) →
    (ts : List T) (xs ys : List X) → All Builds ts → AllZip Says ts xs → AllZip Other ts ys → AllZip Same xs ys
both_built Builds Says Other Same one [] [] [] all p q = tt
both_built Builds Says Other Same one [] [] (b ∷ ys) all p q = absurd q
both_built Builds Says Other Same one [] (a ∷ xs) ys all p q = absurd p
both_built Builds Says Other Same one (t ∷ ts) [] ys all p q = absurd p
both_built Builds Says Other Same one (t ∷ ts) (a ∷ xs) [] all p q = absurd q
both_built Builds Says Other Same one (t ∷ ts) (a ∷ xs) (b ∷ ys) all p q =
    (one t a b (All-head Builds t ts all) p.0 q.0, both_built Builds Says Other Same one ts xs ys (All-tail Builds t ts all) p.1 q.1)

module _ (old : Schema) (ds : List Definition) (builds : All (DefinitionBuilds (Some old)) ds) where
  fragment_built : (d : Definition) (p : NameText × FragmentDefinition) → as_fragment d ≡ Some p → DefinitionBuilds (Some old) d → FragmentBuilds old p.1
  fragment_built (definition.Fragment x) p is h = let same : (x.name, x) ≡ p = cc in subst (λ (p : NameText × FragmentDefinition). FragmentBuilds old p.1) same h
  fragment_built _ p is h = absurd (let no : ⊥ = cc in no)

  fragments_built : All (λ p. FragmentBuilds old p.1) (fragments_in ds)
  fragments_built = each_standing (λ p. FragmentBuilds old p.1) (fragments_in ds) (λ p c.
      let d = made_by as_fragment ds p c in
      fragment_built d.0 p d.2 (All-contains (DefinitionBuilds (Some old)) ds d.0 builds d.1))

  anonymous_built : (d : Definition) (x : OperationDefinition) → as_anonymous_operation d ≡ Some x → DefinitionBuilds (Some old) d → OperationBuilds old x
  anonymous_built (definition.Operation y) x is h = by y.name is
    where
      by : (o : Option NameText) → (if is_none o then Some y else None) ≡ Some x → OperationBuilds old x
      by None is = let same : y ≡ x = cc in subst (OperationBuilds old) same h
      by (Some name) is = absurd (let no : ⊥ = cc in no)
  anonymous_built _ x is h = absurd (let no : ⊥ = cc in no)

  all_anonymous_built : All (OperationBuilds old) (anonymous_operations_in ds)
  all_anonymous_built = each_standing (OperationBuilds old) (anonymous_operations_in ds) (λ x c.
      let d = made_by as_anonymous_operation ds x c in
      anonymous_built d.0 x d.2 (All-contains (DefinitionBuilds (Some old)) ds d.0 builds d.1))

  named_built : (d : Definition) (p : NameText × OperationDefinition) → as_named_operation d ≡ Some p → DefinitionBuilds (Some old) d → OperationBuilds old p.1
  named_built (definition.Operation y) p is h = by y.name is
    where
      by : (o : Option NameText) → option_map (λ name. (name, y)) o ≡ Some p → OperationBuilds old p.1
      by None is = absurd (let no : ⊥ = cc in no)
      by (Some name) is = let same : (name, y) ≡ p = cc in subst (λ (p : NameText × OperationDefinition). OperationBuilds old p.1) same h
  named_built _ p is h = absurd (let no : ⊥ = cc in no)

  all_named_built : All (λ p. OperationBuilds old p.1) (named_operations_in ds)
  all_named_built = each_standing (λ p. OperationBuilds old p.1) (named_operations_in ds) (λ p c.
      let d = made_by as_named_operation ds p c in
      named_built d.0 p d.2 (All-contains (DefinitionBuilds (Some old)) ds d.0 builds d.1))

module _ (old new : Schema) (keeps : KeepsLoneFieldsValid old new) where
  pub record PairedOperation (o p : Node Operation) : Type 0 where
    pub text : SameOperationText o p
    pub sets : Paired old new keeps.fields o.value.value.selection_set p.value.value.selection_set
    pub was_root : root_name old o.value.value.operation_type ≡ Some o.value.value.selection_set.ty
    pub is_root : root_name new p.value.value.operation_type ≡ Some p.value.value.selection_set.ty

  pub record PairedFragment (d e : Node Fragment) : Type 0 where
    pub text : SameFragmentText d e
    pub sets : Paired old new keeps.fields d.value.value.selection_set e.value.value.selection_set

  abbrev pub PairedFragments : Fragments → Fragments → Type 0
  PairedFragments before after = (name : NameText) → SameIfAny PairedFragment (before name) (after name)

  operation_paired : (x : OperationDefinition) (o p : Node Operation) → OperationBuilds old x → OperationSays (Some old) x o → OperationSays (Some new) x p → PairedOperation o p
  operation_paired x o p builds before after =
      let root : builds.root ≡ o.value.value.selection_set.ty = one_some (root_name old x.operation_type) _ _ builds.defined before.root in
      let after_root = some_and_found (root_name new x.operation_type) (SameName o.value.value.selection_set.ty) (keeps.roots x.operation_type o.value.value.selection_set.ty before.root) in
      let one : after_root.0 ≡ p.value.value.selection_set.ty = one_some (root_name new x.operation_type) _ _ after_root.1 after.root in
      record {
        text = operation_alike old new x o p before after;
        sets = record {
          trees = x.selection_set.selections;
          before = before.selections;
          after = after.selections;
          ty = subst (SameName o.value.value.selection_set.ty) one after_root.2;
          builds = subst (λ n. SelectionsBuild old n x.selection_set.selections) root builds.selections;
        };
        was_root = ap (root_name old) before.operation_type ∙ before.root;
        is_root = ap (root_name new) after.operation_type ∙ after.root;
      }

  fragment_paired : (x : FragmentDefinition) (d e : Node Fragment) → FragmentBuilds old x → FragmentSays (Some old) x d → FragmentSays (Some new) x e → PairedFragment d e
  fragment_paired x d e builds before after = record {
    text = fragment_alike old new x d e before after;
    sets = record {
      trees = x.selection_set.selections;
      before = before.selections;
      after = after.selections;
      ty = subst (SameName d.value.value.selection_set.ty) (before.type_condition ∙ sym after.type_condition) (same_name_itself d.value.value.selection_set.ty);
      builds = subst (λ n. SelectionsBuild old n x.selection_set.selections) (sym before.type_condition) builds.selections;
    };
  }

  module _ (t : Document) (builds : DocumentBuilds (Some old) t) (d e : ExecutableDocument) (before : DocumentSays (Some old) t d) (after : DocumentSays (Some new) t e) where
    pub operations_paired : AllZip PairedOperation (operations_of d) (operations_of e)
    operations_paired = zip_joined PairedOperation _ _ _ _
        (both_built (OperationBuilds old) (OperationSays (Some old)) (OperationSays (Some new)) PairedOperation operation_paired
        (anonymous_operations_in t.definitions) (option_to_list d.operations.anonymous) (option_to_list e.operations.anonymous)
        (all_anonymous_built old t.definitions builds.definitions) before.anonymous after.anonymous)
        (zip_mapped (SameUnderName PairedOperation) PairedOperation (λ x. x.1) (λ x y q. q.1) d.operations.named.entries e.operations.named.entries
        (both_built (λ p. OperationBuilds old p.1) (SaysUnderName (OperationSays (Some old))) (SaysUnderName (OperationSays (Some new))) (SameUnderName PairedOperation)
        (λ x a b built u v. (u.0 ∙ sym v.0, operation_paired x.1 a.1 b.1 built u.1 v.1)) (named_operations_in t.definitions) _ _
        (all_named_built old t.definitions builds.definitions) before.named after.named))

    pub fragments_paired : PairedFragments (fragments_of d) (fragments_of e)
    fragments_paired name = zip_lookup PairedFragment _ d.fragments.entries e.fragments.entries
        (both_built (λ p. FragmentBuilds old p.1) (SaysUnderName (FragmentSays (Some old))) (SaysUnderName (FragmentSays (Some new))) (SameUnderName PairedFragment)
        (λ x a b built u v. (u.0 ∙ sym v.0, fragment_paired x.1 a.1 b.1 built u.1 v.1)) (fragments_in t.definitions) _ _
        (fragments_built old t.definitions builds.definitions) before.fragments after.fragments)
