-- The definitions of a tree and what is said by them: names under which fragments are found, and operations with and without names. Specification:
-- 2.2 Document.
use Rattle.std.proofs.Common.{◌≡◌, ◌∙◌, ℕ, zero, suc, Bool, true, false, cond, List, [], ◌∷◌, Option, None, Some, arith, ap, inl, inr, refl, sym, subst}
use Rattle.std.specs.Prelude.{Contains, ◌⊎◌, if◌then◌else◌, is_none, option_to_list}
use Rattle.std.specs.Map.{lookup}
use Rattle.std.specs.Option.{option_map}
use Rattle.std.proofs.lemmas.List.Elements.{Contains-append_cases, Contains-append_left, Contains-append_right}
use Rattle.indexmap.specs.IndexMap.{values}
use Rattle.graphql_nodes.specs.Names.{NameText, SameName, same_name}
use Rattle.graphql_nodes.proofs.NameLemmas.{same_text}
use Rattle.graphql_nodes.specs.declared.nodes.Node.{Node}
use Rattle.graphql_documents.proofs.ListLemmas.{kept_by_map, made_by, made_of, stands_behind, stands_first, stands_mapped}
use Rattle.graphql_documents.specs.Executables.{operations_of}
use Rattle.graphql_documents.specs.declared.documents.executables.ExecutableDocument.{ExecutableDocument}
use Rattle.graphql_documents.specs.declared.documents.executables.Operation.{Operation}
use Rattle.graphql_documents.specs.declared.documents.schemas.Schema.{Schema}
use Rattle.graphql_trees.specs.declared.documents.Definition.TheVariants as definition
use Rattle.graphql_trees.specs.declared.documents.Definition.{Definition}
use Rattle.graphql_trees.specs.declared.documents.Document.{Document}
use Rattle.graphql_trees.specs.declared.executable.FragmentDefinition.{FragmentDefinition}
use Rattle.graphql_trees.specs.declared.executable.OperationDefinition.{OperationDefinition}
use Rattle.graphql_document_building.specs.Documents.{DocumentSays, OperationSays, SaysUnderName}
use Rattle.graphql_document_building.specs.Trees.{anonymous_operations_in, as_anonymous_operation, as_named_operation, as_operation, fragments_in, named_operations_in, operations_in}
use Rattle.graphql_projects.specs.OperationTrees.{Pool, fragment_named}
use Rattle.graphql_projects.proofs.SaidReachLemmas.{zip_first, zip_second}

-- ==== entries under names

module _ {K V : Type 0} (test : K → Bool) where
  -- an entry whose key passes, with this value
  abbrev pub IsFound : List (K × V) → V → Type 0
  IsFound es v = (k : K) × Contains es (k, v) × (test k ≡ true)

  found_at : (b : Bool) (e : K × V) (es : List (K × V)) (v : V) → test e.0 ≡ b → cond b (Some e.1) (lookup test es) ≡ Some v →
      (lookup test es ≡ Some v → IsFound es v) → IsFound (e ∷ es) v
  found_at true e es v passes is rest =
      let here : e.1 ≡ v = cc in
      (e.0, subst (λ w. Contains (e ∷ es) (e.0, w)) here (stands_first e es), passes)
  found_at false e es v passes is rest = let deep = rest is in (deep.0, stands_behind e es (deep.0, v) deep.1, deep.2)

  pub found_entry : (es : List (K × V)) (v : V) → lookup test es ≡ Some v → IsFound es v
  found_entry [] v is = absurd (let h : ⊥ = cc in h)
  found_entry (e ∷ es) v is = found_at (test e.0) e es v refl is (found_entry es v)

  missed_at : (b : Bool) (v : V) (o : Option V) → cond b (Some v) o ≡ None → (b ≡ false) × (o ≡ None)
  missed_at true v o is = absurd (let h : ⊥ = cc in h)
  missed_at false v o is = (refl, is)

  pub missed : (es : List (K × V)) (e : K × V) → lookup test es ≡ None → Contains es e → test e.0 ≡ false
  missed [] e is (k, within, here) = absurd (omega arith)
  missed (x ∷ es) e is (zero, within, here) = ap (λ (y : K × V). test y.0) (sym here) ∙ (missed_at (test x.0) x.1 (lookup test es) is).0
  missed (x ∷ es) e is (suc k, within, here) = missed es e (missed_at (test x.0) x.1 (lookup test es) is).1 (k, omega arith, here)

-- ==== fragments

pub own_names : (definitions : List Definition) (p : NameText × FragmentDefinition) → Contains (fragments_in definitions) p → p.0 ≡ p.1.name
own_names [] p (k, within, is) = absurd (omega arith)
own_names (definition.Fragment x ∷ ds) p (zero, within, is) =
    ap (λ (q : NameText × FragmentDefinition). q.0) (sym is) ∙ ap (λ (q : NameText × FragmentDefinition). q.1.name) is
own_names (definition.Fragment x ∷ ds) p (suc k, within, is) = own_names ds p (k, omega arith, is)
own_names (_ ∷ ds) p c = own_names ds p c

-- the name by which a fragment is found is its own
pub found_by_name : (definitions : List Definition) (name : NameText) (d : FragmentDefinition) → fragment_named (fragments_in definitions) name ≡ Some d → SameName name d.name
found_by_name definitions name d is =
    let found = found_entry (same_name name) (fragments_in definitions) d is in
    subst (λ n. same_name name n ≡ true) (own_names definitions (found.0, d) found.1) found.2

-- names of one text find one fragment
pub one_found : (pool : Pool) (a b : NameText) → SameName a b → fragment_named pool a ≡ fragment_named pool b
one_found pool a b same = ap (λ (text : List ℕ). lookup (same_name (record { text = text; location = None })) pool) (same_text a b same)

-- ==== operations

only_then : (b : Bool) (x y : OperationDefinition) → (if b then Some x else None) ≡ Some y → x ≡ y
only_then true x y is = cc
only_then false x y is = absurd (let h : ⊥ = cc in h)

anonymous_is_operation : (d : Definition) (x : OperationDefinition) → as_anonymous_operation d ≡ Some x → as_operation d ≡ Some x
anonymous_is_operation (definition.Operation y) x is = ap Some (only_then (is_none y.name) y x is)
anonymous_is_operation (_) x is = absurd (let h : ⊥ = cc in h)

only_named : (o : Option NameText) (x : OperationDefinition) (p : NameText × OperationDefinition) → option_map (λ name. (name, x)) o ≡ Some p → x ≡ p.1
only_named None x p is = absurd (let h : ⊥ = cc in h)
only_named (Some name) x p is = let both : (name, x) ≡ p = cc in ap (λ (q : NameText × OperationDefinition). q.1) both

named_is_operation : (d : Definition) (p : NameText × OperationDefinition) → as_named_operation d ≡ Some p → as_operation d ≡ Some p.1
named_is_operation (definition.Operation y) p is = ap Some (only_named y.name y p is)
named_is_operation (_) p is = absurd (let h : ⊥ = cc in h)

-- an operation has no name and is among those without, or has one
name_or_none : (n : Option NameText) (y : OperationDefinition) → y.name ≡ n →
    ((if is_none y.name then Some y else None) ≡ Some y) ⊎ ((name : NameText) × (option_map {U = NameText × OperationDefinition} (λ name. (name, y)) y.name ≡ Some (name, y)))
name_or_none None y is = inl (ap (λ n. if is_none n then Some y else None) is)
name_or_none (Some name) y is = inr (name, ap (option_map {U = NameText × OperationDefinition} (λ name. (name, y))) is)

operation_kind : (d : Definition) (x : OperationDefinition) → as_operation d ≡ Some x →
    (as_anonymous_operation d ≡ Some x) ⊎ ((name : NameText) × (as_named_operation d ≡ Some (name, x)))
operation_kind (definition.Operation y) x is =
    let here : y ≡ x = cc in
    elim (name_or_none y.name y refl) [
      | inl none ↦ inl (none ∙ ap Some here)
      | inr named ↦ inr (named.0, named.1 ∙ ap (λ z. Some (named.0, z)) here)
    ]
operation_kind (_) x is = absurd (let h : ⊥ = cc in h)

module _ (schema : Option Schema) (tree : Document) (document : ExecutableDocument) (says : DocumentSays schema tree document) where
  -- each operation of the document is said by one of the tree
  pub operation_is_said : (o : Node Operation) → Contains (operations_of document) o → (x : OperationDefinition) × Contains (operations_in tree.definitions) x × OperationSays schema x o
  operation_is_said o c = elim (Contains-append_cases (option_to_list document.operations.anonymous) (values document.operations.named) o c) [
    | inl anonymous ↦
        let found = zip_first (OperationSays schema) (anonymous_operations_in tree.definitions) (option_to_list document.operations.anonymous) o says.anonymous anonymous in
        let d = made_by as_anonymous_operation tree.definitions found.0 found.1 in
        (found.0, kept_by_map as_operation tree.definitions d.0 found.0 d.1 (anonymous_is_operation d.0 found.0 d.2), found.2)
    | inr named ↦
        let e = made_of (λ (p : NameText × Node Operation). p.1) document.operations.named.entries o named in
        let found = zip_first (SaysUnderName (OperationSays schema)) (named_operations_in tree.definitions) document.operations.named.entries e.0 says.named e.1 in
        let d = made_by as_named_operation tree.definitions found.0 found.1 in
        (found.0.1, kept_by_map as_operation tree.definitions d.0 found.0.1 d.1 (named_is_operation d.0 found.0 d.2), subst (OperationSays schema found.0.1) e.2 found.2.1)
  ]

  -- and each operation of the tree says one of the document
  pub operation_says : (x : OperationDefinition) → Contains (operations_in tree.definitions) x → (o : Node Operation) × Contains (operations_of document) o × OperationSays schema x o
  operation_says x c =
      let d = made_by as_operation tree.definitions x c in
      elim (operation_kind d.0 x d.2) [
        | inl none ↦
            let found = zip_second (OperationSays schema) (anonymous_operations_in tree.definitions) (option_to_list document.operations.anonymous) x says.anonymous
            (kept_by_map as_anonymous_operation tree.definitions d.0 x d.1 none) in
            (found.0, Contains-append_left (option_to_list document.operations.anonymous) (values document.operations.named) found.0 found.1, found.2)
        | inr named ↦
            let found = zip_second (SaysUnderName (OperationSays schema)) (named_operations_in tree.definitions) document.operations.named.entries (named.0, x) says.named
            (kept_by_map as_named_operation tree.definitions d.0 (named.0, x) d.1 named.1) in (
              found.0.1,
              Contains-append_right (option_to_list document.operations.anonymous) (values document.operations.named) found.0.1
                  (stands_mapped (λ (p : NameText × Node Operation). p.1) document.operations.named.entries found.0 found.1),
              found.2.1,
            )
      ]
