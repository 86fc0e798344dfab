-- From a document that says a whole text, the document of one of its operations: with this operation, and the fragments that a tree of it has.
-- Specification: 2.2 Document, 2.3 Operations.
use Rattle.std.proofs.Common.{◌≡◌, ◌∙◌, true, false, List, [], ◌∷◌, Option, None, Some, map, ap, refl, sym, subst}
use Rattle.std.specs.Prelude.{All, if◌then◌else◌, is_none}
use Rattle.std.specs.List.{AllZip, cons_option}
use Rattle.std.specs.Map.{lookup}
use Rattle.std.specs.Option.{option_map}
use Rattle.std.proofs.lemmas.List.Elements.{All-cons, All-contains, All-head, All-nil, All-tail}
use Rattle.indexmap.specs.IndexMap.{with_entries}
use Rattle.graphql_nodes.specs.Names.{NameText, SameName, same_name}
use Rattle.graphql_nodes.specs.Nodes.{SameNode}
use Rattle.graphql_nodes.specs.declared.nodes.Node.{Node}
use Rattle.graphql_documents.proofs.ListLemmas.{stands_mapped}
use Rattle.graphql_documents.proofs.SelectionLemmas.{one_fragment_found}
use Rattle.graphql_documents.specs.Contents.{SameIfAny}
use Rattle.graphql_documents.specs.Selections.{fragments_of}
use Rattle.graphql_documents.specs.declared.documents.executables.ExecutableDocument.{ExecutableDocument}
use Rattle.graphql_documents.specs.declared.documents.executables.Fragment.{Fragment}
use Rattle.graphql_documents.specs.declared.documents.executables.Operation.{Operation}
use Rattle.graphql_documents.specs.declared.documents.schemas.Schema.{Schema}
use Rattle.graphql_trees.specs.declared.documents.Definition.TheVariants as definition
use Rattle.graphql_trees.specs.declared.documents.Document.{Document}
use Rattle.graphql_trees.specs.declared.executable.FragmentDefinition.{FragmentDefinition}
use Rattle.graphql_trees.specs.declared.executable.OperationDefinition.{OperationDefinition}
use Rattle.graphql_document_building.specs.Documents.{DocumentSays, FragmentSays, OperationSays, SaysUnderName}
use Rattle.graphql_document_building.specs.Trees.{anonymous_operations_in, fragments_in, named_operations_in}
use Rattle.graphql_operation_laws.specs.Agreement.{AgreeFrom}
use Rattle.graphql_projects.specs.OperationTrees.{IsTreeOf, ReachesFragment, SpreadsIn, fragment_named}
use Rattle.graphql_projects.proofs.SaidDefinitionLemmas.{found_by_name, found_entry, missed, one_found}
use Rattle.graphql_projects.proofs.SaidReachLemmas.{SaysIfAny, fragment_said, names_say, said_fragment, spread_is_in_tree, zip_second}

-- ==== the definitions of the tree of one operation

no_anonymous : (fs : List FragmentDefinition) → anonymous_operations_in (map definition.Fragment fs) ≡ []
no_anonymous [] = refl
no_anonymous (f ∷ fs) = no_anonymous fs

no_named : (fs : List FragmentDefinition) → named_operations_in (map definition.Fragment fs) ≡ []
no_named [] = refl
no_named (f ∷ fs) = no_named fs

-- a fragment under its own name
abbrev pub own : FragmentDefinition → NameText × FragmentDefinition
own f = (f.name, f)

pub own_fragments : (fs : List FragmentDefinition) → fragments_in (map definition.Fragment fs) ≡ map own fs
own_fragments [] = refl
own_fragments (f ∷ fs) = ap (λ l. own f ∷ l) (own_fragments fs)

-- ==== the document

-- the document of one operation, under its name if it has one, with these fragments
abbrev pub document_of : ExecutableDocument → Option NameText → Node Operation → List (NameText × Node Fragment) → ExecutableDocument
document_of d None o entries = record {
  operations = record { anonymous = Some o; named = with_entries d.operations.named [] };
  fragments = with_entries d.fragments entries;
}
document_of d (Some name) o entries = record {
  operations = record { anonymous = None; named = with_entries d.operations.named ((name, o) ∷ []) };
  fragments = with_entries d.fragments entries;
}

module _ (schema : Option Schema) (d : ExecutableDocument) (x : OperationDefinition) (o : Node Operation) (said : OperationSays schema x o)
    (fs : List FragmentDefinition) (entries : List (NameText × Node Fragment)) (fragments_said : AllZip (SaysUnderName (FragmentSays schema)) (map own fs) entries)
    (whole : Document) (definitions_are : whole.definitions ≡ definition.Operation x ∷ map definition.Fragment fs) where
  fragments_say : AllZip (SaysUnderName (FragmentSays schema)) (fragments_in whole.definitions) entries
  fragments_say = subst (λ l. AllZip (SaysUnderName (FragmentSays schema)) l entries) (sym (ap fragments_in definitions_are ∙ own_fragments fs)) fragments_said

  pub document_says : (n : Option NameText) → x.name ≡ n → DocumentSays schema whole (document_of d n o entries)
  document_says None is = record {
    anonymous = subst (λ l. AllZip (OperationSays schema) l (o ∷ []))
        (sym (ap anonymous_operations_in definitions_are ∙
        ap (λ n. cons_option (if is_none n then Some x else None) (anonymous_operations_in (map definition.Fragment fs))) is ∙ ap (λ l. x ∷ l) (no_anonymous fs)))
        (said, tt);
    named = subst (λ l. AllZip (SaysUnderName (OperationSays schema)) l [])
        (sym (ap named_operations_in definitions_are ∙
        ap (λ n. cons_option (option_map (λ name. (name, x)) n) (named_operations_in (map definition.Fragment fs))) is ∙ no_named fs))
        tt;
    fragments = fragments_say;
  }
  document_says (Some name) is = record {
    anonymous = subst (λ l. AllZip (OperationSays schema) l [])
        (sym (ap anonymous_operations_in definitions_are ∙
        ap (λ n. cons_option (if is_none n then Some x else None) (anonymous_operations_in (map definition.Fragment fs))) is ∙ no_anonymous fs))
        tt;
    named = subst (λ l. AllZip (SaysUnderName (OperationSays schema)) l ((name, o) ∷ []))
        (sym (ap named_operations_in definitions_are ∙
        ap (λ n. cons_option (option_map (λ name. (name, x)) n) (named_operations_in (map definition.Fragment fs))) is ∙ ap (λ l. (name, x) ∷ l) (no_named fs)))
        ((refl, said), tt);
    fragments = fragments_say;
  }

-- ==== its fragments, which are those of the whole document

-- the fragment under each name is the one that the document finds by it
abbrev pub AreOf : ExecutableDocument → List (NameText × Node Fragment) → Type 0
AreOf d entries = All (λ e. fragments_of d e.0 ≡ Some e.1) entries

module _ (schema : Option Schema) (tree : Document) (d : ExecutableDocument) (says : DocumentSays schema tree d) where
  said_by_name : (name : NameText) → SaysIfAny schema (fragment_named (fragments_in tree.definitions) name) (fragments_of d name)
  said_by_name name = names_say schema name (fragments_in tree.definitions) d.fragments.entries says.fragments

  pub entries_for : (x : OperationDefinition) (fs : List FragmentDefinition) → All (ReachesFragment (fragments_in tree.definitions) x) fs →
      (entries : List (NameText × Node Fragment)) × AllZip (SaysUnderName (FragmentSays schema)) (map own fs) entries × AreOf d entries
  entries_for x [] all = ([], tt, All-nil (λ e. fragments_of d e.0 ≡ Some e.1))
  entries_for x (f ∷ fs) all =
      let here = All-head (ReachesFragment (fragments_in tree.definitions) x) f fs all in
      let named = found_by_name tree.definitions here.name f here.found in
      let by_own : fragment_named (fragments_in tree.definitions) f.name ≡ Some f = sym (one_found (fragments_in tree.definitions) here.name f.name named) ∙ here.found in
      let node = fragment_said schema (fragment_named (fragments_in tree.definitions) f.name) (fragments_of d f.name) f (said_by_name f.name) by_own in
      let rest = entries_for x fs (All-tail (ReachesFragment (fragments_in tree.definitions) x) f fs all) in
      ((f.name, node.0) ∷ rest.0, ((refl, node.2), rest.1), All-cons (λ e. fragments_of d e.0 ≡ Some e.1) (f.name, node.0) rest.0 node.1 rest.2)

  agree_option : (p q : Option (Node Fragment)) → ((e : Node Fragment) → q ≡ Some e → p ≡ Some e) → ((e : Node Fragment) → p ≡ Some e → q ≡ None → ⊥) →
      SameIfAny SameNode p q
  agree_option None None sound complete = tt
  agree_option None (Some e) sound complete = absurd (let is = sound e refl in let h : ⊥ = cc in h)
  agree_option (Some e) None sound complete = absurd (complete e refl refl)
  agree_option (Some e) (Some f) sound complete =
      let is = sound f refl in
      let same : f ≡ e = cc in
      record { same_value = ap (λ (z : Node Fragment). z.value.value) same; same_location = ap (λ (z : Node Fragment). z.location) same }

  module _ (x : OperationDefinition) (o : Node Operation) (said : OperationSays schema x o) (whole : Document) (is_tree : IsTreeOf (fragments_in tree.definitions) x whole)
      (entries : List (NameText × Node Fragment)) (fragments_said : AllZip (SaysUnderName (FragmentSays schema)) (map own is_tree.fragments) entries) (of_document : AreOf d entries) where
    sound_entry : (name : NameText) (e : Node Fragment) → lookup (same_name name) entries ≡ Some e → fragments_of d name ≡ Some e
    sound_entry name e is =
        let found = found_entry (same_name name) entries e is in
        one_fragment_found d name found.0 found.2 ∙ All-contains (λ e. fragments_of d e.0 ≡ Some e.1) entries (found.0, e) of_document found.1

    complete_entry : (name : NameText) → SpreadsIn (fragments_in tree.definitions) x.selection_set.selections name → (e : Node Fragment) →
        fragments_of d name ≡ Some e → lookup (same_name name) entries ≡ None → ⊥
    complete_entry name spread e is missing =
        let y = said_fragment schema (fragment_named (fragments_in tree.definitions) name) (fragments_of d name) e (said_by_name name) is in
        let in_tree = is_tree.all y.0 (record { name = name; spread = spread; found = y.1 }) in
        let entry = zip_second (SaysUnderName (FragmentSays schema)) (map own is_tree.fragments) entries (own y.0) fragments_said (stands_mapped own is_tree.fragments y.0 in_tree) in
        let passes : same_name name entry.0.0 ≡ true = subst (SameName name) (sym entry.2.0) (found_by_name tree.definitions name y.0 y.1) in
        let fails : same_name name entry.0.0 ≡ false = missed (same_name name) entries entry.0 missing entry.1 in
        let h : ⊥ = cc in h

    pub fragments_agree : (n : Option NameText) → AgreeFrom (fragments_of d) (fragments_of (document_of d n o entries)) o.value.value.selection_set
    fragments_agree n name (p, reached, named) =
        let spread = spread_is_in_tree schema (fragments_in tree.definitions) (fragments_of d) said_by_name o.value.value.selection_set x.selection_set.selections p
        (o.value.value.selection_set.ty, said.selections) reached in
        by_name n name (subst (SpreadsIn (fragments_in tree.definitions) x.selection_set.selections) (sym named) spread)
      where
        by_name : (n : Option NameText) (name : NameText) → SpreadsIn (fragments_in tree.definitions) x.selection_set.selections name →
            SameIfAny SameNode (fragments_of d name) (fragments_of (document_of d n o entries) name)
        by_name None name spread = agree_option (fragments_of d name) (lookup (same_name name) entries) (sound_entry name) (complete_entry name spread)
        by_name (Some own_name) name spread = agree_option (fragments_of d name) (lookup (same_name name) entries) (sound_entry name) (complete_entry name spread)
