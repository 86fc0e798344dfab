-- What is reported of fragments that are not used, and what is noted of those that are.
use Rattle.std.proofs.Common.{◌≡◌, ◌∙◌, ℕ, ◌+◌, ◌<◌, List, [], ◌∷◌, ◌++◌, Some, length, get_or, take, ap, inl, inr, subst, sym}
use Rattle.std.specs.Prelude.{◌⊎◌, Contains, flat_map}
use Rattle.std.specs.Borrow.{Bor}
use Rattle.std.proofs.lemmas.List.Elements.{Contains-append_cases}
use Rattle.std.proofs.lemmas.List.Folds.{Any-from_list_any}
use Rattle.graphql_diagnostics.specs.Reports.{KeepsReports}
use Rattle.graphql_diagnostics.specs.declared.data.DiagnosticData.TheVariants as report
use Rattle.graphql_diagnostics.specs.declared.details.Details.TheVariants as details
use Rattle.graphql_diagnostics.specs.declared.lists.DiagnosticEntry.{DiagnosticEntry}
use Rattle.graphql_documents.proofs.ListLemmas.{kept_by_map, none_stands, only_one, stands_flat}
use Rattle.graphql_documents.proofs.SelectionLemmas.{one_fragment_found}
use Rattle.graphql_documents.specs.Executables.{operations_of}
use Rattle.graphql_documents.specs.Selections.{fragments_of}
use Rattle.graphql_documents.specs.declared.documents.executables.ExecutableDocument.{ExecutableDocument}
use Rattle.graphql_documents.specs.declared.documents.executables.Fragment.{Fragment}
use Rattle.graphql_documents.specs.declared.documents.executables.Operation.{Operation}
use Rattle.graphql_document_checking.specs.Trees.{as_fragment, fragments_in}
use Rattle.graphql_frontend.specs.declared.reports.Reports.{Reports}
use Rattle.graphql_nodes.specs.Names.{NameText, same_name}
use Rattle.graphql_nodes.specs.declared.nodes.Node.{Node}
use Rattle.graphql_pools.specs.Uses.{NotesNames}
use Rattle.graphql_projects.specs.OperationTrees.{fragments_among}
use Rattle.graphql_projects.proofs.ReachLemmas.{nodes_next}
use Rattle.graphql_projects.specs.Reach.{nodes_at}
use Rattle.graphql_projects.specs.Reached.{IsSpreadFrom, ReachesNames}
use Rattle.graphql_trees.specs.declared.documents.Definition.TheVariants as definition
use Rattle.graphql_trees.specs.declared.documents.Definition.{Definition}
use Rattle.graphql_trees.specs.declared.documents.Document.{Document}
use Rattle.graphql_trees.specs.declared.executable.FragmentDefinition.{FragmentDefinition}
use Rattle.graphql_variables.specs.Uses.{IsNamedIn}
use Rattle.graphql_project_checking.proofs.OperationLemmas.{is_there}
use Rattle.graphql_project_checking.proofs.ReachingLemmas.{flat_last}
use Rattle.graphql_project_checking.proofs.TruthLemmas.{adds_so, rules_so}
use Rattle.graphql_project_checking.specs.Truth.{AreOfRules, IsUnnamedEntry, NotesAll, unused_entry}

-- ==== reports

abbrev entry_of : FragmentDefinition → NameText → DiagnosticEntry
entry_of f name = record { location = Some f.span; details = details.Diagnostic (report.UnusedFragment name) }

pub entry_is : (f : FragmentDefinition) (name : NameText) → name ≡ f.name → entry_of f name ≡ unused_entry f
entry_is f name is = ap (entry_of f) is

-- what is reported of a fragment is reported of those among which it is
pub unnamed_of_one : (used : List NameText) (ds : List Definition) (d : Definition) (f : FragmentDefinition) (old new : List DiagnosticEntry) → Contains ds d →
    d ≡ definition.Fragment f → KeepsReports (IsUnnamedEntry used ((f.name, f) ∷ [])) old new → KeepsReports (IsUnnamedEntry used (fragments_in ds)) old new
unnamed_of_one used ds d f old new c is adds =
    let there : Contains (fragments_in ds) (f.name, f) = kept_by_map as_fragment ds d (f.name, f) c (ap as_fragment is) in
    adds_so (IsUnnamedEntry used ((f.name, f) ∷ [])) (IsUnnamedEntry used (fragments_in ds)) old new
    (λ e u. (u.0, subst (Contains (fragments_in ds)) (sym (only_one (f.name, f) u.0 u.1)) there, u.2, u.3)) adds

pub unnamed_of_file : (used : List NameText) (documents : List Document) (document : Document) (old new : List Reports) → Contains documents document →
    KeepsReports (AreOfRules (IsUnnamedEntry used (fragments_in document.definitions))) old new → KeepsReports (AreOfRules (IsUnnamedEntry used (fragments_among documents))) old new
unnamed_of_file used documents document old new c adds =
    let One = IsUnnamedEntry used (fragments_in document.definitions) in
    let All = IsUnnamedEntry used (fragments_among documents) in
    adds_so (AreOfRules One) (AreOfRules All) old new
    (rules_so One All (λ e u. (u.0, stands_flat (λ (t : Document). fragments_in t.definitions) documents document u.0 c u.1, u.2, u.3))) adds

-- ==== notes

module _ (pool : ExecutableDocument) where
  named_still : (old new : List NameText) (name : NameText) → ((used : NameText) → Contains old used → Contains new used) → IsNamedIn old name → IsNamedIn new name
  named_still old new name stay (used, there, same) = (used, stay used there, same)

  pub all_of_nothing : (old : List NameText) → NotesAll pool [] old old
  all_of_nothing old = record {
    stay = λ used there. there;
    noted = λ o name d c spread found. absurd (none_stands o c);
  }

  pub all_then : (os ps : List (Node Operation)) (old mid new : List NameText) → NotesAll pool os old mid → NotesAll pool ps mid new → NotesAll pool (os ++ ps) old new
  all_then os ps old mid new a b = record {
    stay = λ used there. b.stay used (a.stay used there);
    noted = λ o name d c spread found. by o name d spread found (Contains-append_cases os ps o c);
  } where
    by : (o : Node Operation) (name : NameText) (d : Node Fragment) → IsSpreadFrom (fragments_of pool) o.value.value.selection_set name → fragments_of pool name ≡ Some d →
        Contains os o ⊎ Contains ps o → IsNamedIn new d.value.value.name
    by o name d spread found (inl before) = named_still mid new d.value.value.name b.stay (a.noted o name d before spread found)
    by o name d spread found (inr behind) = b.noted o name d behind spread found

  pub all_of_one : (o : Node Operation) (names : List NameText) (old new : List NameText) → ReachesNames (fragments_of pool) o.value.value.selection_set names →
      NotesNames pool names old new → NotesAll pool (o ∷ []) old new
  all_of_one o names old new reached notes = record {
    stay = notes.stay;
    noted = λ p name d c spread found. noted p name d (only_one o p c) spread found;
  } where
    noted : (p : Node Operation) (name : NameText) (d : Node Fragment) → p ≡ o → IsSpreadFrom (fragments_of pool) p.value.value.selection_set name →
        fragments_of pool name ≡ Some d → IsNamedIn new d.value.value.name
    noted p name d same spread found =
        let own = subst (λ (q : Node Operation). IsSpreadFrom (fragments_of pool) q.value.value.selection_set name) same spread in
        let known = reached.all name own (is_there (fragments_of pool name) d found) in
        let at = Any-from_list_any (same_name name) names known in
        notes.noted at.1 d (at.0, at.2, at.3) (sym (one_fragment_found pool name at.1 at.4) ∙ found)

  pub all_of_more : (all : List (Bor (Node Operation))) (i : ℕ) (x : Bor (Node Operation)) (old mid new : List NameText) → i < length all → x ≡ get_or all i x →
      NotesAll pool (nodes_at (take i all)) old mid → NotesAll pool (x.now ∷ []) mid new → NotesAll pool (nodes_at (take (i + 1) all)) old new
  all_of_more all i x old mid new within is first rest =
      subst (λ l. NotesAll pool l old new) (sym (nodes_next all i x within is)) (all_then (nodes_at (take i all)) (x.now ∷ []) old mid new first rest)

  pub all_of_file : (done : List ExecutableDocument) (x : ExecutableDocument) (old mid new : List NameText) → NotesAll pool (flat_map operations_of done) old mid →
      NotesAll pool (operations_of x) mid new → NotesAll pool (flat_map operations_of (done ++ x ∷ [])) old new
  all_of_file done x old mid new first rest =
      subst (λ l. NotesAll pool l old new) (sym (flat_last pool done x)) (all_then (flat_map operations_of done) (operations_of x) old mid new first rest)
