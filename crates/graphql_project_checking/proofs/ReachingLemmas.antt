-- What the operations of files reach, one operation after another, and one file after another.
use Rattle.std.proofs.Common.{◌≡◌, ◌∙◌, ℕ, ◌+◌, ◌<◌, Bool, true, false, cond, List, [], ◌∷◌, ◌++◌, Option, Some, length, get_or, take, ap, inl, inr, refl, subst, sym}
use Rattle.std.specs.Prelude.{◌⊎◌, All, Contains, IsSome, flat_map}
use Rattle.std.specs.Borrow.{Bor}
use Rattle.std.specs.Map.{lookup}
use Rattle.std.proofs.lemmas.List.{append_assoc, append-nil}
use Rattle.std.proofs.lemmas.List.Elements.{All-append, All-cons, All-contains, All-nil, Contains-append_cases, Contains-append_left, Contains-append_right}
use Rattle.std.proofs.lemmas.List.Folds.{Any-from_list_any}
use Rattle.graphql_documents.proofs.ListLemmas.{none_stands, only_one, stands_first}
use Rattle.graphql_documents.proofs.SelectionLemmas.{one_fragment_found}
use Rattle.graphql_documents.specs.Executables.{operations_of}
use Rattle.graphql_documents.specs.Selections.{fragments_of}
use Rattle.graphql_documents.specs.declared.documents.executables.ExecutableDocument.{ExecutableDocument}
use Rattle.graphql_documents.specs.declared.documents.executables.Fragment.{Fragment}
use Rattle.graphql_documents.specs.declared.documents.executables.Operation.{Operation}
use Rattle.graphql_documents.specs.declared.documents.schemas.Schema.{Schema}
use Rattle.graphql_frontend.specs.declared.reports.Reports.{Reports}
use Rattle.graphql_nodes.specs.Names.{NameText, same_name}
use Rattle.graphql_nodes.specs.declared.nodes.Node.{Node}
use Rattle.graphql_pools.specs.Pools.{Borrows, Entry, IsBorrowed}
use Rattle.graphql_projects.proofs.ReachLemmas.{nodes_next}
use Rattle.graphql_projects.specs.Reach.{nodes_at}
use Rattle.graphql_projects.specs.Reached.{IsReachedFrom, IsSpreadFrom, ReachesNames}
use Rattle.graphql_project_checking.proofs.OperationLemmas.{is_there}
use Rattle.graphql_project_checking.proofs.SilenceLemmas.{quiet_then}
use Rattle.graphql_pools.specs.Uses.{NotesNames}
use Rattle.graphql_project_checking.specs.Silence.{BorrowsForAll, FilePasses, IsReachedByOne, IsUsedName, NotesUses, OperationPasses, QuietOnlyIf}

-- ==== what is found stays

found_still : (b : Bool) (v : Node Fragment) (o p : Option (Node Fragment)) → (IsSome o → IsSome p) → IsSome (cond b (Some v) o) → IsSome (cond b (Some v) p)
found_still true v o p more found = refl
found_still false v o p more found = more found

lookup_stays : (test : NameText → Bool) (xs ys : List Entry) → IsSome (lookup test xs) → IsSome (lookup test (xs ++ ys))
lookup_stays test [] ys found = absurd (let h : ⊥ = cc in h)
lookup_stays test (x ∷ xs) ys found = found_still (test x.0) x.1 (lookup test xs) (lookup test (xs ++ ys)) (lookup_stays test xs ys) found

-- ==== what operations borrow

module _ (pool : ExecutableDocument) where
  by_one_of_more : (os ps : List (Node Operation)) (e : Entry) → ((o : Node Operation) → Contains os o → Contains ps o) → IsReachedByOne pool os e → IsReachedByOne pool ps e
  by_one_of_more os ps e more r = record { o = r.o; name = r.name; d = r.d; among = more r.o r.among; reached = r.reached; found = r.found; key = r.key; same = r.same }

  pub borrow_nothing : (old : List Entry) → BorrowsForAll pool [] old old
  borrow_nothing old = record {
    added = [];
    appended = sym (append-nil old);
    each = All-nil (IsReachedByOne pool []);
    there = λ o name d c spread found. absurd (none_stands o c);
  }

  pub borrow_then : (os ps : List (Node Operation)) (old mid new : List Entry) → BorrowsForAll pool os old mid → BorrowsForAll pool ps mid new → BorrowsForAll pool (os ++ ps) old new
  borrow_then os ps old mid new a b = record {
    added = a.added ++ b.added;
    appended = b.appended ∙ ap (λ l. l ++ b.added) a.appended ∙ append_assoc old a.added b.added;
    each = All-append (IsReachedByOne pool (os ++ ps)) a.added b.added
        (λ k d within. by_one_of_more os (os ++ ps) _ (λ o c. Contains-append_left os ps o c) (a.each k d within))
        (λ k d within. by_one_of_more ps (os ++ ps) _ (λ o c. Contains-append_right os ps o c) (b.each k d within));
    there = λ o name d c spread found. by_place o name d spread found (Contains-append_cases os ps o c);
  } where
    by_place : (o : Node Operation) (name : NameText) (d : Node Fragment) → IsSpreadFrom (fragments_of pool) o.value.value.selection_set name → fragments_of pool name ≡ Some d →
        Contains os o ⊎ Contains ps o → IsSome (lookup (same_name d.value.value.name) new)
    by_place o name d spread found (inl before) =
        subst (λ l. IsSome (lookup (same_name d.value.value.name) l)) (sym b.appended) (lookup_stays (same_name d.value.value.name) mid b.added (a.there o name d before spread found))
    by_place o name d spread found (inr behind) = b.there o name d behind spread found

  pub borrow_one : (o : Node Operation) (names : List NameText) (old new : List Entry) → ReachesNames (fragments_of pool) o.value.value.selection_set names →
      Borrows pool names old new → BorrowsForAll pool (o ∷ []) old new
  borrow_one o names old new reached b = record {
    added = b.added;
    appended = b.appended;
    each = λ k d within. reached_one _ (b.each k d within);
    there = λ p name d c spread found. there p name d (only_one o p c) spread found;
  } where
    reached_one : (e : Entry) → IsBorrowed pool names e → IsReachedByOne pool (o ∷ []) e
    reached_one e (name, c, d, found, key, same) = record {
      o = o;
      name = name;
      d = d;
      among = stands_first o [];
      reached = All-contains (IsReachedFrom (fragments_of pool) o.value.value.selection_set) names name reached.each c;
      found = found;
      key = key;
      same = same;
    }

    there : (p : Node Operation) (name : NameText) (d : Node Fragment) → p ≡ o → IsSpreadFrom (fragments_of pool) p.value.value.selection_set name → fragments_of pool name ≡ Some d →
        IsSome (lookup (same_name d.value.value.name) new)
    there p name d same spread found =
        let own = subst (λ (q : Node Operation). IsSpreadFrom (fragments_of pool) q.value.value.selection_set name) same spread in
        let known = reached.all name own (is_there (fragments_of pool name) d found) in
        let at = Any-from_list_any (same_name name) names known in
        b.there at.1 d (at.0, at.2, at.3) (sym (one_fragment_found pool name at.1 at.4) ∙ found)

  -- ==== what is noted of them

  used_of_more : (os ps : List (Node Operation)) (name : NameText) → ((o : Node Operation) → Contains os o → Contains ps o) → IsUsedName pool os name → IsUsedName pool ps name
  used_of_more os ps name more r = record { o = r.o; name = r.name; d = r.d; among = more r.o r.among; reached = r.reached; found = r.found; is = r.is }

  pub note_nothing : (old : List NameText) → NotesUses pool [] old old
  note_nothing old name there = inl there

  pub note_then : (os ps : List (Node Operation)) (old mid new : List NameText) → NotesUses pool os old mid → NotesUses pool ps mid new → NotesUses pool (os ++ ps) old new
  note_then os ps old mid new first rest name there = by (rest name there) where
    by_first : Contains old name ⊎ IsUsedName pool os name → Contains old name ⊎ IsUsedName pool (os ++ ps) name
    by_first (inl was) = inl was
    by_first (inr u) = inr (used_of_more os (os ++ ps) name (λ o c. Contains-append_left os ps o c) u)

    by : Contains mid name ⊎ IsUsedName pool ps name → Contains old name ⊎ IsUsedName pool (os ++ ps) name
    by (inl was) = by_first (first name was)
    by (inr u) = inr (used_of_more ps (os ++ ps) name (λ o c. Contains-append_right os ps o c) u)

  pub note_one : (o : Node Operation) (names : List NameText) (old new : List NameText) → ReachesNames (fragments_of pool) o.value.value.selection_set names →
      NotesNames pool names old new → NotesUses pool (o ∷ []) old new
  note_one o names old new reached notes name there = by (notes.only name there) where
    by : Contains old name ⊎ ((n : NameText) × (d : Node Fragment) × Contains names n × (fragments_of pool n ≡ Some d) × (name ≡ d.value.value.name)) →
        Contains old name ⊎ IsUsedName pool (o ∷ []) name
    by (inl was) = inl was
    by (inr (n, d, c, found, is)) = inr (record {
      o = o;
      name = n;
      d = d;
      among = stands_first o [];
      reached = All-contains (IsReachedFrom (fragments_of pool) o.value.value.selection_set) names n reached.each c;
      found = found;
      is = is;
    })

  -- ==== one more operation

  pub borrow_more : (all : List (Bor (Node Operation))) (i : ℕ) (x : Bor (Node Operation)) (old mid new : List Entry) → i < length all → x ≡ get_or all i x →
      BorrowsForAll pool (nodes_at (take i all)) old mid → BorrowsForAll pool (x.now ∷ []) mid new → BorrowsForAll pool (nodes_at (take (i + 1) all)) old new
  borrow_more all i x old mid new within is first rest =
      subst (λ l. BorrowsForAll pool l old new) (sym (nodes_next all i x within is)) (borrow_then (nodes_at (take i all)) (x.now ∷ []) old mid new first rest)

  pub note_more : (all : List (Bor (Node Operation))) (i : ℕ) (x : Bor (Node Operation)) (old mid new : List NameText) → i < length all → x ≡ get_or all i x →
      NotesUses pool (nodes_at (take i all)) old mid → NotesUses pool (x.now ∷ []) mid new → NotesUses pool (nodes_at (take (i + 1) all)) old new
  note_more all i x old mid new within is first rest =
      subst (λ l. NotesUses pool l old new) (sym (nodes_next all i x within is)) (note_then (nodes_at (take i all)) (x.now ∷ []) old mid new first rest)

  module _ (s : Schema) where
    pub passes_more : (all : List (Bor (Node Operation))) (i : ℕ) (x : Bor (Node Operation)) (old mid new : List Reports) → i < length all → x ≡ get_or all i x →
        QuietOnlyIf old mid (λ off. All (OperationPasses off s pool) (nodes_at (take i all))) → QuietOnlyIf mid new (λ off. OperationPasses off s pool x.now) →
        QuietOnlyIf old new (λ off. All (OperationPasses off s pool) (nodes_at (take (i + 1) all)))
    passes_more all i x old mid new within is first rest =
        quiet_then old mid new (λ off. All (OperationPasses off s pool) (nodes_at (take i all))) (λ off. OperationPasses off s pool x.now)
        (λ off. All (OperationPasses off s pool) (nodes_at (take (i + 1) all)))
        (λ off a b. subst (All (OperationPasses off s pool)) (sym (nodes_next all i x within is))
        (All-append (OperationPasses off s pool) (nodes_at (take i all)) (x.now ∷ []) a (All-cons (OperationPasses off s pool) x.now [] b (All-nil (OperationPasses off s pool))))) first rest

    -- one more file
    pub files_more : (done : List ExecutableDocument) (x : ExecutableDocument) (old mid new : List Reports) → QuietOnlyIf old mid (λ off. All (FilePasses off s pool) done) →
        QuietOnlyIf mid new (λ off. FilePasses off s pool x) → QuietOnlyIf old new (λ off. All (FilePasses off s pool) (done ++ x ∷ []))
    files_more done x old mid new first rest =
        quiet_then old mid new (λ off. All (FilePasses off s pool) done) (λ off. FilePasses off s pool x) (λ off. All (FilePasses off s pool) (done ++ x ∷ []))
        (λ off a b. All-append (FilePasses off s pool) done (x ∷ []) a (All-cons (FilePasses off s pool) x [] b (All-nil (FilePasses off s pool)))) first rest

  pub flat_last : (done : List ExecutableDocument) (x : ExecutableDocument) → flat_map operations_of (done ++ x ∷ []) ≡ flat_map operations_of done ++ operations_of x
  flat_last [] x = append-nil (operations_of x)
  flat_last (d ∷ done) x = ap (λ l. operations_of d ++ l) (flat_last done x) ∙ sym (append_assoc (operations_of d) (flat_map operations_of done) (operations_of x))

  pub note_file : (done : List ExecutableDocument) (x : ExecutableDocument) (old mid new : List NameText) → NotesUses pool (flat_map operations_of done) old mid →
      NotesUses pool (operations_of x) mid new → NotesUses pool (flat_map operations_of (done ++ x ∷ [])) old new
  note_file done x old mid new first rest =
      subst (λ l. NotesUses pool l old new) (sym (flat_last done x)) (note_then (flat_map operations_of done) (operations_of x) old mid new first rest)
