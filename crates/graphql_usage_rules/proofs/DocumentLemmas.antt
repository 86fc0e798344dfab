-- Checks of the operations of a document, one after another.
use Rattle.std.proofs.Common.{◌≡◌, List, [], ◌∷◌, ◌++◌, Option, None, Some, sym, subst, All, Contains}
use Rattle.std.specs.Prelude.{Any, Result, IsErr, option_to_list}
use Rattle.std.proofs.lemmas.List.Elements.{All-append, All-cons, All-head, All-nil, Contains-append_left, Contains-append_right}
use Rattle.graphql_nodes.specs.declared.nodes.Node.{Node}
use Rattle.graphql_documents.proofs.ListLemmas.{All-append_left, All-append_right, stands_first}
use Rattle.graphql_documents.specs.declared.documents.executables.Operation.{Operation}
use Rattle.graphql_diagnostics.specs.Reports.{KeepsReports, Reports}
use Rattle.graphql_diagnostics.proofs.ReportLemmas.{ChecksList, checks-err, checks_after, checks_words, done_more, holds, kept_by, kept_then, kept_wider, wider}
use Rattle.graphql_variables.proofs.UseLemmas.{any_has, has_any}

module _ {Report : Type 0} (Holds : Operation → Type 0) (IsReport : Operation → Report → Type 0) where
  abbrev pub Allowed : Node Operation → Type 0
  Allowed o = Holds o.value.value

  -- the report is of one of these operations
  abbrev pub OfOne : List (Node Operation) → Report → Type 0
  OfOne operations report = Any (λ o. IsReport o.value.value report) operations

  abbrev pub CheckedOne : {T E : Type 0} → Result T E → Operation → List Report → List Report → Type 0
  CheckedOne r o old new = ChecksList r (Holds o) (IsReport o) old new

  abbrev pub ReportedOne : Operation → List Report → List Report → Type 0
  ReportedOne o old new = Reports (Holds o) (IsReport o) old new

  abbrev pub KeptOne : Operation → List Report → List Report → Type 0
  KeptOne o old new = KeepsReports (IsReport o) old new

  -- those so far, of these operations
  abbrev pub Walked : List (Node Operation) → List (Node Operation) → List Report → List Report → Type 0
  Walked all done old new = Reports (All Allowed done) (OfOne all) old new

  of_one : (all : List (Node Operation)) (o : Node Operation) → Contains all o → (x : Report) → IsReport o.value.value x → OfOne all x
  of_one all o stands x report = has_any (λ o. IsReport o.value.value x) all o stands report

  pub nothing_walked : (all : List (Node Operation)) (old : List Report) → Walked all [] old old
  nothing_walked all old = holds (OfOne all) (All Allowed []) old (All-nil Allowed)

  pub one_walked : (all done : List (Node Operation)) (o : Node Operation) (old mid new : List Report) → Contains all o →
      Walked all done old mid → ReportedOne o.value.value mid new → Walked all (done ++ o ∷ []) old new
  one_walked all done o old mid new stands a b = done_more Allowed (OfOne all) done o old mid new a (wider (of_one all o stands) b)

  pub walk_refused : {T E : Type 0} (r : Result T E) (all done : List (Node Operation)) (o : Node Operation) (old mid new : List Report) → IsErr r → Contains all o →
      Walked all done old mid → KeptOne o.value.value mid new → ChecksList r (All Allowed all) (OfOne all) old new
  walk_refused r all done o old mid new e stands a k = checks-err r _ _ old new e (kept_then (kept_by a) (kept_wider (of_one all o stands) k))

  pub all_walked : (all done : List (Node Operation)) (old new : List Report) → all ≡ done → Walked all done old new → Reports (All Allowed all) (OfOne all) old new
  all_walked all done old new same a = subst (λ l. Walked all l old new) (sym same) a

  -- one operation, and none
  pub one_operation : {T E : Type 0} (r : Result T E) (o : Option (Node Operation)) (x : Node Operation) (old new : List Report) → o ≡ Some x →
      CheckedOne r x.value.value old new → ChecksList r (All Allowed (option_to_list o)) (OfOne (option_to_list o)) old new
  one_operation r o x old new is c =
      subst (λ o. ChecksList r (All Allowed (option_to_list o)) (OfOne (option_to_list o)) old new) (sym is)
      (checks_words r (Allowed x) (All Allowed (x ∷ [])) (IsReport x.value.value) (OfOne (x ∷ [])) old new
      (λ allowed. All-cons Allowed x [] allowed (All-nil Allowed), λ all. All-head Allowed x [] all) (of_one (x ∷ []) x (stands_first x [])) c)

  pub no_operation : (o : Option (Node Operation)) (old : List Report) → o ≡ None → Reports (All Allowed (option_to_list o)) (OfOne (option_to_list o)) old old
  no_operation o old none = subst (λ o. Reports (All Allowed (option_to_list o)) (OfOne (option_to_list o)) old old) (sym none) (nothing_walked [] old)

  -- some operations and then others
  of_first : (first rest : List (Node Operation)) (x : Report) → OfOne first x → OfOne (first ++ rest) x
  of_first first rest x any =
      let h = any_has (λ o. IsReport o.value.value x) first any in of_one (first ++ rest) h.0 (Contains-append_left first rest h.0 h.1) x h.2

  of_rest : (first rest : List (Node Operation)) (x : Report) → OfOne rest x → OfOne (first ++ rest) x
  of_rest first rest x any =
      let h = any_has (λ o. IsReport o.value.value x) rest any in of_one (first ++ rest) h.0 (Contains-append_right first rest h.0 h.1) x h.2

  pub first_refused : {T E : Type 0} (r : Result T E) (first rest : List (Node Operation)) (old new : List Report) → IsErr r → KeepsReports (OfOne first) old new →
      ChecksList r (All Allowed (first ++ rest)) (OfOne (first ++ rest)) old new
  first_refused r first rest old new e k = checks-err r _ _ old new e (kept_wider (of_first first rest) k)

  pub both_checked : {T E : Type 0} (r : Result T E) (first rest : List (Node Operation)) (old mid new : List Report) →
      Reports (All Allowed first) (OfOne first) old mid → ChecksList r (All Allowed rest) (OfOne rest) mid new →
      ChecksList r (All Allowed (first ++ rest)) (OfOne (first ++ rest)) old new
  both_checked r first rest old mid new a b =
      let Wide = OfOne (first ++ rest) in
      checks_words r (All Allowed first × All Allowed rest) (All Allowed (first ++ rest)) Wide Wide old new
      (λ both. All-append Allowed first rest both.0 both.1, λ all. (All-append_left Allowed first rest all, All-append_right Allowed first rest all)) (λ x q. q)
      (checks_after r (All Allowed first) (All Allowed rest) Wide old mid new (wider (of_first first rest) a)
      (checks_words r (All Allowed rest) (All Allowed rest) (OfOne rest) Wide mid new (λ all. all, λ all. all) (of_rest first rest) b))
