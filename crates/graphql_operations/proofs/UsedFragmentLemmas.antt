-- What is reported of the fragments that no operation uses.
use Rattle.std.proofs.Common.{◌≡◌, ◌↔◌, arith, Bool, List, [], ◌∷◌, ◌++◌, map, refl, sym, ap, ◌∙◌, subst, All, Contains, Option}
use Rattle.std.specs.Prelude.{◌⊎◌, None, Some, MatchOption, Result, Ok, Err, MatchResult, OnOk}
use Rattle.std.specs.Borrow.{Bor}
use Rattle.std.specs.List.{Any}
use Rattle.std.proofs.lemmas.List.Elements.{All-nil, All-cons, All-head, All-tail, All-weaker}
use Rattle.indexmap.specs.IndexMap.{values}
use Rattle.indexmap.specs.IndexSet.{insert_key}
use mathlib.Core.Logic.{inl, inr}
use Rattle.graphql_diagnostics.specs.Diagnostics.{IsLimitEntry}
use Rattle.graphql_specification.specs.FragmentsUsed.{AreFragmentUseReports, AreUnusedFragmentReports, FragmentUseReport, UnusedFragmentReport, are_of_unused, is_of_bound, no_fragment, of_unused, unused_fragment, used_fragment, IsFragmentUsed, FragmentWalkLimit, fragment_walk_passes}
use Rattle.graphql_specification.specs.Documents.{DocumentReport, of_unused_fragment, DocumentLimit, walk_of_fragments}
use Rattle.graphql_nodes.specs.Names.{NameText, SameName}
use Rattle.graphql_diagnostics.specs.Reports.{Appends, KeepsReports}
use Rattle.graphql_documents.specs.Selections.{Reachable, fragments_of}
use Rattle.graphql_documents.specs.Walks.{HasListed, PassesDepth, full_walk}
use Rattle.graphql_diagnostics.specs.declared.details.Details.{Details}
use Rattle.graphql_diagnostics.specs.declared.lists.DiagnosticEntry.{DiagnosticEntry}
use Rattle.graphql_documents.specs.declared.documents.executables.ExecutableDocument.{ExecutableDocument}
use Rattle.graphql_documents.specs.declared.documents.executables.Fragment.{Fragment}
use Rattle.graphql_documents.specs.declared.documents.executables.FragmentSpread.{FragmentSpread}
use Rattle.graphql_documents.specs.declared.documents.executables.Operation.{Operation}
use Rattle.graphql_documents.specs.declared.documents.executables.Selection.TheVariants as kind
use Rattle.graphql_documents.specs.declared.documents.executables.Selection.{Selection}
use Rattle.graphql_nodes.specs.declared.nodes.Node.{Node}
use Rattle.graphql_documents.specs.declared.documents.schemas.Schema.{Schema}
use Rattle.graphql_nodes.specs.declared.spans.SourceSpan.{SourceSpan}
use Rattle.graphql_documents.proofs.ListLemmas.{made_of, stands_mapped}
use Rattle.graphql_diagnostics.proofs.ReportLemmas.{appended_then}
use Rattle.graphql_diagnostics.proofs.ReportWithinLemmas.{ChecksListWithin}
use Rattle.graphql_documents.proofs.SelectionLemmas.{same_spread}
use Rattle.graphql_variables.specs.Uses.{IsNamedIn, NamesAlso, names_of}
use Rattle.graphql_variables.proofs.NameSetLemmas.{named_key, same_key}
use Rattle.graphql_variables.proofs.UnusedLemmas.{lists_all}
use Rattle.graphql_variables.proofs.UseLemmas.{also_in_words, also_none, any_has, has_any}
use Rattle.graphql_operations.specs.UsedFragments.{AddsSpreads, AnyPasses, IsSpreadAmong, IsSpreadByAny, IsSpreadFrom}

-- the diagnostics are ones of a document, and the limit is one of a document
pub is_document_report : {schema : Option Schema} {document : ExecutableDocument} {d : Details} {at : Option SourceSpan} →
    FragmentUseReport document d at → DocumentReport schema document d at
is_document_report (of_unused unused) = of_unused_fragment unused

pub is_document_limit : {schema : Option Schema} {document : ExecutableDocument} {d : Details} {at : Option SourceSpan} →
    FragmentWalkLimit document d at → DocumentLimit schema document d at
is_document_limit (fragment_walk_passes stands passes) = walk_of_fragments stands passes

-- the selection is a spread of this name
abbrev pub SpreadsHere : NameText → Bor Selection → Type 0
SpreadsHere n s = (p : Node FragmentSpread) × (s.now ≡ kind.FragmentSpread p) × SameName p.value.value.fragment_name n

-- the name of a spread goes into a set
pub spread_here : (s : Bor Selection) (p : Node FragmentSpread) (k : Bor NameText) → s.now ≡ kind.FragmentSpread p → k.now ≡ p.value.value.fragment_name →
    (keys : List (Bor NameText)) → NamesAlso (λ n. SpreadsHere n s) keys (insert_key same_key keys k)
spread_here s p k is named keys =
    also_in_words (λ n. SameName k.now n) (λ n. SpreadsHere n s) keys (insert_key same_key keys k) (λ n. (forth n, back n)) (named_key keys k) where
      forth : (n : NameText) → SameName k.now n → SpreadsHere n s
      forth n same = (p, is, subst (λ x. SameName x n) named same)

      back : (n : NameText) → SpreadsHere n s → SameName k.now n
      back n (q, is', same) =
          subst (λ x. SameName x n) (ap (λ (r : Node FragmentSpread). r.value.value.fragment_name) (same_spread q p (sym is' ∙ is)) ∙ sym named) same

-- another selection adds no name
pub no_spread_here : (s : Bor Selection) → ((p : Node FragmentSpread) → ¬ (s.now ≡ kind.FragmentSpread p)) →
    (keys : List (Bor NameText)) → NamesAlso (λ n. SpreadsHere n s) keys keys
no_spread_here s other keys = also_none (λ n. SpreadsHere n s) keys (λ n here. other here.0 here.1)

-- the spreads among references to selections are those among the selections
pub spreads_among : (xs : List (Bor Selection)) (n : NameText) → Any (SpreadsHere n) xs ↔ IsSpreadAmong (map (λ (b : Bor Selection). b.now) xs) n
spreads_among xs n = (forth, back) where
  forth : Any (SpreadsHere n) xs → IsSpreadAmong (map (λ (b : Bor Selection). b.now) xs) n
  forth any =
      let h = any_has (SpreadsHere n) xs any in
      (h.2.0, subst (Contains (map (λ (b : Bor Selection). b.now) xs)) h.2.1 (stands_mapped (λ (b : Bor Selection). b.now) xs h.0 h.1), h.2.2)

  back : IsSpreadAmong (map (λ (b : Bor Selection). b.now) xs) n → Any (SpreadsHere n) xs
  back (p, there, same) =
      let h = made_of (λ (b : Bor Selection). b.now) xs (kind.FragmentSpread p) there in
      has_any (SpreadsHere n) xs h.0 h.1 (p, h.2, same)

-- what the walk over an operation adds
pub adds_spreads : (document : ExecutableDocument) (o : Node Operation) (listed : List Selection) (complete : Bool) (old new : List (Bor NameText)) →
    HasListed (Reachable (fragments_of document) o.value.value.selection_set) (PassesDepth (fragments_of document) full_walk o.value.value.selection_set) listed complete →
    NamesAlso (IsSpreadAmong listed) old new → AddsSpreads document o old new complete
adds_spreads document o listed complete old new walked also = record {
  all = λ ended.
      also_in_words (IsSpreadAmong listed) (IsSpreadFrom document o) old new
      (λ n. (
        λ among. (among.0, (lists_all walked ended (kind.FragmentSpread among.0)).0 among.1, among.2),
        λ from. (from.0, (lists_all walked ended (kind.FragmentSpread from.0)).1 from.1, from.2),
      ))
      also;
  bound = walked.bound;
}

-- what was found, and what holds where nothing was
pub where_some : {T : Type 0} (o : Option T) (P : Type 0) (Q : T → Type 0) (x : T) → o ≡ Some x → MatchOption o P Q → Q x
where_some o P Q x is h = let at = subst (λ p. MatchOption p P Q) is h in at

pub where_none : {T : Type 0} (o : Option T) (P : Type 0) (Q : T → Type 0) → o ≡ None → MatchOption o P Q → P
where_none o P Q is h = let at = subst (λ p. MatchOption p P Q) is h in at

-- the operation reaches a spread of this name
abbrev pub SpreadsBelow : ExecutableDocument → NameText → Bor (Node Operation) → Type 0
SpreadsBelow document n o = IsSpreadFrom document o.now n

-- the names of all operations
pub spread_by_any : (document : ExecutableDocument) (operations : List (Bor (Node Operation))) (names : List (Bor NameText)) →
    NamesAlso (λ n. Any (SpreadsBelow document n) operations) [] names → (n : NameText) →
    IsNamedIn (names_of names) n ↔ IsSpreadByAny document (map (λ (b : Bor (Node Operation)). b.now) operations) n
spread_by_any document operations names also n = (λ there. forth ((also n).0 there), λ some. (also n).1 (inr (back some))) where
  forth : IsNamedIn [] n ⊎ Any (SpreadsBelow document n) operations → IsSpreadByAny document (map (λ (b : Bor (Node Operation)). b.now) operations) n
  forth (inl (u, (k, within, is), same)) = absurd (let h : ⊥ = omega (arith, within) in h)
  forth (inr any) =
      let h = any_has (SpreadsBelow document n) operations any in
      has_any (λ o. IsSpreadFrom document o n) (map (λ (b : Bor (Node Operation)). b.now) operations) h.0.now
      (stands_mapped (λ (b : Bor (Node Operation)). b.now) operations h.0 h.1) h.2

  back : IsSpreadByAny document (map (λ (b : Bor (Node Operation)). b.now) operations) n → Any (SpreadsBelow document n) operations
  back any =
      let h = any_has (λ o. IsSpreadFrom document o n) (map (λ (b : Bor (Node Operation)). b.now) operations) any in
      let m = made_of (λ (b : Bor (Node Operation)). b.now) operations h.0 h.1 in
      has_any (SpreadsBelow document n) operations m.0 m.1 (subst (λ o. IsSpreadFrom document o n) (sym m.2) h.2)

-- the limit of one of them
pub one_passes : (document : ExecutableDocument) (operations : List (Bor (Node Operation))) (o : Bor (Node Operation)) → Contains operations o →
    PassesDepth (fragments_of document) full_walk o.now.value.value.selection_set → AnyPasses document (map (λ (b : Bor (Node Operation)). b.now) operations)
one_passes document operations o stands passes = (o.now, stands_mapped (λ (b : Bor (Node Operation)). b.now) operations o stands, passes)

module _ (document : ExecutableDocument) where
  -- reports of unused fragments after others
  reports_then : {ds more : List (Node Fragment)} {reports others : List DiagnosticEntry} →
      AreUnusedFragmentReports document ds reports → AreUnusedFragmentReports document more others →
      AreUnusedFragmentReports document (ds ++ more) (reports ++ others)
  reports_then no_fragment rest = rest
  reports_then (used_fragment used others) rest = used_fragment used (reports_then others rest)
  reports_then (unused_fragment says others) rest = unused_fragment says (reports_then others rest)

  pub unused_then : {ds more : List (Node Fragment)} {old mid new : List DiagnosticEntry} →
      Appends (AreUnusedFragmentReports document ds) old mid → Appends (AreUnusedFragmentReports document more) mid new →
      Appends (AreUnusedFragmentReports document (ds ++ more)) old new
  unused_then {old = old} {mid = mid} {new = new} a b = record {
    added = a.added ++ b.added;
    appended = appended_then old mid new a.added b.added a.appended b.appended;
    are = reports_then a.are b.are;
  }

  -- a diagnostic of a fragment of the document that is not used is true
  says_unused : (d : Node Fragment) (e : DiagnosticEntry) → Contains (values document.fragments) d → UnusedFragmentReport document d e →
      FragmentUseReport document e.details e.location
  says_unused d e stands r =
      subst (λ (said : Details). FragmentUseReport document said e.location) (sym r.details_are)
      (of_unused (record { d = d; is_defined = stands; unused = r.unused; name_is = refl; at_is = r.at_is }))

  each_says_unused : {ds : List (Node Fragment)} {reports : List DiagnosticEntry} → All (Contains (values document.fragments)) ds →
      AreUnusedFragmentReports document ds reports → All (λ e. FragmentUseReport document e.details e.location) reports
  each_says_unused defined no_fragment = All-nil (λ e. FragmentUseReport document e.details e.location)
  each_says_unused defined (used_fragment {d = d} {rest = rest} used others) =
      each_says_unused (All-tail (Contains (values document.fragments)) d rest defined) others
  each_says_unused defined (unused_fragment {d = d} {rest = rest} {entry = e} {reports = reports} says others) =
      All-cons (λ e. FragmentUseReport document e.details e.location) e reports
      (says_unused d e (All-head (Contains (values document.fragments)) d rest defined) says)
      (each_says_unused (All-tail (Contains (values document.fragments)) d rest defined) others)

  pub unused_kept : {ds : List (Node Fragment)} {old new : List DiagnosticEntry} → All (Contains (values document.fragments)) ds →
      Appends (AreUnusedFragmentReports document ds) old new → KeepsReports (λ e. FragmentUseReport document e.details e.location) old new
  unused_kept defined a = record { added = a.added; appended = a.appended; each = each_says_unused defined a.are }

  -- there is none exactly where each is used
  silent_where_used : {ds : List (Node Fragment)} {reports : List DiagnosticEntry} → AreUnusedFragmentReports document ds reports →
      (reports ≡ []) ↔ All (λ d. IsFragmentUsed document d.value.value) ds
  silent_where_used no_fragment = (λ _. All-nil (λ d. IsFragmentUsed document d.value.value), λ _. refl)
  silent_where_used (used_fragment {d = d} {rest = rest} used others) =
      let below = silent_where_used others in (
        λ none. All-cons (λ d. IsFragmentUsed document d.value.value) d rest used (below.0 none),
        λ all. below.1 (All-tail (λ d. IsFragmentUsed document d.value.value) d rest all),
      )
  silent_where_used (unused_fragment {d = d} {rest = rest} {entry = e} {reports = reports} says others) = (
    λ (none : e ∷ reports ≡ []). absurd (let no : ⊥ = cc in no),
    λ all. absurd (says.unused (All-head (λ d. IsFragmentUsed document d.value.value) d rest all)),
  )

  -- the whole check, where the walks came to their ends
  pub fragments_checked : {T E : Type 0} (r : Result T E) (old new : List DiagnosticEntry) → All (Contains (values document.fragments)) (values document.fragments) →
      MatchResult r (λ _. Appends (AreUnusedFragmentReports document (values document.fragments)) old new)
      (λ _. KeepsReports (λ e. FragmentUseReport document e.details e.location) old new) →
      ChecksListWithin IsLimitEntry r (All (λ d. IsFragmentUsed document d.value.value) (values document.fragments))
      (λ e. FragmentUseReport document e.details e.location ⊎ FragmentWalkLimit document e.details e.location) old new
  fragments_checked (Ok x) old new defined a = record {
    added = a.added;
    appended = a.appended;
    silent = λ _. silent_where_used a.are;
    each = All-weaker (λ e. FragmentUseReport document e.details e.location)
        (λ e. FragmentUseReport document e.details e.location ⊎ FragmentWalkLimit document e.details e.location)
        (λ e said. inl said) a.added (each_says_unused defined a.are);
  }
  fragments_checked (Err x) old new defined k = record {
    added = k.added;
    appended = k.appended;
    each = All-weaker (λ e. FragmentUseReport document e.details e.location)
        (λ e. FragmentUseReport document e.details e.location ⊎ FragmentWalkLimit document e.details e.location)
        (λ e said. inl said) k.added k.each;
  }

  pub fragments_exact : {T E : Type 0} (r : Result T E) (old new : List DiagnosticEntry) →
      MatchResult r (λ _. Appends (AreUnusedFragmentReports document (values document.fragments)) old new)
      (λ _. KeepsReports (λ e. FragmentUseReport document e.details e.location) old new) →
      OnOk r (Appends (AreFragmentUseReports document) old new)
  fragments_exact (Ok x) old new a = record { added = a.added; appended = a.appended; are = are_of_unused a.are }
  fragments_exact (Err x) old new k = tt

  -- the diagnostic of the limit
  pub bound_exact : {T E : Type 0} (r : Result T E) (old new : List DiagnosticEntry) (e : DiagnosticEntry) →
      FragmentWalkLimit document e.details e.location → OnOk r (new ≡ old ++ e ∷ []) → OnOk r (Appends (AreFragmentUseReports document) old new)
  bound_exact (Ok x) old new e passes ok = record { added = e ∷ []; appended = ok; are = is_of_bound passes }
  bound_exact (Err x) old new e passes ok = tt
