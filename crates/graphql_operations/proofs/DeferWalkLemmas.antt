-- The check of labels over a list of applications, over what a walk has visited of a set, and over the sets of
-- a document.
use Rattle.std.proofs.Common.{◌≡◌, ℕ, suc, ◌+◌, ◌<◌, ◌≤◌, Bool, Bor, List, [], ◌∷◌, ◌++◌, Option, Contains, IsTrue, IsFalse, length, get_or, map, take, refl, sym, ◌∙◌, ap, subst, append_assoc, None, arith}
use Rattle.std.proofs.lemmas.List.{append-nil, map-append, take_all}
use Rattle.std.proofs.lemmas.List.Concat.{flat_map-append}
use Rattle.std.specs.List.{AllZip}
use Rattle.std.proofs.lemmas.List.Elements.{All-nil}
use Rattle.std.specs.Prelude.{Result, Ok, Err, MatchResult, OnErr, OnOk, flat_map}
use Rattle.indexmap.specs.IndexMap.{IndexMap}
use Rattle.graphql_specification.specs.Defer.{DefersIn, DefersOn, HasFixedLabel, LabelsHold, DefersVisited, DefersVisitedIn}
use Rattle.graphql_documents.specs.Executables.{sets_of}
use Rattle.graphql_diagnostics.specs.Diagnostics.{IsLimitEntry}
use Rattle.graphql_diagnostics.specs.Reports.{KeepsReports, ReportsWithin}
use Rattle.graphql_documents.specs.Selections.{fragments_of, selections_of}
use Rattle.graphql_documents.specs.Walks.{walk_depth_limit}
use Rattle.graphql_diagnostics.specs.declared.data.DiagnosticData.TheVariants as report
use Rattle.graphql_diagnostics.specs.declared.details.Details.TheVariants as details
use Rattle.graphql_diagnostics.specs.declared.lists.DiagnosticEntry.{DiagnosticEntry}
use Rattle.graphql_documents.specs.declared.documents.directives.Directive.{Directive}
use Rattle.graphql_documents.specs.declared.documents.executables.ExecutableDocument.{ExecutableDocument}
use Rattle.graphql_documents.specs.declared.documents.executables.SelectionSet.{SelectionSet}
use Rattle.graphql_nodes.specs.declared.nodes.Node.{Node}
use Rattle.graphql_nodes.specs.declared.spans.SourceSpan.{SourceSpan}
use Rattle.graphql_documents.proofs.ListLemmas.{more_is}
use Rattle.graphql_variables.proofs.FirstPlaceLemmas.{next_at}
use Rattle.graphql_operations.specs.DeferLabels.{DeferEntryReport, HasVisitedDefers, LabelsHoldAmong, LabelsSoFar, RemembersLabels}
use Rattle.graphql_operations.proofs.DeferLabelLemmas.{kept_so_far, passed_to_limit}
use Rattle.graphql_operations.proofs.WrittenDeferLemmas.{has_defers, has_visited, one_list_visited, one_list_of_defers}

-- a list of references, at its next
module _ {X : Type 0} (xs : List (Bor X)) (i : ℕ) (x : Bor X) (in' : i < length xs) (item : x ≡ get_or xs i x) where
  pub behind : List X
  behind = map (λ b. b.now) (next_at xs i x in' item).after

  pub refs_at : (before after : List X) →
      before ++ (map (λ b. b.now) xs ++ after) ≡ (before ++ map (λ b. b.now) (take i xs)) ++ ((x.now ∷ []) ++ (behind ++ after))
  unfolding behind
  refs_at before after =
      let next = next_at xs i x in' item in
      let refs = λ (l : List (Bor X)). map (λ b. b.now) l in
      ap (λ l. before ++ (l ++ after)) (ap refs next.split ∙ map-append (λ (b : Bor X). b.now) (take i xs) (x ∷ next.after)) ∙
      ap (λ l. before ++ l) (append_assoc (refs (take i xs)) (refs (x ∷ next.after)) after) ∙
      sym (append_assoc before (refs (take i xs)) (refs (x ∷ next.after) ++ after))

  pub refs_more : (before : List X) → (before ++ map (λ b. b.now) (take i xs)) ++ x.now ∷ [] ≡ before ++ map (λ b. b.now) (take (i + 1) xs)
  refs_more before =
      append_assoc before (map (λ (b : Bor X). b.now) (take i xs)) (x.now ∷ []) ∙
      ap (λ l. before ++ l) (sym (ap (λ (l : List (Bor X)). map (λ b. b.now) l) (more_is xs i x in' item) ∙ map-append (λ (b : Bor X). b.now) (take i xs) (x ∷ [])))

-- what a walk has visited of a set, of whose applications this is the list
module _ (document : ExecutableDocument) (set : SelectionSet) (stands : Contains (sets_of document) set) (here : List (Node Directive)) (on : DefersOn (selections_of set) here)
    (found : List (Node Directive)) (done : Bool) (within : DefersVisited (suc walk_depth_limit) (selections_of set) found done)
    (visited : List (Node Directive)) (complete : Bool) (h : HasVisitedDefers set visited complete) where
  here_is : visited ++ h.missed ≡ here
  here_is = one_list_of_defers h.order here on

  found_is : visited ≡ found
  found_is = (one_list_visited h.within found done within).0

  pub at_visited : (known later : List (Node Directive)) → DefersVisitedIn document (known ++ (found ++ later)) → DefersVisitedIn document (known ++ (visited ++ later))
  at_visited known later all = subst (λ l. DefersVisitedIn document (known ++ (l ++ later))) (sym found_is) all

  pub at_set : (before after : List (Node Directive)) → DefersIn document (before ++ (here ++ after)) → DefersIn document (before ++ (visited ++ (h.missed ++ after)))
  at_set before after all = subst (DefersIn document) (ap (λ l. before ++ l) (ap (λ l. l ++ after) (sym here_is) ∙ append_assoc visited h.missed after)) all

  module _ {S : Type 0} (before known : List (Node Directive)) {labels : IndexMap (Bor (List ℕ)) (Option SourceSpan) S} {old mid : List DiagnosticEntry} (so_far : LabelsSoFar document (before ++ visited) (known ++ visited) labels old mid) where
    -- it came to its end
    pub set_whole : IsTrue complete → LabelsSoFar document (before ++ here) (known ++ found) labels old mid
    set_whole done =
        let same : visited ≡ here = sym (append-nil visited) ∙ ap (λ l. visited ++ l) (sym (h.all done)) ∙ here_is in
        subst (λ l. LabelsSoFar document (before ++ l) (known ++ found) labels old mid) same
        (subst (λ l. LabelsSoFar document (before ++ visited) (known ++ l) labels old mid) found_is so_far)

    -- it passed its limit
    pub set_cut : IsFalse complete → {T E : Type 0} (r : Result T E) (new : List DiagnosticEntry) →
        OnOk r (new ≡ mid ++ record { location = None; details = details.Diagnostic report.RecursionError } ∷ []) → OnErr r (new ≡ mid) →
        MatchResult r (λ _. LabelsSoFar document (before ++ here) (known ++ found) labels old new) (λ _. KeepsReports (DeferEntryReport document) old new)
    set_cut cut (Ok x) new ok err =
        subst (λ l. LabelsSoFar document l (known ++ found) labels old new) (append_assoc before visited h.missed ∙ ap (λ l. before ++ l) here_is)
        (subst (λ l. LabelsSoFar document ((before ++ visited) ++ h.missed) (known ++ l) labels old new) found_is
        (passed_to_limit so_far h.missed new ok (set, stands, h.bound cut (fragments_of document))))
    set_cut cut (Err x) new ok err = subst (KeepsReports (DeferEntryReport document) old) (sym err) (kept_so_far so_far)

-- the applications of a set, and of the sets of a document
pub defers_of_set : SelectionSet → List (Node Directive)
defers_of_set set = (has_defers (selections_of set)).0

pub on_set : (set : SelectionSet) → DefersOn (selections_of set) (defers_of_set set)
unfolding defers_of_set
on_set set = (has_defers (selections_of set)).1

-- what a walk meets of it
abbrev MeetsOf : SelectionSet → List (Node Directive) → Type 0
MeetsOf set part = (complete : Bool) × DefersVisited (suc walk_depth_limit) (selections_of set) part complete

pub visited_of_set : SelectionSet → List (Node Directive)
visited_of_set set = (has_visited (suc walk_depth_limit) (selections_of set)).0

pub meets_set : (set : SelectionSet) → (complete : Bool) × DefersVisited (suc walk_depth_limit) (selections_of set) (visited_of_set set) complete
unfolding visited_of_set
meets_set set = let visited = has_visited (suc walk_depth_limit) (selections_of set) in (visited.1, visited.2)

each_visited : (xs : List SelectionSet) → AllZip MeetsOf xs (map visited_of_set xs)
each_visited [] = tt
each_visited (x ∷ xs) = (meets_set x, each_visited xs)

each_on : (xs : List SelectionSet) → AllZip (λ set part. DefersOn (selections_of set) part) xs (map defers_of_set xs)
each_on [] = tt
each_on (x ∷ xs) = (on_set x, each_on xs)

parts_are : (xs : List SelectionSet) (parts : List (List (Node Directive))) → AllZip (λ set part. DefersOn (selections_of set) part) xs parts → parts ≡ map defers_of_set xs
parts_are [] [] zip = refl
parts_are [] (part ∷ parts) zip = absurd zip
parts_are (x ∷ xs) [] zip = absurd zip
parts_are (x ∷ xs) (part ∷ parts) zip =
    ap (λ p. p ∷ parts) (one_list_of_defers zip.0 (defers_of_set x) (on_set x)) ∙ ap (λ l. defers_of_set x ∷ l) (parts_are xs parts zip.1)

module _ (of : SelectionSet → List (Node Directive)) where
  flat_parts : (xs : List SelectionSet) → flat_map (λ part. part) (map of xs) ≡ flat_map of xs
  flat_parts [] = refl
  flat_parts (x ∷ xs) = ap (λ l. of x ++ l) (flat_parts xs)

  flat_refs : (xs : List (Bor SelectionSet)) → flat_map (λ x. of x.now) xs ≡ flat_map of (map (λ b. b.now) xs)
  flat_refs [] = refl
  flat_refs (x ∷ xs) = ap (λ l. of x.now ++ l) (flat_refs xs)

pub all_in : (document : ExecutableDocument) → DefersIn document (flat_map defers_of_set (sets_of document))
all_in document = (map defers_of_set (sets_of document), each_on (sets_of document), sym (flat_parts defers_of_set (sets_of document)))

all_visited_in : (document : ExecutableDocument) → DefersVisitedIn document (flat_map visited_of_set (sets_of document))
all_visited_in document = (map visited_of_set (sets_of document), each_visited (sets_of document), sym (flat_parts visited_of_set (sets_of document)))

pub one_list_in : (document : ExecutableDocument) (applications : List (Node Directive)) → DefersIn document applications → applications ≡ flat_map defers_of_set (sets_of document)
one_list_in document applications (parts, zip, is) =
    is ∙ ap (flat_map (λ part. part)) (parts_are (sets_of document) parts zip) ∙ flat_parts defers_of_set (sets_of document)

-- the applications of sets that are behind references, and those that are visited of them
abbrev pub defers_at : Bor SelectionSet → List (Node Directive)
defers_at set = defers_of_set set.now

abbrev pub visited_at : Bor SelectionSet → List (Node Directive)
visited_at set = visited_of_set set.now

module _ (document : ExecutableDocument) (xs : List (Bor SelectionSet)) (are : map (λ b. b.now) xs ≡ sets_of document) where
  all_at : flat_map defers_at xs ≡ flat_map defers_of_set (sets_of document)
  all_at = flat_refs defers_of_set xs ∙ ap (flat_map defers_of_set) are

  all_visited_at : flat_map visited_at xs ≡ flat_map visited_of_set (sets_of document)
  all_visited_at = flat_refs visited_of_set xs ∙ ap (flat_map visited_of_set) are

  module _ (i : ℕ) (x : Bor SelectionSet) (in' : i < length xs) (item : x ≡ get_or xs i x) where
    pub sets_behind : List (Node Directive)
    sets_behind = flat_map defers_at (next_at xs i x in' item).after

    pub in_document : DefersIn document (flat_map defers_at (take i xs) ++ (defers_of_set x.now ++ sets_behind))
    unfolding sets_behind
    in_document =
        subst (DefersIn document)
        (sym all_at ∙ ap (flat_map defers_at) (next_at xs i x in' item).split ∙ flat_map-append defers_at (take i xs) (x ∷ (next_at xs i x in' item).after))
        (all_in document)

    pub visited_behind : List (Node Directive)
    visited_behind = flat_map visited_at (next_at xs i x in' item).after

    pub visited_in_document : DefersVisitedIn document (flat_map visited_at (take i xs) ++ (visited_of_set x.now ++ visited_behind))
    unfolding visited_behind
    visited_in_document =
        subst (DefersVisitedIn document)
        (sym all_visited_at ∙ ap (flat_map visited_at) (next_at xs i x in' item).split ∙ flat_map-append visited_at (take i xs) (x ∷ (next_at xs i x in' item).after))
        (all_visited_in document)

    one_more_of : (of : SelectionSet → List (Node Directive)) → flat_map (λ y. of y.now) (take i xs) ++ of x.now ≡ flat_map (λ y. of y.now) (take (i + 1) xs)
    one_more_of of =
        let at : Bor SelectionSet → List (Node Directive) = λ y. of y.now in
        sym (ap (flat_map at) (more_is xs i x in' item) ∙ flat_map-append at (take i xs) (x ∷ []) ∙
        ap (λ l. flat_map at (take i xs) ++ l) (append-nil (of x.now)))

    pub sets_more : {S : Type 0} {labels : IndexMap (Bor (List ℕ)) (Option SourceSpan) S} {old new : List DiagnosticEntry} →
        LabelsSoFar document (flat_map defers_at (take i xs) ++ defers_of_set x.now) (flat_map visited_at (take i xs) ++ visited_of_set x.now) labels old new →
        LabelsSoFar document (flat_map defers_at (take (i + 1) xs)) (flat_map visited_at (take (i + 1) xs)) labels old new
    sets_more {labels = labels} {old = old} {new = new} so_far =
        subst (λ l. LabelsSoFar document l (flat_map visited_at (take (i + 1) xs)) labels old new) (one_more_of defers_of_set)
        (subst (λ l. LabelsSoFar document (flat_map defers_at (take i xs) ++ defers_of_set x.now) l labels old new) (one_more_of visited_of_set) so_far)

  -- all sets were passed
  pub all_passed : {S : Type 0} {labels : IndexMap (Bor (List ℕ)) (Option SourceSpan) S} {old new : List DiagnosticEntry} (i : ℕ) → length xs ≤ i →
      LabelsSoFar document (flat_map defers_at (take i xs)) (flat_map visited_at (take i xs)) labels old new → ReportsWithin IsLimitEntry (LabelsHold document) (DeferEntryReport document) old new
  all_passed i past so_far =
      let r = so_far.reported in
      let all_is : flat_map defers_at (take i xs) ≡ flat_map defers_of_set (sets_of document) = ap (flat_map defers_at) (take_all i xs past) ∙ all_at in
      record {
        added = r.added;
        appended = r.appended;
        silent = λ none.
            let whole = so_far.whole r.added r.appended none ∙ all_is in
            let s = r.silent none in (
              λ e applications are_all. subst LabelsHoldAmong (whole ∙ sym (one_list_in document applications are_all)) (s.0 e),
              λ holds. s.1 (subst LabelsHoldAmong (sym whole) (holds (flat_map defers_of_set (sets_of document)) (all_in document))),
            );
        each = r.each;
      }

-- nothing was passed yet
pub nothing_passed : {S : Type 0} {document : ExecutableDocument} {labels : IndexMap (Bor (List ℕ)) (Option SourceSpan) S} (old : List DiagnosticEntry) →
    RemembersLabels labels [] → LabelsSoFar document [] [] labels old old
nothing_passed {document = document} old remembered = record {
  remembered = remembered;
  reported = record {
    added = [];
    appended = sym (append-nil old);
    silent = λ none. (λ e. ((λ i j d lt in'. absurd (let no : ⊥ = omega (arith, in') in no)), All-nil HasFixedLabel), λ holds. refl);
    each = All-nil (DeferEntryReport document);
  };
  whole = λ added is none. refl;
}
