-- The labels of `@defer`: which place is the first of a text, when a further label holds, what is
-- reported where it does not, and what the check has passed then.
use Rattle.std.proofs.Common.{◌≡◌, ◌≢◌, ◌↔◌, ℕ, ◌<◌, Bool, true, false, cond, Bor, List, [], ◌∷◌, ◌++◌, Option, Some, None, All, find, get_or, length, refl, sym, ◌∙◌, ap, subst, append_assoc}
use Rattle.std.proofs.lemmas.List.{append_cancel_left}
use Rattle.std.proofs.lemmas.List.Elements.{All-append, All-cons, All-contains, All-head, All-nil, Contains-append_right}
use Rattle.std.proofs.lemmas.List.Folds.{find-append}
use Rattle.std.proofs.lemmas.Option.{same_Some}
use Rattle.std.proofs.lemmas.Slice.Eq.{bytes_eq-Decides}
use Rattle.std.specs.Option.{option_and_then, option_map, option_map_or, option_or}
use Rattle.std.specs.Prelude.{Result, Ok, Err, MatchResult, OnErr, OnOk, String, string_bytes}
use Rattle.std.specs.Str.{bytes_eq}
use Rattle.std.specs.declared.alloc.Global.{Global}
use Rattle.indexmap.specs.IndexMap.{IndexMap, get_by}
use mathlib.Core.Logic.{inl, inr}
use Rattle.graphql_specification.specs.Defer.{DefersIn, HasFixedLabel, HaveDifferentLabels, HasLabel, HasVariableLabel, RepeatsLabel, of_defer, label_walk_passes, DefersVisitedIn, LabelsStandTooDeep}
use Rattle.graphql_diagnostics.specs.Diagnostics.{IsLimitEntry, limit_of_walk}
use Rattle.graphql_nodes.specs.Names.{NameText}
use Rattle.graphql_diagnostics.specs.Reports.{KeepsReports}
use Rattle.graphql_diagnostics.specs.declared.build_errors.BuildError.TheVariants as build
use Rattle.graphql_diagnostics.specs.declared.data.DiagnosticData.TheVariants as report
use Rattle.graphql_diagnostics.specs.declared.details.Details.TheVariants as details
use Rattle.graphql_diagnostics.specs.declared.lists.DiagnosticEntry.{DiagnosticEntry}
use Rattle.graphql_documents.specs.declared.documents.directives.Directive.{Directive}
use Rattle.graphql_documents.specs.declared.documents.executables.ExecutableDocument.{ExecutableDocument}
use Rattle.graphql_nodes.specs.declared.nodes.Node.{Node}
use Rattle.graphql_nodes.specs.declared.spans.SourceSpan.{SourceSpan}
use Rattle.graphql_documents.specs.declared.documents.values.Value.{Value}
use Rattle.graphql_documents.specs.declared.documents.values.Value.TheVariants as literal
use Rattle.graphql_documents.proofs.ListLemmas.{All-append_left, All-append_right, stands_first}
use Rattle.graphql_diagnostics.proofs.ReportLemmas.{broken}
use Rattle.graphql_diagnostics.proofs.ReportWithinLemmas.{both_within, in_words_within, kept_within, passed, within}
use Rattle.graphql_variables.proofs.FirstPlaceLemmas.{chosen_or, find_none, first_found, found_at, kept_or, pairs_more}
use Rattle.graphql_operations.specs.DeferLabels.{DeferEntryReport, LabelsHoldAmong, LabelsSoFar, RemembersLabels, first_place_in, has_text, is_text, label_of, label_place}

same_bytes : (a : List ℕ) → bytes_eq a a ≡ true
same_bytes a = (bytes_eq-Decides a a).1 refl

-- whether a `@defer` with this label has a text as its label
text_is : (d : Node Directive) (label : List ℕ) (location : Option SourceSpan) → HasLabel d label location → (text : List ℕ) → has_text text d ≡ bytes_eq label text
text_is d label location h text =
    ap (λ o. option_map_or (λ (value : Node Value). is_text text value.value.value) o false) h.labelled ∙ ap (is_text text) h.is_text ∙ ap (λ l. bytes_eq l text) (sym h.text_is)

place_is : (d : Node Directive) (label : List ℕ) (location : Option SourceSpan) → HasLabel d label location → label_place d ≡ location
place_is d label location h = ap (option_and_then (λ (value : Node Value). value.location)) h.labelled ∙ sym h.location_is

-- a value that is no string is no text
no_string : (value : Value) → ((s : String Global) → value ≢ literal.String s) → (text : List ℕ) → is_text text value ≡ false
no_string (literal.String s) none text = absurd (none s refl)
no_string _ none text = refl

-- a `@defer` without a text as its label
abbrev pub HasNoText : Node Directive → Type 0
HasNoText d = (value : Node Value) (s : String Global) → label_of d ≡ Some value → value.value.value ≢ literal.String s

no_text : (d : Node Directive) → HasNoText d → (text : List ℕ) → has_text text d ≡ false
no_text d none text = by (label_of d) refl where
  by : (o : Option (Node Value)) → label_of d ≡ o → has_text text d ≡ false
  by None e = ap (λ o. option_map_or (λ (value : Node Value). is_text text value.value.value) o false) e
  by (Some value) e =
      ap (λ o. option_map_or (λ (value : Node Value). is_text text value.value.value) o false) e ∙
      no_string value.value.value (λ s. none value s e) text

-- the first of a text, with one more behind
map_or : {X Y : Type 0} (f : X → Y) (o p : Option X) → option_map f (option_or o p) ≡ option_or (option_map f o) (option_map f p)
map_or f None p = refl
map_or f (Some x) p = refl

map_choice : {X Y : Type 0} (f : X → Y) (b : Bool) (x : X) → option_map f (cond b (Some x) None) ≡ cond b (Some (f x)) None
map_choice f true x = refl
map_choice f false x = refl

first_more : (visited : List (Node Directive)) (d : Node Directive) (text : List ℕ) →
    first_place_in (visited ++ d ∷ []) text ≡ option_or (first_place_in visited text) (cond (has_text text d) (Some (label_place d)) None)
first_more visited d text =
    ap (option_map label_place) (find-append (has_text text) visited (d ∷ [])) ∙
    map_or label_place (find (has_text text) visited) (find (has_text text) (d ∷ [])) ∙
    ap (option_or (first_place_in visited text)) (map_choice label_place (has_text text d) d)

or_none : {X : Type 0} (o : Option X) → option_or o None ≡ o
or_none None = refl
or_none (Some x) = refl

module _ {S : Type 0} {labels : IndexMap (Bor (List ℕ)) (Option SourceSpan) S} {visited : List (Node Directive)} (r : RemembersLabels labels visited) (d : Node Directive) where
  -- a `@defer` without a text brings none
  pub remembers_no_text : HasNoText d → RemembersLabels labels (visited ++ d ∷ [])
  remembers_no_text none = record {
    look_up = λ text.
        r.look_up text ∙ sym (first_more visited d text ∙ ap (λ b. option_or (first_place_in visited text) (cond b (Some (label_place d)) None)) (no_text d none text) ∙ or_none (first_place_in visited text));
  }

  module _ (label : List ℕ) (location : Option SourceSpan) (h : HasLabel d label location) where
    choice : (text : List ℕ) → option_or (first_place_in visited text) (cond (bytes_eq label text) (Some location) None) ≡ first_place_in (visited ++ d ∷ []) text
    choice text =
        ap (λ b. option_or (first_place_in visited text) (cond b (Some location) None)) (sym (text_is d label location h text)) ∙
        ap (λ at. option_or (first_place_in visited text) (cond (has_text text d) (Some at) None)) (sym (place_is d label location h)) ∙ sym (first_more visited d text)

    -- a text that was visited before
    pub remembers_known : (first : Option SourceSpan) → get_by (λ k. bytes_eq label k.now) labels ≡ Some first → RemembersLabels labels (visited ++ d ∷ [])
    remembers_known first found = record {
      look_up = λ text.
          let there : bytes_eq label text ≡ true → ¬ (first_place_in visited text ≡ None) = λ same none.
          let some : Some first ≡ None = sym found ∙ r.look_up label ∙ ap (first_place_in visited) ((bytes_eq-Decides label text).0 same) ∙ none in cc in
          r.look_up text ∙ kept_or (bytes_eq label text) location (first_place_in visited text) there ∙ choice text;
    }

    -- a new text
    pub remembers_new : {new : IndexMap (Bor (List ℕ)) (Option SourceSpan) S} → get_by (λ k. bytes_eq label k.now) labels ≡ None →
        ((text : List ℕ) → get_by (λ k. bytes_eq text k.now) new ≡ cond (bytes_eq label text) (Some location) (get_by (λ k. bytes_eq text k.now) labels)) →
        RemembersLabels new (visited ++ d ∷ [])
    remembers_new none more = record {
      look_up = λ text.
          let absent : bytes_eq label text ≡ true → first_place_in visited text ≡ None = λ same.
          sym (ap (first_place_in visited) ((bytes_eq-Decides label text).0 same)) ∙ sym (r.look_up label) ∙ none in
          more text ∙ ap (λ o. cond (bytes_eq label text) (Some location) o) (r.look_up text) ∙
          chosen_or (bytes_eq label text) location (first_place_in visited text) absent ∙ choice text;
    }

-- a further label holds behind others
abbrev pub LabelHoldsBehind : List (Node Directive) → Node Directive → Type 0
LabelHoldsBehind visited d = ((k : ℕ) (x : Node Directive) → k < length visited → HaveDifferentLabels (get_or visited k x) d) × HasFixedLabel d

labels_more : (visited : List (Node Directive)) (d : Node Directive) → (LabelsHoldAmong visited × LabelHoldsBehind visited d) ↔ LabelsHoldAmong (visited ++ d ∷ [])
labels_more visited d =
    let pairs = pairs_more HaveDifferentLabels visited d in (
      λ p. (pairs.0 (p.0.0, p.1.0), All-append HasFixedLabel visited (d ∷ []) p.0.1 (All-cons HasFixedLabel d [] p.1.1 (All-nil HasFixedLabel))),
      λ q.
          let parts = pairs.1 q.0 in
          ((parts.0, All-append_left HasFixedLabel visited (d ∷ []) q.1), (parts.1, All-head HasFixedLabel d [] (All-append_right HasFixedLabel visited (d ∷ []) q.1))),
    )

-- one without a text, which is no variable, does
pub no_text_holds : (visited : List (Node Directive)) (d : Node Directive) → HasNoText d → HasFixedLabel d → LabelHoldsBehind visited d
no_text_holds visited d none fixed = (λ k z in' x y s t a b c e. absurd (none y t b e), fixed)

-- one with a new text does
pub new_text_holds : (visited : List (Node Directive)) (d : Node Directive) (text : List ℕ) (location : Option SourceSpan) → HasLabel d text location →
    None ≡ first_place_in visited text → LabelHoldsBehind visited d
new_text_holds visited d text location h none = (differ, fixed) where
  not_found : find (has_text text) visited ≡ None
  not_found = by (find (has_text text) visited) none where
    by : (o : Option (Node Directive)) → None ≡ option_map label_place o → o ≡ None
    by None e = refl
    by (Some x) e = absurd (let no : ⊥ = cc in no)

  differ : (k : ℕ) (z : Node Directive) → k < length visited → HaveDifferentLabels (get_or visited k z) d
  differ k z in' x y s t first second first_is second_is same =
      let other = get_or visited k z in
      let given : y ≡ h.value = same_Some y h.value (sym second ∙ h.labelled) in
      let here : literal.String t ≡ literal.String h.label = sym second_is ∙ ap (λ (v : Node Value). v.value.value) given ∙ h.is_text in
      let label : t ≡ h.label = cc in
      let bytes : text ≡ string_bytes s = h.text_is ∙ sym (ap (λ (u : String Global). string_bytes u) label) ∙ sym same in
      let has : HasLabel other text x.location = record { value = x; label = s; labelled = first; is_text = first_is; text_is = bytes; location_is = refl } in
      let yes : has_text text other ≡ true = text_is other text x.location has text ∙ same_bytes text in
      let no : has_text text other ≡ false = find_none (has_text text) visited k z not_found in' in
      cc

  fixed : HasFixedLabel d
  fixed value name labelled is_variable =
      let given : value ≡ h.value = same_Some value h.value (sym labelled ∙ h.labelled) in
      let both : literal.Variable name ≡ literal.String h.label = sym is_variable ∙ ap (λ (v : Node Value). v.value.value) given ∙ h.is_text in
      let no : ⊥ = cc in no

-- a variable does not
pub variable_breaks : (visited : List (Node Directive)) (d : Node Directive) (value : Node Value) (name : NameText) → label_of d ≡ Some value → value.value.value ≡ literal.Variable name →
    ¬ LabelHoldsBehind visited d
variable_breaks visited d value name labelled is h = h.1 value name labelled is

-- the first that passes a test is behind others that do not
record Splits (test : Node Directive → Bool) (visited : List (Node Directive)) (first : Node Directive) : Type 0 where
  before : List (Node Directive)
  between : List (Node Directive)
  split : visited ≡ before ++ first ∷ between
  none_before : All (λ x. test x ≡ false) before

module _ (test : Node Directive → Bool) (first : Node Directive) where
  splits : (visited : List (Node Directive)) → find test visited ≡ Some first → Splits test visited first
  splits [] e = absurd (let no : ⊥ = cc in no)
  splits (d ∷ more) e = by (test d) refl e (splits more) where
    by : (b : Bool) → test d ≡ b → cond b (Some d) (find test more) ≡ Some first → (find test more ≡ Some first → Splits test more first) → Splits test (d ∷ more) first
    by true is found later = record { before = []; between = more; split = ap (λ x. x ∷ more) (same_Some d first found); none_before = All-nil (λ x. test x ≡ false) }
    by false is found later =
        let rest = later found in
        record {
          before = d ∷ rest.before;
          between = rest.between;
          split = ap (λ l. d ∷ l) rest.split;
          none_before = All-cons (λ x. test x ≡ false) d rest.before is rest.none_before;
        }

-- what has a text has it as its label
has_label : (d : Node Directive) (text : List ℕ) → has_text text d ≡ true → HasLabel d text (label_place d)
has_label d text e = by (label_of d) refl where
  by_value : (value : Node Value) → label_of d ≡ Some value → (v : Value) → value.value.value ≡ v → is_text text v ≡ true → HasLabel d text (label_place d)
  by_value value labelled (literal.String s) is same =
      record { value = value; label = s; labelled = labelled; is_text = is; text_is = sym ((bytes_eq-Decides (string_bytes s) text).0 same); location_is = ap (option_and_then (λ (v : Node Value). v.location)) labelled }
  by_value value labelled _ is same = absurd (let no : ⊥ = cc in no)

  by : (o : Option (Node Value)) → label_of d ≡ o → HasLabel d text (label_place d)
  by None is = absurd (let no : false ≡ true = sym (ap (λ o. option_map_or (λ (value : Node Value). is_text text value.value.value) o false) is) ∙ e in let never : ⊥ = cc in never)
  by (Some value) is =
      by_value value is value.value.value refl (sym (ap (λ o. option_map_or (λ (value : Node Value). is_text text value.value.value) o false) is) ∙ e)

-- a text that was visited before breaks the rule, and the diagnostic of it is true
module _ (document : ExecutableDocument) (visited later : List (Node Directive)) (d : Node Directive) (text : List ℕ) (original location : Option SourceSpan)
    (are_visited : DefersVisitedIn document (visited ++ (d ∷ later))) (h : HasLabel d text location)
    (known : Some original ≡ first_place_in visited text) where
  pub repetition_breaks : ¬ LabelHoldsBehind visited d
  repetition_breaks holds =
      let first = first_found label_place (find (has_text text) visited) original (sym known) in
      let at = found_at (has_text text) visited first.0 first.1 in
      let there = has_label first.0 text at.3 in
      let differ = subst (λ x. HaveDifferentLabels x d) (at.2 d) (holds.0 at.0 d at.1) in
      differ there.value h.value there.label h.label there.labelled h.labelled there.is_text h.is_text (sym there.text_is ∙ h.text_is)

  pub says_repetition : RepeatsLabel document text original location
  says_repetition =
      let first = first_found label_place (find (has_text text) visited) original (sym known) in
      let at = found_at (has_text text) visited first.0 first.1 in
      let parts = splits (has_text text) first.0 visited first.1 in
      record {
        before = parts.before;
        first = first.0;
        between = parts.between;
        again = d;
        after = later;
        are_visited = subst (DefersVisitedIn document) (ap (λ l. l ++ (d ∷ later)) parts.split ∙ append_assoc parts.before (first.0 ∷ parts.between) (d ∷ later)) are_visited;
        none_before = λ x place in' has.
            let no : has_text text x ≡ false = All-contains (λ y. has_text text y ≡ false) parts.before x parts.none_before in' in
            let yes : has_text text x ≡ true = text_is x text place has text ∙ same_bytes text in
            cc;
        first_has_it = subst (HasLabel first.0 text) (sym first.2) (has_label first.0 text at.3);
        again_has_it = h;
      }

-- a variable as a label
pub says_variable : (document : ExecutableDocument) (passed after : List (Node Directive)) (d : Node Directive) (value : Node Value) (name : NameText) →
    DefersIn document (passed ++ (d ∷ after)) → label_of d ≡ Some value → value.value.value ≡ literal.Variable name → HasVariableLabel document value.location
says_variable document passed after d value name are_all labelled is = record {
  applications = passed ++ (d ∷ after);
  d = d;
  value = value;
  name = name;
  are_all = are_all;
  is_one = Contains-append_right passed (d ∷ after) d (stands_first d after);
  labelled = labelled;
  is_variable = is;
  at_is = refl;
}

-- one application more was passed
module _ {S : Type 0} {document : ExecutableDocument} {passed visited : List (Node Directive)} {labels : IndexMap (Bor (List ℕ)) (Option SourceSpan) S} {old mid : List DiagnosticEntry}
    (so_far : LabelsSoFar document passed visited labels old mid) (d : Node Directive) {labels' : IndexMap (Bor (List ℕ)) (Option SourceSpan) S}
    (remembered : RemembersLabels labels' (visited ++ d ∷ [])) where
  -- with nothing to report
  pub passed_well : LabelHoldsBehind visited d → LabelsSoFar document (passed ++ d ∷ []) (visited ++ d ∷ []) labels' old mid
  passed_well holds = record {
    remembered = remembered;
    reported = in_words_within IsLimitEntry (λ p. (labels_more visited d).0 (p, holds), λ q. ((labels_more visited d).1 q).0) so_far.reported;
    whole = λ added is none. ap (λ l. l ++ d ∷ []) (so_far.whole added is none);
  }

  -- with a diagnostic
  pub passed_badly : (new : List DiagnosticEntry) (e : DiagnosticEntry) → new ≡ mid ++ e ∷ [] → ¬ LabelHoldsBehind visited d → DeferEntryReport document e →
      LabelsSoFar document (passed ++ d ∷ []) (visited ++ d ∷ []) labels' old new
  passed_badly new e is breaks says = record {
    remembered = remembered;
    reported = in_words_within IsLimitEntry (labels_more visited d)
        (both_within IsLimitEntry so_far.reported (within IsLimitEntry (broken (DeferEntryReport document) (LabelHoldsBehind visited d) mid new e is breaks says)));
    whole = λ added added_is none.
        let before = so_far.reported.added in
        let same : added ≡ before ++ e ∷ [] =
        append_cancel_left old added (before ++ e ∷ []) (sym added_is ∙ is ∙ ap (λ l. l ++ e ∷ []) so_far.reported.appended ∙ append_assoc old before (e ∷ [])) in
        ap (λ l. l ++ d ∷ []) (so_far.whole before so_far.reported.appended
        (All-append_left (λ x. ¬ IsLimitEntry x) before (e ∷ []) (subst (All (λ x. ¬ IsLimitEntry x)) same none)));
  }

-- the rest of a set was missed, and a limit says so
pub passed_to_limit : {S : Type 0} {document : ExecutableDocument} {passed visited : List (Node Directive)} {labels : IndexMap (Bor (List ℕ)) (Option SourceSpan) S} {old mid : List DiagnosticEntry} →
    (so_far : LabelsSoFar document passed visited labels old mid) (missed : List (Node Directive)) (new : List DiagnosticEntry) →
    new ≡ mid ++ record { location = None; details = details.Diagnostic report.RecursionError } ∷ [] → LabelsStandTooDeep document →
    LabelsSoFar document (passed ++ missed) visited labels old new
passed_to_limit {document = document} {passed = before} {visited = visited} {old = old} {mid = mid} so_far missed new is deep =
    let e : DiagnosticEntry = record { location = None; details = details.Diagnostic report.RecursionError } in
    let Rule = LabelsHoldAmong visited in
    record {
      remembered = so_far.remembered;
      reported = in_words_within IsLimitEntry (λ p. p.0, λ p. (p, p))
          (both_within IsLimitEntry so_far.reported (passed IsLimitEntry Rule (DeferEntryReport document) mid new e is limit_of_walk (inr (label_walk_passes deep))));
      whole = λ added added_is none.
          let same : added ≡ so_far.reported.added ++ e ∷ [] =
          append_cancel_left old added (so_far.reported.added ++ e ∷ []) (sym added_is ∙ is ∙ ap (λ l. l ++ e ∷ []) so_far.reported.appended ∙ append_assoc old so_far.reported.added (e ∷ [])) in
          let parts = All-append_right (λ x. ¬ IsLimitEntry x) so_far.reported.added (e ∷ []) (subst (All (λ x. ¬ IsLimitEntry x)) same none) in
          absurd (All-head (λ x. ¬ IsLimitEntry x) e [] parts limit_of_walk);
    }

-- the diagnostics so far stay
pub kept_so_far : {S : Type 0} {document : ExecutableDocument} {passed visited : List (Node Directive)} {labels : IndexMap (Bor (List ℕ)) (Option SourceSpan) S} {old new : List DiagnosticEntry} →
    LabelsSoFar document passed visited labels old new → KeepsReports (DeferEntryReport document) old new
kept_so_far so_far = kept_within IsLimitEntry so_far.reported

-- one application more, by its label
module _ {S : Type 0} {document : ExecutableDocument} {before visited : List (Node Directive)} {labels : IndexMap (Bor (List ℕ)) (Option SourceSpan) S} {old mid : List DiagnosticEntry}
    (so_far : LabelsSoFar document before visited labels old mid) (d : Node Directive) where
  -- a diagnostic of it was pushed
  pub reported_badly : {T E : Type 0} (r : Result T E) {labels' : IndexMap (Bor (List ℕ)) (Option SourceSpan) S} → RemembersLabels labels' (visited ++ d ∷ []) →
      (new : List DiagnosticEntry) (e : DiagnosticEntry) → OnOk r (new ≡ mid ++ e ∷ []) → OnErr r (new ≡ mid) →
      ¬ LabelHoldsBehind visited d → DeferEntryReport document e →
      MatchResult r (λ _. LabelsSoFar document (before ++ d ∷ []) (visited ++ d ∷ []) labels' old new) (λ _. KeepsReports (DeferEntryReport document) old new)
  reported_badly (Ok x) remembered new e ok err breaks says = passed_badly so_far d remembered new e ok breaks says
  reported_badly (Err x) remembered new e ok err breaks says = subst (KeepsReports (DeferEntryReport document) old) (sym err) (kept_so_far so_far)

  -- it has none
  pub passed_unlabelled : label_of d ≡ None → LabelsSoFar document (before ++ d ∷ []) (visited ++ d ∷ []) labels old mid
  passed_unlabelled none =
      let no_text : HasNoText d = λ value s some is. absurd (let no : ⊥ = cc in no) in
      passed_well so_far d (remembers_no_text so_far.remembered d no_text)
      (no_text_holds visited d no_text (λ value name some is. absurd (let no : ⊥ = cc in no)))

  module _ (value : Node Value) (labelled : label_of d ≡ Some value) where
    -- it is neither a text nor a variable
    pub passed_other : ((name : NameText) → value.value.value ≢ literal.Variable name) → ((s : String Global) → value.value.value ≢ literal.String s) →
        LabelsSoFar document (before ++ d ∷ []) (visited ++ d ∷ []) labels old mid
    passed_other no_variable no_text =
        let given : (v : Node Value) → label_of d ≡ Some v → value ≡ v = λ v some. same_Some value v (sym labelled ∙ some) in
        let none : HasNoText d = λ v s some is. no_text s (ap (λ (w : Node Value). w.value.value) (given v some) ∙ is) in
        passed_well so_far d (remembers_no_text so_far.remembered d none)
        (no_text_holds visited d none (λ v name some is. no_variable name (ap (λ (w : Node Value). w.value.value) (given v some) ∙ is)))

    -- it is a variable
    pub reported_variable : {T E : Type 0} (r : Result T E) (name : NameText) → value.value.value ≡ literal.Variable name → (after : List (Node Directive)) →
        DefersIn document (before ++ (d ∷ after)) → (new : List DiagnosticEntry) →
        OnOk r (new ≡ mid ++ record { location = value.location; details = details.Build build.DeferLabelMustNotBeVariable } ∷ []) → OnErr r (new ≡ mid) →
        MatchResult r (λ _. LabelsSoFar document (before ++ d ∷ []) (visited ++ d ∷ []) labels old new) (λ _. KeepsReports (DeferEntryReport document) old new)
    reported_variable r name is after are_all new ok err =
        let none : HasNoText d = λ v s some text.
        let given : value ≡ v = same_Some value v (sym labelled ∙ some) in
        let both : literal.Variable name ≡ literal.String s = sym is ∙ ap (λ (w : Node Value). w.value.value) given ∙ text in
        let no : ⊥ = cc in no in
        reported_badly r (remembers_no_text so_far.remembered d none) new _ ok err (variable_breaks visited d value name labelled is)
        (inl (of_defer (says_variable document before after d value name are_all labelled is)))

  -- it is a text that was visited
  pub reported_repetition : {T E : Type 0} (r : Result T E) (text : List ℕ) (original location : Option SourceSpan) (label : String Global) → HasLabel d text location →
      Some original ≡ first_place_in visited text → string_bytes label ≡ text → {labels' : IndexMap (Bor (List ℕ)) (Option SourceSpan) S} →
      RemembersLabels labels' (visited ++ d ∷ []) → (later : List (Node Directive)) → DefersVisitedIn document (visited ++ (d ∷ later)) → (new : List DiagnosticEntry) →
      OnOk r (new ≡ mid ++ record { location = location; details = details.Build (build.DuplicateDeferLabel label original) } ∷ []) → OnErr r (new ≡ mid) →
      MatchResult r (λ _. LabelsSoFar document (before ++ d ∷ []) (visited ++ d ∷ []) labels' old new) (λ _. KeepsReports (DeferEntryReport document) old new)
  reported_repetition r text original location label h known same remembered later are_visited new ok err =
      reported_badly r remembered new _ ok err (repetition_breaks document visited later d text original location are_visited h known)
      (inl (of_defer (subst (λ l. RepeatsLabel document l original location) (sym same)
      (says_repetition document visited later d text original location are_visited h known))))
