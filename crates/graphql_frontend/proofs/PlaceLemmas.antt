-- Places: when two are equal, and which a set has.
use Rattle.std.proofs.Common.{◌≡◌, ◌↔◌, ◌+◌, ◌<◌, ℕ, get_or, length, take, true, false, true≢false, Bool, List, [], ◌∷◌, ◌++◌, Option, None, Some, refl, sym, ◌∙◌, ap, Contains, IsTrue}
use Rattle.std.specs.Prelude.{◌&&◌, ◌||◌, ◌==◌, filter_map, option_to_list}
use Rattle.std.specs.List.{cons_option, list_any}
use Rattle.std.specs.HashSet.{HashSet}
use Rattle.std.proofs.lemmas.Bool.Decides.{Decides-eqb}
use Rattle.std.proofs.lemmas.List.Elements.{Contains-append_cases, filter_map-append}
use Rattle.std.proofs.lemmas.Map.Views.{Contains-from_any}
use mathlib.Core.Logic.{inl, inr}
use Rattle.graphql_documents.proofs.ListLemmas.{more_is, none_stands, only_one, stands_behind, stands_first}
use Rattle.graphql_diagnostics.specs.declared.data.DiagnosticData.TheVariants as report
use Rattle.graphql_diagnostics.specs.declared.details.Details.{Details}
use Rattle.graphql_diagnostics.specs.declared.details.Details.TheVariants as details
use Rattle.graphql_diagnostics.specs.declared.lists.DiagnosticEntry.{DiagnosticEntry}
use Rattle.graphql_nodes.specs.Names.{NameText}
use Rattle.graphql_nodes.specs.declared.spans.FileId.{FileId}
use Rattle.graphql_nodes.specs.declared.spans.SourceSpan.{SourceSpan}
use Rattle.graphql_frontend.specs.Documents.{EndTogether, EndsWithOne, IsReportedUndefined}
use Rattle.graphql_frontend.specs.Places.{HasThese, end_of, end_of_fixed, is_place_among, place_of_undefined, reported_end, same_place, undefined_place}
use Rattle.graphql_document_rules.specs.RuleSets.{IsNeverOff}

-- equal places are the same
exact : (a b : SourceSpan) → same_place a b ≡ true → a ≡ b
exact a b same =
    let parts = both (a.file_id.0 == b.file_id.0) _ same in
    let others = both (a.start == b.start) (a.end == b.end) parts.1 in
    let files = (Decides-eqb a.file_id.0 b.file_id.0).0 parts.0 in
    let starts = (Decides-eqb a.start b.start).0 others.0 in
    let ends = (Decides-eqb a.end b.end).0 others.1 in
    ap (λ (n : ℕ). let place : SourceSpan = record { file_id = record { 0 = n }; start = a.start; end = a.end } in place) files
    ∙ ap (λ (n : ℕ). let place : SourceSpan = record { file_id = b.file_id; start = n; end = a.end } in place) starts
    ∙ ap (λ (n : ℕ). let place : SourceSpan = record { file_id = b.file_id; start = b.start; end = n } in place) ends
  where
    both : (p q : Bool) → (p && q) ≡ true → (p ≡ true) × (q ≡ true)
    both true q e = (refl, e)
    both false q e = absurd (let no : ⊥ = cc in no)

itself : (a : SourceSpan) → same_place a a ≡ true
itself a =
    let files = (Decides-eqb a.file_id.0 a.file_id.0).1 refl in
    let starts = (Decides-eqb a.start a.start).1 refl in
    let ends = (Decides-eqb a.end a.end).1 refl in
    rw (files, starts, ends) refl

-- the test of a list finds what is in it, and nothing else
found_in : (place : SourceSpan) (places : List SourceSpan) → list_any (same_place place) places ≡ true → Contains places place
found_in place places is = Contains-from_any exact place places is

finds : (place : SourceSpan) (places : List SourceSpan) → Contains places place → list_any (same_place place) places ≡ true
finds place [] there = absurd (none_stands place there)
finds place (x ∷ xs) there = elim (Contains-append_cases (x ∷ []) xs place there) [
  | inl first ↦ rw (only_one x place first, itself x) refl
  | inr later ↦ or_true (same_place place x) (list_any (same_place place) xs) (finds place xs later)
] where
  or_true : (p q : Bool) → q ≡ true → (p || q) ≡ true
  or_true true q e = refl
  or_true false q e = e

-- what is among the places that are read off the elements of a list
module _ {X : Type 0} (read : X → Option SourceSpan) where
  -- one element more
  alone : (o : Option SourceSpan) → cons_option o [] ≡ option_to_list o
  alone None = refl
  alone (Some place) = refl

  pub read_more : (xs : List X) (i : ℕ) (x : X) → i < length xs → x ≡ get_or xs i x →
      filter_map read (take (i + 1) xs) ≡ filter_map read (take i xs) ++ option_to_list (read x)
  read_more xs i x within item =
      ap (filter_map read) (more_is xs i x within item) ∙ filter_map-append read (take i xs) (x ∷ []) ∙ ap (λ l. filter_map read (take i xs) ++ l) (alone (read x))

  abbrev ReadFrom : List X → SourceSpan → Type 0
  ReadFrom xs place = (x : X) × Contains xs x × (read x ≡ Some place)

  read_first : (x : X) (xs : List X) (place : SourceSpan) (o : Option SourceSpan) → read x ≡ o → Contains (cons_option o (filter_map read xs)) place →
      (Contains (filter_map read xs) place → ReadFrom xs place) → ReadFrom (x ∷ xs) place
  read_first x xs place None none in_it rest = let h = rest in_it in (h.0, stands_behind x xs h.0 h.1, h.2)
  read_first x xs place (Some p) some in_it rest = elim (Contains-append_cases (p ∷ []) (filter_map read xs) place in_it) [
    | inl first ↦ (x, stands_first x xs, some ∙ ap Some (sym (only_one p place first)))
    | inr later ↦ let h = rest later in (h.0, stands_behind x xs h.0 h.1, h.2)
  ]

  read_of : (xs : List X) (place : SourceSpan) → Contains (filter_map read xs) place → ReadFrom xs place
  read_of [] place there = absurd (none_stands place there)
  read_of (x ∷ xs) place there = read_first x xs place (read x) refl there (λ later. read_of xs place later)

  behind : (o : Option SourceSpan) (places : List SourceSpan) (place : SourceSpan) → Contains places place → Contains (cons_option o places) place
  behind None places place later = later
  behind (Some p) places place later = stands_behind p places place later

  in_front : (o : Option SourceSpan) (places : List SourceSpan) (place : SourceSpan) → o ≡ Some place → Contains (cons_option o places) place
  in_front o places place is = rw is (stands_first place places)

  is_read : (xs : List X) (x : X) (place : SourceSpan) → Contains xs x → read x ≡ Some place → Contains (filter_map read xs) place
  is_read [] x place there is = absurd (none_stands x there)
  is_read (y ∷ ys) x place there is = elim (Contains-append_cases (y ∷ []) ys x there) [
    | inl first ↦ in_front (read y) (filter_map read ys) place (ap read (sym (only_one y x first)) ∙ is)
    | inr later ↦ behind (read y) (filter_map read ys) place (is_read ys x place later is)
  ]

  -- a set of these places has one exactly if it is read off an element
  has_read : {S : Type 0} (xs : List X) (set : HashSet SourceSpan S) → HasThese (filter_map read xs) set → (place : SourceSpan) →
      IsTrue (is_place_among (Some place) set) ↔ ReadFrom xs place
  has_read xs set has place = (
    λ is. read_of xs place (found_in place (filter_map read xs) (sym (has place) ∙ is)),
    λ h. has place ∙ finds place (filter_map read xs) (is_read xs h.0 place h.1 h.2),
  )

-- a diagnostic has a place of an undefined variable exactly if it says so of one
says_undefined : (d : Details) (at : Option SourceSpan) (place : SourceSpan) → place_of_undefined d at ≡ Some place →
    (at ≡ Some place) × (name : NameText) × (d ≡ details.Diagnostic (report.UndefinedVariable name))
says_undefined (details.Diagnostic (report.UndefinedVariable name)) at place is = (is, name, refl)
says_undefined _ at place is = absurd (let no : ⊥ = cc in no)

module _ {S : Type 0} (rules : List DiagnosticEntry) (set : HashSet SourceSpan S) where
  pub undefined_among : HasThese (filter_map undefined_place rules) set → (place : Option SourceSpan) → IsTrue (is_place_among place set) ↔ IsReportedUndefined rules place
  undefined_among has None = (λ is. absurd (let no : ⊥ = cc in no), λ h. absurd (true≢false (sym h.2)))
  undefined_among has (Some place) = (
    λ is.
        let h = (has_read undefined_place rules set has place).0 is in
        let says = says_undefined h.0.details h.0.location place h.2 in
        (h.0, h.1, refl, says.0, says.1, says.2),
    λ (e, stands, some, located, name, says).
        let at : undefined_place e ≡ Some place = ap (λ d. place_of_undefined d e.location) says ∙ located in
        (has_read undefined_place rules set has place).1 (e, stands, at),
  )

  -- the ends of places
  same_end : (x y : SourceSpan) → end_of (Some x) ≡ end_of (Some y) → (x.file_id ≡ y.file_id) × (x.end ≡ y.end)
  same_end x y is = (ap (λ o. file_in o) is, ap (λ o. end_in o) is) where
    file_in : Option SourceSpan → FileId
    file_in None = x.file_id
    file_in (Some place) = place.file_id

    end_in : Option SourceSpan → ℕ
    end_in None = x.end
    end_in (Some place) = place.end

  ends_at : (o : Option SourceSpan) (place : SourceSpan) → end_of o ≡ end_of (Some place) → EndTogether o (Some place)
  ends_at None place is = absurd (let no : ⊥ = cc in no)
  ends_at (Some x) place is = let same = same_end x place is in (x, place, refl, refl, same.0, same.1)

  at_ends : (o : Option SourceSpan) (place x y : SourceSpan) → o ≡ Some x → Some place ≡ Some y → x.file_id ≡ y.file_id → x.end ≡ y.end → end_of o ≡ end_of (Some place)
  at_ends o place x y a b files ends =
      ap end_of a
      ∙ ap (λ (f : FileId). let end : SourceSpan = record { file_id = f; start = x.end; end = x.end } in Some end) files
      ∙ ap (λ (n : ℕ). let end : SourceSpan = record { file_id = y.file_id; start = n; end = n } in Some end) ends
      ∙ ap end_of (sym b)

  -- the end of a place, as that of a diagnostic
  says_end : (d : Details) (end : Option SourceSpan) (place : SourceSpan) → end_of_fixed d end ≡ Some place → IsNeverOff d × (end ≡ Some place)
  says_end (details.Diagnostic (report.UnusedVariable name)) end place is = absurd (let no : ⊥ = cc in no)
  says_end (details.Diagnostic (report.UnusedFragment name)) end place is = absurd (let no : ⊥ = cc in no)
  says_end _ end place is = (tt, is)

  end_as_said : (d : Details) (end : Option SourceSpan) → IsNeverOff d → end_of_fixed d end ≡ end
  end_as_said (details.Diagnostic (report.UnusedVariable name)) end never = absurd never
  end_as_said (details.Diagnostic (report.UnusedFragment name)) end never = absurd never
  end_as_said _ end never = refl

  pub ends_among : HasThese (filter_map reported_end rules) set → (place : Option SourceSpan) → IsTrue (is_place_among (end_of place) set) ↔ EndsWithOne rules place
  ends_among has None = (λ is. absurd (let no : ⊥ = cc in no), λ h. absurd (let together = h.3 in let some : None ≡ Some together.1 = together.3 in let no : ⊥ = cc in no))
  ends_among has (Some place) = (
    λ is.
        let h = (has_read reported_end rules set has _).0 is in
        let says = says_end h.0.details (end_of h.0.location) _ h.2 in
        (h.0, h.1, says.0, ends_at h.0.location place says.1),
    λ (e, stands, never, together).
        let (x, y, a, b, files, ends) = together in
        (has_read reported_end rules set has _).1 (e, stands, end_as_said e.details (end_of e.location) never ∙ at_ends e.location place x y a b files ends),
  )
