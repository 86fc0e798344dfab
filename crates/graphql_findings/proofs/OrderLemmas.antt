-- The order of reports is total, and equal reports are the same.
use Rattle.std.proofs.Common.{◌≡◌, ◌∙◌, ◌<◌, ℕ, Bool, Bor, false, true, true≢false, List, Option, None, Some, Contains, All, Any, IsPermutation, IsSorted, IsSortedBy, Less, Equal, Greater, Ordering, ap, get_or, is_eq, is_lt, nat_cmp, refl, string_bytes, sym, subst}
use denote.Param.Members.{Mut}
use Rattle.std.specs.Cmp.{IsStrictWeakOrder, IsTotalOrder}
use Rattle.std.specs.Cmp.Lexicographic.{options_total, same_text, slice_cmp, texts_ties}
use Rattle.std.specs.Fn.{Called, ComparesAs}
use Rattle.std.specs.List.{dedup}
use Rattle.std.specs.List.Sorted.{IsStrictlySortedBy}
use Rattle.std.specs.Ordering.{MatchOrdering, eq_by_cmp, ordering_then}
use Rattle.std.proofs.lemmas.Cmp.{by_ranked, eq_by_cmp_equiv, nat_cmp_total, nat_list_cmp_total, on_total, ranked, then_total}
use Rattle.std.proofs.lemmas.Fn.{always_returns_same}
use Rattle.std.proofs.lemmas.List.Elements.{All-contains_itself, All-weaker}
use Rattle.std.proofs.lemmas.List.Kept.{Any-dedup, Contains-from_dedup, IsStrictlySortedBy-dedup}
use Rattle.std.proofs.lemmas.List.Sorted.{Contains-permutation, IsPermutation-sym, ranks_by}
use Rattle.graphql_nodes.specs.declared.spans.SourceSpan.{SourceSpan}
use Rattle.graphql_shown_reports.specs.declared.shown.ShownReport.{ShownReport}
use Rattle.graphql_findings.specs.Order.{AreDistinctOf, IsAmong, IsSameReport, found_cmp, is_same_found, place_cmp, report_cmp, span_cmp}
use Rattle.graphql_findings.specs.declared.order.Found.{Found}

span_total : IsTotalOrder span_cmp
span_total = then_total (on_total (λ (s : SourceSpan). s.file_id.0) nat_cmp_total) (then_total (on_total (λ (s : SourceSpan). s.start) nat_cmp_total) (on_total (λ (s : SourceSpan). s.end) nat_cmp_total))

report_total : IsTotalOrder report_cmp
report_total =
    then_total (on_total (λ (r : ShownReport). r.location) (options_total span_total))
    (then_total (on_total (λ (r : ShownReport). r.rule.now) nat_list_cmp_total) (on_total (λ (r : ShownReport). string_bytes r.message) nat_list_cmp_total))

pub found_total : IsTotalOrder found_cmp
found_total = on_total (λ (f : Found). f.report) report_total

no_less : {A : Type 0} → Less ≡ Equal → A
no_less e = absurd (true≢false (ap is_lt e))

no_greater : {A : Type 0} → Greater ≡ Equal → A
no_greater e = absurd (true≢false (sym (ap is_eq e)))

both : (p q : Ordering) → ordering_then p q ≡ Equal → (p ≡ Equal) × (q ≡ Equal)
both Less q e = no_less e
both Equal q e = (refl, e)
both Greater q e = no_greater e

numbers_same : (m n : ℕ) → nat_cmp m n ≡ Equal → m ≡ n
numbers_same m n e = by_ranked (m < n) (m ≡ n) (n < m) {G = m ≡ n} (nat_cmp m n) (ranked m n (nat_cmp m n) refl) (λ less _. no_less (sym less ∙ e)) (λ _ same. same) (λ greater _. no_greater (sym greater ∙ e))

texts_same : (s t : List ℕ) → slice_cmp nat_cmp s t ≡ Equal → s ≡ t
texts_same s t e = same_text s t (sym (texts_ties s t ∙ ap is_eq e))

spans_same : (a b : SourceSpan) → span_cmp a b ≡ Equal → a ≡ b
spans_same a b e =
    let parts = both (nat_cmp a.file_id.0 b.file_id.0) (ordering_then (nat_cmp a.start b.start) (nat_cmp a.end b.end)) e in
    let others = both (nat_cmp a.start b.start) (nat_cmp a.end b.end) parts.1 in
    let files = numbers_same a.file_id.0 b.file_id.0 parts.0 in
    let starts = numbers_same a.start b.start others.0 in
    let ends = numbers_same a.end b.end others.1 in
    ap (λ (n : ℕ). let place : SourceSpan = record { file_id = record { 0 = n }; start = a.start; end = a.end } in place) files
    ∙ ap (λ (n : ℕ). let place : SourceSpan = record { file_id = b.file_id; start = n; end = a.end } in place) starts
    ∙ ap (λ (n : ℕ). let place : SourceSpan = record { file_id = b.file_id; start = b.start; end = n } in place) ends

places_same : (a b : Option SourceSpan) → place_cmp a b ≡ Equal → a ≡ b
places_same None None e = refl
places_same None (Some b) e = no_less e
places_same (Some a) None e = no_greater e
places_same (Some a) (Some b) e = ap Some (spans_same a b e)

reports_same : (a b : ShownReport) → report_cmp a b ≡ Equal → IsSameReport a b
reports_same a b e =
    let parts = both (place_cmp a.location b.location) _ e in
    let texts = both (slice_cmp nat_cmp a.rule.now b.rule.now) (slice_cmp nat_cmp (string_bytes a.message) (string_bytes b.message)) parts.1 in
    record {
      location = places_same a.location b.location parts.0;
      rule = texts_same a.rule.now b.rule.now texts.0;
      message = texts_same (string_bytes a.message) (string_bytes b.message) texts.1;
    }

is_equal : (o : Ordering) → is_eq o ≡ true → o ≡ Equal
is_equal Less e = absurd (true≢false (sym e))
is_equal Equal e = refl
is_equal Greater e = absurd (true≢false (sym e))

-- a sort by calls that compare, each of which leaves the closure as it is
pub sorted_by_calls : {F : Type 0} {g : Mut F (Bor Found × (Bor Found × Unit {0})) Ordering} {f : F} (xs : List Found)
    → ((lt : Found → Found → Bool) → IsStrictWeakOrder lt → ComparesAs g lt f → IsSortedBy lt xs)
    → ((a : Bor Found × (Bor Found × Unit {0})) (r : Ordering) (f' : F) → Called g f a r f' → (r ≡ found_cmp a.0.now a.1.0.now) × (f' ≡ f)) → IsSorted found_cmp xs
sorted_by_calls {g = g} {f = f} xs up h = up (λ x y. is_lt (found_cmp x y)) (ranks_by found_total (λ x. x))
    (always_returns_same g (λ a r. is_lt r ≡ is_lt (found_cmp a.0.now a.1.0.now)) f (λ a r f' k. (ap is_lt (h a r f' k).0, (h a r f' k).1)))

-- what holds of each that is in a list
among : {X : Type 0} (P : X → Type 0) (xs : List X) → ((x : X) → Contains xs x → P x) → All P xs
among P xs each = All-weaker (Contains xs) P each xs (All-contains_itself xs)

-- of what is in order each is kept once
pub distinct_of_sorted : (found sorted kept : List Found) → IsPermutation found sorted → IsSorted found_cmp sorted → kept ≡ dedup is_same_found sorted → AreDistinctOf found kept
distinct_of_sorted found sorted kept moved up are = record {
  each = among (Contains found) kept
      (λ x there. Contains-permutation sorted found x (IsPermutation-sym found sorted moved) (Contains-from_dedup is_same_found sorted x (subst (λ l. Contains l x) are there)));
  every = among (IsAmong kept) found
      (λ x there. let h = Any-dedup (eq_by_cmp_equiv found_total) sorted x (Contains-permutation found sorted x moved there) in
      subst (λ l. IsAmong l x) (sym are) (h.0, h.1, h.2, h.3, reports_same x.report h.1.report (is_equal (found_cmp x h.1) h.4)));
  ordered = subst (IsStrictlySortedBy found_cmp) (sym are) (IsStrictlySortedBy-dedup found_total (λ x y. refl) sorted up);
}
