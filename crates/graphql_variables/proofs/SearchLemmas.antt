-- Searches put together: nothing done, one after another, one that is visited before its successors, and
-- what a search from nothing has seen.
use Rattle.std.proofs.Common.{◌⊎◌, inl, inr}
use Rattle.graphql_variables.specs.Searches.{Leads, leads_to_itself, leads_by, Finds, Searched}

-- one way after another
pub leads_then : {X : Type 0} {Step : X → X → Type 0} {a b c : X} → Leads Step a b → Leads Step b c → Leads Step a c
leads_then leads_to_itself after = after
leads_then (leads_by step more) after = leads_by step (leads_then more after)

module _ {X : Type 0} {Step : X → X → Type 0} where
  -- nothing was done
  pub finds_nothing : {begins seen : X → Type 0} → Finds Step begins seen seen
  finds_nothing = record { grows = λ x h. h; reachable = λ x h. inl h }

  -- nothing is to be done where all of it was seen before
  pub searched_before : {begins seen : X → Type 0} → ((x : X) → begins x → seen x) → Searched Step begins seen seen
  searched_before before = record { finds = finds_nothing; begun = before; closed = λ x h. inl h }

  -- a search that begins with more
  pub finds_from_more : {begins begins' old new : X → Type 0} → ((x : X) → begins x → begins' x) →
      Finds Step begins old new → Finds Step begins' old new
  finds_from_more more f = record {
    grows = f.grows;
    reachable = λ x h. elim (f.reachable x h) [ inl before ↦ inl before | inr way ↦ inr (way.0, more way.0 way.1, way.2) ];
  }

  -- the same search in other words
  pub searched_words : {begins begins' old new : X → Type 0} → ((x : X) → begins x → begins' x) → ((x : X) → begins' x → begins x) →
      Searched Step begins old new → Searched Step begins' old new
  searched_words there back s = record {
    finds = finds_from_more there s.finds;
    begun = λ x h. s.begun x (back x h);
    closed = s.closed;
  }

  -- one search after another
  pub finds_then : {begins begins' old mid new : X → Type 0} →
      Finds Step begins old mid → Finds Step begins' mid new → Finds Step (λ x. begins x ⊎ begins' x) old new
  finds_then a b = record {
    grows = λ x h. b.grows x (a.grows x h);
    reachable = λ x h. elim (b.reachable x h) [
      | inl before ↦ elim (a.reachable x before) [ inl first ↦ inl first | inr way ↦ inr (way.0, inl way.1, way.2) ]
      | inr way ↦ inr (way.0, inr way.1, way.2)
    ];
  }

  pub searched_then : {begins begins' old mid new : X → Type 0} →
      Searched Step begins old mid → Searched Step begins' mid new → Searched Step (λ x. begins x ⊎ begins' x) old new
  searched_then a b = record {
    finds = finds_then a.finds b.finds;
    begun = λ x h. elim h [ inl first ↦ b.finds.grows x (a.begun x first) | inr second ↦ b.begun x second ];
    closed = λ x h. elim (b.closed x h) [
      | inl before ↦ elim (a.closed x before) [ inl first ↦ inl first | inr all ↦ inr (λ y step. b.finds.grows y (all y step)) ]
      | inr all ↦ inr all
    ];
  }

  -- some are visited, and then the search goes on with their successors
  pub finds_below : {begins below old mid new : X → Type 0} →
      ((x : X) → old x → mid x) → ((x : X) → mid x → old x ⊎ begins x) →
      ((y : X) → below y → (x : X) × begins x × Step x y) →
      Finds Step below mid new → Finds Step begins old new
  finds_below grows visited_fragments from b = record {
    grows = λ x h. b.grows x (grows x h);
    reachable = λ x h. elim (b.reachable x h) [
      | inl before ↦ elim (visited_fragments x before) [ inl first ↦ inl first | inr here ↦ inr (x, here, leads_to_itself) ]
      | inr way ↦ let start = from way.0 way.1 in inr (start.0, start.1, leads_by start.2 way.2)
    ];
  }

  pub searched_below : {begins below old mid new : X → Type 0} →
      ((x : X) → old x → mid x) → ((x : X) → begins x → mid x) → ((x : X) → mid x → old x ⊎ begins x) →
      ((y : X) → below y → (x : X) × begins x × Step x y) → ((x y : X) → begins x → Step x y → below y) →
      Searched Step below mid new → Searched Step begins old new
  searched_below grows enters visited_fragments from next b = record {
    finds = finds_below grows visited_fragments from b.finds;
    begun = λ x h. b.finds.grows x (enters x h);
    closed = λ x h. elim (b.closed x h) [
      | inl before ↦ elim (visited_fragments x before) [ inl first ↦ inl first | inr here ↦ inr (λ y step. b.begun y (next x y here step)) ]
      | inr all ↦ inr all
    ];
  }

  -- a search from nothing has seen all to which its beginnings lead
  pub all_seen : {begins old new : X → Type 0} → ((x : X) → ¬ old x) → Searched Step begins old new →
      (start x : X) → begins start → Leads Step start x → new x
  all_seen {new = new} nothing s start x first way = follow way (s.begun start first) where
    follow : {a b : X} → Leads Step a b → new a → new b
    follow leads_to_itself h = h
    follow {a = a} (leads_by {y = y} step more) h =
        follow more (elim (s.closed a h) [ inl before ↦ absurd (nothing a before) | inr all ↦ all y step ])

  -- and nothing else
  pub only_found : {begins old new : X → Type 0} → ((x : X) → ¬ old x) → Finds Step begins old new →
      (x : X) → new x → (start : X) × begins start × Leads Step start x
  only_found nothing f x h = elim (f.reachable x h) [ inl before ↦ absurd (nothing x before) | inr way ↦ way ]
