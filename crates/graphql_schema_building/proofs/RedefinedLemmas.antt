-- The directives of a schema have distinct names.
use Rattle.std.proofs.Common.{◌≡◌, List, [], ◌∷◌, Bool, true, false, cond, Some, None, refl, sym, ◌∙◌, ap, subst, map, find, All}
use Rattle.std.specs.Prelude.{◌||◌, filter, not, unwrap_or}
use Rattle.std.specs.List.{list_any}
use Rattle.std.proofs.lemmas.List.{map-append}
use Rattle.std.proofs.lemmas.List.Elements.{All-cons, All-head, All-nil, All-tail}
use Rattle.std.proofs.lemmas.List.Kept.{AllPairs-cons}
use Rattle.graphql_nodes.specs.Names.{AreDistinct, DifferentNames, NameText, same_name}
use Rattle.graphql_nodes.proofs.NameLemmas.{same_text}
use Rattle.graphql_documents.proofs.ImplementerLemmas.{same_swapped}
use Rattle.graphql_trees.specs.declared.type_system.DirectiveDefinition.{DirectiveDefinition}
use Rattle.graphql_schema_building.specs.SchemaSays.{directives_with, in_place_of}
use Rattle.graphql_schema_building.proofs.BuildsLemmas.{AreApart, distinct_head, distinct_tail, distinct_then}

abbrev names : List DirectiveDefinition → List NameText
names ds = map (λ d. d.name) ds

-- what passes a test of names, of the names of what passes
pub names_filtered : (p : NameText → Bool) (ds : List DirectiveDefinition) → filter p (names ds) ≡ names (filter (λ d. p d.name) ds)
names_filtered p [] = refl
names_filtered p (d ∷ ds) = by (p d.name) (names_filtered p ds) where
  by : (b : Bool) → filter p (names ds) ≡ names (filter (λ d. p d.name) ds) →
      cond b (d.name ∷ filter p (names ds)) (filter p (names ds)) ≡ names (cond b (d ∷ filter (λ d. p d.name) ds) (filter (λ d. p d.name) ds))
  by true behind = ap (λ l. d.name ∷ l) behind
  by false behind = behind

module _ (own : List DirectiveDefinition) where
  -- what stands in the place of a directive has its name
  place_named : (d : DirectiveDefinition) (n : NameText) → same_name (in_place_of own d).name n ≡ same_name d.name n
  place_named d n = by own where
    by : (os : List DirectiveDefinition) → same_name (unwrap_or (find (λ o. same_name o.name d.name) os) d).name n ≡ same_name d.name n
    by [] = refl
    by (o ∷ os) = choose (same_name o.name d.name) refl (by os) where
      choose : (b : Bool) → same_name o.name d.name ≡ b →
          same_name (unwrap_or (find (λ o. same_name o.name d.name) os) d).name n ≡ same_name d.name n →
          same_name (unwrap_or (cond b (Some o) (find (λ o. same_name o.name d.name) os)) d).name n ≡ same_name d.name n
      choose true same behind = ap (λ text. same_name (record { text = text; location = None }) n) (same_text o.name d.name same)
      choose false other behind = behind

  placed_differ : (a b : DirectiveDefinition) → DifferentNames a.name b.name → DifferentNames (in_place_of own a).name (in_place_of own b).name
  placed_differ a b differ =
      place_named a (in_place_of own b).name ∙ same_swapped a.name (in_place_of own b).name ∙ place_named b a.name ∙ same_swapped b.name a.name ∙ differ

  placed_all : (d : DirectiveDefinition) (ds : List DirectiveDefinition) → All (DifferentNames d.name) (names ds) →
      All (DifferentNames (in_place_of own d).name) (names (map (in_place_of own) ds))
  placed_all d [] all = All-nil (DifferentNames (in_place_of own d).name)
  placed_all d (x ∷ xs) all =
      All-cons (DifferentNames (in_place_of own d).name) (in_place_of own x).name (names (map (in_place_of own) xs))
      (placed_differ d x (All-head (DifferentNames d.name) x.name (names xs) all)) (placed_all d xs (All-tail (DifferentNames d.name) x.name (names xs) all))

  placed_distinct : (ds : List DirectiveDefinition) → AreDistinct (names ds) → AreDistinct (names (map (in_place_of own) ds))
  placed_distinct [] h = h
  placed_distinct (d ∷ ds) h =
      AllPairs-cons DifferentNames (in_place_of own d).name (names (map (in_place_of own) ds)) (placed_all d ds (distinct_head d.name (names ds) h))
      (placed_distinct ds (distinct_tail d.name (names ds) h))

  -- a name that no built-in directive has, none in their places has
  none_placed : (ds : List DirectiveDefinition) (n : NameText) → list_any (λ d. same_name d.name n) ds ≡ false →
      All (λ x. DifferentNames x n) (names (map (in_place_of own) ds))
  none_placed [] n none = All-nil (λ x. DifferentNames x n)
  none_placed (d ∷ ds) n none = by (same_name d.name n) refl none (none_placed ds n) where
    by : (b : Bool) → same_name d.name n ≡ b → (b || list_any (λ d. same_name d.name n) ds) ≡ false →
        (list_any (λ d. same_name d.name n) ds ≡ false → All (λ x. DifferentNames x n) (names (map (in_place_of own) ds))) →
        All (λ x. DifferentNames x n) (names (map (in_place_of own) (d ∷ ds)))
    by true same none behind = absurd (let no : ⊥ = cc in no)
    by false other none behind = All-cons (λ x. DifferentNames x n) (in_place_of own d).name (names (map (in_place_of own) ds)) (place_named d n ∙ other) (behind none)

-- one more from which all differ
apart_more : (xs ys : List NameText) (y : NameText) → All (λ x. DifferentNames x y) xs → AreApart xs ys → AreApart xs (y ∷ ys)
apart_more [] ys y differ apart = All-nil (λ x. All (DifferentNames x) (y ∷ ys))
apart_more (x ∷ xs) ys y differ apart =
    All-cons (λ x. All (DifferentNames x) (y ∷ ys)) x xs
    (All-cons (DifferentNames x) y ys (All-head (λ x. DifferentNames x y) x xs differ) (All-head (λ x. All (DifferentNames x) ys) x xs apart))
    (apart_more xs ys y (All-tail (λ x. DifferentNames x y) x xs differ) (All-tail (λ x. All (DifferentNames x) ys) x xs apart))

none_apart : (xs : List NameText) → AreApart xs []
none_apart [] = All-nil (λ x. All (DifferentNames x) [])
none_apart (x ∷ xs) = All-cons (λ x. All (DifferentNames x) []) x xs (All-nil (DifferentNames x)) (none_apart xs)

module _ (p : DirectiveDefinition → Bool) where
  all_passing : (P : NameText → Type 0) (ds : List DirectiveDefinition) → All P (names ds) → All P (names (filter p ds))
  all_passing P [] all = all
  all_passing P (d ∷ ds) all = by (p d) (all_passing P ds (All-tail P d.name (names ds) all)) where
    by : (b : Bool) → All P (names (filter p ds)) → All P (names (cond b (d ∷ filter p ds) (filter p ds)))
    by true behind = All-cons P d.name (names (filter p ds)) (All-head P d.name (names ds) all) behind
    by false behind = behind

  passing_distinct : (ds : List DirectiveDefinition) → AreDistinct (names ds) → AreDistinct (names (filter p ds))
  passing_distinct [] h = h
  passing_distinct (d ∷ ds) h = by (p d) (passing_distinct ds (distinct_tail d.name (names ds) h)) where
    by : (b : Bool) → AreDistinct (names (filter p ds)) → AreDistinct (names (cond b (d ∷ filter p ds) (filter p ds)))
    by true behind =
        AllPairs-cons DifferentNames d.name (names (filter p ds)) (all_passing (DifferentNames d.name) ds (distinct_head d.name (names ds) h)) behind
    by false behind = behind

-- those of texts that are left differ from those in the places of the built-in ones
left_apart : (built_in own ds : List DirectiveDefinition) →
    AreApart (names (map (in_place_of own) built_in)) (names (filter (λ o. not (list_any (λ d. same_name d.name o.name) built_in)) ds))
left_apart built_in own [] = none_apart (names (map (in_place_of own) built_in))
left_apart built_in own (o ∷ os) = by (list_any (λ (d : DirectiveDefinition). same_name d.name o.name) built_in) refl (left_apart built_in own os) where
  by : (b : Bool) → list_any (λ (d : DirectiveDefinition). same_name d.name o.name) built_in ≡ b →
      AreApart (names (map (in_place_of own) built_in)) (names (filter (λ o. not (list_any (λ d. same_name d.name o.name) built_in)) os)) →
      AreApart (names (map (in_place_of own) built_in))
      (names (cond (not b) (o ∷ filter (λ o. not (list_any (λ d. same_name d.name o.name) built_in)) os) (filter (λ o. not (list_any (λ d. same_name d.name o.name) built_in)) os)))
  by true some behind = behind
  by false none behind =
      apart_more (names (map (in_place_of own) built_in)) (names (filter (λ o. not (list_any (λ d. same_name d.name o.name) built_in)) os)) o.name
      (none_placed own built_in o.name none) behind

pub said_distinct : (built_in own : List DirectiveDefinition) → AreDistinct (names built_in) → AreDistinct (names own) → AreDistinct (names (directives_with built_in own))
said_distinct built_in own b o =
    let is_new = λ (o : DirectiveDefinition). not (list_any (λ (d : DirectiveDefinition). same_name d.name o.name) built_in) in
    subst AreDistinct (sym (map-append (λ d. d.name) (map (in_place_of own) built_in) (filter is_new own)))
    (distinct_then (names (map (in_place_of own) built_in)) (names (filter is_new own)) (record {
      first = placed_distinct own built_in b;
      second = passing_distinct is_new own o;
      apart = left_apart built_in own own;
    }))
