-- Definitions that are numbered from a number on.
use Rattle.std.proofs.Common.{◌≡◌, ℕ, ◌+◌, ◌<◌, List, [], ◌∷◌, ◌++◌, Option, length, get_or, take, sym, ◌∙◌, ap, arith}
use Rattle.std.specs.Prelude.{filter_map}
use Rattle.std.proofs.lemmas.List.{length-append, length-take-le}
use Rattle.std.proofs.lemmas.List.Elements.{filter_map-append}
use Rattle.graphql_documents.proofs.ListLemmas.{more_is}
use Rattle.graphql_trees.specs.declared.documents.Definition.{Definition}
use Rattle.graphql_schema_building.specs.Numbered.{AreNumbered, schema_originated}
use Rattle.graphql_schema_building.specs.Parts.{as_schema_extension, as_type_extension, numbered_from, schema_extension_parts, type_extension_parts}
use Rattle.graphql_schema_building.specs.TypeParts.{originated}
use Rattle.graphql_schema_building.specs.declared.numbered.NumberedExtensions.{NumberedExtensions}

-- the numbers go on behind a list
pub numbered_then : (n : ℕ) (xs ys : List Definition) → numbered_from n (xs ++ ys) ≡ numbered_from n xs ++ numbered_from (n + length xs) ys
numbered_then n [] ys = ap (λ k. numbered_from k ys) (let e : n ≡ n + length {A = Definition} [] = omega arith in e)
numbered_then n (x ∷ xs) ys =
    ap (λ l. (n, x) ∷ l)
    (numbered_then (n + 1) xs ys ∙
    ap (λ k. numbered_from (n + 1) xs ++ numbered_from k ys) (let e : n + 1 + length xs ≡ n + length (x ∷ xs) = omega arith in e))

module _ {T : Type 0} (h : ℕ × Definition → Option T) (n : ℕ) where
  -- what is kept of a list with more behind it
  pub kept_then : (xs ys : List Definition) →
      filter_map h (numbered_from n (xs ++ ys)) ≡ filter_map h (numbered_from n xs) ++ filter_map h (numbered_from (n + length xs) ys)
  kept_then xs ys = ap (filter_map h) (numbered_then n xs ys) ∙ filter_map-append h (numbered_from n xs) (numbered_from (n + length xs) ys)

  -- and with one definition more
  pub kept_more : (xs : List Definition) (i : ℕ) (x : Definition) → i < length xs → x ≡ get_or xs i x →
      filter_map h (numbered_from n (take (i + 1) xs)) ≡ filter_map h (numbered_from n (take i xs)) ++ filter_map h ((n + i, x) ∷ [])
  kept_more xs i x within item =
      let all : length (take i xs) ≡ i = length-take-le i xs (omega arith) in
      ap (λ l. filter_map h (numbered_from n l)) (more_is xs i x within item) ∙ kept_then (take i xs) (x ∷ []) ∙
      ap (λ k. filter_map h (numbered_from n (take i xs)) ++ filter_map h ((n + k, x) ∷ [])) all

-- extensions with those of more definitions
pub numbered_with : (before added : List Definition) (old new : NumberedExtensions) → AreNumbered before old →
    new.passed ≡ old.passed + length added →
    originated new.types.items ≡ originated old.types.items ++ filter_map as_type_extension (numbered_from old.passed added) →
    schema_originated new.schemas.items ≡ schema_originated old.schemas.items ++ filter_map as_schema_extension (numbered_from old.passed added) →
    AreNumbered (before ++ added) new
numbered_with before added old new n passed types schemas = record {
  all_passed = passed ∙ ap (λ k. k + length added) n.all_passed ∙ sym (length-append before added);
  types_are =
      types ∙ ap (λ l. l ++ filter_map as_type_extension (numbered_from old.passed added)) n.types_are ∙
      ap (λ k. type_extension_parts before ++ filter_map as_type_extension (numbered_from k added)) (n.all_passed ∙ from_zero before) ∙
      sym (kept_then as_type_extension 0 before added);
  schemas_are =
      schemas ∙ ap (λ l. l ++ filter_map as_schema_extension (numbered_from old.passed added)) n.schemas_are ∙
      ap (λ k. schema_extension_parts before ++ filter_map as_schema_extension (numbered_from k added)) (n.all_passed ∙ from_zero before) ∙
      sym (kept_then as_schema_extension 0 before added);
} where
  from_zero : (xs : List Definition) → length xs ≡ 0 + length xs
  from_zero xs = omega arith
