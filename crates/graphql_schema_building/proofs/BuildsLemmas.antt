-- Where the definitions make a schema, nothing of a type is there twice.
use Rattle.std.proofs.Common.{◌≡◌, ℕ, zero, suc, ◌+◌, List, [], ◌∷◌, ◌++◌, Bool, true, false, cond, ◌⊎◌, inl, inr, refl, sym, ◌∙◌, ap, subst, map, All, arith}
use Rattle.std.specs.Prelude.{filter, filter_map, flat_map}
use Rattle.std.proofs.lemmas.List.{map-append}
use Rattle.std.proofs.lemmas.List.Elements.{All-append, All-cons, All-head, All-nil, All-tail}
use Rattle.std.proofs.lemmas.List.Kept.{AllPairs-cons}
use Rattle.graphql_nodes.specs.Names.{AreDistinct, DifferentNames, NameText}
use Rattle.graphql_documents.specs.declared.documents.components.ComponentOrigin.{ComponentOrigin}
use Rattle.graphql_trees.specs.declared.documents.Definition.TheVariants as definition
use Rattle.graphql_trees.specs.declared.documents.Definition.{Definition}
use Rattle.graphql_trees.specs.declared.type_system.TypeDefinition.TheVariants.{Object, Interface, Union, Enum, InputObject}
use Rattle.graphql_trees.specs.declared.type_system.TypeDefinition.{TypeDefinition}
use Rattle.graphql_schema_checking.specs.Definitions.{extends, interface_names, member_names, parts_of, type_extensions}
use Rattle.graphql_schema_checking.specs.SchemaBuilds.{HasDistinctParts}
use Rattle.graphql_schema_building.specs.Parts.{Originated, as_type_extension, listed_by, numbered_from, type_extension_parts, type_parts, written_names}
use Rattle.graphql_schema_building.specs.TypesSay.{PartsAreDistinct, written_fields, written_input_fields, written_members, written_values}

-- distinct names, first and rest
pub distinct_head : (x : NameText) (xs : List NameText) → AreDistinct (x ∷ xs) → All (DifferentNames x) xs
distinct_head x xs h = λ k d within. h zero (suc k) d (omega arith) (omega arith)

pub distinct_tail : (x : NameText) (xs : List NameText) → AreDistinct (x ∷ xs) → AreDistinct xs
distinct_tail x xs h = λ i j d lt within. h (suc i) (suc j) d (omega arith) (omega arith)

-- each of one list differs from each of another
abbrev pub AreApart : List NameText → List NameText → Type 0
AreApart xs ys = All (λ x. All (DifferentNames x) ys) xs

pub record AreDistinctParts (xs ys : List NameText) : Type 0 where
  pub first : AreDistinct xs
  pub second : AreDistinct ys
  pub apart : AreApart xs ys

pub distinct_then : (xs ys : List NameText) → AreDistinctParts xs ys → AreDistinct (xs ++ ys)
distinct_then [] ys p = p.second
distinct_then (x ∷ xs) ys p =
    AllPairs-cons DifferentNames x (xs ++ ys)
    (All-append (DifferentNames x) xs ys (distinct_head x xs p.first) (All-head (λ x. All (DifferentNames x) ys) x xs p.apart))
    (distinct_then xs ys (record {
      first = distinct_tail x xs p.first;
      second = p.second;
      apart = All-tail (λ x. All (DifferentNames x) ys) x xs p.apart;
    }))

All-front : (P : NameText → Type 0) (xs ys : List NameText) → All P (xs ++ ys) → All P xs
All-front P [] ys all = All-nil P
All-front P (x ∷ xs) ys all = All-cons P x xs (All-head P x (xs ++ ys) all) (All-front P xs ys (All-tail P x (xs ++ ys) all))

All-behind : (P : NameText → Type 0) (xs ys : List NameText) → All P (xs ++ ys) → All P ys
All-behind P [] ys all = all
All-behind P (x ∷ xs) ys all = All-behind P xs ys (All-tail P x (xs ++ ys) all)

distinct_both : (xs ys : List NameText) → AreDistinct (xs ++ ys) → AreDistinctParts xs ys
distinct_both [] ys h = record {
  first = λ i j d lt within. absurd (omega arith);
  second = h;
  apart = All-nil (λ x. All (DifferentNames x) ys);
}
distinct_both (x ∷ xs) ys h =
    let head = distinct_head x (xs ++ ys) h in
    let rest = distinct_both xs ys (distinct_tail x (xs ++ ys) h) in
    record {
      first = AllPairs-cons DifferentNames x xs (All-front (DifferentNames x) xs ys head) rest.first;
      second = rest.second;
      apart = All-cons (λ x. All (DifferentNames x) ys) x xs (All-behind (DifferentNames x) xs ys head) rest.apart;
    }

-- of each type all names that the second function lists, or none
module _ (f g : TypeDefinition → List NameText) (choice : (d : TypeDefinition) → (f d ≡ g d) ⊎ (f d ≡ [])) where
  all_fewer : (P : NameText → Type 0) (ds : List TypeDefinition) → All P (flat_map g ds) → All P (flat_map f ds)
  all_fewer P [] all = All-nil P
  all_fewer P (d ∷ ds) all =
      let rest = all_fewer P ds (All-behind P (g d) (flat_map g ds) all) in
      elim (choice d) [
        | inl e ↦ subst (λ l. All P (l ++ flat_map f ds)) (sym e) (All-append P (g d) (flat_map f ds) (All-front P (g d) (flat_map g ds) all) rest)
        | inr e ↦ subst (λ l. All P (l ++ flat_map f ds)) (sym e) rest
      ]

  apart_fewer : (xs : List NameText) (ds : List TypeDefinition) → AreApart xs (flat_map g ds) → AreApart xs (flat_map f ds)
  apart_fewer [] ds all = All-nil (λ x. All (DifferentNames x) (flat_map f ds))
  apart_fewer (x ∷ xs) ds all =
      All-cons (λ x. All (DifferentNames x) (flat_map f ds)) x xs
      (all_fewer (DifferentNames x) ds (All-head (λ x. All (DifferentNames x) (flat_map g ds)) x xs all))
      (apart_fewer xs ds (All-tail (λ x. All (DifferentNames x) (flat_map g ds)) x xs all))

  distinct_fewer : (ds : List TypeDefinition) → AreDistinct (flat_map g ds) → AreDistinct (flat_map f ds)
  distinct_fewer [] h = h
  distinct_fewer (d ∷ ds) h =
      let p = distinct_both (g d) (flat_map g ds) h in
      let rest = distinct_fewer ds p.second in
      elim (choice d) [
        | inl e ↦ subst (λ l. AreDistinct (l ++ flat_map f ds)) (sym e)
            (distinct_then (g d) (flat_map f ds) (record { first = p.first; second = rest; apart = apart_fewer (g d) ds p.apart }))
        | inr e ↦ subst (λ l. AreDistinct (l ++ flat_map f ds)) (sym e) rest
      ]

-- what each kind writes are its members, or nothing
field_choice : (d : TypeDefinition) → (map (λ x. x.name) (written_fields d) ≡ member_names d) ⊎ (map (λ x. x.name) (written_fields d) ≡ [])
field_choice (Object d) = inl refl
field_choice (Interface d) = inl refl
field_choice _ = inr refl

input_field_choice : (d : TypeDefinition) → (map (λ x. x.name) (written_input_fields d) ≡ member_names d) ⊎ (map (λ x. x.name) (written_input_fields d) ≡ [])
input_field_choice (InputObject d) = inl refl
input_field_choice _ = inr refl

value_choice : (d : TypeDefinition) → (map (λ x. x.name) (written_values d) ≡ member_names d) ⊎ (map (λ x. x.name) (written_values d) ≡ [])
value_choice (Enum d) = inl refl
value_choice _ = inr refl

same_names : (names : List NameText) → map (λ n. n) names ≡ names
same_names [] = refl
same_names (n ∷ ns) = ap (λ l. n ∷ l) (same_names ns)

member_choice : (d : TypeDefinition) → (map (λ n. n) (written_members d) ≡ member_names d) ⊎ (map (λ n. n) (written_members d) ≡ [])
member_choice (Union d) = inl (same_names d.members)
member_choice _ = inr refl

interface_choice : (d : TypeDefinition) → (map (λ n. n) (interface_names d) ≡ interface_names d) ⊎ (map (λ n. n) (interface_names d) ≡ [])
interface_choice d = inl (same_names (interface_names d))

-- parts without their origins
plain_filter : (p : TypeDefinition → Bool) (parts : List (Originated TypeDefinition)) → map (λ x. x.1) (filter (λ x. p x.1) parts) ≡ filter p (map (λ x. x.1) parts)
plain_filter p [] = refl
plain_filter p (x ∷ xs) = by (p x.1) (plain_filter p xs) where
  by : (b : Bool) → map (λ x. x.1) (filter (λ x. p x.1) xs) ≡ filter p (map (λ x. x.1) xs) →
      map (λ x. x.1) (cond b (x ∷ filter (λ x. p x.1) xs) (filter (λ x. p x.1) xs)) ≡ cond b (x.1 ∷ filter p (map (λ x. x.1) xs)) (filter p (map (λ x. x.1) xs))
  by true behind = ap (λ l. x.1 ∷ l) behind
  by false behind = behind

plain_extensions : (n : ℕ) (definitions : List Definition) → map (λ x. x.1) (filter_map as_type_extension (numbered_from n definitions)) ≡ type_extensions definitions
plain_extensions n [] = refl
plain_extensions n (definition.TypeExtension e ∷ ds) = ap (λ l. e ∷ l) (plain_extensions (n + 1) ds)
plain_extensions n (definition.Operation d ∷ ds) = plain_extensions (n + 1) ds
plain_extensions n (definition.Fragment d ∷ ds) = plain_extensions (n + 1) ds
plain_extensions n (definition.Schema d ∷ ds) = plain_extensions (n + 1) ds
plain_extensions n (definition.Type d ∷ ds) = plain_extensions (n + 1) ds
plain_extensions n (definition.Directive d ∷ ds) = plain_extensions (n + 1) ds
plain_extensions n (definition.SchemaExtension d ∷ ds) = plain_extensions (n + 1) ds

plain_parts : (definitions : List Definition) (d : TypeDefinition) → map (λ x. x.1) (type_parts definitions d) ≡ parts_of definitions d
plain_parts definitions d =
    ap (λ l. d ∷ l) (plain_filter (extends d) (type_extension_parts definitions) ∙ ap (filter (extends d)) (plain_extensions 0 definitions))

-- the names of what parts list
module _ {X : Type 0} (name_of : X → NameText) (items : TypeDefinition → List X) where
  tagged : (origin : ComponentOrigin) (xs : List X) → written_names name_of (map (λ x. (origin, x)) xs) ≡ map name_of xs
  tagged origin [] = refl
  tagged origin (x ∷ xs) = ap (λ l. name_of x ∷ l) (tagged origin xs)

  names_listed : (parts : List (Originated TypeDefinition)) → written_names name_of (listed_by items parts) ≡ flat_map (λ d. map name_of (items d)) (map (λ x. x.1) parts)
  names_listed [] = refl
  names_listed (p ∷ ps) =
      map-append (λ x. name_of x.1) (map (λ x. let o : Originated X = (p.0, x) in o) (items p.1)) (listed_by items ps) ∙
      ap (λ l. l ++ written_names name_of (listed_by items ps)) (tagged p.0 (items p.1)) ∙
      ap (λ l. map name_of (items p.1) ++ l) (names_listed ps)

  listed_of : (g : TypeDefinition → List NameText) → ((d : TypeDefinition) → (map name_of (items d) ≡ g d) ⊎ (map name_of (items d) ≡ [])) →
      (definitions : List Definition) (d : TypeDefinition) → AreDistinct (flat_map g (parts_of definitions d)) →
      AreDistinct (written_names name_of (listed_by items (type_parts definitions d)))
  listed_of g choice definitions d distinct =
      subst AreDistinct (sym (names_listed (type_parts definitions d) ∙ ap (flat_map (λ d. map name_of (items d))) (plain_parts definitions d)))
      (distinct_fewer (λ d. map name_of (items d)) g choice (parts_of definitions d) distinct)

pub parts_are_distinct : (definitions : List Definition) (d : TypeDefinition) → HasDistinctParts definitions d → PartsAreDistinct (type_parts definitions d)
parts_are_distinct definitions d h = record {
  interfaces = listed_of (λ n. n) interface_names interface_names interface_choice definitions d h.interfaces;
  fields = listed_of (λ x. x.name) written_fields member_names field_choice definitions d h.members;
  members = listed_of (λ n. n) written_members member_names member_choice definitions d h.members;
  values = listed_of (λ x. x.name) written_values member_names value_choice definitions d h.members;
  input_fields = listed_of (λ x. x.name) written_input_fields member_names input_field_choice definitions d h.members;
}
