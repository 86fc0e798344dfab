-- What stands first, and the parts of the schema one after another.
use Rattle.std.proofs.Common.{◌≡◌, ℕ, ◌+◌, ◌<◌, List, [], ◌∷◌, ◌++◌, Some, None, length, get_or, take, drop, refl, sym, ◌∙◌, ap, map}
use Rattle.std.specs.Prelude.{Err, IfOk, Ok, Result, filter, flat_map}
use Rattle.std.specs.Option.{option_map, option_or}
use Rattle.std.proofs.lemmas.Grind.{flat_map-append}
use Rattle.std.proofs.lemmas.List.{append-nil, map-append}
use Rattle.std.proofs.lemmas.List.Elements.{filter-append}
use Rattle.graphql_nodes.specs.Names.{NameText}
use Rattle.graphql_documents.proofs.ListLemmas.{more_is}
use Rattle.graphql_variables.proofs.SplitLemmas.{split_at}
use Rattle.graphql_documents.specs.declared.documents.components.ComponentName.{ComponentName}
use Rattle.graphql_nodes.specs.declared.operation_types.OperationType.{OperationType}
use Rattle.graphql_trees.specs.declared.type_system.RootOperationTypeDefinition.{RootOperationTypeDefinition}
use Rattle.graphql_trees.specs.declared.type_system.SchemaDefinition.{SchemaDefinition}
use Rattle.graphql_schema_checking.specs.SchemaBuilds.{roots_of_kind, same_operation}
use Rattle.graphql_schema_building.specs.Numbered.{schema_originated}
use Rattle.graphql_schema_building.specs.Parts.{Originated, listed_by, names_said}
use Rattle.graphql_schema_building.specs.SchemaSays.{first_of_list}
use Rattle.graphql_schema_building.specs.declared.numbered.SchemaPart.{SchemaPart}

-- what two clauses say of an answer
pub both_ok : {T E : Type 0} (r : Result T E) (P Q R : T → Type 0) → ((x : T) → P x → Q x → R x) → IfOk r P → IfOk r Q → IfOk r R
both_ok (Ok x) P Q R f p q = f x p q
both_ok (Err e) P Q R f p q = tt

-- what stands first in two lists one after another
pub first_then : {T : Type 0} (xs ys : List T) → first_of_list (xs ++ ys) ≡ option_or (first_of_list xs) (first_of_list ys)
first_then [] ys = refl
first_then (x ∷ xs) ys = refl

pub first_mapped : {X Y : Type 0} (f : X → Y) (xs : List X) → first_of_list (map f xs) ≡ option_map f (first_of_list xs)
first_mapped f [] = refl
first_mapped f (x ∷ xs) = refl

-- where nothing stands before, and something does here, that is the first
module _ {X Y : Type 0} (g : List X → List Y) (then : (xs ys : List X) → g (xs ++ ys) ≡ g xs ++ g ys)
    (xs : List X) (i : ℕ) (x : X) (within : i < length xs) (item : x ≡ get_or xs i x) where
  pub first_here : (y : Y) → first_of_list (g (take i xs)) ≡ None → first_of_list (g (x ∷ [])) ≡ Some y → first_of_list (g xs) ≡ Some y
  first_here y none some =
      let behind = drop (i + 1) xs in
      ap (λ l. first_of_list (g l)) (split_at xs i x within item) ∙
      ap first_of_list (then (take i xs) (x ∷ behind)) ∙
      first_then (g (take i xs)) (g (x ∷ behind)) ∙
      ap (λ o. option_or o (first_of_list (g (x ∷ behind)))) none ∙
      ap first_of_list (then (x ∷ []) behind) ∙
      first_then (g (x ∷ [])) (g behind) ∙
      ap (λ o. option_or o (first_of_list (g behind))) some

  pub first_later : first_of_list (g (take i xs)) ≡ None → first_of_list (g (x ∷ [])) ≡ None → first_of_list (g (take (i + 1) xs)) ≡ None
  first_later none none_here =
      ap (λ l. first_of_list (g l)) (more_is xs i x within item) ∙
      ap first_of_list (then (take i xs) (x ∷ [])) ∙
      first_then (g (take i xs)) (g (x ∷ [])) ∙
      ap (λ o. option_or o (first_of_list (g (x ∷ [])))) none ∙ none_here

-- roots of a kind, and what parts list, of lists one after another
pub roots_then : (operation : OperationType) (xs ys : List RootOperationTypeDefinition) →
    roots_of_kind operation (xs ++ ys) ≡ roots_of_kind operation xs ++ roots_of_kind operation ys
roots_then operation xs ys =
    let p = λ (root : RootOperationTypeDefinition). same_operation root.operation_type operation in
    ap (map (λ root. root.name)) (filter-append p xs ys) ∙ map-append (λ root. root.name) (filter p xs) (filter p ys)

pub listed_then : {X : Type 0} (items : SchemaDefinition → List X) (xs ys : List SchemaPart) →
    listed_by items (schema_originated (xs ++ ys)) ≡ listed_by items (schema_originated xs) ++ listed_by items (schema_originated ys)
listed_then {X} items xs ys =
    let one = λ (p : Originated SchemaDefinition). map (λ x. let o : Originated X = (p.0, x) in o) (items p.1) in
    ap (listed_by items) (map-append (λ p. (p.origin, p.definition.now)) xs ys) ∙ flat_map-append one (schema_originated xs) (schema_originated ys)

-- what one part lists first
pub one_listed : {X : Type 0} (items : SchemaDefinition → List X) (part : SchemaPart) →
    first_of_list (listed_by items (schema_originated (part ∷ []))) ≡ option_map (λ x. (part.origin, x)) (first_of_list (items part.definition.now))
one_listed {X} items part =
    let tag = λ (x : X). let o : Originated X = (part.origin, x) in o in
    ap first_of_list (append-nil (map tag (items part.definition.now))) ∙ first_mapped tag (items part.definition.now)

-- what the parts of the schema list, with one part more
pub schema_listed : {X : Type 0} (items : SchemaDefinition → List X) (parts : List SchemaPart) (i : ℕ) (part : SchemaPart) → i < length parts → part ≡ get_or parts i part →
    listed_by items (schema_originated (take i parts)) ++ map (λ x. (part.origin, x)) (items part.definition.now) ≡ listed_by items (schema_originated (take (i + 1) parts))
schema_listed {X} items parts i part within item =
    let tag = λ (p : SchemaPart). let o : Originated SchemaDefinition = (p.origin, p.definition.now) in o in
    let one = λ (p : Originated SchemaDefinition). map (λ x. let o : Originated X = (p.0, x) in o) (items p.1) in
    ap (λ l. listed_by items (schema_originated (take i parts)) ++ l) (sym (append-nil (one (tag part)))) ∙
    sym (flat_map-append one (map tag (take i parts)) (tag part ∷ [])) ∙
    ap (flat_map one) (sym (map-append tag (take i parts) (part ∷ [])) ∙ ap (map tag) (sym (more_is parts i part within item)))

-- a name, as the schema has it
abbrev pub as_said : Originated NameText → ComponentName
as_said x = record { origin = x.0; name = x.1 }

-- roots that are implied come before those that are named
pub roots_from : (implied listed : List (Originated NameText)) →
    first_of_list (names_said (implied ++ listed)) ≡ option_or (first_of_list (names_said implied)) (first_of_list (names_said listed))
roots_from implied listed = ap first_of_list (map-append as_said implied listed) ∙ first_then (names_said implied) (names_said listed)
