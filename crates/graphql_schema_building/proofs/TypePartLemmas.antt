-- What the parts of a type list, one part after another.
use Rattle.std.proofs.Common.{◌≡◌, ℕ, ◌+◌, ◌<◌, List, [], ◌∷◌, ◌++◌, length, get_or, take, map, sym, ◌∙◌, ap}
use Rattle.std.specs.Prelude.{flat_map}
use Rattle.std.proofs.lemmas.Grind.{flat_map-append}
use Rattle.std.proofs.lemmas.List.{append-nil, map-append}
use Rattle.graphql_documents.proofs.ListLemmas.{more_is}
use Rattle.graphql_trees.specs.declared.type_system.TypeDefinition.{TypeDefinition}
use Rattle.graphql_schema_building.specs.Parts.{Originated, listed_by}
use Rattle.graphql_schema_building.specs.TypeParts.{originated}
use Rattle.graphql_schema_building.specs.declared.types.TypePart.{TypePart}

pub part_listed : {X : Type 0} (items : TypeDefinition → List X) (parts : List TypePart) (i : ℕ) (part : TypePart) → i < length parts → part ≡ get_or parts i part →
    listed_by items (originated (take i parts)) ++ map (λ x. (part.origin, x)) (items part.definition.now) ≡ listed_by items (originated (take (i + 1) parts))
part_listed {X} items parts i part within item =
    let tag = λ (p : TypePart). let o : Originated TypeDefinition = (p.origin, p.definition.now) in o in
    let one = λ (p : Originated TypeDefinition). map (λ x. let o : Originated X = (p.0, x) in o) (items p.1) in
    ap (λ l. listed_by items (originated (take i parts)) ++ l) (sym (append-nil (one (tag part)))) ∙
    sym (flat_map-append one (map tag (take i parts)) (tag part ∷ [])) ∙
    ap (flat_map one) (sym (map-append tag (take i parts) (part ∷ [])) ∙ ap (map tag) (sym (more_is parts i part within item)))
