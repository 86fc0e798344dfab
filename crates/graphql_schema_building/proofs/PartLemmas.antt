-- Parts that are built one after another.
use Rattle.std.proofs.Common.{◌≡◌, ℕ, ◌+◌, ◌<◌, List, [], ◌∷◌, ◌++◌, length, get_or, take, map, refl, sym, ◌∙◌, ap, subst}
use Rattle.std.specs.List.{AllZip}
use Rattle.std.proofs.lemmas.List.{append_assoc, map-append}
use Rattle.graphql_documents.proofs.ListLemmas.{more_is}
use Rattle.graphql_nodes.specs.declared.nodes.Node.{Node}
use Rattle.graphql_documents.specs.declared.documents.components.Component.{Component}
use Rattle.graphql_documents.specs.declared.documents.components.ComponentOrigin.{ComponentOrigin}
use Rattle.graphql_nodes.specs.Names.{NameText}
use Rattle.graphql_schema_building.specs.Parts.{ComponentsSay, EntriesSay, Originated}

-- lists that agree place by place, with more lists that do behind them
pub zip_then : {A B : Type 0} (R : A → B → Type 0) (xs xs' : List A) (ys ys' : List B) →
    AllZip R xs ys → AllZip R xs' ys' → AllZip R (xs ++ xs') (ys ++ ys')
zip_then R [] xs' [] ys' a b = b
zip_then R [] xs' (y ∷ ys) ys' a b = absurd a
zip_then R (x ∷ xs) xs' [] ys' a b = absurd a
zip_then R (x ∷ xs) xs' (y ∷ ys) ys' a b = (a.0, zip_then R xs xs' ys ys' a.1 b)

-- what nodes say, components of one origin say
pub with_origin : {X Y : Type 0} (Says : X → Node Y → Type 0) (origin : ComponentOrigin) (xs : List X) (ys : List (Node Y)) →
    AllZip Says xs ys → ComponentsSay Says (map (λ x. (origin, x)) xs) (map (λ node. record { origin = origin; node = node }) ys)
with_origin Says origin [] [] all = tt
with_origin Says origin [] (y ∷ ys) all = absurd all
with_origin Says origin (x ∷ xs) [] all = absurd all
with_origin Says origin (x ∷ xs) (y ∷ ys) all = ((refl, all.0), with_origin Says origin xs ys all.1)

-- one of a part more
pub part_more : {X : Type 0} (origin : ComponentOrigin) (written : List (Originated X)) (xs : List X) (i : ℕ) (x : X) → i < length xs → x ≡ get_or xs i x →
    (written ++ map (λ x. (origin, x)) (take i xs)) ++ (origin, x) ∷ [] ≡ written ++ map (λ x. (origin, x)) (take (i + 1) xs)
part_more {X} origin written xs i x within item =
    let tag = λ (x : X). let p : Originated X = (origin, x) in p in
    append_assoc written (map tag (take i xs)) ((origin, x) ∷ []) ∙
    ap (λ l. written ++ l) (sym (map-append tag (take i xs) (x ∷ [])) ∙ ap (map tag) (sym (more_is xs i x within item)))

pub components_then : {X Y : Type 0} (Says : X → Node Y → Type 0) (xs xs' : List (Originated X)) (ys ys' : List (Component Y)) →
    ComponentsSay Says xs ys → ComponentsSay Says xs' ys' → ComponentsSay Says (xs ++ xs') (ys ++ ys')
components_then Says xs xs' ys ys' a b = zip_then (λ x c. (c.origin ≡ x.0) × Says x.1 c.node) xs xs' ys ys' a b

-- one entry more
pub entry_more : {X Y : Type 0} (name_of : X → NameText) (Says : X → Node Y → Type 0) (origin : ComponentOrigin) (written : List (Originated X))
    (entries new : List (NameText × Component Y)) (x : X) (k : NameText) (node : Node Y) →
    EntriesSay name_of Says written entries → k ≡ name_of x → Says x node → new ≡ entries ++ (k, record { origin = origin; node = node }) ∷ [] →
    EntriesSay name_of Says (written ++ (origin, x) ∷ []) new
entry_more name_of Says origin written entries new x k node s named says is =
    subst (λ l. EntriesSay name_of Says (written ++ (origin, x) ∷ []) l) (sym is)
    (zip_then (λ x e. (e.0 ≡ name_of x.1) × (e.1.origin ≡ x.0) × Says x.1 e.1.node) written ((origin, x) ∷ []) entries
    ((k, record { origin = origin; node = node }) ∷ []) s ((named, refl, says), tt))
