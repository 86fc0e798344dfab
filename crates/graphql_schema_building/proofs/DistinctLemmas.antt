-- Lists of things whose names are distinct.
use Rattle.std.proofs.Common.{◌≡◌, ℕ, ◌+◌, ◌<◌, List, [], ◌∷◌, ◌++◌, Bool, true, false, cond, None, Some, length, get_or, take, drop, refl, sym, ◌∙◌, ap, subst, map, find}
use Rattle.std.specs.Prelude.{◌||◌, flat_map}
use Rattle.std.specs.List.{AllZip, list_any}
use Rattle.std.specs.Map.{lookup}
use Rattle.std.proofs.lemmas.Grind.{flat_map-append}
use Rattle.std.proofs.lemmas.List.{append-nil, append_assoc, map-append, take-append-drop}
use Rattle.graphql_nodes.specs.Names.{AreDistinct, NameText, same_name}
use Rattle.graphql_nodes.specs.declared.nodes.Node.{Node}
use Rattle.graphql_documents.proofs.ImplementerLemmas.{same_swapped}
use Rattle.graphql_variables.proofs.FirstPlaceLemmas.{distinct_names_more}
use Rattle.graphql_documents.specs.declared.documents.components.Component.{Component}
use Rattle.graphql_documents.specs.declared.documents.components.ComponentName.{ComponentName}
use Rattle.graphql_documents.specs.declared.documents.components.ComponentOrigin.{ComponentOrigin}
use Rattle.graphql_trees.specs.declared.type_system.TypeDefinition.{TypeDefinition}
use Rattle.graphql_schema_building.specs.Parts.{EntriesSay, Originated, listed_by, names_said, written_names}
use Rattle.graphql_schema_building.specs.TypeParts.{originated}
use Rattle.graphql_schema_building.specs.declared.types.TypePart.{TypePart}
use Rattle.graphql_schema_building.proofs.PartLemmas.{part_more}
use Rattle.graphql_schema_building.proofs.TypePartLemmas.{part_listed}

module _ {X : Type 0} (name_of : X → NameText) where
  -- those in front are distinct too
  pub distinct_front : (xs ys : List X) → AreDistinct (map name_of (xs ++ ys)) → AreDistinct (map name_of xs)
  distinct_front xs [] distinct = subst (λ l. AreDistinct (map name_of l)) (append-nil xs) distinct
  distinct_front xs (y ∷ ys) distinct =
      ((distinct_names_more name_of xs y).1
      (distinct_front (xs ++ y ∷ []) ys (subst (λ l. AreDistinct (map name_of l)) (sym (append_assoc xs (y ∷ []) ys)) distinct))).0

  -- the name of the last is new
  pub last_is_new : (xs : List X) (x : X) → AreDistinct (map name_of (xs ++ x ∷ [])) → find (λ y. same_name (name_of y) (name_of x)) xs ≡ None
  last_is_new xs x distinct = ((distinct_names_more name_of xs x).1 distinct).1

  -- entries that stand under the names have none under a new one
  pub none_there : {V : Type 0} (Q : X → NameText × V → Type 0) → ((x : X) (e : NameText × V) → Q x e → e.0 ≡ name_of x) →
      (xs : List X) (entries : List (NameText × V)) (k : NameText) → AllZip Q xs entries → find (λ x. same_name (name_of x) k) xs ≡ None → lookup (same_name k) entries ≡ None
  none_there Q named [] [] k all none = refl
  none_there Q named [] (e ∷ es) k all none = absurd all
  none_there Q named (x ∷ xs) [] k all none = absurd all
  none_there {V} Q named (x ∷ xs) (e ∷ es) k all none =
      by (same_name (name_of x) k) refl none (none_there Q named xs es k all.1)
    where
      by : (b : Bool) → same_name (name_of x) k ≡ b → cond b (Some x) (find (λ x. same_name (name_of x) k) xs) ≡ None →
          (find (λ x. same_name (name_of x) k) xs ≡ None → lookup (same_name k) es ≡ None) → lookup (same_name k) (e ∷ es) ≡ None
      by true same none behind = absurd (let no : ⊥ = cc in no)
      by false other none behind =
          let apart : same_name k e.0 ≡ false = ap (same_name k) (named x e all.0) ∙ same_swapped k (name_of x) ∙ other in
          rw apart (behind none)

-- what was written has distinct names: so has what is in front of it with one part more
pub part_distinct : {X : Type 0} (name_of : X → NameText) (origin : ComponentOrigin) (written : List (Originated X)) (xs : List X) (i : ℕ) (x : X) →
    i < length xs → x ≡ get_or xs i x → AreDistinct (written_names name_of (written ++ map (λ x. (origin, x)) xs)) →
    AreDistinct (written_names name_of ((written ++ map (λ x. (origin, x)) (take i xs)) ++ (origin, x) ∷ []))
part_distinct {X} name_of origin written xs i x within item distinct =
    let tag = λ (x : X). let p : Originated X = (origin, x) in p in
    let front = written ++ map tag (take (i + 1) xs) in
    let split : written ++ map tag xs ≡ front ++ map tag (drop (i + 1) xs) =
    ap (λ l. written ++ map tag l) (sym (take-append-drop (i + 1) xs)) ∙
    ap (λ l. written ++ l) (map-append tag (take (i + 1) xs) (drop (i + 1) xs)) ∙
    sym (append_assoc written (map tag (take (i + 1) xs)) (map tag (drop (i + 1) xs))) in
    let all : AreDistinct (written_names name_of front) =
    distinct_front (λ x. name_of x.1) front (map tag (drop (i + 1) xs)) (subst (λ l. AreDistinct (written_names name_of l)) split distinct) in
    subst (λ l. AreDistinct (written_names name_of l)) (sym (part_more origin written xs i x within item)) all

-- so has what the parts list up to one more
pub listed_distinct : {X : Type 0} (name_of : X → NameText) (items : TypeDefinition → List X) (parts : List TypePart) (i : ℕ) (part : TypePart) (listed : List X) →
    i < length parts → part ≡ get_or parts i part → listed ≡ items part.definition.now →
    AreDistinct (written_names name_of (listed_by items (originated parts))) →
    AreDistinct (written_names name_of (listed_by items (originated (take i parts)) ++ map (λ x. (part.origin, x)) listed))
listed_distinct {X} name_of items parts i part listed within item is distinct =
    let tag = λ (p : TypePart). let o : Originated TypeDefinition = (p.origin, p.definition.now) in o in
    let one = λ (p : Originated TypeDefinition). map (λ x. let o : Originated X = (p.0, x) in o) (items p.1) in
    let front = listed_by items (originated (take (i + 1) parts)) in
    let behind = listed_by items (originated (drop (i + 1) parts)) in
    let split : listed_by items (originated parts) ≡ front ++ behind =
    ap (λ l. listed_by items (originated l)) (sym (take-append-drop (i + 1) parts)) ∙
    ap (flat_map one) (map-append tag (take (i + 1) parts) (drop (i + 1) parts)) ∙
    flat_map-append one (originated (take (i + 1) parts)) (originated (drop (i + 1) parts)) in
    let all : AreDistinct (written_names name_of front) =
    distinct_front (λ x. name_of x.1) front behind (subst (λ l. AreDistinct (written_names name_of l)) split distinct) in
    subst (λ l. AreDistinct (written_names name_of l))
    (sym (part_listed items parts i part within item) ∙ ap (λ l. listed_by items (originated (take i parts)) ++ map (λ x. let o : Originated X = (part.origin, x) in o) l) (sym is)) all

-- an entry under the name of the last of what was written is new
pub entry_is_new : {X Y : Type 0} (name_of : X → NameText) (Says : X → Node Y → Type 0) (written : List (Originated X)) (x : Originated X)
    (entries : List (NameText × Component Y)) (k : NameText) → k ≡ name_of x.1 →
    AreDistinct (written_names name_of (written ++ x ∷ [])) → EntriesSay name_of Says written entries → lookup (same_name k) entries ≡ None
entry_is_new {X} {Y} name_of Says written x entries k named distinct says =
    none_there (λ x. name_of x.1) (λ x e. (e.0 ≡ name_of x.1) × (e.1.origin ≡ x.0) × Says x.1 e.1.node) (λ x e q. q.0) written entries k says
    (ap (λ n. find (λ (y : Originated X). same_name (name_of y.1) n) written) named ∙ last_is_new (λ x. name_of x.1) written x distinct)

-- a name that is the last of what was written is new among those before it
pub name_is_new : (written : List (Originated NameText)) (x : Originated NameText) (k : ComponentName) → k.name ≡ x.1 →
    AreDistinct (written_names (λ n. n) (written ++ x ∷ [])) → list_any (λ m. same_name k.name m.name) (names_said written) ≡ false
name_is_new written x k named distinct =
    ap (λ n. list_any (λ m. same_name n m.name) (names_said written)) named ∙ none_said written (last_is_new (λ n. n.1) written x distinct)
  where
    none_said : (names : List (Originated NameText)) → find (λ y. same_name y.1 x.1) names ≡ None → list_any (λ m. same_name x.1 m.name) (names_said names) ≡ false
    none_said [] none = refl
    none_said (n ∷ ns) none = by (same_name n.1 x.1) refl none (none_said ns) where
      by : (b : Bool) → same_name n.1 x.1 ≡ b → cond b (Some n) (find (λ (y : Originated NameText). same_name y.1 x.1) ns) ≡ None →
          (find (λ (y : Originated NameText). same_name y.1 x.1) ns ≡ None → list_any (λ m. same_name x.1 m.name) (names_said ns) ≡ false) →
          (same_name x.1 n.1 || list_any (λ m. same_name x.1 m.name) (names_said ns)) ≡ false
      by true same none behind = absurd (let no : ⊥ = cc in no)
      by false other none behind = rw (same_swapped x.1 n.1, other) (behind none)
