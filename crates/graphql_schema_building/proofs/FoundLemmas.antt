-- Extensions and directives that are found by their names.
use Rattle.std.proofs.Common.{◌≡◌, ℕ, ◌+◌, ◌<◌, List, [], ◌∷◌, ◌++◌, Bor, Vec, Bool, true, false, cond, Option, Some, None, length, get_or, take, refl, sym, ◌∙◌, ap, map, find}
use Rattle.std.specs.Prelude.{◌&&◌, ◌||◌, filter, is_some, not}
use Rattle.std.specs.List.{list_any}
use Rattle.std.specs.Option.{option_copied, option_map_or, option_or}
use Rattle.std.specs.declared.alloc.Global.{Global}
use Rattle.std.proofs.lemmas.List.{append-nil, map-append}
use Rattle.std.proofs.lemmas.List.Elements.{filter-append}
use Rattle.std.proofs.lemmas.List.Folds.{find-append}
use Rattle.indexmap.specs.IndexMap.{IndexMap, get_by}
use Rattle.graphql_nodes.specs.Names.{NameText, same_name}
use Rattle.graphql_nodes.proofs.NameLemmas.{same_text}
use Rattle.graphql_documents.proofs.ImplementerLemmas.{same_swapped}
use Rattle.graphql_documents.proofs.ListLemmas.{more_is}
use Rattle.graphql_variables.proofs.FirstPlaceLemmas.{chosen_or, kept_or}
use Rattle.graphql_documents.specs.declared.documents.components.ComponentOrigin.TheVariants as origin
use Rattle.graphql_trees.specs.declared.type_system.DirectiveDefinition.{DirectiveDefinition}
use Rattle.graphql_trees.specs.declared.type_system.TypeDefinition.{TypeDefinition}
use Rattle.graphql_schema_checking.specs.Definitions.{kind_of, name_of, same_kind}
use Rattle.graphql_schema_building.specs.Parts.{Originated, parts_with}
use Rattle.graphql_schema_building.specs.SchemaSays.{directives_with, in_place_of}
use Rattle.graphql_schema_building.specs.Steps.{FindsFirst, FindsParts, parts_under}
use Rattle.graphql_schema_building.specs.TypeParts.{originated}
use Rattle.graphql_schema_building.specs.declared.types.TypePart.{TypePart}

-- one part more
pub originated_more : (parts : List TypePart) (i : ℕ) (part : TypePart) → i < length parts → part ≡ get_or parts i part →
    originated (take (i + 1) parts) ≡ originated (take i parts) ++ (part.origin, part.definition.now) ∷ []
originated_more parts i part within item =
    ap originated (more_is parts i part within item) ∙ map-append (λ p. (p.origin, p.definition.now)) (take i parts) (part ∷ [])

-- what passes both tests
filter_both : {X : Type 0} (p q : X → Bool) (xs : List X) → filter q (filter p xs) ≡ filter (λ x. p x && q x) xs
filter_both p q [] = refl
filter_both {X} p q (x ∷ xs) = by (p x) (filter_both p q xs) where
  by : (b : Bool) → filter q (filter p xs) ≡ filter (λ x. p x && q x) xs →
      filter q (cond b (x ∷ filter p xs) (filter p xs)) ≡ cond (b && q x) (x ∷ filter (λ x. p x && q x) xs) (filter (λ x. p x && q x) xs)
  by true behind = ap (λ l. cond (q x) (x ∷ l) l) behind
  by false behind = behind

-- the extensions of a name that are of a kind extend the type
pub parts_are : (extensions : List (Originated TypeDefinition)) (d : TypeDefinition) (named : List (Originated TypeDefinition)) →
    named ≡ filter (λ e. same_name (name_of d) (name_of e.1)) extensions →
    (origin.Definition, d) ∷ filter (λ e. same_kind (kind_of d) (kind_of e.1)) named ≡ parts_with extensions d
parts_are extensions d named is =
    ap (λ l. (origin.Definition, d) ∷ filter (λ e. same_kind (kind_of d) (kind_of e.1)) l) is ∙
    ap (λ l. (origin.Definition, d) ∷ l)
    (filter_both (λ e. same_name (name_of d) (name_of e.1)) (λ e. same_kind (kind_of d) (kind_of e.1)) extensions)

abbrev listed : Option (Vec TypePart Global) → List (Originated TypeDefinition)
listed o = option_map_or (λ v. originated v.items) o []

-- a map with one extension more
pub finds_more : {S : Type 0} {found new : IndexMap (Bor NameText) (Vec TypePart Global) S} {before : List (Originated TypeDefinition)} (n : NameText) (x : Originated TypeDefinition) (v : Vec TypePart Global) →
    n ≡ name_of x.1 → originated v.items ≡ parts_under found n ++ x ∷ [] →
    ((m : NameText) → get_by (λ b. same_name m b.now) new ≡ cond (same_name n m) (Some v) (get_by (λ b. same_name m b.now) found)) →
    FindsParts found before → FindsParts new (before ++ x ∷ [])
finds_more {S} {found} {new} {before} n x v name_is behind look f = record {
  look_up = λ m. ap listed (look m) ∙ by m (same_name n m) refl ∙ sym (filter-append (λ e. same_name m (name_of e.1)) before (x ∷ []));
} where
  passes : (m : NameText) → same_name m (name_of x.1) ≡ same_name n m
  passes m = ap (λ k. same_name m k) (sym name_is) ∙ same_swapped m n

  by : (m : NameText) (b : Bool) → same_name n m ≡ b →
      listed (cond (same_name n m) (Some v) (get_by (λ b. same_name m b.now) found)) ≡
      filter (λ e. same_name m (name_of e.1)) before ++ cond (same_name m (name_of x.1)) (x ∷ []) []
  by m true same =
      rw (passes m, same)
      (behind ∙ ap (λ l. l ++ x ∷ [])
      (f.look_up n ∙ ap (λ text. filter (λ e. same_name (record { text = text; location = None }) (name_of e.1)) before) (same_text n m same)))
  by m false other = rw (passes m, other) (f.look_up m ∙ sym (append-nil (filter (λ e. same_name m (name_of e.1)) before)))

abbrev named : List DirectiveDefinition → NameText → Option DirectiveDefinition
named directives name = find (λ d. same_name d.name name) directives

-- what is found with one directive more
named_more : (before : List DirectiveDefinition) (x : DirectiveDefinition) (name : NameText) →
    named (before ++ x ∷ []) name ≡ option_or (named before name) (cond (same_name x.name name) (Some x) None)
named_more before x name = find-append (λ (d : DirectiveDefinition). same_name d.name name) before (x ∷ [])

abbrev same_text_as : List ℕ → DirectiveDefinition → Bool
same_text_as text d = same_name d.name (record { text = text; location = None })

-- names of one text find the same
found_alike : (before : List DirectiveDefinition) (n m : NameText) → same_name n m ≡ true → named before m ≡ named before n
found_alike before n m same = ap (λ text. find (λ d. same_text_as text d) before) (sym (same_text n m same))

copied_choice : (b : Bool) (x : Bor DirectiveDefinition) (o : Option (Bor DirectiveDefinition)) → option_copied (cond b (Some x) o) ≡ cond b (Some x.now) (option_copied o)
copied_choice true x o = refl
copied_choice false x o = refl

-- a map with one directive more
pub first_with : {S : Type 0} {found new : IndexMap (Bor NameText) (Bor DirectiveDefinition) S} {before : List DirectiveDefinition} (n : NameText) (x : Bor DirectiveDefinition) →
    n ≡ x.now.name → get_by (λ b. same_name n b.now) found ≡ None →
    ((m : NameText) → get_by (λ b. same_name m b.now) new ≡ cond (same_name n m) (Some x) (get_by (λ b. same_name m b.now) found)) →
    FindsFirst found before → FindsFirst new (before ++ x.now ∷ [])
first_with {S} {found} {new} {before} n x name_is none look f = record {
  look_up = λ m.
      ap option_copied (look m) ∙ copied_choice (same_name n m) x (get_by (λ b. same_name m b.now) found) ∙
      chosen_or (same_name n m) x.now (option_copied (get_by (λ b. same_name m b.now) found))
      (λ same. f.look_up m ∙ found_alike before n m same ∙ sym (f.look_up n) ∙ ap option_copied none) ∙
      ap (λ o. option_or o (cond (same_name n m) (Some x.now) None)) (f.look_up m) ∙
      ap (λ k. option_or (named before m) (cond (same_name k m) (Some x.now) None)) name_is ∙
      sym (named_more before x.now m);
}

-- a map that has one of the name already
pub first_without : {S : Type 0} {found : IndexMap (Bor NameText) (Bor DirectiveDefinition) S} {before : List DirectiveDefinition} (x : DirectiveDefinition) →
    ¬ (named before x.name ≡ None) → FindsFirst found before → FindsFirst found (before ++ x ∷ [])
first_without {S} {found} {before} x some f = record {
  look_up = λ m.
      f.look_up m ∙
      kept_or (same_name x.name m) x (named before m) (λ same none. some (sym (found_alike before x.name m same) ∙ none)) ∙
      sym (named_more before x m);
}

-- a look-up finds something exactly where one of the name is among the directives
pub is_named : {S : Type 0} {found : IndexMap (Bor NameText) (Bor DirectiveDefinition) S} {all : List DirectiveDefinition} (name : NameText) →
    FindsFirst found all → is_some (get_by (λ b. same_name name b.now) found) ≡ list_any (λ d. same_name d.name name) all
is_named {S} {found} {all} name f =
    copied (get_by (λ b. same_name name b.now) found) ∙ ap is_some (f.look_up name) ∙ any_found (λ d. same_name d.name name) all
  where
    copied : (o : Option (Bor DirectiveDefinition)) → is_some o ≡ is_some (option_copied o)
    copied None = refl
    copied (Some x) = refl

    any_found : (p : DirectiveDefinition → Bool) (xs : List DirectiveDefinition) → is_some (find p xs) ≡ list_any p xs
    any_found p [] = refl
    any_found p (x ∷ xs) = by (p x) (any_found p xs) where
      by : (b : Bool) → is_some (find p xs) ≡ list_any p xs → is_some (cond b (Some x) (find p xs)) ≡ (b || list_any p xs)
      by true behind = refl
      by false behind = behind

abbrev others_than : List DirectiveDefinition → List DirectiveDefinition → List DirectiveDefinition
others_than built_in own = filter (λ o. not (list_any (λ d. same_name d.name o.name) built_in)) own

-- the built-in ones or what is in their places, then the others
pub all_said : (built_in own bs bs' os os' old mid new : List DirectiveDefinition) → bs ≡ built_in → bs' ≡ built_in → os ≡ own → os' ≡ own →
    old ≡ [] → mid ≡ old ++ map (in_place_of os) bs → new ≡ mid ++ others_than bs' os' → new ≡ directives_with built_in own
all_said built_in own bs bs' os os' old mid new b b' o o' none m n =
    n ∙ ap (λ l. l ++ others_than bs' os') (m ∙ ap (λ l. l ++ map (in_place_of os) bs) none) ∙
    ap (λ l. map (in_place_of l) bs ++ others_than bs' os') o ∙
    ap (λ l. map (in_place_of own) l ++ others_than bs' os') b ∙
    ap (λ l. map (in_place_of own) built_in ++ others_than l os') b' ∙
    ap (λ l. map (in_place_of own) built_in ++ others_than built_in l) o'
