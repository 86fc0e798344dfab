-- Definitions and extensions of types that are found by their names.
use Rattle.std.proofs.Common.{◌≡◌, ℕ, List, [], ◌∷◌, ◌++◌, Bor, Vec, Bool, true, false, cond, Option, Some, None, refl, sym, ◌∙◌, ap, subst, map, find, All, Contains}
use Rattle.std.specs.Prelude.{filter}
use Rattle.std.specs.Map.{lookup, set_value}
use Rattle.std.specs.Option.{option_copied, option_map_or, option_or}
use Rattle.std.specs.declared.alloc.Global.{Global}
use Rattle.std.proofs.lemmas.List.{append-nil, append_assoc, map-append}
use Rattle.std.proofs.lemmas.List.Elements.{All-append, All-cons, All-nil, Contains-append_right, filter-append}
use Rattle.std.proofs.lemmas.List.Folds.{find-append}
use Rattle.indexmap.specs.IndexMap.{IndexMap, get_by}
use Rattle.graphql_nodes.specs.Names.{AreDistinct, NameText, same_name}
use Rattle.graphql_nodes.proofs.NameLemmas.{same_text}
use Rattle.graphql_documents.proofs.ListLemmas.{stands_first}
use Rattle.graphql_documents.proofs.ImplementerLemmas.{same_swapped}
use Rattle.graphql_variables.proofs.FirstPlaceLemmas.{chosen_or, distinct_names_more, kept_or}
use Rattle.graphql_trees.specs.declared.type_system.TypeDefinition.{TypeDefinition}
use Rattle.graphql_schema_checking.specs.Definitions.{name_of, type_named}
use Rattle.graphql_repetitions.specs.References.{nows}
use Rattle.graphql_schema_checking.specs.Steps.{AreFirst, FindsAll, first_after, first_definitions, under, unless_named}

-- one definition more is first of its name, or is not
pub first_more : (before xs : List TypeDefinition) (x : TypeDefinition) →
    first_after before (xs ++ x ∷ []) ≡ first_after before xs ++ unless_named (before ++ xs) x
first_more before [] x = append-nil (unless_named before x) ∙ ap (λ l. unless_named l x) (sym (append-nil before))
first_more before (a ∷ xs) x =
    let one : List TypeDefinition = unless_named before a in
    let rest : List TypeDefinition = first_after (before ++ a ∷ []) xs in
    ap (λ l. one ++ l) (first_more (before ++ a ∷ []) xs x) ∙
    sym (append_assoc one rest (unless_named ((before ++ a ∷ []) ++ xs) x)) ∙
    ap (λ l. (one ++ rest) ++ unless_named l x) (append_assoc before (a ∷ []) xs)

-- what is found with one definition more
pub named_more : (before : List TypeDefinition) (x : TypeDefinition) (name : NameText) →
    type_named (before ++ x ∷ []) name ≡ option_or (type_named before name) (cond (same_name (name_of x) name) (Some x) None)
named_more before x name = find-append (λ (d : TypeDefinition). same_name (name_of d) name) before (x ∷ [])

-- where all names differ, all are first
pub all_first : (before xs : List TypeDefinition) → AreDistinct (map name_of (before ++ xs)) → first_after before xs ≡ xs
all_first before [] distinct = refl
all_first before (x ∷ xs) distinct =
    let behind : AreDistinct (map name_of ((before ++ x ∷ []) ++ xs)) = subst (λ l. AreDistinct (map name_of l)) (sym (append_assoc before (x ∷ []) xs)) distinct in
    let here : AreDistinct (map name_of (before ++ x ∷ [])) = front (before ++ x ∷ []) xs behind in
    let none : type_named before (name_of x) ≡ None = ((distinct_names_more name_of before x).1 here).1 in
    rw (none) (ap (λ l. x ∷ l) (all_first (before ++ x ∷ []) xs behind))
  where
    front : (xs ys : List TypeDefinition) → AreDistinct (map name_of (xs ++ ys)) → AreDistinct (map name_of xs)
    front xs [] distinct = subst (λ l. AreDistinct (map name_of l)) (append-nil xs) distinct
    front xs (y ∷ ys) distinct =
        ((distinct_names_more name_of xs y).1
        (front (xs ++ y ∷ []) ys (subst (λ l. AreDistinct (map name_of l)) (sym (append_assoc xs (y ∷ []) ys)) distinct))).0

abbrev same_text_as : List ℕ → TypeDefinition → Bool
same_text_as text d = same_name (name_of d) (record { text = text; location = None })

-- a map with one definition more
pub first_with : {S : Type 0} {first new : IndexMap (Bor NameText) (Bor TypeDefinition) S} {before : List TypeDefinition} (k : Bor NameText) (x : Bor TypeDefinition) →
    k.now ≡ name_of x.now → get_by (λ b. same_name k.now b.now) first ≡ None →
    ((name : NameText) → get_by (λ b. same_name name b.now) new ≡ cond (same_name k.now name) (Some x) (get_by (λ b. same_name name b.now) first)) →
    new.entries ≡ first.entries ++ (k, x) ∷ [] → AreFirst first before → AreFirst new (before ++ x.now ∷ [])
first_with {S} {first} {new} {before} k x name_is none found entries f =
    let name : NameText = k.now in
    let missing : type_named before (name_of x.now) ≡ None = ap (type_named before) (sym name_is) ∙ sym (f.look_up name) ∙ ap option_copied none in
    record {
      look_up = λ other.
          ap option_copied (found other) ∙
          copied_choice (same_name name other) x (get_by (λ b. same_name other b.now) first) ∙
          chosen_or (same_name name other) x.now (option_copied (get_by (λ b. same_name other b.now) first))
          (λ same. f.look_up other ∙ ap (λ text. find (λ d. same_text_as text d) before) (sym (same_text name other same)) ∙ sym (f.look_up name) ∙ ap option_copied none) ∙
          ap (λ o. option_or o (cond (same_name name other) (Some x.now) None)) (f.look_up other) ∙
          ap (λ n. option_or (type_named before other) (cond (same_name n other) (Some x.now) None)) name_is ∙
          sym (named_more before x.now other);
      values_are =
          ap (map (λ e. e.1.now)) entries ∙ map-append (λ e. e.1.now) first.entries ((k, x) ∷ []) ∙
          ap (λ l. l ++ x.now ∷ []) f.values_are ∙
          ap (λ o. first_definitions before ++ option_map_or (λ f. []) o (x.now ∷ [])) (sym missing) ∙
          sym (first_more [] before x.now);
    }
  where
    copied_choice : (b : Bool) (x : Bor TypeDefinition) (o : Option (Bor TypeDefinition)) → option_copied (cond b (Some x) o) ≡ cond b (Some x.now) (option_copied o)
    copied_choice true x o = refl
    copied_choice false x o = refl

-- a map that has one of the name already
pub first_without : {S : Type 0} {first : IndexMap (Bor NameText) (Bor TypeDefinition) S} {before : List TypeDefinition} (x : TypeDefinition) →
    ¬ (type_named before (name_of x) ≡ None) → AreFirst first before → AreFirst first (before ++ x ∷ [])
first_without {S} {first} {before} x some f = record {
  look_up = λ other.
      f.look_up other ∙
      kept_or (same_name (name_of x) other) x (type_named before other)
      (λ same none. some (ap (λ text. find (λ d. same_text_as text d) before) (same_text (name_of x) other same) ∙ none)) ∙
      sym (named_more before x other);
  values_are = f.values_are ∙ sym (append-nil (first_definitions before)) ∙ ap (λ l. first_definitions before ++ l) (sym (left_out (type_named before (name_of x)) some)) ∙ sym (first_more [] before x);
} where
  left_out : (o : Option TypeDefinition) → ¬ (o ≡ None) → option_map_or (λ f. []) o (x ∷ []) ≡ []
  left_out None some = absurd (some refl)
  left_out (Some y) some = refl

-- what is found once a value is set under a name
module _ {V : Type 0} (new : V) (n m : NameText) where
  alike : (k : NameText) → same_name n k ≡ true → same_name n m ≡ same_name m k
  alike k same = same_swapped n m ∙ ap (λ text. same_name m (record { text = text; location = None })) (same_text n k same)

  both_chosen : (b : Bool) (x : V) (rest : Option V) → cond b (Some new) rest ≡ cond b (Some new) (cond b (Some x) rest)
  both_chosen true x rest = refl
  both_chosen false x rest = refl

  one_chosen : (b d : Bool) (x : V) (rest : Option V) → (b ≡ true → d ≡ false) → cond b (Some x) (cond d (Some new) rest) ≡ cond d (Some new) (cond b (Some x) rest)
  one_chosen true d x rest apart = rw (apart refl) refl
  one_chosen false d x rest apart = refl

  not_alike : (k : NameText) → same_name n k ≡ false → same_name m k ≡ true → same_name n m ≡ false
  not_alike k other same = ap (λ text. same_name n (record { text = text; location = None })) (same_text m k same) ∙ other

  pub set_found : (entries : List (Bor NameText × V)) (known : V) → lookup (λ b. same_name n b.now) entries ≡ Some known →
      lookup (λ b. same_name m b.now) (set_value (λ b. same_name n b.now) entries new) ≡ cond (same_name n m) (Some new) (lookup (λ b. same_name m b.now) entries)
  set_found [] known e = absurd (let no : ⊥ = cc in no)
  set_found (entry ∷ es) known e = by (same_name n entry.0.now) refl (set_found es known) where
    by : (b : Bool) → same_name n entry.0.now ≡ b →
        (lookup (λ b. same_name n b.now) es ≡ Some known →
        lookup (λ b. same_name m b.now) (set_value (λ b. same_name n b.now) es new) ≡ cond (same_name n m) (Some new) (lookup (λ b. same_name m b.now) es)) →
        lookup (λ b. same_name m b.now) (set_value (λ b. same_name n b.now) (entry ∷ es) new) ≡
        cond (same_name n m) (Some new) (lookup (λ b. same_name m b.now) (entry ∷ es))
    by true same behind =
        rw same
        (both_chosen (same_name m entry.0.now) entry.1 (lookup (λ b. same_name m b.now) es) ∙
        ap (λ b. cond b (Some new) (cond (same_name m entry.0.now) (Some entry.1) (lookup (λ b. same_name m b.now) es))) (sym (alike entry.0.now same)))
    by false other behind =
        rw other
        (ap (λ o. cond (same_name m entry.0.now) (Some entry.1) o) (behind (rw other at e)) ∙
        one_chosen (same_name m entry.0.now) (same_name n m) entry.1 (lookup (λ b. same_name m b.now) es) (not_alike entry.0.now other))

abbrev listed : Option (Vec (Bor TypeDefinition) Global) → List TypeDefinition
listed o = option_map_or (λ v. nows v.items) o []

-- a map with one extension more
pub finds_all_more : {S : Type 0} {found new : IndexMap (Bor NameText) (Vec (Bor TypeDefinition) Global) S} {before : List TypeDefinition} (n : NameText) (x : TypeDefinition) (v : Vec (Bor TypeDefinition) Global) →
    n ≡ name_of x → nows v.items ≡ under found n ++ x ∷ [] →
    ((m : NameText) → get_by (λ b. same_name m b.now) new ≡ cond (same_name n m) (Some v) (get_by (λ b. same_name m b.now) found)) →
    FindsAll found before → FindsAll new (before ++ x ∷ [])
finds_all_more {S} {found} {new} {before} n x v name_is behind look f = record {
  look_up = λ m. ap listed (look m) ∙ by m (same_name n m) refl ∙ sym (filter-append (λ e. same_name m (name_of e)) before (x ∷ []));
} where
  passes : (m : NameText) → same_name m (name_of x) ≡ same_name n m
  passes m = ap (λ k. same_name m k) (sym name_is) ∙ same_swapped m n

  by : (m : NameText) (b : Bool) → same_name n m ≡ b →
      listed (cond (same_name n m) (Some v) (get_by (λ b. same_name m b.now) found)) ≡
      filter (λ e. same_name m (name_of e)) before ++ cond (same_name m (name_of x)) (x ∷ []) []
  by m true same =
      rw (passes m, same)
      (behind ∙ ap (λ l. l ++ x ∷ [])
      (f.look_up n ∙ ap (λ text. filter (λ e. same_name (record { text = text; location = None }) (name_of e)) before) (same_text n m same)))
  by m false other = rw (passes m, other) (f.look_up m ∙ sym (append-nil (filter (λ e. same_name m (name_of e)) before)))

-- the first definitions are among all
pub first_among : (before xs : List TypeDefinition) → All (Contains (before ++ xs)) (first_after before xs)
first_among before [] = All-nil (Contains (before ++ []))
first_among before (x ∷ xs) =
    let P = Contains (before ++ (x ∷ xs)) in
    All-append P (unless_named before x) (first_after (before ++ x ∷ []) xs)
    (here (type_named before (name_of x)))
    (subst (λ l. All (Contains l) (first_after (before ++ x ∷ []) xs)) (append_assoc before (x ∷ []) xs) (first_among (before ++ x ∷ []) xs))
  where
    here : (o : Option TypeDefinition) → All (Contains (before ++ (x ∷ xs))) (option_map_or (λ f. []) o (x ∷ []))
    here None = All-cons (Contains (before ++ (x ∷ xs))) x [] (Contains-append_right before (x ∷ xs) x (stands_first x xs)) (All-nil (Contains (before ++ (x ∷ xs))))
    here (Some y) = All-nil (Contains (before ++ (x ∷ xs)))
