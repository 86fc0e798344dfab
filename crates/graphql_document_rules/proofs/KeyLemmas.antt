-- Fields have one response key exactly where their different keys are one at most.
use Rattle.std.proofs.Common.{◌≡◌, ◌↔◌, ◌≤◌, Bool, true, false, ◌||◌, cond, List, [], ◌∷◌, ◌++◌, refl, ◌∙◌, ap, subst, All, Contains, length, map, arith, length-append}
use Rattle.std.specs.Borrow.{Bor}
use Rattle.std.specs.Map.{keys_of as entry_keys}
use Rattle.std.specs.Prelude.{Vec, fold}
use Rattle.std.specs.declared.alloc.Global.{Global}
use Rattle.std.proofs.lemmas.List.Elements.{All-cons, All-contains, All-head, All-map, All-nil, All-tail}
use Rattle.graphql_nodes.specs.Names.{NameText, SameName, different_names, same_name, stands_on, with_name}
use Rattle.graphql_nodes.proofs.NameLemmas.{same_name_back, same_name_itself, same_name_then}
use Rattle.graphql_documents.proofs.ListLemmas.{each_standing, none_stands, only_one, stands_first, stands_mapped}
use Rattle.graphql_documents.proofs.SelectionLemmas.{one_fragment_found}
use Rattle.graphql_documents.specs.Selections.{fragments_of}
use Rattle.graphql_documents.specs.declared.documents.executables.ExecutableDocument.{ExecutableDocument}
use Rattle.graphql_documents.specs.declared.documents.executables.SelectionSet.{SelectionSet}
use Rattle.graphql_documents.specs.declared.documents.schemas.Schema.{Schema}
use Rattle.graphql_specification.specs.CollectFields.{CollectedFrom, CollectsFrom}
use Rattle.graphql_specification.specs.MergedSets.{key_of, keys_of, under_key}
use Rattle.graphql_specification.specs.Merging.{FieldSelection, SameKey}
use Rattle.graphql_merging.specs.Groups.{by_keys, named_fields}
use Rattle.graphql_field_conflicts.specs.declared.field_selections.FieldSelection.{FieldSelection as Field}
use Rattle.graphql_variables.proofs.UseLemmas.{any_has, has_any}
use Rattle.graphql_validation.proofs.CollectingLemmas.{lists_what_is_collected}
use Rattle.graphql_document_rules.specs.SingleRootField.{HasOneResponseKey}

-- a name is on a list of one exactly where it is the same
on_one : (k n : NameText) → stands_on (k ∷ []) n ≡ same_name n k
on_one k n = by (same_name n k) where
  by : (b : Bool) → b || false ≡ b
  by true = refl
  by false = refl

-- the names that are the same as the only one that is known bring no other
none_further : (k : NameText) (names : List NameText) → All (λ n. SameName n k) names → fold with_name (k ∷ []) names ≡ k ∷ []
none_further k [] same = refl
none_further k (n ∷ ns) same =
    let known : stands_on (k ∷ []) n ≡ true = on_one k n ∙ All-head (λ n. SameName n k) n ns same in
    ap (λ b. fold with_name (cond b (k ∷ []) ((k ∷ []) ++ n ∷ [])) ns) known ∙ none_further k ns (All-tail (λ n. SameName n k) n ns same)

-- those that are known stay
longer : (known names : List NameText) → length known ≤ length (fold with_name known names)
longer known [] = omega arith
longer known (n ∷ ns) = omega (arith, by (stands_on known n), longer (with_name known n) ns) where
  by : (b : Bool) → length known ≤ length (cond b known (known ++ n ∷ []))
  by true = omega arith
  by false = omega (arith, length-append known (n ∷ []))

-- where the only one that is known stays the only one, the names are the same
all_same : (k : NameText) (names : List NameText) → length (fold with_name (k ∷ []) names) ≤ 1 → All (λ n. SameName n k) names
all_same k [] few = All-nil (λ n. SameName n k)
all_same k (n ∷ ns) few = by (same_name n k) refl (all_same k ns) where
  folded : Bool → List NameText
  folded b = fold with_name (cond b (k ∷ []) ((k ∷ []) ++ n ∷ [])) ns

  by : (b : Bool) → same_name n k ≡ b → (length (fold with_name (k ∷ []) ns) ≤ 1 → All (λ n. SameName n k) ns) → All (λ n. SameName n k) (n ∷ ns)
  by true is others =
      All-cons (λ n. SameName n k) n ns is (others (subst (λ b. length (folded b) ≤ 1) (on_one k n ∙ is) few))
  by false is others =
      let few' : length (folded false) ≤ 1 = subst (λ b. length (folded b) ≤ 1) (on_one k n ∙ is) few in
      let many = longer ((k ∷ []) ++ n ∷ []) ns in
      absurd (let no : ⊥ = omega (arith, many, few', length-append (k ∷ []) (n ∷ [])) in no)

-- there is one different name at most exactly where any two are the same
pub one_name : (names : List NameText) → (length (different_names names) ≤ 1) ↔ ((a b : NameText) → Contains names a → Contains names b → SameName a b)
one_name [] = (λ few a b in_a in_b. absurd (none_stands a in_a), λ same. omega arith)
one_name (k ∷ ns) = (
  λ few a b in_a in_b.
      let same = All-cons (λ n. SameName n k) k ns (same_name_itself k) (all_same k ns few) in
      same_name_then a k b (All-contains (λ n. SameName n k) (k ∷ ns) a same in_a)
      (same_name_back b k (All-contains (λ n. SameName n k) (k ∷ ns) b same in_b)),
  λ same.
      let others = All-tail (λ n. SameName n k) k ns (each_standing (λ n. SameName n k) (k ∷ ns) (λ n in_n. same n k in_n (stands_first k ns))) in
      let one : length (fold with_name (k ∷ []) ns) ≡ 1 = ap (λ (l : List NameText). length l) (none_further k ns others) in
      let is : length (different_names (k ∷ ns)) ≤ 1 = omega (arith, one) in is,
)

-- the keys of fields are one at most exactly where any two fields have the same
pub one_key : (fields : List FieldSelection) → (length (keys_of fields) ≤ 1) ↔ ((x y : FieldSelection) → Contains fields x → Contains fields y → SameKey x y)
one_key fields = (
  λ few x y in_x in_y. (one_name (map key_of fields)).0 few (key_of x) (key_of y) (stands_mapped key_of fields x in_x) (stands_mapped key_of fields y in_y),
  λ same. (one_name (map key_of fields)).1 (λ a b in_a in_b.
      All-contains (λ n. SameName a n) (map key_of fields) b
      (All-map (λ n. SameName a n) key_of fields (each_standing (λ y. SameName a (key_of y)) fields (λ y in_y.
      same_name_back (key_of y) a (All-contains (λ n. SameName (key_of y) n) (map key_of fields) a
      (All-map (λ n. SameName (key_of y) n) key_of fields (each_standing (λ x. SameName (key_of y) (key_of x)) fields (λ x in_x. same y x in_y in_x))) in_a)))) in_b),
)

-- a walk that collects fields has found one key at most exactly where the fields that are collected have one
pub one_key_collected : (schema : Schema) (document : ExecutableDocument) (set : SelectionSet) (fields : List FieldSelection) →
    CollectsFrom schema (fragments_of document) set.ty [] (set ∷ []) fields → (length (keys_of fields) ≤ 1) ↔ HasOneResponseKey schema (fragments_of document) set
one_key_collected schema document set fields walk = (
  λ few x y from_x from_y. (one_key fields).0 few x y (listed x from_x) (listed y from_y),
  λ one. (one_key fields).1 (λ x y in_x in_y. one x y (collected x in_x) (collected y in_y)),
) where
  From : FieldSelection → SelectionSet → Type 0
  From x s = CollectedFrom schema (fragments_of document) set.ty s x

  listed : (x : FieldSelection) → CollectedFrom schema (fragments_of document) set.ty set x → Contains fields x
  listed x from =
      (lists_what_is_collected schema (fragments_of document) set.ty (one_fragment_found document) (set ∷ []) fields walk x).1
      (has_any (From x) (set ∷ []) set (stands_first set []) from)

  collected : (x : FieldSelection) → Contains fields x → CollectedFrom schema (fragments_of document) set.ty set x
  collected x in' =
      let h = any_has (From x) (set ∷ []) ((lists_what_is_collected schema (fragments_of document) set.ty (one_fragment_found document) (set ∷ []) fields walk x).0 in') in
      subst (From x) (only_one set h.0 h.1) h.2

-- the keys of a map that has fields under their keys
named_keys : (entries : List (Bor NameText × Vec Field Global)) → map (λ (k : Bor NameText). k.now) (entry_keys entries) ≡ map (λ (e : NameText × List FieldSelection). e.0) (named_fields entries)
named_keys [] = refl
named_keys (e ∷ es) = ap (λ l. e.0.now ∷ l) (named_keys es)

under_names : (group : NameText → List FieldSelection) (names : List NameText) → map (λ (e : NameText × List FieldSelection). e.0) (map (λ name. (name, group name)) names) ≡ names
under_names group [] = refl
under_names group (n ∷ ns) = ap (λ l. n ∷ l) (under_names group ns)

pub keys_found : (entries : List (Bor NameText × Vec Field Global)) (fields : List FieldSelection) → named_fields entries ≡ by_keys fields →
    map (λ (k : Bor NameText). k.now) (entry_keys entries) ≡ keys_of fields
keys_found entries fields are =
    named_keys entries ∙ ap (map (λ (e : NameText × List FieldSelection). e.0)) are ∙ under_names (λ key. under_key key fields) (keys_of fields)
