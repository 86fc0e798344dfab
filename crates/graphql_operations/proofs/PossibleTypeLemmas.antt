-- The objects that are values of a type, as the map of implementers has them.
use Rattle.std.proofs.Common.{◌≡◌, ◌↔◌, ℕ, Bool, true, false, cond, ◌||◌, ◌&&◌, List, [], ◌∷◌, map, refl, sym, ap, ◌∙◌, subst, true≢false, Contains}
use mathlib.Core.Logic.{inl, inr}
use Rattle.std.specs.Prelude.{◌⊎◌, Some, None, IsTrue, filter, flat_map}
use Rattle.std.specs.Borrow.{Bor}
use Rattle.std.specs.List.{list_any}
use Rattle.std.specs.Map.{lookup}
use Rattle.std.specs.Option.{option_map}
use Rattle.std.specs.Str.{bytes_eq}
use Rattle.std.proofs.lemmas.List.Elements.{All-contains, All-contains_itself, All-filter, filter_passes}
use Rattle.std.proofs.lemmas.Option.{same_Some}
use Rattle.std.proofs.lemmas.List.Folds.{Any-from_list_any, list_any-from_Any}
use Rattle.graphql_specification.specs.Fragments.{HaveCommonObject, IsPossibleAt}
use Rattle.graphql_documents.specs.Implementers.{implementer_entries, implementer_names}
use Rattle.graphql_nodes.specs.Names.{NameText, SameName, different_names, same_name, stands_on}
use Rattle.graphql_documents.specs.Schemas.{ImplementerNames, IsImplementedBy, IsListed, IsPossibleType, implementers_map, implementers_of_kind, interfaces_of, is_interface_type, is_object_type, listed_interfaces, lists_interface, own_name, type_definition}
use Rattle.graphql_documents.specs.declared.documents.components.ComponentName.{ComponentName}
use Rattle.graphql_documents.specs.declared.documents.implementers.Implementers.{Implementers}
use Rattle.graphql_documents.specs.declared.documents.schemas.ExtendedType.{ExtendedType}
use Rattle.graphql_documents.specs.declared.documents.schemas.ExtendedType.TheVariants.{Scalar, Object, Interface, Union, Enum, InputObject}
use Rattle.graphql_documents.specs.declared.documents.schemas.InterfaceType.{InterfaceType}
use Rattle.graphql_documents.specs.declared.documents.schemas.ObjectType.{ObjectType}
use Rattle.graphql_documents.specs.declared.documents.schemas.Schema.{Schema}
use Rattle.graphql_documents.specs.declared.documents.schemas.UnionType.{UnionType}
use Rattle.graphql_nodes.specs.declared.nodes.Node.{Node}
use Rattle.graphql_documents.proofs.ImplementerLemmas.{found_as_names, stands_folded, stands_same}
use Rattle.graphql_documents.proofs.ListLemmas.{kept_by_filter, made_of, stands_behind, stands_first, stands_flat, stands_mapped}
use Rattle.graphql_nodes.proofs.NameLemmas.{same_name_back, same_name_itself, same_text}
use Rattle.graphql_laws.proofs.BuiltDocumentLaws.{entry_found}
use Rattle.graphql_variables.proofs.UseLemmas.{any_has, has_any}

-- what is among names is the same as one of them
pub stands_among : (names : List NameText) (n : NameText) → stands_on names n ≡ true → (x : NameText) × Contains names x × (same_name n x ≡ true)
stands_among names n e = any_has (λ x. same_name n x ≡ true) names (Any-from_list_any (same_name n) names e)

pub among_stands : (names : List NameText) (n x : NameText) → Contains names x → SameName n x → stands_on names n ≡ true
among_stands names n x in' same = list_any-from_Any (same_name n) names (has_any (λ x. same_name n x ≡ true) names x in' same)

-- what is among the names of some things
pub any_named : {X : Type 0} (f : X → NameText) (xs : List X) (n : NameText) → stands_on (map f xs) n ≡ list_any (λ x. same_name n (f x)) xs
any_named f [] n = refl
any_named f (x ∷ xs) n = ap (λ b. same_name n (f x) || b) (any_named f xs n)

-- a test of the names of some things
pub any_tested : {X : Type 0} (f : X → NameText) (test : NameText → Bool) (xs : List X) → list_any test (map f xs) ≡ list_any (λ x. test (f x)) xs
any_tested f test [] = refl
any_tested f test (x ∷ xs) = ap (λ b. test (f x) || b) (any_tested f test xs)

-- a name is in a list where it is one of the different ones
stands_different : (names : List NameText) (n : NameText) → stands_on (different_names names) n ≡ stands_on names n
stands_different names n = stands_folded [] names n

filtered : {X : Type 0} (p : X → Bool) (xs : List X) (x : X) → Contains (filter p xs) x → Contains xs x × (p x ≡ true)
filtered {X} p xs x in' = (
  All-contains (Contains xs) (filter p xs) x (All-filter p (Contains xs) xs (All-contains_itself xs)) in',
  All-contains (λ x. p x ≡ true) (filter p xs) x (filter_passes p xs) in',
)

-- a name is listed where it is among the names
pub listed_stands : (listed : List ComponentName) (name : NameText) → IsListed name listed ↔ IsTrue (stands_on (map (λ c. c.name) listed) name)
listed_stands listed name = (
  λ any.
      let c = any_has (λ (c : ComponentName). SameName c.name name) listed any in
      among_stands (map (λ c. c.name) listed) name c.0.name (stands_mapped (λ (c : ComponentName). c.name) listed c.0 c.1) (same_name_back c.0.name name c.2),
  λ there.
      let x = stands_among (map (λ c. c.name) listed) name there in
      let c = made_of (λ (c : ComponentName). c.name) listed x.0 x.1 in
      has_any (λ (c : ComponentName). SameName c.name name) listed c.0 c.1 (subst (λ n. SameName n name) (sym c.2) (same_name_back name x.0 x.2)),
)

module _ (schema : Schema) where
  abbrev lists_as_object : NameText → NameText × ExtendedType → Bool
  lists_as_object interface entry = is_object_type entry.1 && lists_interface interface entry.1

  implemented_by_object : (interface name key : NameText) (d : ExtendedType) → Contains schema.types.entries (key, d) →
      (is_object_type d && lists_interface interface d) ≡ true → SameName (own_name d) name → IsImplementedBy schema interface name
  implemented_by_object interface name key (Object d) in' passes same =
      (key, d, in', same, Any-from_list_any (λ (c : ComponentName). same_name c.name interface) d.value.value.implements_interfaces.keys passes)
  implemented_by_object interface name key (Scalar d) in' passes same = absurd (let h : ⊥ = cc in h)
  implemented_by_object interface name key (Interface d) in' passes same = absurd (let h : ⊥ = cc in h)
  implemented_by_object interface name key (Union d) in' passes same = absurd (let h : ⊥ = cc in h)
  implemented_by_object interface name key (Enum d) in' passes same = absurd (let h : ⊥ = cc in h)
  implemented_by_object interface name key (InputObject d) in' passes same = absurd (let h : ⊥ = cc in h)

  -- what implements an interface is among the objects that list it
  implemented_stands : (interface name : NameText) → IsImplementedBy schema interface name ↔ IsTrue (stands_on (implementers_of_kind schema is_object_type interface) name)
  implemented_stands interface name =
      let own = λ (entry : NameText × ExtendedType). own_name entry.1 in
      let kept = filter (lists_as_object interface) schema.types.entries in (
        λ (key, d, in', same, listed).
            let passes : lists_as_object interface (key, Object d) ≡ true =
            list_any-from_Any (λ (c : ComponentName). same_name c.name interface) d.value.value.implements_interfaces.keys listed in
            stands_different (map own kept) name ∙
            among_stands (map own kept) name d.value.value.name
            (stands_mapped own kept (key, Object d) (kept_by_filter (lists_as_object interface) schema.types.entries (key, Object d) in' passes))
            (same_name_back d.value.value.name name same),
        λ there.
            let x = stands_among (map own kept) name (sym (stands_different (map own kept) name) ∙ there) in
            let e = made_of own kept x.0 x.1 in
            let passes = filtered (lists_as_object interface) schema.types.entries e.0 e.1 in
            implemented_by_object interface name e.0.0 e.0.1 passes.0 passes.1
            (subst (λ n. SameName n name) (sym e.2) (same_name_back name x.0 x.2)),
      )

  -- the names of what implements an interface are those of any interface of the same name
  same_implementers : (test : ExtendedType → Bool) (a b : NameText) → SameName a b → implementers_of_kind schema test a ≡ implementers_of_kind schema test b
  same_implementers test a b same =
      ap (λ (t : List ℕ). different_names (map (λ entry. own_name entry.1)
      (filter (λ entry. test entry.1 && list_any (λ listed. bytes_eq listed.name.text t) (interfaces_of entry.1)) schema.types.entries)))
      (same_text a b same)

  abbrev implementers_of : NameText → ImplementerNames
  implementers_of interface = record {
    objects = implementers_of_kind schema is_object_type interface;
    interfaces = implementers_of_kind schema is_interface_type interface;
  }

  look_up_made : (names : List NameText) (n : NameText) (v : ImplementerNames) → lookup (same_name n) (map (λ i. (i, implementers_of i)) names) ≡ Some v →
      v.objects ≡ implementers_of_kind schema is_object_type n
  look_up_made [] n v e = absurd (let h : ⊥ = cc in h)
  look_up_made (x ∷ xs) n v e = by (same_name n x) refl (look_up_made xs n v) e where
    by : (b : Bool) → same_name n x ≡ b →
        (lookup (same_name n) (map (λ i. (i, implementers_of i)) xs) ≡ Some v → v.objects ≡ implementers_of_kind schema is_object_type n) →
        cond b (Some (implementers_of x)) (lookup (same_name n) (map (λ i. (i, implementers_of i)) xs)) ≡ Some v →
        v.objects ≡ implementers_of_kind schema is_object_type n
    by true same behind e = ap (λ (v : ImplementerNames). v.objects) (sym (same_Some (implementers_of x) v e)) ∙ sym (same_implementers is_object_type n x same)
    by false other behind e = behind e

  look_up_none : (names : List NameText) (n : NameText) → lookup (same_name n) (map (λ i. (i, implementers_of i)) names) ≡ None → stands_on names n ≡ false
  look_up_none [] n e = refl
  look_up_none (x ∷ xs) n e = by (same_name n x) refl (look_up_none xs n) e where
    by : (b : Bool) → same_name n x ≡ b → (lookup (same_name n) (map (λ i. (i, implementers_of i)) xs) ≡ None → stands_on xs n ≡ false) →
        cond b (Some (implementers_of x)) (lookup (same_name n) (map (λ i. (i, implementers_of i)) xs)) ≡ None → (same_name n x || stands_on xs n) ≡ false
    by true same behind e = absurd (let h : ⊥ = cc in h)
    by false other behind e = rw other (behind e)

  -- what is implemented is listed
  implemented_is_listed : (interface name : NameText) → IsImplementedBy schema interface name → stands_on (listed_interfaces schema) interface ≡ true
  implemented_is_listed interface name (key, d, in', same, listed) =
      let names = λ (entry : NameText × ExtendedType). map (λ (c : ComponentName). c.name) (interfaces_of entry.1) in
      let c = any_has (λ (c : ComponentName). SameName c.name interface) d.value.value.implements_interfaces.keys listed in
      let there = stands_mapped (λ (c : ComponentName). c.name) d.value.value.implements_interfaces.keys c.0 c.1 in
      stands_different (flat_map names schema.types.entries) interface ∙
      among_stands (flat_map names schema.types.entries) interface c.0.name (stands_flat names schema.types.entries (key, Object d) c.0.name in' there)
      (same_name_back c.0.name interface c.2)

  module _ (entries : List (Bor NameText × Implementers)) (made : implementer_entries entries ≡ implementers_map schema) (interface : NameText) where
    look_up_is : lookup (same_name interface) (implementers_map schema) ≡ option_map implementer_names (lookup (λ b. same_name interface b.now) entries)
    look_up_is = ap (lookup (same_name interface)) (sym made) ∙ found_as_names entries interface

    -- the objects that the map has for an interface are those that implement it
    pub implementers_found : (known : Implementers) → lookup (λ b. same_name interface b.now) entries ≡ Some known → (name : NameText) →
        IsImplementedBy schema interface name ↔ IsTrue (stands_on (map (λ name. name.now) known.objects.keys) name)
    implementers_found known e name =
        let objects = look_up_made (listed_interfaces schema) interface (implementer_names known) (look_up_is ∙ ap (option_map implementer_names) e) in
        subst (λ (l : List NameText). IsImplementedBy schema interface name ↔ IsTrue (stands_on l name)) (sym objects) (implemented_stands interface name)

    -- an interface that it lacks is implemented by none
    pub implementers_missing : lookup (λ b. same_name interface b.now) entries ≡ None → (name : NameText) → ¬ IsImplementedBy schema interface name
    implementers_missing e name implemented =
        let away = look_up_none (listed_interfaces schema) interface (look_up_is ∙ ap (option_map implementer_names) e) in
        let there = implemented_is_listed interface name implemented in
        let no : ⊥ = cc in no

  -- two types have an object in common where a name of the one is among those of the other
  pub common_stands : (a b : ExtendedType) (objects others : List NameText) →
      ((name : NameText) → IsPossibleType schema a name ↔ IsTrue (stands_on objects name)) →
      ((name : NameText) → IsPossibleType schema b name ↔ IsTrue (stands_on others name)) →
      HaveCommonObject schema a b ↔ IsTrue (list_any (stands_on others) objects)
  common_stands a b objects others of_a of_b = (
    λ (name, other, is_a, is_b, same).
        let x = stands_among objects name ((of_a name).0 is_a) in
        let there : stands_on others x.0 ≡ true =
        sym (stands_same others name x.0 x.2) ∙ stands_same others name other same ∙ (of_b other).0 is_b in
        list_any-from_Any (stands_on others) objects (has_any (λ x. stands_on others x ≡ true) objects x.0 x.1 there),
    λ meets.
        let x = any_has (λ x. stands_on others x ≡ true) objects (Any-from_list_any (stands_on others) objects meets) in
        (x.0, x.0, (of_a x.0).1 (among_stands objects x.0 x.0 x.1 (same_name_itself x.0)), (of_b x.0).1 x.2, same_name_itself x.0),
  )

  pub common_swapped : (a b : ExtendedType) → HaveCommonObject schema a b → HaveCommonObject schema b a
  common_swapped a b (name, other, is_a, is_b, same) = (other, name, is_b, is_a, same_name_back name other same)

-- an object that a schema has, and that says itself that its values are of another type
module _ (schema : Schema) (key : NameText) (d : Node ObjectType) (stands : Contains schema.types.entries (key, Object d)) where
  pub object_of_interface : (i : Node InterfaceType) → IsListed i.value.value.name d.value.value.implements_interfaces.keys → HaveCommonObject schema (Object d) (Interface i)
  object_of_interface i listed =
      let own = d.value.value.name in
      (own, own, same_name_itself own, (key, d, stands, same_name_itself own, listed), same_name_itself own)

  pub object_of_union : (u : Node UnionType) → IsListed d.value.value.name u.value.value.members.keys → HaveCommonObject schema (Object d) (Union u)
  object_of_union u listed =
      let own = d.value.value.name in
      (own, own, same_name_itself own, listed, same_name_itself own)

-- what a name finds is in an entry
pub type_entry : (test : NameText → Bool) (entries : List (NameText × ExtendedType)) (d : ExtendedType) → lookup test entries ≡ Some d →
    (key : NameText) × Contains entries (key, d)
type_entry test entries d found =
    let e = entry_found test entries d found in
    (e.0.0, subst (λ (t : ExtendedType). Contains entries (e.0.0, t)) e.2 e.1)

-- what is selected on a condition can be visited on a type, or not
module _ (schema : Schema) (condition parent : NameText) where
  pub possible_without_condition : type_definition schema condition ≡ None → IsPossibleAt schema condition (Some parent)
  possible_without_condition none = λ a b of_condition of_parent. absurd (let e = sym none ∙ of_condition in let no : ⊥ = cc in no)

  pub possible_without_parent : type_definition schema parent ≡ None → IsPossibleAt schema condition (Some parent)
  possible_without_parent none = λ a b of_condition of_parent. absurd (let e = sym none ∙ of_parent in let no : ⊥ = cc in no)

  module _ (selected around : ExtendedType) (of_condition : type_definition schema condition ≡ Some selected) (of_parent : type_definition schema parent ≡ Some around) where
    pub possible_by_object : HaveCommonObject schema selected around → IsPossibleAt schema condition (Some parent)
    possible_by_object common = λ a b of_a of_b.
        inr (subst (λ t. HaveCommonObject schema t b) (same_Some selected a (sym of_condition ∙ of_a))
        (subst (HaveCommonObject schema selected) (same_Some around b (sym of_parent ∙ of_b)) common))

    pub not_possible : same_name condition parent ≡ false → ¬ HaveCommonObject schema selected around → ¬ IsPossibleAt schema condition (Some parent)
    not_possible other none possible = by (possible selected around of_condition of_parent) where
      by : SameName condition parent ⊎ HaveCommonObject schema selected around → ⊥
      by (inl same) = true≢false (sym same ∙ other)
      by (inr common) = none common
