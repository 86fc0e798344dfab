-- What could be a condition on a type still can.
use Rattle.std.proofs.Common.{◌≡◌, ◌∙◌, ◌⊎◌, inl, inr, Bool, List, Some, ap, refl, sym, subst, All, Contains}
use Rattle.std.specs.Prelude.{IsTrue, Any}
use Rattle.std.proofs.lemmas.Option.{same_Some}
use Rattle.std.proofs.lemmas.List.Elements.{All-contains, All-contains_itself, All-weaker}
use Rattle.graphql_nodes.specs.Names.{NameText, SameName, same_name}
use Rattle.graphql_nodes.proofs.NameLemmas.{same_name_back, same_name_then}
use Rattle.graphql_documents.specs.Built.{StandsUnderOwnNames, TypeStandsUnderItsName}
use Rattle.graphql_documents.specs.Schemas.{IsListed, IsPossibleType, IsSubtype, IsSubtypeOf, NamesKind, interfaces_of, is_object_type, type_definition}
use Rattle.graphql_documents.specs.declared.documents.components.ComponentName.{ComponentName}
use Rattle.graphql_documents.specs.declared.documents.schemas.ExtendedType.{ExtendedType}
use Rattle.graphql_documents.specs.declared.documents.schemas.ExtendedType.TheVariants.{Scalar, Object, Interface, Union, Enum, InputObject}
use Rattle.graphql_documents.specs.declared.documents.schemas.Schema.{Schema}
use Rattle.graphql_documents.specs.declared.documents.schemas.ObjectType.{ObjectType}
use Rattle.graphql_nodes.specs.declared.nodes.Node.{Node}
use Rattle.graphql_specification.specs.Fragments.{HaveCommonObject, NamesComposite}
use Rattle.graphql_schema_changes.specs.Keeps.{KeepsConditions}
use Rattle.graphql_change_kinds.specs.Kinds.{IsObjectOf}
use Rattle.graphql_schema_comparison.specs.Comparisons.{KeepsAll, KeepsType}
use Rattle.graphql_schema_comparison.proofs.FieldLemmas.{place_stays, type_stays}
use Rattle.graphql_change_kinds.proofs.FindsLemmas.{looked_up}
use Rattle.graphql_schema_comparison.proofs.KindLemmas.{still_composite, still_object}
use Rattle.graphql_shape_comparison.proofs.NamedLemmas.{listed_as, one_type, own_name_is, subtype_at}

-- the object type that a definition is
as_object : (d : ExtendedType) → IsTrue (is_object_type d) → (o : Node ObjectType) × (d ≡ Object o)
as_object (Object o) is = (o, refl)
as_object _ is = absurd (let no : ⊥ = cc in no)

pub any_holds : {X : Type 0} (P Q : X → Type 0) (xs : List X) → Any P xs → All Q xs → (x : X) × P x × Q x
any_holds P Q xs any all = (any.1, any.4, All-contains Q xs any.1 all (any.0, any.2, any.3))

both_hold : {X : Type 0} (P : X → Type 0) (xs : List X) → All P xs → All (λ x. Contains xs x × P x) xs
both_hold P xs all = All-weaker (Contains xs) (λ x. Contains xs x × P x) (λ x within. (within, All-contains P xs x all within)) xs (All-contains_itself xs)

module _ (old new : Schema) (merging : Bool) (all : KeepsAll old new merging) (old_names : StandsUnderOwnNames old) (new_names : StandsUnderOwnNames new) where
  -- an object that is a subtype of a type is one of its objects
  possible_by : (name object : NameText) (d : ExtendedType) → type_definition new name ≡ Some d → (o : Node ObjectType) → type_definition new object ≡ Some (Object o) →
      IsSubtypeOf new name (Some d) object → IsPossibleType new d object
  possible_by name object (Union d) is o at sub = sub
  possible_by name object (Interface d) is o at sub =
      let found = looked_up (same_name object) (λ (entry : NameText × ExtendedType). Contains new.types.entries entry × TypeStandsUnderItsName entry.0 entry.1)
      new.types.entries (Object o) at (both_hold (λ (entry : NameText × ExtendedType). TypeStandsUnderItsName entry.0 entry.1) new.types.entries new_names.types) in
      let same : sub.definition ≡ Object o = same_Some sub.definition (Object o) (sym sub.defined ∙ at) in
      let lists : IsListed name (interfaces_of (Object o)) = subst (λ (t : ExtendedType). IsListed name (interfaces_of t)) same sub.lists in (
        found.0,
        o,
        found.2.0,
        same_name_back object o.value.value.name (same_name_then object found.0 o.value.value.name found.1 found.2.1.itself),
        listed_as o.value.value.implements_interfaces.keys name d.value.value.name (own_name_is new new_names name (Interface d) is) lists,
      )
  possible_by name object (Scalar d) is o at sub = absurd sub
  possible_by name object (Object d) is o at sub = absurd sub
  possible_by name object (Enum d) is o at sub = absurd sub
  possible_by name object (InputObject d) is o at sub = absurd sub

  -- the same by the name of a subtype
  possible_at : (wide narrow name object : NameText) (d : ExtendedType) → SameName wide name → SameName narrow object → type_definition new name ≡ Some d →
      NamesKind new is_object_type object → IsSubtype new wide narrow → IsPossibleType new d object
  possible_at wide narrow name object d same too is kind sub =
      let o = as_object kind.0 kind.2 in
      possible_by name object d is o.0 (kind.1 ∙ ap Some o.1) (subtype_at new wide name narrow object same too d is sub)

  object_stays_one : (name n : NameText) (x y : Node ObjectType) → type_definition old name ≡ Some (Object x) → type_definition new name ≡ Some (Object y) →
      SameName x.value.value.name n → SameName y.value.value.name n
  object_stays_one name n x y was is same =
      same_name_then y.value.value.name name n (same_name_back name y.value.value.name (own_name_is new new_names name (Object y) is))
      (same_name_then name x.value.value.name n (own_name_is old old_names name (Object x) was) same)

  -- an object of a type is one of the type's objects still
  possible_stays : (name n : NameText) (a b : ExtendedType) → type_definition old name ≡ Some a → type_definition new name ≡ Some b → IsPossibleType old a n → IsPossibleType new b n
  possible_stays name n (Object x) b was is possible =
      let stays = type_stays old new merging all name (Object x) was in
      let there : type_definition new name ≡ Some stays.kept.after = one_type new name stays.key stays.same ∙ stays.kept.is_defined in
      let o = as_object stays.kept.after (still_object (Object x) stays.kept.after stays.kept.kind refl) in
      let same : b ≡ Object o.0 = same_Some b (Object o.0) (sym is ∙ there ∙ ap Some o.1) in
      subst (λ (t : ExtendedType). IsPossibleType new t n) (sym same) (object_stays_one name n x o.0 was (is ∙ ap Some same) possible)
  possible_stays name n (Interface x) b was is possible =
      let key = possible.0 in
      let o = possible.1 in
      let kept = All-contains (λ (entry : NameText × ExtendedType). KeepsType all.table old new merging entry.0 entry.1) old.types.entries (key, Object o) all.types possible.2 in
      let stands = All-contains (λ (entry : NameText × ExtendedType). TypeStandsUnderItsName entry.0 entry.1) old.types.entries (key, Object o) old_names.types possible.2 in
      let key_is : SameName key n = same_name_then key o.value.value.name n stands.itself possible.3 in
      let is_object = still_object (Object o) kept.after kept.kind refl in
      let place = kept.contents refl (still_composite (Object o) kept.after kept.kind refl) in
      let listed = any_holds (λ (c : ComponentName). SameName c.name x.value.value.name) (λ (c : ComponentName). IsSubtype new c.name key) o.value.value.implements_interfaces.keys
      possible.4 (place.interfaces refl) in
      let wide : SameName listed.0.name name =
      same_name_then listed.0.name x.value.value.name name listed.1 (same_name_back name x.value.value.name (own_name_is old old_names name (Interface x) was)) in
      possible_at listed.0.name key name n b wide key_is is
      (kept.after, one_type new n key (same_name_back key n key_is) ∙ kept.is_defined, is_object) listed.2
  possible_stays name n (Union x) b was is possible =
      let stays = type_stays old new merging all name (Union x) was in
      let place = place_stays old new merging all name (Union x) stays refl in
      let member = any_holds (λ (c : ComponentName). SameName c.name n) (λ (c : ComponentName). IsObjectOf new stays.key c.name) x.value.value.members.keys possible place.members in
      possible_at stays.key member.0.name name n b (same_name_back name stays.key stays.same) member.1 is
      (member.2.1.0, one_type new n member.0.name (same_name_back member.0.name n member.1) ∙ member.2.1.1, member.2.1.2) member.2.0
  possible_stays name n (Scalar x) b was is possible = absurd possible
  possible_stays name n (Enum x) b was is possible = absurd possible
  possible_stays name n (InputObject x) b was is possible = absurd possible

  possible_in : (condition parent : NameText) (a b c d : ExtendedType) → type_definition old condition ≡ Some a → type_definition old parent ≡ Some b →
      type_definition new condition ≡ Some c → type_definition new parent ≡ Some d →
      SameName condition parent ⊎ HaveCommonObject old a b → SameName condition parent ⊎ HaveCommonObject new c d
  possible_in condition parent a b c d was_a was_b is_c is_d (inl same) = inl same
  possible_in condition parent a b c d was_a was_b is_c is_d (inr common) =
      inr (common.0, common.1, possible_stays condition common.0 a c was_a is_c common.2, possible_stays parent common.1 b d was_b is_d common.3, common.4)

  pub conditions_kept : (parent : NameText) → NamesComposite old parent → KeepsConditions old new parent
  conditions_kept parent place condition composite possible =
      let stays = type_stays old new merging all condition composite.0 composite.1 in (
        (stays.kept.after, one_type new condition stays.key stays.same ∙ stays.kept.is_defined, still_composite composite.0 stays.kept.after stays.kept.kind composite.2),
        λ c d is_c is_d. possible_in condition parent composite.0 place.0 c d composite.1 place.1 is_c is_d (possible composite.0 place.0 composite.1 place.1),
      )
