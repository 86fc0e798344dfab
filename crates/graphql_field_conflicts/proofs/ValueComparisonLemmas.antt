-- Two values are the same where what they are made of is: by their kinds, and objects by the first entries of
-- their keys.
use Rattle.std.proofs.Common.{◌≡◌, ◌↔◌, ℕ, ◌<◌, ◌+◌, Bool, true, false, List, [], Option, Some, None, ◌⊎◌, inl, inr, take, length, get_or, refl, sym, ap, ◌∙◌, subst, All}
use Rattle.std.specs.Prelude.{IsSome, IsTrue, is_some}
use Rattle.std.specs.Option.{option_map}
use Rattle.std.proofs.lemmas.List.Elements.{All-contains}
use Rattle.std.proofs.lemmas.Slice.Eq.{bytes_eq-Decides}
use Rattle.std.specs.Str.{bytes_eq}
use mathlib.Core.Bool.{beq}
use Rattle.graphql_documents.proofs.ListLemmas.{each_standing}
use Rattle.graphql_nodes.proofs.NameLemmas.{same_name_itself}
use Rattle.graphql_nodes.specs.Names.{NameText, SameName, same_name}
use Rattle.graphql_documents.specs.Values.{SameValue, entry_named}
use Rattle.graphql_nodes.specs.declared.nodes.Node.{Node}
use Rattle.graphql_documents.specs.declared.documents.values.Value.TheOpen as Open
use Rattle.graphql_documents.specs.declared.documents.values.Value.{Value, out-Value, roll-Value, roll-out-Value}
use Rattle.graphql_laws.proofs.ValueLaws.{SameOpen, opened, roll_same}
use Rattle.graphql_field_conflicts.proofs.FirstNamedLemmas.{each_more, each_of_none, first_alike, first_has, first_is_there, first_named, first_of_name, first_stands}
use Rattle.graphql_field_conflicts.specs.Comparisons.{HasEntry, HasKeysOf, SameEntries, StandIn}

-- values are the same where they open to what is
pub same_opened : {a b : Value} (x y : Open.Value-F Value) → out-Value a ≡ x → out-Value b ≡ y → (r : Bool) → IsTrue r ↔ SameOpen x y → IsTrue r ↔ SameValue a b
same_opened {a = a} {b = b} x y is_x is_y r decides = (
  λ e. subst (λ v. SameValue v b) (sym (ap roll-Value is_x) ∙ roll-out-Value a) (subst (SameValue (roll-Value x)) (sym (ap roll-Value is_y) ∙ roll-out-Value b) (roll_same x y (decides.0 e))),
  λ same. decides.1 (subst (λ v. SameOpen v y) is_x (subst (SameOpen (out-Value a)) is_y (opened same))),
)

-- the name of an entry
abbrev pub key : NameText × Node Value → NameText
key e = e.0

-- the value of the first entry of a name is that of the entry found
value_found : (name : NameText) (entries : List (NameText × Node Value)) (e : NameText × Node Value) → first_named key name entries ≡ Some e → entry_named name entries ≡ Some e.1
value_found name entries e found = ap (option_map (λ (entry : NameText × Node Value). entry.1)) found

found_value : (name : NameText) (entries : List (NameText × Node Value)) (x : Node Value) → entry_named name entries ≡ Some x →
    (e : NameText × Node Value) × (first_named key name entries ≡ Some e) × (e.1 ≡ x)
found_value name entries x found = by (first_named key name entries) refl found where
  by : (o : Option (NameText × Node Value)) → first_named key name entries ≡ o → option_map (λ (entry : NameText × Node Value). entry.1) o ≡ Some x →
      (e : NameText × Node Value) × (first_named key name entries ≡ Some e) × (e.1 ≡ x)
  by None is e = absurd (let no : ⊥ = cc in no)
  by (Some entry) is e = (entry, is, (let same : entry.1 ≡ x = cc in same))

entry_alike : (a b : NameText) → SameName a b → (entries : List (NameText × Node Value)) → entry_named a entries ≡ entry_named b entries
entry_alike a b same entries = ap (option_map (λ (entry : NameText × Node Value). entry.1)) (first_alike key a b same entries)

has_alike : (others : List (NameText × Node Value)) (a b : NameText) (e : NameText × Node Value) → SameName a b → HasEntry others a e.1 → HasEntry others b e.1
has_alike others a b e same (y, found, alike) = (y, sym (entry_alike a b same others) ∙ found, alike)

pub known_entry : (name : NameText) (entries : List (NameText × Node Value)) → IsSome (entry_named name entries) → IsSome (first_named key name entries)
known_entry name entries known = by (first_named key name entries) known where
  by : (o : Option (NameText × Node Value)) → IsSome (option_map (λ (entry : NameText × Node Value). entry.1) o) → IsSome o
  by None h = h
  by (Some e) h = refl

pub some_value : (o : Option (NameText × Node Value)) → IsSome o → IsSome (option_map (λ (entry : NameText × Node Value). entry.1) o)
some_value None h = h
some_value (Some e) h = refl

-- a walk over the entries: none so far, and one more
pub none_stand_in : (others : List (NameText × Node Value)) → StandIn [] others
none_stand_in others = each_of_none key (λ name entry. HasEntry others name entry.1) (has_alike others)

pub more_stand_in : (entries : List (NameText × Node Value)) (i : ℕ) (e : NameText × Node Value) (others : List (NameText × Node Value)) →
    i < length entries → e ≡ get_or entries i e → StandIn (take i entries) others → IsSome (entry_named e.0 (take i entries)) ⊎ HasEntry others e.0 e.1 →
    StandIn (take (i + 1) entries) others
more_stand_in entries i e others within item before here =
    each_more key (λ name entry. HasEntry others name entry.1) (has_alike others) entries i e within item before (elim here [
      | inl known ↦ inl (known_entry e.0 (take i entries) known)
      | inr has ↦ inr has
    ])

-- an entry whose key none before it has must have its value in the other list
pub must_have : (entries : List (NameText × Node Value)) (i : ℕ) (e : NameText × Node Value) (others : List (NameText × Node Value)) →
    i < length entries → e ≡ get_or entries i e → ¬ IsSome (entry_named e.0 (take i entries)) → StandIn entries others → HasEntry others e.0 e.1
must_have entries i e others within item new stand = stand e.0 e (first_of_name key entries i e within item (by (first_named key e.0 (take i entries)) refl)) where
  by : (o : Option (NameText × Node Value)) → first_named key e.0 (take i entries) ≡ o → first_named key e.0 (take i entries) ≡ None
  by None is = is
  by (Some found) is = absurd (new (let value = value_found e.0 (take i entries) found is in rw value refl))

-- a first entry that is there decides whether the value is the same
pub entry_decides : (entries : List (NameText × Node Value)) (name : NameText) (x other : Node Value) → Some other ≡ entry_named name entries →
    (r : Bool) → IsTrue r ↔ SameValue x.value.value other.value.value → IsTrue r ↔ HasEntry entries name x
entry_decides entries name x other found r decides = (λ e. (other, sym found, decides.0 e), back) where
  back : HasEntry entries name x → IsTrue r
  back (y, is, same) =
      let alike : y ≡ other = cc in
      decides.1 (subst (λ z. SameValue x.value.value z.value.value) alike same)

-- each key of the other list is found where each entry of it finds its own
pub keys_found : (entries others : List (NameText × Node Value)) → All (λ e. IsSome (entry_named e.0 entries)) others ↔ HasKeysOf entries others
keys_found entries others = (there, back) where
  there : All (λ e. IsSome (entry_named e.0 entries)) others → HasKeysOf entries others
  there all name known = by (first_named key name others) refl (known_entry name others known) where
    by : (o : Option (NameText × Node Value)) → first_named key name others ≡ o → IsSome o → IsSome (entry_named name entries)
    by None is h = absurd (let no : ⊥ = cc in no)
    by (Some e) is h =
        subst IsSome (entry_alike e.0 name (first_has key name others e is) entries)
        (All-contains (λ e. IsSome (entry_named e.0 entries)) others e all (first_stands key name others e is))

  back : HasKeysOf entries others → All (λ e. IsSome (entry_named e.0 entries)) others
  back keys = each_standing (λ e. IsSome (entry_named e.0 entries)) others (λ e stands. keys e.0 (some_value (first_named key e.0 others) (first_is_there key e.0 others e stands (same_name_itself e.0))))

-- the entries of two objects are the same where the values are
pub same_objects : (a b : List (NameText × Node Value)) → SameEntries a b ↔ (
    ((name : NameText) → is_some (entry_named name a) ≡ is_some (entry_named name b)) ×
    ((name : NameText) (x y : Node Value) → entry_named name a ≡ Some x → entry_named name b ≡ Some y → SameValue x.value.value y.value.value)
    )
same_objects a b = (λ same. (names same, each same), λ same. (λ name known. same.0 name ∙ known, stand same)) where
  names : SameEntries a b → (name : NameText) → is_some (entry_named name a) ≡ is_some (entry_named name b)
  names (keys, first) name = by (entry_named name a) (entry_named name b) refl refl where
    by : (o p : Option (Node Value)) → entry_named name a ≡ o → entry_named name b ≡ p → is_some o ≡ is_some p
    by None None is_o is_p = refl
    by (Some x) (Some y) is_o is_p = refl
    by None (Some y) is_o is_p = let known = subst IsSome is_o (keys name (rw is_p refl)) in absurd (let no : ⊥ = cc in no)
    by (Some x) None is_o is_p =
        let (e, found, is) = found_value name a x is_o in
        let (y, there, same) = first name e found in
        absurd (let no : ⊥ = cc in no)

  each : SameEntries a b → (name : NameText) (x y : Node Value) → entry_named name a ≡ Some x → entry_named name b ≡ Some y → SameValue x.value.value y.value.value
  each (keys, first) name x y is_x is_y =
      let (e, found, is) = found_value name a x is_x in
      let (z, there, same) = first name e found in
      let alike : z ≡ y = cc in
      subst (λ u. SameValue u.value.value y.value.value) is (subst (λ u. SameValue e.1.value.value u.value.value) alike same)

  stand : (((name : NameText) → is_some (entry_named name a) ≡ is_some (entry_named name b)) ×
      ((name : NameText) (x y : Node Value) → entry_named name a ≡ Some x → entry_named name b ≡ Some y → SameValue x.value.value y.value.value)) → StandIn a b
  stand (names', each') name e found = by (entry_named name b) refl where
    by : (o : Option (Node Value)) → entry_named name b ≡ o → HasEntry b name e.1
    by (Some y) is = (y, is, each' name e.1 y (value_found name a e found) is)
    by None is = let known = names' name in let there = value_found name a e found in absurd (let no : ⊥ = cc in no)

-- what the code's tests of leaves decide
pub texts_decide : (a b : List ℕ) (r : Bool) → r ≡ bytes_eq a b → IsTrue r ↔ (a ≡ b)
texts_decide a b r is = (λ e. (bytes_eq-Decides a b).0 (sym is ∙ e), λ e. is ∙ (bytes_eq-Decides a b).1 e)

pub names_decide : (a b : NameText) (r : Bool) → r ≡ same_name a b → IsTrue r ↔ SameName a b
names_decide a b r is = (λ e. sym is ∙ e, λ e. is ∙ e)

pub truths_decide : (a b : Bool) → IsTrue (beq a b) ↔ (a ≡ b)
truths_decide true true = (λ e. refl, λ e. refl)
truths_decide true false = (λ e. absurd (let no : ⊥ = cc in no), λ e. absurd (let no : ⊥ = cc in no))
truths_decide false true = (λ e. absurd (let no : ⊥ = cc in no), λ e. absurd (let no : ⊥ = cc in no))
truths_decide false false = (λ e. refl, λ e. refl)
