-- What the equality of values and of arguments compares: those that it takes for equal are the same.
use Rattle.std.proofs.Common.{◌≡◌, ℕ, zero, suc, Bool, true, false, ◌&&◌, List, [], ◌∷◌, map, Option, Some, None, cond, find, get_or, All, refl, sym, ◌∙◌, ap, subst}
use Rattle.std.specs.Prelude.{IsTrue, option_map, is_some, slice_get, string_bytes, string_eq}
use Rattle.std.specs.Str.{bytes_eq}
use Rattle.std.proofs.lemmas.List.Elements.{All-head, All-tail, All-map}
use Rattle.std.proofs.lemmas.Slice.Eq.{bytes_eq-Decides}
use denote.Enum.Compared.{Each, by}
use denote.Hole.Carrier.{Values}
use denote.Hole.Holds
use lib.Pointwise.{pointwise, pointwise_long}
use mathlib.Core.Bool.{beq}
use Rattle.graphql_nodes.specs.Names.{NameText, SameName, same_name}
use Rattle.graphql_documents.specs.Values.{SameValue, entry_named}
use Rattle.graphql_specification.specs.Merging.{SameArguments}
use Rattle.graphql_documents.specs.contracts.documents.directives.ArgumentPartialEq.TheImpl as argument_impl
use Rattle.graphql_documents.specs.contracts.documents.values.Value as value_type
use Rattle.graphql_documents.specs.contracts.documents.values.ValuePartialEq.TheImpl.Laws as value_laws
use Rattle.graphql_documents.specs.declared.documents.directives.Argument.{Argument}
use Rattle.graphql_nodes.specs.declared.nodes.Node.{Node}
use Rattle.graphql_documents.specs.declared.documents.values.Value.{Value, out-Value, roll-Value, out-roll-Value}
use Rattle.graphql_documents.specs.declared.documents.values.Value.TheBlock.{the_family, the_members, the_sigs, the_carrier, member-Value, split-Value}
use Rattle.graphql_documents.specs.declared.documents.values.Value.TheFolds.{ind-Value, map-Value, claims}
use Rattle.graphql_documents.specs.declared.documents.values.Value.TheOpen as Open
use Rattle.graphql_nodes.proofs.NameLemmas.{same_text}
use Rattle.graphql_laws.specs.Equality.{value_equality}
use Rattle.graphql_laws.proofs.ValueLaws.{SameOpen, closed, found_holds, under_map}

-- each of two answers
pub both : (a b : Bool) → IsTrue (a && b) → IsTrue a × IsTrue b
both true b h = (refl, h)
both false b h = absurd (let no : ⊥ = cc in no)

-- ==== lists that are compared pair by pair, each of whose items has a name

module _ {X : Type 0} (name_of : X → NameText) (same : X → X → Bool) (names : (x y : X) → IsTrue (same x y) → SameName (name_of x) (name_of y)) where
  abbrev first_named : NameText → List X → Option X
  first_named name xs = find (λ x. same_name (name_of x) name) xs

  one_answer : (x y : X) (name : NameText) → IsTrue (same x y) → same_name (name_of x) name ≡ same_name (name_of y) name
  one_answer x y name h = ap (λ (text : List ℕ). bytes_eq text name.text) (same_text (name_of x) (name_of y) (names x y h))

  there : (b : Bool) (x y : X) (o p : Option X) → is_some o ≡ is_some p → is_some (cond b (Some x) o) ≡ is_some (cond b (Some y) p)
  there true x y o p h = refl
  there false x y o p h = h

  pub named_in_both : (name : NameText) (xs ys : List X) → IsTrue (pointwise same xs ys) → is_some (first_named name xs) ≡ is_some (first_named name ys)
  named_in_both name [] [] h = refl
  named_in_both name [] (y ∷ ys) h = absurd (let no : ⊥ = cc in no)
  named_in_both name (x ∷ xs) [] h = absurd (let no : ⊥ = cc in no)
  named_in_both name (x ∷ xs) (y ∷ ys) h =
      let parts = both (same x y) (pointwise same xs ys) h in
      subst (λ b. is_some (first_named name (x ∷ xs)) ≡ is_some (cond b (Some y) (first_named name ys))) (one_answer x y name parts.0)
      (there (same_name (name_of x) name) x y (first_named name xs) (first_named name ys) (named_in_both name xs ys parts.1))

  chosen : (b : Bool) (x y u v : X) (o p : Option X) → IsTrue (same x y) → (o ≡ Some u → p ≡ Some v → IsTrue (same u v)) →
      cond b (Some x) o ≡ Some u → cond b (Some y) p ≡ Some v → IsTrue (same u v)
  chosen true x y u v o p h later eu ev =
      let one : x ≡ u = cc in
      let other : y ≡ v = cc in
      subst (λ z. IsTrue (same z v)) one (subst (λ z. IsTrue (same x z)) other h)
  chosen false x y u v o p h later eu ev = later eu ev

  pub found_alike : (name : NameText) (xs ys : List X) → IsTrue (pointwise same xs ys) → (u v : X) → first_named name xs ≡ Some u → first_named name ys ≡ Some v → IsTrue (same u v)
  found_alike name [] ys h u v eu ev = absurd (let no : ⊥ = cc in no)
  found_alike name (x ∷ xs) [] h u v eu ev = absurd (let no : ⊥ = cc in no)
  found_alike name (x ∷ xs) (y ∷ ys) h u v eu ev =
      let parts = both (same x y) (pointwise same xs ys) h in
      chosen (same_name (name_of x) name) x y u v (first_named name xs) (first_named name ys) parts.0 (found_alike name xs ys parts.1 u v) eu
      (subst (λ b. cond b (Some y) (first_named name ys) ≡ Some v) (sym (one_answer x y name parts.0)) ev)

-- ==== values

abbrev equal_items : Node Value → Node Value → Bool
equal_items x y = value_equality x.value.value y.value.value

abbrev equal_entries : NameText × Node Value → NameText × Node Value → Bool
equal_entries x y = same_name x.0 y.0 && equal_items x.1 y.1

-- two values of one kind, and what is equal of them
abbrev EqualOpen : Open.Value-F Value → Open.Value-F Value → Type 0
EqualOpen Open.Null Open.Null = Unit {0}
EqualOpen (Open.Enum a) (Open.Enum b) = SameName a b
EqualOpen (Open.Variable a) (Open.Variable b) = SameName a b
EqualOpen (Open.String a) (Open.String b) = IsTrue (string_eq a b)
EqualOpen (Open.Float a) (Open.Float b) = IsTrue (bytes_eq a b)
EqualOpen (Open.Int a) (Open.Int b) = IsTrue (bytes_eq a b)
EqualOpen (Open.Boolean a) (Open.Boolean b) = IsTrue (beq a b)
EqualOpen (Open.List a) (Open.List b) = IsTrue (pointwise equal_items a.items b.items)
EqualOpen (Open.Object a) (Open.Object b) = IsTrue (pointwise equal_entries a.items b.items)
EqualOpen _ _ = ⊥

abbrev each_kind : Each Bool value_type.the_parts
each_kind = (
  λ a b. true,
  (
    λ a b. same_name a.0 b.0,
    (
      λ a b. same_name a.0 b.0,
      (
        λ a b. string_eq a.0 b.0,
        (
          λ a b. bytes_eq a.0 b.0,
          (
            λ a b. bytes_eq a.0 b.0,
            (λ a b. beq a.0 b.0, (λ a b. pointwise equal_items a.0.items b.0.items, (λ a b. pointwise equal_entries a.0.items b.0.items, tt))),
          ),
        ),
      ),
    ),
  ),
)

abbrev family : the_members → Type 0
family = Values the_members the_sigs the_carrier

equal_open : (x y : Open.Value-F Value) → IsTrue (by false false value_type.the_parts each_kind (split-Value family x) (split-Value family y)) → EqualOpen x y
equal_open Open.Null Open.Null h = tt
equal_open (Open.Enum a) (Open.Enum b) h = h
equal_open (Open.Variable a) (Open.Variable b) h = h
equal_open (Open.String a) (Open.String b) h = h
equal_open (Open.Float a) (Open.Float b) h = h
equal_open (Open.Int a) (Open.Int b) h = h
equal_open (Open.Boolean a) (Open.Boolean b) h = h
equal_open (Open.List a) (Open.List b) h = h
equal_open (Open.Object a) (Open.Object b) h = h
equal_open _ _ h = absurd (let no : ⊥ = cc in no)

opened : (v w : Value) → IsTrue (value_equality v w) → EqualOpen (out-Value v) (out-Value w)
opened v w h = equal_open (out-Value v) (out-Value w) (subst IsTrue (value_laws.is v w) h)

-- what is equal to the value is the same
abbrev Follows : Value → Type 0
Follows v = (w : Value) → IsTrue (value_equality v w) → SameValue v w

abbrev Kept : Type 0
Kept = denote.Hole.Holds.Such the_family (claims Follows) member-Value

abbrev item : Node Kept → Node Value
item n = record { value = record { ptr = n.value.ptr; value = n.value.value.0 }; location = n.location }

abbrev named_item : NameText × Node Kept → NameText × Node Value
named_item e = (e.0, item e.1)

abbrev kept_open : Open.Value-F Kept → Open.Value-F Value
kept_open y = map-Value Kept Value (λ e. e.0) y

items_follow : (xs ys : List (Node Value)) → All (λ n. Follows n.value.value) xs → IsTrue (pointwise equal_items xs ys) →
    (i : ℕ) (x y : Node Value) → slice_get xs i ≡ Some x → slice_get ys i ≡ Some y → SameValue x.value.value y.value.value
items_follow [] ys all h i x y ex ey = absurd (let no : ⊥ = cc in no)
items_follow (u ∷ us) [] all h i x y ex ey = absurd (let no : ⊥ = cc in no)
items_follow (u ∷ us) (v ∷ vs) all h zero x y ex ey =
    let one : u ≡ x = cc in
    let other : v ≡ y = cc in
    let same = All-head (λ n. Follows n.value.value) u us all v.value.value (both (equal_items u v) (pointwise equal_items us vs) h).0 in
    subst (λ z. SameValue z.value.value y.value.value) one (subst (λ z. SameValue u.value.value z.value.value) other same)
items_follow (u ∷ us) (v ∷ vs) all h (suc i) x y ex ey =
    items_follow us vs (All-tail (λ n. Follows n.value.value) u us all) (both (equal_items u v) (pointwise equal_items us vs) h).1 i x y ex ey

abbrev entry_name : NameText × Node Value → NameText
entry_name e = e.0

entry_names : (x y : NameText × Node Value) → IsTrue (equal_entries x y) → SameName (entry_name x) (entry_name y)
entry_names x y h = (both (same_name x.0 y.0) (equal_items x.1 y.1) h).0

there_under : (o : Option (NameText × Node Value)) → is_some (option_map (λ (e : NameText × Node Value). e.1) o) ≡ is_some o
there_under None = refl
there_under (Some e) = refl

entries_follow : (xs ys : List (NameText × Node Value)) → All (λ e. Follows e.1.value.value) xs → IsTrue (pointwise equal_entries xs ys) →
    ((name : NameText) → is_some (entry_named name xs) ≡ is_some (entry_named name ys)) ×
    ((name : NameText) (x y : Node Value) → entry_named name xs ≡ Some x → entry_named name ys ≡ Some y → SameValue x.value.value y.value.value)
entries_follow xs ys all h = (
  λ name. there_under (of name xs) ∙ named_in_both entry_name equal_entries entry_names name xs ys h ∙ sym (there_under (of name ys)),
  λ name x y ex ey.
      let a = under_map (λ (e : NameText × Node Value). e.1) (of name xs) x ex in
      let b = under_map (λ (e : NameText × Node Value). e.1) (of name ys) y ey in
      let equal = found_alike entry_name equal_entries entry_names name xs ys h a.0 b.0 a.1 b.1 in
      let same = found_holds (λ e. Follows e.1.value.value) (λ e. same_name e.0 name) xs a.0 all a.1 b.0.1.value.value (both (same_name a.0.0 b.0.0) (equal_items a.0.1 b.0.1) equal).1 in
      subst (λ z. SameValue z.value.value y.value.value) a.2 (subst (λ z. SameValue a.0.1.value.value z.value.value) b.2 same),
) where
  of : NameText → List (NameText × Node Value) → Option (NameText × Node Value)
  of name entries = find (λ e. same_name (entry_name e) name) entries

truth_alike : (a b : Bool) → IsTrue (beq a b) → a ≡ b
truth_alike true true h = refl
truth_alike true false h = absurd (let no : ⊥ = cc in no)
truth_alike false true h = absurd (let no : ⊥ = cc in no)
truth_alike false false h = refl

same_open : (y : Open.Value-F Kept) (z : Open.Value-F Value) → EqualOpen (kept_open y) z → SameOpen (kept_open y) z
same_open Open.Null Open.Null h = tt
same_open (Open.Enum a) (Open.Enum b) h = h
same_open (Open.Variable a) (Open.Variable b) h = h
same_open (Open.String a) (Open.String b) h = (bytes_eq-Decides (string_bytes a) (string_bytes b)).0 h
same_open (Open.Float a) (Open.Float b) h = (bytes_eq-Decides a b).0 h
same_open (Open.Int a) (Open.Int b) h = (bytes_eq-Decides a b).0 h
same_open (Open.Boolean a) (Open.Boolean b) h = truth_alike a b h
same_open (Open.List a) (Open.List b) h = (
  pointwise_long equal_items (map item a.items) b.items h,
  items_follow (map item a.items) b.items (All-map (λ n. Follows n.value.value) item a.items (λ k d in'. (get_or a.items k d).value.value.1)) h,
)
same_open (Open.Object a) (Open.Object b) h =
    entries_follow (map named_item a.items) b.items (All-map (λ e. Follows e.1.value.value) named_item a.items (λ k d in'. (get_or a.items k d).1.value.value.1)) h
same_open _ _ h = absurd h

pub equal_values_are_same : (v w : Value) → IsTrue (value_equality v w) → SameValue v w
equal_values_are_same = ind-Value Follows (λ x y e w h.
    closed (roll-Value x) w
    (subst (λ z. SameOpen z (out-Value w)) (e ∙ sym (out-roll-Value x))
    (same_open y (out-Value w) (subst (λ z. EqualOpen z (out-Value w)) (sym (e ∙ sym (out-roll-Value x))) (opened (roll-Value x) w h)))))

-- ==== arguments

abbrev argument_name : Node Argument → NameText
argument_name a = a.value.value.name

abbrev equal_arguments : Node Argument → Node Argument → Bool
equal_arguments a b = argument_impl.ghosts.eq a.value.value b.value.value

argument_parts : (a b : Node Argument) → IsTrue (equal_arguments a b) → SameName (argument_name a) (argument_name b) × SameValue a.value.value.value.value.value b.value.value.value.value.value
argument_parts a b h =
    let v = a.value.value.value.value.value in
    let w = b.value.value.value.value.value in
    let parts = both (same_name (argument_name a) (argument_name b)) (value_equality v w) h in
    (parts.0, equal_values_are_same v w parts.1)

pub equal_arguments_are_same : (xs ys : List (Node Argument)) → IsTrue (pointwise equal_arguments xs ys) → SameArguments xs ys
equal_arguments_are_same xs ys h =
    let names = λ (a b : Node Argument) (equal : IsTrue (equal_arguments a b)). (argument_parts a b equal).0 in
    record {
      names = λ name. named_in_both argument_name equal_arguments names name xs ys h;
      values = λ name x y ex ey. (argument_parts x y (found_alike argument_name equal_arguments names name xs ys h x y ex ey)).1;
    }
