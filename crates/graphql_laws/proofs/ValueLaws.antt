-- What the sameness of values comes to: kind by kind, and that it is an equivalence.
use Rattle.std.proofs.Common.{◌≡◌, ℕ, zero, suc, String, Bool, List, [], ◌∷◌, length, Option, Some, None, refl, sym, ◌∙◌, subst, Vec, true, false, cond, find, map, get_or, All, arith, ◌⊎◌, inl, inr, ap}
use Rattle.std.specs.Prelude.{◌≢◌, option_map, MatchBool, IsTrue, IsFalse, IsSome, IsSomeAnd, is_some, slice_get, string_bytes}
use Rattle.std.specs.declared.alloc.Global.{Global}
use Rattle.graphql_nodes.specs.Names.{NameText, SameName, same_name}
use Rattle.graphql_documents.specs.Values.{SameValue, same_null, same_enum, same_variable, same_string, same_float, same_int, same_boolean, same_list, same_object, entry_named}
use Rattle.graphql_documents.specs.Schemas.{type_definition}
use Rattle.graphql_specification.specs.Values.{Accepts, AcceptsLeaf, accepts_undefined, accepts_null, accepts_variable, accepts_leaf, accepts_list, accepts_custom_object, accepts_object}
use Rattle.graphql_documents.specs.declared.documents.schemas.ExtendedType.{ExtendedType}
use Rattle.graphql_documents.specs.declared.documents.schemas.Schema.{Schema}
use Rattle.graphql_documents.specs.declared.documents.type_references.Type.{«Type»}
use Rattle.graphql_documents.specs.TypeReferences.{inner_named_type, is_non_null, is_assignable, nullable}
use Rattle.graphql_specification.specs.VariableUsages.{IsUsageAllowed, HasNonNullDefault, needs_default}
use Rattle.graphql_documents.specs.declared.documents.directives.Argument.{Argument}
use Rattle.graphql_documents.specs.Directives.{argument_named}
use Rattle.graphql_specification.specs.Merging.{SameArguments}
use Rattle.graphql_nodes.specs.declared.nodes.Node.{Node}
use Rattle.graphql_documents.specs.declared.documents.definitions.InputValueDefinition.{InputValueDefinition}
use Rattle.graphql_documents.specs.declared.documents.definitions.VariableDefinition.{VariableDefinition}
use Rattle.graphql_documents.specs.declared.documents.values.Value.{Value, out-Value, roll-Value, roll-out-Value}
use Rattle.graphql_documents.specs.declared.documents.values.Value.TheFolds.{ind-Value, map-Value, claims}
use Rattle.graphql_documents.specs.declared.documents.values.Value.TheBlock.{the_family, member-Value}
use Rattle.std.proofs.lemmas.List.Elements.{All-head, All-tail, All-map}
use Rattle.std.proofs.lemmas.Option.{get_or_from_slice_get, slice_get_within}
use denote.Hole.Holds
use Rattle.graphql_documents.specs.declared.documents.values.Value.TheOpen as Open
use Rattle.graphql_documents.specs.declared.documents.values.Value.TheVariants as literal
use Rattle.graphql_nodes.proofs.NameLemmas.{same_name_itself, same_name_back, same_name_then}

-- two values of one kind, and what is the same of them
abbrev pub SameOpen : Open.Value-F Value → Open.Value-F Value → Type 0
SameOpen Open.Null Open.Null = Unit {0}
SameOpen (Open.Enum a) (Open.Enum b) = SameName a b
SameOpen (Open.Variable a) (Open.Variable b) = SameName a b
SameOpen (Open.String a) (Open.String b) = string_bytes a ≡ string_bytes b
SameOpen (Open.Float a) (Open.Float b) = a ≡ b
SameOpen (Open.Int a) (Open.Int b) = a ≡ b
SameOpen (Open.Boolean a) (Open.Boolean b) = a ≡ b
SameOpen (Open.List a) (Open.List b) = (length a.items ≡ length b.items) ×
    ((i : ℕ) (x y : Node Value) → slice_get a.items i ≡ Some x → slice_get b.items i ≡ Some y → SameValue x.value.value y.value.value)
SameOpen (Open.Object a) (Open.Object b) =
    ((name : NameText) → is_some (entry_named name a.items) ≡ is_some (entry_named name b.items)) ×
    ((name : NameText) (x y : Node Value) → entry_named name a.items ≡ Some x → entry_named name b.items ≡ Some y → SameValue x.value.value y.value.value)
SameOpen _ _ = ⊥

shown : (v w : Value) (x y : Open.Value-F Value) → out-Value v ≡ x → out-Value w ≡ y → SameOpen x y → SameOpen (out-Value v) (out-Value w)
shown v w x y ev ew same = rw (ev, ew) same

pub opened : {v w : Value} → SameValue v w → SameOpen (out-Value v) (out-Value w)
opened same_null = shown _ _ _ _ literal.outs-Null literal.outs-Null tt
opened (same_enum {a = a} {b = b} e) = shown _ _ _ _ (literal.outs-Enum a) (literal.outs-Enum b) e
opened (same_variable {a = a} {b = b} e) = shown _ _ _ _ (literal.outs-Variable a) (literal.outs-Variable b) e
opened (same_string a b e) = shown _ _ _ _ (literal.outs-String a) (literal.outs-String b) e
opened (same_float {a = a} {b = b} e) = shown _ _ _ _ (literal.outs-Float a) (literal.outs-Float b) e
opened (same_int {a = a} {b = b} e) = shown _ _ _ _ (literal.outs-Int a) (literal.outs-Int b) e
opened (same_boolean {a = a}) = shown _ _ _ _ (literal.outs-Boolean a) (literal.outs-Boolean a) refl
opened (same_list a b l each) = shown _ _ _ _ (literal.outs-List a) (literal.outs-List b) (l, each)
opened (same_object a b names each) = shown _ _ _ _ (literal.outs-Object a) (literal.outs-Object b) (names, each)

pub lists_are_as_long : (a b : Vec (Node Value) Global) → SameValue (literal.List a) (literal.List b) → length a.items ≡ length b.items
lists_are_as_long a b same = (rw (literal.outs-List a, literal.outs-List b) at (opened same)).0

pub same_value_back : (v w : Value) → SameValue v w → SameValue w v
same_value_back _ _ same_null = same_null
same_value_back _ _ (same_enum {a = a} {b = b} e) = same_enum (same_name_back a b e)
same_value_back _ _ (same_variable {a = a} {b = b} e) = same_variable (same_name_back a b e)
same_value_back _ _ (same_string a b e) = same_string b a (sym e)
same_value_back _ _ (same_float e) = same_float (sym e)
same_value_back _ _ (same_int e) = same_int (sym e)
same_value_back _ _ same_boolean = same_boolean
same_value_back _ _ (same_list a b l each) =
    same_list b a (sym l) (λ i x y ex ey. same_value_back y.value.value x.value.value (each i y x ey ex))
same_value_back _ _ (same_object a b names each) =
    same_object b a (λ name. sym (names name)) (λ name x y ex ey. same_value_back y.value.value x.value.value (each name y x ey ex))

-- the default is there, but it is null
null_is_no_default : (d : Option (Node Value)) (value : Node Value) → d ≡ Some value → value.value.value ≡ literal.Null →
    ¬ IsSomeAnd d (λ value. value.value.value ≢ literal.Null)
null_is_no_default d value e null has = (subst (λ d. IsSomeAnd d (λ value. value.value.value ≢ literal.Null)) e has) null

chosen : (b : Bool) (P Q : Type 0) → b ≡ true → MatchBool b P Q → P
chosen true P Q e p = p
chosen false P Q e q = absurd (let h : ⊥ = cc in h)

pub null_default_is_none : (v : VariableDefinition) (place : InputValueDefinition) (default : Node Value) →
    IsTrue (is_non_null place.ty.value.value) → place.default_value ≡ None →
    IsFalse (is_non_null v.ty.value.value) → v.default_value ≡ Some default → default.value.value ≡ literal.Null →
    ¬ IsUsageAllowed v place
null_default_is_none v place default takes_none no_default may_be_null given null allowed =
    let needed : needs_default v place ≡ true = rw (takes_none, may_be_null) refl in
    elim (chosen (needs_default v place)
    ((HasNonNullDefault v ⊎ IsSome place.default_value) × IsTrue (is_assignable v.ty.value.value (nullable place.ty.value.value)))
    (IsTrue (is_assignable v.ty.value.value place.ty.value.value)) needed allowed).0 [
      | inl has ↦ null_is_no_default v.default_value default given null has
      | inr has ↦ let none : false ≡ true = subst IsSome no_default has in let h : ⊥ = cc in h
    ]

-- values that open alike are the same
pub roll_same : (x y : Open.Value-F Value) → SameOpen x y → SameValue (roll-Value x) (roll-Value y)
roll_same Open.Null Open.Null e = rw literal.rolls-Null same_null
roll_same (Open.Enum a) (Open.Enum b) e = rw (literal.rolls-Enum a, literal.rolls-Enum b) (same_enum e)
roll_same (Open.Variable a) (Open.Variable b) e = rw (literal.rolls-Variable a, literal.rolls-Variable b) (same_variable e)
roll_same (Open.String a) (Open.String b) e = rw (literal.rolls-String a, literal.rolls-String b) (same_string a b e)
roll_same (Open.Float a) (Open.Float b) e = rw (literal.rolls-Float a, literal.rolls-Float b) (same_float e)
roll_same (Open.Int a) (Open.Int b) e = rw (literal.rolls-Int a, literal.rolls-Int b) (same_int e)
roll_same (Open.Boolean a) (Open.Boolean b) e = rw (literal.rolls-Boolean a, literal.rolls-Boolean b, e) same_boolean
roll_same (Open.List a) (Open.List b) e = rw (literal.rolls-List a, literal.rolls-List b) (same_list a b e.0 e.1)
roll_same (Open.Object a) (Open.Object b) e = rw (literal.rolls-Object a, literal.rolls-Object b) (same_object a b e.0 e.1)
roll_same _ _ e = absurd e

-- what a look-up found in a map of it
pub under_map : {X Y : Type 0} (f : X → Y) (o : Option X) (y : Y) → option_map f o ≡ Some y → (x : X) × (o ≡ Some x) × (f x ≡ y)
under_map f None y e = absurd (let h : ⊥ = cc in h)
under_map f (Some x) y e = (x, refl, cc)

found_or : {X : Type 0} (P : X → Type 0) (b : Bool) (y x : X) (o : Option X) → P y → (o ≡ Some x → P x) → cond b (Some y) o ≡ Some x → P x
found_or P true y x o here there e = let same : y ≡ x = cc in subst P same here
found_or P false y x o here there e = there e

-- what holds of each holds of what is found
pub found_holds : {X : Type 0} (P : X → Type 0) (p : X → Bool) (xs : List X) (x : X) → All P xs → find p xs ≡ Some x → P x
found_holds P p [] x all e = absurd (let h : ⊥ = cc in h)
found_holds P p (y ∷ ys) x all e =
    found_or P (p y) y x (find p ys) (All-head P y ys all) (found_holds P p ys x (All-tail P y ys all)) e

abbrev Kept : Type 0
Kept = denote.Hole.Holds.Such the_family (claims (λ v. SameValue v v)) member-Value

abbrev item : Node Kept → Node Value
item n = record { value = record { ptr = n.value.ptr; value = n.value.value.0 }; location = n.location }

abbrev named_item : NameText × Node Kept → NameText × Node Value
named_item e = (e.0, item e.1)

items_themselves : (nodes : List (Node Value)) → All (λ n. SameValue n.value.value n.value.value) nodes →
    (i : ℕ) (x y : Node Value) → slice_get nodes i ≡ Some x → slice_get nodes i ≡ Some y → SameValue x.value.value y.value.value
items_themselves nodes all i x y ex ey =
    let same : x ≡ y = cc in
    subst (λ y. SameValue x.value.value y.value.value) same
    (subst (λ n. SameValue n.value.value n.value.value) (get_or_from_slice_get nodes i x x ex) (all i x (slice_get_within nodes i x ex)))

entries_themselves : (entries : List (NameText × Node Value)) → All (λ e. SameValue e.1.value.value e.1.value.value) entries →
    (name : NameText) (x y : Node Value) → entry_named name entries ≡ Some x → entry_named name entries ≡ Some y → SameValue x.value.value y.value.value
entries_themselves entries all name x y ex ey =
    let same : x ≡ y = cc in
    let found = under_map (λ (e : NameText × Node Value). e.1) (find (λ (e : NameText × Node Value). same_name e.0 name) entries) x ex in
    subst (λ y. SameValue x.value.value y.value.value) same
    (subst (λ n. SameValue n.value.value n.value.value) found.2
    (found_holds (λ e. SameValue e.1.value.value e.1.value.value) (λ e. same_name e.0 name) entries found.0 all found.1))

itself : (y : Open.Value-F Kept) → SameOpen (map-Value Kept Value (λ e. e.0) y) (map-Value Kept Value (λ e. e.0) y)
itself Open.Null = tt
itself (Open.Enum a) = same_name_itself a
itself (Open.Variable a) = same_name_itself a
itself (Open.String a) = refl
itself (Open.Float a) = refl
itself (Open.Int a) = refl
itself (Open.Boolean a) = refl
itself (Open.List ys) = (refl, items_themselves (map item ys.items) (All-map (λ n. SameValue n.value.value n.value.value) item ys.items (λ k d h. (get_or ys.items k d).value.value.1)))
itself (Open.Object ys) = (λ name. refl, entries_themselves (map named_item ys.items) (All-map (λ e. SameValue e.1.value.value e.1.value.value) named_item ys.items (λ k d h. (get_or ys.items k d).1.value.value.1)))

pub same_value_itself : (v : Value) → SameValue v v
same_value_itself = ind-Value (λ v. SameValue v v) (λ x y e.
    subst (λ x. SameValue (roll-Value x) (roll-Value x)) e
    (roll_same (map-Value Kept Value (λ e. e.0) y) (map-Value Kept Value (λ e. e.0) y) (itself y)))

pub closed : (v w : Value) → SameOpen (out-Value v) (out-Value w) → SameValue v w
closed v w e =
    subst (λ v. SameValue v w) (roll-out-Value v)
    (subst (λ w. SameValue (roll-Value (out-Value v)) w) (roll-out-Value w) (roll_same (out-Value v) (out-Value w) e))

-- what is there in one of two look-ups that agree is there in the other
there_too : {X : Type 0} (o p : Option X) (x : X) → is_some o ≡ is_some p → o ≡ Some x → (y : X) × (p ≡ Some y)
there_too o (Some y) x same e = (y, refl)
there_too None None x same e = absurd (let h : ⊥ = cc in h)
there_too (Some z) None x same e = absurd (let h : ⊥ = cc in h)

-- what the same as a value is the same as, so is the value
Passes : Value → Value → Type 0
Passes u v = (o : Open.Value-F Value) → SameOpen (out-Value v) o → SameOpen (out-Value u) o

-- the same of what a look-up finds, and so of what is the same as that
module _ {K : Type 0} (a b c : K → Option (Node Value)) where
  found_then : ((k : K) → is_some (a k) ≡ is_some (b k)) →
      ((k : K) (x y : Node Value) → a k ≡ Some x → b k ≡ Some y → Passes x.value.value y.value.value) →
      ((k : K) (x y : Node Value) → b k ≡ Some x → c k ≡ Some y → SameValue x.value.value y.value.value) →
      (k : K) (x z : Node Value) → a k ≡ Some x → c k ≡ Some z → SameValue x.value.value z.value.value
  unfolding Passes
  found_then there passes each k x z ex ez =
      let y = there_too (a k) (b k) x (there k) ex in
      closed x.value.value z.value.value (passes k x y.0 ex y.1 (out-Value z.value.value) (opened (each k y.0 z y.1 ez)))

-- lists that are as long have items at the same places
as_long : (a b : List (Node Value)) → length a ≡ length b → (i : ℕ) → is_some (slice_get a i) ≡ is_some (slice_get b i)
as_long [] [] e i = refl
as_long [] (y ∷ b) e i = absurd (omega arith)
as_long (x ∷ a) [] e i = absurd (omega arith)
as_long (x ∷ a) (y ∷ b) e zero = refl
as_long (x ∷ a) (y ∷ b) e (suc i) = as_long a b (omega arith) i

name_then : (a b : NameText) → SameName a b → (o : Open.Value-F Value) → SameOpen (Open.Enum b) o → SameOpen (Open.Enum a) o
name_then a b e (Open.Enum c) p = same_name_then a b c e p
name_then a b e _ p = absurd p

variable_then : (a b : NameText) → SameName a b → (o : Open.Value-F Value) → SameOpen (Open.Variable b) o → SameOpen (Open.Variable a) o
variable_then a b e (Open.Variable c) p = same_name_then a b c e p
variable_then a b e _ p = absurd p

string_then : (a b : String Global) → string_bytes a ≡ string_bytes b → (o : Open.Value-F Value) → SameOpen (Open.String b) o → SameOpen (Open.String a) o
string_then a b e (Open.String c) p = e ∙ p
string_then a b e _ p = absurd p

list_then : (a b : Vec (Node Value) Global) → length a.items ≡ length b.items →
    ((i : ℕ) (x y : Node Value) → slice_get a.items i ≡ Some x → slice_get b.items i ≡ Some y → Passes x.value.value y.value.value) →
    (o : Open.Value-F Value) → SameOpen (Open.List b) o → SameOpen (Open.List a) o
list_then a b l passes (Open.List c) p =
    (l ∙ p.0, found_then (slice_get a.items) (slice_get b.items) (slice_get c.items) (as_long a.items b.items l) passes p.1)
list_then a b l passes _ p = absurd p

object_then : (a b : Vec (NameText × Node Value) Global) →
    ((name : NameText) → is_some (entry_named name a.items) ≡ is_some (entry_named name b.items)) →
    ((name : NameText) (x y : Node Value) → entry_named name a.items ≡ Some x → entry_named name b.items ≡ Some y → Passes x.value.value y.value.value) →
    (o : Open.Value-F Value) → SameOpen (Open.Object b) o → SameOpen (Open.Object a) o
object_then a b names passes (Open.Object c) p = (
  λ name. names name ∙ p.0 name,
  found_then (λ name. entry_named name a.items) (λ name. entry_named name b.items) (λ name. entry_named name c.items) names passes p.1,
)
object_then a b names passes _ p = absurd p

same_then : (u v : Value) → SameValue u v → Passes u v
unfolding Passes
same_then _ _ same_null = λ o p. p
same_then _ _ (same_enum {a = a} {b = b} e) = rw (literal.outs-Enum a, literal.outs-Enum b) (name_then a b e)
same_then _ _ (same_variable {a = a} {b = b} e) = rw (literal.outs-Variable a, literal.outs-Variable b) (variable_then a b e)
same_then _ _ (same_string a b e) = rw (literal.outs-String a, literal.outs-String b) (string_then a b e)
same_then _ _ (same_float e) = rw e (λ o p. p)
same_then _ _ (same_int e) = rw e (λ o p. p)
same_then _ _ same_boolean = λ o p. p
same_then _ _ (same_list a b l each) =
    rw (literal.outs-List a, literal.outs-List b) (list_then a b l (λ i x y ex ey. same_then x.value.value y.value.value (each i x y ex ey)))
same_then _ _ (same_object a b names each) =
    rw (literal.outs-Object a, literal.outs-Object b) (object_then a b names (λ name x y ex ey. same_then x.value.value y.value.value (each name x y ex ey)))

pub same_value_then : (u v w : Value) → SameValue u v → SameValue v w → SameValue u w
unfolding Passes
same_value_then u v w p q = closed u w (same_then u v p (out-Value w) (opened q))

pub same_arguments_itself : (given : List (Node Argument)) → SameArguments given given
same_arguments_itself given = record {
  names = λ name. refl;
  values = λ name x y ex ey.
      let same : x ≡ y = cc in
      subst (λ y. SameValue x.value.value.value.value.value y.value.value.value.value.value) same (same_value_itself x.value.value.value.value.value);
}

pub same_arguments_back : (a b : List (Node Argument)) → SameArguments a b → SameArguments b a
same_arguments_back a b same = record {
  names = λ name. sym (same.names name);
  values = λ name x y ex ey. same_value_back _ _ (same.values name y x ey ex);
}

pub same_arguments_then : (a b c : List (Node Argument)) → SameArguments a b → SameArguments b c → SameArguments a c
same_arguments_then a b c ab bc = record {
  names = λ name. ab.names name ∙ bc.names name;
  values = λ name x z ex ez.
      let y = there_too (argument_named name a) (argument_named name b) x (ab.names name) ex in
      same_value_then _ _ _ (ab.values name x y.0 ex y.1) (bc.values name y.0 z y.1 ez);
}

-- a leaf type has no null
null_is_no_leaf : (d : ExtendedType) → ¬ AcceptsLeaf d literal.Null
null_is_no_leaf d h = h

-- a list or an object is not null
list_is_not_null : (items : Vec (Node Value) Global) → ¬ (literal.List items ≡ literal.Null)
list_is_not_null items e =
    let opens : Open.List items ≡ Open.Null = sym (literal.outs-List items) ∙ ap out-Value e ∙ literal.outs-Null in
    let h : ⊥ = cc in h

object_is_not_null : (entries : Vec (NameText × Node Value) Global) → ¬ (literal.Object entries ≡ literal.Null)
object_is_not_null entries e =
    let opens : Open.Object entries ≡ Open.Null = sym (literal.outs-Object entries) ∙ ap out-Value e ∙ literal.outs-Null in
    let h : ⊥ = cc in h

not_accepted : {schema : Schema} {variables : List (Node VariableDefinition)} {ty : «Type»} {value : Value} → Accepts schema variables ty value →
    (d : ExtendedType) → type_definition schema (inner_named_type ty) ≡ Some d → IsTrue (is_non_null ty) → ¬ (value ≡ literal.Null)
not_accepted (accepts_undefined none) d is non_null null = let h : ⊥ = cc in h
not_accepted (accepts_null may_be) d is non_null null = let h : ⊥ = cc in h
not_accepted (accepts_variable {name = name} a b c e) d is non_null null =
    let opens : Open.Variable name ≡ Open.Null = sym (literal.outs-Variable name) ∙ ap out-Value null ∙ literal.outs-Null in
    let h : ⊥ = cc in h
not_accepted (accepts_leaf {d = leaf} a b) d is non_null null = null_is_no_leaf leaf (subst (AcceptsLeaf leaf) null b)
not_accepted (accepts_list items a b c e) d is non_null null = list_is_not_null items null
not_accepted (accepts_custom_object entries a b) d is non_null null = object_is_not_null entries null
not_accepted (accepts_object entries a b c e) d is non_null null = object_is_not_null entries null

pub null_not_accepted : (schema : Schema) (variables : List (Node VariableDefinition)) (ty : «Type») (d : ExtendedType) →
    type_definition schema (inner_named_type ty) ≡ Some d → IsTrue (is_non_null ty) → ¬ Accepts schema variables ty literal.Null
null_not_accepted schema variables ty d is non_null accepts = not_accepted accepts d is non_null refl
