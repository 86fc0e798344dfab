-- Numbers of values: one for the same values, and different ones for others; and a table to which more is added.
use Rattle.std.proofs.Common.{◌≡◌, ℕ, zero, suc, Bool, true, false, List, [], ◌∷◌, ◌++◌, Option, Some, None, Vec, length, nat_eq, refl, sym, ap, ◌∙◌, subst, arith}
use Rattle.std.specs.Prelude.{IsTrue, is_some, option_map, slice_get}
use Rattle.std.specs.Cmp.{IsEquivalence}
use Rattle.std.specs.List.{AllByRecursion, IsDistinct}
use Rattle.std.proofs.lemmas.Bool.{eq-eqb, eqb-true}
use Rattle.std.proofs.lemmas.List.{append-nil, append_assoc}
use lib.Pointwise.{pointwise}
use Rattle.graphql_documents.proofs.ValueContentLemmas.{and, both, equality_of_values}
use Rattle.graphql_documents.specs.Values.{IsCopy, SameValue, copy_of_boolean, copy_of_enum, copy_of_float, copy_of_int, copy_of_null, copy_of_string, copy_of_variable, entry_named, same_boolean, same_enum, same_float, same_int, same_list, same_null, same_object, same_string, same_variable}
use Rattle.graphql_documents.specs.Directives.{argument_named}
use Rattle.graphql_documents.specs.declared.documents.directives.Argument.{Argument}
use Rattle.graphql_documents.specs.declared.documents.values.Value.{Value, out-Value, roll-Value, roll-out-Value}
use Rattle.graphql_documents.specs.declared.documents.values.Value.TheOpen as Open
use Rattle.graphql_documents.specs.declared.documents.values.Value.TheVariants as literal
use Rattle.graphql_laws.proofs.ValueContentsLaws.{equal_values_are_same}
use Rattle.graphql_laws.proofs.ValueLaws.{SameOpen, opened, same_value_back}
use Rattle.graphql_laws.specs.Equality.{value_equality}
use Rattle.graphql_nodes.specs.Names.{NameText}
use Rattle.graphql_nodes.specs.declared.nodes.Node.{Node}
use Rattle.graphql_value_numbers.proofs.NamedNumberLemmas.{equal_from_under, same_numbers, same_under}
use Rattle.graphql_specification.specs.Merging.{SameArguments}
use Rattle.graphql_value_numbers.specs.Arguments.{HaveNumber, value_named}
use Rattle.graphql_value_numbers.specs.NamedNumbers.{number_under}
use Rattle.graphql_value_numbers.specs.Numbers.{AreItemsNumbered, AreNumbered, Grows, HasNumber, IsAt, IsTable, is_leaf, leaf_number, list_number, object_number, same_shape}
use Rattle.graphql_value_numbers.specs.contracts.shapes.ShapeEq.TheImpl.Laws as shape_eq_laws
use Rattle.graphql_value_numbers.specs.declared.named_numbers.NamedNumbers.{NamedNumbers}
use Rattle.graphql_value_numbers.specs.declared.shapes.Shape.{Shape}
use Rattle.graphql_value_numbers.specs.declared.shapes.Shape.TheVariants as shape
use Rattle.std.specs.Borrow.{Bor}
use Rattle.std.specs.declared.alloc.Global.{Global}

-- ==== shapes at places

is_equivalence : IsEquivalence same_shape
is_equivalence = shape_eq_laws.laws-law

same_back : (s t : Shape) → IsTrue (same_shape s t) → IsTrue (same_shape t s)
same_back s t h = is_equivalence.symm t s ∙ h

same_then : (s t u : Shape) → IsTrue (same_shape s t) → IsTrue (same_shape t u) → IsTrue (same_shape s u)
same_then s t u st tu = is_equivalence.congr s t u st ∙ tu

-- two shapes with one number are equal
equal_at : (shapes : List Shape) (s t : Shape) (n : ℕ) → IsAt shapes s n → IsAt shapes t n → IsTrue (same_shape s t)
equal_at shapes s t n of_s of_t =
    let one : of_s.stored ≡ of_t.stored = let both_at : Some of_s.stored ≡ Some of_t.stored = sym of_s.at ∙ of_t.at in cc in
    same_then s of_s.stored t of_s.same (subst (λ x. IsTrue (same_shape x t)) (sym one) (same_back t of_t.stored of_t.same))

none_equal : (s : Shape) (shapes : List Shape) (n : ℕ) (t : Shape) → AllByRecursion (λ t. same_shape s t ≡ false) shapes → slice_get shapes n ≡ Some t →
    IsTrue (same_shape s t) → ⊥
none_equal s [] n t all e h = let no : ⊥ = cc in no
none_equal s (x ∷ xs) zero t all e h =
    let own : x ≡ t = cc in
    let other : same_shape s t ≡ false = subst (λ y. same_shape s y ≡ false) own all.0 in
    let no : ⊥ = cc in
    no
none_equal s (x ∷ xs) (suc n) t all e h = none_equal s xs n t all.1 e h

-- in a table, equal shapes stand at one place
one_place : (shapes : List Shape) → IsTable shapes → (m n : ℕ) (s t : Shape) → slice_get shapes m ≡ Some s → slice_get shapes n ≡ Some t →
    IsTrue (same_shape s t) → m ≡ n
unfolding IsDistinct
one_place [] table m n s t em en h = absurd (let no : ⊥ = cc in no)
one_place (x ∷ xs) table zero zero s t em en h = refl
one_place (x ∷ xs) table zero (suc n) s t em en h =
    let own : x ≡ s = cc in
    absurd (none_equal x xs n t table.0 en (subst (λ y. IsTrue (same_shape y t)) (sym own) h))
one_place (x ∷ xs) table (suc m) zero s t em en h =
    let own : x ≡ t = cc in
    absurd (none_equal x xs m s table.0 em (subst (λ y. IsTrue (same_shape y s)) (sym own) (same_back s t h)))
one_place (x ∷ xs) table (suc m) (suc n) s t em en h = ap suc (one_place xs table.1 m n s t em en h)

number_of_shape : (shapes : List Shape) → IsTable shapes → (s t : Shape) (m n : ℕ) → IsAt shapes s m → IsAt shapes t n → IsTrue (same_shape s t) → m ≡ n
number_of_shape shapes table s t m n of_s of_t same =
    one_place shapes table m n of_s.stored of_t.stored of_s.at of_t.at
    (same_then of_s.stored s of_t.stored (same_back s of_s.stored of_s.same) (same_then s t of_t.stored same of_t.same))

-- ==== lists and look-ups

there_too : {X Y : Type 0} (o : Option X) (p : Option Y) (x : X) → is_some o ≡ is_some p → o ≡ Some x → (y : Y) × (p ≡ Some y)
there_too o (Some y) x same e = (y, refl)
there_too None None x same e = absurd (let no : ⊥ = cc in no)
there_too (Some z) None x same e = absurd (let no : ⊥ = cc in no)

as_long : {X Y : Type 0} (xs : List X) (ys : List Y) → length xs ≡ length ys → (i : ℕ) → is_some (slice_get xs i) ≡ is_some (slice_get ys i)
as_long [] [] e i = refl
as_long [] (y ∷ ys) e i = absurd (omega arith)
as_long (x ∷ xs) [] e i = absurd (omega arith)
as_long (x ∷ xs) (y ∷ ys) e zero = refl
as_long (x ∷ xs) (y ∷ ys) e (suc i) = as_long xs ys (omega arith) i

lists_alike : (ms ns : List ℕ) → length ms ≡ length ns → ((i m n : ℕ) → slice_get ms i ≡ Some m → slice_get ns i ≡ Some n → m ≡ n) → IsTrue (pointwise nat_eq ms ns)
lists_alike [] [] l each = refl
lists_alike [] (n ∷ ns) l each = absurd (omega arith)
lists_alike (m ∷ ms) [] l each = absurd (omega arith)
lists_alike (m ∷ ms) (n ∷ ns) l each = and _ _ (eq-eqb m n (each 0 m n refl refl)) (lists_alike ms ns (omega arith) (λ i. each (suc i)))

same_lists : (ms ns : List ℕ) → IsTrue (pointwise nat_eq ms ns) → ms ≡ ns
same_lists [] [] h = refl
same_lists [] (n ∷ ns) h = absurd (let no : ⊥ = cc in no)
same_lists (m ∷ ms) [] h = absurd (let no : ⊥ = cc in no)
same_lists (m ∷ ms) (n ∷ ns) h =
    let parts = both (nat_eq m n) (pointwise nat_eq ms ns) h in
    λ i. eqb-true m n parts.0 i ∷ same_lists ms ns parts.1 i

options_alike : (o p : Option ℕ) → is_some o ≡ is_some p → ((m n : ℕ) → o ≡ Some m → p ≡ Some n → m ≡ n) → o ≡ p
options_alike None None e each = refl
options_alike None (Some n) e each = absurd (let no : ⊥ = cc in no)
options_alike (Some m) None e each = absurd (let no : ⊥ = cc in no)
options_alike (Some m) (Some n) e each = ap Some (each m n refl refl)

-- ==== leaves

-- a leaf by the constructor that it opens to
abbrev open_leaf : Open.Value-F Value → Bool
open_leaf (Open.List items) = false
open_leaf (Open.Object entries) = false
open_leaf _ = true

leaf_opened : (v : Value) → is_leaf v ≡ open_leaf (out-Value v)
unfolding out-Value denote.Hole.Carrier.out
leaf_opened literal.Null = refl
leaf_opened (literal.Enum name) = refl
leaf_opened (literal.Variable name) = refl
leaf_opened (literal.String text) = refl
leaf_opened (literal.Float number) = refl
leaf_opened (literal.Int number) = refl
leaf_opened (literal.Boolean truth) = refl
leaf_opened (literal.List' shape items) = refl
leaf_opened (literal.Object' shape entries) = refl

list_no_leaf : (items : Vec (Node Value) Global) → is_leaf (literal.List items) ≡ false
list_no_leaf items = leaf_opened (literal.List items) ∙ ap open_leaf (literal.outs-List items)

object_no_leaf : (entries : Vec (NameText × Node Value) Global) → is_leaf (literal.Object entries) ≡ false
object_no_leaf entries = leaf_opened (literal.Object entries) ∙ ap open_leaf (literal.outs-Object entries)

-- what is no list and no object is a leaf
pub other_is_leaf : (v : Value) → ((items : Vec (Node Value) Global) → v ≡ literal.List items → ⊥) →
    ((entries : Vec (NameText × Node Value) Global) → v ≡ literal.Object entries → ⊥) → IsTrue (is_leaf v)
other_is_leaf v no_list no_object = leaf_opened v ∙ by (out-Value v) refl where
  by : (o : Open.Value-F Value) → out-Value v ≡ o → IsTrue (open_leaf o)
  by (Open.List items) e = absurd (no_list items (sym (roll-out-Value v) ∙ ap roll-Value e ∙ literal.rolls-List items))
  by (Open.Object entries) e = absurd (no_object entries (sym (roll-out-Value v) ∙ ap roll-Value e ∙ literal.rolls-Object entries))
  by _ e = refl

-- equality compares leaves by what they are
same_leaves : {v w : Value} → SameValue v w → IsTrue (is_leaf v) → IsTrue (value_equality v w)
same_leaves {v} {w} same leaf = (equality_of_values v w).1 (copy same leaf) where
  copy : {v w : Value} → SameValue v w → IsTrue (is_leaf v) → IsCopy v w
  copy same_null leaf = copy_of_null
  copy (same_enum e) leaf = copy_of_enum e
  copy (same_variable e) leaf = copy_of_variable e
  copy (same_string a b e) leaf = copy_of_string a b e
  copy (same_float e) leaf = copy_of_float e
  copy (same_int e) leaf = copy_of_int e
  copy same_boolean leaf = copy_of_boolean
  copy (same_list a b l each) leaf = absurd (let none = list_no_leaf a in let no : ⊥ = cc in no)
  copy (same_object a b names each) leaf = absurd (let none = object_no_leaf a in let no : ⊥ = cc in no)

-- ==== what shapes are equal

equal_leaves : (a b : Bor Value) → IsTrue (same_shape (shape.Leaf a) (shape.Leaf b)) → IsTrue (value_equality a.now b.now)
equal_leaves a b h = h

leaves_equal : (a b : Bor Value) → IsTrue (value_equality a.now b.now) → IsTrue (same_shape (shape.Leaf a) (shape.Leaf b))
leaves_equal a b h = h

equal_lists : (a b : Vec ℕ Global) → IsTrue (same_shape (shape.List a) (shape.List b)) → a.items ≡ b.items
equal_lists a b h = same_lists a.items b.items h

lists_equal : (a b : Vec ℕ Global) → IsTrue (pointwise nat_eq a.items b.items) → IsTrue (same_shape (shape.List a) (shape.List b))
lists_equal a b h = h

equal_objects : (a b : NamedNumbers) → IsTrue (same_shape (shape.Object a) (shape.Object b)) → (name : NameText) → number_under a name ≡ number_under b name
equal_objects a b h = same_under a b h

objects_equal : (a b : NamedNumbers) → IsTrue (same_numbers a b) → IsTrue (same_shape (shape.Object a) (shape.Object b))
objects_equal a b h = h

-- ==== the laws

-- what has one number is the same
pub equal_numbers : (shapes : List Shape) (v w : Value) (n : ℕ) → HasNumber shapes v n → HasNumber shapes w n → SameValue v w
equal_numbers shapes v w n (leaf_number a own_a leaf_a at_a) (leaf_number b own_b leaf_b at_b) =
    subst (λ v. SameValue v w) own_a
    (subst (SameValue a.now) own_b (equal_values_are_same a.now b.now (equal_leaves a b (equal_at shapes (shape.Leaf a) (shape.Leaf b) n at_a at_b))))
equal_numbers shapes v w n (list_number xs ks is_v long_x each_x at_x) (list_number ys ls is_w long_y each_y at_y) =
    let one = equal_lists ks ls (equal_at shapes (shape.List ks) (shape.List ls) n at_x at_y) in
    subst (λ v. SameValue v w) (sym is_v)
    (subst (SameValue (literal.List xs)) (sym is_w)
    (same_list xs ys (long_x ∙ ap length one ∙ sym long_y)
    (λ i x y ex ey.
    let k = there_too (slice_get xs.items i) (slice_get ks.items i) x (as_long xs.items ks.items long_x i) ex in
    equal_numbers shapes x.value.value y.value.value k.0 (each_x i x k.0 ex k.1)
    (each_y i y k.0 ey (subst (λ l. slice_get l i ≡ Some k.0) one k.1)))))
equal_numbers shapes v w n (object_number xs ks is_v ordered_x names_x each_x at_x) (object_number ys ls is_w ordered_y names_y each_y at_y) =
    let one = equal_objects ks ls (equal_at shapes (shape.Object ks) (shape.Object ls) n at_x at_y) in
    subst (λ v. SameValue v w) (sym is_v)
    (subst (SameValue (literal.Object xs)) (sym is_w)
    (same_object xs ys (λ name. names_x name ∙ ap is_some (one name) ∙ sym (names_y name))
    (λ name x y ex ey.
    let k = there_too (entry_named name xs.items) (number_under ks name) x (names_x name) ex in
    equal_numbers shapes x.value.value y.value.value k.0 (each_x name x k.0 ex k.1)
    (each_y name y k.0 ey (sym (one name) ∙ k.1)))))
equal_numbers shapes v w n (leaf_number a own_a leaf_a at_a) (list_number ys ls is_w long_y each_y at_y) =
    absurd (let same = equal_at shapes (shape.Leaf a) (shape.List ls) n at_a at_y in let no : ⊥ = cc in no)
equal_numbers shapes v w n (leaf_number a own_a leaf_a at_a) (object_number ys ls is_w ordered_y names_y each_y at_y) =
    absurd (let same = equal_at shapes (shape.Leaf a) (shape.Object ls) n at_a at_y in let no : ⊥ = cc in no)
equal_numbers shapes v w n (list_number xs ks is_v long_x each_x at_x) (leaf_number b own_b leaf_b at_b) =
    absurd (let same = equal_at shapes (shape.List ks) (shape.Leaf b) n at_x at_b in let no : ⊥ = cc in no)
equal_numbers shapes v w n (list_number xs ks is_v long_x each_x at_x) (object_number ys ls is_w ordered_y names_y each_y at_y) =
    absurd (let same = equal_at shapes (shape.List ks) (shape.Object ls) n at_x at_y in let no : ⊥ = cc in no)
equal_numbers shapes v w n (object_number xs ks is_v ordered_x names_x each_x at_x) (leaf_number b own_b leaf_b at_b) =
    absurd (let same = equal_at shapes (shape.Object ks) (shape.Leaf b) n at_x at_b in let no : ⊥ = cc in no)
equal_numbers shapes v w n (object_number xs ks is_v ordered_x names_x each_x at_x) (list_number ys ls is_w long_y each_y at_y) =
    absurd (let same = equal_at shapes (shape.Object ks) (shape.List ls) n at_x at_y in let no : ⊥ = cc in no)

-- a list or an object is not the same as a leaf
opened_list : (items : Vec (Node Value) Global) (o : Open.Value-F Value) → SameOpen (Open.List items) o → open_leaf o ≡ false
opened_list items (Open.List others) e = refl
opened_list items _ e = absurd e

opened_object : (entries : Vec (NameText × Node Value) Global) (o : Open.Value-F Value) → SameOpen (Open.Object entries) o → open_leaf o ≡ false
opened_object entries (Open.Object others) e = refl
opened_object entries _ e = absurd e

list_same : (items : Vec (Node Value) Global) (v w : Value) → v ≡ literal.List items → SameValue v w → is_leaf w ≡ false
list_same items v w is same =
    let first : out-Value v ≡ Open.List items = ap out-Value is ∙ literal.outs-List items in
    leaf_opened w ∙ opened_list items (out-Value w) (subst (λ o. SameOpen o (out-Value w)) first (opened same))

object_same : (entries : Vec (NameText × Node Value) Global) (v w : Value) → v ≡ literal.Object entries → SameValue v w → is_leaf w ≡ false
object_same entries v w is same =
    let first : out-Value v ≡ Open.Object entries = ap out-Value is ∙ literal.outs-Object entries in
    leaf_opened w ∙ opened_object entries (out-Value w) (subst (λ o. SameOpen o (out-Value w)) first (opened same))

-- what two values that are the same open to
opened_as : (v w : Value) (x y : Open.Value-F Value) → out-Value v ≡ x → out-Value w ≡ y → SameValue v w → SameOpen x y
opened_as v w x y of_v of_w same = subst (SameOpen x) of_w (subst (λ o. SameOpen o (out-Value w)) of_v (opened same))

-- in a table, the same values have one number
pub one_number : (shapes : List Shape) → IsTable shapes → (v w : Value) (m n : ℕ) → HasNumber shapes v m → HasNumber shapes w n → SameValue v w → m ≡ n
one_number shapes table v w m n (leaf_number a own_a leaf_a at_a) (leaf_number b own_b leaf_b at_b) same =
    let equal : IsTrue (value_equality a.now b.now) =
    subst (λ z. IsTrue (value_equality z b.now)) (sym own_a) (subst (λ z. IsTrue (value_equality v z)) (sym own_b) (same_leaves same leaf_a)) in
    number_of_shape shapes table (shape.Leaf a) (shape.Leaf b) m n at_a at_b (leaves_equal a b equal)
one_number shapes table v w m n (list_number xs ks is_v long_x each_x at_x) (list_number ys ls is_w long_y each_y at_y) same =
    let parts = opened_as v w (Open.List xs) (Open.List ys) (ap out-Value is_v ∙ literal.outs-List xs) (ap out-Value is_w ∙ literal.outs-List ys) same in
    number_of_shape shapes table (shape.List ks) (shape.List ls) m n at_x at_y
    (lists_equal ks ls (lists_alike ks.items ls.items (sym long_x ∙ parts.0 ∙ long_y)
    (λ i k l ek el.
    let x = there_too (slice_get ks.items i) (slice_get xs.items i) k (sym (as_long xs.items ks.items long_x i)) ek in
    let y = there_too (slice_get ls.items i) (slice_get ys.items i) l (sym (as_long ys.items ls.items long_y i)) el in
    one_number shapes table x.0.value.value y.0.value.value k l (each_x i x.0 k x.1 ek) (each_y i y.0 l y.1 el) (parts.1 i x.0 y.0 x.1 y.1))))
one_number shapes table v w m n (object_number xs ks is_v ordered_x names_x each_x at_x) (object_number ys ls is_w ordered_y names_y each_y at_y) same =
    let parts = opened_as v w (Open.Object xs) (Open.Object ys) (ap out-Value is_v ∙ literal.outs-Object xs) (ap out-Value is_w ∙ literal.outs-Object ys) same in
    number_of_shape shapes table (shape.Object ks) (shape.Object ls) m n at_x at_y
    (objects_equal ks ls (equal_from_under ks ls ordered_x ordered_y
    (λ name. options_alike (number_under ks name) (number_under ls name) (sym (names_x name) ∙ parts.0 name ∙ names_y name)
    (λ k l ek el.
    let x = there_too (number_under ks name) (entry_named name xs.items) k (sym (names_x name)) ek in
    let y = there_too (number_under ls name) (entry_named name ys.items) l (sym (names_y name)) el in
    one_number shapes table x.0.value.value y.0.value.value k l (each_x name x.0 k x.1 ek) (each_y name y.0 l y.1 el) (parts.1 name x.0 y.0 x.1 y.1)))))
one_number shapes table v w m n (leaf_number a own_a leaf_a at_a) (list_number ys ls is_w long_y each_y at_y) same =
    absurd (let other = list_same ys w v is_w (same_value_back v w same) in let no : ⊥ = cc in no)
one_number shapes table v w m n (leaf_number a own_a leaf_a at_a) (object_number ys ls is_w ordered_y names_y each_y at_y) same =
    absurd (let other = object_same ys w v is_w (same_value_back v w same) in let no : ⊥ = cc in no)
one_number shapes table v w m n (list_number xs ks is_v long_x each_x at_x) (leaf_number b own_b leaf_b at_b) same =
    absurd (let other = list_same xs v w is_v same in let no : ⊥ = cc in no)
one_number shapes table v w m n (list_number xs ks is_v long_x each_x at_x) (object_number ys ls is_w ordered_y names_y each_y at_y) same =
    absurd (opened_as v w (Open.List xs) (Open.Object ys) (ap out-Value is_v ∙ literal.outs-List xs) (ap out-Value is_w ∙ literal.outs-Object ys) same)
one_number shapes table v w m n (object_number xs ks is_v ordered_x names_x each_x at_x) (leaf_number b own_b leaf_b at_b) same =
    absurd (let other = object_same xs v w is_v same in let no : ⊥ = cc in no)
one_number shapes table v w m n (object_number xs ks is_v ordered_x names_x each_x at_x) (list_number ys ls is_w long_y each_y at_y) same =
    absurd (opened_as v w (Open.Object xs) (Open.List ys) (ap out-Value is_v ∙ literal.outs-Object xs) (ap out-Value is_w ∙ literal.outs-List ys) same)

-- ==== a table that grows

at_left : {X : Type 0} (xs ys : List X) (n : ℕ) (x : X) → slice_get xs n ≡ Some x → slice_get (xs ++ ys) n ≡ Some x
at_left [] ys n x e = absurd (let no : ⊥ = cc in no)
at_left (x ∷ xs) ys zero y e = e
at_left (x ∷ xs) ys (suc n) y e = at_left xs ys n y e

shape_stays : (shapes more : List Shape) (s : Shape) (n : ℕ) → IsAt shapes s n → IsAt (shapes ++ more) s n
shape_stays shapes more s n is = record { stored = is.stored; at = at_left shapes more n is.stored is.at; same = is.same }

-- numbers stay where shapes are added
pub number_stays : (shapes more : List Shape) (v : Value) (n : ℕ) → HasNumber shapes v n → HasNumber (shapes ++ more) v n
number_stays shapes more v n (leaf_number a own leaf at) = leaf_number a own leaf (shape_stays shapes more (shape.Leaf a) n at)
number_stays shapes more v n (list_number xs ks is long each at) =
    list_number xs ks is long (λ i x k ex ek. number_stays shapes more x.value.value k (each i x k ex ek)) (shape_stays shapes more (shape.List ks) n at)
number_stays shapes more v n (object_number xs ks is ordered names each at) =
    object_number xs ks is ordered names (λ name x k ex ek. number_stays shapes more x.value.value k (each name x k ex ek))
    (shape_stays shapes more (shape.Object ks) n at)

pub grown_number : (old new : List Shape) → Grows old new → (v : Value) (n : ℕ) → HasNumber old v n → HasNumber new v n
grown_number old new grows v n has = subst (λ shapes. HasNumber shapes v n) (sym grows.1) (number_stays old grows.0 v n has)

pub grown_items : (old new : List Shape) → Grows old new → (items : List (Node Value)) (numbers : List ℕ) → AreItemsNumbered old items numbers → AreItemsNumbered new items numbers
grown_items old new grows items numbers are = record {
  as_long = are.as_long;
  each = λ i x k ex ek. grown_number old new grows x.value.value k (are.each i x k ex ek);
}

pub grown_named : (old new : List Shape) → Grows old new → (value_of : NameText → Option (Node Value)) (numbers : NamedNumbers) → AreNumbered old value_of numbers →
    AreNumbered new value_of numbers
grown_named old new grows value_of numbers are = record {
  ordered = are.ordered;
  names = are.names;
  values = λ name x k ex ek. grown_number old new grows x.value.value k (are.values name x k ex ek);
}

-- ==== arguments

is_mapped : {X Y : Type 0} (f : X → Y) (o : Option X) → is_some (option_map f o) ≡ is_some o
is_mapped f None = refl
is_mapped f (Some x) = refl

abbrev value_of : Node Argument → Node Value
value_of x = x.value.value.value

named_there : (xs : List (Node Argument)) (name : NameText) → is_some (value_named xs name) ≡ is_some (argument_named name xs)
named_there xs name = is_mapped value_of (argument_named name xs)

named_is : (xs : List (Node Argument)) (name : NameText) (x : Node Argument) → argument_named name xs ≡ Some x → value_named xs name ≡ Some (value_of x)
named_is xs name x e = ap (option_map value_of) e

-- arguments with one number are the same
pub equal_arguments : (shapes : List Shape) (xs ys : List (Node Argument)) (n : ℕ) → HaveNumber shapes xs n → HaveNumber shapes ys n → SameArguments xs ys
equal_arguments shapes xs ys n of_x of_y =
    let one = equal_objects of_x.numbers of_y.numbers (equal_at shapes (shape.Object of_x.numbers) (shape.Object of_y.numbers) n of_x.at of_y.at) in
    record {
      names = λ name.
          sym (named_there xs name) ∙ of_x.are.names name ∙ ap is_some (one name) ∙ sym (of_y.are.names name) ∙ named_there ys name;
      values = λ name x y ex ey.
          let is_x = named_is xs name x ex in
          let k = there_too (value_named xs name) (number_under of_x.numbers name) (value_of x) (of_x.are.names name) is_x in
          equal_numbers shapes (value_of x).value.value (value_of y).value.value k.0 (of_x.are.values name (value_of x) k.0 is_x k.1)
          (of_y.are.values name (value_of y) k.0 (named_is ys name y ey) (sym (one name) ∙ k.1));
    }

-- in a table, the same arguments have one number
pub one_arguments_number : (shapes : List Shape) → IsTable shapes → (xs ys : List (Node Argument)) (m n : ℕ) → HaveNumber shapes xs m → HaveNumber shapes ys n →
    SameArguments xs ys → m ≡ n
one_arguments_number shapes table xs ys m n of_x of_y same =
    let ks = of_x.numbers in
    let ls = of_y.numbers in
    number_of_shape shapes table (shape.Object ks) (shape.Object ls) m n of_x.at of_y.at
    (objects_equal ks ls (equal_from_under ks ls of_x.are.ordered of_y.are.ordered
    (λ name. options_alike (number_under ks name) (number_under ls name)
    (sym (of_x.are.names name) ∙ named_there xs name ∙ same.names name ∙ sym (named_there ys name) ∙ of_y.are.names name)
    (λ k l ek el.
    let x = there_too (number_under ks name) (argument_named name xs) k (sym (of_x.are.names name) ∙ named_there xs name) ek in
    let y = there_too (number_under ls name) (argument_named name ys) l (sym (of_y.are.names name) ∙ named_there ys name) el in
    one_number shapes table (value_of x.0).value.value (value_of y.0).value.value k l
    (of_x.are.values name (value_of x.0) k (named_is xs name x.0 x.1) ek) (of_y.are.values name (value_of y.0) l (named_is ys name y.0 y.1) el)
    (same.values name x.0 y.0 x.1 y.1)))))

pub grown_arguments : (old new : List Shape) → Grows old new → (xs : List (Node Argument)) (n : ℕ) → HaveNumber old xs n → HaveNumber new xs n
grown_arguments old new grows xs n of_x = record {
  numbers = of_x.numbers;
  are = grown_named old new grows (value_named xs) of_x.numbers of_x.are;
  at = subst (λ shapes. IsAt shapes (shape.Object of_x.numbers) n) (sym grows.1) (shape_stays old grows.0 (shape.Object of_x.numbers) n of_x.at);
}

-- ==== growth

pub grows_then : (old between new : List Shape) → Grows old between → Grows between new → Grows old new
grows_then old between new first second =
    (first.0 ++ second.0, second.1 ∙ ap (λ l. l ++ second.0) first.1 ∙ append_assoc old first.0 second.0)

pub grows_none : (shapes : List Shape) → Grows shapes shapes
grows_none shapes = ([], sym (append-nil shapes))
