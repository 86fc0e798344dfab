-- What one more item, entry or argument adds to those that have numbers, and the numbers of values by those in them.
use Rattle.std.proofs.Common.{◌≡◌, ℕ, zero, suc, Bool, true, false, List, [], ◌∷◌, ◌++◌, Option, Some, None, Ok, Err, Vec, cond, find, length, refl, sym, ap, ◌∙◌, subst, arith}
use Rattle.std.specs.Prelude.{IfOk, IsTrue, Result, is_some, option_map, slice_get}
use Rattle.std.specs.Borrow.{Bor}
use Rattle.std.specs.Option.{option_or}
use Rattle.std.specs.Str.{bytes_eq}
use Rattle.std.specs.declared.alloc.Global.{Global}
use Rattle.graphql_documents.specs.Values.{entry_named}
use Rattle.graphql_documents.specs.declared.documents.directives.Argument.{Argument}
use Rattle.graphql_documents.specs.declared.documents.values.Value.{Value}
use Rattle.graphql_documents.specs.declared.documents.values.Value.TheVariants as literal
use Rattle.graphql_nodes.proofs.NameLemmas.{same_text}
use Rattle.graphql_nodes.specs.Names.{NameText, SameName, same_name}
use Rattle.graphql_nodes.specs.declared.nodes.Node.{Node}
use Rattle.graphql_value_numbers.proofs.NumberLaws.{grown_items, grown_named}
use Rattle.graphql_value_numbers.specs.Arguments.{AreArgumentsNumbered, HaveNumber, value_named}
use Rattle.graphql_value_numbers.specs.NamedNumbers.{AreOrdered, number_under}
use Rattle.graphql_value_numbers.specs.Numbers.{AreEntriesNumbered, AreItemsNumbered, AreNumbered, Grows, HasNumber, IsAt, is_leaf, leaf_number, list_number, object_number}
use Rattle.graphql_value_numbers.specs.declared.named_numbers.NamedNumbers.{NamedNumbers}
use Rattle.graphql_value_numbers.specs.declared.shapes.Shape.{Shape}
use Rattle.graphql_value_numbers.specs.declared.shapes.Shape.TheVariants as shape

-- ==== one more item

pub no_items : (shapes : List Shape) → AreItemsNumbered shapes [] []
no_items shapes = record {
  as_long = refl;
  each = λ i x k ex ek. absurd (let no : ⊥ = cc in no);
}

more_each : (shapes : List Shape) (xs : List (Node Value)) (ns : List ℕ) (x : Node Value) (n : ℕ) → length xs ≡ length ns →
    ((i : ℕ) (y : Node Value) (k : ℕ) → slice_get xs i ≡ Some y → slice_get ns i ≡ Some k → HasNumber shapes y.value.value k) → HasNumber shapes x.value.value n →
    (i : ℕ) (y : Node Value) (k : ℕ) → slice_get (xs ++ x ∷ []) i ≡ Some y → slice_get (ns ++ n ∷ []) i ≡ Some k → HasNumber shapes y.value.value k
more_each shapes [] [] x n long each has zero y k ey ek =
    let own : x ≡ y = cc in
    let number : n ≡ k = cc in
    subst (λ (z : Node Value). HasNumber shapes z.value.value k) own (subst (HasNumber shapes x.value.value) number has)
more_each shapes [] [] x n long each has (suc i) y k ey ek = absurd (let no : ⊥ = cc in no)
more_each shapes [] (m ∷ ns) x n long each has i y k ey ek = absurd (omega arith)
more_each shapes (z ∷ xs) [] x n long each has i y k ey ek = absurd (omega arith)
more_each shapes (z ∷ xs) (m ∷ ns) x n long each has zero y k ey ek = each 0 y k ey ek
more_each shapes (z ∷ xs) (m ∷ ns) x n long each has (suc i) y k ey ek =
    more_each shapes xs ns x n (omega arith) (λ i. each (suc i)) has i y k ey ek

as_long_more : {X : Type 0} (xs : List X) (ns : List ℕ) (x : X) (n : ℕ) → length xs ≡ length ns → length (xs ++ x ∷ []) ≡ length (ns ++ n ∷ [])
as_long_more [] [] x n e = refl
as_long_more [] (m ∷ ns) x n e = absurd (omega arith)
as_long_more (z ∷ xs) [] x n e = absurd (omega arith)
as_long_more (z ∷ xs) (m ∷ ns) x n e = ap suc (as_long_more xs ns x n (omega arith))

pub one_more_item : (shapes : List Shape) (xs : List (Node Value)) (ns : List ℕ) (x : Node Value) (n : ℕ) → AreItemsNumbered shapes xs ns → HasNumber shapes x.value.value n →
    AreItemsNumbered shapes (xs ++ x ∷ []) (ns ++ n ∷ [])
one_more_item shapes xs ns x n are has = record {
  as_long = as_long_more xs ns x n are.as_long;
  each = more_each shapes xs ns x n are.as_long are.each has;
}

-- ==== one more of what has a name and a value

-- what may be of a choice
with_last : (o : Option (Node Value)) (p : Option ℕ) (b : Bool) (x : Node Value) (n : ℕ) → is_some o ≡ is_some p →
    is_some (option_or o (cond b (Some x) None)) ≡ is_some (cond b (Some n) p)
with_last None p true x n e = refl
with_last None p false x n e = e
with_last (Some y) p true x n e = refl
with_last (Some y) p false x n e = e

none_there : (o : Option (Node Value)) (p : Option ℕ) → is_some o ≡ is_some p → p ≡ None → o ≡ None
none_there None p e none = refl
none_there (Some y) p e none = absurd (let same = e ∙ ap is_some none in let no : ⊥ = cc in no)

pub nothing : (o : Option ℕ) → is_some o ≡ false → o ≡ None
nothing None e = refl
nothing (Some n) e = absurd (let no : ⊥ = cc in no)

there_already : (o more : Option (Node Value)) → IsTrue (is_some o) → option_or o more ≡ o
there_already None more e = absurd (let no : ⊥ = cc in no)
there_already (Some y) more e = refl

none_more : (o : Option (Node Value)) → option_or o None ≡ o
none_more None = refl
none_more (Some y) = refl

module _ {X : Type 0} (name_of : X → NameText) (value_of : X → Node Value) where
  -- the value of the first of this name
  abbrev pub value_in : List X → NameText → Option (Node Value)
  value_in xs name = option_map value_of (find (λ x. same_name (name_of x) name) xs)

  alike : (xs : List X) (a b : NameText) → SameName a b → value_in xs a ≡ value_in xs b
  alike xs a b same = ap (λ text. option_map value_of (find (λ x. bytes_eq (name_of x).text text) xs)) (same_text a b same)

  behind : (xs : List X) (x : X) (name : NameText) → value_in (xs ++ x ∷ []) name ≡ option_or (value_in xs name) (cond (same_name (name_of x) name) (Some (value_of x)) None)
  behind [] x name = last (same_name (name_of x) name) where
    last : (b : Bool) → option_map value_of (cond b (Some x) None) ≡ cond b (Some (value_of x)) None
    last true = refl
    last false = refl
  behind (y ∷ ys) x name = first (same_name (name_of y) name) (find (λ x. same_name (name_of x) name) (ys ++ x ∷ [])) (find (λ x. same_name (name_of x) name) ys) (behind ys x name) where
    first : (b : Bool) (o p : Option X) → option_map value_of o ≡ option_or (option_map value_of p) (cond (same_name (name_of x) name) (Some (value_of x)) None) →
        option_map value_of (cond b (Some y) o) ≡ option_or (option_map value_of (cond b (Some y) p)) (cond (same_name (name_of x) name) (Some (value_of x)) None)
    first true o p e = refl
    first false o p e = e

  pub no_names : (shapes : List Shape) (numbers : NamedNumbers) → AreOrdered numbers → ((name : NameText) → number_under numbers name ≡ None) → AreNumbered shapes (value_in []) numbers
  no_names shapes numbers ordered none = record {
    ordered = ordered;
    names = λ name. sym (ap is_some (none name));
    values = λ name x k ex ek. absurd (let no : ⊥ = cc in no);
  }

  -- one whose name is not known yet
  pub one_more_name : (shapes : List Shape) (xs : List X) (x : X) (old new : NamedNumbers) (n : ℕ) → AreNumbered shapes (value_in xs) old →
      number_under old (name_of x) ≡ None → AreOrdered new →
      ((other : NameText) → number_under new other ≡ cond (same_name (name_of x) other) (Some n) (number_under old other)) →
      HasNumber shapes (value_of x).value.value n → AreNumbered shapes (value_in (xs ++ x ∷ [])) new
  one_more_name shapes xs x old new n are none ordered under has = record {
    ordered = ordered;
    names = λ name.
        ap is_some (behind xs x name) ∙
        with_last (value_in xs name) (number_under old name) (same_name (name_of x) name) (value_of x) n (are.names name) ∙
        sym (ap is_some (under name));
    values = λ name y k ey ek. by name y k (same_name (name_of x) name) refl (sym (behind xs x name) ∙ ey) (sym (under name) ∙ ek);
  } where
    by : (name : NameText) (y : Node Value) (k : ℕ) (b : Bool) → same_name (name_of x) name ≡ b →
        option_or (value_in xs name) (cond b (Some (value_of x)) None) ≡ Some y → cond b (Some n) (number_under old name) ≡ Some k → HasNumber shapes y.value.value k
    by name y k true same ey ek =
        let before : value_in xs name ≡ None = sym (alike xs (name_of x) name same) ∙ none_there (value_in xs (name_of x)) (number_under old (name_of x)) (are.names (name_of x)) none in
        let found : Some (value_of x) ≡ Some y = sym (ap (λ o. option_or o (Some (value_of x))) before) ∙ ey in
        let own : value_of x ≡ y = cc in
        let number : n ≡ k = cc in
        subst (λ (z : Node Value). HasNumber shapes z.value.value k) own (subst (HasNumber shapes (value_of x).value.value) number has)
    by name y k false same ey ek = are.values name y k (sym (none_more (value_in xs name)) ∙ ey) ek

  -- one whose name is known
  still : (xs : List X) (x : X) (name : NameText) (b : Bool) → same_name (name_of x) name ≡ b → IsTrue (is_some (value_in xs (name_of x))) →
      option_or (value_in xs name) (cond b (Some (value_of x)) None) ≡ value_in xs name
  still xs x name true same known =
      there_already (value_in xs name) (Some (value_of x)) (subst (λ o. IsTrue (is_some o)) (alike xs (name_of x) name same) known)
  still xs x name false same known = none_more (value_in xs name)

  pub known_name : (shapes : List Shape) (xs : List X) (x : X) (numbers : NamedNumbers) → AreNumbered shapes (value_in xs) numbers →
      IsTrue (is_some (number_under numbers (name_of x))) → AreNumbered shapes (value_in (xs ++ x ∷ [])) numbers
  known_name shapes xs x numbers are known = record {
    ordered = are.ordered;
    names = λ name. ap is_some (same name) ∙ are.names name;
    values = λ name y k ey ek. are.values name y k (sym (same name) ∙ ey) ek;
  } where
    same : (name : NameText) → value_in (xs ++ x ∷ []) name ≡ value_in xs name
    same name = behind xs x name ∙ still xs x name (same_name (name_of x) name) refl (are.names (name_of x) ∙ known)

-- ==== one more argument

module _ (shapes : List Shape) (xs : List (Node Argument)) (x : Node Argument) (a : Argument) (is : a ≡ x.value.value) where
  pub one_more_argument : (old new : NamedNumbers) (n : ℕ) → AreArgumentsNumbered shapes xs old → number_under old a.name ≡ None → AreOrdered new →
      ((other : NameText) → number_under new other ≡ cond (same_name a.name other) (Some n) (number_under old other)) →
      HasNumber shapes a.value.value.value n → AreArgumentsNumbered shapes (xs ++ x ∷ []) new
  one_more_argument old new n are none ordered under has =
      one_more_name (λ (x : Node Argument). x.value.value.name) (λ x. x.value.value.value) shapes xs x old new n are
      (subst (λ (b : Argument). number_under old b.name ≡ None) is none) ordered
      (λ other. subst (λ (b : Argument). number_under new other ≡ cond (same_name b.name other) (Some n) (number_under old other)) is (under other))
      (subst (λ (b : Argument). HasNumber shapes b.value.value.value n) is has)

  pub known_argument : (numbers : NamedNumbers) → AreArgumentsNumbered shapes xs numbers → IsTrue (is_some (number_under numbers a.name)) →
      AreArgumentsNumbered shapes (xs ++ x ∷ []) numbers
  known_argument numbers are known =
      known_name (λ (x : Node Argument). x.value.value.name) (λ x. x.value.value.value) shapes xs x numbers are
      (subst (λ (b : Argument). IsTrue (is_some (number_under numbers b.name))) is known)

-- the number of arguments is that of their shape
pub arguments_numbered : {E : Type 0} (result : Result ℕ E) (old new : List Shape) → Grows old new → (arguments : List (Node Argument)) (numbers : NamedNumbers) →
    AreArgumentsNumbered old arguments numbers → IfOk result (IsAt new (shape.Object numbers)) → IfOk result (HaveNumber new arguments)
arguments_numbered (Ok n) old new grows arguments numbers are is =
    record { numbers = numbers; are = grown_named old new grows (value_named arguments) numbers are; at = is }
arguments_numbered (Err e) old new grows arguments numbers are is = tt

-- ==== the number of a value

module _ {E : Type 0} (result : Result ℕ E) (new : List Shape) (v : Value) where
  numbered_by : (s : Shape) → ((n : ℕ) → IsAt new s n → HasNumber new v n) → IfOk result (IsAt new s) → IfOk result (HasNumber new v)
  numbered_by s each is = by result is where
    by : (r : Result ℕ E) → IfOk r (IsAt new s) → IfOk r (HasNumber new v)
    by (Ok n) is = each n is
    by (Err e) is = tt

  pub leaf_numbered : (leaf : Bor Value) → leaf.now ≡ v → IsTrue (is_leaf v) → IfOk result (IsAt new (shape.Leaf leaf)) → IfOk result (HasNumber new v)
  leaf_numbered leaf own is_leaf = numbered_by (shape.Leaf leaf) (λ n is. leaf_number leaf own is_leaf is)

  pub list_numbered : (old : List Shape) → Grows old new → (items : Vec (Node Value) Global) (numbers : Vec ℕ Global) → v ≡ literal.List items →
      AreItemsNumbered old items.items numbers.items → IfOk result (IsAt new (shape.List numbers)) → IfOk result (HasNumber new v)
  list_numbered old grows items numbers own are =
      let grown = grown_items old new grows items.items numbers.items are in
      numbered_by (shape.List numbers) (λ n is. list_number items numbers own grown.as_long grown.each is)

  pub object_numbered : (old : List Shape) → Grows old new → (entries : Vec (NameText × Node Value) Global) (numbers : NamedNumbers) → v ≡ literal.Object entries →
      AreEntriesNumbered old entries.items numbers → IfOk result (IsAt new (shape.Object numbers)) → IfOk result (HasNumber new v)
  object_numbered old grows entries numbers own are =
      let grown = grown_named old new grows (λ name. entry_named name entries.items) numbers are in
      numbered_by (shape.Object numbers) (λ n is. object_number entries numbers own grown.ordered grown.names grown.values is)
