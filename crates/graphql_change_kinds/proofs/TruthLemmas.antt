-- That what a change says is so: what is found in a map, in a list, and at a coordinate.
use Rattle.std.proofs.Common.{◌≡◌, ◌∙◌, List, [], ◌∷◌, ◌++◌, Bool, true, false, cond, Option, Some, None, find, refl, sym, subst, ap, All, Contains}
use Rattle.std.specs.Prelude.{Any, Err, IsNone, IsSome, MatchResult, Ok, Result}
use Rattle.std.specs.Result.{is_ok}
use Rattle.std.specs.List.{AllByRecursion, IsDistinct, list_any}
use Rattle.std.proofs.lemmas.List.Folds.{list_any_at}
use Rattle.graphql_nodes.specs.declared.directive_locations.DirectiveLocation.{DirectiveLocation}
use Rattle.graphql_nodes.specs.declared.directive_locations.DirectiveLocation.TheVariants as location
use Rattle.graphql_nodes.specs.contracts.directive_locations.DirectiveLocationPartialEq.TheImpl as location_impl
use Rattle.std.specs.Map.{keys_of, lookup}
use Rattle.std.proofs.lemmas.List.Elements.{All-cons, All-contains, All-nil}
use Rattle.graphql_nodes.specs.Names.{NameText, SameName, same_name}
use Rattle.graphql_nodes.proofs.NameLemmas.{same_name_back, same_name_itself}

-- ==== names

-- names that differ one way differ the other way, too
pub differ_back : (a b : NameText) → same_name a b ≡ false → same_name b a ≡ false
differ_back a b differ = by (same_name b a) refl where
  by : (x : Bool) → same_name b a ≡ x → same_name b a ≡ false
  by true same = absurd (let is : SameName a b = same_name_back b a same in let no : ⊥ = cc in no)
  by false e = e

-- ==== what is found under a key

module _ {V : Type 0} where
  apart : (k : NameText) (v : V) (x : NameText) (ds rest : List (NameText × V)) → AllByRecursion (λ y. same_name x y ≡ false) (keys_of (ds ++ (k, v) ∷ rest)) → same_name x k ≡ false
  apart k v x [] rest all = all.0
  apart k v x (d ∷ ds) rest all = apart k v x ds rest all.1

  found_after : (k : NameText) (v : V) (ds rest : List (NameText × V)) → IsDistinct same_name (keys_of (ds ++ (k, v) ∷ rest)) → lookup (same_name k) (ds ++ (k, v) ∷ rest) ≡ Some v
  unfolding IsDistinct
  found_after k v [] rest distinct = ap (λ b. cond b (Some v) (lookup (same_name k) rest)) (same_name_itself k)
  found_after k v (d ∷ ds) rest distinct =
      ap (λ b. cond b (Some d.1) (lookup (same_name k) (ds ++ (k, v) ∷ rest))) (differ_back d.0 k (apart k v d.0 ds rest distinct.0)) ∙ found_after k v ds rest distinct.1

  -- each entry of a map is found under its key
  pub found_own : (all done left : List (NameText × V)) (x : NameText × V) (rest : List (NameText × V)) → all ≡ done ++ left → left ≡ x ∷ rest →
      IsDistinct same_name (keys_of all) → lookup (same_name x.0) all ≡ Some x.1
  found_own all done left x rest whole next distinct =
      let is : all ≡ done ++ x ∷ rest = whole ∙ ap (λ l. done ++ l) next in
      subst (λ l. lookup (same_name x.0) l ≡ Some x.1) (sym is) (found_after x.0 x.1 done rest (subst (λ l. IsDistinct same_name (keys_of l)) is distinct))

  found_in : (k : NameText) (v : V) (ds rest : List (NameText × V)) → IsSome (lookup (same_name k) (ds ++ (k, v) ∷ rest))
  found_in k v [] rest = subst (λ b. IsSome (cond b (Some v) (lookup (same_name k) rest))) (sym (same_name_itself k)) refl
  found_in k v (d ∷ ds) rest = by (same_name k d.0) (found_in k v ds rest) where
    by : (b : Bool) → IsSome (lookup (same_name k) (ds ++ (k, v) ∷ rest)) → IsSome (cond b (Some d.1) (lookup (same_name k) (ds ++ (k, v) ∷ rest)))
    by true there = refl
    by false there = there

  -- and something is found under it anyway
  pub found_some : (all done left : List (NameText × V)) (x : NameText × V) (rest : List (NameText × V)) → all ≡ done ++ left → left ≡ x ∷ rest → IsSome (lookup (same_name x.0) all)
  found_some all done left x rest whole next =
      subst (λ l. IsSome (lookup (same_name x.0) l)) (sym (whole ∙ ap (λ l. done ++ l) next)) (found_in x.0 x.1 done rest)

-- ==== what is and what is not

pub is_none_of : {X : Type 0} (o : Option X) → o ≡ None → IsNone o
is_none_of o e = subst IsNone (sym e) refl

pub is_some_of : {X : Type 0} (o : Option X) (x : X) → o ≡ Some x → IsSome o
is_some_of o x e = subst IsSome (sym e) refl

-- an element of a list of which something holds is any of it of which it holds, and the other way round
pub any_of : {X : Type 0} (P : X → Type 0) (xs : List X) (x : X) → Contains xs x → P x → Any P xs
any_of P xs x at p = (at.0, x, at.1, at.2, p)

pub of_any : {X : Type 0} (P : X → Type 0) (xs : List X) → Any P xs → (x : X) × Contains xs x × P x
of_any P xs any = (any.1, (any.0, any.2, any.3), any.4)

-- if none is found, no element passes the test
none_passes : {X : Type 0} (p : X → Bool) (xs : List X) → find p xs ≡ None → All (λ x. p x ≡ false) xs
none_passes p [] e = All-nil (λ x. p x ≡ false)
none_passes {X} p (y ∷ ys) e = by (p y) refl e (none_passes p ys) where
  by : (b : Bool) → p y ≡ b → cond b (Some y) (find p ys) ≡ None → (find p ys ≡ None → All (λ x. p x ≡ false) ys) → All (λ x. p x ≡ false) (y ∷ ys)
  by true t none rest = absurd (let no : ⊥ = cc in no)
  by false f none rest = All-cons (λ x. p x ≡ false) y ys f (rest none)

pub none_found : {X : Type 0} (p : X → Bool) (xs : List X) → find p xs ≡ None → (x : X) → Contains xs x → p x ≡ true → ⊥
none_found p xs e x at passes = let no : false ≡ true = sym (All-contains (λ x. p x ≡ false) xs x (none_passes p xs e) at) ∙ passes in let done : ⊥ = cc in done

-- the same of keys
no_key : {V : Type 0} (p : NameText → Bool) (es : List (NameText × V)) → lookup p es ≡ None → All (λ e. p e.0 ≡ false) es
no_key p [] none = All-nil (λ e. p e.0 ≡ false)
no_key {V} p (y ∷ ys) none = by (p y.0) refl none (no_key p ys) where
  by : (b : Bool) → p y.0 ≡ b → cond b (Some y.1) (lookup p ys) ≡ None → (lookup p ys ≡ None → All (λ (e : NameText × V). p e.0 ≡ false) ys) →
      All (λ (e : NameText × V). p e.0 ≡ false) (y ∷ ys)
  by true t none rest = absurd (let no : ⊥ = cc in no)
  by false f none rest = All-cons (λ (e : NameText × V). p e.0 ≡ false) y ys f (rest none)

pub no_entry : {V : Type 0} (p : NameText → Bool) (es : List (NameText × V)) → lookup p es ≡ None → (e : NameText × V) → Contains es e → p e.0 ≡ true → ⊥
no_entry p es none e at passes = let no : false ≡ true = sym (All-contains (λ e. p e.0 ≡ false) es e (no_key p es none) at) ∙ passes in let done : ⊥ = cc in done

-- an answer is no error
pub ok_no_err : {X E : Type 0} (r : Result X E) (x : X) (e : E) → r ≡ Ok x → r ≡ Err e → ⊥
ok_no_err r x e is other = let no : ⊥ = cc in no

-- nothing is found if an error is
pub none_if_err : {R X E : Type 0} (now : R → X) (r : Result R E) (t : Result X E) → MatchResult r (λ d. t ≡ Ok (now d)) (λ e. t ≡ Err e) → is_ok r ≡ false →
    (x : X) → t ≡ Ok x → ⊥
none_if_err now (Ok d) t found e x is = let no : ⊥ = cc in no
none_if_err now (Err other) t found e x is = let no : ⊥ = cc in no

-- ==== locations

location_itself : (x : DirectiveLocation) → location_impl.ghosts.eq x x ≡ true
location_itself location.Query = refl
location_itself location.Mutation = refl
location_itself location.Subscription = refl
location_itself location.Field = refl
location_itself location.FragmentDefinition = refl
location_itself location.FragmentSpread = refl
location_itself location.InlineFragment = refl
location_itself location.VariableDefinition = refl
location_itself location.Schema = refl
location_itself location.Scalar = refl
location_itself location.Object = refl
location_itself location.FieldDefinition = refl
location_itself location.ArgumentDefinition = refl
location_itself location.Interface = refl
location_itself location.Union = refl
location_itself location.Enum = refl
location_itself location.EnumValue = refl
location_itself location.InputObject = refl
location_itself location.InputFieldDefinition = refl

-- what is in a list is found there
pub location_found : (xs : List DirectiveLocation) (x : DirectiveLocation) → Contains xs x → list_any (λ y. location_impl.ghosts.eq y x) xs ≡ true
location_found xs x at =
    list_any_at (λ (y : DirectiveLocation). location_impl.ghosts.eq y x) xs at.0 x at.1 (subst (λ (y : DirectiveLocation). location_impl.ghosts.eq y x ≡ true) (sym at.2) (location_itself x))
