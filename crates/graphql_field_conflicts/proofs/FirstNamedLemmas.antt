-- The first element of each name in a list: what one more element changes.
use Rattle.std.proofs.Common.{◌≡◌, ℕ, ◌<◌, ◌+◌, Bool, true, false, cond, List, [], ◌∷◌, ◌++◌, Option, Some, None, ◌⊎◌, inl, inr, find, take, length, get_or, refl, sym, ap, ◌∙◌, subst, Contains}
use Rattle.std.specs.Prelude.{IsSome}
use Rattle.std.specs.Option.{option_or}
use Rattle.std.specs.Str.{bytes_eq}
use Rattle.std.proofs.lemmas.List.Folds.{find-append}
use Rattle.graphql_nodes.proofs.NameLemmas.{same_name_itself, same_text}
use Rattle.graphql_documents.proofs.ListLemmas.{more_is}
use Rattle.graphql_nodes.specs.Names.{NameText, SameName, same_name}
use Rattle.graphql_variables.proofs.FirstPlaceLemmas.{find_none, found_at}
use Rattle.graphql_variables.proofs.SplitLemmas.{find_first}

module _ {X : Type 0} (name_of : X → NameText) where
  -- the first element of this name
  abbrev pub first_named : NameText → List X → Option X
  first_named name xs = find (λ x. same_name (name_of x) name) xs

  pub first_alike : (a b : NameText) → SameName a b → (xs : List X) → first_named a xs ≡ first_named b xs
  first_alike a b same xs = ap (λ text. find (λ x. bytes_eq (name_of x).text text) xs) (same_text a b same)

  -- it has the name
  pub first_has : (name : NameText) (xs : List X) (x : X) → first_named name xs ≡ Some x → SameName (name_of x) name
  first_has name xs x found = (found_at (λ x. same_name (name_of x) name) xs x found).3

  -- it is in the list
  pub first_stands : (name : NameText) (xs : List X) (x : X) → first_named name xs ≡ Some x → Contains xs x
  first_stands name xs x found = let at = found_at (λ x. same_name (name_of x) name) xs x found in (at.0, at.1, at.2 x)

  -- where an element has the name there is a first one
  pub first_is_there : (name : NameText) (xs : List X) (x : X) → Contains xs x → SameName (name_of x) name → IsSome (first_named name xs)
  first_is_there name xs x (k, within, is) same = by (first_named name xs) refl where
    by : (o : Option X) → first_named name xs ≡ o → IsSome o
    by (Some y) e = refl
    by None e = absurd (let other = subst (λ y. same_name (name_of y) name ≡ false) is (find_none (λ y. same_name (name_of y) name) xs k x e within) in let no : ⊥ = cc in no)

  -- with one more element behind the others
  one_more : (name : NameText) (x z : X) (found : Option X) (b : Bool) → same_name (name_of x) name ≡ b → option_or found (cond b (Some x) None) ≡ Some z →
      (found ≡ Some z) ⊎ ((found ≡ None) × (x ≡ z) × SameName (name_of x) name)
  one_more name x z (Some y) b is e = inl e
  one_more name x z None true is e = inr (refl, (let same : x ≡ z = cc in same), is)
  one_more name x z None false is e = absurd (let no : ⊥ = cc in no)

  pub last_named : (name : NameText) (xs : List X) (x z : X) → first_named name (xs ++ x ∷ []) ≡ Some z →
      (first_named name xs ≡ Some z) ⊎ ((first_named name xs ≡ None) × (x ≡ z) × SameName (name_of x) name)
  last_named name xs x z e =
      one_more name x z (first_named name xs) (same_name (name_of x) name) refl (sym (find-append (λ x. same_name (name_of x) name) xs (x ∷ [])) ∙ e)

  still_found : (found more : Option X) (x : X) → found ≡ Some x → option_or found more ≡ Some x
  still_found found more x e = rw e refl

  pub found_before : (name : NameText) (xs ys : List X) (x : X) → first_named name xs ≡ Some x → first_named name (xs ++ ys) ≡ Some x
  found_before name xs ys x e =
      find-append (λ x. same_name (name_of x) name) xs ys ∙ still_found (first_named name xs) (first_named name ys) x e

  -- an element whose name none before it has is the first of its name
  pub first_of_name : (xs : List X) (i : ℕ) (x : X) → i < length xs → x ≡ get_or xs i x → first_named (name_of x) (take i xs) ≡ None → first_named (name_of x) xs ≡ Some x
  first_of_name xs i x within item none = find_first (λ y. same_name (name_of y) (name_of x)) xs i x within item none (same_name_itself (name_of x))

  pub first_behind : (before after : List X) (x : X) → first_named (name_of x) before ≡ None → first_named (name_of x) (before ++ x ∷ after) ≡ Some x
  first_behind before after x none =
      let itself : same_name (name_of x) (name_of x) ≡ true = same_name_itself (name_of x) in
      find-append (λ y. same_name (name_of y) (name_of x)) before (x ∷ after) ∙ rw (none, itself) refl

  -- what is asked of the first element of each name
  module _ (Has : NameText → X → Type 0) (alike : (a b : NameText) (x : X) → SameName a b → Has a x → Has b x) where
    abbrev pub EachFirst : List X → Type 0
    EachFirst xs = (name : NameText) (x : X) → first_named name xs ≡ Some x → Has name x

    pub each_of_none : EachFirst []
    each_of_none name x e = absurd (let no : ⊥ = cc in no)

    -- one more element, behind the others
    pub each_behind : (xs : List X) (x : X) → EachFirst xs → IsSome (first_named (name_of x) xs) ⊎ Has (name_of x) x → EachFirst (xs ++ x ∷ [])
    each_behind xs x before here name z e = last here (last_named name xs x z e) where
      last : IsSome (first_named (name_of x) xs) ⊎ Has (name_of x) x →
          (first_named name xs ≡ Some z) ⊎ ((first_named name xs ≡ None) × (x ≡ z) × SameName (name_of x) name) → Has name z
      last here (inl found) = before name z found
      last (inl known) (inr (none, is, same)) = absurd (let found = subst IsSome (first_alike (name_of x) name same xs ∙ none) known in let no : ⊥ = cc in no)
      last (inr has) (inr (none, is, same)) = subst (Has name) is (alike (name_of x) name x same has)

    pub each_more : (xs : List X) (i : ℕ) (x : X) → i < length xs → x ≡ get_or xs i x → EachFirst (take i xs) →
        IsSome (first_named (name_of x) (take i xs)) ⊎ Has (name_of x) x → EachFirst (take (i + 1) xs)
    each_more xs i x within item before here = subst EachFirst (sym (more_is xs i x within item)) (each_behind (take i xs) x before here)
