-- What is found in a list is in it and passes the test, and what is found under a name is found under each name that is the same.
use Rattle.std.proofs.Common.{◌≡◌, ◌∙◌, Bool, true, false, cond, ℕ, List, [], ◌∷◌, Option, None, Some, Result, Ok, refl, sym, ap, subst}
use Rattle.std.specs.Prelude.{Contains, IsSome, IsSomeAnd, IsTrue, find, option_map}
use Rattle.std.specs.Cmp.{on_equiv, IsEquivalence}
use Rattle.std.specs.Cmp.Lexicographic.{nat_list_eq_equiv}
use Rattle.std.specs.Map.{lookup}
use Rattle.std.specs.Str.{bytes_eq}
use Rattle.graphql_nodes.specs.Names.{NameText, SameName, same_name}
use Rattle.graphql_nodes.proofs.NameLemmas.{same_text}
use Rattle.graphql_nodes.specs.declared.nodes.Node.{Node}
use Rattle.graphql_documents.proofs.ListLemmas.{stands_behind, stands_first}
use Rattle.graphql_documents.specs.Definitions.{definition_named}
use Rattle.graphql_documents.specs.Values.{entry_named}
use Rattle.graphql_documents.specs.declared.documents.definitions.InputValueDefinition.{InputValueDefinition}
use Rattle.graphql_documents.specs.declared.documents.values.Value.{Value}

pub same_name_equiv : IsEquivalence same_name
same_name_equiv = on_equiv (λ (a : NameText). a.text) nat_list_eq_equiv

pub some_and_found : {X : Type 0} (o : Option X) (P : X → Type 0) → IsSomeAnd o P → (x : X) × (o ≡ Some x) × P x
some_and_found None P h = absurd h
some_and_found (Some x) P h = (x, refl, h)

pub some_found : {X : Type 0} (o : Option X) → IsSome o → (x : X) × (o ≡ Some x)
some_found None h = absurd (let no : ⊥ = cc in no)
some_found (Some x) h = (x, refl)

pub one_some : {X : Type 0} (o : Option X) (x y : X) → o ≡ Some x → o ≡ Some y → x ≡ y
one_some o x y e f = let both : Some x ≡ Some y = sym e ∙ f in cc

pub one_ok : {X E : Type 0} (r : Result X E) (x y : X) → r ≡ Ok x → r ≡ Ok y → x ≡ y
one_ok r x y e f = let both : Ok x ≡ Ok y = sym e ∙ f in cc

pub found_in : {X : Type 0} (p : X → Bool) (xs : List X) (x : X) → find p xs ≡ Some x → Contains xs x × IsTrue (p x)
found_in p [] x is = absurd (let no : ⊥ = cc in no)
found_in {X = X} p (y ∷ ys) x is = by (p y) refl (found_in p ys x) is
  where
    by : (b : Bool) → p y ≡ b → (find p ys ≡ Some x → Contains ys x × IsTrue (p x)) → cond b (Some y) (find p ys) ≡ Some x → Contains (y ∷ ys) x × IsTrue (p x)
    by true passes behind e =
        let same : y ≡ x = cc in
        subst (λ z. Contains (y ∷ ys) z × IsTrue (p z)) same (stands_first y ys, passes)
    by false other behind e = let rest = behind e in (stands_behind y ys x rest.0, rest.1)

pub entry_in : {X : Type 0} (test : NameText → Bool) (es : List (NameText × X)) (v : X) → lookup test es ≡ Some v →
    (k : NameText) × Contains es (k, v) × IsTrue (test k)
entry_in test [] v is = absurd (let no : ⊥ = cc in no)
entry_in {X = X} test (e ∷ es) v is = by (test e.0) refl (entry_in test es v) is
  where
    by : (b : Bool) → test e.0 ≡ b → (lookup test es ≡ Some v → (k : NameText) × Contains es (k, v) × IsTrue (test k)) →
        cond b (Some e.1) (lookup test es) ≡ Some v → (k : NameText) × Contains (e ∷ es) (k, v) × IsTrue (test k)
    by true passes behind found =
        let same : e.1 ≡ v = cc in
        (e.0, subst (λ x. Contains (e ∷ es) (e.0, x)) same (stands_first e es), passes)
    by false other behind found = let rest = behind found in (rest.0, stands_behind e es (rest.0, v) rest.1, rest.2)

-- ==== one name for another

pub one_lookup : {X : Type 0} (es : List (NameText × X)) (a b : NameText) → SameName a b → lookup (same_name a) es ≡ lookup (same_name b) es
one_lookup es a b same = ap (λ (text : List ℕ). lookup (λ (key : NameText). bytes_eq text key.text) es) (same_text a b same)

pub one_definition : (ds : List (Node InputValueDefinition)) (a b : NameText) → SameName a b → definition_named a ds ≡ definition_named b ds
one_definition ds a b same = ap (λ (text : List ℕ). find (λ (d : Node InputValueDefinition). bytes_eq d.value.value.name.text text) ds) (same_text a b same)

pub one_entry : (es : List (NameText × Node Value)) (a b : NameText) → SameName a b → entry_named a es ≡ entry_named b es
one_entry es a b same =
    ap (λ (text : List ℕ). option_map (λ (e : NameText × Node Value). e.1) (find (λ (e : NameText × Node Value). bytes_eq e.0.text text) es)) (same_text a b same)

pub mapped_some : {X Y : Type 0} (f : X → Y) (o : Option X) (y : Y) → option_map f o ≡ Some y → (x : X) × (o ≡ Some x) × (f x ≡ y)
mapped_some f None y e = absurd (let no : ⊥ = cc in no)
mapped_some f (Some x) y e = (x, refl, (let same : f x ≡ y = cc in same))
