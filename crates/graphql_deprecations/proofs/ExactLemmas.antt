-- Lists that have exactly the usages of which something is true.
use Rattle.std.proofs.Common.{◌≡◌, ◌↔◌, List, [], ◌∷◌, ◌++◌, refl, sym, ◌∙◌, subst, Contains, Option, None, Some, arith}
use Rattle.std.specs.Prelude.{Any, ◌⊎◌}
use Rattle.std.proofs.lemmas.List.Elements.{Contains-append_cases, Contains-append_left, Contains-append_right}
use Rattle.std.proofs.lemmas.Option.{same_Some}
use mathlib.Core.Logic.{inl, inr}
use Rattle.graphql_nodes.specs.Names.{NameText}
use Rattle.graphql_nodes.specs.declared.nodes.Node.{Node}
use Rattle.graphql_documents.proofs.ListLemmas.{none_stands, only_one, stands_behind, stands_first}
use Rattle.graphql_documents.specs.declared.documents.directives.Directive.{Directive}
use Rattle.graphql_deprecations.specs.Deprecations.{IsUsageOf, Usage, deprecation_in, reason_of}
use Rattle.graphql_deprecations.specs.InOrder.{InTurn, OfFound, Then, element_uses}
use Rattle.graphql_deprecations.specs.Usages.{AreExactly}
use Rattle.graphql_deprecations.specs.declared.reports.DeprecatedElement.{DeprecatedElement}
use Rattle.graphql_deprecations.proofs.AddLemmas.{no_use, one_use}

-- some element, as one that is in the list
pub any_has : {X : Type 0} (P : X → Type 0) (xs : List X) → Any P xs → (x : X) × Contains xs x × P x
any_has P xs (k, x, within, is, p) = (x, (k, within, is), p)

pub has_any : {X : Type 0} (P : X → Type 0) (xs : List X) (x : X) → Contains xs x → P x → Any P xs
has_any P xs x (k, within, is) p = (k, x, within, is, p)

pub none_in_none : {X : Type 0} (P : X → Type 0) → ¬ Any P []
none_in_none P (k, x, within, is, p) = omega (arith, within)

-- some element of a list with one more before it
pub any_next : {X : Type 0} (P : X → Type 0) (x : X) (xs : List X) → (P x ⊎ Any P xs) ↔ Any P (x ∷ xs)
any_next P x xs = (forth, back) where
  forth : P x ⊎ Any P xs → Any P (x ∷ xs)
  forth (inl p) = has_any P (x ∷ xs) x (stands_first x xs) p
  forth (inr any) = let h = any_has P xs any in has_any P (x ∷ xs) h.0 (stands_behind x xs h.0 h.1) h.2

  at : (y : _) → P y → Contains (x ∷ []) y ⊎ Contains xs y → P x ⊎ Any P xs
  at y p (inl first) = inl (subst P (only_one x y first) p)
  at y p (inr later) = inr (has_any P xs y later p)

  back : Any P (x ∷ xs) → P x ⊎ Any P xs
  back any = let h = any_has P (x ∷ xs) any in at h.0 h.2 (Contains-append_cases (x ∷ []) xs h.0 h.1)

-- no usages, the same in other words, and some after others
pub exactly_none : {P : Usage → Type 0} → ((u : Usage) → ¬ P u) → AreExactly P []
exactly_none none = record { each = λ u there. absurd (none_stands u there); all = λ u p. absurd (none u p) }

pub exactly_words : {P Q : Usage → Type 0} {us : List Usage} → ((u : Usage) → P u ↔ Q u) → AreExactly P us → AreExactly Q us
exactly_words w h = record { each = λ u there. (w u).0 (h.each u there); all = λ u q. h.all u ((w u).1 q) }

pub exactly_after : {P Q : Usage → Type 0} {a b : List Usage} → AreExactly P a → AreExactly Q b → AreExactly (λ u. P u ⊎ Q u) (a ++ b)
exactly_after {P = P} {Q = Q} {a = a} {b = b} h k = record { each = λ u there. forth u (Contains-append_cases a b u there); all = back } where
  forth : (u : Usage) → Contains a u ⊎ Contains b u → P u ⊎ Q u
  forth u (inl there) = inl (h.each u there)
  forth u (inr there) = inr (k.each u there)

  back : (u : Usage) → P u ⊎ Q u → Contains (a ++ b) u
  back u (inl p) = Contains-append_left a b u (h.all u p)
  back u (inr q) = Contains-append_right a b u (k.all u q)

-- the use of an element
abbrev use_by : DeprecatedElement → NameText → Node Directive → Usage
use_by element name d = record { element = element; place = name.location; reason = reason_of d.value.value }

pub exactly_element : (element : DeprecatedElement) (name : NameText) (directives : List (Node Directive)) →
    AreExactly (IsUsageOf element name directives) (element_uses element name directives)
exactly_element element name directives = by_deprecation (deprecation_in directives) refl where
  by_deprecation : (o : Option (Node Directive)) → deprecation_in directives ≡ o →
      AreExactly (IsUsageOf element name directives) (element_uses element name directives)
  by_deprecation None none = record {
    each = λ u there. absurd (none_stands u (subst (λ l. Contains l u) (no_use element name directives none) there));
    all = λ u used. let e : None ≡ Some used.deprecation = sym none ∙ used.deprecates in absurd (let no : ⊥ = cc in no);
  }
  by_deprecation (Some d) some = record {
    each = λ u there. record { deprecation = d; deprecates = some; usage_is = only_one (use_by element name d) u (subst (λ l. Contains l u) (one_use element name directives d some) there) };
    all = λ u used.
        subst (λ v. Contains (element_uses element name directives) v) (sym used.usage_is)
        (subst (λ l. Contains l (use_by element name used.deprecation)) (sym (one_use element name directives used.deprecation used.deprecates))
        (stands_first (use_by element name used.deprecation) []));
  }

pub exactly_uses : (element : DeprecatedElement) (name : NameText) (directives : List (Node Directive)) (us : List Usage) →
    us ≡ element_uses element name directives → AreExactly (IsUsageOf element name directives) us
exactly_uses element name directives us is = subst (AreExactly (IsUsageOf element name directives)) (sym is) (exactly_element element name directives)

-- in what is found, which is this
pub found_words : {X : Type 0} (found : Option X) (In : X → Usage → Type 0) (x : X) → found ≡ Some x → (u : Usage) →
    In x u ↔ ((y : X) × (found ≡ Some y) × In y u)
found_words found In x is u = (λ p. (x, is, p), λ (y, some, p). subst (λ z. In z u) (same_Some y x (sym some ∙ is)) p)

-- those of two parts, of what is found, and of the elements of a list
pub exactly_both : {First Second : List Usage → Type 0} {P Q : Usage → Type 0} →
    ((a : List Usage) → First a → AreExactly P a) → ((b : List Usage) → Second b → AreExactly Q b) →
    (us : List Usage) → Then First Second us → AreExactly (λ u. P u ⊎ Q u) us
exactly_both {P = P} {Q = Q} f s us h =
    subst (AreExactly (λ u. P u ⊎ Q u)) (sym h.together) (exactly_after (f h.first h.are_first) (s h.second h.are_second))

pub exactly_found : {X : Type 0} {Of : X → List Usage → Type 0} {In : X → Usage → Type 0} →
    ((x : X) (a : List Usage) → Of x a → AreExactly (In x) a) →
    (found : Option X) (us : List Usage) → OfFound found Of us → AreExactly (λ u. (x : X) × (found ≡ Some x) × In x u) us
exactly_found {X = X} {In = In} each None us none =
    subst (AreExactly (λ u. (x : X) × (None ≡ Some x) × In x u)) (sym none) (exactly_none (λ u (x, some, p). let no : ⊥ = cc in no))
exactly_found {In = In} each (Some x) us h =
    exactly_words (λ u. (λ p. (x, refl, p), λ (y, some, p). subst (λ z. In z u) (sym (same_Some x y some)) p)) (each x us h)

pub exactly_turn : {X : Type 0} {Of : X → List Usage → Type 0} {In : X → Usage → Type 0} →
    ((x : X) (a : List Usage) → Of x a → AreExactly (In x) a) →
    (xs : List X) (us : List Usage) → InTurn Of xs us → AreExactly (λ u. Any (λ x. In x u) xs) us
exactly_turn {In = In} each [] us none = subst (AreExactly (λ u. Any (λ x. In x u) [])) (sym none) (exactly_none (λ u. none_in_none (λ x. In x u)))
exactly_turn {In = In} each (x ∷ xs) us h =
    exactly_words (λ u. any_next (λ x. In x u) x xs) (exactly_both (each x) (exactly_turn each xs) us h)
