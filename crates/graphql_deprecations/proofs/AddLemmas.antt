-- How calls add usages to a list.
use Rattle.std.proofs.Common.{◌≡◌, ℕ, ◌+◌, ◌<◌, ◌≤◌, List, [], ◌∷◌, ◌++◌, length, get_or, take, refl, sym, ap, ◌∙◌, subst, Option, None, Some}
use Rattle.std.specs.Prelude.{OnOk, Result, option_map, option_to_list}
use Rattle.std.proofs.lemmas.Result.{on_ok_weaker}
use Rattle.std.proofs.lemmas.List.{append-nil, append_assoc, map-append, take_all}
use Rattle.graphql_nodes.specs.Names.{NameText}
use Rattle.graphql_nodes.specs.declared.nodes.Node.{Node}
use Rattle.graphql_nodes.specs.declared.spans.SourceSpan.{SourceSpan}
use Rattle.graphql_documents.proofs.ListLemmas.{done_next, more_is}
use Rattle.graphql_documents.specs.declared.documents.directives.Directive.{Directive}
use Rattle.graphql_deprecations.specs.Deprecations.{Usage, deprecation_in, reason_of}
use Rattle.graphql_deprecations.specs.InOrder.{Adds, InTurn, OfFound, Then, element_uses, usage_of, usages}
use Rattle.graphql_deprecations.specs.declared.reports.DeprecatedElement.{DeprecatedElement}
use Rattle.graphql_deprecations.specs.declared.reports.DeprecatedUsage.{DeprecatedUsage}

-- nothing is added, and one usage is
pub adds_none : {Are : List Usage → Type 0} {old : List DeprecatedUsage} → Are [] → Adds Are old old
adds_none {old = old} are = record { added = []; appended = sym (append-nil (usages old)); are = are }

pub adds_one : (x : DeprecatedUsage) {old new : List DeprecatedUsage} → new ≡ old ++ x ∷ [] → Adds (λ uses. uses ≡ usage_of x ∷ []) old new
adds_one x {old = old} is = record { added = usage_of x ∷ []; appended = ap usages is ∙ map-append usage_of old (x ∷ []); are = refl }

-- usages are added after others
pub adds_then : {P Q R : List Usage → Type 0} {old mid new : List DeprecatedUsage} →
    ((a b : List Usage) → P a → Q b → R (a ++ b)) → Adds P old mid → Adds Q mid new → Adds R old new
adds_then {old = old} join a b = record {
  added = a.added ++ b.added;
  appended = b.appended ∙ ap (λ l. l ++ b.added) a.appended ∙ append_assoc (usages old) a.added b.added;
  are = join a.added b.added a.are b.are;
}

pub adds_both : {P Q : List Usage → Type 0} {old mid new : List DeprecatedUsage} → Adds P old mid → Adds Q mid new → Adds (Then P Q) old new
adds_both a b = adds_then (λ c d p q. record { first = c; second = d; are_first = p; are_second = q; together = refl }) a b

-- the same usages in other words
pub adds_words : {P R : List Usage → Type 0} {old new : List DeprecatedUsage} → ((a : List Usage) → P a → R a) → Adds P old new → Adds R old new
adds_words w a = record { added = a.added; appended = a.appended; are = w a.added a.are }

-- what is added to an empty list is all of it
pub all_added : {Are : List Usage → Type 0} (old new : List DeprecatedUsage) → old ≡ [] → Adds Are old new → Are (usages new)
all_added {Are = Are} old new empty a = subst Are (sym (a.appended ∙ ap (λ l. usages l ++ a.added) empty)) a.are

-- what was looked up is there, or is not
pub adds_found : {X : Type 0} (found : Option X) (Of : X → List Usage → Type 0) (x : X) {old new : List DeprecatedUsage} →
    found ≡ Some x → Adds (Of x) old new → Adds (OfFound found Of) old new
adds_found found Of x {old = old} {new = new} is a = subst (λ o. Adds (OfFound o Of) old new) (sym is) a

pub adds_not_found : {X : Type 0} (found : Option X) (Of : X → List Usage → Type 0) (old : List DeprecatedUsage) → found ≡ None → Adds (OfFound found Of) old old
adds_not_found found Of old none = subst (λ o. Adds (OfFound o Of) old old) (sym none) (adds_none refl)

-- the use of an element that is deprecated, and of one that is not
module _ (element : DeprecatedElement) (name : NameText) (directives : List (Node Directive)) where
  abbrev made : Option (Node Directive) → List Usage
  made o = option_to_list (option_map (λ (d : Node Directive). let u : Usage = record { element = element; place = name.location; reason = reason_of d.value.value } in u) o)

  pub one_use : (d : Node Directive) → deprecation_in directives ≡ Some d →
      element_uses element name directives ≡ record { element = element; place = name.location; reason = reason_of d.value.value } ∷ []
  one_use d is = ap made is

  pub no_use : deprecation_in directives ≡ None → element_uses element name directives ≡ []
  no_use none = ap made none

-- a call adds the one use of an element that is deprecated
pub adds_use : {T E : Type 0} (r : Result T E) (element given : DeprecatedElement) (name : NameText) (place : Option SourceSpan) (directives : List (Node Directive)) (d : Node Directive)
    (old new : List DeprecatedUsage) → given ≡ element → place ≡ name.location → deprecation_in directives ≡ Some d →
    OnOk r (Adds (λ uses. uses ≡ record { element = given; place = place; reason = reason_of d.value.value } ∷ []) old new) →
    OnOk r (Adds (λ uses. uses ≡ element_uses element name directives) old new)
adds_use r element given name place directives d old new same at is h =
    on_ok_weaker r
    (adds_words (λ a e.
    e ∙ ap (λ (x : DeprecatedElement). let u : Usage = record { element = x; place = place; reason = reason_of d.value.value } in u ∷ []) same ∙
    ap (λ (x : Option SourceSpan). let u : Usage = record { element = element; place = x; reason = reason_of d.value.value } in u ∷ []) at ∙
    sym (one_use element name directives d is))) h

pub adds_no_use : (element : DeprecatedElement) (name : NameText) (directives : List (Node Directive)) {old : List DeprecatedUsage} →
    deprecation_in directives ≡ None → Adds (λ uses. uses ≡ element_uses element name directives) old old
adds_no_use element name directives none = adds_none (sym (no_use element name directives none))

-- those of the elements of a list in turn
module _ {X : Type 0} (Of : X → List Usage → Type 0) where
  pub turn_one : (x : X) (a : List Usage) → Of x a → InTurn Of (x ∷ []) a
  turn_one x a p = record { first = a; second = []; are_first = p; are_second = refl; together = sym (append-nil a) }

  pub turn_append : (xs ys : List X) (a b : List Usage) → InTurn Of xs a → InTurn Of ys b → InTurn Of (xs ++ ys) (a ++ b)
  turn_append [] ys a b none h = subst (λ l. InTurn Of ys (l ++ b)) (sym none) h
  turn_append (x ∷ xs) ys a b h k = record {
    first = h.first;
    second = h.second ++ b;
    are_first = h.are_first;
    are_second = turn_append xs ys h.second b h.are_second k;
    together = ap (λ l. l ++ b) h.together ∙ append_assoc h.first h.second b;
  }

  pub turn_more : (xs : List X) (i : ℕ) (x : X) {old mid new : List DeprecatedUsage} → i < length xs → x ≡ get_or xs i x →
      Adds (InTurn Of (take i xs)) old mid → Adds (Of x) mid new → Adds (InTurn Of (take (i + 1) xs)) old new
  turn_more xs i x within item a b =
      adds_then
      (λ c d before here. subst (λ l. InTurn Of l (c ++ d)) (sym (more_is xs i x within item)) (turn_append (take i xs) (x ∷ []) c d before (turn_one x d here)))
      a b

  pub turn_all : (xs : List X) (i : ℕ) {old new : List DeprecatedUsage} → length xs ≤ i → Adds (InTurn Of (take i xs)) old new → Adds (InTurn Of xs) old new
  turn_all xs i {old = old} {new = new} past a = subst (λ l. Adds (InTurn Of l) old new) (take_all i xs past) a

  -- a walk by an iterator, with the elements that are left
  pub record Walking (xs left : List X) (old new : List DeprecatedUsage) : Type 0 where
    pub done : List X
    pub split : xs ≡ done ++ left
    pub adds : Adds (InTurn Of done) old new

  pub walk_begins : (xs left : List X) (old : List DeprecatedUsage) → xs ≡ left → Walking xs left old old
  walk_begins xs left old is = record { done = []; split = is; adds = adds_none refl }

  pub walk_goes_on : (xs left rest : List X) (x : X) {old mid new : List DeprecatedUsage} → left ≡ x ∷ rest →
      Walking xs left old mid → Adds (Of x) mid new → Walking xs rest old new
  walk_goes_on xs left rest x next walk b = record {
    done = walk.done ++ x ∷ [];
    split = done_next xs walk.done left rest x walk.split next;
    adds = adds_then (λ c d before here. turn_append walk.done (x ∷ []) c d before (turn_one x d here)) walk.adds b;
  }

  pub walk_ends : (xs left : List X) {old new : List DeprecatedUsage} → left ≡ [] → Walking xs left old new → Adds (InTurn Of xs) old new
  walk_ends xs left {old = old} {new = new} none walk =
      subst (λ l. Adds (InTurn Of l) old new) (sym (walk.split ∙ ap (λ l. walk.done ++ l) none ∙ append-nil walk.done)) walk.adds
