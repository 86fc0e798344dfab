-- Extensions that are gathered part by part.
use Rattle.std.proofs.Common.{◌≡◌, ℕ, ◌+◌, ◌<◌, List, [], ◌∷◌, ◌++◌, get_or, length, map, refl, sym, subst, ap, take, ◌∙◌}
use Rattle.std.proofs.lemmas.List.{append_assoc, map-append}
use Rattle.std.proofs.lemmas.List.Elements.{filter_map-append}
use Rattle.std.proofs.lemmas.List.Folds.{list_any-append}
use Rattle.std.proofs.lemmas.List.Sums.{fold-append}
use Rattle.std.specs.Bool.{OnFalse}
use Rattle.std.specs.List.{list_any}
use Rattle.std.specs.HashSet.{Updates, contains}
use Rattle.std.specs.Prelude.{◌==◌, ◌||◌, Bool, cond, false, true, fold, filter_map, if◌then◌else◌, nat_eq, not}
use Rattle.graphql_documents.specs.Extensions.{extension_in, extensions_among, extensions_in, with_extension}
use Rattle.graphql_documents.specs.declared.documents.components.ComponentOrigin.TheVariants as origin
use Rattle.graphql_documents.specs.declared.documents.components.ComponentOrigin.{ComponentOrigin}
use Rattle.graphql_documents.specs.declared.documents.components.ExtensionId.{ExtensionId}
use Rattle.graphql_documents.proofs.ListLemmas.{more_is}
use Rattle.graphql_schemas.specs.FoundExtensions.{HasTheirNumbers}
use Rattle.graphql_schemas.specs.declared.extensions.FoundExtensions.{FoundExtensions}

-- those of some parts, and then of more
pub among_then : (known : List ExtensionId) (xs ys : List ComponentOrigin) →
    extensions_among (extensions_among known xs) ys ≡ extensions_among known (xs ++ ys)
among_then known xs ys =
    sym (ap (fold with_extension known) (filter_map-append extension_in xs ys) ∙ fold-append with_extension known (filter_map extension_in xs) (filter_map extension_in ys))

-- a part more of a list
pub among_more : {X : Type 0} (origin_of : X → ComponentOrigin) (known : List ExtensionId) (xs : List X) (i : ℕ) (x : X) → i < length xs → x ≡ get_or xs i x →
    extensions_among (extensions_among known (map origin_of (take i xs))) (origin_of x ∷ []) ≡ extensions_among known (map origin_of (take (i + 1) xs))
among_more origin_of known xs i x within item =
    among_then known (map origin_of (take i xs)) (origin_of x ∷ []) ∙
    ap (extensions_among known) (sym (ap (map origin_of) (more_is xs i x within item) ∙ map-append origin_of (take i xs) (x ∷ [])))

-- a part in an extension that is known, and in one that is not
pub among_known : (known : List ExtensionId) (e : ExtensionId) (o : ComponentOrigin) → o ≡ origin.Extension e → list_any (λ (k : ExtensionId). k.number == e.number) known ≡ true →
    extensions_among known (o ∷ []) ≡ known
among_known known e o is there =
    ap (λ q. extensions_among known (q ∷ [])) is ∙ ap (λ b. if b then known else known ++ e ∷ []) there

pub among_new : (known : List ExtensionId) (e : ExtensionId) (o : ComponentOrigin) → o ≡ origin.Extension e → list_any (λ (k : ExtensionId). k.number == e.number) known ≡ false →
    extensions_among known (o ∷ []) ≡ known ++ e ∷ []
among_new known e o is new =
    ap (λ q. extensions_among known (q ∷ [])) is ∙ ap (λ b. if b then known else known ++ e ∷ []) new

-- a part more of those that were gone over
pub among_done : {X : Type 0} (origin_of : X → ComponentOrigin) (known : List ExtensionId) (done : List X) (x : X) →
    extensions_among (extensions_among known (map origin_of done)) (origin_of x ∷ []) ≡ extensions_among known (map origin_of (done ++ x ∷ []))
among_done origin_of known done x =
    among_then known (map origin_of done) (origin_of x ∷ []) ∙ ap (extensions_among known) (sym (map-append origin_of done (x ∷ [])))

-- those of two parts of a definition, and of three
pub gathered_two : (a b : List ComponentOrigin) {start first found : List ExtensionId} → start ≡ [] →
    first ≡ extensions_among start a → found ≡ extensions_among first b → found ≡ extensions_in (a ++ b)
gathered_two a b none one two =
    two ∙ ap (λ known. extensions_among known b) (one ∙ ap (λ known. extensions_among known a) none) ∙ among_then [] a b

pub gathered_three : (a b c : List ComponentOrigin) {start first second found : List ExtensionId} → start ≡ [] →
    first ≡ extensions_among start a → second ≡ extensions_among first b → found ≡ extensions_among second c → found ≡ extensions_in (a ++ (b ++ c))
gathered_three a b c none one two three =
    three ∙ ap (λ known. extensions_among known c) (gathered_two a b none one two) ∙ among_then [] (a ++ b) c ∙
    ap extensions_in (append_assoc a b c)

-- whether the number of an extension was there, from what the set answers
module _ (found : FoundExtensions) (e : ExtensionId) (is_new : Bool) (has : HasTheirNumbers found) (added : is_new ≡ not (contains nat_eq found.numbers e.number)) where
  pub is_none : is_new ≡ true → list_any (λ (k : ExtensionId). k.number == e.number) found.extensions.items ≡ false
  is_none is = sym (has.each e.number) ∙ turned (contains nat_eq found.numbers e.number) (sym added ∙ is) where
    turned : (b : Bool) → not b ≡ true → b ≡ false
    turned true h = sym h
    turned false h = refl

  pub is_among : is_new ≡ false → list_any (λ (k : ExtensionId). k.number == e.number) found.extensions.items ≡ true
  is_among is = sym (has.each e.number) ∙ turned (contains nat_eq found.numbers e.number) (sym added ∙ is) where
    turned : (b : Bool) → not b ≡ false → b ≡ true
    turned true h = refl
    turned false h = sym h

-- an extension more, and its number
pub numbers_more : (old new : FoundExtensions) (e : ExtensionId) → HasTheirNumbers old → Updates nat_eq old.numbers new.numbers e.number true →
    new.extensions.items ≡ old.extensions.items ++ e ∷ [] → HasTheirNumbers new
numbers_more old new e has updates more = record {
  each = λ number.
      updates.0 number ∙ ap (cond (e.number == number) true) (has.each number) ∙
      sym (ap (list_any (is number)) more ∙ list_any-append (is number) old.extensions.items (e ∷ []) ∙ either (list_any (is number) old.extensions.items) (e.number == number));
} where
  is : ℕ → ExtensionId → Bool
  is number k = k.number == number

  either : (a b : Bool) → (a || (b || false)) ≡ cond b true a
  either true true = refl
  either true false = refl
  either false true = refl
  either false false = refl

-- a number that was there
pub numbers_same : (old new : FoundExtensions) (is_new : Bool) → HasTheirNumbers old → OnFalse is_new (new.numbers.keys ≡ old.numbers.keys) → is_new ≡ false →
    new.extensions.items ≡ old.extensions.items → HasTheirNumbers new
numbers_same old new is_new has unchanged is items = record {
  each = λ number. ap (list_any (nat_eq number)) (subst (λ b. OnFalse b (new.numbers.keys ≡ old.numbers.keys)) is unchanged) ∙ has.each number ∙ sym (ap (list_any (λ (k : ExtensionId). k.number == number)) items);
}
