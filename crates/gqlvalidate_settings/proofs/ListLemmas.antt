-- What a value lists, and what it does not.
use Rattle.std.proofs.Common.{◌≡◌, ◌∙◌, ◌<◌, ◌||◌, ℕ, zero, suc, Bool, List, [], ◌∷◌, Option, None, Some, Result, Ok, Err, IfErr, IsErrAnd, MatchOption, IsSomeAnd, ap, arith, get_or, length, map, refl, subst, sym}
use Rattle.std.specs.List.{list_any}
use Rattle.gqlvalidate_settings.specs.Paths.{Text}
use Rattle.gqlvalidate_settings.specs.Settings.{AreTexts, Lists, ListsAt, Member, as_list, as_text, value_at}
use Rattle.gqlvalidate_settings.specs.declared.keys.Key.{Key}
use Rattle.gqlvalidate_settings.specs.declared.refusals.Refusal.{Refusal}
use Rattle.gqlvalidate_settings.specs.declared.setting.Setting.{Setting}

-- what an error says, by what it says elsewhere
pub if_err_weaker : {T E : Type 0} (r : Result T E) (P Q : E → Type 0) → ((e : E) → P e → Q e) → IfErr r P → IfErr r Q
if_err_weaker (Ok x) P Q weaker p = tt
if_err_weaker (Err e) P Q weaker p = weaker e p

-- what a refusal says, where it is handed on
pub handed_on : {T : Type 0} (r : Result T Refusal) (e : Refusal) (Q : Refusal → Type 0) → IsErrAnd r (λ y. y ≡ e) → Q e → IfErr r Q
handed_on (Ok x) e Q h q = tt
handed_on (Err y) e Q h q = subst Q (sym h) q

-- a property of what a function makes of the elements
pub any_map : {A B : Type 0} (p : B → Bool) (f : A → B) (xs : List A) → list_any p (map f xs) ≡ list_any (λ x. p (f x)) xs
any_map p f [] = refl
any_map p f (x ∷ xs) = ap (λ others. p (f x) || others) (any_map p f xs)

-- items of which one is no text are no texts
pub lacks_text : (items : List Setting) (i : ℕ) (d : Setting) → i < length items → as_text (get_or items i d) ≡ None → (texts : List Text) → AreTexts items texts → ⊥
lacks_text [] i d within none texts are = absurd (omega (arith, within))
lacks_text (x ∷ items) i d within none [] are = cc
lacks_text (x ∷ items) zero d within none (t ∷ texts) are =
    let here : as_text x ≡ Some t = cc in
    let missing : as_text x ≡ None = none in
    cc
lacks_text (x ∷ items) (suc i) d within none (t ∷ texts) are = lacks_text items i d (omega (arith, within)) none texts cc

same_texts : (a b : List Text) → map {A = Text} (λ x. Some x) a ≡ map (λ x. Some x) b → a ≡ b
same_texts [] [] same = refl
same_texts [] (y ∷ b) same = cc
same_texts (x ∷ a) [] same = cc
same_texts (x ∷ a) (y ∷ b) same =
    let rest : map {A = Text} (λ x. Some x) a ≡ map (λ x. Some x) b = cc in
    let first : x ≡ y = cc in
    let others = same_texts a b rest in
    cc

-- a value lists one list of texts at most
pub lists_once : (setting : Setting) (a b : List Text) → Lists setting a → Lists setting b → a ≡ b
lists_once setting a b first second = by_text (as_text setting) (as_list setting) first second where
  by_list : (list : Option (List Setting)) → IsSomeAnd list (λ items. AreTexts items a) → IsSomeAnd list (λ items. AreTexts items b) → a ≡ b
  by_list None p q = absurd p
  by_list (Some items) p q = same_texts a b (sym p ∙ q)

  by_text : (text : Option Text) (list : Option (List Setting)) →
      MatchOption text (IsSomeAnd list (λ items. AreTexts items a)) (λ t. a ≡ t ∷ []) →
      MatchOption text (IsSomeAnd list (λ items. AreTexts items b)) (λ t. b ≡ t ∷ []) → a ≡ b
  by_text None list p q = by_list list p q
  by_text (Some t) list p q = p ∙ sym q

-- so do members under a key
pub lists_once_at : (key : Key) (members : List Member) (a b : List Text) → ListsAt key members a → ListsAt key members b → a ≡ b
lists_once_at key members a b first second = by_value (value_at key members) first second where
  by_value : (value : Option Setting) → MatchOption value (a ≡ []) (λ setting. Lists setting a) → MatchOption value (b ≡ []) (λ setting. Lists setting b) → a ≡ b
  by_value None p q = p ∙ sym q
  by_value (Some setting) p q = lists_once setting a b p q
