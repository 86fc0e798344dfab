-- A configuration has one table under a key, and one list of fragments.
use Rattle.std.proofs.Common.{◌≡◌, ◌∙◌, ◌<◌, ℕ, zero, suc, List, [], ◌∷◌, Option, None, Some, Result, Ok, Err, IfErr, IsErrAnd, MatchOption, IsSomeAnd, arith, get_or, length, subst, sym}
use Rattle.std.specs.List.{AllZip}
use Rattle.gqlvalidate_settings.specs.Paths.{Text}
use Rattle.gqlvalidate_settings.specs.Projects.{AreFragments, IsOwnTable, KnownFragments}
use Rattle.gqlvalidate_settings.specs.Settings.{Member, TableAt, as_table, value_at}
use Rattle.gqlvalidate_settings.specs.declared.configurations.Refused.{Refused}
use Rattle.gqlvalidate_settings.specs.declared.keys.Key.{Key}
use Rattle.gqlvalidate_settings.specs.declared.keys.Key.TheVariants as key
use Rattle.gqlvalidate_settings.specs.declared.refusals.Refusal.{Refusal}
use Rattle.gqlvalidate_settings.specs.declared.setting.Setting.{Setting}
use Rattle.gqlvalidate_settings.proofs.ListLemmas.{lists_once_at}

-- what a refusal says, where it is handed on as that of a configuration
pub handed_up : {T : Type 0} (r : Result T Refused) (e : Refusal) (Q : Refusal → Type 0) → IsErrAnd r (λ y. y.refusal ≡ e) → Q e → IfErr r (λ y. Q y.refusal)
handed_up (Ok x) e Q h q = tt
handed_up (Err y) e Q h q = subst Q (sym h) q

-- members have one table at most under a key
pub table_once : (key : Key) (members : List Member) (a b : Option (List Member)) → TableAt key members a → TableAt key members b → a ≡ b
table_once key members a b first second = by_value (value_at key members) first second where
  by_table : (table : Option (List Member)) → IsSomeAnd table (λ inner. a ≡ Some inner) → IsSomeAnd table (λ inner. b ≡ Some inner) → a ≡ b
  by_table None p q = absurd p
  by_table (Some inner) p q = p ∙ sym q

  by_value : (value : Option Setting) → MatchOption value (a ≡ None) (λ setting. IsSomeAnd (as_table setting) (λ inner. a ≡ Some inner)) →
      MatchOption value (b ≡ None) (λ setting. IsSomeAnd (as_table setting) (λ inner. b ≡ Some inner)) → a ≡ b
  by_value None p q = p ∙ sym q
  by_value (Some setting) p q = by_table (as_table setting) p q

-- they say one thing of this program
own_once : (members : List Member) (a b : Option (List Member)) → IsOwnTable members a → IsOwnTable members b → a ≡ b
own_once members a b first second =
    let same = table_once key.Extensions members first.extensions second.extensions first.has_extensions second.has_extensions in
    by_extensions second.extensions (subst (λ e. MatchOption e (a ≡ None) (λ inner. TableAt key.Program inner a)) same first.is_own) second.is_own where
      by_extensions : (e : Option (List Member)) → MatchOption e (a ≡ None) (λ inner. TableAt key.Program inner a) → MatchOption e (b ≡ None) (λ inner. TableAt key.Program inner b) → a ≡ b
      by_extensions None p q = p ∙ sym q
      by_extensions (Some inner) p q = table_once key.Program inner a b p q

-- they list one list of fragments
pub fragments_once : (members : List Member) (a b : List Text) → AreFragments members a → AreFragments members b → a ≡ b
fragments_once members a b first second =
    let same = own_once members first.own second.own first.has_own second.has_own in
    by_own second.own (subst (λ o. MatchOption o (a ≡ []) (λ inner. KnownFragments inner a)) same first.lists) second.lists where
      by_own : (o : Option (List Member)) → MatchOption o (a ≡ []) (λ inner. KnownFragments inner a) → MatchOption o (b ≡ []) (λ inner. KnownFragments inner b) → a ≡ b
      by_own None p q = p ∙ sym q
      by_own (Some inner) p q = lists_once_at key.Fragments inner a b p.1 q.1

-- an element at the place of another one in a second list
pub zip_at : {A B : Type 0} (R : A → B → Type 0) (xs : List A) (ys : List B) (i : ℕ) (d : A) → i < length xs → AllZip R xs ys → (y : B) × R (get_or xs i d) y
zip_at R [] ys i d within all = absurd (omega (arith, within))
zip_at R (x ∷ xs) [] i d within all = absurd all
zip_at R (x ∷ xs) (y ∷ ys) zero d within all = (y, all.0)
zip_at R (x ∷ xs) (y ∷ ys) (suc i) d within all = zip_at R xs ys i d (omega (arith, within)) all.1
