-- What removing, adding and putting back make of the types of a map.
use Rattle.std.proofs.Common.{◌≡◌, ℕ, zero, suc, ◌+◌, ◌<◌, ◌≤◌, Bool, true, false, cond, not, ◌&&◌, List, [], ◌∷◌, ◌++◌, length, get_or, take, refl, sym, ap, ◌∙◌, subst, arith, append_assoc, append-nil, length-append, true≢false, is_some, All, IsPermutation}
use Rattle.std.specs.Prelude.{Some, None, count_by, filter, insert, remove, position, slice_get, ◌||◌}
use Rattle.std.specs.Cmp.{IsEquivalence}
use Rattle.std.specs.Cmp.Lexicographic.{nat_list_eq_equiv}
use Rattle.std.specs.List.{AllByRecursion, AllZip, IsDistinct, list_any, position_or_len}
use Rattle.std.specs.Map.{keys_of, lookup}
use Rattle.std.specs.Option.{option_map_or}
use Rattle.std.specs.Str.{bytes_eq}
use Rattle.std.proofs.lemmas.Grind.{common_steps}
use Rattle.std.proofs.lemmas.List.Edits.{insert_end, length-remove}
use Rattle.std.proofs.lemmas.List.Elements.{All-head, All-tail}
use Rattle.std.proofs.lemmas.List.Sums.{fails_before_first, length-filter, sum_by-remove}
use Rattle.std.proofs.lemmas.List.Sorted.{IsPermutation-insert, IsPermutation-map, IsPermutation-middle, IsPermutation-sym, IsPermutation-to_front}
use Rattle.std.proofs.lemmas.List.Quantifiers.{position-Some}
use Rattle.std.proofs.lemmas.Map.Keys.{IsDistinct-cons, IsDistinct-head, IsDistinct-tail, IsDistinct-IsPermutation}
use Rattle.std.proofs.lemmas.Map.Made.{IsDistinct-keys_filter}
use Rattle.std.proofs.lemmas.Option.{slice_get_within}
use Rattle.indexmap.specs.IndexMap.{insert_entry, move_index}
use Rattle.indexmap.proofs.MapLemmas.{absent_before, absent_from_lookup, insert_entry-absent, or_len-absent}
use Rattle.graphql_documents.proofs.ListLemmas.{all_pass}
use Rattle.graphql_diagnostics.proofs.ReportLemmas.{appended_then}
use Rattle.graphql_nodes.specs.Names.{NameText, same_name}
use Rattle.graphql_specification.specs.BuiltInScalars.{IsAddedScalar, built_in_scalar_names}
use Rattle.graphql_documents.specs.declared.documents.schemas.ExtendedType.{ExtendedType}
use Rattle.graphql_schemas.specs.TypeMapChanges.{AddsMissing, FitBack, Retains, is_missing, is_unused, restored}
use Rattle.graphql_schemas.specs.declared.type_map.RemovedType.{RemovedType}
use Rattle.graphql_schemas.specs.declared.type_map.TypeMapChanges.{TypeMapChanges}

-- ---- what passes a test is removed, one after another

module _ {X : Type 0} (p : X → Bool) where
  pub filter_removed : (xs : List X) (i : ℕ) (d : X) → i < length xs → p (get_or xs i d) ≡ true → filter (λ x. not (p x)) (remove xs i) ≡ filter (λ x. not (p x)) xs
  filter_removed [] i d lt e = absurd (omega arith)
  filter_removed (x ∷ xs) zero d lt e = rw e refl
  filter_removed (x ∷ xs) (suc i) d lt e = ap (λ l. cond (not (p x)) (x ∷ l) l) (filter_removed xs i d (omega arith) e)

  pub count_removed : (xs : List X) (i : ℕ) (d : X) → i < length xs → p (get_or xs i d) ≡ true → count_by p (remove xs i) + 1 ≡ count_by p xs
  count_removed xs i d lt e = ap (λ b. count_by p (remove xs i) + cond b 1 0) (sym e) ∙ sum_by-remove (λ x. cond (p x) 1 0) xs i d lt

  none_passes : (xs : List X) → position p xs ≡ None → All (λ x. p x ≡ false) xs
  none_passes xs none =
      let past : length xs ≤ position_or_len p xs = grind (arith, common_steps) in
      λ k d lt. fails_before_first p xs k d (omega arith)

  none_kept : (xs : List X) → All (λ x. p x ≡ false) xs → filter p xs ≡ []
  none_kept [] none = refl
  none_kept (x ∷ xs) none = rw (All-head (λ x. p x ≡ false) x xs none) (none_kept xs (All-tail (λ x. p x ≡ false) x xs none))

  pub none_left : (xs : List X) → position p xs ≡ None → filter (λ x. not (p x)) xs ≡ xs
  none_left xs none = all_pass (λ x. not (p x)) xs (λ k d lt. ap not (none_passes xs none k d lt))

  pub none_counted : (xs : List X) → position p xs ≡ None → count_by p xs ≡ 0
  none_counted xs none = sym (length-filter p xs) ∙ ap length (none_kept xs (none_passes xs none))

-- ---- what was removed is put back

module _ {X : Type 0} where
  pub insert_removed : (xs : List X) (i : ℕ) (x : X) → slice_get xs i ≡ Some x → insert (remove xs i) i x ≡ xs
  insert_removed [] i x e = absurd (true≢false (sym (ap is_some e)))
  insert_removed (y ∷ ys) zero x e = ap (λ o. option_map_or (λ z. z ∷ ys) o ys) (sym e)
  insert_removed (y ∷ ys) (suc i) x e = ap (λ l. y ∷ l) (insert_removed ys i x e)

  pub fits_removed : (xs : List X) (i : ℕ) (x : X) → slice_get xs i ≡ Some x → i ≤ length (remove xs i)
  fits_removed xs i x e = let lt = slice_get_within xs i x e in let long = length-remove xs i lt in omega arith

  last_is : (xs : List X) (x : X) → slice_get (xs ++ x ∷ []) (length xs) ≡ Some x
  last_is [] x = refl
  last_is (y ∷ ys) x = last_is ys x

  last_removed : (xs : List X) (x : X) → remove (xs ++ x ∷ []) (length xs) ≡ xs
  last_removed [] x = refl
  last_removed (y ∷ ys) x = ap (λ l. y ∷ l) (last_removed ys x)

  pub moved_back : (xs : List X) (i : ℕ) (x : X) → move_index (xs ++ x ∷ []) (length xs) i ≡ insert xs i x
  moved_back xs i x =
      ap (λ o. option_map_or (λ y. insert (remove (xs ++ x ∷ []) (length xs)) i y) o (xs ++ x ∷ [])) (last_is xs x) ∙
      ap (λ l. insert l i x) (last_removed xs x)

names_alike : IsEquivalence same_name
names_alike = record { refl = λ a. nat_list_eq_equiv.refl a.text; symm = λ a b. nat_list_eq_equiv.symm a.text b.text; congr = λ a b c. nat_list_eq_equiv.congr a.text b.text c.text }

abbrev Types : Type 0
Types = List (NameText × ExtendedType)

abbrev AreApart : Types → Type 0
AreApart types = IsDistinct same_name (keys_of types)

apart_moved : (xs ys : Types) → IsPermutation xs ys → AreApart xs → AreApart ys
apart_moved xs ys moved apart = IsDistinct-IsPermutation same_name names_alike.symm (keys_of xs) (keys_of ys) (IsPermutation-map (λ e. e.0) xs ys moved) apart

apart_first : (types : Types) (i : ℕ) (e : NameText × ExtendedType) → AreApart (insert types i e) → AreApart (e ∷ types)
apart_first types i e apart = apart_moved (insert types i e) (e ∷ types) (IsPermutation-sym (e ∷ types) (insert types i e) (IsPermutation-insert types i e)) apart

apart_last : (types : Types) (i : ℕ) (e : NameText × ExtendedType) → AreApart (insert types i e) → AreApart (types ++ e ∷ [])
apart_last types i e apart =
    apart_moved (e ∷ types) (types ++ e ∷ []) (IsPermutation-sym (types ++ e ∷ []) (e ∷ types) (IsPermutation-to_front types e)) (apart_first types i e apart)

pub restored_push : (rs : List RemovedType) (r : RemovedType) (types : Types) → restored (rs ++ r ∷ []) types ≡ restored rs (insert types r.index (r.name, r.definition))
restored_push [] r types = refl
restored_push (s ∷ rs) r types = ap (λ l. insert l s.index (s.name, s.definition)) (restored_push rs r types)

pub fit_push : (rs : List RemovedType) (r : RemovedType) (types : Types) → FitBack rs (insert types r.index (r.name, r.definition)) → r.index ≤ length types → FitBack (rs ++ r ∷ []) types
fit_push [] r types fit le = (le, tt)
fit_push (s ∷ rs) r types fit le = (subst (λ l. s.index ≤ length l) (sym (restored_push rs r types)) fit.0, fit_push rs r types fit.1 le)

pub fit_pop : (rs : List RemovedType) (r : RemovedType) (types : Types) → FitBack (rs ++ r ∷ []) types → FitBack rs (insert types r.index (r.name, r.definition)) × (r.index ≤ length types)
fit_pop [] r types fit = (tt, fit.0)
fit_pop (s ∷ rs) r types fit = let rest = fit_pop rs r types fit.1 in ((subst (λ l. s.index ≤ length l) (restored_push rs r types) fit.0, rest.0), rest.1)

pub apart_before : (rs : List RemovedType) (types : Types) → AreApart (restored rs types) → AreApart types
apart_before [] types apart = apart
apart_before (r ∷ rs) types apart =
    apart_before rs types (IsDistinct-tail same_name r.name (keys_of (restored rs types)) (apart_first (restored rs types) r.index (r.name, r.definition) apart))

-- a type under a new name goes last, and from there to its index
pub absent_of_apart : (types rest : Types) (e : NameText × ExtendedType) → AreApart (types ++ e ∷ rest) → lookup (same_name e.0) types ≡ None
absent_of_apart types rest e apart = absent_before names_alike types rest e apart

pub inserted_last : (types rest : Types) (e : NameText × ExtendedType) → AreApart (types ++ e ∷ rest) → insert_entry same_name types e.0 e.1 ≡ types ++ e ∷ []
inserted_last types rest e apart = insert_entry-absent same_name e.0 e.1 types (absent_from_lookup (same_name e.0) types (absent_of_apart types rest e apart))

pub inserted_at : (types : Types) (i : ℕ) (e : NameText × ExtendedType) → AreApart (insert types i e) →
    move_index (insert_entry same_name types e.0 e.1) (position_or_len (same_name e.0) (keys_of types)) i ≡ insert types i e
inserted_at types i e apart =
    let last = apart_last types i e apart in
    ap (λ n. move_index (insert_entry same_name types e.0 e.1) n i) (or_len-absent (same_name e.0) types (absent_from_lookup (same_name e.0) types (absent_of_apart types [] e last))) ∙
    ap (λ l. move_index l (length types) i) (inserted_last types [] e last) ∙
    moved_back types i e

pub absent_at : (types : Types) (i : ℕ) (e : NameText × ExtendedType) → AreApart (insert types i e) → lookup (same_name e.0) types ≡ None
absent_at types i e apart = absent_of_apart types [] e (apart_last types i e apart)

apart_in_front : (xs ys : Types) → AreApart (xs ++ ys) → AreApart xs
apart_in_front xs [] apart = subst AreApart (append-nil xs) apart
apart_in_front xs (y ∷ ys) apart =
    apart_in_front xs ys (IsDistinct-tail same_name y.0 (keys_of (xs ++ ys)) (apart_moved (xs ++ y ∷ ys) (y ∷ (xs ++ ys)) (IsPermutation-middle xs y ys) apart))

-- the last of the removed types is put back
pub record PutsBack (all left : List RemovedType) (r : RemovedType) (types : Types) : Type 0 where
  pub within : r.index ≤ length types
  pub apart : AreApart (insert types r.index (r.name, r.definition))
  pub same : restored left (insert types r.index (r.name, r.definition)) ≡ restored all types
  pub fit : FitBack left (insert types r.index (r.name, r.definition))
  pub counted : length all ≡ length left + 1

pub puts_back : (all left : List RemovedType) (r : RemovedType) (types : Types) → all ≡ left ++ r ∷ [] → FitBack all types → AreApart (restored all types) →
    PutsBack all left r types
puts_back all left r types is fit apart =
    let fits = fit_pop left r types (subst (λ rs. FitBack rs types) is fit) in
    let same : restored left (insert types r.index (r.name, r.definition)) ≡ restored all types =
    sym (restored_push left r types) ∙ ap (λ rs. restored rs types) (sym is) in
    record {
      within = fits.1;
      apart = apart_before left (insert types r.index (r.name, r.definition)) (subst AreApart (sym same) apart);
      same = same;
      fit = fits.0;
      counted = ap length is ∙ length-append left (r ∷ []);
    }

-- ---- what is taken out

pub taken_out : (rs : List RemovedType) (r : RemovedType) (types : Types) → slice_get types r.index ≡ Some (r.name, r.definition) →
    restored (rs ++ r ∷ []) (remove types r.index) ≡ restored rs types
taken_out rs r types at = restored_push rs r (remove types r.index) ∙ ap (restored rs) (insert_removed types r.index (r.name, r.definition) at)

pub fit_out : (rs : List RemovedType) (r : RemovedType) (types : Types) → slice_get types r.index ≡ Some (r.name, r.definition) →
    FitBack rs types → FitBack (rs ++ r ∷ []) (remove types r.index)
fit_out rs r types at fit =
    fit_push rs r (remove types r.index) (subst (FitBack rs) (sym (insert_removed types r.index (r.name, r.definition) at)) fit) (fits_removed types r.index (r.name, r.definition) at)

-- the first of those that pass a test is taken out
pub record TakesFirstOut (p : NameText × ExtendedType → Bool) (before after : Types) (i : ℕ) : Type 0 where
  pub within : i < length before
  pub kept : filter (λ e. not (p e)) after ≡ filter (λ e. not (p e)) before
  pub counted : count_by p after + 1 ≡ count_by p before
  pub shorter : length after + 1 ≡ length before

pub takes_first_out : (p : NameText × ExtendedType → Bool) (before after : Types) (i : ℕ) → position p before ≡ Some i → after ≡ remove before i → TakesFirstOut p before after i
takes_first_out p [] after i first is = absurd (true≢false (sym (ap is_some first)))
takes_first_out p (e ∷ es) after i first is =
    let found = position-Some p (e ∷ es) i e first in
    record {
      within = found.0;
      kept = ap (filter (λ e. not (p e))) is ∙ filter_removed p (e ∷ es) i e found.0 found.1;
      counted = ap (λ l. count_by p l + 1) is ∙ count_removed p (e ∷ es) i e found.0 found.1;
      shorter = ap (λ l. length l + 1) is ∙ length-remove (e ∷ es) i found.0;
    }

-- ---- the missing scalars

pub stands_under : (types : Types) (name : NameText) (text : List ℕ) → name.text ≡ text →
    is_some (lookup (same_name name) types) ≡ list_any (λ entry. bytes_eq entry.0.text text) types
stands_under [] name text same = refl
stands_under (e ∷ es) name text same =
    let other : bytes_eq e.0.text text ≡ same_name name e.0 = nat_list_eq_equiv.symm e.0.text text ∙ ap (λ t. bytes_eq t e.0.text) (sym same) in
    by (same_name name e.0) (stands_under es name text same) ∙ ap (λ b. b || list_any (λ entry. bytes_eq entry.0.text text) es) (sym other) where
      by : (b : Bool) → is_some (lookup (same_name name) es) ≡ list_any (λ entry. bytes_eq entry.0.text text) es →
          is_some (cond b (Some e.1) (lookup (same_name name) es)) ≡ (b || list_any (λ entry. bytes_eq entry.0.text text) es)
      by true rest = refl
      by false rest = rest

module _ (used : List ℕ → Bool) (types : Types) where
  pub adds_none : (text : List ℕ) (before : Types) → is_missing used types text ≡ false → AddsMissing used types (text ∷ []) before before
  adds_none text before known = record {
    added = [];
    appended = sym (append-nil before);
    are = subst (λ b. AllZip IsAddedScalar (cond b (text ∷ []) []) []) (sym known) tt;
  }

  pub adds_one : (text : List ℕ) (before after : Types) (e : NameText × ExtendedType) → is_missing used types text ≡ true → after ≡ before ++ e ∷ [] →
      IsAddedScalar text e → AddsMissing used types (text ∷ []) before after
  adds_one text before after e missing is one = record {
    added = e ∷ [];
    appended = is;
    are = subst (λ b. AllZip IsAddedScalar (cond b (text ∷ []) []) (e ∷ [])) (sym missing) (one, tt);
  }

  added_both : (b : Bool) (text : List ℕ) (texts : List (List ℕ)) (xs ys : Types) →
      AllZip IsAddedScalar (cond b (text ∷ []) []) xs → AllZip IsAddedScalar texts ys → AllZip IsAddedScalar (cond b (text ∷ texts) texts) (xs ++ ys)
  added_both true text texts [] ys one more = absurd one
  added_both true text texts (x ∷ []) ys one more = (one.0, more)
  added_both true text texts (x ∷ (z ∷ zs)) ys one more = absurd one.1
  added_both false text texts [] ys one more = more
  added_both false text texts (x ∷ xs) ys one more = absurd one

  pub adds_more : {text : List ℕ} {texts : List (List ℕ)} {before mid after : Types} → AddsMissing used types (text ∷ []) before mid →
      AddsMissing used types texts mid after → AddsMissing used types (text ∷ texts) before after
  adds_more {text} {texts} {before} {mid} {after} a b = record {
    added = a.added ++ b.added;
    appended = appended_then before mid after a.added b.added a.appended b.appended;
    are = added_both (is_missing used types text) text (filter (is_missing used types) texts) a.added b.added a.are b.are;
  }

-- ---- the missing scalars behind the types that stay: no name is twice

names_are_apart : IsDistinct bytes_eq built_in_scalar_names
unfolding IsDistinct
names_are_apart = ((refl, (refl, (refl, (refl, tt)))), ((refl, (refl, (refl, tt))), ((refl, (refl, tt)), ((refl, tt), (tt, tt)))))

each_of : {X : Type 0} (P : X → Type 0) → ((x : X) → P x) → (xs : List X) → AllByRecursion P xs
each_of P h [] = tt
each_of P h (x ∷ xs) = (h x, each_of P h xs)

neither : (a b : Bool) → (a || b) ≡ false → (a ≡ false) × (b ≡ false)
neither true b none = absurd (true≢false none)
neither false b none = (refl, none)

abbrev has_text : Types → List ℕ → Bool
has_text types text = list_any (λ entry. bytes_eq entry.0.text text) types

any_filtered : (p : NameText × ExtendedType → Bool) (types : Types) (text : List ℕ) → has_text types text ≡ false → has_text (filter p types) text ≡ false
any_filtered p [] text none = none
any_filtered p (e ∷ es) text none =
    let here = neither (bytes_eq e.0.text text) (has_text es text) none in
    by (p e) here.0 (any_filtered p es text here.1) where
      by : (b : Bool) → bytes_eq e.0.text text ≡ false → has_text (filter p es) text ≡ false → has_text (cond b (e ∷ filter p es) (filter p es)) text ≡ false
      by true first rest = ap (λ a. a || has_text (filter p es) text) first ∙ rest
      by false first rest = rest

none_alike : (types : Types) (name : NameText) (text : List ℕ) → name.text ≡ text → has_text types text ≡ false → AllByRecursion (λ other. same_name name other ≡ false) (keys_of types)
none_alike [] name text same none = tt
none_alike (e ∷ es) name text same none =
    let here = neither (bytes_eq e.0.text text) (has_text es text) none in
    (ap (λ t. bytes_eq t e.0.text) same ∙ nat_list_eq_equiv.symm text e.0.text ∙ here.0, none_alike es name text same here.1)

module _ (test : List ℕ → Bool) where
  still_absent : (types : Types) (e : NameText × ExtendedType) (text : List ℕ) → e.0.text ≡ text → (texts : List (List ℕ)) →
      AllByRecursion (λ other. bytes_eq text other ≡ false) texts →
      AllByRecursion (λ t. test t ≡ true → has_text types t ≡ false) texts →
      AllByRecursion (λ t. test t ≡ true → has_text (e ∷ types) t ≡ false) texts
  still_absent types e text same [] others absent = tt
  still_absent types e text same (t ∷ ts) others absent = (
    λ on. ap (λ u. bytes_eq u t || has_text types t) same ∙ ap (λ b. b || has_text types t) others.0 ∙ absent.0 on,
    still_absent types e text same ts others.1 absent.1,
  )

  grown_apart : (texts : List (List ℕ)) → IsDistinct bytes_eq texts → (types added : Types) → AllZip IsAddedScalar (filter test texts) added →
      AreApart types → AllByRecursion (λ t. test t ≡ true → has_text types t ≡ false) texts → AreApart (types ++ added)
  grown_apart [] others types [] zip apart absent = subst AreApart (sym (append-nil types)) apart
  grown_apart [] others types (e ∷ es) zip apart absent = absurd zip
  grown_apart (t ∷ ts) others types added zip apart absent =
      by (test t) refl added zip (λ us es zip' apart' absent'. grown_apart ts (IsDistinct-tail bytes_eq t ts others) us es zip' apart' absent') where
        by : (b : Bool) → test t ≡ b → (added : Types) → AllZip IsAddedScalar (cond b (t ∷ filter test ts) (filter test ts)) added →
            ((us es : Types) → AllZip IsAddedScalar (filter test ts) es → AreApart us → AllByRecursion (λ t. test t ≡ true → has_text us t ≡ false) ts → AreApart (us ++ es)) →
            AreApart (types ++ added)
        by true on [] zip rest = absurd zip
        by true on (e ∷ es) zip rest =
            let apart' : AreApart (e ∷ types) = IsDistinct-cons same_name e.0 (keys_of types) (none_alike types e.0 t zip.0.key (absent.0 on)) apart in
            apart_moved ((e ∷ types) ++ es) (types ++ e ∷ es) (IsPermutation-sym (types ++ e ∷ es) (e ∷ (types ++ es)) (IsPermutation-middle types e es))
            (rest (e ∷ types) es zip.1 apart' (still_absent types e t zip.0.key ts (IsDistinct-head bytes_eq t ts others) absent.1))
        by false on added zip rest = rest types added zip apart absent.1

-- the types that stay, with the missing scalars behind them
pub retained_apart : (used : List ℕ → Bool) (types added : Types) → AreApart types →
    AllZip IsAddedScalar (filter (is_missing used types) built_in_scalar_names) added →
    AreApart (filter (λ e. not (is_unused used e)) types ++ added)
retained_apart used types added apart zip =
    let p = λ (e : NameText × ExtendedType). not (is_unused used e) in
    grown_apart (is_missing used types) built_in_scalar_names names_are_apart (filter p types) added zip
    (IsDistinct-keys_filter same_name p types apart)
    (each_of Absent (λ t on. any_filtered p types t (lacking (used t) (has_text types t) on)) built_in_scalar_names) where
      Absent : List ℕ → Type 0
      Absent t = is_missing used types t ≡ true → has_text (filter (λ e. not (is_unused used e)) types) t ≡ false

      lacking : (a b : Bool) → (a && not b) ≡ true → b ≡ false
      lacking true true on = sym on
      lacking true false on = refl
      lacking false b on = absurd (true≢false (sym on))

-- the next scalar goes in behind the types
pub apart_next : (types left rest : Types) (e : NameText × ExtendedType) → left ≡ e ∷ rest → AreApart (types ++ left) → AreApart (insert types (length types) e)
apart_next types left rest e next apart =
    let whole : insert types (length types) e ++ rest ≡ types ++ left =
    ap (λ l. l ++ rest) (insert_end types e) ∙ append_assoc types (e ∷ []) rest ∙ ap (λ l. types ++ l) (sym next) in
    apart_in_front (insert types (length types) e) rest (subst AreApart (sym whole) apart)

-- ---- the whole

take_front : (xs ys : Types) → take (length xs) (xs ++ ys) ≡ xs
take_front [] ys = refl
take_front (x ∷ xs) ys = ap (λ l. x ∷ l) (take_front xs ys)

pub all_added : {used : List ℕ → Bool} {types missing : Types} → AddsMissing used types built_in_scalar_names [] missing →
    AllZip IsAddedScalar (filter (is_missing used types) built_in_scalar_names) missing
all_added {used} {types} adds = subst (AllZip IsAddedScalar (filter (is_missing used types) built_in_scalar_names)) (sym adds.appended) adds.are

pub retains : (used : List ℕ → Bool) (changes : TypeMapChanges) (before kept missing types : Types) (spare : ℕ) →
    AddsMissing used before built_in_scalar_names [] missing → types ≡ kept ++ missing →
    kept ≡ filter (λ e. not (is_unused used e)) before → changes.kept ≡ length kept →
    restored changes.removed.items kept ≡ before → FitBack changes.removed.items kept → AreApart before →
    length changes.removed.items ≤ spare → Retains used changes before types spare
retains used changes before kept missing types spare adds are stay count back fit apart room =
    let front : take changes.kept types ≡ kept =
    ap (λ n. take n types) count ∙ ap (take (length kept)) are ∙ take_front kept missing in
    record {
      added = missing;
      are = are ∙ ap (λ l. l ++ missing) stay;
      are_added = all_added adds;
      undoes = record {
        back = ap (restored changes.removed.items) front ∙ back;
        fit = subst (FitBack changes.removed.items) (sym front) fit;
        distinct = apart;
        room = room;
      };
    }
