-- Lists of the variables that are in values, arguments and directives.
use Rattle.std.proofs.Common.{◌≡◌, ◌↔◌, ℕ, ◌+◌, ◌<◌, ◌≤◌, arith, List, [], ◌∷◌, ◌++◌, length, get_or, take, refl, sym, ap, ◌∙◌, subst, Contains, Vec}
use Rattle.std.specs.Prelude.{◌⊎◌}
use Rattle.std.specs.Borrow.{Bor}
use Rattle.std.specs.List.{Any}
use Rattle.std.specs.declared.alloc.Global.{Global}
use Rattle.std.proofs.lemmas.List.{append-nil, append_assoc, map-append, take_all}
use Rattle.std.proofs.lemmas.List.Elements.{Contains-append_left, Contains-append_right, Contains-append_cases}
use mathlib.Core.Logic.{inl, inr}
use Rattle.graphql_nodes.specs.Names.{NameText, SameName}
use Rattle.graphql_documents.specs.Values.{StandsIn, VariablesIn, in_boolean, in_enum, in_float, in_int, in_null, in_string, VariablesInEntries, VariablesInItems, next_entry, next_item, no_entries, no_items}
use Rattle.graphql_nodes.specs.declared.nodes.Node.{Node}
use Rattle.graphql_documents.specs.declared.documents.values.Value.{Value, out-Value, roll-Value, roll-out-Value}
use Rattle.graphql_documents.specs.declared.documents.values.Value.TheOpen as Open
use Rattle.graphql_documents.specs.declared.documents.values.Value.TheVariants as literal
use Rattle.graphql_documents.proofs.ListLemmas.{more_is, only_one, stands_first}
use Rattle.graphql_documents.proofs.VariableUseLemmas.{one_list_only}
use Rattle.graphql_variables.specs.Uses.{AddsNames, IsNamedIn, NamesAlso, names_of}

-- some element, as one that is in the list
pub any_has : {X : Type 0} (P : X → Type 0) (xs : List X) → Any P xs → (x : X) × Contains xs x × P x
any_has P xs (k, x, within, is, p) = (x, (k, within, is), p)

pub has_any : {X : Type 0} (P : X → Type 0) (xs : List X) (x : X) → Contains xs x → P x → Any P xs
has_any P xs x (k, within, is) p = (k, x, within, is, p)

pub none_in_none : {X : Type 0} (P : X → Type 0) → ¬ Any P []
none_in_none P (k, x, within, is, p) = omega (arith, within)

-- of one element more
any_split : {X : Type 0} (P : X → Type 0) (xs : List X) (x y : X) → P y → Contains xs y ⊎ Contains (x ∷ []) y → Any P xs ⊎ P x
any_split P xs x y p (inl before) = inl (has_any P xs y before p)
any_split P xs x y p (inr last) = inr (subst P (only_one x y last) p)

any_join : {X : Type 0} (P : X → Type 0) (xs : List X) (x : X) → Any P xs ⊎ P x → Any P (xs ++ x ∷ [])
any_join P xs x (inl any) =
    let h = any_has P xs any in has_any P (xs ++ x ∷ []) h.0 (Contains-append_left xs (x ∷ []) h.0 h.1) h.2
any_join P xs x (inr p) = has_any P (xs ++ x ∷ []) x (Contains-append_right xs (x ∷ []) x (stands_first x [])) p

pub any_more : {X : Type 0} (P : X → Type 0) (xs : List X) (i : ℕ) (x : X) → i < length xs → x ≡ get_or xs i x →
    Any P (take (i + 1) xs) ↔ (Any P (take i xs) ⊎ P x)
any_more P xs i x within item =
    subst (λ l. Any P l ↔ (Any P (take i xs) ⊎ P x)) (sym (more_is xs i x within item)) (
      λ any. let h = any_has P (take i xs ++ x ∷ []) any in any_split P (take i xs) x h.0 h.2 (Contains-append_cases (take i xs) (x ∷ []) h.0 h.1),
      any_join P (take i xs) x,
    )

-- one item or entry more
pub items_more : {items : List (Node Value)} {names : List NameText} → VariablesInItems items names →
    (x : Node Value) (more : List NameText) → VariablesIn x.value.value more → VariablesInItems (items ++ x ∷ []) (names ++ more)
items_more no_items x more here = subst (VariablesInItems (x ∷ [])) (append-nil more) (next_item here no_items)
items_more (next_item {item = y} {items = ys} {names = a} {more = b} first rest) x more here =
    subst (VariablesInItems (y ∷ (ys ++ x ∷ []))) (sym (append_assoc a b more)) (next_item first (items_more rest x more here))

pub entries_more : {entries : List (NameText × Node Value)} {names : List NameText} → VariablesInEntries entries names →
    (x : NameText × Node Value) (more : List NameText) → VariablesIn x.1.value.value more → VariablesInEntries (entries ++ x ∷ []) (names ++ more)
entries_more no_entries x more here = subst (VariablesInEntries (x ∷ [])) (append-nil more) (next_entry here no_entries)
entries_more (next_entry {entry = y} {entries = ys} {names = a} {more = b} first rest) x more here =
    subst (VariablesInEntries (y ∷ (ys ++ x ∷ []))) (sym (append_assoc a b more)) (next_entry first (entries_more rest x more here))

-- what is no variable, no list and no object has no variables
pub has_no_variables : (v : Value) → ((name : NameText) → v ≡ literal.Variable name → ⊥) →
    ((items : Vec (Node Value) Global) → v ≡ literal.List items → ⊥) →
    ((entries : Vec (NameText × Node Value) Global) → v ≡ literal.Object entries → ⊥) → VariablesIn v []
has_no_variables v no_variable no_list no_object = by_open (out-Value v) refl where
  is : (x : Open.Value-F Value) → out-Value v ≡ x → v ≡ roll-Value x
  is x e = sym (roll-out-Value v) ∙ ap roll-Value e

  without : (w : Value) → v ≡ w → VariablesIn w [] → VariablesIn v []
  without w e none = subst (λ u. VariablesIn u []) (sym e) none

  by_open : (x : Open.Value-F Value) → out-Value v ≡ x → VariablesIn v []
  by_open Open.Null e = without _ (is _ e ∙ literal.rolls-Null) in_null
  by_open (Open.Enum a) e = without _ (is _ e ∙ literal.rolls-Enum a) in_enum
  by_open (Open.Variable a) e = absurd (no_variable a (is _ e ∙ literal.rolls-Variable a))
  by_open (Open.String a) e = without _ (is _ e ∙ literal.rolls-String a) (in_string a)
  by_open (Open.Float a) e = without _ (is _ e ∙ literal.rolls-Float a) in_float
  by_open (Open.Int a) e = without _ (is _ e ∙ literal.rolls-Int a) in_int
  by_open (Open.Boolean a) e = without _ (is _ e ∙ literal.rolls-Boolean a) in_boolean
  by_open (Open.List a) e = absurd (no_list a (is _ e ∙ literal.rolls-List a))
  by_open (Open.Object a) e = absurd (no_object a (is _ e ∙ literal.rolls-Object a))

-- nothing is added, and one name is
pub adds_none : {Are : List NameText → Type 0} {old : List (Bor NameText)} → Are [] → AddsNames Are old old
adds_none {old = old} are = record { added = []; appended = sym (append-nil old); are = are }

pub adds_one : {Are : List NameText → Type 0} {old new : List (Bor NameText)} (name : Bor NameText) → new ≡ old ++ name ∷ [] → Are (name.now ∷ []) → AddsNames Are old new
adds_one name is are = record { added = name ∷ []; appended = is; are = are }

-- names are added after others
pub adds_then : {P Q R : List NameText → Type 0} {old mid new : List (Bor NameText)} →
    ((a b : List NameText) → P a → Q b → R (a ++ b)) → AddsNames P old mid → AddsNames Q mid new → AddsNames R old new
adds_then {R = R} {old = old} join a b = record {
  added = a.added ++ b.added;
  appended = b.appended ∙ ap (λ l. l ++ b.added) a.appended ∙ append_assoc old a.added b.added;
  are = subst R (sym (map-append (λ (n : Bor NameText). n.now) a.added b.added)) (join (names_of a.added) (names_of b.added) a.are b.are);
}

pub adds_in_words : {P R : List NameText → Type 0} {old new : List (Bor NameText)} → ((a : List NameText) → P a → R a) → AddsNames P old new → AddsNames R old new
adds_in_words w a = record { added = a.added; appended = a.appended; are = w (names_of a.added) a.are }

-- one item or entry of a list more
pub adds_item : (items : List (Node Value)) (i : ℕ) (x : Node Value) {old mid new : List (Bor NameText)} → i < length items → x ≡ get_or items i x →
    AddsNames (VariablesInItems (take i items)) old mid → AddsNames (VariablesIn x.value.value) mid new → AddsNames (VariablesInItems (take (i + 1) items)) old new
adds_item items i x within item a b =
    adds_then (λ c d before here. subst (λ l. VariablesInItems l (c ++ d)) (sym (more_is items i x within item)) (items_more before x d here)) a b

pub adds_entry : (entries : List (NameText × Node Value)) (i : ℕ) (x : NameText × Node Value) {old mid new : List (Bor NameText)} → i < length entries → x ≡ get_or entries i x →
    AddsNames (VariablesInEntries (take i entries)) old mid → AddsNames (VariablesIn x.1.value.value) mid new → AddsNames (VariablesInEntries (take (i + 1) entries)) old new
adds_entry entries i x within item a b =
    adds_then (λ c d before here. subst (λ l. VariablesInEntries l (c ++ d)) (sym (more_is entries i x within item)) (entries_more before x d here)) a b

-- the same names in other words, none, and some after others
pub also_in_words : (Used Named : NameText → Type 0) (old new : List (Bor NameText)) → ((n : NameText) → Used n ↔ Named n) → NamesAlso Used old new → NamesAlso Named old new
also_in_words Used Named old new w h n = (
  λ there. to_named ((h n).0 there),
  λ some. (h n).1 (to_used some),
) where
  to_named : IsNamedIn (names_of old) n ⊎ Used n → IsNamedIn (names_of old) n ⊎ Named n
  to_named (inl before) = inl before
  to_named (inr used) = inr ((w n).0 used)

  to_used : IsNamedIn (names_of old) n ⊎ Named n → IsNamedIn (names_of old) n ⊎ Used n
  to_used (inl before) = inl before
  to_used (inr named) = inr ((w n).1 named)

pub also_none : (Used : NameText → Type 0) (old : List (Bor NameText)) → ((n : NameText) → ¬ Used n) → NamesAlso Used old old
also_none Used old none n = (λ there. inl there, back) where
  back : IsNamedIn (names_of old) n ⊎ Used n → IsNamedIn (names_of old) n
  back (inl before) = before
  back (inr used) = absurd (none n used)

pub also_then : (P Q : NameText → Type 0) (old mid new : List (Bor NameText)) → NamesAlso P old mid → NamesAlso Q mid new → NamesAlso (λ n. P n ⊎ Q n) old new
also_then P Q old mid new a b n = (λ there. forth ((b n).0 there), λ some. (b n).1 (back some)) where
  before : IsNamedIn (names_of old) n ⊎ P n → IsNamedIn (names_of old) n ⊎ (P n ⊎ Q n)
  before (inl there) = inl there
  before (inr p) = inr (inl p)

  forth : IsNamedIn (names_of mid) n ⊎ Q n → IsNamedIn (names_of old) n ⊎ (P n ⊎ Q n)
  forth (inl there) = before ((a n).0 there)
  forth (inr q) = inr (inr q)

  back : IsNamedIn (names_of old) n ⊎ (P n ⊎ Q n) → IsNamedIn (names_of mid) n ⊎ Q n
  back (inl there) = inl ((a n).1 (inl there))
  back (inr (inl p)) = inl ((a n).1 (inr p))
  back (inr (inr q)) = inr q

-- the variables of a value are the names that are in it
pub also_in_value : {v : Value} {old new : List (Bor NameText)} → AddsNames (VariablesIn v) old new → NamesAlso (λ n. StandsIn n v) old new
also_in_value {v = v} {old = old} {new = new} a n = (forth, back) where
  added : List NameText
  added = names_of a.added

  is : names_of new ≡ names_of old ++ added
  is = ap names_of a.appended ∙ map-append (λ (n : Bor NameText). n.now) old a.added

  by_place : (u : NameText) → SameName u n → Contains (names_of old) u ⊎ Contains added u → IsNamedIn (names_of old) n ⊎ StandsIn n v
  by_place u same (inl there) = inl (u, there, same)
  by_place u same (inr there) = inr (added, u, a.are, there, same)

  forth : IsNamedIn (names_of new) n → IsNamedIn (names_of old) n ⊎ StandsIn n v
  forth (u, there, same) = by_place u same (Contains-append_cases (names_of old) added u (subst (λ l. Contains l u) is there))

  back : IsNamedIn (names_of old) n ⊎ StandsIn n v → IsNamedIn (names_of new) n
  back (inl (u, there, same)) = (u, subst (λ l. Contains l u) (sym is) (Contains-append_left (names_of old) added u there), same)
  back (inr (names, u, stand, there, same)) =
      let here : Contains added u = subst (λ l. Contains l u) (one_list_only v names added stand a.are) there in
      (u, subst (λ l. Contains l u) (sym is) (Contains-append_right (names_of old) added u here), same)

-- a walk over a list that adds the names of each element: none yet, one more, and all
module _ {X : Type 0} (In : NameText → X → Type 0) (xs : List X) where
  pub also_none_yet : (old : List (Bor NameText)) → NamesAlso (λ n. Any (In n) (take 0 xs)) old old
  also_none_yet old = also_none (λ n. Any (In n) (take 0 xs)) old (λ n any. none_in_none (In n) any)

  pub also_more : (i : ℕ) (x : X) (old mid new : List (Bor NameText)) → i < length xs → x ≡ get_or xs i x →
      NamesAlso (λ n. Any (In n) (take i xs)) old mid → NamesAlso (λ n. In n x) mid new → NamesAlso (λ n. Any (In n) (take (i + 1) xs)) old new
  also_more i x old mid new within item a b =
      also_in_words (λ n. Any (In n) (take i xs) ⊎ In n x) (λ n. Any (In n) (take (i + 1) xs)) old new
      (λ n. let more = any_more (In n) xs i x within item in (more.1, more.0))
      (also_then (λ n. Any (In n) (take i xs)) (λ n. In n x) old mid new a b)

  pub also_all : (i : ℕ) (old new : List (Bor NameText)) → length xs ≤ i →
      NamesAlso (λ n. Any (In n) (take i xs)) old new → NamesAlso (λ n. Any (In n) xs) old new
  also_all i old new past h = subst (λ l. NamesAlso (λ n. Any (In n) l) old new) (take_all i xs past) h
