-- Numbers of contents: equal ones for the same contents, and for no others; and a table of contents to which one more is added.
use Rattle.std.proofs.Common.{◌≡◌, ℕ, zero, suc, Bool, true, false, ◌||◌, List, [], ◌∷◌, ◌++◌, Option, Some, None, Ok, Err, ◌⊎◌, inl, inr, All, length, nat_eq, refl, sym, ap, ◌∙◌, subst}
use Rattle.std.specs.Prelude.{IsTrue, IfOk, OnErr, Result, slice_get, ◌↔◌}
use Rattle.std.specs.Option.{option_map_or}
use Rattle.std.specs.List.{list_any}
use Rattle.std.proofs.Math.Logic.{∥∥₁_elim, ∥∥₁_map}
use Rattle.std.proofs.Props.{props}
use Rattle.std.specs.Coded.{×_prop, Unit-prop}
use Rattle.std.proofs.lemmas.Bool.{eq-eqb, eqb-true}
use Rattle.std.proofs.lemmas.List.{append-nil, append_assoc}
use Rattle.std.proofs.lemmas.List.Elements.{All-append, All-cons, All-head, All-nil, All-tail, All-weaker}
use lib.Pointwise.{pointwise}
use Rattle.indexmap.specs.IndexSet.{insert_key}
use Rattle.graphql_documents.specs.declared.documents.executables.Selection.{Selection}
use Rattle.graphql_documents.proofs.ValueContentLemmas.{and, both}
use Rattle.graphql_contents.specs.Contents.{AreNumbered, Grows, HasNumber, IsContentOf, IsTable, nested_selections, same_contents}
use Rattle.graphql_contents.specs.contracts.contents.ContentPartialEq.TheImpl as content_impl
use Rattle.graphql_contents.specs.declared.contents.Content.{Content}
use Rattle.graphql_contents.proofs.SelectionPartLemmas.{same_back, same_nested, same_then, selections_are}

-- what `==` answers of two contents
abbrev pub same_content : Content → Content → Bool
same_content = content_impl.ghosts.eq

-- ==== what has a number

-- the contents with the number
pub found_at : (contents : List Content) (s : Selection) (n : ℕ) → HasNumber contents s n →
    (c : Content) × (slice_get contents n ≡ Some c) × IsTrue (same_contents s c.selection.now)
found_at contents s n has = by (slice_get contents n) refl has where
  by : (o : Option Content) → slice_get contents n ≡ o → IsTrue (option_map_or (λ c. same_contents s c.selection.now) o false) →
      (c : Content) × (slice_get contents n ≡ Some c) × IsTrue (same_contents s c.selection.now)
  by None e h = absurd (let no : ⊥ = cc in no)
  by (Some c) e h = (c, e, h)

pub numbered_at : (contents : List Content) (s : Selection) (n : ℕ) (c : Content) → slice_get contents n ≡ Some c → IsTrue (same_contents s c.selection.now) →
    HasNumber contents s n
numbered_at contents s n c at same = ap (λ o. option_map_or (λ c. same_contents s c.selection.now) o false) at ∙ same

-- selections with one number have the same contents
pub same_at : (contents : List Content) (s t : Selection) (n : ℕ) → HasNumber contents s n → HasNumber contents t n → IsTrue (same_contents s t)
same_at contents s t n of_s of_t =
    let c = found_at contents s n of_s in
    let d = found_at contents t n of_t in
    let one : c.0 ≡ d.0 = let both_at : Some c.0 ≡ Some d.0 = sym c.1 ∙ d.1 in cc in
    same_then s c.0.selection.now t c.2 (subst (λ (x : Content). IsTrue (same_contents x.selection.now t)) (sym one) (same_back t d.0.selection.now d.2))

-- and what has the same contents has the number too
pub number_of_same : (contents : List Content) (s t : Selection) (n : ℕ) → HasNumber contents s n → IsTrue (same_contents s t) → HasNumber contents t n
number_of_same contents s t n of_s same =
    let c = found_at contents s n of_s in
    numbered_at contents t n c.0 c.1 (same_then t s c.0.selection.now (same_back s t same) c.2)

-- in a table, selections of the same contents have one number
pub one_number : (contents : List Content) → IsTable contents → (s t : Selection) (m n : ℕ) → HasNumber contents s m → HasNumber contents t n →
    IsTrue (same_contents s t) → m ≡ n
one_number contents table s t m n of_s of_t same =
    let c = found_at contents s m of_s in
    let d = found_at contents t n of_t in
    table.once m n c.0 d.0 c.1 d.1
    (same_then c.0.selection.now s d.0.selection.now (same_back s c.0.selection.now c.2) (same_then s t d.0.selection.now same d.2))

-- the same of several selections
pub all_same : (contents : List Content) (xs ys : List Selection) (ns : List ℕ) → AreNumbered contents xs ns → AreNumbered contents ys ns →
    IsTrue (pointwise same_contents xs ys)
all_same contents [] [] [] a b = refl
all_same contents [] (y ∷ ys) [] a b = absurd b
all_same contents (x ∷ xs) ys [] a b = absurd a
all_same contents [] ys (n ∷ ns) a b = absurd a
all_same contents (x ∷ xs) [] (n ∷ ns) a b = absurd b
all_same contents (x ∷ xs) (y ∷ ys) (n ∷ ns) a b = and _ _ (same_at contents x y n a.0 b.0) (all_same contents xs ys ns a.1 b.1)

pub numbers_of_same : (contents : List Content) (xs ys : List Selection) (ns : List ℕ) → AreNumbered contents xs ns → IsTrue (pointwise same_contents xs ys) →
    AreNumbered contents ys ns
numbers_of_same contents [] [] [] a h = tt
numbers_of_same contents [] (y ∷ ys) ns a h = absurd (let no : ⊥ = cc in no)
numbers_of_same contents (x ∷ xs) [] ns a h = absurd (let no : ⊥ = cc in no)
numbers_of_same contents (x ∷ xs) ys [] a h = absurd a
numbers_of_same contents [] [] (n ∷ ns) a h = absurd a
numbers_of_same contents (x ∷ xs) (y ∷ ys) (n ∷ ns) a h =
    let parts = both (same_contents x y) (pointwise same_contents xs ys) h in
    (number_of_same contents x y n a.0 parts.0, numbers_of_same contents xs ys ns a.1 parts.1)

all_one : (contents : List Content) → IsTable contents → (xs ys : List Selection) (ms ns : List ℕ) → AreNumbered contents xs ms → AreNumbered contents ys ns →
    IsTrue (pointwise same_contents xs ys) → IsTrue (pointwise nat_eq ms ns)
all_one contents table [] [] [] [] a b h = refl
all_one contents table [] [] [] (n ∷ ns) a b h = absurd b
all_one contents table [] [] (m ∷ ms) ns a b h = absurd a
all_one contents table [] (y ∷ ys) ms ns a b h = absurd (let no : ⊥ = cc in no)
all_one contents table (x ∷ xs) [] ms ns a b h = absurd (let no : ⊥ = cc in no)
all_one contents table (x ∷ xs) (y ∷ ys) [] ns a b h = absurd a
all_one contents table (x ∷ xs) (y ∷ ys) (m ∷ ms) [] a b h = absurd b
all_one contents table (x ∷ xs) (y ∷ ys) (m ∷ ms) (n ∷ ns) a b h =
    let parts = both (same_contents x y) (pointwise same_contents xs ys) h in
    and _ _ (eq-eqb m n (one_number contents table x y m n a.0 b.0 parts.0)) (all_one contents table xs ys ms ns a.1 b.1 parts.1)

same_numbers : (ms ns : List ℕ) → IsTrue (pointwise nat_eq ms ns) → ms ≡ ns
same_numbers [] [] h = refl
same_numbers [] (n ∷ ns) h = absurd (let no : ⊥ = cc in no)
same_numbers (m ∷ ms) [] h = absurd (let no : ⊥ = cc in no)
same_numbers (m ∷ ms) (n ∷ ns) h =
    let parts = both (nat_eq m n) (pointwise nat_eq ms ns) h in
    λ i. eqb-true m n parts.0 i ∷ same_numbers ms ns parts.1 i

-- contents are equal exactly where those of their selections are
contents_compared : (contents : List Content) → IsTable contents → (s t : Selection) (a b : Content) → IsContentOf contents s a → IsContentOf contents t b →
    IsTrue (same_content a b) ↔ IsTrue (same_contents s t)
contents_compared contents table s t a b is too = (there, back) where
  there : IsTrue (same_content a b) → IsTrue (same_contents s t)
  there h =
      let parts = both _ _ h in
      let numbers = same_numbers a.nested.items b.nested.items parts.1 in
      (selections_are s t a.written b.written is.written too.written).1
      (parts.0, all_same contents (nested_selections s) (nested_selections t) b.nested.items (subst (AreNumbered contents (nested_selections s)) numbers is.nested) too.nested)

  back : IsTrue (same_contents s t) → IsTrue (same_content a b)
  back h =
      let parts = (selections_are s t a.written b.written is.written too.written).0 h in
      and _ _ parts.0 (all_one contents table (nested_selections s) (nested_selections t) a.nested.items b.nested.items is.nested too.nested parts.1)

-- ==== a table that grows

at_left : {X : Type 0} (xs ys : List X) (n : ℕ) (x : X) → slice_get xs n ≡ Some x → slice_get (xs ++ ys) n ≡ Some x
at_left [] ys n x e = absurd (let no : ⊥ = cc in no)
at_left (x ∷ xs) ys zero y e = e
at_left (x ∷ xs) ys (suc n) y e = at_left xs ys n y e

pub number_stays : (contents more : List Content) (s : Selection) (n : ℕ) → HasNumber contents s n → HasNumber (contents ++ more) s n
number_stays contents more s n has =
    let c = found_at contents s n has in
    numbered_at (contents ++ more) s n c.0 (at_left contents more n c.0 c.1) c.2

pub numbers_stay : (contents more : List Content) (xs : List Selection) (ns : List ℕ) → AreNumbered contents xs ns → AreNumbered (contents ++ more) xs ns
numbers_stay contents more [] [] a = tt
numbers_stay contents more [] (n ∷ ns) a = absurd a
numbers_stay contents more (x ∷ xs) [] a = absurd a
numbers_stay contents more (x ∷ xs) (n ∷ ns) a = (number_stays contents more x n a.0, numbers_stay contents more xs ns a.1)

content_stays : (contents more : List Content) (s : Selection) (c : Content) → IsContentOf contents s c → IsContentOf (contents ++ more) s c
content_stays contents more s c is = record {
  written = is.written;
  nested = numbers_stay contents more (nested_selections s) c.nested.items is.nested;
}

-- numbers stay with what grows
pub grown_number : (old new : List Content) → Grows old new → (s : Selection) (n : ℕ) → HasNumber old s n → HasNumber new s n
grown_number old new grows s n has = subst (λ contents. HasNumber contents s n) (sym grows.1) (number_stays old grows.0 s n has)

pub grown_numbers : (old new : List Content) → Grows old new → (xs : List Selection) (ns : List ℕ) → AreNumbered old xs ns → AreNumbered new xs ns
grown_numbers old new grows xs ns are = subst (λ contents. AreNumbered contents xs ns) (sym grows.1) (numbers_stay old grows.0 xs ns are)

pub grows_then : (old between new : List Content) → Grows old between → Grows between new → Grows old new
grows_then old between new first second =
    (first.0 ++ second.0, second.1 ∙ ap (λ l. l ++ second.0) first.1 ∙ append_assoc old first.0 second.0)

pub grows_none : (contents : List Content) → Grows contents contents
grows_none contents = ([], sym (append-nil contents))

-- what is at a place of a list with one element more
last_or_before : {X : Type 0} (xs : List X) (x : X) (n : ℕ) (y : X) → slice_get (xs ++ x ∷ []) n ≡ Some y →
    (slice_get xs n ≡ Some y) ⊎ ((n ≡ length xs) × (y ≡ x))
last_or_before [] x zero y e = inr (refl, let own : y ≡ x = cc in own)
last_or_before [] x (suc n) y e = absurd (let no : ⊥ = cc in no)
last_or_before (z ∷ zs) x zero y e = inl e
last_or_before (z ∷ zs) x (suc n) y e = elim (last_or_before zs x n y e) [
  | inl before ↦ inl before
  | inr last ↦ inr (ap suc last.0, last.1)
]

none_passes : {X : Type 0} (p : X → Bool) (xs : List X) (n : ℕ) (x : X) → list_any p xs ≡ false → slice_get xs n ≡ Some x → IsTrue (p x) → ⊥
none_passes p [] n x none e h = let no : ⊥ = cc in no
none_passes p (y ∷ ys) n x none e h = by (p y) (list_any p ys) refl refl none n e (λ k behind at. none_passes p ys k x behind at h) where
  by : (a b : Bool) → p y ≡ a → list_any p ys ≡ b → (a || b) ≡ false → (n : ℕ) → slice_get (y ∷ ys) n ≡ Some x →
      ((k : ℕ) → list_any p ys ≡ false → slice_get ys k ≡ Some x → ⊥) → ⊥
  by true b pa pb none n e later = let no : ⊥ = cc in no
  by false true pa pb none n e later = let no : ⊥ = cc in no
  by false false pa pb none zero e later = let own : y ≡ x = cc in let yes : p x ≡ false = subst (λ z. p z ≡ false) own pa in let no : ⊥ = cc in no
  by false false pa pb none (suc n) e later = later n pb e

each_at : {X : Type 0} (P : X → Type 0) (xs : List X) (n : ℕ) (x : X) → All P xs → slice_get xs n ≡ Some x → P x
each_at P [] n x all e = absurd (let no : ⊥ = cc in no)
each_at P (y ∷ ys) zero x all e = let own : y ≡ x = cc in subst P own (All-head P y ys all)
each_at P (y ∷ ys) (suc n) x all e = each_at P ys n x (All-tail P y ys all) e

-- the content at a number is what its selection holds
pub own_content : (contents : List Content) → IsTable contents → (n : ℕ) (c : Content) → slice_get contents n ≡ Some c → IsContentOf contents c.selection.now c
own_content contents table n c at = each_at (λ c. IsContentOf contents c.selection.now c) contents n c table.own at

-- the numbers of the contents of the selections in the set of one with this number
nested_numbers : (contents : List Content) → IsTable contents → (s : Selection) (n : ℕ) (c : Content) → HasNumber contents s n → slice_get contents n ≡ Some c →
    AreNumbered contents (nested_selections s) c.nested.items
nested_numbers contents table s n c has at =
    let found = found_at contents s n has in
    let one : found.0 ≡ c = let both_at : Some found.0 ≡ Some c = sym found.1 ∙ at in cc in
    let same : IsTrue (same_contents c.selection.now s) =
    same_back s c.selection.now (subst (λ (x : Content). IsTrue (same_contents s x.selection.now)) one found.2) in
    numbers_of_same contents (nested_selections c.selection.now) (nested_selections s) c.nested.items (own_content contents table n c at).nested
    (same_nested c.selection.now s same)

pub empty_table : IsTable []
empty_table = record {
  own = All-nil (λ c. IsContentOf [] c.selection.now c);
  once = λ m n a b at_a at_b same. absurd (let no : ⊥ = cc in no);
}

-- new contents behind the others
table_added : (contents : List Content) → IsTable contents → (c : Content) → IsContentOf contents c.selection.now c →
    list_any (same_content c) contents ≡ false → IsTable (contents ++ c ∷ [])
table_added contents table c is other =
    let more = contents ++ c ∷ [] in
    let apart : (n : ℕ) (a : Content) → slice_get contents n ≡ Some a → IsTrue (same_contents c.selection.now a.selection.now) → ⊥ =
    λ n a at same. none_passes (same_content c) contents n a other at
    ((contents_compared contents table c.selection.now a.selection.now c a is (own_content contents table n a at)).1 same) in
    record {
      own = All-append (λ x. IsContentOf more x.selection.now x) contents (c ∷ [])
          (All-weaker (λ x. IsContentOf contents x.selection.now x) (λ x. IsContentOf more x.selection.now x) (λ x own. content_stays contents (c ∷ []) x.selection.now x own) contents table.own)
          (All-cons (λ x. IsContentOf more x.selection.now x) c [] (content_stays contents (c ∷ []) c.selection.now c is) (All-nil (λ x. IsContentOf more x.selection.now x)));
      once = λ m n a b at_a at_b same.
          elim (last_or_before contents c m a at_a) [
            | inl old_a ↦ elim (last_or_before contents c n b at_b) [
              | inl old_b ↦ table.once m n a b old_a old_b same
              | inr last_b ↦ absurd (apart m a old_a (same_back a.selection.now c.selection.now (subst (λ (x : Content). IsTrue (same_contents a.selection.now x.selection.now)) last_b.1 same)))
            ]
            | inr last_a ↦ elim (last_or_before contents c n b at_b) [
              | inl old_b ↦ absurd (apart n b old_b (subst (λ (x : Content). IsTrue (same_contents x.selection.now b.selection.now)) last_a.1 same))
              | inr last_b ↦ last_a.0 ∙ sym last_b.0
            ]
          ];
    }

-- contents go in behind the others, or stand there already
inserted_cases : (contents new : List Content) (c : Content) → new ≡ insert_key same_content contents c →
    (new ≡ contents) ⊎ ((new ≡ contents ++ c ∷ []) × (list_any (same_content c) contents ≡ false))
inserted_cases contents new c is = by (list_any (same_content c) contents) refl where
  by : (b : Bool) → list_any (same_content c) contents ≡ b → (new ≡ contents) ⊎ ((new ≡ contents ++ c ∷ []) × (list_any (same_content c) contents ≡ false))
  by true e = inl (is ∙ rw e refl)
  by false e = inr (is ∙ rw e refl, e)

table_inserted : (contents new : List Content) (c : Content) → IsTable contents → IsContentOf contents c.selection.now c →
    new ≡ insert_key same_content contents c → IsTable new
table_inserted contents new c table is inserted = elim (inserted_cases contents new c inserted) [
  | inl kept ↦ subst IsTable (sym kept) table
  | inr added ↦ subst IsTable (sym added.0) (table_added contents table c is added.1)
]

grows_inserted : (contents new : List Content) (c : Content) → new ≡ insert_key same_content contents c → Grows contents new
grows_inserted contents new c inserted = elim (inserted_cases contents new c inserted) [
  | inl kept ↦ ([], kept ∙ sym (append-nil contents))
  | inr added ↦ (c ∷ [], added.0)
]

module _ {T E : Type 0} (result : Result T E) (contents new : List Content) (c : Content)
    (inserted : IfOk result (λ r. new ≡ insert_key same_content contents c)) (unchanged : OnErr result (new ≡ contents)) where
  -- the table after a call that puts contents in, and that it only grows
  pub table_after : ∥ IsTable contents ∥₁ → IsContentOf contents c.selection.now c → ∥ IsTable new ∥₁
  table_after table is = ∥∥₁_map table (λ t. by result inserted unchanged t) where
    by : (r : Result T E) → IfOk r (λ x. new ≡ insert_key same_content contents c) → OnErr r (new ≡ contents) → IsTable contents → IsTable new
    by (Ok x) put kept t = table_inserted contents new c t is put
    by (Err e) put kept t = subst IsTable (sym kept) t

  pub grows_after : Grows contents new
  grows_after = by result inserted unchanged where
    by : (r : Result T E) → IfOk r (λ x. new ≡ insert_key same_content contents c) → OnErr r (new ≡ contents) → Grows contents new
    by (Ok x) put kept = grows_inserted contents new c put
    by (Err e) put kept = ([], kept ∙ sym (append-nil contents))

-- the place where contents are is the number of their selection
pub number_inserted : (contents new : List Content) (c k : Content) (n : ℕ) → IsTable contents → IsContentOf contents c.selection.now c →
    new ≡ insert_key same_content contents c → slice_get new n ≡ Some k → IsTrue (same_content c k) → HasNumber new c.selection.now n
number_inserted contents new c k n table is inserted at same =
    let t = table_inserted contents new c table is inserted in
    let grows = grows_inserted contents new c inserted in
    let still : IsContentOf new c.selection.now c = subst (λ l. IsContentOf l c.selection.now c) (sym grows.1) (content_stays contents grows.0 c.selection.now c is) in
    numbered_at new c.selection.now n k at ((contents_compared new t c.selection.now k.selection.now c k still (own_content new t n k at)).0 same)

-- at most one proof says that selections have these numbers
pub numbers_prop : (contents : List Content) (xs : List Selection) (ns : List ℕ) → IsProp (AreNumbered contents xs ns)
numbers_prop contents [] [] = Unit-prop
numbers_prop contents [] (n ∷ ns) = λ a b. absurd a
numbers_prop contents (x ∷ xs) [] = λ a b. absurd a
numbers_prop contents (x ∷ xs) (n ∷ ns) = ×_prop (Prim.hlevel props) (numbers_prop contents xs ns)

-- the numbers in the contents with a number
pub nested_found : (contents : List Content) → ∥ IsTable contents ∥₁ → (s : Selection) (n : ℕ) (c : Content) → HasNumber contents s n → slice_get contents n ≡ Some c →
    AreNumbered contents (nested_selections s) c.nested.items
nested_found contents table s n c has at =
    ∥∥₁_elim table (numbers_prop contents (nested_selections s) c.nested.items) (λ t. nested_numbers contents t s n c has at)
