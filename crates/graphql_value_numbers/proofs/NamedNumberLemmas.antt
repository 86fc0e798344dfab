-- Numbers under names: equal ones have the same look-ups, and those with the same look-ups are equal.
use Rattle.std.proofs.Common.{◌≡◌, ℕ, Bool, ◌&&◌, List, [], ◌∷◌, Option, Some, None, cond, nat_eq, refl, ap, ◌∙◌}
use Rattle.std.specs.Prelude.{IsTrue}
use Rattle.std.specs.Borrow.{Bor}
use Rattle.std.specs.Cmp.{IsTotalOrder, on_total}
use Rattle.std.specs.Cmp.Lexicographic.{slice_cmp}
use Rattle.std.specs.Ordering.{is_eq, nat_cmp}
use Rattle.std.specs.Str.{bytes_eq}
use Rattle.std.proofs.lemmas.Bool.{eq-eqb, eqb-true}
use Rattle.std.proofs.lemmas.Cmp.{nat_list_cmp_total}
use Rattle.std.proofs.lemmas.Map.Lookups.{btree_map_read_from_get, exact_bytes, map_keys}
use Rattle.std.proofs.lemmas.Map.Text.{is_eq-slice_cmp}
use Rattle.std.proofs.lemmas.Slice.Eq.{bytes_eq-Decides}
use Rattle.std.specs.BTreeMap.{Updates}
use Rattle.std.specs.Map.{lookup}
use lib.Pointwise.{pointwise}
use Rattle.graphql_documents.proofs.ValueContentLemmas.{and, both}
use Rattle.graphql_nodes.specs.Names.{NameText, same_name}
use Rattle.graphql_value_numbers.specs.NamedNumbers.{AreOrdered, number_under}
use Rattle.graphql_value_numbers.specs.contracts.named_numbers.NamedNumbersPartialEq.TheImpl as named_impl
use Rattle.graphql_value_numbers.specs.declared.named_numbers.NamedNumbers.{NamedNumbers}

-- what `==` answers of numbers under names
abbrev pub same_numbers : NamedNumbers → NamedNumbers → Bool
same_numbers = named_impl.ghosts.eq

abbrev Entry : Type 0
Entry = Bor (List ℕ) × ℕ

abbrev same_entry : Entry → Entry → Bool
same_entry p q = bytes_eq p.0.now q.0.now && nat_eq p.1 q.1

abbrev at : NameText → Bor (List ℕ) → Bool
at name text = is_eq (slice_cmp nat_cmp name.text text.now)

-- a look-up reads texts and numbers
found_in_both : (name : NameText) (p q : Entry) (o r : Option ℕ) → IsTrue (same_entry p q) → o ≡ r →
    cond (at name p.0) (Some p.1) o ≡ cond (at name q.0) (Some q.1) r
found_in_both name p q o r h e =
    let parts = both (bytes_eq p.0.now q.0.now) (nat_eq p.1 q.1) h in
    let text : p.0.now ≡ q.0.now = (bytes_eq-Decides p.0.now q.0.now).0 parts.0 in
    let number : p.1 ≡ q.1 = eqb-true p.1 q.1 parts.1 in
    λ i. cond (is_eq (slice_cmp nat_cmp name.text (text i))) (Some (number i)) (e i)

same_lookups : (name : NameText) (ps qs : List Entry) → IsTrue (pointwise same_entry ps qs) → lookup (at name) ps ≡ lookup (at name) qs
same_lookups name [] [] h = refl
same_lookups name [] (q ∷ qs) h = absurd (let no : ⊥ = cc in no)
same_lookups name (p ∷ ps) [] h = absurd (let no : ⊥ = cc in no)
same_lookups name (p ∷ ps) (q ∷ qs) h =
    let parts = both (same_entry p q) (pointwise same_entry ps qs) h in
    found_in_both name p q (lookup (at name) ps) (lookup (at name) qs) parts.0 (same_lookups name ps qs parts.1)

-- equal ones have the same numbers under the same names
pub same_under : (a b : NamedNumbers) → IsTrue (same_numbers a b) → (name : NameText) → number_under a name ≡ number_under b name
same_under a b h name = same_lookups name a.numbers.entries b.numbers.entries h

pairs_equal : (ps qs : List Entry) → map_keys (λ (text : Bor (List ℕ)). text.now) ps ≡ map_keys (λ (text : Bor (List ℕ)). text.now) qs → IsTrue (pointwise same_entry ps qs)
pairs_equal [] [] e = refl
pairs_equal [] (q ∷ qs) e = absurd (let no : ⊥ = cc in no)
pairs_equal (p ∷ ps) [] e = absurd (let no : ⊥ = cc in no)
pairs_equal (p ∷ ps) (q ∷ qs) e =
    let pair : ◌≡◌ {A = List ℕ × ℕ} (p.0.now, p.1) (q.0.now, q.1) = cc in
    let text : p.0.now ≡ q.0.now = ap (λ u. u.0) pair in
    let number : p.1 ≡ q.1 = ap (λ u. u.1) pair in
    let rest : map_keys (λ (text : Bor (List ℕ)). text.now) ps ≡ map_keys (λ (text : Bor (List ℕ)). text.now) qs = cc in
    and _ _ (and _ _ ((bytes_eq-Decides p.0.now q.0.now).1 text) (eq-eqb p.1 q.1 number)) (pairs_equal ps qs rest)

texts_total : IsTotalOrder (λ (a b : Bor (List ℕ)). slice_cmp nat_cmp a.now b.now)
texts_total = on_total (λ (text : Bor (List ℕ)). text.now) nat_list_cmp_total

-- those with the same numbers under the same names are equal
pub equal_from_under : (a b : NamedNumbers) → AreOrdered a → AreOrdered b → ((name : NameText) → number_under a name ≡ number_under b name) → IsTrue (same_numbers a b)
equal_from_under a b of_a of_b same =
    pairs_equal a.numbers.entries b.numbers.entries
    (btree_map_read_from_get texts_total a.numbers b.numbers of_a of_b (λ q. same (record { text = q.now; location = None }))
    (λ (text : Bor (List ℕ)). text.now) (λ x y e. exact_bytes x.now y.now e))

-- after a number was put under a name
pub under_after : (old new : NamedNumbers) (text : Bor (List ℕ)) (name : NameText) (number : ℕ) → text.now ≡ name.text →
    Updates (λ (a b : Bor (List ℕ)). slice_cmp nat_cmp a.now b.now) old.numbers new.numbers text (Some number) →
    (other : NameText) → number_under new other ≡ cond (same_name name other) (Some number) (number_under old other)
under_after old new text name number is updates other =
    updates.0 (record { ref_ptr = text.ref_ptr; now = other.text }) ∙
    ap (λ b. cond b (Some number) (number_under old other)) (is_eq-slice_cmp text.now other.text ∙ ap (λ t. bytes_eq t other.text) is)

-- maps with the same entries have the same numbers
pub under_unchanged : (old new : NamedNumbers) → new.numbers.entries ≡ old.numbers.entries → (name : NameText) → number_under new name ≡ number_under old name
under_unchanged old new e name = ap (lookup (at name)) e
