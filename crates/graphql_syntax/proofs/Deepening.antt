-- A reader that may go deeper answers the same, but where the other went too deep.
use Rattle.std.proofs.Common.{◌≡◌, ℕ, zero, suc, Bool, true, false, ◌⊎◌, inl, inr, List, [], ◌∷◌, ◌++◌, length, Result, Ok, Err, refl, sym, ◌∙◌}
use Rattle.graphql_tokens.specs.declared.token.TokenKind.{TokenKind}
use Rattle.graphql_syntax.specs.declared.refusals.Expected.TheVariants as expected
use Rattle.graphql_syntax.specs.declared.refusals.Refusal.{Refusal}
use Rattle.graphql_syntax.specs.declared.refusals.Refusal.TheVariants.{TooDeep}
use Rattle.graphql_syntax.specs.Inputs.{Input, TokenTest, is_kind, next_passes, start_of}
use Rattle.graphql_syntax.specs.Reading.{Reader, answer, refuse, too_deep, and_then, sequence, choose, starting, take_one, expect, many_from, many_behind, some_of}
use Rattle.graphql_syntax.specs.DefaultValueReaders.{default_value_at}
use Rattle.graphql_syntax.specs.DirectiveReaders.{argument_at, arguments_in, arguments_at, directive_at, directives_at}
use Rattle.graphql_syntax.specs.TypeReaders.{list_type_with, type_at}
use Rattle.graphql_syntax.specs.ValueReaders.{object_field_with, list_with, object_with, value_with, value_at}

pub record Grows {A : Type 0} (p q : Reader A) : Type 0 where
  pub same : (i : Input) → (p i ≡ q i) ⊎ ((left : ℕ) × (p i ≡ Err (TooDeep left)))

pub grows_itself : {A : Type 0} (p : Reader A) → Grows p p
grows_itself p = record { same = λ i. inl refl }

pub grows_further : {A : Type 0} (p q r : Reader A) → Grows p q → Grows q r → Grows p r
grows_further p q r f g = record { same = λ i. by i (f.same i) (g.same i) } where
  by : (i : Input) → (p i ≡ q i) ⊎ ((left : ℕ) × (p i ≡ Err (TooDeep left))) → (q i ≡ r i) ⊎ ((left : ℕ) × (q i ≡ Err (TooDeep left))) →
      (p i ≡ r i) ⊎ ((left : ℕ) × (p i ≡ Err (TooDeep left)))
  by i (inr h) k = inr h
  by i (inl e) (inl f) = inl (e ∙ f)
  by i (inl e) (inr h) = inr (h.0, e ∙ h.1)

-- where it goes too deep, any reader may be in its place
pub grows_too_deep : {A : Type 0} (q : Reader A) → Grows too_deep q
unfolding too_deep
grows_too_deep q = record { same = λ i. inr (length i.tokens, refl) }

pub grows_sequence : {A B : Type 0} (p p2 : Reader A) (q q2 : A → Reader B) → Grows p p2 → ((x : A) → Grows (q x) (q2 x)) → Grows (sequence p q) (sequence p2 q2)
unfolding sequence
grows_sequence {A} {B} p p2 q q2 f g = record { same = λ i. by i (p i) refl (f.same i) } where
  by : (i : Input) (o : Result (A × Input) Refusal) → p i ≡ o → (p i ≡ p2 i) ⊎ ((left : ℕ) × (p i ≡ Err (TooDeep left))) →
      (and_then (p i) (λ found. q found.0 found.1) ≡ and_then (p2 i) (λ found. q2 found.0 found.1)) ⊎
      ((left : ℕ) × (and_then (p i) (λ found. q found.0 found.1) ≡ Err (TooDeep left)))
  by i o s (inr h) = inr (h.0, rw h.1 refl)
  by i (Err e) s (inl same) = let other : p2 i ≡ Err e = sym same ∙ s in inl (rw (s, other) refl)
  by i (Ok x) s (inl same) =
      let other : p2 i ≡ Ok x = sym same ∙ s in
      behind ((g x.0).same x.1) other where
        behind : (q x.0 x.1 ≡ q2 x.0 x.1) ⊎ ((left : ℕ) × (q x.0 x.1 ≡ Err (TooDeep left))) → p2 i ≡ Ok x →
            (and_then (p i) (λ found. q found.0 found.1) ≡ and_then (p2 i) (λ found. q2 found.0 found.1)) ⊎
            ((left : ℕ) × (and_then (p i) (λ found. q found.0 found.1) ≡ Err (TooDeep left)))
        behind (inl e) other = inl (rw (s, other) e)
        behind (inr h) other = inr (h.0, rw s h.1)

pub grows_choose : {A : Type 0} (test : TokenTest) (p p2 q q2 : Reader A) → Grows p p2 → Grows q q2 → Grows (choose test p q) (choose test p2 q2)
unfolding choose
grows_choose {A} test p p2 q q2 f g = record { same = λ i. by i (next_passes test i) refl } where
  by : (i : Input) (b : Bool) → next_passes test i ≡ b → (choose test p q i ≡ choose test p2 q2 i) ⊎ ((left : ℕ) × (choose test p q i ≡ Err (TooDeep left)))
  by i true s = rw s (f.same i)
  by i false s = rw s (g.same i)

pub grows_starting : {A : Type 0} (f g : ℕ → Reader A) → ((start : ℕ) → Grows (f start) (g start)) → Grows (starting f) (starting g)
unfolding starting
grows_starting f g h = record { same = λ i. (h (start_of i)).same i }

grows_many_from : {A : Type 0} (test : TokenTest) (p q : Reader A) → Grows p q → (turns : ℕ) (found : List A) → Grows (many_from test p turns found) (many_from test q turns found)
unfolding many_from
grows_many_from test p q f zero found = grows_itself (answer found)
grows_many_from test p q f (suc turns) found =
    grows_choose test _ _ _ _ (grows_sequence p q _ _ f (λ x. grows_many_from test p q f turns (found ++ x ∷ []))) (grows_itself (answer found))

pub grows_many : {A : Type 0} (test : TokenTest) (p q : Reader A) (found : List A) → Grows p q → Grows (many_behind test p found) (many_behind test q found)
unfolding many_behind
grows_many test p q found f = record { same = λ i. (grows_many_from test p q f (length i.tokens) found).same i }

pub grows_some : {A : Type 0} (test : TokenTest) (p q : Reader A) → Grows p q → Grows (some_of test p) (some_of test q)
unfolding some_of
grows_some test p q f = grows_sequence p q _ _ f (λ first. grows_many test p q (first ∷ []) f)

-- types
pub type_grows : (depth : ℕ) → Grows (type_at depth) (type_at (suc depth))
unfolding type_at list_type_with
type_grows zero = grows_choose _ _ _ _ _ (grows_too_deep _) (grows_itself _)
type_grows (suc depth) =
    grows_choose _ _ _ _ _
    (grows_starting _ _ (λ start. grows_sequence _ _ _ _ (grows_itself _) (λ opening. grows_sequence _ _ _ _ (type_grows depth) (λ found. grows_itself _))))
    (grows_itself _)

-- values
field_grows : (constant : Bool) (depth : ℕ) → Grows (value_at constant depth) (value_at constant (suc depth)) →
    Grows (object_field_with (value_at constant depth)) (object_field_with (value_at constant (suc depth)))
unfolding object_field_with
field_grows constant depth f =
    grows_starting _ _ (λ start. grows_sequence _ _ _ _ (grows_itself _) (λ name. grows_sequence _ _ _ _ (grows_itself _) (λ colon.
    grows_sequence _ _ _ _ f (λ found. grows_itself _))))

list_grows : (constant : Bool) (depth : ℕ) → Grows (value_at constant depth) (value_at constant (suc depth)) →
    Grows (list_with (value_at constant depth)) (list_with (value_at constant (suc depth)))
unfolding list_with
list_grows constant depth f =
    grows_starting _ _ (λ start. grows_sequence _ _ _ _ (grows_itself _) (λ opening. grows_sequence _ _ _ _ (grows_many _ _ _ [] f) (λ items. grows_itself _)))

object_grows : (constant : Bool) (depth : ℕ) → Grows (value_at constant depth) (value_at constant (suc depth)) →
    Grows (object_with (value_at constant depth)) (object_with (value_at constant (suc depth)))
unfolding object_with
object_grows constant depth f =
    grows_starting _ _ (λ start. grows_sequence _ _ _ _ (grows_itself _) (λ opening. grows_sequence _ _ _ _ (grows_many _ _ _ [] (field_grows constant depth f)) (λ fields. grows_itself _)))

pub value_grows : (constant : Bool) (depth : ℕ) → Grows (value_at constant depth) (value_at constant (suc depth))
unfolding value_at value_with
value_grows constant zero = grows_choose _ _ _ _ _ (grows_too_deep _) (grows_choose _ _ _ _ _ (grows_too_deep _) (grows_itself _))
value_grows constant (suc depth) =
    grows_choose _ _ _ _ _ (list_grows constant depth (value_grows constant depth))
    (grows_choose _ _ _ _ _ (object_grows constant depth (value_grows constant depth)) (grows_itself _))

-- arguments and directives
argument_grows : (constant : Bool) (depth : ℕ) → Grows (argument_at constant depth) (argument_at constant (suc depth))
unfolding argument_at
argument_grows constant depth =
    grows_starting _ _ (λ start. grows_sequence _ _ _ _ (grows_itself _) (λ name. grows_sequence _ _ _ _ (grows_itself _) (λ colon.
    grows_sequence _ _ _ _ (value_grows constant depth) (λ value. grows_itself _))))

pub arguments_grow : (constant : Bool) (depth : ℕ) → Grows (arguments_at constant depth) (arguments_at constant (suc depth))
unfolding arguments_at arguments_in
arguments_grow constant depth =
    grows_choose _ _ _ _ _
    (grows_sequence _ _ _ _ (grows_itself _) (λ opening. grows_sequence _ _ _ _ (grows_some _ _ _ (argument_grows constant depth)) (λ found. grows_itself _)))
    (grows_itself _)

directive_grows : (constant : Bool) (depth : ℕ) → Grows (directive_at constant depth) (directive_at constant (suc depth))
unfolding directive_at
directive_grows constant depth =
    grows_starting _ _ (λ start. grows_sequence _ _ _ _ (grows_itself _) (λ at. grows_sequence _ _ _ _ (grows_itself _) (λ name.
    grows_sequence _ _ _ _ (arguments_grow constant depth) (λ arguments. grows_itself _))))

pub directives_grow : (constant : Bool) (depth : ℕ) → Grows (directives_at constant depth) (directives_at constant (suc depth))
unfolding directives_at
directives_grow constant depth = grows_many _ _ _ [] (directive_grows constant depth)

pub default_value_grows : (depth : ℕ) → Grows (default_value_at depth) (default_value_at (suc depth))
unfolding default_value_at
default_value_grows depth =
    grows_choose _ _ _ _ _
    (grows_sequence _ _ _ _ (grows_itself _) (λ equals. grows_sequence _ _ _ _ (value_grows true depth) (λ value. grows_itself _)))
    (grows_itself _)

-- at no level an opening bracket is too deep, and else is refused as where it is expected
pub grows_from_nothing : {B : Type 0} (kind : TokenKind) (q : Unit {0} → Reader B) →
    Grows (choose (is_kind kind) too_deep (refuse (expected.Token kind))) (sequence (expect kind) q)
unfolding choose too_deep refuse sequence take_one
grows_from_nothing {B} kind q = record { same = λ i. by i (next_passes (is_kind kind) i) refl } where
  by : (i : Input) (b : Bool) → next_passes (is_kind kind) i ≡ b →
      (choose (is_kind kind) too_deep (refuse (expected.Token kind)) i ≡ sequence (expect kind) q i) ⊎
      ((left : ℕ) × (choose {A = B} (is_kind kind) too_deep (refuse (expected.Token kind)) i ≡ Err (TooDeep left)))
  by i true s = inr (length i.tokens, rw s refl)
  by i false s = inl (rw s refl)

-- and so where one knows where it began
pub grows_from_nothing_starting : {B : Type 0} (kind : TokenKind) (q : ℕ → Unit {0} → Reader B) →
    Grows (choose (is_kind kind) too_deep (refuse (expected.Token kind))) (starting (λ start. sequence (expect kind) (q start)))
unfolding starting
grows_from_nothing_starting kind q = record { same = λ i. (grows_from_nothing kind (q (start_of i))).same i }
