-- Bytes that are made blank.
use Rattle.std.proofs.Common.{◌≡◌, ℕ, ◌+◌, ◌<◌, ◌≤◌, Bool, true, false, not, ◌&&◌, ◌||◌, ◌==◌, List, length, take, get_or, nat_le, nat_lt, ◌++◌, ◌-◌, drop, min, if◌then◌else◌, refl, sym, ◌∙◌, ap, arith, take_at}
use Rattle.std.specs.List.{list_any}
use Rattle.std.proofs.lemmas.List.Folds.{list_any_more}
use Rattle.std.proofs.lemmas.Bool.Decides.{nat_tests}
use Rattle.graphql_blanks.specs.Blanks.{blank_byte}
use Rattle.graphql_blanks.specs.declared.Part.{Part}
use Rattle.graphql_literals.specs.declared.literals.Literal.{Literal}
use Rattle.graphql_literals.specs.Literals.{blank_in, blank_in_any, is_own, is_within}

-- a blank stays a blank
ends_or_space : (ends : Bool) (b : ℕ) → ((b == 10) || (b == 13)) ≡ ends → blank_byte (if ends then b else 32) ≡ (if ends then b else 32)
ends_or_space true b e = ap (λ (it : Bool). if it then b else 32) e
ends_or_space false b e = refl

pub blank_twice : (b : ℕ) → blank_byte (blank_byte b) ≡ blank_byte b
blank_twice b = ends_or_space ((b == 10) || (b == 13)) b refl

-- a byte is blank if it was, or becomes so
either_blank : (was becomes : Bool) (b : ℕ) →
    (if becomes then blank_byte (if was then blank_byte b else b) else (if was then blank_byte b else b)) ≡ (if was || becomes then blank_byte b else b)
either_blank true true b = blank_twice b
either_blank true false b = refl
either_blank false true b = refl
either_blank false false b = refl

-- one more part of those that are blank
blank_in_more : (parts : List Part) (i : ℕ) (d : Part) (k b : ℕ) → i < length parts →
    blank_in (get_or parts i d) k (blank_in_any (take i parts) k b) ≡ blank_in_any (take (i + 1) parts) k b
blank_in_more parts i d k b h =
    either_blank (list_any (is_within k) (take i parts)) (is_within k (get_or parts i d)) b
    ∙ ap (λ (it : Bool). if it then blank_byte b else b) (sym (list_any_more (is_within k) parts i d h))

pub blank_step : (parts : List Part) (i : ℕ) (d : Part) (k b now new : ℕ) → i < length parts → now ≡ blank_in_any (take i parts) k b →
    new ≡ blank_in (get_or parts i d) k now → new ≡ blank_in_any (take (i + 1) parts) k b
blank_step parts i d k b now new h e f = f ∙ ap (λ it. blank_in (get_or parts i d) k it) e ∙ blank_in_more parts i d k b h

-- bytes of a text, up to where they are made blank
pub same_within : (start end k l m n : ℕ) → k < n → m ≡ min end n → m ≤ l → l - start ≤ m - start →
    (nat_le start k && nat_lt k l) ≡ (nat_le start k && nat_lt k end)
same_within start end k l m n inside e reached few = grind (arith, nat_tests)

before_start : (start k : ℕ) → (nat_le 0 k && nat_lt k start) ≡ not (nat_le start k)
before_start start k = grind (arith, nat_tests)

own_or_blank : (hidden from before : Bool) (b : ℕ) → before ≡ not from →
    (if hidden then blank_byte (if before then blank_byte b else b) else (if before then blank_byte b else b)) ≡ (if from && not hidden then b else blank_byte b)
own_or_blank true true true b e = blank_twice b
own_or_blank true true false b e = refl
own_or_blank true false true b e = blank_twice b
own_or_blank true false false b e = refl
own_or_blank false true true b e = absurd (let h : ⊥ = cc in h)
own_or_blank false true false b e = refl
own_or_blank false false true b e = refl
own_or_blank false false false b e = absurd (let h : ⊥ = cc in h)

-- a byte that is blank before a literal, or in a hole
pub own_byte : (literal : Literal) (k b : ℕ) →
    blank_in_any literal.holes.items k (blank_in (record { start = 0; end = literal.start }) k b) ≡ (if is_own literal k then b else blank_byte b)
own_byte literal k b = own_or_blank (list_any (is_within k) literal.holes.items) (nat_le literal.start k) _ b (before_start literal.start k)

-- what is written over all of a list is the list
pub whole : (n : ℕ) (new old : List ℕ) → length new ≡ length old → n ≡ length old → take n (new ++ drop (length new) old) ≡ new
whole n new old e f = take_at new (drop (length new) old) n (e ∙ sym f)
