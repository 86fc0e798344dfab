-- A line ends with a byte where a line terminator does.
use Rattle.std.proofs.Common.{◌≡◌, ℕ, zero, suc, ◌+◌, ◌<◌, ◌≤◌, true, false, not, ◌&&◌, ◌==◌, inl, inr, List, [], ◌∷◌, length, drop, get_or, refl, sym, ◌∙◌, ap, arith}
use Rattle.std.proofs.lemmas.List.{length-drop}
use Rattle.graphql_tokens.specs.Characters.{begins_with_byte}
use Rattle.graphql_tokens.specs.Ignored.{IsLineTerminator, line_feed, carriage_return, carriage_return_line_feed}
use Rattle.graphql_tokens.proofs.ScanLemmas.{both_pass, one_passes, same_number, not_true}
use Rattle.graphql_places.specs.Places.{ends_line, TerminatorEnds}

-- a byte that is there
there : (t : List ℕ) (k c : ℕ) → get_or t k 0 ≡ c → 0 < c → (drop k t ≡ c ∷ drop (suc k) t) × (k + 1 ≤ length t)
there [] zero c e h = absurd (omega arith)
there [] (suc k) c e h = absurd (omega arith)
there (x ∷ xs) zero c e h = (ap (λ y. y ∷ xs) e, omega arith)
there (x ∷ xs) (suc k) c e h = let (same, within) = there xs k c e h in (same, omega arith)

-- the byte where a part begins, and the part behind it
front : (t : List ℕ) (k c : ℕ) (r : List ℕ) → drop k t ≡ c ∷ r → (get_or t k 0 ≡ c) × (drop (suc k) t ≡ r)
front [] zero c r e = absurd (let h : ⊥ = cc in h)
front [] (suc k) c r e = absurd (let h : ⊥ = cc in h)
front (x ∷ xs) zero c r e = (cc, cc)
front (x ∷ xs) (suc k) c r e = front xs k c r e

begins : (t : List ℕ) (k : ℕ) → begins_with_byte 10 (drop k t) ≡ (get_or t k 0 == 10)
begins [] zero = refl
begins [] (suc k) = refl
begins (x ∷ xs) zero = refl
begins (x ∷ xs) (suc k) = begins xs k

pub ends_is : (text : List ℕ) (k : ℕ) → ends_line text k ≡ true → TerminatorEnds text k
ends_is text k e = elim (one_passes (get_or text k 0 == 10) (get_or text k 0 == 13 && not (get_or text (suc k) 0 == 10)) e) [
  | inl h ↦
      let (same, within) = there text k 10 (same_number (get_or text k 0) 10 h) (omega arith) in
      (k, rw same (line_feed (drop (suc k) text)), within)
  | inr h ↦
      let (first, second) = both_pass (get_or text k 0 == 13) (not (get_or text (suc k) 0 == 10)) h in
      let (same, within) = there text k 13 (same_number (get_or text k 0) 13 first) (omega arith) in
      (k, rw same (carriage_return (drop (suc k) text) (begins text (suc k) ∙ not_true (get_or text (suc k) 0 == 10) second)), within)
]

-- where a part of a text begins, by what is left behind
place_of : (text : List ℕ) (start k n : ℕ) → length (drop start text) ≡ n + length (drop (suc k) text) → k + 1 ≤ length text → 0 < n → start + n ≡ suc k
place_of text start k n e within h = omega (arith, length-drop start text, length-drop (suc k) text)

by_terminator : (text t r : List ℕ) (start k : ℕ) → drop start text ≡ t → drop (suc k) text ≡ r → k + 1 ≤ length text → IsLineTerminator t r → ends_line text k ≡ true
by_terminator text _ _ start k at behind within (line_feed r) =
    let same : start + 1 ≡ suc k = place_of text start k 1 (ap length at ∙ ap (λ l. suc (length l)) (sym behind) ∙ omega arith) within (omega arith) in
    let here : start ≡ k = omega arith in
    let byte = (front text start 10 r at).0 in
    rw (rw here at byte) refl
by_terminator text _ _ start k at behind within (carriage_return r n) =
    let same : start + 1 ≡ suc k = place_of text start k 1 (ap length at ∙ ap (λ l. suc (length l)) (sym behind) ∙ omega arith) within (omega arith) in
    let here : start ≡ k = omega arith in
    let byte = (front text start 13 r at).0 in
    let alone : (get_or text (suc k) 0 == 10) ≡ false = sym (begins text (suc k)) ∙ ap (λ l. begins_with_byte 10 l) behind ∙ n in
    rw (rw here at byte, alone) refl
by_terminator text _ _ start k at behind within (carriage_return_line_feed r) =
    let same : start + 2 ≡ suc k = place_of text start k 2 (ap length at ∙ ap (λ l. suc (suc (length l))) (sym behind) ∙ omega arith) within (omega arith) in
    let here : suc start ≡ k = omega arith in
    let byte = (front text (suc start) 10 r (front text start 13 (10 ∷ r) at).1).0 in
    rw (rw here at byte) refl

pub ends_read : (text : List ℕ) (k : ℕ) → TerminatorEnds text k → ends_line text k ≡ true
ends_read text k (start, is, within) = by_terminator text (drop start text) (drop (suc k) text) start k refl refl within is
