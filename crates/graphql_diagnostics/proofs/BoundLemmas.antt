-- What a writer that counts bytes down has left.
use Rattle.std.proofs.Common.{◌≡◌, ◌+◌, ℕ, List, [], ◌∷◌, length, sym, ap, arith}
use Rattle.std.specs.Fmt.{WritesInCalls}
use Rattle.std.specs.List.{FoldsTo, concat}
use Rattle.std.proofs.lemmas.List.{length-append}

module _ {W : Type 0} (left : W → ℕ) where
  -- a call that writes a text takes its bytes
  abbrev Takes : W → List ℕ → W → Type 0
  Takes old text new = left new + length text ≡ left old

  left_after_calls : (w : W) (xs : List (List ℕ)) (v : W) → FoldsTo Takes w xs v → left v + length (concat xs) ≡ left w
  left_after_calls w [] v h = let e : left v ≡ left w = ap left (sym h) in omega (arith, e)
  left_after_calls w (x ∷ xs) v h =
      let more : left v + length (concat xs) ≡ left h.0 = left_after_calls h.0 xs v h.2 in
      let first : left h.0 + length x ≡ left w = h.1 in
      let both : length (concat (x ∷ xs)) ≡ length x + length (concat xs) = length-append x (concat xs) in
      omega (arith, more, first, both)

  -- all calls take the bytes of the whole text
  pub left_after_writes : (w : W) (text : List ℕ) (v : W) → WritesInCalls Takes w text v → left v + length text ≡ left w
  left_after_writes w text v h =
      let e : length (concat h.parts) ≡ length text = ap length h.whole in
      omega (arith, left_after_calls w h.parts v h.calls, e)
