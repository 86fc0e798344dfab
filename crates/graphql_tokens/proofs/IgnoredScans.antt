-- The scan of what is ignored answers by the grammar.
use Rattle.std.proofs.Common.{◌≡◌, ℕ, ◌<◌, true, false, cond, ◌||◌, ◌==◌, ◌⊎◌, inl, inr, List, [], ◌∷◌, length, Option, Some, None, option_and_then, refl, ap, arith}
use Rattle.std.proofs.lemmas.List.{length-append}
use Rattle.graphql_tokens.specs.Ignored.{IsLineTerminator, line_feed, carriage_return, carriage_return_line_feed, is_comment_byte, IsIgnored, byte_order_mark, tab, space, line_terminator, comment, comma}
use Rattle.graphql_tokens.specs.Scans.{strip, after_run, is_blank, after_return, ignored_at}
use Rattle.graphql_tokens.proofs.ScanLemmas.{one_passes, same_number, chosen, guards, and_then_is, strip_is, strip_none, strip_fails, run_only, run_of}

blank_is : (c : ℕ) (r : List ℕ) → is_blank c ≡ true → IsIgnored (c ∷ r) r
blank_is c r e = elim (one_passes (c == 9 || c == 10) (c == 32 || c == 44) e) [
  | inl h ↦ elim (one_passes (c == 9) (c == 10) h) [
    | inl k ↦ rw (same_number c 9 k) (tab r)
    | inr k ↦ rw (same_number c 10 k) (line_terminator (10 ∷ r) r (line_feed r))
  ]
  | inr h ↦ elim (one_passes (c == 32) (c == 44) h) [
    | inl k ↦ rw (same_number c 32 k) (space r)
    | inr k ↦ rw (same_number c 44 k) (comma r)
  ]
]

return_is : (cs : List ℕ) → IsIgnored (13 ∷ cs) (after_return cs)
return_is cs = by (strip 10 cs) refl where
  by : (o : Option (List ℕ)) → strip 10 cs ≡ o → IsIgnored (13 ∷ cs) (elim o [ None ↦ cs | Some behind ↦ behind ])
  by None s = line_terminator (13 ∷ cs) cs (carriage_return cs (strip_fails 10 cs s))
  by (Some r) s = rw (strip_is 10 cs r s) (line_terminator (13 ∷ 10 ∷ r) r (carriage_return_line_feed r))

pub ignored_is : (t r : List ℕ) → ignored_at t ≡ Some r → IsIgnored t r
unfolding ignored_at
ignored_is [] r e = absurd (let h : ⊥ = cc in h)
ignored_is (c ∷ cs) r e = blank (chosen (is_blank c) (Some cs) _ (Some r) e) where
  Mark : Option (List ℕ)
  Mark = option_and_then (λ x. strip 191 x) (strip 187 cs)

  Hash : Option (List ℕ)
  Hash = cond (c == 35) (Some (after_run is_comment_byte cs)) (cond (c == 239) Mark None)

  Return : Option (List ℕ)
  Return = cond (c == 13) (Some (after_return cs)) Hash

  mark : (c == 239) ≡ true → Mark ≡ Some r → IsIgnored (c ∷ cs) r
  mark q m =
      let (x, ex, e1) = and_then_is (λ (x : List ℕ). strip 191 x) (strip 187 cs) r m in
      rw (same_number c 239 q, strip_is 187 cs x ex, strip_is 191 x r e1) (byte_order_mark r)

  hash : ((c == 35) ≡ true) × (Some (after_run is_comment_byte cs) ≡ Some r) ⊎ ((c == 35) ≡ false) × (cond (c == 239) Mark None ≡ Some r) → IsIgnored (c ∷ cs) r
  hash (inl h) =
      let run = run_of is_comment_byte cs in
      let rest : after_run is_comment_byte cs ≡ r = cc in
      rw (same_number c 35 h.0, ← rest) (comment cs run.0 (after_run is_comment_byte cs) run.1)
  hash (inr h) = let k = guards (c == 239) Mark r h.1 in mark k.0 k.1

  carriage : ((c == 13) ≡ true) × (Some (after_return cs) ≡ Some r) ⊎ ((c == 13) ≡ false) × (Hash ≡ Some r) → IsIgnored (c ∷ cs) r
  carriage (inl h) =
      let rest : after_return cs ≡ r = cc in
      rw (same_number c 13 h.0, ← rest) (return_is cs)
  carriage (inr h) = hash (chosen (c == 35) (Some (after_run is_comment_byte cs)) (cond (c == 239) Mark None) (Some r) h.1)

  blank : ((is_blank c) ≡ true) × (Some cs ≡ Some r) ⊎ ((is_blank c) ≡ false) × (Return ≡ Some r) → IsIgnored (c ∷ cs) r
  blank (inl h) =
      let rest : cs ≡ r = cc in
      rw rest (blank_is c r h.0)
  blank (inr h) = carriage (chosen (c == 13) (Some (after_return cs)) Hash (Some r) h.1)

pub ignored_read : (t r : List ℕ) → IsIgnored t r → ignored_at t ≡ Some r
unfolding ignored_at strip
ignored_read _ _ (byte_order_mark rest) = refl
ignored_read _ _ (tab rest) = refl
ignored_read _ _ (space rest) = refl
ignored_read _ _ (comma rest) = refl
ignored_read _ _ (line_terminator t r is) = ended t r is where
  ended : (t r : List ℕ) → IsLineTerminator t r → ignored_at t ≡ Some r
  ended _ _ (line_feed rest) = refl
  ended _ _ (carriage_return rest n) = rw (strip_none 10 rest n, after_return) refl
  ended _ _ (carriage_return_line_feed rest) = refl
ignored_read _ _ (comment t run rest is) = rw is.written (ap Some (run_only is_comment_byte run rest is.each is.ends))

pub ignored_shorter : (t r : List ℕ) → IsIgnored t r → length r < length t
ignored_shorter _ _ (byte_order_mark rest) = omega arith
ignored_shorter _ _ (tab rest) = omega arith
ignored_shorter _ _ (space rest) = omega arith
ignored_shorter _ _ (comma rest) = omega arith
ignored_shorter _ _ (line_terminator t r is) = ended t r is where
  ended : (t r : List ℕ) → IsLineTerminator t r → length r < length t
  ended _ _ (line_feed rest) = omega arith
  ended _ _ (carriage_return rest n) = omega arith
  ended _ _ (carriage_return_line_feed rest) = omega arith
ignored_shorter _ _ (comment t run rest is) = omega (arith, ap length is.written, length-append run rest)

pub ignored_shrinks : (t r : List ℕ) → ignored_at t ≡ Some r → length r < length t
ignored_shrinks t r e = ignored_shorter t r (ignored_is t r e)

pub blank_ignored : (c : ℕ) (cs : List ℕ) → is_blank c ≡ true → ignored_at (c ∷ cs) ≡ Some cs
unfolding ignored_at
blank_ignored c cs e = rw e refl
