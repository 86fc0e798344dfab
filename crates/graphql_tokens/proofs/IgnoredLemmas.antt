-- Behind all that is ignored at the start of a text.
use Rattle.std.proofs.Common.{◌≡◌, ℕ, zero, suc, ◌≤◌, List, [], ◌∷◌, length, Option, Some, None, refl, ◌∙◌, arith}
use Rattle.graphql_tokens.specs.Lexical.{Lexes, nothing, ignored, token}
use Rattle.graphql_tokens.specs.Scans.{after_all, ignored_at}
use Rattle.graphql_tokens.specs.declared.token.Token.{Token}
use Rattle.graphql_tokens.proofs.ScanLemmas.{after_more, after_none}
use Rattle.graphql_tokens.proofs.IgnoredScans.{ignored_is, ignored_read, ignored_shrinks}
use Rattle.graphql_tokens.proofs.LexingLemmas.{then_ignored}

-- behind all that is ignored
record IsBehindIgnored (total : ℕ) (t : List ℕ) (ts : List Token) (r end : List ℕ) : Type 0 where
  lexes : Lexes total t ts end
  no_more : ignored_at end ≡ None
  within : length end ≤ length r

behind_ignored : (n total : ℕ) (t : List ℕ) (ts : List Token) (r : List ℕ) → length r ≤ n → Lexes total t ts r →
    IsBehindIgnored total t ts r (after_all ignored_at r)
behind_ignored zero total t ts r h l = by (ignored_at r) refl where
  by : (o : Option (List ℕ)) → ignored_at r ≡ o → IsBehindIgnored total t ts r (after_all ignored_at r)
  by None e = rw (after_none ignored_at ignored_shrinks r e) (record { lexes = l; no_more = e; within = omega arith })
  by (Some m) e = absurd (omega (arith, ignored_shrinks r m e))
behind_ignored (suc n) total t ts r h l = by (ignored_at r) refl (λ m k w. behind_ignored n total t ts m k w) where
  by : (o : Option (List ℕ)) → ignored_at r ≡ o →
      ((m : List ℕ) → length m ≤ n → Lexes total t ts m → IsBehindIgnored total t ts m (after_all ignored_at m)) →
      IsBehindIgnored total t ts r (after_all ignored_at r)
  by None e next = rw (after_none ignored_at ignored_shrinks r e) (record { lexes = l; no_more = e; within = omega arith })
  by (Some m) e next =
      let is = next m (omega (arith, ignored_shrinks r m e)) (then_ignored total t ts r m l (ignored_is r m e)) in
      rw (after_more ignored_at ignored_shrinks r m e)
      (record {
        lexes = is.lexes;
        no_more = is.no_more;
        within = omega (arith, is.within, ignored_shrinks r m e);
      })

pub lexes_behind_ignored : (total : ℕ) (t : List ℕ) (ts : List Token) (r : List ℕ) → Lexes total t ts r → Lexes total t ts (after_all ignored_at r)
lexes_behind_ignored total t ts r l = (behind_ignored (length r) total t ts r (omega arith) l).lexes

pub none_ignored : (r : List ℕ) → ignored_at (after_all ignored_at r) ≡ None
none_ignored r = (behind_ignored (length r) 0 r [] r (omega arith) (nothing r)).no_more

pub ignored_within : (r : List ℕ) → length (after_all ignored_at r) ≤ length r
ignored_within r = (behind_ignored (length r) 0 r [] r (omega arith) (nothing r)).within

-- a text without tokens is ignored
same_behind : (total : ℕ) (t : List ℕ) (ts : List Token) (r : List ℕ) → Lexes total t ts r → ts ≡ [] → after_all ignored_at t ≡ after_all ignored_at r
same_behind total _ _ _ (nothing r) e = refl
same_behind total _ _ _ (ignored t m r ts i l) e = after_more ignored_at ignored_shrinks t m (ignored_read t m i) ∙ same_behind total m ts r l e
same_behind total _ _ _ (token kind t m r ts i l) e = absurd (let b : ⊥ = cc in b)

pub none_left : (l : List ℕ) → length l ≤ 0 → l ≡ []
none_left [] h = refl
none_left (x ∷ xs) h = absurd (omega (arith, h))

pub all_ignored : (t : List ℕ) → Lexes (length t) t [] [] → length (after_all ignored_at t) ≤ 0
all_ignored t l = rw (same_behind (length t) t [] [] l refl) (ignored_within [])

pub no_token : (t : List ℕ) → length (after_all ignored_at t) ≤ 0 → Lexes (length t) t [] []
no_token t h = rw (← none_left (after_all ignored_at t) h) (lexes_behind_ignored (length t) t [] t (nothing t))
