-- A text has one list of tokens.
use Rattle.std.proofs.Common.{◌≡◌, ℕ, ◌-◌, ◌<◌, ◌≤◌, List, [], ◌∷◌, ◌++◌, length, Option, Some, None, refl, sym, subst, ◌∙◌, ap, arith}
use Rattle.std.proofs.lemmas.List.{append-nil, length-append}
use Rattle.std.proofs.lemmas.Option.{some_pair_parts}
use Rattle.graphql_tokens.specs.Ignored.{IsIgnored}
use Rattle.graphql_tokens.specs.Lexical.{IsToken, token_between, Lexes, nothing, ignored, token, AreTokens, IsStuck, BreaksOff, Scans}
use Rattle.graphql_tokens.specs.Scans.{ignored_at, token_at}
use Rattle.graphql_tokens.specs.declared.lexer.Stop.{Stop}
use Rattle.graphql_tokens.specs.declared.lexer.Stop.TheVariants.{End, NoToken, TooMany}
use Rattle.graphql_tokens.specs.declared.token.Token.{Token}
use Rattle.graphql_tokens.specs.declared.token.TokenKind.{TokenKind}
use Rattle.graphql_tokens.proofs.IgnoredScans.{ignored_is, ignored_read}
use Rattle.graphql_tokens.proofs.TokenScans.{token_is, token_read, ignored_no_token}

-- one more at the end
pub then_ignored : (total : ℕ) (t : List ℕ) (ts : List Token) (middle r : List ℕ) → Lexes total t ts middle → IsIgnored middle r → Lexes total t ts r
then_ignored total _ _ _ r (nothing middle) i = ignored middle r r [] i (nothing r)
then_ignored total _ _ _ r (ignored t m middle ts j l) i = ignored t m r ts j (then_ignored total m ts middle r l i)
then_ignored total _ _ _ r (token kind t m middle ts j l) i = token kind t m r ts j (then_ignored total m ts middle r l i)

pub then_token : (total : ℕ) (t : List ℕ) (ts : List Token) (middle r : List ℕ) (kind : TokenKind) → Lexes total t ts middle → IsToken kind middle r →
    Lexes total t (ts ++ token_between total kind middle r ∷ []) r
then_token total _ _ _ r kind (nothing middle) i = token kind middle r r [] i (nothing r)
then_token total _ _ _ r kind (ignored t m middle ts j l) i = ignored t m r _ j (then_token total m ts middle r kind l i)
then_token total _ _ _ r kind (token k t m middle ts j l) i = token k t m r _ j (then_token total m ts middle r kind l i)

-- neither a token nor anything ignored begins here
pub record Settled (r : List ℕ) : Type 0 where
  pub no_ignored : ignored_at r ≡ None
  pub no_token : token_at r ≡ None

pub end_settled : Settled []
unfolding ignored_at token_at
end_settled = record { no_ignored = refl; no_token = refl }

pub stuck_settled : (r : List ℕ) → IsStuck r → Settled r
stuck_settled r stuck = record { no_ignored = free (ignored_at r) refl; no_token = none (token_at r) refl } where
  free : (o : Option (List ℕ)) → ignored_at r ≡ o → ignored_at r ≡ None
  free None e = e
  free (Some b) e = absurd (stuck.nothing_ignored b (ignored_is r b e))

  none : (o : Option (TokenKind × List ℕ)) → token_at r ≡ o → token_at r ≡ None
  none None e = e
  none (Some p) e = absurd (stuck.no_token p.0 p.1 (token_is r p e))

pub stuck_at : (r : List ℕ) → 0 < length r → ignored_at r ≡ None → token_at r ≡ None → IsStuck r
stuck_at r more i t = record {
  more = more;
  nothing_ignored = λ b h. let e = ignored_read r b h in let k : ⊥ = cc in k;
  no_token = λ kind b h. let e = token_read kind r b h in let k : ⊥ = cc in k;
}

-- what is read behind something ignored, and behind a token
by_ignored : (total : ℕ) (t m : List ℕ) (ts : List Token) (r : List ℕ) → Settled r → IsIgnored t m → Lexes total t ts r → Lexes total m ts r
by_ignored total _ m _ _ e i (nothing rest) = absurd (let h = ignored_read rest m i in let k = e.no_ignored in let b : ⊥ = cc in b)
by_ignored total _ m _ _ e i (ignored t m' r ts j l) =
    let h = ignored_read t m i in
    let k = ignored_read t m' j in
    let same : m' ≡ m = cc in
    rw same at l
by_ignored total _ m _ _ e i (token kind t m' r ts j l) =
    let h = ignored_no_token t m i in
    let k = token_read kind t m' j in
    absurd (let b : ⊥ = cc in b)

by_token : (total : ℕ) (kind : TokenKind) (t m : List ℕ) (ts : List Token) (r : List ℕ) → Settled r → IsToken kind t m → Lexes total t ts r →
    (us : List Token) × (ts ≡ token_between total kind t m ∷ us) × Lexes total m us r
by_token total kind _ m _ _ e i (nothing rest) = absurd (let h = token_read kind rest m i in let k = e.no_token in let b : ⊥ = cc in b)
by_token total kind _ m _ _ e i (ignored t m' r ts j l) =
    let h = ignored_no_token t m' j in
    let k = token_read kind t m i in
    absurd (let b : ⊥ = cc in b)
by_token total kind _ m _ _ e i (token kind' t m' r ts j l) =
    let h = token_read kind t m i in
    let k = token_read kind' t m' j in
    let (same_kind, same) = some_pair_parts kind' kind m' m (sym k ∙ h) in
    (ts, ap (λ x. token_between total x t m' ∷ ts) same_kind ∙ ap (λ x. token_between total kind t x ∷ ts) same, subst (λ x. Lexes total x ts r) same l)

-- the tokens of the whole are those of the front, and those of the rest
pub rest_of : (total : ℕ) (t : List ℕ) (ts : List Token) (r : List ℕ) (all : List Token) (q : List ℕ) → Settled q → Lexes total t ts r → Lexes total t all q →
    (us : List Token) × (all ≡ ts ++ us) × Lexes total r us q
rest_of total _ _ _ all q s (nothing r) w = (all, refl, w)
rest_of total _ _ _ all q s (ignored t m r ts i l) w = rest_of total m ts r all q s l (by_ignored total t m all q s i w)
rest_of total _ _ _ all q s (token kind t m r ts i l) w =
    let (us, e, v) = by_token total kind t m all q s i w in
    let (vs, f, u) = rest_of total m ts r us q s l v in
    (vs, e ∙ ap (λ l. token_between total kind t m ∷ l) f, u)

-- behind a settled place nothing is read
settled_end : (total : ℕ) (t : List ℕ) (ts : List Token) (r : List ℕ) → Settled t → Lexes total t ts r → (ts ≡ []) × (t ≡ r)
settled_end total _ _ _ s (nothing r) = (refl, refl)
settled_end total _ _ _ s (ignored t m r ts i l) = absurd (let h = ignored_read t m i in let k = s.no_ignored in let b : ⊥ = cc in b)
settled_end total _ _ _ s (token kind t m r ts i l) = absurd (let h = token_read kind t m i in let k = s.no_token in let b : ⊥ = cc in b)

-- one reading up to a settled place
pub one_reading : (total : ℕ) (t : List ℕ) (ts us : List Token) (r q : List ℕ) → Settled r → Settled q → Lexes total t ts r → Lexes total t us q →
    (ts ≡ us) × (r ≡ q)
one_reading total t ts us r q sr sq a b =
    let (vs, e, l) = rest_of total t ts r us q sq a b in
    let (none, same) = settled_end total r vs q sr l in
    (sym (e ∙ ap (λ l. ts ++ l) none ∙ append-nil ts), same)

pub one_list : (text : List ℕ) (ts us : List Token) → AreTokens text ts → AreTokens text us → ts ≡ us
one_list text ts us a b = (one_reading (length text) text ts us [] [] end_settled end_settled a b).0

pub one_break : (text : List ℕ) (ts us : List Token) (i j : ℕ) → BreaksOff text ts i → BreaksOff text us j → (ts ≡ us) × (i ≡ j)
one_break text ts us i j a b =
    let (same, rest) = one_reading (length text) text ts us a.rest b.rest (stuck_settled a.rest a.stuck) (stuck_settled b.rest b.stuck) a.lexes b.lexes in
    (same, a.place ∙ ap (λ l. length text - length l) rest ∙ sym b.place)

pub no_list_and_break : (text : List ℕ) (ts us : List Token) (i : ℕ) → AreTokens text ts → BreaksOff text us i → ⊥
no_list_and_break text ts us i a b =
    let (same, rest) = one_reading (length text) text ts us [] b.rest end_settled (stuck_settled b.rest b.stuck) a b.lexes in
    omega (arith, b.stuck.more, ap length rest)

-- where one more token begins, there are more
more_tokens : (text : List ℕ) (ts us : List Token) (r m : List ℕ) (kind : TokenKind) → Lexes (length text) text ts r → IsToken kind r m → AreTokens text us →
    length ts < length us
more_tokens text ts us r m kind l i w =
    let (vs, e, v) = rest_of (length text) text ts r us [] end_settled l w in
    let (xs, f, x) = by_token (length text) kind r m vs [] end_settled i v in
    omega (arith, ap length e, length-append ts vs, ap length f)

-- a scan that stops elsewhere than at the end finds no list of tokens within the bound
pub scan_only : (bound : ℕ) (text : List ℕ) (ts us : List Token) (stop : Stop) → Scans bound text ts stop → AreTokens text us → length us ≤ bound →
    (stop ≡ End) × (ts ≡ us)
scan_only bound text ts us End s w b = (refl, one_list text ts us s.0 w)
scan_only bound text ts us (NoToken at) s w b = absurd (no_list_and_break text us ts at w s.0)
scan_only bound text ts us (TooMany at) s w b =
    absurd (omega (arith, more_tokens text ts us s.0.rest s.0.behind s.0.kind s.0.lexes s.0.one_more w, s.1))
