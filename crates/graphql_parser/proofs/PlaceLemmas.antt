-- Where a token is among those of a text, and which of two lists of its first tokens is the longer one.
use Rattle.std.proofs.Common.{◌≡◌, ℕ, ◌-◌, ◌≤◌, ◌⊎◌, inl, inr, List, [], ◌∷◌, ◌++◌, length, take, drop, refl, sym, subst, ◌∙◌, ap, arith}
use Rattle.std.proofs.lemmas.List.{append-nil, length-append, length-take-le, take-append-drop}
use Rattle.std.proofs.lemmas.Option.{some_pair_parts}
use Rattle.graphql_tokens.specs.Ignored.{IsIgnored}
use Rattle.graphql_tokens.specs.Lexical.{IsToken, Lexes, nothing, ignored, token, token_between}
use Rattle.graphql_tokens.specs.declared.token.Token.{Token}
use Rattle.graphql_tokens.specs.declared.token.TokenKind.{TokenKind}
use Rattle.graphql_tokens.proofs.IgnoredScans.{ignored_read}
use Rattle.graphql_tokens.proofs.LexingLemmas.{Settled}
use Rattle.graphql_tokens.proofs.SuffixLemmas.{token_behind, behind_within}
use Rattle.graphql_tokens.proofs.TokenScans.{token_read, ignored_no_token}
use Rattle.graphql_completions.proofs.WrittenTexts.{EndBy, lexes_end_by, end_later, last_token, part_kept}
use Rattle.graphql_parser.proofs.WholeLemmas.{same_split}

pub record Placed (text : List ℕ) (before : List Token) (t : Token) : Type 0 where
  pub begins : List ℕ
  pub lexes : Lexes (length text) text before begins
  pub start : t.start ≡ length text - length begins
  pub ends : EndBy t.end (before ++ t ∷ [])
  pub within : t.end ≤ length text

end_by_last : (n : ℕ) (before : List Token) (t : Token) → EndBy n before → t.end ≤ n → EndBy n (before ++ t ∷ [])
end_by_last n [] t e less = (less, tt)
end_by_last n (x ∷ before) t e less = (e.0, end_by_last n before t e.1 less)

pub placed : (text : List ℕ) (before : List Token) (t : Token) (rest : List ℕ) → Lexes (length text) text (before ++ t ∷ []) rest → Placed text before t
placed text before t rest lexes =
    let last = last_token (length text) text (before ++ t ∷ []) rest lexes before t refl in
    let start : t.start ≡ length text - length last.begins = ap (λ (x : Token). x.start) (sym last.same) in
    let end : t.end ≡ length text - length last.ends = ap (λ (x : Token). x.end) (sym last.same) in
    let shorter = behind_within last.begins last.ends (token_behind t.kind last.begins last.ends last.is) in
    record {
      begins = last.begins;
      lexes = last.lexes;
      start = start;
      ends =
          end_by_last t.end before t
          (end_later (length text - length last.begins) t.end before (omega (arith, end, shorter)) (lexes_end_by (length text) text before last.begins last.lexes)) (omega arith);
      within = omega (arith, end);
    }

-- a text that begins with the same bytes
pub same_beginning : (text more : List ℕ) (n k : ℕ) → k ≤ n → n ≤ length text → take k (take n text ++ more) ≡ take k text
same_beginning text more n k less within =
    let all : k - 0 ≡ k = omega arith in
    let size = length-take-le n text within in
    let first : take k (take n text ++ more) ≡ take k (take n text) = rw all at (part_kept (take n text) more k 0 (omega (arith, size))) in
    let second : take k (take n text ++ drop n text) ≡ take k (take n text) = rw all at (part_kept (take n text) (drop n text) k 0 (omega (arith, size))) in
    first ∙ sym second ∙ ap (take k) (take-append-drop n text)

-- what is read behind something ignored, and behind a token
behind_ignored : (total : ℕ) (text m : List ℕ) (ys : List Token) (q : List ℕ) → IsIgnored text m → Lexes total text ys q → ((q ≡ text) × (ys ≡ [])) ⊎ Lexes total m ys q
behind_ignored total _ m _ _ i (nothing r) = inl (refl, refl)
behind_ignored total _ m _ _ i (ignored text n q ys j k) =
    let a = ignored_read text m i in
    let b = ignored_read text n j in
    let same : n ≡ m = cc in
    inr (subst (λ x. Lexes total x ys q) same k)
behind_ignored total _ m _ _ i (token kind text n q ys j k) =
    let a = ignored_no_token text m i in
    let b = token_read kind text n j in
    absurd (let h : ⊥ = cc in h)

behind_token : (total : ℕ) (kind : TokenKind) (text m : List ℕ) (ys : List Token) (q : List ℕ) → IsToken kind text m → Lexes total text ys q →
    ((q ≡ text) × (ys ≡ [])) ⊎ ((us : List Token) × (ys ≡ token_between total kind text m ∷ us) × Lexes total m us q)
behind_token total kind _ m _ _ i (nothing r) = inl (refl, refl)
behind_token total kind _ m _ _ i (ignored text n q ys j k) =
    let a = ignored_no_token text n j in
    let b = token_read kind text m i in
    absurd (let h : ⊥ = cc in h)
behind_token total kind _ m _ _ i (token other text n q ys j k) =
    let a = token_read kind text m i in
    let b = token_read other text n j in
    let (same_kind, same) = some_pair_parts other kind n m (sym b ∙ a) in
    inr (
      ys,
      ap (λ x. token_between total x text n ∷ ys) same_kind ∙ ap (λ x. token_between total kind text x ∷ ys) same,
      subst (λ x. Lexes total x ys q) same k,
    )

-- of two lists of first tokens one begins with the other, and goes on from where that ends
pub lexes_compare : (total : ℕ) (text : List ℕ) (xs ys : List Token) (r q : List ℕ) → Lexes total text xs r → Lexes total text ys q →
    ((zs : List Token) × (ys ≡ xs ++ zs)) ⊎ ((zs : List Token) × (xs ≡ ys ++ zs) × Lexes total q zs r)
lexes_compare total _ _ ys _ q (nothing r) b = inl (ys, refl)
lexes_compare total _ _ ys _ q (ignored text m r xs i l) b = elim (behind_ignored total text m ys q i b) [
  | inl h ↦ inr (xs, sym (ap (λ l. l ++ xs) h.1), subst (λ x. Lexes total x xs r) (sym h.0) (ignored text m r xs i l))
  | inr h ↦ lexes_compare total m xs ys r q l h
]
lexes_compare total _ _ ys _ q (token kind text m r xs i l) b = elim (behind_token total kind text m ys q i b) [
  | inl h ↦ inr (token_between total kind text m ∷ xs, sym (ap (λ l. l ++ token_between total kind text m ∷ xs) h.1), subst (λ x. Lexes total x (token_between total kind text m ∷ xs) r) (sym h.0) (token kind text m r xs i l))
  | inr h ↦ elim (lexes_compare total m xs h.0 r q l h.2) [
    | inl k ↦ inl (k.0, h.1 ∙ ap (λ l. token_between total kind text m ∷ l) k.1)
    | inr k ↦ inr (k.0, ap (λ l. token_between total kind text m ∷ l) k.1 ∙ ap (λ l. l ++ k.0) (sym h.1), k.2)
  ]
]

-- behind a settled place there is no token
pub settled_none : (total : ℕ) (text : List ℕ) (tokens : List Token) (rest : List ℕ) → Settled text → Lexes total text tokens rest → tokens ≡ []
settled_none total _ _ _ s (nothing r) = refl
settled_none total _ _ _ s (ignored t m r ts i l) = absurd (let h = ignored_read t m i in let k = s.no_ignored in let b : ⊥ = cc in b)
settled_none total _ _ _ s (token kind t m r ts i l) = absurd (let h = token_read kind t m i in let k = s.no_token in let b : ⊥ = cc in b)

-- tokens up to a settled place begin with all first tokens
pub settled_last : (total : ℕ) (text : List ℕ) (xs ys : List Token) (r q : List ℕ) → Lexes total text xs r → Lexes total text ys q → Settled q → (zs : List Token) × (ys ≡ xs ++ zs)
settled_last total text xs ys r q a b s = elim (lexes_compare total text xs ys r q a b) [
  | inl h ↦ h
  | inr h ↦ ([], sym (h.1 ∙ ap (λ l. ys ++ l) (settled_none total q h.0 r s h.2) ∙ append-nil ys) ∙ sym (append-nil xs))
]

-- without the last token
without_last : (a b : List Token) (u z : Token) (zs : List Token) → a ++ u ∷ [] ≡ b ++ z ∷ zs → (front : List Token) × (a ≡ b ++ front)
without_last a [] u z zs e = (a, refl)
without_last [] (x ∷ b) u z zs e = absurd (omega (arith, ap length e, length-append b (z ∷ zs)))
without_last (y ∷ a) (x ∷ b) u z zs e =
    let first : y ≡ x = cc in
    let others : a ++ u ∷ [] ≡ b ++ z ∷ zs = cc in
    let (front, same) = without_last a b u z zs others in
    (front, ap (λ l. y ∷ l) same ∙ ap (λ w. w ∷ b ++ front) first)

-- two tokens with those before them: they are the same, or one is among those before the other
pub data Compared (xs : List Token) (t : Token) (ys : List Token) (u : Token) : Type 0 where
  same : xs ≡ ys → t ≡ u → Compared xs t ys u
  earlier : (zs : List Token) → ys ≡ (xs ++ t ∷ []) ++ zs → Compared xs t ys u
  later : (zs : List Token) → xs ≡ (ys ++ u ∷ []) ++ zs → Compared xs t ys u

pub compared : (total : ℕ) (text : List ℕ) (xs : List Token) (t : Token) (ys : List Token) (u : Token) (r q : List ℕ) → Lexes total text (xs ++ t ∷ []) r → Lexes total text (ys ++ u ∷ []) q →
    Compared xs t ys u
compared total text xs t ys u r q a b = elim (lexes_compare total text (xs ++ t ∷ []) (ys ++ u ∷ []) r q a b) [
  | inl h ↦ first h.0 h.1
  | inr h ↦ second h.0 h.1
] where
  first : (zs : List Token) → ys ++ u ∷ [] ≡ (xs ++ t ∷ []) ++ zs → Compared xs t ys u
  first [] e = let (lists, ones) = same_split xs ys t u [] [] (sym (e ∙ append-nil (xs ++ t ∷ []))) refl in same lists ones
  first (z ∷ zs) e = let (front, is) = without_last ys (xs ++ t ∷ []) u z zs e in earlier front is

  second : (zs : List Token) → xs ++ t ∷ [] ≡ (ys ++ u ∷ []) ++ zs → Compared xs t ys u
  second [] e = let (lists, ones) = same_split xs ys t u [] [] (e ∙ append-nil (ys ++ u ∷ [])) refl in same lists ones
  second (z ∷ zs) e = let (front, is) = without_last xs (ys ++ u ∷ []) t z zs e in later front is
