-- The scans of whole strings and block strings answer by the grammar.
use Rattle.std.proofs.Common.{◌≡◌, ℕ, zero, suc, ◌<◌, ◌≤◌, true, false, not, ◌||◌, ◌==◌, List, [], ◌∷◌, ◌++◌, length, Option, Some, None, refl, subst, ◌∙◌, ap, arith}
use Rattle.graphql_tokens.specs.Characters.{is_source_byte}
use Rattle.graphql_tokens.specs.Strings.{is_plain_byte, IsStringCharacter, plain, unicode, escaped, AreStringCharacters, none, more, IsString, empty, characters, IsBlockCharacter, AreBlockCharacters, IsBlockString}
use Rattle.graphql_tokens.specs.Strings as strings
use Rattle.std.proofs.lemmas.Bool.Decides.{nat_tests}
use Rattle.graphql_tokens.specs.Lexical.{IsToken, string, block_string}
use Rattle.graphql_tokens.specs.Scans.{strip, after_all, string_character_at, past_string_character, quotes_at, escaped_quotes_at, source_byte_at, block_character_at, with_kind, quoted_at}
use Rattle.graphql_tokens.specs.declared.strings.StringPart.{StringPart}
use Rattle.graphql_tokens.specs.declared.token.TokenKind.{TokenKind}
use Rattle.graphql_tokens.specs.declared.token.TokenKind.TheVariants.{StringValue, BlockString}
use Rattle.graphql_tokens.proofs.ScanLemmas.{both_pass, other_number, guarded, and_then_is, strip_is, strip_it, strip_none, strip_fails, after_more, after_none}
use Rattle.graphql_tokens.proofs.StringScans.{character_is, character_read, character_shorter, past_shrinks, no_quote}

-- all characters that come
characters_there : (n : ℕ) (t : List ℕ) → length t ≤ n → (parts : List StringPart) × AreStringCharacters t parts (after_all past_string_character t)
unfolding after_all
characters_there zero [] h = ([], none [])
characters_there zero (c ∷ cs) h = absurd (omega arith)
characters_there (suc n) t h = by (string_character_at t) refl (λ r l. characters_there n r l) where
  by : (o : Option (StringPart × List ℕ)) → string_character_at t ≡ o →
      ((r : List ℕ) → length r ≤ n → (parts : List StringPart) × AreStringCharacters r parts (after_all past_string_character r)) →
      (parts : List StringPart) × AreStringCharacters t parts (after_all past_string_character t)
  by None e next =
      let stops : past_string_character t ≡ None = rw e refl in
      ([], rw (after_none past_string_character past_shrinks t stops) (none t))
  by (Some p) e next =
      let is = character_is t p e in
      let on : past_string_character t ≡ Some p.1 = rw e refl in
      let (parts, are) = next p.1 (omega (arith, character_shorter t p.0 p.1 is)) in
      (p.0 ∷ parts, rw (after_more past_string_character past_shrinks t p.1 on) (more t p.1 _ p.0 parts is are))

characters_read : (t : List ℕ) (parts : List StringPart) (r : List ℕ) → AreStringCharacters t parts r → past_string_character r ≡ None →
    after_all past_string_character t ≡ r
characters_read _ _ _ (none rest) e = after_none past_string_character past_shrinks rest e
characters_read _ _ _ (more t middle rest part parts is are) e =
    let on : past_string_character t ≡ Some middle = rw (character_read t part middle is) refl in
    after_more past_string_character past_shrinks t middle on ∙ characters_read middle parts rest are e

-- block strings
pub quotes_are : (t r : List ℕ) → quotes_at t ≡ Some r → t ≡ 34 ∷ 34 ∷ 34 ∷ r
unfolding quotes_at
quotes_are t r e =
    let (x, ex, e1) = and_then_is _ (strip 34 t) r e in
    let (y, ey, e2) = and_then_is _ (strip 34 x) r e1 in
    strip_is 34 t x ex ∙ ap (λ l. 34 ∷ l) (strip_is 34 x y ey ∙ ap (λ l. 34 ∷ l) (strip_is 34 y r e2))

pub quotes_read : (r : List ℕ) → quotes_at (34 ∷ 34 ∷ 34 ∷ r) ≡ Some r
unfolding quotes_at strip
quotes_read r = refl

pub escaped_quotes_are : (t r : List ℕ) → escaped_quotes_at t ≡ Some r → t ≡ 92 ∷ 34 ∷ 34 ∷ 34 ∷ r
unfolding escaped_quotes_at
escaped_quotes_are t r e =
    let (x, ex, e1) = and_then_is quotes_at (strip 92 t) r e in
    strip_is 92 t x ex ∙ ap (λ l. 92 ∷ l) (quotes_are x r e1)

pub escaped_quotes_read : (r : List ℕ) → escaped_quotes_at (92 ∷ 34 ∷ 34 ∷ 34 ∷ r) ≡ Some r
unfolding escaped_quotes_at strip
escaped_quotes_read r = quotes_read r

pub no_quotes : (t : List ℕ) → ((r : List ℕ) → t ≡ 34 ∷ 34 ∷ 34 ∷ r → ⊥) → quotes_at t ≡ None
no_quotes t n = by (quotes_at t) refl where
  by : (o : Option (List ℕ)) → quotes_at t ≡ o → quotes_at t ≡ None
  by None e = e
  by (Some r) e = absurd (n r (quotes_are t r e))

pub no_escaped_quotes : (t : List ℕ) → ((r : List ℕ) → t ≡ 92 ∷ 34 ∷ 34 ∷ 34 ∷ r → ⊥) → escaped_quotes_at t ≡ None
no_escaped_quotes t n = by (escaped_quotes_at t) refl where
  by : (o : Option (List ℕ)) → escaped_quotes_at t ≡ o → escaped_quotes_at t ≡ None
  by None e = e
  by (Some r) e = absurd (n r (escaped_quotes_are t r e))

block_is : (t r : List ℕ) → block_character_at t ≡ Some r → (raw : List ℕ) × IsBlockCharacter t raw r
unfolding block_character_at
block_is t r e = by (escaped_quotes_at t) refl e where
  byte : (t : List ℕ) → escaped_quotes_at t ≡ None → quotes_at t ≡ None → source_byte_at t ≡ Some r → (raw : List ℕ) × IsBlockCharacter t raw r
  byte [] ne nq e = absurd (let h : ⊥ = cc in h)
  byte (c ∷ cs) ne nq e =
      let (is, same) = guarded (is_source_byte c) cs r e in (
        c ∷ [],
        rw (← same) (strings.IsBlockCharacter.plain c cs is
            (λ b w. let h = rw w at nq in let k = quotes_read b in cc)
            (λ b w. let h = rw w at ne in let k = escaped_quotes_read b in cc)),
      )

  unescaped : (o : Option (List ℕ)) → quotes_at t ≡ o → escaped_quotes_at t ≡ None →
      elim o [ Some rest ↦ None | None ↦ source_byte_at t ] ≡ Some r → (raw : List ℕ) × IsBlockCharacter t raw r
  unescaped None nq ne e = byte t ne nq e
  unescaped (Some rest) nq ne e = absurd (let h : ⊥ = cc in h)

  by : (o : Option (List ℕ)) → escaped_quotes_at t ≡ o →
      elim o [ Some rest ↦ Some rest | None ↦ elim (quotes_at t) [ Some rest ↦ None | None ↦ source_byte_at t ] ] ≡ Some r → (raw : List ℕ) × IsBlockCharacter t raw r
  by None ne e = unescaped (quotes_at t) refl ne e
  by (Some rest) s e =
      let same : rest ≡ r = cc in
      (34 ∷ 34 ∷ 34 ∷ [], rw (escaped_quotes_are t rest s, same) (strings.IsBlockCharacter.quotes r))

block_read : (t raw r : List ℕ) → IsBlockCharacter t raw r → block_character_at t ≡ Some r
unfolding block_character_at escaped_quotes_at strip quotes_at
block_read _ _ _ (strings.IsBlockCharacter.quotes rest) = rw (escaped_quotes_read rest) refl
block_read _ _ _ (strings.IsBlockCharacter.plain c rest is nq ne) =
    rw (no_escaped_quotes (c ∷ rest) ne, no_quotes (c ∷ rest) nq, is, block_character_at) refl

pub block_shorter : (t raw r : List ℕ) → IsBlockCharacter t raw r → length r < length t
block_shorter _ _ _ (strings.IsBlockCharacter.quotes rest) = omega arith
block_shorter _ _ _ (strings.IsBlockCharacter.plain c rest is nq ne) = omega arith

pub block_shrinks : (t r : List ℕ) → block_character_at t ≡ Some r → length r < length t
block_shrinks t r e = let (raw, is) = block_is t r e in block_shorter t raw r is

-- a byte that stands for itself, whatever is behind it
plain_no_quote : (c : ℕ) → is_plain_byte c ≡ true → (c == 34) ≡ false
plain_no_quote c is = grind (arith, nat_tests)

plain_no_slash : (c : ℕ) → is_plain_byte c ≡ true → (c == 92) ≡ false
plain_no_slash c is = grind (arith, nat_tests)

first_of_both : (c b : ℕ) (cs bs : List ℕ) → c ∷ cs ≡ b ∷ bs → c ≡ b
first_of_both c b cs bs e = cc

pub plain_block : (c : ℕ) (rest : List ℕ) → is_plain_byte c ≡ true → IsBlockCharacter (c ∷ rest) (c ∷ []) rest
plain_block c rest is =
    let source : is_source_byte c ≡ true = (both_pass (is_source_byte c) (not (c == 34 || c == 92)) is).0 in
    strings.IsBlockCharacter.plain c rest source
    (λ b w. other_number c 34 (plain_no_quote c is) (first_of_both c 34 rest (34 ∷ 34 ∷ b) w))
    (λ b w. other_number c 92 (plain_no_slash c is) (first_of_both c 92 rest (34 ∷ 34 ∷ 34 ∷ b) w))

pub block_plain : (c : ℕ) (rest : List ℕ) → is_plain_byte c ≡ true → block_character_at (c ∷ rest) ≡ Some rest
block_plain c rest is = block_read (c ∷ rest) (c ∷ []) rest (plain_block c rest is)

blocks_there : (n : ℕ) (t : List ℕ) → length t ≤ n → (raw : List ℕ) × AreBlockCharacters t raw (after_all block_character_at t)
unfolding after_all
blocks_there zero [] h = ([], strings.AreBlockCharacters.none [])
blocks_there zero (c ∷ cs) h = absurd (omega arith)
blocks_there (suc n) t h = by (block_character_at t) refl (λ r l. blocks_there n r l) where
  by : (o : Option (List ℕ)) → block_character_at t ≡ o →
      ((r : List ℕ) → length r ≤ n → (raw : List ℕ) × AreBlockCharacters r raw (after_all block_character_at r)) →
      (raw : List ℕ) × AreBlockCharacters t raw (after_all block_character_at t)
  by None e next = ([], rw (after_none block_character_at block_shrinks t e) (strings.AreBlockCharacters.none t))
  by (Some r) e next =
      let (raw, is) = block_is t r e in
      let (raws, are) = next r (omega (arith, block_shrinks t r e)) in
      (raw ++ raws, rw (after_more block_character_at block_shrinks t r e) (strings.AreBlockCharacters.more t r _ raw raws is are))

blocks_read : (t raw r : List ℕ) → AreBlockCharacters t raw r → block_character_at r ≡ None → after_all block_character_at t ≡ r
blocks_read _ _ _ (strings.AreBlockCharacters.none rest) e = after_none block_character_at block_shrinks rest e
blocks_read _ _ _ (strings.AreBlockCharacters.more t middle rest raw raws is are) e =
    after_more block_character_at block_shrinks t middle (block_read t raw middle is) ∙ blocks_read middle raws rest are e

pub block_stops : (r : List ℕ) → block_character_at (34 ∷ 34 ∷ 34 ∷ r) ≡ None
unfolding block_character_at escaped_quotes_at strip
block_stops r = rw (quotes_read r, block_character_at) refl

string_stops : (r : List ℕ) → past_string_character (34 ∷ r) ≡ None
unfolding string_character_at
string_stops r = refl

-- strings, behind their first quote
opened : (t : List ℕ) (parts : List StringPart) (q r : List ℕ) → AreStringCharacters t parts q → q ≡ 34 ∷ r → strip 34 t ≡ None →
    (all : List StringPart) × IsString (34 ∷ t) all r
opened _ _ _ r (none rest) e n = absurd (let h = rw e at n in let k = strip_it 34 r in let b : ⊥ = cc in b)
opened _ _ _ r (more t middle rest part parts is are) e n = (part ∷ parts, characters t middle r part parts is (rw e at are))

pub quoted_is : (t : List ℕ) (p : TokenKind × List ℕ) → quoted_at t ≡ Some p → IsToken p.0 (34 ∷ t) p.1
unfolding quoted_at
quoted_is t p e = by (strip 34 t) refl e where
  Third : List ℕ → Option (List ℕ) → Option (TokenKind × List ℕ)
  Third second o = elim o [
    | None ↦ Some (StringValue, second)
    | Some third ↦ with_kind BlockString (quotes_at (after_all block_character_at third))
  ]

  third : (second : List ℕ) → t ≡ 34 ∷ second → (o : Option (List ℕ)) → strip 34 second ≡ o → Third second o ≡ Some p → IsToken p.0 (34 ∷ t) p.1
  third second w None s e =
      let both : (StringValue, second) ≡ p = cc in
      subst (λ (q : TokenKind × List ℕ). IsToken q.0 (34 ∷ t) q.1) both
      (string (34 ∷ t) second [] (rw w (empty second (strip_fails 34 second s))))
  third second w (Some rest) s e =
      let (r, er, e1) = and_then_is (λ (r : List ℕ). Some (BlockString, r)) (quotes_at (after_all block_character_at rest)) p e in
      let both : (BlockString, r) ≡ p = cc in
      let (raw, are) = blocks_there (length rest) rest (omega arith) in
      let written : t ≡ 34 ∷ 34 ∷ rest = w ∙ ap (λ l. 34 ∷ l) (strip_is 34 second rest s) in
      subst (λ (q : TokenKind × List ℕ). IsToken q.0 (34 ∷ t) q.1) both
      (block_string (34 ∷ t) r raw (rw written (strings.IsBlockString.block rest raw r (rw (quotes_are (after_all block_character_at rest) r er) at are))))

  by : (o : Option (List ℕ)) → strip 34 t ≡ o →
      elim o [ None ↦ with_kind StringValue (strip 34 (after_all past_string_character t)) | Some second ↦ Third second (strip 34 second) ] ≡ Some p →
      IsToken p.0 (34 ∷ t) p.1
  by None s e =
      let (r, er, e1) = and_then_is (λ (r : List ℕ). Some (StringValue, r)) (strip 34 (after_all past_string_character t)) p e in
      let both : (StringValue, r) ≡ p = cc in
      let (parts, are) = characters_there (length t) t (omega arith) in
      let (all, is) = opened t parts (after_all past_string_character t) r are (strip_is 34 (after_all past_string_character t) r er) s in
      subst (λ (q : TokenKind × List ℕ). IsToken q.0 (34 ∷ t) q.1) both (string (34 ∷ t) r all is)
  by (Some second) s e = third second (strip_is 34 t second s) (strip 34 second) refl e

pub unquoted : (t : List ℕ) (part : StringPart) (r : List ℕ) → IsStringCharacter t part r → strip 34 t ≡ None
unfolding strip
unquoted _ _ _ (plain c rest is) = rw (no_quote c is) refl
unquoted _ _ _ (unicode t code rest is) = refl
unquoted _ _ _ (escaped c code rest is) = refl

-- a whole string, its first quote cut
behind_quote : List ℕ → Option (TokenKind × List ℕ)
behind_quote [] = None
behind_quote (c ∷ cs) = quoted_at cs

pub string_read : (t : List ℕ) (parts : List StringPart) (r : List ℕ) → IsString t parts r → (rest : List ℕ) × (t ≡ 34 ∷ rest) × (quoted_at rest ≡ Some (StringValue, r))
unfolding quoted_at
string_read _ _ _ (empty rest n) = (34 ∷ rest, refl, rw (strip_it 34 rest, strip_none 34 rest n, quoted_at) refl)
string_read _ _ _ (characters t middle rest part parts is are) =
    let all : after_all past_string_character t ≡ 34 ∷ rest =
    characters_read t (part ∷ parts) (34 ∷ rest) (more t middle (34 ∷ rest) part parts is are) (string_stops rest) in
    (t, refl, rw (unquoted t part middle is, all, strip_it 34 rest, quoted_at) refl)

pub block_string_read : (t raw r : List ℕ) → IsBlockString t raw r → (rest : List ℕ) × (t ≡ 34 ∷ rest) × (quoted_at rest ≡ Some (BlockString, r))
unfolding quoted_at
block_string_read _ _ _ (strings.IsBlockString.block t raw rest are) =
    let all : after_all block_character_at t ≡ 34 ∷ 34 ∷ 34 ∷ rest = blocks_read t raw (34 ∷ 34 ∷ 34 ∷ rest) are (block_stops rest) in
    (34 ∷ 34 ∷ t, refl, rw (strip_it 34 (34 ∷ t), strip_it 34 t, all, quotes_read rest, quoted_at) refl)
