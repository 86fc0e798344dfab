-- The scans of all string characters, and of all block string characters, answer by the grammar.
use Rattle.std.proofs.Common.{◌≡◌, ℕ, zero, suc, ◌<◌, ◌≤◌, Bool, true, List, [], ◌∷◌, ◌++◌, length, flat_map, Option, Some, None, refl, sym, subst, ◌∙◌, ap, append_assoc, arith}
use Rattle.std.specs.List.{list_all}
use Rattle.std.proofs.lemmas.List.{append-nil, length-append}
use Rattle.graphql_tokens.specs.Characters.{is_source_byte, IsRun}
use Rattle.graphql_tokens.specs.Strings.{is_string_byte, is_plain_byte, IsStringCharacter, AreStringCharacters, none, more, IsBlockCharacter, AreBlockCharacters}
use Rattle.graphql_tokens.specs.Strings as strings
use Rattle.graphql_tokens.specs.Scans.{strip, string_character_at, quotes_at, escaped_quotes_at}
use Rattle.graphql_tokens.specs.declared.strings.StringPart.{StringPart}
use Rattle.graphql_tokens.specs.declared.strings.StringPart.TheVariants.{Byte}
use Rattle.graphql_tokens.proofs.ScanLemmas.{both_pass, guarded, and_then_is}
use Rattle.graphql_tokens.proofs.StringScans.{character_is, character_read, character_shorter}
use Rattle.graphql_tokens.proofs.QuotedScans.{quotes_are, quotes_read, escaped_quotes_are, escaped_quotes_read, no_quotes, no_escaped_quotes, plain_block, block_shorter}
use Rattle.graphql_strings.specs.Values.{part_value}
use Rattle.graphql_strings.specs.Scans.{string_part_at, source_part_at, block_part_at, with_part, parts_in_turns, all_parts}

-- the rest behind a run
pub run_leaves : (test : ℕ → Bool) (text run rest : List ℕ) → IsRun test text run rest → length rest ≤ length text
run_leaves test text run rest is = omega (arith, ap length is.written, length-append run rest)

-- scans that lead on to a shorter rest
module _ (scan : List ℕ → Option (List ℕ × List ℕ)) (shrinks : (t : List ℕ) (p : List ℕ × List ℕ) → scan t ≡ Some p → length p.1 < length t) where
  at_end : (t : List ℕ) → length t ≤ 0 → scan t ≡ None
  at_end t h = by (scan t) refl where
    by : (o : Option (List ℕ × List ℕ)) → scan t ≡ o → scan t ≡ None
    by None e = e
    by (Some p) e = absurd (omega (arith, shrinks t p e))

  enough : (n m : ℕ) (t : List ℕ) → length t ≤ n → length t ≤ m → parts_in_turns scan n t ≡ parts_in_turns scan m t
  enough zero zero t a b = refl
  enough zero (suc m) t a b = rw (at_end t a, parts_in_turns) refl
  enough (suc n) zero t a b = rw (at_end t b, parts_in_turns) refl
  enough (suc n) (suc m) t a b = by (scan t) refl (enough n m) where
    by : (o : Option (List ℕ × List ℕ)) → scan t ≡ o → ((r : List ℕ) → length r ≤ n → length r ≤ m → parts_in_turns scan n r ≡ parts_in_turns scan m r) →
        parts_in_turns scan (suc n) t ≡ parts_in_turns scan (suc m) t
    by None e next = rw (e, parts_in_turns) refl
    by (Some p) e next = rw (e, parts_in_turns) (ap (with_part p.0) (next p.1 (omega (arith, shrinks t p e)) (omega (arith, shrinks t p e))))

  pub all_more : (t : List ℕ) (p : List ℕ × List ℕ) → scan t ≡ Some p → all_parts scan t ≡ with_part p.0 (all_parts scan p.1)
  unfolding all_parts
  all_more [] p e = absurd (omega (arith, shrinks [] p e))
  all_more (c ∷ cs) p e = rw (e, parts_in_turns) (ap (with_part p.0) (enough (length cs) (length p.1) p.1 (omega (arith, shrinks (c ∷ cs) p e)) (omega arith)))

  pub all_none : (t : List ℕ) → scan t ≡ None → all_parts scan t ≡ ([], t)
  unfolding all_parts
  all_none [] e = refl
  all_none (c ∷ cs) e = rw (e, parts_in_turns) refl

  -- a run of bytes that the scan gives as they are, one by one
  all_run : (test : ℕ → Bool) → ((c : ℕ) (cs : List ℕ) → test c ≡ true → scan (c ∷ cs) ≡ Some (c ∷ [], cs)) →
      (run rest : List ℕ) → list_all test run ≡ true → all_parts scan (run ++ rest) ≡ with_part run (all_parts scan rest)
  all_run test gives [] rest e = refl
  all_run test gives (c ∷ cs) rest e =
      let (here, behind) = both_pass (test c) (list_all test cs) e in
      all_more (c ∷ (cs ++ rest)) (c ∷ [], cs ++ rest) (gives c (cs ++ rest) here) ∙ ap (with_part (c ∷ [])) (all_run test gives cs rest behind)

  -- steps of a walk over the parts: what is gathered, and what is to come
  pub run_more : (test : ℕ → Bool) → ((c : ℕ) (cs : List ℕ) → test c ≡ true → scan (c ∷ cs) ≡ Some (c ∷ [], cs)) →
      (old new run text rest : List ℕ) (whole : List ℕ × List ℕ) → IsRun test text run rest → new ≡ old ++ run →
      with_part old (all_parts scan text) ≡ whole → with_part new (all_parts scan rest) ≡ whole
  run_more test gives old new run text rest whole is pushed so_far =
      let parts : all_parts scan text ≡ with_part run (all_parts scan rest) = ap (all_parts scan) is.written ∙ all_run test gives run rest is.each in
      rw (pushed, append_assoc old run (all_parts scan rest).0) (rw parts at so_far)

  pub one_more : (old new value rest behind : List ℕ) (whole : List ℕ × List ℕ) → scan rest ≡ Some (value, behind) → new ≡ old ++ value →
      with_part old (all_parts scan rest) ≡ whole → with_part new (all_parts scan behind) ≡ whole
  one_more old new value rest behind whole e pushed so_far =
      rw (pushed, append_assoc old value (all_parts scan behind).0) (rw (all_more rest (value, behind) e) at so_far)

  pub no_more : (gathered rest : List ℕ) (whole : List ℕ × List ℕ) → scan rest ≡ None → with_part gathered (all_parts scan rest) ≡ whole → (gathered, rest) ≡ whole
  no_more gathered rest whole e so_far = ap (λ (l : List ℕ). (l, rest)) (sym (append-nil gathered)) ∙ (rw (all_none rest e) at so_far)

-- string characters
part_is : (t : List ℕ) (p : List ℕ × List ℕ) → string_part_at t ≡ Some p →
    (part : StringPart) × IsStringCharacter t part p.1 × (part_value part ≡ p.0)
unfolding string_part_at
part_is t p e =
    let (q, eq, e1) = and_then_is (λ (q : StringPart × List ℕ). Some (part_value q.0, q.1)) (string_character_at t) p e in
    let both : (part_value q.0, q.1) ≡ p = cc in
    subst (λ (p : List ℕ × List ℕ). (part : StringPart) × IsStringCharacter t part p.1 × (part_value part ≡ p.0)) both
    (q.0, character_is t q eq, refl)

part_read : (t : List ℕ) (part : StringPart) (r : List ℕ) → IsStringCharacter t part r → string_part_at t ≡ Some (part_value part, r)
unfolding string_part_at
part_read t part r is = rw (character_read t part r is, string_part_at) refl

pub part_shrinks : (t : List ℕ) (p : List ℕ × List ℕ) → string_part_at t ≡ Some p → length p.1 < length t
part_shrinks t p e = let (part, is, value) = part_is t p e in character_shorter t part p.1 is

pub plain_part : (c : ℕ) (cs : List ℕ) → is_string_byte c ≡ true → string_part_at (c ∷ cs) ≡ Some (c ∷ [], cs)
plain_part c cs is = part_read (c ∷ cs) (Byte c) cs (strings.IsStringCharacter.plain c cs is)

pub parts_there : (n : ℕ) (t : List ℕ) → length t ≤ n →
    (parts : List StringPart) × AreStringCharacters t parts (all_parts string_part_at t).1 × (flat_map part_value parts ≡ (all_parts string_part_at t).0)
parts_there n t h = by n t h where
  Found : List ℕ → List ℕ × List ℕ → Type 0
  Found t found = (parts : List StringPart) × AreStringCharacters t parts found.1 × (flat_map part_value parts ≡ found.0)

  by : (n : ℕ) (t : List ℕ) → length t ≤ n → Found t (all_parts string_part_at t)
  by zero [] h = rw (all_none string_part_at part_shrinks [] (at_end string_part_at part_shrinks [] h)) ([], none [], refl)
  by zero (c ∷ cs) h = absurd (omega arith)
  by (suc n) t h = step (string_part_at t) refl (λ r l. by n r l) where
    step : (o : Option (List ℕ × List ℕ)) → string_part_at t ≡ o → ((r : List ℕ) → length r ≤ n → Found r (all_parts string_part_at r)) →
        Found t (all_parts string_part_at t)
    step None e next = rw (all_none string_part_at part_shrinks t e) ([], none t, refl)
    step (Some p) e next =
        let (part, is, value) = part_is t p e in
        let (parts, are, values) = next p.1 (omega (arith, part_shrinks t p e)) in
        rw (all_more string_part_at part_shrinks t p e) (
          part ∷ parts,
          more t p.1 _ part parts is are,
          rw (value, values) refl,
        )

pub parts_read : (t : List ℕ) (parts : List StringPart) (r : List ℕ) → AreStringCharacters t parts r → string_part_at r ≡ None →
    all_parts string_part_at t ≡ (flat_map part_value parts, r)
parts_read _ _ _ (none rest) e = all_none string_part_at part_shrinks rest e
parts_read _ _ _ (more t middle rest part parts is are) e =
    all_more string_part_at part_shrinks t (part_value part, middle) (part_read t part middle is)
    ∙ ap (with_part (part_value part)) (parts_read middle parts rest are e)

pub string_part_stops : (r : List ℕ) → string_part_at (34 ∷ r) ≡ None
unfolding string_part_at string_character_at
string_part_stops r = refl

-- block string characters
pub block_part_is : (t : List ℕ) (p : List ℕ × List ℕ) → block_part_at t ≡ Some p → IsBlockCharacter t p.0 p.1
unfolding block_part_at
block_part_is t p e = by (escaped_quotes_at t) refl e where
  byte : (t : List ℕ) → escaped_quotes_at t ≡ None → quotes_at t ≡ None → source_part_at t ≡ Some p → IsBlockCharacter t p.0 p.1
  byte [] ne nq e = absurd (let h : ⊥ = cc in h)
  byte (c ∷ cs) ne nq e =
      let (is, same) = guarded (is_source_byte c) (c ∷ [], cs) p e in
      subst (λ (p : List ℕ × List ℕ). IsBlockCharacter (c ∷ cs) p.0 p.1) same
      (strings.IsBlockCharacter.plain c cs is
      (λ b w. let h = rw w at nq in let k = quotes_read b in cc)
      (λ b w. let h = rw w at ne in let k = escaped_quotes_read b in cc))

  unescaped : (o : Option (List ℕ)) → quotes_at t ≡ o → escaped_quotes_at t ≡ None →
      elim o [ Some rest ↦ None | None ↦ source_part_at t ] ≡ Some p → IsBlockCharacter t p.0 p.1
  unescaped None nq ne e = byte t ne nq e
  unescaped (Some rest) nq ne e = absurd (let h : ⊥ = cc in h)

  by : (o : Option (List ℕ)) → escaped_quotes_at t ≡ o →
      elim o [ Some rest ↦ Some (34 ∷ 34 ∷ 34 ∷ [], rest) | None ↦ elim (quotes_at t) [ Some rest ↦ None | None ↦ source_part_at t ] ] ≡ Some p →
      IsBlockCharacter t p.0 p.1
  by None ne e = unescaped (quotes_at t) refl ne e
  by (Some rest) s e =
      let same : (34 ∷ 34 ∷ 34 ∷ [], rest) ≡ p = cc in
      subst (λ (p : List ℕ × List ℕ). IsBlockCharacter t p.0 p.1) same
      (rw (escaped_quotes_are t rest s) (strings.IsBlockCharacter.quotes rest))

block_part_read : (t raw r : List ℕ) → IsBlockCharacter t raw r → block_part_at t ≡ Some (raw, r)
unfolding block_part_at
block_part_read _ _ _ (strings.IsBlockCharacter.quotes rest) = rw (escaped_quotes_read rest, block_part_at) refl
block_part_read _ _ _ (strings.IsBlockCharacter.plain c rest is nq ne) =
    rw (no_escaped_quotes (c ∷ rest) ne, no_quotes (c ∷ rest) nq, is, block_part_at) refl

pub plain_block_part : (c : ℕ) (cs : List ℕ) → is_plain_byte c ≡ true → block_part_at (c ∷ cs) ≡ Some (c ∷ [], cs)
plain_block_part c cs is = block_part_read (c ∷ cs) (c ∷ []) cs (plain_block c cs is)

pub block_part_shrinks : (t : List ℕ) (p : List ℕ × List ℕ) → block_part_at t ≡ Some p → length p.1 < length t
block_part_shrinks t p e = block_shorter t p.0 p.1 (block_part_is t p e)

pub blocks_there : (n : ℕ) (t : List ℕ) → length t ≤ n → AreBlockCharacters t (all_parts block_part_at t).0 (all_parts block_part_at t).1
blocks_there n t h = by n t h where
  Found : List ℕ → List ℕ × List ℕ → Type 0
  Found t found = AreBlockCharacters t found.0 found.1

  by : (n : ℕ) (t : List ℕ) → length t ≤ n → Found t (all_parts block_part_at t)
  by zero [] h = rw (all_none block_part_at block_part_shrinks [] (at_end block_part_at block_part_shrinks [] h)) (strings.AreBlockCharacters.none [])
  by zero (c ∷ cs) h = absurd (omega arith)
  by (suc n) t h = step (block_part_at t) refl (λ r l. by n r l) where
    step : (o : Option (List ℕ × List ℕ)) → block_part_at t ≡ o → ((r : List ℕ) → length r ≤ n → Found r (all_parts block_part_at r)) →
        Found t (all_parts block_part_at t)
    step None e next = rw (all_none block_part_at block_part_shrinks t e) (strings.AreBlockCharacters.none t)
    step (Some p) e next =
        rw (all_more block_part_at block_part_shrinks t p e)
        (strings.AreBlockCharacters.more t p.1 _ p.0 _ (block_part_is t p e) (next p.1 (omega (arith, block_part_shrinks t p e))))

pub blocks_read : (t raw r : List ℕ) → AreBlockCharacters t raw r → block_part_at r ≡ None → all_parts block_part_at t ≡ (raw, r)
blocks_read _ _ _ (strings.AreBlockCharacters.none rest) e = all_none block_part_at block_part_shrinks rest e
blocks_read _ _ _ (strings.AreBlockCharacters.more t middle rest raw raws is are) e =
    all_more block_part_at block_part_shrinks t (raw, middle) (block_part_read t raw middle is)
    ∙ ap (with_part raw) (blocks_read middle raws rest are e)

pub block_part_stops : (r : List ℕ) → block_part_at (34 ∷ 34 ∷ 34 ∷ r) ≡ None
unfolding block_part_at escaped_quotes_at strip quotes_at
block_part_stops r = refl

-- a run of plain bytes up to three quotes is all that there is
pub all_plain : (text run rest behind : List ℕ) → IsRun is_plain_byte text run rest → quotes_at rest ≡ Some behind →
    all_parts block_part_at text ≡ (run, rest)
all_plain text run rest behind is q =
    let stops : block_part_at rest ≡ None = rw (quotes_are rest behind q) (block_part_stops behind) in
    let written : text ≡ run ++ rest = is.written in
    ap (all_parts block_part_at) written
    ∙ all_run block_part_at block_part_shrinks is_plain_byte plain_block_part run rest is.each
    ∙ ap (with_part run) (all_none block_part_at block_part_shrinks rest stops)
    ∙ ap (λ (l : List ℕ). (l, rest)) (append-nil run)
