-- Texts that begin as another one does, and go on with words.
use Rattle.std.proofs.Common.{◌≡◌, ℕ, zero, suc, ◌+◌, ◌-◌, ◌≤◌, true, false, ◌&&◌, ◌==◌, List, [], ◌∷◌, ◌++◌, length, take, drop, Option, None, Some, inl, inr, refl, sym, subst, ◌∙◌, ap, arith}
use Rattle.std.proofs.lemmas.List.{append_assoc, length-append, take-append-drop, take_at, length-take-le}
use Rattle.graphql_nodes.specs.Names.{is_name}
use Rattle.graphql_tokens.specs.Ignored.{carriage_return, space, line_terminator}
use Rattle.graphql_tokens.specs.Lexical.{IsToken, sign, spread, name, punctuator, Lexes, nothing, ignored, token, token_between}
use Rattle.graphql_tokens.specs.declared.token.Token.{Token}
use Rattle.graphql_tokens.specs.declared.token.TokenKind.{TokenKind}
use Rattle.graphql_tokens.specs.declared.token.TokenKind.TheVariants.{Name, Spread}
use Rattle.graphql_tokens.proofs.ScanLemmas.{both_pass, same_number}
use Rattle.graphql_tokens.proofs.SuffixLemmas.{Behind, further, ignored_behind, token_behind, cut_behind, behind_within}
use Rattle.graphql_syntax.specs.Inputs.{same_kind, text_of}
use Rattle.graphql_syntax.proofs.AsciiLemmas.{one_of}
use Rattle.graphql_syntax.proofs.TokenKinds.{same_kinds}
use Rattle.graphql_completions.proofs.ChangedTexts.{lexes_again}
use Rattle.graphql_completions.proofs.Likeness.{Word, Spells, is_sign, is_word, are_words, Alike, differ, share}

-- words as they are written, each with a space behind it
abbrev pub spelled_out : List Word → List ℕ
spelled_out [] = []
spelled_out (w ∷ words) = w.1 ++ 32 ∷ spelled_out words

sign_token : (kind : TokenKind) (text rest : List ℕ) → is_sign kind text ≡ true → IsToken kind (text ++ rest) rest
sign_token kind [] rest e = absurd (let b : ⊥ = cc in b)
sign_token kind (c ∷ []) rest e = by (punctuator c) refl e where
  by : (o : Option TokenKind) → punctuator c ≡ o → elim o [ None ↦ false | Some found ↦ same_kind found kind ] ≡ true → IsToken kind (c ∷ rest) rest
  by None s e = absurd (let b : ⊥ = cc in b)
  by (Some found) s e = sign c kind rest (s ∙ ap Some (same_kinds found kind e))
sign_token kind (a ∷ b ∷ []) rest e = absurd (let h : ⊥ = cc in h)
sign_token kind (a ∷ b ∷ c ∷ []) rest e =
    let (first, others) = both_pass (same_kind kind Spread) (a == 46 && (b == 46 && c == 46)) e in
    let (second, more) = both_pass (a == 46) (b == 46 && c == 46) others in
    let (third, fourth) = both_pass (b == 46) (c == 46) more in
    subst (λ k. IsToken k (a ∷ b ∷ c ∷ rest) rest) (sym (same_kinds kind Spread first))
    (subst (λ l. IsToken Spread l rest)
    (sym (ap (λ n. n ∷ b ∷ c ∷ rest) (same_number a 46 second) ∙ ap (λ n. 46 ∷ n ∷ c ∷ rest) (same_number b 46 third) ∙ ap (λ n. 46 ∷ 46 ∷ n ∷ rest) (same_number c 46 fourth)))
    (spread rest))
sign_token kind (a ∷ b ∷ c ∷ d ∷ text) rest e = absurd (let h : ⊥ = cc in h)

word_token : (w : Word) (rest : List ℕ) → is_word w ≡ true → IsToken w.0 (w.1 ++ 32 ∷ rest) (32 ∷ rest)
word_token w rest e = elim (one_of (same_kind w.0 Name && is_name w.1) (is_sign w.0 w.1) e) [
  | inl h ↦
      let (kind, text) = both_pass (same_kind w.0 Name) (is_name w.1) h in
      subst (λ k. IsToken k (w.1 ++ 32 ∷ rest) (32 ∷ rest)) (sym (same_kinds w.0 Name kind)) (name _ w.1 (32 ∷ rest) refl text refl)
  | inr h ↦ sign_token w.0 w.1 (32 ∷ rest) h
]

-- the tokens of words at the end of a text
pub record Written (source : List ℕ) (words : List Word) : Type 0 where
  pub tokens : List Token
  pub lexes : Lexes (length source) (spelled_out words) tokens []
  pub spells : Spells source tokens words

pub words_written : (source : List ℕ) (words : List Word) → are_words words ≡ true → Behind source (spelled_out words) → Written source words
words_written source [] e b = record { tokens = []; lexes = nothing []; spells = tt }
words_written source (w ∷ words) e b =
    let (first, others) = both_pass (is_word w) (are_words words) e in
    let text = w.1 ++ 32 ∷ spelled_out words in
    let written = words_written source words others
    (further source text (spelled_out words) b (w.1 ++ 32 ∷ [], sym (append_assoc w.1 (32 ∷ []) (spelled_out words)))) in
    let is = word_token w (spelled_out words) first in
    record {
      tokens = token_between (length source) w.0 text (32 ∷ spelled_out words) ∷ written.tokens;
      lexes = token w.0 text (32 ∷ spelled_out words) [] written.tokens is (ignored _ _ [] written.tokens (space (spelled_out words)) written.lexes);
      spells = (refl, spelling w.1 (32 ∷ spelled_out words) b, written.spells);
    } where
      spelling : (text rest : List ℕ) → Behind source (text ++ rest) →
          take ((length source - length rest) - (length source - length (text ++ rest))) (drop (length source - length (text ++ rest)) source) ≡ text
      spelling text rest b =
          let within = behind_within source (text ++ rest) b in
          let size : (length source - length rest) - (length source - length (text ++ rest)) ≡ length text = omega (arith, within, length-append text rest) in
          rw (size, cut_behind source (text ++ rest) b) (take_at text rest (length text) refl)

-- tokens that end so early
abbrev pub EndBy : ℕ → List Token → Type 0
EndBy n [] = Unit {0}
EndBy n (t ∷ rest) = (t.end ≤ n) × EndBy n rest

lexes_within : (total : ℕ) (text : List ℕ) (tokens : List Token) (rest : List ℕ) → Lexes total text tokens rest → length rest ≤ length text
lexes_within total _ _ _ (nothing rest) = omega arith
lexes_within total _ _ _ (ignored text m rest tokens is are) = omega (arith, behind_within text m (ignored_behind text m is), lexes_within total m tokens rest are)
lexes_within total _ _ _ (token kind text m rest tokens is are) = omega (arith, behind_within text m (token_behind kind text m is), lexes_within total m tokens rest are)

pub lexes_end_by : (total : ℕ) (text : List ℕ) (tokens : List Token) (rest : List ℕ) → Lexes total text tokens rest → EndBy (total - length rest) tokens
lexes_end_by total _ _ _ (nothing rest) = tt
lexes_end_by total _ _ _ (ignored text m rest tokens is are) = lexes_end_by total m tokens rest are
lexes_end_by total _ _ _ (token kind text m rest tokens is are) = (omega (arith, lexes_within total m tokens rest are), lexes_end_by total m tokens rest are)

pub end_later : (n k : ℕ) (tokens : List Token) → n ≤ k → EndBy n tokens → EndBy k tokens
end_later n k [] less e = tt
end_later n k (t ∷ rest) less e = (omega (arith, e.0), end_later n k rest less e.1)

-- the text of a token is in what a text begins with
pub part_kept : (front rest : List ℕ) (end start : ℕ) → end ≤ length front → take (end - start) (drop start (front ++ rest)) ≡ take (end - start) (drop start front)
part_kept [] rest end zero n = let none : end - zero ≡ zero = omega arith in rw none refl
part_kept [] rest end (suc start) n = let none : end - suc start ≡ zero = omega arith in rw none refl
part_kept (c ∷ front) rest zero start n = let none : zero - start ≡ zero = omega arith in rw none refl
part_kept (c ∷ front) rest (suc end) zero n =
    let all : suc end - zero ≡ suc end = omega arith in
    let less : end - zero ≡ end = omega arith in
    rw all (ap (λ l. c ∷ l) (rw less at (part_kept front rest end zero (omega arith))))
part_kept (c ∷ front) rest (suc end) (suc start) n = let same : suc end - suc start ≡ end - start = omega arith in rw same (part_kept front rest end start (omega arith))

pub text_kept : (source more : List ℕ) (n : ℕ) (t : Token) → n ≤ length source → t.end ≤ n → text_of source t ≡ text_of (take n source ++ more) t
text_kept source more n t within ends =
    let size = length-take-le n source within in
    ap (λ l. take (t.end - t.start) (drop t.start l)) (sym (take-append-drop n source)) ∙
    part_kept (take n source) (drop n source) t.end t.start (omega (arith, size, ends)) ∙
    sym (part_kept (take n source) more t.end t.start (omega (arith, size, ends)))

pub alike_kept : (source more : List ℕ) (n : ℕ) (tokens r s : List Token) → n ≤ length source → EndBy n tokens →
    Alike source (take n source ++ more) r s (tokens ++ r) (tokens ++ s)
alike_kept source more n [] r s within ends = differ
alike_kept source more n (t ∷ tokens) r s within ends =
    share t (tokens ++ r) (tokens ++ s) (text_kept source more n t within ends.0) (alike_kept source more n tokens r s within ends.1)

-- the last token, and what is before it
pub record Last (total : ℕ) (text : List ℕ) (before : List Token) (t : Token) : Type 0 where
  pub begins : List ℕ
  pub ends : List ℕ
  pub lexes : Lexes total text before begins
  pub is : IsToken t.kind begins ends
  pub same : token_between total t.kind begins ends ≡ t

pub last_token : (total : ℕ) (text : List ℕ) (tokens : List Token) (rest : List ℕ) → Lexes total text tokens rest → (before : List Token) (t : Token) → tokens ≡ before ++ t ∷ [] →
    Last total text before t
last_token total _ _ _ (nothing rest) [] t e = absurd (let b : ⊥ = cc in b)
last_token total _ _ _ (nothing rest) (x ∷ before) t e = absurd (let b : ⊥ = cc in b)
last_token total _ _ _ (ignored text m rest tokens is are) before t e =
    let l = last_token total m tokens rest are before t e in
    record { begins = l.begins; ends = l.ends; lexes = ignored text m l.begins before is l.lexes; is = l.is; same = l.same }
last_token total _ _ _ (token kind text m rest tokens is are) [] t e =
    let first : token_between total kind text m ≡ t = cc in
    subst (λ x. Last total text [] x) first (record { begins = text; ends = m; lexes = nothing text; is = is; same = refl })
last_token total _ _ _ (token kind text m rest tokens is are) (x ∷ before) t e =
    let first : token_between total kind text m ≡ x = cc in
    let others : tokens ≡ before ++ t ∷ [] = cc in
    let l = last_token total m tokens rest are before t others in
    record {
      begins = l.begins;
      ends = l.ends;
      lexes = subst (λ y. Lexes total text (y ∷ before) l.begins) first (token kind text m l.begins before is l.lexes);
      is = l.is;
      same = l.same;
    }

-- what is behind tokens is behind them all
lexes_both : (total : ℕ) (text : List ℕ) (tokens : List Token) (m : List ℕ) (others : List Token) (rest : List ℕ) → Lexes total text tokens m → Lexes total m others rest →
    Lexes total text (tokens ++ others) rest
lexes_both total _ _ _ others rest (nothing m) l = l
lexes_both total _ _ _ others rest (ignored text n m tokens is are) l = ignored text n rest (tokens ++ others) is (lexes_both total n tokens m others rest are l)
lexes_both total _ _ _ others rest (token kind text n m tokens is are) l = token kind text n rest (tokens ++ others) is (lexes_both total n tokens m others rest are l)

-- a text of these tokens that begins with the same bytes, and goes on with words
pub record GoesOnWith (text : List ℕ) (before : List Token) (at : ℕ) (words : List Word) : Type 0 where
  pub more : List ℕ
  pub tokens : List Token
  pub are_tokens : Lexes (length (take at text ++ more)) (take at text ++ more) (before ++ tokens) []
  pub spells : Spells (take at text ++ more) tokens words

pub goes_on_with : (text : List ℕ) (before : List Token) (rest : List ℕ) (at : ℕ) (words : List Word) → Lexes (length text) text before rest → at ≡ length text - length rest →
    are_words words ≡ true → GoesOnWith text before at words
goes_on_with text before rest at words lexes place good =
    let within = lexes_within (length text) text before rest lexes in
    let more : List ℕ = 13 ∷ 32 ∷ spelled_out words in
    let source : List ℕ = take at text ++ more in
    let taken : length (take at text) ≡ at = length-take-le at text (omega (arith, place)) in
    let size : length source + length rest ≡ length text + length more = omega (arith, taken, place, within, length-append (take at text) more) in
    let again = lexes_again (length text) (length source) text before rest (32 ∷ spelled_out words) lexes (omega arith) size in
    let written = again.written in
    let same : take at text ≡ again.front =
    ap (λ n. take n text) (let n : at ≡ length again.front = omega (arith, place, ap length written, length-append again.front rest) in n) ∙ ap (take (length again.front)) written ∙
    take_at again.front rest (length again.front) refl in
    let end = words_written source words good (take at text ++ 13 ∷ 32 ∷ [], sym (append_assoc (take at text) (13 ∷ 32 ∷ []) (spelled_out words))) in
    record {
      more = more;
      tokens = end.tokens;
      are_tokens =
          lexes_both (length source) source before more end.tokens [] (subst (λ l. Lexes (length source) (l ++ more) before more) (sym same) again.lexes)
          (ignored _ _ [] end.tokens (line_terminator _ _ (carriage_return _ refl)) (ignored _ _ [] end.tokens (space _) end.lexes));
      spells = end.spells;
    }
