-- What a text begins with stays what it begins with where others, behind a carriage return, are in the place of the rest.
use Rattle.std.proofs.Common.{◌≡◌, ℕ, ◌+◌, ◌≤◌, Bool, false, ◌==◌, List, [], ◌∷◌, ◌++◌, length, refl, sym, subst, ◌∙◌, ap, arith}
use Rattle.std.proofs.lemmas.List.{append_assoc, length-append}
use Rattle.graphql_nodes.specs.Names.{continues_name}
use Rattle.graphql_tokens.specs.Characters.{begins_with}
use Rattle.graphql_tokens.specs.Ignored.{IsLineTerminator, line_feed, carriage_return, carriage_return_line_feed, IsIgnored, byte_order_mark, tab, space, line_terminator, comment, comma, is_comment_byte}
use Rattle.graphql_tokens.specs.Lexical.{IsToken, sign, spread, name, integer, float, string, block_string, goes_on_number, Lexes, nothing, ignored, token, token_between}
use Rattle.graphql_tokens.specs.Strings as strings
use Rattle.graphql_tokens.specs.declared.strings.StringPart.{StringPart}
use Rattle.graphql_tokens.specs.declared.token.Token.{Token}
use Rattle.graphql_tokens.specs.declared.token.TokenKind.{TokenKind}
use Rattle.graphql_tokens.specs.declared.token.TokenKind.TheVariants.{StringValue, BlockString}

-- what follows does not pass the test, as it did not
kept_end : (test : ℕ → Bool) (front rest more m : List ℕ) → m ≡ front ++ rest → test 13 ≡ false → begins_with test m ≡ false → begins_with test (front ++ 13 ∷ more) ≡ false
kept_end test [] rest more m e ends n = ends
kept_end test (c ∷ front) rest more m e ends n = ap (begins_with test) (sym e) ∙ n

-- the same front with the others behind it
record Ignores (text m m2 : List ℕ) : Type 0 where
  front : List ℕ
  written : text ≡ front ++ m
  again : IsIgnored (front ++ m2) m2

ignores_again : (text m front rest more : List ℕ) → m ≡ front ++ rest → IsIgnored text m → Ignores text m (front ++ 13 ∷ more)
ignores_again _ _ front rest more e (byte_order_mark m) = record { front = 239 ∷ 187 ∷ 191 ∷ []; written = refl; again = byte_order_mark _ }
ignores_again _ _ front rest more e (tab m) = record { front = 9 ∷ []; written = refl; again = tab _ }
ignores_again _ _ front rest more e (space m) = record { front = 32 ∷ []; written = refl; again = space _ }
ignores_again _ _ front rest more e (comma m) = record { front = 44 ∷ []; written = refl; again = comma _ }
ignores_again _ _ front rest more e (line_terminator text m is) = ended text m e is where
  ended : (text m : List ℕ) → m ≡ front ++ rest → IsLineTerminator text m → Ignores text m (front ++ 13 ∷ more)
  ended _ _ e (line_feed m) = record { front = 10 ∷ []; written = refl; again = line_terminator _ _ (line_feed _) }
  ended _ _ e (carriage_return m n) =
      record { front = 13 ∷ []; written = refl; again = line_terminator _ _ (carriage_return _ (kept_end (λ c. c == 10) front rest more m e refl n)) }
  ended _ _ e (carriage_return_line_feed m) = record { front = 13 ∷ 10 ∷ []; written = refl; again = line_terminator _ _ (carriage_return_line_feed _) }
ignores_again _ _ front rest more e (comment text run m is) = record {
  front = 35 ∷ run;
  written = ap (λ l. 35 ∷ l) is.written;
  again = comment _ run _ (record { written = refl; each = is.each; ends = kept_end is_comment_byte front rest more m e refl is.ends });
}

-- characters of strings are what they are whatever is behind them
record Unicode (text : List ℕ) (code : ℕ) (m : List ℕ) : Type 0 where
  front : List ℕ
  written : text ≡ front ++ m
  again : (m2 : List ℕ) → strings.IsEscapedUnicode (front ++ m2) code m2

unicode_again : (text : List ℕ) (code : ℕ) (m : List ℕ) → strings.IsEscapedUnicode text code m → Unicode text code m
unicode_again _ _ _ (strings.IsEscapedUnicode.four_digits a b c d code m v is) =
    record { front = a ∷ b ∷ c ∷ d ∷ []; written = refl; again = λ m2. strings.IsEscapedUnicode.four_digits a b c d code m2 v is }
unicode_again _ _ _ (strings.IsEscapedUnicode.surrogate_pair a b c d e f g h x y m p q s u) =
    record { front = a ∷ b ∷ c ∷ d ∷ 92 ∷ 117 ∷ e ∷ f ∷ g ∷ h ∷ []; written = refl; again = λ m2. strings.IsEscapedUnicode.surrogate_pair a b c d e f g h x y m2 p q s u }
unicode_again _ _ _ (strings.IsEscapedUnicode.braces text digits code m w v is) = record {
  front = 123 ∷ (digits ++ 125 ∷ []);
  written = ap (λ l. 123 ∷ l) (w ∙ sym (append_assoc digits (125 ∷ []) m));
  again = λ m2. strings.IsEscapedUnicode.braces _ digits code m2 (append_assoc digits (125 ∷ []) m2) v is;
}

record Character (text : List ℕ) (part : StringPart) (m : List ℕ) : Type 0 where
  front : List ℕ
  written : text ≡ front ++ m
  again : (m2 : List ℕ) → strings.IsStringCharacter (front ++ m2) part m2

character_again : (text : List ℕ) (part : StringPart) (m : List ℕ) → strings.IsStringCharacter text part m → Character text part m
character_again _ _ _ (strings.IsStringCharacter.plain c m is) = record { front = c ∷ []; written = refl; again = λ m2. strings.IsStringCharacter.plain c m2 is }
character_again _ _ _ (strings.IsStringCharacter.unicode text code m is) =
    let u = unicode_again text code m is in
    record { front = 92 ∷ 117 ∷ u.front; written = ap (λ l. 92 ∷ 117 ∷ l) u.written; again = λ m2. strings.IsStringCharacter.unicode _ code m2 (u.again m2) }
character_again _ _ _ (strings.IsStringCharacter.escaped c code m is) = record { front = 92 ∷ c ∷ []; written = refl; again = λ m2. strings.IsStringCharacter.escaped c code m2 is }

record Characters (text : List ℕ) (parts : List StringPart) (m : List ℕ) : Type 0 where
  front : List ℕ
  written : text ≡ front ++ m
  again : (m2 : List ℕ) → strings.AreStringCharacters (front ++ m2) parts m2

characters_again : (text : List ℕ) (parts : List StringPart) (m : List ℕ) → strings.AreStringCharacters text parts m → Characters text parts m
characters_again _ _ _ (strings.AreStringCharacters.none m) = record { front = []; written = refl; again = λ m2. strings.AreStringCharacters.none m2 }
characters_again _ _ _ (strings.AreStringCharacters.more text n m part parts is are) =
    let first = character_again text part n is in
    let others = characters_again n parts m are in
    record {
      front = first.front ++ others.front;
      written = first.written ∙ ap (λ l. first.front ++ l) others.written ∙ sym (append_assoc first.front others.front m);
      again = λ m2.
          subst (λ l. strings.AreStringCharacters l (part ∷ parts) m2) (sym (append_assoc first.front others.front m2))
          (strings.AreStringCharacters.more _ (others.front ++ m2) m2 part parts (first.again (others.front ++ m2)) (others.again m2));
    }

-- three quotes, and a backslash before them, begin where they did
no_quotes : (c : ℕ) (front m m2 : List ℕ) → ((behind : List ℕ) → c ∷ front ++ 34 ∷ 34 ∷ 34 ∷ m ≡ 34 ∷ 34 ∷ 34 ∷ behind → ⊥) →
    (behind : List ℕ) → c ∷ front ++ 34 ∷ 34 ∷ 34 ∷ m2 ≡ 34 ∷ 34 ∷ 34 ∷ behind → ⊥
no_quotes c [] m m2 n behind e = let same : c ≡ 34 = cc in n (34 ∷ m) (ap (λ x. x ∷ 34 ∷ 34 ∷ 34 ∷ m) same)
no_quotes c (x ∷ []) m m2 n behind e =
    let first : c ≡ 34 = cc in
    let second : x ≡ 34 = cc in
    n (34 ∷ 34 ∷ m) (ap (λ y. y ∷ x ∷ 34 ∷ 34 ∷ 34 ∷ m) first ∙ ap (λ y. 34 ∷ y ∷ 34 ∷ 34 ∷ 34 ∷ m) second)
no_quotes c (x ∷ y ∷ front) m m2 n behind e =
    let first : c ≡ 34 = cc in
    let second : x ≡ 34 = cc in
    let third : y ≡ 34 = cc in
    n (front ++ 34 ∷ 34 ∷ 34 ∷ m)
    (ap (λ z. z ∷ x ∷ y ∷ front ++ 34 ∷ 34 ∷ 34 ∷ m) first ∙ ap (λ z. 34 ∷ z ∷ y ∷ front ++ 34 ∷ 34 ∷ 34 ∷ m) second ∙ ap (λ z. 34 ∷ 34 ∷ z ∷ front ++ 34 ∷ 34 ∷ 34 ∷ m) third)

no_escape : (c : ℕ) (front m m2 : List ℕ) → ((behind : List ℕ) → c ∷ front ++ 34 ∷ 34 ∷ 34 ∷ m ≡ 92 ∷ 34 ∷ 34 ∷ 34 ∷ behind → ⊥) →
    (behind : List ℕ) → c ∷ front ++ 34 ∷ 34 ∷ 34 ∷ m2 ≡ 92 ∷ 34 ∷ 34 ∷ 34 ∷ behind → ⊥
no_escape c [] m m2 n behind e = let same : c ≡ 92 = cc in n m (ap (λ x. x ∷ 34 ∷ 34 ∷ 34 ∷ m) same)
no_escape c (x ∷ []) m m2 n behind e =
    let first : c ≡ 92 = cc in
    let second : x ≡ 34 = cc in
    n (34 ∷ m) (ap (λ y. y ∷ x ∷ 34 ∷ 34 ∷ 34 ∷ m) first ∙ ap (λ y. 92 ∷ y ∷ 34 ∷ 34 ∷ 34 ∷ m) second)
no_escape c (x ∷ y ∷ []) m m2 n behind e =
    let first : c ≡ 92 = cc in
    let second : x ≡ 34 = cc in
    let third : y ≡ 34 = cc in
    n (34 ∷ 34 ∷ m)
    (ap (λ z. z ∷ x ∷ y ∷ 34 ∷ 34 ∷ 34 ∷ m) first ∙ ap (λ z. 92 ∷ z ∷ y ∷ 34 ∷ 34 ∷ 34 ∷ m) second ∙ ap (λ z. 92 ∷ 34 ∷ z ∷ 34 ∷ 34 ∷ 34 ∷ m) third)
no_escape c (x ∷ y ∷ z ∷ front) m m2 n behind e =
    let first : c ≡ 92 = cc in
    let second : x ≡ 34 = cc in
    let third : y ≡ 34 = cc in
    let fourth : z ≡ 34 = cc in
    n (front ++ 34 ∷ 34 ∷ 34 ∷ m)
    (ap (λ w. w ∷ x ∷ y ∷ z ∷ front ++ 34 ∷ 34 ∷ 34 ∷ m) first ∙ ap (λ w. 92 ∷ w ∷ y ∷ z ∷ front ++ 34 ∷ 34 ∷ 34 ∷ m) second ∙
    ap (λ w. 92 ∷ 34 ∷ w ∷ z ∷ front ++ 34 ∷ 34 ∷ 34 ∷ m) third ∙ ap (λ w. 92 ∷ 34 ∷ 34 ∷ w ∷ front ++ 34 ∷ 34 ∷ 34 ∷ m) fourth)

-- what is in a block string, up to its last quotes
record Block (text raw m : List ℕ) : Type 0 where
  front : List ℕ
  written : text ≡ front ++ 34 ∷ 34 ∷ 34 ∷ m
  again : (m2 : List ℕ) → strings.AreBlockCharacters (front ++ 34 ∷ 34 ∷ 34 ∷ m2) raw (34 ∷ 34 ∷ 34 ∷ m2)

block_again : (text raw end m : List ℕ) → end ≡ 34 ∷ 34 ∷ 34 ∷ m → strings.AreBlockCharacters text raw end → Block text raw m
block_again _ _ _ m e (strings.AreBlockCharacters.none end) = record { front = []; written = e; again = λ m2. strings.AreBlockCharacters.none (34 ∷ 34 ∷ 34 ∷ m2) }
block_again _ _ _ m e (strings.AreBlockCharacters.more text n end raw raws is are) = by text raw n is (block_again n raws end m e are) where
  by : (text raw n : List ℕ) → strings.IsBlockCharacter text raw n → Block n raws m → Block text (raw ++ raws) m
  by _ _ _ (strings.IsBlockCharacter.quotes n) b = record {
    front = 92 ∷ 34 ∷ 34 ∷ 34 ∷ b.front;
    written = ap (λ l. 92 ∷ 34 ∷ 34 ∷ 34 ∷ l) b.written;
    again = λ m2. strings.AreBlockCharacters.more _ (b.front ++ 34 ∷ 34 ∷ 34 ∷ m2) _ _ raws (strings.IsBlockCharacter.quotes _) (b.again m2);
  }
  by _ _ _ (strings.IsBlockCharacter.plain c n is no_three no_four) b = record {
    front = c ∷ b.front;
    written = ap (λ l. c ∷ l) b.written;
    again = λ m2.
        strings.AreBlockCharacters.more _ (b.front ++ 34 ∷ 34 ∷ 34 ∷ m2) _ _ raws
        (strings.IsBlockCharacter.plain c _ is
        (no_quotes c b.front m m2 (λ behind h. no_three behind (ap (λ l. c ∷ l) b.written ∙ h)))
        (no_escape c b.front m m2 (λ behind h. no_four behind (ap (λ l. c ∷ l) b.written ∙ h))))
        (b.again m2);
  }

-- tokens
record Tokenizes (kind : TokenKind) (text m m2 : List ℕ) : Type 0 where
  front : List ℕ
  written : text ≡ front ++ m
  again : IsToken kind (front ++ m2) m2

string_again : (text : List ℕ) (parts : List StringPart) (m front rest more : List ℕ) → m ≡ front ++ rest → strings.IsString text parts m → Tokenizes StringValue text m (front ++ 13 ∷ more)
string_again _ _ _ front rest more e (strings.IsString.empty m n) =
    record { front = 34 ∷ 34 ∷ []; written = refl; again = string _ _ [] (strings.IsString.empty _ (kept_end (λ c. c == 34) front rest more m e refl n)) }
string_again _ _ _ front rest more e (strings.IsString.characters text n m part parts is are) =
    let first = character_again text part n is in
    let others = characters_again n parts (34 ∷ m) are in
    record {
      front = 34 ∷ first.front ++ (others.front ++ 34 ∷ []);
      written = ap (λ l. 34 ∷ l) (first.written ∙ ap (λ l. first.front ++ l) others.written ∙ together first.front others.front m);
      again =
          subst (λ l. IsToken StringValue (34 ∷ l) (front ++ 13 ∷ more)) (together first.front others.front (front ++ 13 ∷ more))
          (string _ _ (part ∷ parts) (strings.IsString.characters _ (others.front ++ 34 ∷ (front ++ 13 ∷ more)) _ part parts (first.again (others.front ++ 34 ∷ (front ++ 13 ∷ more)))
          (others.again (34 ∷ (front ++ 13 ∷ more)))));
    } where
      together : (a b m : List ℕ) → a ++ (b ++ 34 ∷ m) ≡ (a ++ (b ++ 34 ∷ [])) ++ m
      together a b m = ap (λ l. a ++ l) (sym (append_assoc b (34 ∷ []) m)) ∙ sym (append_assoc a (b ++ 34 ∷ []) m)

block_string_again : (text m raw m2 : List ℕ) → strings.IsBlockString text raw m → Tokenizes BlockString text m m2
block_string_again _ _ _ m2 (strings.IsBlockString.block text raw m are) =
    let b = block_again text raw (34 ∷ 34 ∷ 34 ∷ m) m refl are in
    record {
      front = 34 ∷ 34 ∷ 34 ∷ (b.front ++ 34 ∷ 34 ∷ 34 ∷ []);
      written = ap (λ l. 34 ∷ 34 ∷ 34 ∷ l) (b.written ∙ sym (append_assoc b.front (34 ∷ 34 ∷ 34 ∷ []) m));
      again =
          subst (λ l. IsToken BlockString (34 ∷ 34 ∷ 34 ∷ l) m2) (sym (append_assoc b.front (34 ∷ 34 ∷ 34 ∷ []) m2))
          (block_string _ m2 raw (strings.IsBlockString.block _ raw m2 (b.again m2)));
    }

token_again : (kind : TokenKind) (text m front rest more : List ℕ) → m ≡ front ++ rest → IsToken kind text m → Tokenizes kind text m (front ++ 13 ∷ more)
token_again _ _ _ front rest more e (sign c kind m is) = record { front = c ∷ []; written = refl; again = sign c kind _ is }
token_again _ _ _ front rest more e (spread m) = record { front = 46 ∷ 46 ∷ 46 ∷ []; written = refl; again = spread _ }
token_again _ _ _ front rest more e (name text spelling m written is ends) =
    record { front = spelling; written = written; again = name _ spelling _ refl is (kept_end continues_name front rest more m e refl ends) }
token_again _ _ _ front rest more e (integer text spelling m written is ends) =
    record { front = spelling; written = written; again = integer _ spelling _ refl is (kept_end goes_on_number front rest more m e refl ends) }
token_again _ _ _ front rest more e (float text spelling m written is ends) =
    record { front = spelling; written = written; again = float _ spelling _ refl is (kept_end goes_on_number front rest more m e refl ends) }
token_again _ _ _ front rest more e (string text m parts is) = string_again text parts m front rest more e is
token_again _ _ _ front rest more e (block_string text m raw is) = block_string_again text m raw (front ++ 13 ∷ more) is

-- the tokens, in a text that is longer or shorter by what is behind them
pub record LexesAgain (total : ℕ) (text : List ℕ) (tokens : List Token) (rest others : List ℕ) : Type 0 where
  pub front : List ℕ
  pub written : text ≡ front ++ rest
  pub lexes : Lexes total (front ++ others) tokens others

pub lexes_again : (total size : ℕ) (text : List ℕ) (tokens : List Token) (rest more : List ℕ) → Lexes total text tokens rest → length text ≤ total →
    size + length rest ≡ total + length (13 ∷ more) → LexesAgain size text tokens rest (13 ∷ more)
lexes_again total size _ _ _ more (nothing rest) within same = record { front = []; written = refl; lexes = nothing (13 ∷ more) }
lexes_again total size _ _ _ more (ignored text m rest tokens is are) within same =
    let first = ignores_again text m [] m more refl is in
    let others = lexes_again total size m tokens rest more are (omega (arith, within, ap length first.written, length-append first.front m)) same in
    let again = ignores_again text m others.front rest more others.written is in
    record {
      front = again.front ++ others.front;
      written = again.written ∙ ap (λ l. again.front ++ l) others.written ∙ sym (append_assoc again.front others.front rest);
      lexes = subst (λ l. Lexes size l tokens (13 ∷ more)) (sym (append_assoc again.front others.front (13 ∷ more))) (ignored _ _ (13 ∷ more) tokens again.again others.lexes);
    }
lexes_again total size _ _ _ more (token kind text m rest tokens is are) within same =
    let first = token_again kind text m [] m more refl is in
    let others = lexes_again total size m tokens rest more are (omega (arith, within, ap length first.written, length-append first.front m)) same in
    let again = token_again kind text m others.front rest more others.written is in
    record {
      front = again.front ++ others.front;
      written = again.written ∙ ap (λ l. again.front ++ l) others.written ∙ sym (append_assoc again.front others.front rest);
      lexes =
          subst (λ l. Lexes size l (token_between total kind text m ∷ tokens) (13 ∷ more)) (sym (append_assoc again.front others.front (13 ∷ more)))
          (subst (λ t. Lexes size (again.front ++ (others.front ++ 13 ∷ more)) (t ∷ tokens) (13 ∷ more)) (between again.front others.front again.written others.written)
          (token kind _ (others.front ++ 13 ∷ more) (13 ∷ more) tokens again.again others.lexes));
    } where
      at : (starts ends begins stops : ℕ) → starts ≡ begins → ends ≡ stops → ◌≡◌ {A = Token} (record { kind = kind; start = starts; end = ends }) (record { kind = kind; start = begins; end = stops })
      at starts ends begins stops a b = ap (λ n. let t : Token = record { kind = kind; start = n; end = ends } in t) a ∙ ap (λ n. let t : Token = record { kind = kind; start = begins; end = n } in t) b

      between : (a b : List ℕ) → text ≡ a ++ m → m ≡ b ++ rest →
          token_between size kind (a ++ (b ++ 13 ∷ more)) (b ++ 13 ∷ more) ≡ token_between total kind text m
      between a b whole part =
          at _ _ _ _
          (omega (arith, within, same, ap length whole, ap length part, length-append a m, length-append b rest, length-append a (b ++ 13 ∷ more), length-append b (13 ∷ more)))
          (omega (arith, within, same, ap length whole, ap length part, length-append a m, length-append b rest, length-append b (13 ∷ more)))
