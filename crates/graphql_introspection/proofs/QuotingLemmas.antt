-- String characters that stand for texts, and the strings that are made of them.
use Rattle.std.proofs.Common.{◌≡◌, ℕ, ◌+◌, ◌-◌, ◌*◌, ◌/◌, ◌%◌, ◌<◌, ◌≤◌, Bool, true, false, ◌&&◌, cond, if◌then◌else◌, List, [], ◌∷◌, ◌++◌, flat_map, Option, Some, option_and_then, Result, Ok, Err, is_ok, OnOk, IsUtf8, encode_utf8, encode_utf8_all, refl, sym, subst, ◌∙◌, ap, ap₂, append_assoc, append-nil, arith}
use Rattle.std.proofs.lemmas.Grind.{flat_map-append}
use Rattle.std.proofs.lemmas.Bool.Decides.{nat_tests}
use Rattle.std.proofs.lemmas.Str.{encode_ascii, encodes-append}
use Rattle.std.specs.List.{list_all}
use lib.Utf8.{encode, next}
use Rattle.graphql_tokens.specs.Strings.{hex_digit, hex_value, is_scalar_value, escaped_character, is_string_byte, four_digits, IsStringCharacter, plain, unicode, escaped, AreStringCharacters, none, more, empty, characters}
use Rattle.graphql_tokens.specs.declared.strings.StringPart.{StringPart}
use Rattle.graphql_tokens.specs.declared.strings.StringPart.TheVariants.{Byte, Escaped}
use Rattle.graphql_tokens.proofs.ScanLemmas.{both_pass}
use Rattle.graphql_strings.specs.Values.{part_value, StandsFor, string, HasStringValue}
use Rattle.graphql_introspection.specs.Quoting.{Spells, AppendsCharacters, AppendsString}

characters_more : (t : List ℕ) (ps : List StringPart) (m : List ℕ) (qs : List StringPart) (r : List ℕ) →
    AreStringCharacters t ps m → AreStringCharacters m qs r → AreStringCharacters t (ps ++ qs) r
characters_more _ _ _ qs r (none rest) b = b
characters_more _ _ _ qs r (more text middle rest part parts one others) b =
    more text middle r part (parts ++ qs) one (characters_more middle parts rest qs r others b)

pub spells_none : Spells [] []
spells_none = record { parts = []; are = λ rest. none rest; stand = refl }

pub spells_more : (a b v w : List ℕ) → Spells a v → Spells b w → Spells (a ++ b) (v ++ w)
spells_more a b v w s t = record {
  parts = s.parts ++ t.parts;
  are = λ rest. subst (λ (l : List ℕ). AreStringCharacters l (s.parts ++ t.parts) rest) (sym (append_assoc a b rest))
      (characters_more (a ++ (b ++ rest)) s.parts (b ++ rest) t.parts rest (s.are (b ++ rest)) (t.are rest));
  stand = flat_map-append part_value s.parts t.parts ∙ ap₂ (λ (x y : List ℕ). x ++ y) s.stand t.stand;
}

spells_one : (w v : List ℕ) (part : StringPart) → ((rest : List ℕ) → IsStringCharacter (w ++ rest) part rest) → part_value part ≡ v → Spells w v
spells_one w v part is e = record {
  parts = part ∷ [];
  are = λ rest. more (w ++ rest) rest rest part [] (is rest) (none rest);
  stand = append-nil (part_value part) ∙ e;
}

pub spells_escape : (e c : ℕ) → escaped_character e ≡ Some c → Spells (92 ∷ e ∷ []) (encode_utf8 c)
spells_escape e c is = spells_one (92 ∷ e ∷ []) (encode_utf8 c) (Escaped c) (λ rest. escaped e c rest is) refl

spells_code : (a b x d code : ℕ) → hex_value (a ∷ b ∷ x ∷ d ∷ []) ≡ Some code → is_scalar_value code ≡ true → Spells (92 ∷ 117 ∷ a ∷ b ∷ x ∷ d ∷ []) (encode_utf8 code)
spells_code a b x d code value is =
    spells_one (92 ∷ 117 ∷ a ∷ b ∷ x ∷ d ∷ []) (encode_utf8 code) (Escaped code) (λ rest. unicode (a ∷ b ∷ x ∷ d ∷ rest) code rest (four_digits a b x d code rest value is)) refl

both : (a b : Bool) → a ≡ true → b ≡ true → (a && b) ≡ true
both true b e f = f
both false b e f = e

spells_bytes : (bs : List ℕ) → list_all is_string_byte bs ≡ true → Spells bs bs
spells_bytes [] e = spells_none
spells_bytes (c ∷ cs) e =
    let (here, behind) = both_pass (is_string_byte c) (list_all is_string_byte cs) e in
    spells_more (c ∷ []) cs (c ∷ []) cs (spells_one (c ∷ []) (c ∷ []) (Byte c) (λ rest. plain c rest here) refl) (spells_bytes cs behind)

high_byte : (x : ℕ) → 128 ≤ x → is_string_byte x ≡ true
high_byte x h = grind (arith, nat_tests)

ArePlain : List ℕ → Type 0
ArePlain bytes = list_all is_string_byte bytes ≡ true

one_plain : (x : ℕ) (xs : List ℕ) → is_string_byte x ≡ true → ArePlain xs → ArePlain (x ∷ xs)
unfolding ArePlain
one_plain x xs e f = both (is_string_byte x) (list_all is_string_byte xs) e f

none_plain : ArePlain []
unfolding ArePlain
none_plain = refl

lead_byte : (n x : ℕ) → 128 ≤ n → is_string_byte (n + x) ≡ true
lead_byte n x h = high_byte (n + x) (omega arith)

one_next : (c : ℕ) (xs : List ℕ) → ArePlain xs → ArePlain (next c ∷ xs)
one_next c xs f = one_plain (next c) xs (lead_byte 128 (c % 64) (omega arith)) f

either_plain : (b : Bool) (xs ys : List ℕ) → ArePlain xs → ArePlain ys → ArePlain (cond b xs ys)
either_plain true xs ys e f = e
either_plain false xs ys e f = f

two_bytes : (c : ℕ) → ArePlain ((192 + c / 64) ∷ next c ∷ [])
two_bytes c = one_plain (192 + c / 64) (next c ∷ []) (lead_byte 192 (c / 64) (omega arith)) (one_next c [] none_plain)

three_bytes : (c : ℕ) → ArePlain ((224 + c / 4096) ∷ next (c / 64) ∷ next c ∷ [])
three_bytes c =
    one_plain (224 + c / 4096) (next (c / 64) ∷ next c ∷ []) (lead_byte 224 (c / 4096) (omega arith)) (one_next (c / 64) (next c ∷ []) (one_next c [] none_plain))

four_bytes : (c : ℕ) → ArePlain ((240 + c / 262144) ∷ next (c / 4096) ∷ next (c / 64) ∷ next c ∷ [])
four_bytes c =
    one_plain (240 + c / 262144) (next (c / 4096) ∷ next (c / 64) ∷ next c ∷ []) (lead_byte 240 (c / 262144) (omega arith))
    (one_next (c / 4096) (next (c / 64) ∷ next c ∷ []) (one_next (c / 64) (next c ∷ []) (one_next c [] none_plain)))

-- the bytes of a character are as plain as the character
plain_bytes : (c : ℕ) → is_string_byte c ≡ true → ArePlain (encode_utf8 c)
unfolding encode
plain_bytes c is =
    either_plain _ (c ∷ []) _ (one_plain c [] is none_plain)
    (either_plain _ ((192 + c / 64) ∷ next c ∷ []) _ (two_bytes c)
    (either_plain _ ((224 + c / 4096) ∷ next (c / 64) ∷ next c ∷ []) ((240 + c / 262144) ∷ next (c / 4096) ∷ next (c / 64) ∷ next c ∷ []) (three_bytes c) (four_bytes c)))

pub spells_itself : (c : ℕ) → is_string_byte c ≡ true → Spells (encode_utf8 c) (encode_utf8 c)
unfolding ArePlain
spells_itself c is = spells_bytes (encode_utf8 c) (plain_bytes c is)

-- escapes of control characters
low_value : (d n : ℕ) → hex_digit d ≡ Some n → hex_value (48 ∷ 48 ∷ 48 ∷ d ∷ []) ≡ Some n
low_value d n e = ap (option_and_then (λ (x : ℕ). Some (16 * 0 + x))) e ∙ ap Some (omega arith)

high_value : (d n : ℕ) → hex_digit d ≡ Some n → hex_value (48 ∷ 48 ∷ 49 ∷ d ∷ []) ≡ Some (16 + n)
high_value d n e = ap (option_and_then (λ (x : ℕ). Some (16 * 1 + x))) e ∙ ap Some (omega arith)

small_scalar : (c : ℕ) → c < 32 → is_scalar_value c ≡ true
small_scalar c h = grind (arith, nat_tests)

control_added : (old mid new : List ℕ) (h d c : ℕ) → mid ≡ old ++ (92 ∷ 117 ∷ 48 ∷ 48 ∷ h ∷ []) → new ≡ mid ++ encode_utf8 d → d < 128 →
    hex_value (48 ∷ 48 ∷ h ∷ d ∷ []) ≡ Some c → c < 32 → AppendsCharacters old (encode_utf8 c) new
control_added old mid new h d c e f small value low =
    (92 ∷ 117 ∷ 48 ∷ 48 ∷ h ∷ d ∷ [], f ∙ (ap₂ (λ (x y : List ℕ). x ++ y) e (encode_ascii d small) ∙ append_assoc old (92 ∷ 117 ∷ 48 ∷ 48 ∷ h ∷ []) (d ∷ [])), spells_code 48 48 h d c value (small_scalar c low))

pub low_added : {T E : Type 0} (r : Result T E) (old mid new : List ℕ) (d c : ℕ) → mid ≡ old ++ (92 ∷ 117 ∷ 48 ∷ 48 ∷ 48 ∷ []) →
    new ≡ (if is_ok r then mid ++ encode_utf8 d else mid) → d < 128 → hex_digit d ≡ Some c → c < 32 → OnOk r (AppendsCharacters old (encode_utf8 c) new)
low_added (Ok t) old mid new d c e f small digit low = control_added old mid new 48 d c e f small (low_value d c digit) low
low_added (Err x) old mid new d c e f small digit low = tt

pub high_added : {T E : Type 0} (r : Result T E) (old mid new : List ℕ) (d c : ℕ) → mid ≡ old ++ (92 ∷ 117 ∷ 48 ∷ 48 ∷ 49 ∷ []) →
    new ≡ (if is_ok r then mid ++ encode_utf8 d else mid) → d < 128 → hex_digit d ≡ Some (c - 16) → 16 ≤ c → c < 32 → OnOk r (AppendsCharacters old (encode_utf8 c) new)
high_added (Ok t) old mid new d c e f small digit high low =
    control_added old mid new 49 d c e f small (high_value d (c - 16) digit ∙ ap Some (omega arith)) low
high_added (Err x) old mid new d c e f small digit high low = tt

-- what one call adds
pub added : {T E : Type 0} (r : Result T E) (old w new value : List ℕ) → new ≡ (if is_ok r then old ++ w else old) → Spells w value → OnOk r (AppendsCharacters old value new)
added (Ok t) old w new value e s = (w, e, s)
added (Err x) old w new value e s = tt

pub escape_added : {T E : Type 0} (r : Result T E) (old new : List ℕ) (e code c : ℕ) → new ≡ (if is_ok r then old ++ 92 ∷ e ∷ [] else old) →
    escaped_character e ≡ Some code → c ≡ code → OnOk r (AppendsCharacters old (encode_utf8 c) new)
escape_added r old new e code c is escapes same =
    added r old (92 ∷ e ∷ []) new (encode_utf8 c) is (subst (λ (x : ℕ). Spells (92 ∷ e ∷ []) (encode_utf8 x)) (sym same) (spells_escape e code escapes))

-- what is added after what was added
pub added_more : (old mid new v w : List ℕ) → AppendsCharacters old v mid → AppendsCharacters mid w new → AppendsCharacters old (v ++ w) new
added_more old mid new v w s t =
    (s.0 ++ t.0, t.1 ∙ (ap (λ (l : List ℕ). l ++ t.0) s.1 ∙ append_assoc old s.0 t.0), spells_more s.0 t.0 v w s.2 t.2)

pub one_more : (old mid new cs : List ℕ) (c : ℕ) → AppendsCharacters old (encode_utf8_all cs) mid → AppendsCharacters mid (encode_utf8 c) new → AppendsCharacters old (encode_utf8_all (cs ++ c ∷ [])) new
one_more old mid new cs c s t =
    subst (λ (v : List ℕ). AppendsCharacters old v new) (sym (encodes-append cs (c ∷ []) ∙ ap (λ (l : List ℕ). encode_utf8_all cs ++ l) (append-nil (encode_utf8 c)))) (added_more old mid new (encode_utf8_all cs) (encode_utf8 c) s t)

string_ends : (t : List ℕ) (parts : List StringPart) (r v : List ℕ) → AreStringCharacters t parts r → flat_map part_value parts ≡ v → r ≡ 34 ∷ [] → StandsFor (34 ∷ t) v
string_ends _ _ _ v (none rest) e is =
    subst (λ (l : List ℕ). StandsFor (34 ∷ l) v) (sym is) (subst (StandsFor (34 ∷ 34 ∷ [])) e (string (34 ∷ 34 ∷ []) [] (empty [] refl)))
string_ends _ _ _ v (more text middle rest part parts one others) e is =
    subst (StandsFor (34 ∷ text)) e (string (34 ∷ text) (part ∷ parts) (characters text middle [] part parts one (subst (AreStringCharacters middle parts) is others)))

-- string characters between quotes are a string
pub string_added : {T E : Type 0} (r : Result T E) (old mid new v : List ℕ) → AppendsCharacters (old ++ 34 ∷ []) v mid →
    new ≡ (if is_ok r then mid ++ 34 ∷ [] else mid) → IsUtf8 v → OnOk r (AppendsString old v new)
string_added (Err x) old mid new v s f u = tt
string_added (Ok t) old mid new v s f u =
    let (w, is, spells) = s in (
      34 ∷ (w ++ 34 ∷ []),
      f ∙ (ap (λ (l : List ℕ). l ++ 34 ∷ []) is ∙ (append_assoc (old ++ 34 ∷ []) w (34 ∷ []) ∙ append_assoc old (34 ∷ []) (w ++ 34 ∷ []))),
      record { stands = string_ends (w ++ 34 ∷ []) spells.parts (34 ∷ []) v (spells.are (34 ∷ [])) spells.stand refl; utf8 = u },
    )
