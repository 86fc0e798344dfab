-- The text of the token that comes next is one of its kind.
use Rattle.std.proofs.Common.{◌≡◌, ◌≤◌, arith, ℕ, Bool, true, List, [], ◌∷◌, length, drop, nat_le, refl, Contains, ◌&&◌}
use Rattle.std.specs.List.{list_all}
use Rattle.std.specs.Char.{is_ascii}
use Rattle.std.proofs.lemmas.List.Elements.{Contains-append_left, Contains-append_right, Contains-push}
use Rattle.std.proofs.lemmas.Bool.Decides.{nat_tests}
use Rattle.graphql_nodes.specs.Names.{is_name}
use Rattle.graphql_numbers.specs.Numbers.{is_integer, IsFloat}
use Rattle.graphql_tokens.specs.declared.token.Token.{Token}
use Rattle.graphql_tokens.specs.declared.token.TokenKind.{TokenKind}
use Rattle.graphql_tokens.specs.declared.token.TokenKind.TheVariants.{Name, IntValue, FloatValue}
use Rattle.graphql_tokens.proofs.ScanLemmas.{both_pass}
use Rattle.graphql_syntax.specs.Inputs.{behind, behind_first, same_kind, Input, is_kind, first_passes, next_passes, next_text, first_text, text_of, spells, is_spelled, are_spelled, AreFloats}

-- kinds
name_spells : (kind : TokenKind) (text : List ℕ) → same_kind kind Name ≡ true → spells kind text ≡ true → is_name text ≡ true
unfolding same_kind
name_spells Name text q s = s
name_spells _ text q s = absurd (let b : ⊥ = cc in b)

integer_spells : (kind : TokenKind) (text : List ℕ) → same_kind kind IntValue ≡ true → spells kind text ≡ true → is_integer text ≡ true
unfolding same_kind
integer_spells IntValue text q s = s
integer_spells _ text q s = absurd (let b : ⊥ = cc in b)

float_spells : (kind : TokenKind) (text : List ℕ) → same_kind kind FloatValue ≡ true → spells kind text ≡ true → list_all is_ascii text ≡ true
unfolding same_kind
float_spells FloatValue text q s = s
float_spells _ text q s = absurd (let b : ⊥ = cc in b)

-- the text of the first token, by its kind
spelled_first : (test : ℕ → Bool) (source : List ℕ) (t : Token) (rest : List Token) → are_spelled source (t ∷ rest) ≡ true → spells t.kind (text_of source t) ≡ true
spelled_first test source t rest s =
    let h = both_pass (is_spelled source t) (are_spelled source rest) s in
    let k = both_pass (nat_le t.start t.end && nat_le t.end (length source)) (spells t.kind (text_of source t)) h.0 in k.1

first_name : (source : List ℕ) (tokens : List Token) → are_spelled source tokens ≡ true → first_passes (is_kind Name) source tokens ≡ true → is_name (first_text source tokens) ≡ true
first_name source [] s e = absurd (let b : ⊥ = cc in b)
first_name source (t ∷ rest) s e = name_spells t.kind (text_of source t) e (spelled_first (λ c. true) source t rest s)

pub next_is_name : (i : Input) → are_spelled i.source i.tokens ≡ true → next_passes (is_kind Name) i ≡ true → is_name (next_text i) ≡ true
unfolding next_passes next_text
next_is_name i s e = first_name i.source i.tokens s e

first_integer : (source : List ℕ) (tokens : List Token) → are_spelled source tokens ≡ true → first_passes (is_kind IntValue) source tokens ≡ true → is_integer (first_text source tokens) ≡ true
first_integer source [] s e = absurd (let b : ⊥ = cc in b)
first_integer source (t ∷ rest) s e = integer_spells t.kind (text_of source t) e (spelled_first (λ c. true) source t rest s)

pub next_is_integer : (i : Input) → are_spelled i.source i.tokens ≡ true → next_passes (is_kind IntValue) i ≡ true → is_integer (next_text i) ≡ true
unfolding next_passes next_text
next_is_integer i s e = first_integer i.source i.tokens s e

first_float_ascii : (source : List ℕ) (tokens : List Token) → are_spelled source tokens ≡ true → first_passes (is_kind FloatValue) source tokens ≡ true → list_all is_ascii (first_text source tokens) ≡ true
first_float_ascii source [] s e = absurd (let b : ⊥ = cc in b)
first_float_ascii source (t ∷ rest) s e = float_spells t.kind (text_of source t) e (spelled_first (λ c. true) source t rest s)

pub next_float_ascii : (i : Input) → are_spelled i.source i.tokens ≡ true → next_passes (is_kind FloatValue) i ≡ true → list_all is_ascii (next_text i) ≡ true
unfolding next_passes next_text
next_float_ascii i s e = first_float_ascii i.source i.tokens s e

first_is_here : (t : Token) (rest : List Token) → Contains (t ∷ rest) t
first_is_here t rest = Contains-append_left (t ∷ []) rest t (Contains-push [] t)

first_float : (source : List ℕ) (tokens : List Token) → AreFloats source tokens → first_passes (is_kind FloatValue) source tokens ≡ true → (IsFloat (first_text source tokens) → ⊥) → ⊥
first_float source [] s e none = let b : ⊥ = cc in b
first_float source (t ∷ rest) s e none = s t (first_is_here t rest) e none

pub next_is_float : (i : Input) → AreFloats i.source i.tokens → next_passes (is_kind FloatValue) i ≡ true → (IsFloat (next_text i) → ⊥) → ⊥
unfolding next_passes next_text
next_is_float i s e none = first_float i.source i.tokens s e none

-- what holds of all tokens holds of those behind the first
pub floats_behind : (source : List ℕ) (t : Token) (rest : List Token) → AreFloats source (t ∷ rest) → AreFloats source rest
floats_behind source t rest s = λ x is kind none. s x (Contains-append_right (t ∷ []) rest x is) kind none

pub spelled_behind : (source : List ℕ) (t : Token) (rest : List Token) → are_spelled source (t ∷ rest) ≡ true → are_spelled source rest ≡ true
spelled_behind source t rest s = (both_pass (is_spelled source t) (are_spelled source rest) s).1

-- one token less is left behind the next one
pub tokens_behind : (i : Input) → (behind i).tokens ≡ drop 1 i.tokens
unfolding behind
tokens_behind i = by i i.tokens refl where
  by : (i : Input) (tokens : List Token) → i.tokens ≡ tokens → (behind_first i tokens).tokens ≡ drop 1 tokens
  by i [] e = e
  by i (t ∷ rest) e = refl

pub first_within : (source : List ℕ) (t : Token) (rest : List Token) → are_spelled source (t ∷ rest) ≡ true → t.end ≤ length source
first_within source t rest s =
    let h = both_pass (is_spelled source t) (are_spelled source rest) s in
    let k = both_pass (nat_le t.start t.end && nat_le t.end (length source)) (spells t.kind (text_of source t)) h.0 in
    let l = both_pass (nat_le t.start t.end) (nat_le t.end (length source)) k.0 in
    grind (arith, nat_tests)
