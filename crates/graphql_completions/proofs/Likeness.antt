-- Inputs that begin with the same tokens, and the words that may follow in the place of the others.
use Rattle.std.proofs.Common.{◌≡◌, ℕ, ◌<◌, ◌≤◌, Bool, true, false, not, ◌&&◌, ◌||◌, ◌==◌, Some, None, List, [], ◌∷◌, ◌++◌, length, refl, sym, subst, ◌∙◌, ap, arith}
use Rattle.graphql_tokens.specs.declared.token.Token.{Token}
use Rattle.graphql_tokens.specs.declared.token.TokenKind.{TokenKind}
use Rattle.graphql_nodes.specs.Names.{is_name}
use Rattle.graphql_tokens.specs.Lexical.{punctuator}
use Rattle.graphql_tokens.specs.declared.token.TokenKind.TheVariants.{Name, Spread}
use Rattle.graphql_tokens.proofs.ScanLemmas.{both_pass}
use Rattle.graphql_syntax.specs.Inputs.{same_kind, Input, TokenTest, first_passes, next_passes, behind_first, behind, first_start, start_of, first_text, next_text, text_of}

-- a test of the kind of a token and of its text
abbrev pub View : Type 0
View = TokenKind → List ℕ → Bool

pub record Shown (view : View) (test : TokenTest) : Type 0 where
  pub same : (source : List ℕ) (t : Token) → test source t ≡ view t.kind (text_of source t)

-- a token comes next, and passes
abbrev pub first_shows : View → List ℕ → List Token → Bool
first_shows view source [] = false
first_shows view source (t ∷ rest) = view t.kind (text_of source t)

-- the next token, if any, passes none of them
abbrev pub Stops : List View → List ℕ → List Token → Type 0
Stops [] source rest = Unit {0}
Stops (view ∷ views) source rest = (first_shows view source rest ≡ false) × Stops views source rest

-- the kind of a token that is to be written, and its text
abbrev pub Word : Type 0
Word = TokenKind × List ℕ

-- a name, or a punctuator
abbrev pub is_sign : TokenKind → List ℕ → Bool
is_sign kind [] = false
is_sign kind (c ∷ []) = elim (punctuator c) [ None ↦ false | Some found ↦ same_kind found kind ]
is_sign kind (a ∷ b ∷ []) = false
is_sign kind (a ∷ b ∷ c ∷ []) = same_kind kind Spread && (a == 46 && (b == 46 && c == 46))
is_sign kind (a ∷ b ∷ c ∷ d ∷ rest) = false

abbrev pub is_word : Word → Bool
is_word w = (same_kind w.0 Name && is_name w.1) || is_sign w.0 w.1

abbrev pub are_words : List Word → Bool
are_words [] = true
are_words (w ∷ words) = is_word w && are_words words

pub words_both : (one two : List Word) → are_words one ≡ true → are_words two ≡ true → are_words (one ++ two) ≡ true
words_both [] two a b = b
words_both (w ∷ one) two a b = let (first, rest) = both_pass (is_word w) (are_words one) a in rw (first, words_both one two rest b) refl

abbrev pub Spells : List ℕ → List Token → List Word → Type 0
Spells source [] [] = Unit {0}
Spells source [] (w ∷ words) = ⊥
Spells source (t ∷ rest) [] = ⊥
Spells source (t ∷ rest) (w ∷ words) = (t.kind ≡ w.0) × (text_of source t ≡ w.1) × Spells source rest words

abbrev pub filled : List Word → Bool
filled [] = false
filled (w ∷ words) = true

abbrev pub none_shows : List View → Word → Bool
none_shows [] w = true
none_shows (view ∷ views) w = not (view w.0 w.1) && none_shows views w

-- the first of the words passes none of the tests
abbrev pub stops_at : List View → List Word → Bool
stops_at views [] = true
stops_at views (w ∷ words) = none_shows views w

abbrev pub follow_well : List View → List Word → Bool
follow_well views words = stops_at views words && are_words words

-- what is not to follow these words, where the first tests are of what is before them and the others of what is behind
abbrev pub behind_words : List View → List Word → List View → List View
behind_words views [] others = views ++ others
behind_words views (w ∷ words) others = others

-- tokens that are the same, in their texts too, up to r, which the others have in its place
pub data Alike (source other : List ℕ) (r s : List Token) : List Token → List Token → Type 0 where
  differ : Alike source other r s r s
  share : (t : Token) (a b : List Token) → text_of source t ≡ text_of other t → Alike source other r s a b → Alike source other r s (t ∷ a) (t ∷ b)

pub record Like (r s : List Token) (i k : Input) : Type 0 where
  pub file_id : k.file_id ≡ i.file_id
  pub ended : k.ended ≡ i.ended
  pub tokens : Alike i.source k.source r s i.tokens k.tokens

pub alike_length : (source other : List ℕ) (r s a b : List Token) → Alike source other r s a b → length r ≤ length a
alike_length source other r s _ _ differ = omega arith
alike_length source other r s _ _ (share t a b e is) = omega (arith, alike_length source other r s a b is)

-- the first token is the same
pub record First (source other : List ℕ) (r s a b : List Token) : Type 0 where
  pub t : Token
  pub rest : List Token
  pub others : List Token
  pub one : a ≡ t ∷ rest
  pub two : b ≡ t ∷ others
  pub text : text_of source t ≡ text_of other t
  pub alike : Alike source other r s rest others

pub alike_first : (source other : List ℕ) (r s a b : List Token) → Alike source other r s a b → length r < length a → First source other r s a b
alike_first source other r s _ _ differ n = absurd (omega arith)
alike_first source other r s _ _ (share t a b e is) n = record { t = t; rest = a; others = b; one = refl; two = refl; text = e; alike = is }

pub alike_all : (source other : List ℕ) (r s a b : List Token) → Alike source other r s a b → length r ≡ length a → (a ≡ r) × (b ≡ s)
alike_all source other r s _ _ differ n = (refl, refl)
alike_all source other r s _ _ (share t a b e is) n = let less = alike_length source other r s a b is in absurd (omega arith)

pub next_like : (view : View) (test : TokenTest) → Shown view test → (r s : List Token) (i k : Input) → Like r s i k → length r < length i.tokens → next_passes test k ≡ next_passes test i
unfolding next_passes
next_like view test shown r s i k like n =
    let first = alike_first i.source k.source r s i.tokens k.tokens like.tokens n in
    ap (first_passes test k.source) first.two ∙ shown.same k.source first.t ∙ ap (view first.t.kind) (sym first.text) ∙ sym (shown.same i.source first.t) ∙
    ap (first_passes test i.source) (sym first.one)

pub start_like : (r s : List Token) (i k : Input) → Like r s i k → length r < length i.tokens → start_of k ≡ start_of i
unfolding start_of
start_like r s i k like n =
    let first = alike_first i.source k.source r s i.tokens k.tokens like.tokens n in
    ap (first_start k.ended) first.two ∙ ap (first_start i.ended) (sym first.one)

pub text_like : (r s : List Token) (i k : Input) → Like r s i k → length r < length i.tokens → next_text k ≡ next_text i
unfolding next_text
text_like r s i k like n =
    let first = alike_first i.source k.source r s i.tokens k.tokens like.tokens n in
    ap (first_text k.source) first.two ∙ sym first.text ∙ ap (first_text i.source) (sym first.one)

pub behind_like : (r s : List Token) (i k : Input) → Like r s i k → length r < length i.tokens → Like r s (behind i) (behind k)
unfolding behind
behind_like r s i k like n =
    let first = alike_first i.source k.source r s i.tokens k.tokens like.tokens n in
    subst (λ (a : List Token). Like r s (behind_first i a) (behind_first k k.tokens)) (sym first.one)
    (subst (λ (b : List Token). Like r s (behind_first i (first.t ∷ first.rest)) (behind_first k b)) (sym first.two)
    (record { file_id = like.file_id; ended = refl; tokens = first.alike }))

pub source_behind : (i : Input) → (behind i).source ≡ i.source
unfolding behind
source_behind i = by i.tokens where
  by : (tokens : List Token) → (behind_first i tokens).source ≡ i.source
  by [] = refl
  by (t ∷ rest) = refl

-- tests of what follows, together and apart
pub stops_first : (views others : List View) (source : List ℕ) (rest : List Token) → Stops (views ++ others) source rest → Stops views source rest
stops_first [] others source rest s = tt
stops_first (view ∷ views) others source rest s = (s.0, stops_first views others source rest s.1)

pub stops_second : (views others : List View) (source : List ℕ) (rest : List Token) → Stops (views ++ others) source rest → Stops others source rest
stops_second [] others source rest s = s
stops_second (view ∷ views) others source rest s = stops_second views others source rest s.1

pub stops_behind : (views : List View) (words : List Word) (others : List View) (source : List ℕ) (rest : List Token) →
    Stops (behind_words views words others) source rest → Stops others source rest
stops_behind views [] others source rest s = stops_second views others source rest s
stops_behind views (w ∷ words) others source rest s = s

shows_none : (views : List View) (w : Word) (source : List ℕ) (t : Token) (rest : List Token) → t.kind ≡ w.0 → text_of source t ≡ w.1 → none_shows views w ≡ true →
    Stops views source (t ∷ rest)
shows_none [] w source t rest kind text e = tt
shows_none (view ∷ views) w source t rest kind text e =
    let (first, others) = both (view w.0 w.1) (none_shows views w) e in
    (ap (λ k. view k (text_of source t)) kind ∙ ap (view w.0) text ∙ first, shows_none views w source t rest kind text others) where
      both : (a b : Bool) → (not a && b) ≡ true → (a ≡ false) × (b ≡ true)
      both false true e = (refl, refl)
      both false false e = absurd (let b : ⊥ = cc in b)
      both true b e = absurd (let b : ⊥ = cc in b)

-- what is before the words stops at them
pub stops_before : (views : List View) (words : List Word) (others : List View) (source : List ℕ) (tokens rest : List Token) → stops_at views words ≡ true →
    Spells source tokens words → Stops (behind_words views words others) source rest → Stops views source (tokens ++ rest)
stops_before views [] others source [] rest e s stop = stops_first views others source rest stop
stops_before views [] others source (t ∷ tokens) rest e s stop = absurd s
stops_before views (w ∷ words) others source [] rest e s stop = absurd s
stops_before views (w ∷ words) others source (t ∷ tokens) rest e s stop = shows_none views w source t (tokens ++ rest) s.0 s.1 e

-- the tokens of words behind one another
pub record Parted (source : List ℕ) (tokens : List Token) (one two : List Word) : Type 0 where
  pub front : List Token
  pub back : List Token
  pub all : tokens ≡ front ++ back
  pub spells_front : Spells source front one
  pub spells_back : Spells source back two

pub parted : (source : List ℕ) (tokens : List Token) (one two : List Word) → Spells source tokens (one ++ two) → Parted source tokens one two
parted source tokens [] two s = record { front = []; back = tokens; all = refl; spells_front = tt; spells_back = s }
parted source [] (w ∷ one) two s = absurd s
parted source (t ∷ tokens) (w ∷ one) two s =
    let p = parted source tokens one two s.2 in
    record { front = t ∷ p.front; back = p.back; all = ap (λ l. t ∷ l) p.all; spells_front = (s.0, s.1, p.spells_front); spells_back = p.spells_back }
