-- A reader answers by the tokens that it reads and the one behind them; between them brackets are
-- balanced, and it refuses as too deep only where more are open than may be.
use Rattle.std.proofs.Common.{◌≡◌, ℕ, zero, suc, ◌+◌, ◌-◌, ◌<◌, ◌≤◌, Bool, true, false, ◌⊎◌, inl, inr, List, [], ◌∷◌, ◌++◌, length, take, if◌then◌else◌, Option, None, Some, Result, Ok, Err, refl, sym, subst, ◌∙◌, ap, arith}
use Rattle.std.proofs.lemmas.List.{append_assoc, length-append}
use Rattle.graphql_nodes.specs.declared.spans.SourceSpan.{SourceSpan}
use Rattle.graphql_tokens.specs.declared.token.Token.{Token}
use Rattle.graphql_tokens.specs.declared.token.TokenKind.{TokenKind}
use Rattle.graphql_tokens.specs.declared.token.TokenKind.TheVariants.{Name, LeftBracket, RightBracket, LeftBrace, RightBrace, StringValue, BlockString}
use Rattle.std.specs.Str.{bytes_eq}
use Rattle.graphql_tokens.proofs.ScanLemmas.{both_pass}
use Rattle.graphql_syntax.specs.Keywords.{keyword_text}
use Rattle.graphql_syntax.specs.declared.keywords.Keyword.{Keyword}
use Rattle.graphql_syntax.specs.declared.refusals.Expected.{Expected}
use Rattle.graphql_syntax.specs.declared.refusals.Refusal.{Refusal}
use Rattle.graphql_syntax.specs.declared.refusals.Refusal.TheVariants.{OutOfMemory, Unexpected, TooDeep}
use Rattle.graphql_syntax.specs.Depths.{is_opening, is_closing, how_many, OpensTooDeep}
use Rattle.graphql_syntax.specs.Inputs.{same_kind, Input, TokenTest, is_kind, is_keyword, is_string, first_passes, next_passes, behind_first, behind, first_start, start_of, first_text, next_text, text_of, span_from, TakesOne}
use Rattle.graphql_syntax.specs.Reading.{Reader, answer, refuse, sequence, choose, starting, place}
use Rattle.graphql_syntax.proofs.ReaderLemmas.{sequence_ok, sequence_read, sequence_err, sequence_fails, choose_ok, choose_err, choose_first, choose_second, answer_ok, sequence_fails_behind}
use Rattle.graphql_syntax.proofs.AsciiLemmas.{one_of}

-- others in place of the last so many tokens
abbrev pub with_others : ℕ → List Token → List Token → List Token
with_others last others tokens = take (length tokens - last) tokens ++ others

abbrev pub changed : ℕ → List Token → Input → Input
changed last others i = record { file_id = i.file_id; source = i.source; tokens = with_others last others i.tokens; ended = i.ended }

-- so many tokens are left where it refuses
abbrev pub RefusedAt : ℕ → Refusal → Type 0
RefusedAt left OutOfMemory = ⊥
RefusedAt left (Unexpected n wanted) = n ≡ left
RefusedAt left (TooDeep n) = n ≡ left

abbrev pub one_level_less : ℕ → Option ℕ
one_level_less zero = None
one_level_less (suc room) = Some room

-- how many brackets and braces more may open behind a token, and behind tokens, where no more opened than may
abbrev pub level_behind : ℕ → TokenKind → Option ℕ
level_behind room kind = if is_opening kind then one_level_less room else Some (if is_closing kind then suc room else room)

abbrev pub levels_left : ℕ → List Token → Option ℕ
levels_left room [] = Some room
levels_left room (t ∷ rest) = elim (level_behind room t.kind) [ None ↦ None | Some behind ↦ levels_left behind rest ]

abbrev pub Refuses : {A : Type 0} → Result A Refusal → Type 0
Refuses r = (f : Refusal) × (r ≡ Err f)

-- j is behind i, and between them brackets are balanced and no more opens than may
pub record Steps (depth : ℕ) (i j : Input) : Type 0 where
  pub front : List Token
  pub split : i.tokens ≡ front ++ j.tokens
  pub balanced : how_many is_opening front ≡ how_many is_closing front
  pub levels : levels_left depth front ≡ Some depth

-- no more opens than may before the last so many tokens
pub record Reaches (depth : ℕ) (tokens : List Token) (left : ℕ) : Type 0 where
  pub front : List Token
  pub rest : List Token
  pub split : tokens ≡ front ++ rest
  pub place : length rest ≡ left
  pub room : ℕ
  pub levels : levels_left depth front ≡ Some room

-- it answers by what it reads and the token behind that
pub record Near {A : Type 0} (p : Reader A) : Type 0 where
  pub less : (i : Input) (r : A × Input) → p i ≡ Ok r → length r.1.tokens ≤ length i.tokens
  pub kept : (last : ℕ) (others : List Token) (i : Input) (r : A × Input) → p i ≡ Ok r → last < length r.1.tokens →
      p (changed last others i) ≡ Ok (r.0, changed last others r.1)
  pub lost : (last : ℕ) (others : List Token) (i : Input) (wanted : Expected) → p i ≡ Err (Unexpected (suc last) wanted) →
      (last < length i.tokens) × Refuses (p (changed last others i))

pub record Local {A : Type 0} (depth : ℕ) (p : Reader A) : Type 0 where
  pub near : Near p
  pub steps : (i : Input) (r : A × Input) → p i ≡ Ok r → Steps depth i r.1
  pub deep : (i : Input) (left : ℕ) → p i ≡ Err (TooDeep left) → OpensTooDeep depth i.tokens left
  pub reaches : (i : Input) (f : Refusal) (left : ℕ) → p i ≡ Err f → RefusedAt left f → Reaches depth i.tokens left

-- fewer tokens are left behind it
abbrev pub Moves : {A : Type 0} → Reader A → Type 0
Moves {A} p = (i : Input) (r : A × Input) → p i ≡ Ok r → length r.1.tokens < length i.tokens

pub steps_length : (depth : ℕ) (i j : Input) → Steps depth i j → length j.tokens ≤ length i.tokens
steps_length depth i j s = omega (arith, ap length s.split, length-append s.front j.tokens)

pub how_many_append : (test : TokenKind → Bool) (a b : List Token) → how_many test (a ++ b) ≡ how_many test a + how_many test b
how_many_append test [] b = omega arith
how_many_append test (t ∷ rest) b = omega (arith, how_many_append test rest b)

-- behind tokens that are together
pub levels_append : (room : ℕ) (a b : List Token) (behind : ℕ) → levels_left room a ≡ Some behind → levels_left room (a ++ b) ≡ levels_left behind b
levels_append room [] b behind e = let same : room ≡ behind = cc in ap (λ n. levels_left n b) same
levels_append room (t ∷ a) b behind e = by (level_behind room t.kind) (λ n h. levels_append n a b behind h) e where
  by : (o : Option ℕ) → ((n : ℕ) → levels_left n a ≡ Some behind → levels_left n (a ++ b) ≡ levels_left behind b) →
      elim o [ None ↦ None | Some n ↦ levels_left n a ] ≡ Some behind → elim o [ None ↦ None | Some n ↦ levels_left n (a ++ b) ] ≡ levels_left behind b
  by None again e = absurd (let h : ⊥ = cc in h)
  by (Some n) again e = again n e

-- behind one token
level_first : (room : ℕ) (t : Token) (rest : List Token) (behind : ℕ) → level_behind room t.kind ≡ Some behind → levels_left room (t ∷ rest) ≡ levels_left behind rest
level_first room t rest behind e = ap (λ o. elim o [ None ↦ None | Some n ↦ levels_left n rest ]) e

pub levels_plain : (room : ℕ) (t : Token) (rest : List Token) → is_opening t.kind ≡ false → is_closing t.kind ≡ false → levels_left room (t ∷ rest) ≡ levels_left room rest
levels_plain room t rest a b = level_first room t rest room (by t.kind a b) where
  by : (kind : TokenKind) → is_opening kind ≡ false → is_closing kind ≡ false → level_behind room kind ≡ Some room
  by kind a b = rw (a, b) refl

pub levels_opening : (room : ℕ) (t : Token) (rest : List Token) → is_opening t.kind ≡ true → levels_left (suc room) (t ∷ rest) ≡ levels_left room rest
levels_opening room t rest a = level_first (suc room) t rest room (by t.kind a) where
  by : (kind : TokenKind) → is_opening kind ≡ true → level_behind (suc room) kind ≡ Some room
  by kind a = rw a refl

pub levels_closing : (room : ℕ) (t : Token) (rest : List Token) → is_opening t.kind ≡ false → is_closing t.kind ≡ true → levels_left room (t ∷ rest) ≡ levels_left (suc room) rest
levels_closing room t rest a b = level_first room t rest (suc room) (by t.kind a b) where
  by : (kind : TokenKind) → is_opening kind ≡ false → is_closing kind ≡ true → level_behind room kind ≡ Some (suc room)
  by kind a b = rw (a, b) refl

steps_none : (depth : ℕ) (i : Input) → Steps depth i i
steps_none depth i = record { front = []; split = refl; balanced = refl; levels = refl }

pub steps_both : (depth : ℕ) (i m j : Input) → Steps depth i m → Steps depth m j → Steps depth i j
steps_both depth i m j s t = record {
  levels = levels_append depth s.front t.front depth s.levels ∙ t.levels;
  front = s.front ++ t.front;
  split = s.split ∙ ap (λ l. s.front ++ l) t.split ∙ sym (append_assoc s.front t.front j.tokens);
  balanced =
      omega (
        arith,
        s.balanced,
        t.balanced,
        how_many_append is_opening s.front t.front,
        how_many_append is_closing s.front t.front,
      );
}

-- where the first token is refused
pub reaches_here : (depth : ℕ) (i : Input) (left : ℕ) → length i.tokens ≡ left → Reaches depth i.tokens left
reaches_here depth i left n = record { front = []; rest = i.tokens; split = refl; place = n; room = depth; levels = refl }

pub reaches_unexpected : (depth : ℕ) (i : Input) (wanted : Expected) (f : Refusal) (left : ℕ) → f ≡ Unexpected (length i.tokens) wanted → RefusedAt left f → Reaches depth i.tokens left
reaches_unexpected depth i wanted f left e at = reaches_here depth i left (subst (RefusedAt left) e at)

-- and where one behind is
pub reaches_behind : (depth : ℕ) (i m : Input) (left : ℕ) → Steps depth i m → Reaches depth m.tokens left → Reaches depth i.tokens left
reaches_behind depth i m left s d = record {
  front = s.front ++ d.front;
  rest = d.rest;
  split = s.split ∙ ap (λ l. s.front ++ l) d.split ∙ sym (append_assoc s.front d.front d.rest);
  place = d.place;
  room = d.room;
  levels = levels_append depth s.front d.front depth s.levels ∙ d.levels;
}

pub deep_behind : (depth : ℕ) (i m : Input) (left : ℕ) → Steps depth i m → OpensTooDeep depth m.tokens left → OpensTooDeep depth i.tokens left
deep_behind depth i m left s d = record {
  before = s.front ++ d.before;
  opening = d.opening;
  after = d.after;
  all = s.split ∙ ap (λ l. s.front ++ l) d.all ∙ sym (append_assoc s.front d.before (d.opening ∷ d.after));
  place = d.place;
  opens = d.opens;
  as_many =
      omega (
        arith,
        s.balanced,
        d.as_many,
        how_many_append is_opening s.front d.before,
        how_many_append is_closing s.front d.before,
      );
}

-- the changed input, behind a token that stays
with_first : (last : ℕ) (others : List Token) (t : Token) (rest : List Token) → last ≤ length rest →
    with_others last others (t ∷ rest) ≡ t ∷ with_others last others rest
with_first last others t rest h = let e : suc (length rest) - last ≡ suc (length rest - last) = omega arith in rw e refl

pub same_next : (last : ℕ) (others : List Token) (test : TokenTest) (i : Input) → last < length i.tokens → next_passes test (changed last others i) ≡ next_passes test i
unfolding next_passes
same_next last others test i h = by i.tokens h where
  by : (tokens : List Token) → last < length tokens → first_passes test i.source (with_others last others tokens) ≡ first_passes test i.source tokens
  by [] h = absurd (omega arith)
  by (t ∷ rest) h = rw (with_first last others t rest (omega arith)) refl

pub same_behind : (last : ℕ) (others : List Token) (i : Input) → last < length i.tokens → behind (changed last others i) ≡ changed last others (behind i)
unfolding behind
same_behind last others i h = by i.tokens h where
  by : (tokens : List Token) → last < length tokens →
      behind_first (changed last others i) (with_others last others tokens) ≡ changed last others (behind_first i tokens)
  by [] h = absurd (omega arith)
  by (t ∷ rest) h = rw (with_first last others t rest (omega arith)) refl

pub same_start : (last : ℕ) (others : List Token) (i : Input) → last < length i.tokens → start_of (changed last others i) ≡ start_of i
unfolding start_of
same_start last others i h = by i.tokens h where
  by : (tokens : List Token) → last < length tokens → first_start i.ended (with_others last others tokens) ≡ first_start i.ended tokens
  by [] h = absurd (omega arith)
  by (t ∷ rest) h = rw (with_first last others t rest (omega arith)) refl

pub same_text : (last : ℕ) (others : List Token) (i : Input) → last < length i.tokens → next_text (changed last others i) ≡ next_text i
unfolding next_text
same_text last others i h = by i.tokens h where
  by : (tokens : List Token) → last < length tokens → first_text i.source (with_others last others tokens) ≡ first_text i.source tokens
  by [] h = absurd (omega arith)
  by (t ∷ rest) h = rw (with_first last others t rest (omega arith)) refl

-- a token that passes is there
pub one_less : (test : TokenTest) (i : Input) → next_passes test i ≡ true → length i.tokens ≡ suc (length (behind i).tokens)
unfolding next_passes behind
one_less test i e = by i.tokens e where
  by : (tokens : List Token) → first_passes test i.source tokens ≡ true → length tokens ≡ suc (length (behind_first i tokens).tokens)
  by [] e = absurd (let b : ⊥ = cc in b)
  by (t ∷ rest) e = refl

pub takes_less : (test : TokenTest) (i j : Input) → TakesOne test i j → length i.tokens ≡ suc (length j.tokens)
takes_less test i j is = let same = is.then_behind in let seen = is.comes in rw same (one_less test i seen)

-- tokens that pass are neither brackets nor braces
abbrev pub IsPlain : TokenTest → Type 0
IsPlain test = (source : List ℕ) (t : Token) → test source t ≡ true → (is_opening t.kind ≡ false) × (is_closing t.kind ≡ false)

pub steps_one : (depth : ℕ) (test : TokenTest) → IsPlain test → (i : Input) → next_passes test i ≡ true → Steps depth i (behind i)
unfolding next_passes behind
steps_one depth test plain i e = by i.tokens refl e where
  by : (tokens : List Token) → i.tokens ≡ tokens → first_passes test i.source tokens ≡ true → Steps depth i (behind_first i tokens)
  by [] s e = absurd (let b : ⊥ = cc in b)
  by (t ∷ rest) s e =
      let p = plain i.source t e in
      record { front = t ∷ []; split = s; balanced = rw (p.0, p.1) refl; levels = levels_plain depth t [] p.0 p.1 }

same_plain : (found kind : TokenKind) → is_opening kind ≡ false → is_closing kind ≡ false → same_kind found kind ≡ true → (is_opening found ≡ false) × (is_closing found ≡ false)
unfolding same_kind
same_plain LeftBracket LeftBracket a b e = absurd (let h : ⊥ = cc in h)
same_plain LeftBracket _ a b e = absurd (let h : ⊥ = cc in h)
same_plain LeftBrace LeftBrace a b e = absurd (let h : ⊥ = cc in h)
same_plain LeftBrace _ a b e = absurd (let h : ⊥ = cc in h)
same_plain RightBracket RightBracket a b e = absurd (let h : ⊥ = cc in h)
same_plain RightBracket _ a b e = absurd (let h : ⊥ = cc in h)
same_plain RightBrace RightBrace a b e = absurd (let h : ⊥ = cc in h)
same_plain RightBrace _ a b e = absurd (let h : ⊥ = cc in h)
same_plain _ _ a b e = (refl, refl)

pub kind_is_plain : (kind : TokenKind) → is_opening kind ≡ false → is_closing kind ≡ false → IsPlain (is_kind kind)
kind_is_plain kind a b source t e = same_plain t.kind kind a b e

keyword_kind : (keyword : Keyword) (source : List ℕ) (t : Token) → is_keyword keyword source t ≡ true → same_kind t.kind Name ≡ true
keyword_kind keyword source t e = (both_pass (same_kind t.kind Name) (bytes_eq (text_of source t) (keyword_text keyword)) e).0

pub keyword_is_plain : (keyword : Keyword) → IsPlain (is_keyword keyword)
keyword_is_plain keyword source t e = same_plain t.kind Name refl refl (keyword_kind keyword source t e)

pub string_is_plain : IsPlain is_string
string_is_plain source t e = elim (one_of (same_kind t.kind StringValue) (same_kind t.kind BlockString) e) [
  | inl h ↦ same_plain t.kind StringValue refl refl h
  | inr h ↦ same_plain t.kind BlockString refl refl h
]

-- nothing is read
pub local_answer : {A : Type 0} (depth : ℕ) (x : A) → Local depth (answer x)
unfolding answer
local_answer {A} depth x = record {
  near = record {
    less = λ i r e. let same : (x, i) ≡ r = cc in subst (λ (p : A × Input). length p.1.tokens ≤ length i.tokens) same (omega arith);
    kept = λ last others i r e h. let same : (x, i) ≡ r = cc in ap (λ (p : A × Input). let q : Result (A × Input) Refusal = Ok (p.0, changed last others p.1) in q) same;
    lost = λ last others i wanted e. absurd (let b : ⊥ = cc in b);
  };
  steps = λ i r e. subst (λ j. Steps depth i j) (answer_ok x i r e).1 (steps_none depth i);
  deep = λ i left e. absurd (let b : ⊥ = cc in b);
  reaches = λ i f left e at. absurd (let b : ⊥ = cc in b);
}

pub local_place : (depth : ℕ) (start : ℕ) → Local depth (place start)
unfolding place
local_place depth start = record {
  near = record {
    less = λ i r e. let same : (span_from start i, i) ≡ r = cc in subst (λ (p : SourceSpan × Input). length p.1.tokens ≤ length i.tokens) same (omega arith);
    kept = λ last others i r e h. let same : (span_from start i, i) ≡ r = cc in ap (λ (p : SourceSpan × Input). let q : Result (SourceSpan × Input) Refusal = Ok (p.0, changed last others p.1) in q) same;
    lost = λ last others i wanted e. absurd (let b : ⊥ = cc in b);
  };
  steps = λ i r e. let same : (span_from start i, i) ≡ r = cc in subst (λ (p : SourceSpan × Input). Steps depth i p.1) same (steps_none depth i);
  deep = λ i left e. absurd (let b : ⊥ = cc in b);
  reaches = λ i f left e at. absurd (let b : ⊥ = cc in b);
}

pub local_refuse : {A : Type 0} (depth : ℕ) (wanted : Expected) → Local {A = A} depth (refuse wanted)
unfolding refuse
local_refuse {A} depth wanted = record {
  near = record {
    less = λ i r e. absurd (let b : ⊥ = cc in b);
    kept = λ last others i r e h. absurd (let b : ⊥ = cc in b);
    lost = λ last others i other e. (let n : length i.tokens ≡ suc last = cc in omega arith, (Unexpected (length (changed last others i).tokens) wanted, refl));
  };
  steps = λ i r e. absurd (let b : ⊥ = cc in b);
  deep = λ i left e. absurd (let b : ⊥ = cc in b);
  reaches = λ i f left e at. let same : f ≡ Unexpected (length i.tokens) wanted = cc in reaches_unexpected depth i wanted f left same at;
}

-- one reader, and then the other
pub near_sequence : {A B : Type 0} (p : Reader A) (q : A → Reader B) → Near p → ((x : A) → Near (q x)) → Near (sequence p q)
near_sequence {A} {B} p q f g = record {
  less = λ i r e. let (m, em, e1) = sequence_ok p q i r e in omega (arith, f.less i m em, (g m.0).less m.1 r e1);
  kept = λ last others i r e h.
      let (m, em, e1) = sequence_ok p q i r e in
      let less : length r.1.tokens ≤ length m.1.tokens = (g m.0).less m.1 r e1 in
      sequence_read p q (changed last others i) m.0 (changed last others m.1) (r.0, changed last others r.1)
      (f.kept last others i m em (omega arith)) ((g m.0).kept last others m.1 r e1 h);
  lost = λ last others i wanted e. lost last others i wanted (sequence_err p q i (Unexpected (suc last) wanted) e);
} where
  lost : (last : ℕ) (others : List Token) (i : Input) (wanted : Expected) →
      (p i ≡ Err (Unexpected (suc last) wanted)) ⊎ ((found : A × Input) × (p i ≡ Ok found) × (q found.0 found.1 ≡ Err (Unexpected (suc last) wanted))) →
      (last < length i.tokens) × Refuses (sequence p q (changed last others i))
  lost last others i wanted (inl e) =
      let (there, (x, k)) = f.lost last others i wanted e in (there, (x, sequence_fails p q (changed last others i) x k))
  lost last others i wanted (inr (m, em, e)) =
      let (there, (x, k)) = (g m.0).lost last others m.1 wanted e in
      let less = f.less i m em in
      (omega arith, (x, sequence_fails_behind p q (changed last others i) m.0 (changed last others m.1) x (f.kept last others i m em there) k))

pub local_sequence : {A B : Type 0} (depth : ℕ) (p : Reader A) (q : A → Reader B) → Local depth p → ((x : A) → Local depth (q x)) → Local depth (sequence p q)
local_sequence {A} {B} depth p q f g = record {
  near = near_sequence p q f.near (λ x. (g x).near);
  steps = λ i r e. let (m, em, e1) = sequence_ok p q i r e in steps_both depth i m.1 r.1 (f.steps i m em) ((g m.0).steps m.1 r e1);
  deep = λ i left e. deep i left (sequence_err p q i (TooDeep left) e);
  reaches = λ i r left e at. elim (sequence_err p q i r e) [
    | inl h ↦ f.reaches i r left h at
    | inr h ↦ reaches_behind depth i h.0.1 left (f.steps i h.0 h.1) ((g h.0.0).reaches h.0.1 r left h.2 at)
  ];
} where
  deep : (i : Input) (left : ℕ) →
      (p i ≡ Err (TooDeep left)) ⊎ ((found : A × Input) × (p i ≡ Ok found) × (q found.0 found.1 ≡ Err (TooDeep left))) → OpensTooDeep depth i.tokens left
  deep i left (inl e) = f.deep i left e
  deep i left (inr (m, em, e)) = deep_behind depth i m.1 left (f.steps i m em) ((g m.0).deep m.1 left e)

-- one reader or the other
pub near_choose : {A : Type 0} (test : TokenTest) (p q : Reader A) → Near p → Near q → Near (choose test p q)
near_choose {A} test p q f g = record {
  less = λ i r e. elim (choose_ok test p q i r e) [ inl h ↦ f.less i r h.1 | inr h ↦ g.less i r h.1 ];
  kept = λ last others i r e h. kept last others i r h (choose_ok test p q i r e);
  lost = λ last others i wanted e. lost last others i wanted (choose_err test p q i (Unexpected (suc last) wanted) e);
} where
  kept : (last : ℕ) (others : List Token) (i : Input) (r : A × Input) → last < length r.1.tokens →
      ((next_passes test i ≡ true) × (p i ≡ Ok r)) ⊎ ((next_passes test i ≡ false) × (q i ≡ Ok r)) →
      choose test p q (changed last others i) ≡ Ok (r.0, changed last others r.1)
  kept last others i r h (inl (s, e)) =
      let less = f.less i r e in
      choose_first test p q (changed last others i) (same_next last others test i (omega arith) ∙ s) ∙ f.kept last others i r e h
  kept last others i r h (inr (s, e)) =
      let less = g.less i r e in
      choose_second test p q (changed last others i) (same_next last others test i (omega arith) ∙ s) ∙ g.kept last others i r e h

  lost : (last : ℕ) (others : List Token) (i : Input) (wanted : Expected) →
      ((next_passes test i ≡ true) × (p i ≡ Err (Unexpected (suc last) wanted))) ⊎ ((next_passes test i ≡ false) × (q i ≡ Err (Unexpected (suc last) wanted))) →
      (last < length i.tokens) × Refuses (choose test p q (changed last others i))
  lost last others i wanted (inl (s, e)) =
      let (there, (x, k)) = f.lost last others i wanted e in
      (there, (x, choose_first test p q (changed last others i) (same_next last others test i there ∙ s) ∙ k))
  lost last others i wanted (inr (s, e)) =
      let (there, (x, k)) = g.lost last others i wanted e in
      (there, (x, choose_second test p q (changed last others i) (same_next last others test i there ∙ s) ∙ k))

pub local_choose : {A : Type 0} (depth : ℕ) (test : TokenTest) (p q : Reader A) → Local depth p → Local depth q → Local depth (choose test p q)
local_choose {A} depth test p q f g = record {
  near = near_choose test p q f.near g.near;
  steps = λ i r e. elim (choose_ok test p q i r e) [ inl h ↦ f.steps i r h.1 | inr h ↦ g.steps i r h.1 ];
  deep = λ i left e. elim (choose_err test p q i (TooDeep left) e) [ inl h ↦ f.deep i left h.1 | inr h ↦ g.deep i left h.1 ];
  reaches = λ i r left e at. elim (choose_err test p q i r e) [ inl h ↦ f.reaches i r left h.1 at | inr h ↦ g.reaches i r left h.1 at ];
}

-- a reader that knows where it began
pub near_starting : {A : Type 0} (f : ℕ → Reader A) → ((start : ℕ) → Near (f start)) → Near (starting f)
unfolding starting
near_starting {A} f g = record {
  less = λ i r e. (g (start_of i)).less i r e;
  kept = λ last others i r e h.
      let less = (g (start_of i)).less i r e in
      rw (same_start last others i (omega arith)) ((g (start_of i)).kept last others i r e h);
  lost = λ last others i wanted e.
      let (there, failed) = (g (start_of i)).lost last others i wanted e in
      (there, rw (same_start last others i there) failed);
}

pub local_starting : {A : Type 0} (depth : ℕ) (f : ℕ → Reader A) → ((start : ℕ) → Local depth (f start)) → Local depth (starting f)
unfolding starting
local_starting {A} depth f g = record {
  near = near_starting f (λ start. (g start).near);
  steps = λ i r e. (g (start_of i)).steps i r e;
  deep = λ i left e. (g (start_of i)).deep i left e;
  reaches = λ i r left e at. (g (start_of i)).reaches i r left e at;
}
