-- Readers whose refused tokens can be completed: one token, and what adds something.
use Rattle.std.proofs.Common.{◌≡◌, ℕ, ◌<◌, ◌≤◌, true, false, not, ◌&&◌, ◌||◌, ◌⊎◌, inl, inr, List, [], ◌∷◌, ◌++◌, length, Option, Some, None, Ok, Err, refl, sym, subst, ◌∙◌, ap, arith, codes}
use Rattle.std.specs.Str.{bytes_eq}
use Rattle.graphql_tokens.specs.declared.token.Token.{Token}
use Rattle.graphql_tokens.specs.declared.token.TokenKind.{TokenKind}
use Rattle.graphql_tokens.specs.declared.token.TokenKind.TheVariants.{Name, StringValue, BlockString}
use Rattle.graphql_syntax.specs.declared.keywords.Keyword.{Keyword}
use Rattle.graphql_syntax.specs.Keywords.{keyword_text}
use Rattle.graphql_syntax.specs.declared.refusals.Expected.{Expected}
use Rattle.graphql_syntax.specs.declared.refusals.Expected.TheVariants as expected
use Rattle.graphql_syntax.specs.declared.refusals.Refusal.{Refusal}
use Rattle.graphql_syntax.specs.declared.refusals.Refusal.TheVariants.{Unexpected, TooDeep}
use Rattle.graphql_syntax.specs.Inputs.{same_kind, Input, TokenTest, is_kind, is_keyword, is_string, next_passes, behind, start_of, next_text, text_of, between, first_text, behind_first, TakesOne}
use Rattle.graphql_syntax.specs.Reading.{Reader, refuse, too_deep, sequence, choose, starting, take_one, expect, expect_keyword, text_with, name_at, name_here}
use Rattle.graphql_syntax.proofs.Locality.{RefusedAt, takes_less}
use Rattle.graphql_syntax.proofs.TokenLocality.{text_with_err, text_with_fails, name_err, name_fails}
use Rattle.graphql_syntax.proofs.ReaderLemmas.{sequence_fails, choose_ok, choose_err, take_one_ok, take_one_read, take_one_err, take_one_fails, text_with_ok, text_with_read, name_ok, name_read}
use Rattle.graphql_completions.proofs.Likeness.{View, Shown, Word, Spells, Like, next_like, start_like, text_like, behind_like, source_behind}
use Rattle.graphql_completions.proofs.Completions.{Inner, Goes}
use Rattle.graphql_completions.proofs.Choices.{next_shows, inner_starting}

-- tests of the kind, of the text of a name, and of strings
abbrev pub kind_view : TokenKind → View
kind_view kind = λ found text. same_kind found kind

abbrev pub keyword_view : Keyword → View
keyword_view keyword = λ found text. same_kind found Name && bytes_eq text (keyword_text keyword)

abbrev pub string_view : View
string_view = λ found text. same_kind found StringValue || same_kind found BlockString

abbrev pub until_view : TokenKind → View
until_view kind = λ found text. not (same_kind found kind)

pub kind_shown : (kind : TokenKind) → Shown (kind_view kind) (is_kind kind)
kind_shown kind = record { same = λ source t. refl }

pub keyword_shown : (keyword : Keyword) → Shown (keyword_view keyword) (is_keyword keyword)
keyword_shown keyword = record { same = λ source t. refl }

pub string_shown : Shown string_view is_string
string_shown = record { same = λ source t. refl }

pub until_shown : (kind : TokenKind) → Shown (until_view kind) (λ source t. not (is_kind kind source t))
until_shown kind = record { same = λ source t. refl }

-- the token of one word
one_word : (w : Word) (k : Input) (tokens s : List Token) → k.tokens ≡ tokens ++ s → Spells k.source tokens (w ∷ []) →
    (t : Token) × (k.tokens ≡ t ∷ s) × (t.kind ≡ w.0) × (text_of k.source t ≡ w.1)
one_word w k [] s e spells = absurd spells
one_word w k (t ∷ []) s e spells = (t, e, spells.0, spells.1)
one_word w k (t ∷ u ∷ tokens) s e spells = absurd spells.2

behind_one : (k : Input) (t : Token) (s : List Token) → k.tokens ≡ t ∷ s → (behind k).tokens ≡ s
unfolding behind
behind_one k t s e = ap (λ l. (behind_first k l).tokens) e

text_one : (k : Input) (t : Token) (s : List Token) → k.tokens ≡ t ∷ s → next_text k ≡ text_of k.source t
unfolding next_text
text_one k t s e = ap (first_text k.source) e

-- the next token is the word, and what is behind it
pub record OneRead (view : View) (test : TokenTest) (w : Word) (k : Input) (s : List Token) : Type 0 where
  pub takes : TakesOne test k (behind k)
  pub rest : (behind k).tokens ≡ s
  pub text : next_text k ≡ w.1

pub one_read : (view : View) (test : TokenTest) → Shown view test → (w : Word) → view w.0 w.1 ≡ true → (k : Input) (tokens s : List Token) → k.tokens ≡ tokens ++ s →
    Spells k.source tokens (w ∷ []) → OneRead view test w k s
one_read view test shown w e k tokens s same spells =
    let (t, first, kind, text) = one_word w k tokens s same spells in
    record {
      takes = record {
        comes = next_shows view test shown k (t ∷ s) first ∙ ap (λ a. view a (text_of k.source t)) kind ∙ ap (view w.0) text ∙ e;
        then_behind = refl;
      };
      rest = behind_one k t s first;
      text = text_one k t s first ∙ text;
    }

-- what is taken is taken there too
pub takes_again : (view : View) (test : TokenTest) → Shown view test → (i k j : Input) (r s : List Token) → TakesOne test i j → Like r s i k → length r ≤ length j.tokens →
    TakesOne test k (behind k) × Like r s j (behind k)
takes_again view test shown i k j r s is like n =
    let less = takes_less test i j is in
    let seen = is.comes in (
      record { comes = next_like view test shown r s i k like (omega arith) ∙ seen; then_behind = refl },
      subst (λ x. Like r s x (behind k)) (sym is.then_behind) (behind_like r s i k like (omega arith)),
    )

pub goes_take : {view : View} {test : TokenTest} (w : Word) (wanted : Expected) → Shown view test → view w.0 w.1 ≡ true → Goes [] (w ∷ []) (take_one test wanted) (take_one test wanted)
goes_take {view} {test} w wanted shown good = record {
  inner = record {
    less = λ i found e. let less = takes_less test i found.1 (take_one_ok test wanted i found e) in omega arith;
    moves = λ m i found e. let less = takes_less test i found.1 (take_one_ok test wanted i found e) in omega arith;
    within = λ i f left e at. at_here i f left (take_one_err test wanted i f e).1 at;
    again = λ i k r s found e like n stop.
        let (takes, behind_it) = takes_again view test shown i k found.1 r s (take_one_ok test wanted i found e) like n in
        record { end = behind k; reads = take_one_read test wanted k (behind k) takes; like = behind_it; source = source_behind k };
    lost = λ i k r s last other e like n.
        let (unseen, which) = take_one_err test wanted i (Unexpected last other) e in
        let m : length i.tokens ≡ last = cc in
        (Unexpected (length k.tokens) wanted, take_one_fails test wanted k (next_like view test shown r s i k like (omega arith) ∙ unseen));
    completes = λ i f left e at n. let m = at_first i f left (take_one_err test wanted i f e).1 at in absurd (omega arith);
  };
  starts = λ k tokens s same spells stop.
      let one = one_read view test shown w good k tokens s same spells in
      record { found = (tt, behind k); reads = take_one_read test wanted k (behind k) one.takes; rest = one.rest; source = source_behind k };
} where
  at_first : (i : Input) (f : Refusal) (left : ℕ) → f ≡ Unexpected (length i.tokens) wanted → RefusedAt left f → length i.tokens ≡ left
  at_first i f left same at = subst (RefusedAt left) same at

  at_here : (i : Input) (f : Refusal) (left : ℕ) → f ≡ Unexpected (length i.tokens) wanted → RefusedAt left f → left ≤ length i.tokens
  at_here i f left same at = let m : length i.tokens ≡ left = subst (RefusedAt left) same at in omega arith

-- a punctuator of one character, and a keyword
abbrev pub sign : TokenKind → ℕ → Word
sign kind c = (kind, c ∷ [])

abbrev pub keyword_word : Keyword → Word
keyword_word keyword = (Name, keyword_text keyword)

pub goes_sign : (kind : TokenKind) (c : ℕ) → same_kind kind kind ≡ true → Goes [] (sign kind c ∷ []) (expect kind) (expect kind)
goes_sign kind c same = goes_take (sign kind c) (expected.Token kind) (kind_shown kind) same

pub goes_keyword : (keyword : Keyword) → keyword_view keyword Name (keyword_text keyword) ≡ true → Goes [] (keyword_word keyword ∷ []) (expect_keyword keyword) (expect_keyword keyword)
goes_keyword keyword same = goes_take (keyword_word keyword) (expected.Keyword keyword) (keyword_shown keyword) same

pub inner_text : {A : Type 0} {view : View} {test : TokenTest} (value : List ℕ → Option A) (wanted : Expected) → Shown view test →
    Inner [] true (text_with test value wanted) (text_with test value wanted)
inner_text {A} {view} {test} value wanted shown = record {
  less = λ i found e. let less = takes_less test i found.1 (text_with_ok test value wanted i found e).0 in omega arith;
  moves = λ m i found e. let less = takes_less test i found.1 (text_with_ok test value wanted i found e).0 in omega arith;
  within = λ i f left e at. at_here i f left (text_with_err test value wanted i f e).1 at;
  again = λ i k r s found e like n stop.
      let (is, same) = text_with_ok test value wanted i found e in
      let less = takes_less test i found.1 is in
      let (takes, behind_it) = takes_again view test shown i k found.1 r s is like n in
      record {
        end = behind k;
        reads = text_with_read test value wanted k (behind k) found.0 takes (ap value (text_like r s i k like (omega arith)) ∙ same);
        like = behind_it;
        source = source_behind k;
      };
  lost = λ i k r s last other e like n.
      let (why, which) = text_with_err test value wanted i (Unexpected last other) e in
      let m : length i.tokens ≡ last = cc in
      (Unexpected (length k.tokens) wanted, text_with_fails test value wanted k (still i k r s like (omega arith) why));
  completes = λ i f left e at n. let m = at_first i f left (text_with_err test value wanted i f e).1 at in absurd (omega arith);
} where
  at_first : (i : Input) (f : Refusal) (left : ℕ) → f ≡ Unexpected (length i.tokens) wanted → RefusedAt left f → length i.tokens ≡ left
  at_first i f left same at = subst (RefusedAt left) same at

  at_here : (i : Input) (f : Refusal) (left : ℕ) → f ≡ Unexpected (length i.tokens) wanted → RefusedAt left f → left ≤ length i.tokens
  at_here i f left same at = let m : length i.tokens ≡ left = subst (RefusedAt left) same at in omega arith

  still : (i k : Input) (r s : List Token) → Like r s i k → length r < length i.tokens → (next_passes test i ≡ false) ⊎ (value (next_text i) ≡ None) →
      (next_passes test k ≡ false) ⊎ (value (next_text k) ≡ None)
  still i k r s like n (inl t) = inl (next_like view test shown r s i k like n ∙ t)
  still i k r s like n (inr t) = inr (ap value (text_like r s i k like n) ∙ t)

pub goes_text : {A : Type 0} {view : View} {test : TokenTest} (w : Word) (value : List ℕ → Option A) (wanted : Expected) (x : A) → Shown view test → view w.0 w.1 ≡ true → value w.1 ≡ Some x →
    Goes [] (w ∷ []) (text_with test value wanted) (text_with test value wanted)
goes_text {A} {view} {test} w value wanted x shown good valued = record {
  inner = inner_text value wanted shown;
  starts = λ k tokens s same spells stop.
      let one = one_read view test shown w good k tokens s same spells in
      record { found = (x, behind k); reads = text_with_read test value wanted k (behind k) x one.takes (ap value one.text ∙ valued); rest = one.rest; source = source_behind k };
}

-- a name
abbrev pub name_word : Word
name_word = (Name, codes "a")

is_name : same_kind Name Name ≡ true
unfolding same_kind
is_name = refl

pub goes_name : Goes [] (name_word ∷ []) name_at name_at
goes_name = record {
  inner = record {
    less = λ i found e. let less = takes_less (is_kind Name) i found.1 (name_ok i found e).takes in omega arith;
    moves = λ m i found e. let less = takes_less (is_kind Name) i found.1 (name_ok i found e).takes in omega arith;
    within = λ i f left e at. at_here i f left (name_err i f e).1 at;
    again = λ i k r s found e like n stop.
        let is = name_ok i found e in
        let takes_it = is.takes in
        let less = takes_less (is_kind Name) i found.1 takes_it in
        let (takes, behind_it) = takes_again (kind_view Name) (is_kind Name) (kind_shown Name) i k found.1 r s takes_it like n in
        let file = behind_it.file_id in
        let end = behind_it.ended in
        record {
          end = behind k;
          reads = name_read k found.0 (behind k) (record {
            takes = takes;
            text = is.text ∙ sym (text_like r s i k like (omega arith));
            location = is.location ∙ ap Some (spans i k found.1 (start_like r s i k like (omega arith)) file end);
          });
          like = behind_it;
          source = source_behind k;
        };
    lost = λ i k r s last other e like n.
        let (unseen, which) = name_err i (Unexpected last other) e in
        let m : length i.tokens ≡ last = cc in
        (Unexpected (length k.tokens) (expected.Token Name), name_fails k (next_like (kind_view Name) (is_kind Name) (kind_shown Name) r s i k like (omega arith) ∙ unseen));
    completes = λ i f left e at n. let m = at_first i f left (name_err i f e).1 at in absurd (omega arith);
  };
  starts = λ k tokens s same spells stop.
      let one = one_read (kind_view Name) (is_kind Name) (kind_shown Name) name_word is_name k tokens s same spells in
      record { found = (name_here k, behind k); reads = name_read k (name_here k) (behind k) (record { takes = one.takes; text = refl; location = refl }); rest = one.rest; source = source_behind k };
} where
  at_first : (i : Input) (f : Refusal) (left : ℕ) → f ≡ Unexpected (length i.tokens) (expected.Token Name) → RefusedAt left f → length i.tokens ≡ left
  at_first i f left same at = subst (RefusedAt left) same at

  at_here : (i : Input) (f : Refusal) (left : ℕ) → f ≡ Unexpected (length i.tokens) (expected.Token Name) → RefusedAt left f → left ≤ length i.tokens
  at_here i f left same at = let m : length i.tokens ≡ left = subst (RefusedAt left) same at in omega arith

  spans : (i k j : Input) → start_of k ≡ start_of i → (behind k).file_id ≡ j.file_id → (behind k).ended ≡ j.ended → between i j ≡ between k (behind k)
  spans i k j a b c = rw (a, b, c) refl

-- at no level an opening bracket is too deep, and else is refused as where it is expected
pub inner_from_nothing : {B : Type 0} (views : List View) (kind : TokenKind) (q : Unit {0} → Reader B) →
    Inner views true (choose (is_kind kind) too_deep (refuse (expected.Token kind))) (sequence (expect kind) q)
unfolding choose too_deep refuse
inner_from_nothing {B} views kind q = record {
  less = λ i found e. absurd (never i found e);
  moves = λ m i found e. absurd (never i found e);
  within = λ i f left e at. let m = at_first i f left e at in omega arith;
  again = λ i k r s found e like n stop. absurd (never i found e);
  lost = λ i k r s last wanted e like n.
      let (unseen, m) = unexpected i last wanted e in
      (Unexpected (length k.tokens) (expected.Token kind), sequence_fails (expect kind) q k _ (take_one_fails (is_kind kind) (expected.Token kind) k (next_like (kind_view kind) (is_kind kind) (kind_shown kind) r s i k like (omega arith) ∙ unseen)));
  completes = λ i f left e at n. let m = at_first i f left e at in absurd (omega arith);
} where
  never : (i : Input) (found : B × Input) → choose (is_kind kind) too_deep (refuse (expected.Token kind)) i ≡ Ok found → ⊥
  never i found e = elim (choose_ok (is_kind kind) too_deep (refuse (expected.Token kind)) i found e) [
    | inl h ↦ let f = h.1 in let b : ⊥ = cc in b
    | inr h ↦ let f = h.1 in let b : ⊥ = cc in b
  ]

  at_first : (i : Input) (f : Refusal) (left : ℕ) → choose {A = B} (is_kind kind) too_deep (refuse (expected.Token kind)) i ≡ Err f → RefusedAt left f → length i.tokens ≡ left
  at_first i f left e at = elim (choose_err {A = B} (is_kind kind) too_deep (refuse (expected.Token kind)) i f e) [
    | inl h ↦ let g = h.1 in let same : f ≡ TooDeep (length i.tokens) = cc in subst (RefusedAt left) same at
    | inr h ↦ let g = h.1 in let same : f ≡ Unexpected (length i.tokens) (expected.Token kind) = cc in subst (RefusedAt left) same at
  ]

  unexpected : (i : Input) (last : ℕ) (wanted : Expected) → choose {A = B} (is_kind kind) too_deep (refuse (expected.Token kind)) i ≡ Err (Unexpected last wanted) →
      (next_passes (is_kind kind) i ≡ false) × (length i.tokens ≡ last)
  unexpected i last wanted e = elim (choose_err {A = B} (is_kind kind) too_deep (refuse (expected.Token kind)) i (Unexpected last wanted) e) [
    | inl h ↦ let g = h.1 in absurd (let b : ⊥ = cc in b)
    | inr h ↦ let g = h.1 in let same : length i.tokens ≡ last = cc in (h.0, same)
  ]

-- and so where one knows where it began
pub inner_from_nothing_starting : {B : Type 0} (views : List View) (kind : TokenKind) (q : ℕ → Unit {0} → Reader B) →
    Inner views true (choose (is_kind kind) too_deep (refuse (expected.Token kind))) (starting (λ start. sequence (expect kind) (q start)))
unfolding starting
inner_from_nothing_starting {B} views kind q = by (inner_starting (λ start. inner_from_nothing views kind (q start))) where
  by : Inner views true (λ i. choose (is_kind kind) too_deep (refuse (expected.Token kind)) i) (starting (λ start. sequence (expect kind) (q start))) →
      Inner views true (choose (is_kind kind) too_deep (refuse (expected.Token kind))) (starting (λ start. sequence (expect kind) (q start)))
  by one = one
