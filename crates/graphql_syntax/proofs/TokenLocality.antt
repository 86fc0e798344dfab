-- Readers of tokens, of names and of what is in brackets answer by what they read and the token behind it.
use Rattle.std.proofs.Common.{◌≡◌, ℕ, suc, Bool, true, false, cond, ◌⊎◌, inl, inr, List, [], ◌∷◌, ◌++◌, length, Ok, Err, Option, Some, None, refl, sym, subst, ◌∙◌, ap, arith}
use Rattle.std.proofs.lemmas.List.{append_assoc}
use Rattle.graphql_tokens.specs.declared.token.Token.{Token}
use Rattle.graphql_tokens.specs.declared.token.TokenKind.{TokenKind}
use Rattle.graphql_tokens.specs.declared.token.TokenKind.TheVariants.{Name}
use Rattle.graphql_tokens.proofs.ScanLemmas.{chosen}
use Rattle.graphql_syntax.specs.declared.refusals.Expected.{Expected}
use Rattle.graphql_syntax.specs.declared.refusals.Expected.TheVariants as expected
use Rattle.graphql_syntax.specs.declared.refusals.Refusal.{Refusal}
use Rattle.graphql_syntax.specs.declared.refusals.Refusal.TheVariants.{Unexpected, TooDeep}
use Rattle.graphql_syntax.specs.Depths.{is_opening, is_closing, OpensTooDeep}
use Rattle.graphql_syntax.specs.Inputs.{same_kind, Input, TokenTest, is_kind, first_passes, next_passes, behind_first, behind, next_text, span_from, TakesOne}
use Rattle.graphql_syntax.specs.Reading.{Reader, refuse, too_deep, sequence, choose, take_one, expect, value_or_refuse, text_with, name_here, name_at}
use Rattle.graphql_syntax.proofs.ReaderLemmas.{sequence_ok, sequence_err, choose_ok, choose_err, take_one_ok, take_one_read, take_one_err, take_one_fails, text_with_ok, text_with_read, name_ok, name_read, too_deep_not_ok}
use Rattle.graphql_syntax.proofs.TokenKinds.{same_kinds}
use Rattle.graphql_syntax.proofs.Locality.{IsPlain, Local, Near, Reaches, RefusedAt, Steps, changed, levels_append, levels_closing, levels_opening, reaches_behind, reaches_here, reaches_unexpected, deep_behind, how_many_append, kind_is_plain, near_choose, near_sequence, same_behind, same_next, same_start, same_text, steps_both, steps_one, takes_less}

-- one token
pub near_take_one : (test : TokenTest) (wanted : Expected) → Near (take_one test wanted)
near_take_one test wanted = record {
  less = λ i r e. let less = takes_less test i r.1 (take_one_ok test wanted i r e) in omega arith;
  kept = λ last others i r e h.
      let is = take_one_ok test wanted i r e in
      let seen = is.comes in
      let less = takes_less test i r.1 is in
      take_one_read test wanted (changed last others i) (changed last others r.1) (record {
        comes = same_next last others test i (omega arith) ∙ seen;
        then_behind = ap (changed last others) is.then_behind ∙ sym (same_behind last others i (omega arith));
      });
  lost = λ last others i other e.
      let (unseen, which) = take_one_err test wanted i (Unexpected (suc last) other) e in
      let n : length i.tokens ≡ suc last = cc in (
        omega arith,
        (
          Unexpected (length (changed last others i).tokens) wanted,
          take_one_fails test wanted (changed last others i) (same_next last others test i (omega arith) ∙ unseen),
        ),
      );
}

take_one_not_deep : (test : TokenTest) (wanted : Expected) (i : Input) (left : ℕ) → take_one test wanted i ≡ Err (TooDeep left) → ⊥
take_one_not_deep test wanted i left e = let (unseen, which) = take_one_err test wanted i (TooDeep left) e in let b : ⊥ = cc in b

pub local_take_one : (depth : ℕ) (test : TokenTest) (wanted : Expected) → IsPlain test → Local depth (take_one test wanted)
local_take_one depth test wanted plain = record {
  near = near_take_one test wanted;
  steps = λ i r e. let is = take_one_ok test wanted i r e in let seen = is.comes in let same = is.then_behind in rw same (steps_one depth test plain i seen);
  deep = λ i left e. absurd (take_one_not_deep test wanted i left e);
  reaches = λ i f left e at. reaches_unexpected depth i wanted f left (take_one_err test wanted i f e).1 at;
}

-- the text of one token
pub text_with_err : {A : Type 0} (test : TokenTest) (value : List ℕ → Option A) (wanted : Expected) (i : Input) (f : Refusal) → text_with test value wanted i ≡ Err f →
    ((next_passes test i ≡ false) ⊎ (value (next_text i) ≡ None)) × (f ≡ Unexpected (length i.tokens) wanted)
unfolding text_with refuse
text_with_err {A} test value wanted i f e = elim (chosen (next_passes test i) (value_or_refuse (value (next_text i)) wanted i) (refuse wanted i) (Err f) e) [
  | inl h ↦ by (value (next_text i)) refl h.1
  | inr h ↦ (inl h.0, let k = h.1 in cc)
] where
  by : (o : Option A) → value (next_text i) ≡ o → value_or_refuse o wanted i ≡ Err f →
      ((next_passes test i ≡ false) ⊎ (value (next_text i) ≡ None)) × (f ≡ Unexpected (length i.tokens) wanted)
  by None s e = (inr s, let same : f ≡ Unexpected (length i.tokens) wanted = cc in same)
  by (Some x) s e = absurd (let b : ⊥ = cc in b)

pub text_with_fails : {A : Type 0} (test : TokenTest) (value : List ℕ → Option A) (wanted : Expected) (i : Input) →
    (next_passes test i ≡ false) ⊎ (value (next_text i) ≡ None) → text_with test value wanted i ≡ Err (Unexpected (length i.tokens) wanted)
unfolding text_with refuse
text_with_fails {A} test value wanted i (inl s) = rw s refl
text_with_fails {A} test value wanted i (inr s) = by (next_passes test i) where
  by : (b : Bool) → cond b (value_or_refuse (value (next_text i)) wanted i) (Err (Unexpected (length i.tokens) wanted)) ≡ Err (Unexpected (length i.tokens) wanted)
  by true = rw s refl
  by false = refl

pub local_text_with : {A : Type 0} (depth : ℕ) (test : TokenTest) (value : List ℕ → Option A) (wanted : Expected) → IsPlain test → Local depth (text_with test value wanted)
local_text_with {A} depth test value wanted plain = record {
  near = record {
    less = λ i r e. let less = takes_less test i r.1 (text_with_ok test value wanted i r e).0 in omega arith;
    kept = λ last others i r e h.
        let (is, same) = text_with_ok test value wanted i r e in
        let seen = is.comes in
        let less = takes_less test i r.1 is in
        text_with_read test value wanted (changed last others i) (changed last others r.1) r.0
        (record {
          comes = same_next last others test i (omega arith) ∙ seen;
          then_behind = ap (changed last others) is.then_behind ∙ sym (same_behind last others i (omega arith));
        })
        (ap value (same_text last others i (omega arith)) ∙ same);
    lost = λ last others i other e.
        let (why, which) = text_with_err test value wanted i (Unexpected (suc last) other) e in
        let n : length i.tokens ≡ suc last = cc in
        (omega arith, (Unexpected (length (changed last others i).tokens) wanted, text_with_fails test value wanted (changed last others i) (still last others i n why)));
  };
  steps = λ i r e. let (is, same) = text_with_ok test value wanted i r e in let seen = is.comes in let there = is.then_behind in rw there (steps_one depth test plain i seen);
  deep = λ i left e. let (why, which) = text_with_err test value wanted i (TooDeep left) e in absurd (let b : ⊥ = cc in b);
  reaches = λ i f left e at. reaches_unexpected depth i wanted f left (text_with_err test value wanted i f e).1 at;
} where
  still : (last : ℕ) (others : List Token) (i : Input) → length i.tokens ≡ suc last → (next_passes test i ≡ false) ⊎ (value (next_text i) ≡ None) →
      (next_passes test (changed last others i) ≡ false) ⊎ (value (next_text (changed last others i)) ≡ None)
  still last others i n (inl s) = inl (same_next last others test i (omega arith) ∙ s)
  still last others i n (inr s) = inr (ap value (same_text last others i (omega arith)) ∙ s)

-- a name
pub name_err : (i : Input) (f : Refusal) → name_at i ≡ Err f → (next_passes (is_kind Name) i ≡ false) × (f ≡ Unexpected (length i.tokens) (expected.Token Name))
unfolding name_at refuse
name_err i f e = elim (chosen (next_passes (is_kind Name) i) (Ok (name_here i, behind i)) (refuse (expected.Token Name) i) (Err f) e) [
  | inl h ↦ absurd (let k = h.1 in let b : ⊥ = cc in b)
  | inr h ↦ (h.0, let k = h.1 in cc)
]

pub name_fails : (i : Input) → next_passes (is_kind Name) i ≡ false → name_at i ≡ Err (Unexpected (length i.tokens) (expected.Token Name))
unfolding name_at refuse
name_fails i s = rw s refl

pub local_name : (depth : ℕ) → Local depth name_at
local_name depth = record {
  near = record {
    less = λ i r e. let less = takes_less (is_kind Name) i r.1 (name_ok i r e).takes in omega arith;
    kept = λ last others i r e h.
        let is = name_ok i r e in
        let takes = is.takes in
        let seen = takes.comes in
        let less = takes_less (is_kind Name) i r.1 takes in
        name_read (changed last others i) r.0 (changed last others r.1) (record {
          takes = record {
            comes = same_next last others (is_kind Name) i (omega arith) ∙ seen;
            then_behind = ap (changed last others) takes.then_behind ∙ sym (same_behind last others i (omega arith));
          };
          text = is.text ∙ sym (same_text last others i (omega arith));
          location = is.location ∙ ap (λ s. Some (span_from s r.1)) (sym (same_start last others i (omega arith)));
        });
    lost = λ last others i other e.
        let (unseen, which) = name_err i (Unexpected (suc last) other) e in
        let n : length i.tokens ≡ suc last = cc in (
          omega arith,
          (
            Unexpected (length (changed last others i).tokens) (expected.Token Name),
            name_fails (changed last others i) (same_next last others (is_kind Name) i (omega arith) ∙ unseen),
          ),
        );
  };
  steps = λ i r e. let takes = (name_ok i r e).takes in let seen = takes.comes in let there = takes.then_behind in rw there (steps_one depth (is_kind Name) (kind_is_plain Name refl refl) i seen);
  deep = λ i left e. let (unseen, which) = name_err i (TooDeep left) e in absurd (let b : ⊥ = cc in b);
  reaches = λ i f left e at. reaches_unexpected depth i (expected.Token Name) f left (name_err i f e).1 at;
}

same_brackets : (found kind : TokenKind) → same_kind found kind ≡ true → (is_opening found ≡ is_opening kind) × (is_closing found ≡ is_closing kind)
same_brackets found kind e = let same = same_kinds found kind e in rw same (refl, refl)

-- the token that was taken, and the rest
taken : (kind : TokenKind) (i j : Input) → TakesOne (is_kind kind) i j → (t : Token) × (i.tokens ≡ t ∷ j.tokens) × (same_kind t.kind kind ≡ true)
unfolding next_passes behind
taken kind i j is = by i.tokens refl is.comes is.then_behind where
  by : (tokens : List Token) → i.tokens ≡ tokens → first_passes (is_kind kind) i.source tokens ≡ true → j ≡ behind_first i tokens →
      (t : Token) × (i.tokens ≡ t ∷ j.tokens) × (same_kind t.kind kind ≡ true)
  by [] s e f = absurd (let b : ⊥ = cc in b)
  by (t ∷ rest) s e f = (t, s ∙ ap (λ (k : Input). t ∷ k.tokens) (sym f), e)

bracketed_steps : (opening closing : TokenKind) → is_opening opening ≡ true → is_closing opening ≡ false → is_closing closing ≡ true → is_opening closing ≡ false →
    (depth : ℕ) (i m n k : Input) → TakesOne (is_kind opening) i m → Steps depth m n → TakesOne (is_kind closing) n k → Steps (suc depth) i k
bracketed_steps opening closing opens not_closes closes not_opens depth i m n k o s c =
    let (a, ea, ka) = taken opening i m o in
    let (b, eb, kb) = taken closing n k c in
    let (oa, ca) = same_brackets a.kind opening ka in
    let (ob, cb) = same_brackets b.kind closing kb in
    let first : is_opening a.kind ≡ true = oa ∙ opens in
    let first_not : is_closing a.kind ≡ false = ca ∙ not_closes in
    let last : is_closing b.kind ≡ true = cb ∙ closes in
    let last_not : is_opening b.kind ≡ false = ob ∙ not_opens in
    let balanced = s.balanced in
    record {
      front = a ∷ (s.front ++ b ∷ []);
      split = ea ∙ ap (λ l. a ∷ l) (s.split ∙ ap (λ l. s.front ++ l) eb ∙ sym (append_assoc s.front (b ∷ []) k.tokens));
      balanced =
          rw (first, first_not, how_many_append is_opening s.front (b ∷ []), how_many_append is_closing s.front (b ∷ []), last, last_not) (omega arith);
      levels = levels_opening depth a (s.front ++ b ∷ []) first ∙ levels_append depth s.front (b ∷ []) depth s.levels ∙ levels_closing depth b [] last_not last;
    }

-- what opens is a level
reaches_inside : (opening : TokenKind) → is_opening opening ≡ true → (depth : ℕ) (i m : Input) (left : ℕ) → TakesOne (is_kind opening) i m → Reaches depth m.tokens left →
    Reaches (suc depth) i.tokens left
reaches_inside opening opens depth i m left o d =
    let (a, ea, ka) = taken opening i m o in
    let first : is_opening a.kind ≡ true = (same_brackets a.kind opening ka).0 ∙ opens in
    record { front = a ∷ d.front; rest = d.rest; split = ea ∙ ap (λ l. a ∷ l) d.split; place = d.place; room = d.room; levels = levels_opening depth a d.front first ∙ d.levels }

deeper_by_one : (opening : TokenKind) → is_opening opening ≡ true → is_closing opening ≡ false → (depth : ℕ) (i m : Input) (left : ℕ) →
    TakesOne (is_kind opening) i m → OpensTooDeep depth m.tokens left → OpensTooDeep (suc depth) i.tokens left
deeper_by_one opening opens not_closes depth i m left o d =
    let (a, ea, ka) = taken opening i m o in
    let (oa, ca) = same_brackets a.kind opening ka in
    let first : is_opening a.kind ≡ true = oa ∙ opens in
    let first_not : is_closing a.kind ≡ false = ca ∙ not_closes in
    let inside = d.as_many in
    record {
      before = a ∷ d.before;
      opening = d.opening;
      after = d.after;
      all = ea ∙ ap (λ l. a ∷ l) d.all;
      place = d.place;
      opens = d.opens;
      as_many = rw (first, first_not) (omega arith);
    }

too_deep_near : {A : Type 0} → Near {A = A} too_deep
unfolding too_deep
too_deep_near = record {
  less = λ i r e. absurd (let b : ⊥ = cc in b);
  kept = λ last others i r e h. absurd (let b : ⊥ = cc in b);
  lost = λ last others i wanted e. absurd (let b : ⊥ = cc in b);
}

too_deep_place : {A : Type 0} (i : Input) (left : ℕ) → too_deep {A = A} i ≡ Err (TooDeep left) → left ≡ length i.tokens
unfolding too_deep
too_deep_place i left e = cc

-- a bracket opens, and no more may be open
opening_here : (kind : TokenKind) → is_opening kind ≡ true → (tokens : List Token) (source : List ℕ) (left : ℕ) → first_passes (is_kind kind) source tokens ≡ true → left ≡ length tokens → OpensTooDeep 0 tokens left
opening_here kind opens [] source left s n = absurd (let b : ⊥ = cc in b)
opening_here kind opens (t ∷ rest) source left s n = record {
  before = [];
  opening = t;
  after = rest;
  all = refl;
  place = n;
  opens = (same_brackets t.kind kind s).0 ∙ opens;
  as_many = refl;
}

too_deep_here : (kind : TokenKind) → is_opening kind ≡ true → (i : Input) (left : ℕ) → next_passes (is_kind kind) i ≡ true → left ≡ length i.tokens → OpensTooDeep 0 i.tokens left
unfolding next_passes
too_deep_here kind opens i left s n = opening_here kind opens i.tokens i.source left s n

deep_there : {A : Type 0} (i : Input) (f : Refusal) (left : ℕ) → too_deep {A = A} i ≡ Err f → RefusedAt left f → length i.tokens ≡ left
unfolding too_deep
deep_there i f left e at = let same : f ≡ TooDeep (length i.tokens) = cc in subst (RefusedAt left) same at

pub local_too_deep : {A : Type 0} (kind : TokenKind) (q : Reader A) → is_opening kind ≡ true → Local 0 q → Local 0 (choose (is_kind kind) too_deep q)
local_too_deep {A} kind q opens g = record {
  near = near_choose (is_kind kind) too_deep q too_deep_near g.near;
  steps = λ i r e. elim (choose_ok (is_kind kind) too_deep q i r e) [ inl h ↦ absurd (too_deep_not_ok i r h.1) | inr h ↦ g.steps i r h.1 ];
  deep = λ i left e. elim (choose_err (is_kind kind) too_deep q i (TooDeep left) e) [
    | inl h ↦ here i left h.0 (too_deep_place i left h.1)
    | inr h ↦ g.deep i left h.1
  ];
  reaches = λ i f left e at. elim (choose_err (is_kind kind) too_deep q i f e) [
    | inl h ↦ reaches_here 0 i left (deep_there i f left h.1 at)
    | inr h ↦ g.reaches i f left h.1 at
  ];
} where
  here : (i : Input) (left : ℕ) → next_passes (is_kind kind) i ≡ true → left ≡ length i.tokens → OpensTooDeep 0 i.tokens left
  here i left s n = too_deep_here kind opens i left s n

-- brackets or braces, and what is in them
pub local_bracketed : {A B : Type 0} (depth : ℕ) (opening closing : TokenKind) (inner : Reader A) (rest : A → Reader B) →
    is_opening opening ≡ true → is_closing opening ≡ false → is_closing closing ≡ true → is_opening closing ≡ false →
    Local depth inner → ((x : A) → Local (suc depth) (rest x)) →
    Local (suc depth) (sequence (expect opening) (λ o. sequence inner (λ x. sequence (expect closing) (λ c. rest x))))
local_bracketed {A} {B} depth opening closing inner rest opens not_closes closes not_opens f g = record {
  near =
      near_sequence (expect opening) _ (near_take_one (is_kind opening) (expected.Token opening)) (λ o.
      near_sequence inner _ f.near (λ x.
      near_sequence (expect closing) _ (near_take_one (is_kind closing) (expected.Token closing)) (λ c. (g x).near)));
  steps = λ i r e.
      let (m, em, e1) = sequence_ok (expect opening) _ i r e in
      let (n, en, e2) = sequence_ok inner _ m.1 r e1 in
      let (k, ek, e3) = sequence_ok (expect closing) _ n.1 r e2 in
      steps_both (suc depth) i k.1 r.1
      (around i m.1 n.1 k.1 (take_one_ok (is_kind opening) (expected.Token opening) i m em) (f.steps m.1 n en) (take_one_ok (is_kind closing) (expected.Token closing) n.1 k ek))
      ((g n.0).steps k.1 r e3);
  deep = λ i left e. elim (sequence_err (expect opening) _ i (TooDeep left) e) [
    | inl h ↦ absurd (take_one_not_deep (is_kind opening) (expected.Token opening) i left h)
    | inr h ↦ inside i h.0.1 left (take_one_ok (is_kind opening) (expected.Token opening) i h.0 h.1) h.2
  ];
  reaches = λ i r left e at. elim (sequence_err (expect opening) _ i r e) [
    | inl h ↦ reaches_unexpected (suc depth) i (expected.Token opening) r left (take_one_err (is_kind opening) (expected.Token opening) i r h).1 at
    | inr h ↦ behind_opening i h.0.1 r left (take_one_ok (is_kind opening) (expected.Token opening) i h.0 h.1) h.2 at
  ];
} where
  around : (i m n k : Input) → TakesOne (is_kind opening) i m → Steps depth m n → TakesOne (is_kind closing) n k → Steps (suc depth) i k
  around i m n k o s c = bracketed_steps opening closing opens not_closes closes not_opens depth i m n k o s c

  behind_opening : (i m : Input) (r : Refusal) (left : ℕ) → TakesOne (is_kind opening) i m → sequence inner (λ x. sequence (expect closing) (λ c. rest x)) m ≡ Err r → RefusedAt left r →
      Reaches (suc depth) i.tokens left
  behind_opening i m r left o e at = elim (sequence_err inner (λ x. sequence (expect closing) (λ c. rest x)) m r e) [
    | inl h ↦ reaches_inside opening opens depth i m left o (f.reaches m r left h at)
    | inr h ↦ elim (sequence_err (expect closing) (λ c. rest h.0.0) h.0.1 r h.2) [
      | inl k ↦
          reaches_inside opening opens depth i m left o (reaches_behind depth m h.0.1 left (f.steps m h.0 h.1)
          (reaches_unexpected depth h.0.1 (expected.Token closing) r left (take_one_err (is_kind closing) (expected.Token closing) h.0.1 r k).1 at))
      | inr k ↦
          reaches_behind (suc depth) i k.0.1 left
          (around i m h.0.1 k.0.1 o (f.steps m h.0 h.1) (take_one_ok (is_kind closing) (expected.Token closing) h.0.1 k.0 k.1))
          ((g h.0.0).reaches k.0.1 r left k.2 at)
    ]
  ]

  inside : (i m : Input) (left : ℕ) → TakesOne (is_kind opening) i m →
      sequence inner (λ x. sequence (expect closing) (λ c. rest x)) m ≡ Err (TooDeep left) → OpensTooDeep (suc depth) i.tokens left
  inside i m left o e = elim (sequence_err inner (λ x. sequence (expect closing) (λ c. rest x)) m (TooDeep left) e) [
    | inl h ↦ deeper_by_one opening opens not_closes depth i m left o (f.deep m left h)
    | inr h ↦ elim (sequence_err (expect closing) (λ c. rest h.0.0) h.0.1 (TooDeep left) h.2) [
      | inl k ↦ absurd (take_one_not_deep (is_kind closing) (expected.Token closing) h.0.1 left k)
      | inr k ↦
          deep_behind (suc depth) i k.0.1 left
          (around i m h.0.1 k.0.1 o (f.steps m h.0 h.1) (take_one_ok (is_kind closing) (expected.Token closing) h.0.1 k.0 k.1))
          ((g h.0.0).deep k.0.1 left k.2)
    ]
  ]
