-- Readers whose refused tokens can be completed: each combinator of readers.
use Rattle.std.proofs.Common.{◌≡◌, ℕ, zero, suc, ◌<◌, ◌≤◌, Bool, true, ◌⊎◌, inl, inr, List, [], ◌∷◌, ◌++◌, length, Result, Ok, Err, refl, sym, subst, ◌∙◌, ap, arith}
use Rattle.std.proofs.lemmas.List.{append_assoc}
use Rattle.graphql_nodes.specs.declared.spans.SourceSpan.{SourceSpan}
use Rattle.graphql_tokens.specs.declared.token.Token.{Token}
use Rattle.graphql_syntax.specs.declared.refusals.Expected.{Expected}
use Rattle.graphql_syntax.specs.declared.refusals.Refusal.{Refusal}
use Rattle.graphql_syntax.specs.declared.refusals.Refusal.TheVariants.{Unexpected, TooDeep}
use Rattle.graphql_syntax.specs.Inputs.{Input, span_from}
use Rattle.graphql_syntax.specs.Reading.{Reader, answer, refuse, too_deep, sequence, place}
use Rattle.graphql_syntax.proofs.Locality.{Refuses, RefusedAt}
use Rattle.graphql_syntax.proofs.ReaderLemmas.{sequence_ok, sequence_read, sequence_err, sequence_fails, sequence_fails_behind}
use Rattle.graphql_tokens.proofs.ScanLemmas.{both_pass}
use Rattle.graphql_completions.proofs.Likeness.{View, Stops, Word, Spells, filled, stops_at, follow_well, are_words, words_both, behind_words, Like, alike_length, alike_all, stops_first, stops_behind, stops_before, parted}

-- it reads all but these tokens
pub record Reading {A : Type 0} (p : Reader A) (k : Input) (s : List Token) : Type 0 where
  pub found : A × Input
  pub reads : p k ≡ Ok found
  pub rest : found.1.tokens ≡ s
  pub source : found.1.source ≡ k.source

-- it reads the same there
pub record Again {A : Type 0} (p : Reader A) (k : Input) (r s : List Token) (found : A × Input) : Type 0 where
  pub end : Input
  pub reads : p k ≡ Ok (found.0, end)
  pub like : Like r s found.1 end
  pub source : end.source ≡ k.source

-- with these words in the place of the last so many tokens it is read
pub record Completes {A : Type 0} (views : List View) (p : Reader A) (i : Input) (left : ℕ) : Type 0 where
  pub words : List Word
  pub written : are_words words ≡ true
  pub reads : (k : Input) (r tokens s : List Token) → Like r (tokens ++ s) i k → length r ≡ left → Spells k.source tokens words → Stops views k.source s → Reading p k s

-- the first reader, and another that reads what it reads and what completes what it refuses behind the first token, where what follows passes no such test
pub record Inner {A : Type 0} (views : List View) (moving : Bool) (p q : Reader A) : Type 0 where
  pub less : (i : Input) (found : A × Input) → p i ≡ Ok found → length found.1.tokens ≤ length i.tokens
  pub moves : moving ≡ true → (i : Input) (found : A × Input) → p i ≡ Ok found → length found.1.tokens < length i.tokens
  pub within : (i : Input) (f : Refusal) (left : ℕ) → p i ≡ Err f → RefusedAt left f → left ≤ length i.tokens
  pub again : (i k : Input) (r s : List Token) (found : A × Input) → p i ≡ Ok found → Like r s i k → length r ≤ length found.1.tokens →
      (length r ≡ length found.1.tokens → Stops views k.source s) → Again q k r s found
  pub lost : (i k : Input) (r s : List Token) (last : ℕ) (wanted : Expected) → p i ≡ Err (Unexpected last wanted) → Like r s i k → length r < last → Refuses (q k)
  pub completes : (i : Input) (f : Refusal) (left : ℕ) → p i ≡ Err f → RefusedAt left f → left < length i.tokens → Completes views q i left

-- and the other reads these words
abbrev pub Starts : {A : Type 0} → List View → List Word → Reader A → Type 0
Starts views words q = (k : Input) (tokens s : List Token) → k.tokens ≡ tokens ++ s → Spells k.source tokens words → Stops views k.source s → Reading q k s

pub record Goes {A : Type 0} (views : List View) (words : List Word) (p q : Reader A) : Type 0 where
  pub inner : Inner views (filled words) p q
  pub starts : Starts views words q

-- it reads a token at least
pub moving : {A : Type 0} {views : List View} {words : List Word} {p q : Reader A} → filled words ≡ true → Goes views words p q → Inner views true p q
moving {A} {views} {words} {p} {q} full one = subst (λ b. Inner views b p q) full one.inner

pub below_or_same : (a b : ℕ) → a ≤ b → (a < b) ⊎ (a ≡ b)
below_or_same zero zero n = inr refl
below_or_same zero (suc b) n = inl (omega arith)
below_or_same (suc a) zero n = absurd (omega arith)
below_or_same (suc a) (suc b) n = elim (below_or_same a b (omega arith)) [ inl h ↦ inl (omega arith) | inr h ↦ inr (ap suc h) ]

pub like_length : (r s : List Token) (i k : Input) → Like r s i k → length r ≤ length i.tokens
like_length r s i k like = alike_length i.source k.source r s i.tokens k.tokens like.tokens

pub like_rest : (r s : List Token) (i k : Input) → Like r s i k → length r ≡ length i.tokens → k.tokens ≡ s
like_rest r s i k like n = (alike_all i.source k.source r s i.tokens k.tokens like.tokens n).1

-- nothing is read
pub goes_answer : {A : Type 0} (x : A) → Goes [] [] (answer x) (answer x)
unfolding answer
goes_answer {A} x = record {
  inner = record {
    less = λ i found e. let same : (x, i) ≡ found = cc in subst (λ (g : A × Input). length g.1.tokens ≤ length i.tokens) same (omega arith);
    moves = λ m i found e. absurd (let b : ⊥ = cc in b);
    within = λ i f left e at. absurd (let b : ⊥ = cc in b);
    again = λ i k r s found e like n stop.
        let same : (x, i) ≡ found = cc in
        subst (λ (g : A × Input). Again (answer x) k r s g) same (record { end = k; reads = refl; like = like; source = refl });
    lost = λ i k r s last wanted e like n. absurd (let b : ⊥ = cc in b);
    completes = λ i f left e at n. absurd (let b : ⊥ = cc in b);
  };
  starts = λ k tokens s e spells stop. nothing_read k tokens s e spells;
} where
  nothing_read : (k : Input) (tokens s : List Token) → k.tokens ≡ tokens ++ s → Spells k.source tokens [] → Reading (answer x) k s
  nothing_read k [] s e spells = record { found = (x, k); reads = refl; rest = e; source = refl }
  nothing_read k (t ∷ tokens) s e spells = absurd spells

pub goes_place : (start : ℕ) → Goes [] [] (place start) (place start)
unfolding place
goes_place start = record {
  inner = record {
    less = λ i found e. let same : (span_from start i, i) ≡ found = cc in subst (λ (g : SourceSpan × Input). length g.1.tokens ≤ length i.tokens) same (omega arith);
    moves = λ m i found e. absurd (let b : ⊥ = cc in b);
    within = λ i f left e at. absurd (let b : ⊥ = cc in b);
    again = λ i k r s found e like n stop.
        let same : (span_from start i, i) ≡ found = cc in
        subst (λ (g : SourceSpan × Input). Again (place start) k r s g) same
        (record { end = k; reads = ap (λ x. ok x k) (spans i k like.file_id like.ended); like = like; source = refl });
    lost = λ i k r s last wanted e like n. absurd (let b : ⊥ = cc in b);
    completes = λ i f left e at n. absurd (let b : ⊥ = cc in b);
  };
  starts = λ k tokens s e spells stop. nothing_read k tokens s e spells;
} where
  ok : SourceSpan → Input → Result (SourceSpan × Input) Refusal
  ok x k = Ok (x, k)

  spans : (i k : Input) → k.file_id ≡ i.file_id → k.ended ≡ i.ended → span_from start k ≡ span_from start i
  spans i k a b = rw (a, b) refl

  nothing_read : (k : Input) (tokens s : List Token) → k.tokens ≡ tokens ++ s → Spells k.source tokens [] → Reading (place start) k s
  nothing_read k [] s e spells = record { found = (span_from start k, k); reads = refl; rest = e; source = refl }
  nothing_read k (t ∷ tokens) s e spells = absurd spells

-- it refuses what comes next
pub inner_refuse : {A : Type 0} (views : List View) (moving : Bool) (wanted : Expected) → Inner {A = A} views moving (refuse wanted) (refuse wanted)
unfolding refuse
inner_refuse {A} views moving wanted = record {
  less = λ i found e. absurd (let b : ⊥ = cc in b);
  moves = λ m i found e. absurd (let b : ⊥ = cc in b);
  within = λ i f left e at. let same : Unexpected (length i.tokens) wanted ≡ f = cc in let n = here i left (subst (RefusedAt left) (sym same) at) in omega arith;
  again = λ i k r s found e like n stop. absurd (let b : ⊥ = cc in b);
  lost = λ i k r s last other e like n. (Unexpected (length k.tokens) wanted, refl);
  completes = λ i f left e at n. let same : Unexpected (length i.tokens) wanted ≡ f = cc in let m = here i left (subst (RefusedAt left) (sym same) at) in absurd (omega arith);
} where
  here : (i : Input) (left : ℕ) → RefusedAt left (Unexpected (length i.tokens) wanted) → length i.tokens ≡ left
  here i left at = at

pub inner_too_deep : {A : Type 0} (views : List View) (moving : Bool) (q : Reader A) → Inner views moving too_deep q
unfolding too_deep
inner_too_deep {A} views moving q = record {
  less = λ i found e. absurd (let b : ⊥ = cc in b);
  moves = λ m i found e. absurd (let b : ⊥ = cc in b);
  within = λ i f left e at. let same : TooDeep (length i.tokens) ≡ f = cc in let n = here i left (subst (RefusedAt left) (sym same) at) in omega arith;
  again = λ i k r s found e like n stop. absurd (let b : ⊥ = cc in b);
  lost = λ i k r s last other e like n. absurd (let b : ⊥ = cc in b);
  completes = λ i f left e at n. let same : TooDeep (length i.tokens) ≡ f = cc in let m = here i left (subst (RefusedAt left) (sym same) at) in absurd (omega arith);
} where
  here : (i : Input) (left : ℕ) → RefusedAt left (TooDeep (length i.tokens)) → length i.tokens ≡ left
  here i left at = at

pub goes_too_deep : {A : Type 0} (views : List View) (words : List Word) (q : Reader A) → Starts views words q → Goes views words too_deep q
goes_too_deep views words q starts = record { inner = inner_too_deep views (filled words) q; starts = starts }

-- one reader, and then the other
filled_either : (one two : List Word) → filled (one ++ two) ≡ true → (filled one ≡ true) ⊎ (filled two ≡ true)
filled_either [] two e = inr e
filled_either (w ∷ one) two e = inl refl

pub starts_sequence : {A B : Type 0} (views : List View) (one : List Word) (others : List View) (two : List Word) (p : Reader A) (q : A → Reader B) →
    stops_at views two ≡ true → Starts views one p → ((x : A) → Starts others two (q x)) → Starts (behind_words views two others) (one ++ two) (sequence p q)
starts_sequence {A} {B} views one others two p q side f g k tokens s e spells stop =
    let split = parted k.source tokens one two spells in
    let first = f k split.front (split.back ++ s) (e ∙ ap (λ l. l ++ s) split.all ∙ append_assoc split.front split.back s) split.spells_front
    (stops_before views two others k.source split.back s side split.spells_back stop) in
    let same = first.source in
    let second = g first.found.0 first.found.1 split.back s first.rest (subst (λ x. Spells x split.back two) (sym same) split.spells_back)
    (subst (λ x. Stops others x s) (sym same) (stops_behind views two others k.source s stop)) in
    record {
      found = second.found;
      reads = sequence_read p q k first.found.0 first.found.1 second.found first.reads second.reads;
      rest = second.rest;
      source = second.source ∙ same;
    }

-- where the other reads nothing, what follows it follows the first
stops_too : (views : List View) (two : List Word) (others : List View) (source : List ℕ) (s : List Token) → (filled two ≡ true → ⊥) →
    Stops (behind_words views two others) source s → Stops views source s
stops_too views [] others source s n stop = stops_first views others source s stop
stops_too views (w ∷ two) others source s n stop = absurd (n refl)

pub inner_sequence : {A B : Type 0} (views : List View) (one : List Word) (others : List View) (two : List Word) (p p2 : Reader A) (q q2 : A → Reader B) →
    follow_well views two ≡ true → Inner views (filled one) p p2 → ((x : A) → Goes others two (q x) (q2 x)) →
    Inner (behind_words views two others) (filled (one ++ two)) (sequence p q) (sequence p2 q2)
inner_sequence {A} {B} views one others two p p2 q q2 both f g = record {
  less = λ i found e.
      let (m, em, e1) = sequence_ok p q i found e in
      omega (arith, f.less i m em, (g m.0).inner.less m.1 found e1);
  moves = λ moving i found e.
      let (m, em, e1) = sequence_ok p q i found e in
      elim (filled_either one two moving) [
        | inl h ↦ omega (arith, f.moves h i m em, (g m.0).inner.less m.1 found e1)
        | inr h ↦ omega (arith, f.less i m em, (g m.0).inner.moves h m.1 found e1)
      ];
  within = λ i r left e at. elim (sequence_err p q i r e) [
    | inl h ↦ f.within i r left h at
    | inr h ↦ omega (arith, f.less i h.0 h.1, (g h.0.0).inner.within h.0.1 r left h.2 at)
  ];
  again = λ i k r s found e like n stop.
      let (m, em, e1) = sequence_ok p q i found e in
      let less = (g m.0).inner.less m.1 found e1 in
      let first = f.again i k r s m em like (omega arith) (λ same.
      stops_too views two others k.source s (λ moving. let moved = (g m.0).inner.moves moving m.1 found e1 in omega arith) (stop (omega arith))) in
      let second = (g m.0).inner.again m.1 first.end r s found e1 first.like n (λ same.
      subst (λ x. Stops others x s) (sym first.source) (stops_behind views two others k.source s (stop same))) in
      record {
        end = second.end;
        reads = sequence_read p2 q2 k m.0 first.end (found.0, second.end) first.reads second.reads;
        like = second.like;
        source = second.source ∙ first.source;
      };
  lost = λ i k r s last wanted e like n. elim (sequence_err p q i (Unexpected last wanted) e) [
    | inl h ↦ let (x, failed) = f.lost i k r s last wanted h like n in (x, sequence_fails p2 q2 k x failed)
    | inr h ↦
        let within = (g h.0.0).inner.within h.0.1 (Unexpected last wanted) last h.2 refl in
        let first = f.again i k r s h.0 h.1 like (omega arith) (λ same. absurd (omega arith)) in
        let (x, failed) = (g h.0.0).inner.lost h.0.1 first.end r s last wanted h.2 first.like n in
        (x, sequence_fails_behind p2 q2 k h.0.0 first.end x first.reads failed)
  ];
  completes = λ i r left e at n. elim (sequence_err p q i r e) [
    | inl h ↦ before i left (f.completes i r left h at n)
    | inr h ↦ elim (below_or_same left (length h.0.1.tokens) ((g h.0.0).inner.within h.0.1 r left h.2 at)) [
      | inl below ↦ within i left h.0 h.1 ((g h.0.0).inner.completes h.0.1 r left h.2 at below) below
      | inr same ↦ behind i left h.0 h.1 same
    ]
  ];
} where
  side : stops_at views two ≡ true
  side = (both_pass (stops_at views two) (are_words two) both).0

  good : are_words two ≡ true
  good = (both_pass (stops_at views two) (are_words two) both).1

  before : (i : Input) (left : ℕ) → Completes views p2 i left → Completes (behind_words views two others) (sequence p2 q2) i left
  before i left c = record {
    words = c.words ++ two;
    written = words_both c.words two c.written good;
    reads = λ k r tokens s like n spells stop.
        let split = parted k.source tokens c.words two spells in
        let same : tokens ++ s ≡ split.front ++ (split.back ++ s) = ap (λ l. l ++ s) split.all ∙ append_assoc split.front split.back s in
        let first = c.reads k r split.front (split.back ++ s) (subst (λ l. Like r l i k) same like) n split.spells_front
        (stops_before views two others k.source split.back s side split.spells_back stop) in
        let there = first.source in
        let second = (g first.found.0).starts first.found.1 split.back s first.rest (subst (λ x. Spells x split.back two) (sym there) split.spells_back)
        (subst (λ x. Stops others x s) (sym there) (stops_behind views two others k.source s stop)) in
        record {
          found = second.found;
          reads = sequence_read p2 q2 k first.found.0 first.found.1 second.found first.reads second.reads;
          rest = second.rest;
          source = second.source ∙ there;
        };
  }

  within : (i : Input) (left : ℕ) (m : A × Input) → p i ≡ Ok m → Completes others (q2 m.0) m.1 left → left < length m.1.tokens →
      Completes (behind_words views two others) (sequence p2 q2) i left
  within i left m e c below = record {
    words = c.words;
    written = c.written;
    reads = λ k r tokens s like n spells stop.
        let first = f.again i k r (tokens ++ s) m e like (omega arith) (λ same. absurd (omega arith)) in
        let there = first.source in
        let second = c.reads first.end r tokens s first.like n (subst (λ x. Spells x tokens c.words) (sym there) spells)
        (subst (λ x. Stops others x s) (sym there) (stops_behind views two others k.source s stop)) in
        record {
          found = second.found;
          reads = sequence_read p2 q2 k m.0 first.end second.found first.reads second.reads;
          rest = second.rest;
          source = second.source ∙ there;
        };
  }

  behind : (i : Input) (left : ℕ) (m : A × Input) → p i ≡ Ok m → left ≡ length m.1.tokens → Completes (behind_words views two others) (sequence p2 q2) i left
  behind i left m e here = record {
    words = two;
    written = good;
    reads = λ k r tokens s like n spells stop.
        let first = f.again i k r (tokens ++ s) m e like (omega arith) (λ same. stops_before views two others k.source tokens s side spells stop) in
        let there = first.source in
        let second = (g m.0).starts first.end tokens s (like_rest r (tokens ++ s) m.1 first.end first.like (omega arith))
        (subst (λ x. Spells x tokens two) (sym there) spells)
        (subst (λ x. Stops others x s) (sym there) (stops_behind views two others k.source s stop)) in
        record {
          found = second.found;
          reads = sequence_read p2 q2 k m.0 first.end second.found first.reads second.reads;
          rest = second.rest;
          source = second.source ∙ there;
        };
  }

pub goes_sequence : {A B : Type 0} {views : List View} {one : List Word} {others : List View} {two : List Word} {p p2 : Reader A} {q q2 : A → Reader B} →
    Goes views one p p2 → follow_well views two ≡ true → ((x : A) → Goes others two (q x) (q2 x)) → Goes (behind_words views two others) (one ++ two) (sequence p q) (sequence p2 q2)
goes_sequence {A} {B} {views} {one} {others} {two} {p} {p2} {q} {q2} f both g = record {
  inner = inner_sequence views one others two p p2 q q2 both f.inner g;
  starts = starts_sequence views one others two p2 q2 (both_pass (stops_at views two) (are_words two) both).0 f.starts (λ x. (g x).starts);
}
