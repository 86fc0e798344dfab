-- Readers whose refused tokens can be completed: many of one kind.
use Rattle.std.proofs.Common.{◌≡◌, ℕ, zero, suc, ◌+◌, ◌<◌, ◌≤◌, ◌-◌, true, false, inl, inr, List, [], ◌∷◌, ◌++◌, length, Result, Ok, Err, refl, sym, subst, ◌∙◌, ap, arith}
use Rattle.graphql_tokens.specs.declared.token.Token.{Token}
use Rattle.graphql_syntax.specs.declared.refusals.Expected.{Expected}
use Rattle.graphql_syntax.specs.declared.refusals.Refusal.{Refusal}
use Rattle.graphql_syntax.specs.declared.refusals.Refusal.TheVariants.{Unexpected}
use Rattle.graphql_syntax.specs.Inputs.{Input, TokenTest, next_passes}
use Rattle.graphql_syntax.specs.Reading.{Reader, answer, sequence, choose, many_from, many_behind, some_of}
use Rattle.graphql_syntax.proofs.Locality.{Refuses, RefusedAt}
use Rattle.graphql_syntax.proofs.ManyLemmas.{one_more, no_more}
use Rattle.graphql_syntax.proofs.ReaderLemmas.{sequence_ok, sequence_err, choose_ok, choose_err, answer_ok}
use Rattle.graphql_completions.proofs.Likeness.{View, Shown, first_shows, Stops, Word, Spells, filled, are_words, Like, Alike, differ, share, alike_first, next_like}
use Rattle.graphql_completions.proofs.Completions.{Reading, Again, Completes, Inner, Goes, below_or_same, like_length, like_rest, moving, goes_sequence}
use Rattle.graphql_completions.proofs.Choices.{next_shows}

-- the numbers of tokens differ by those at the end
alike_size : (source other : List ℕ) (r s a b : List Token) → Alike source other r s a b → length a + length s ≡ length b + length r
alike_size source other r s _ _ differ = omega arith
alike_size source other r s _ _ (share t a b e is) = omega (arith, alike_size source other r s a b is)

pub like_size : (r s : List Token) (i k : Input) → Like r s i k → length i.tokens + length s ≡ length k.tokens + length r
like_size r s i k like = alike_size i.source k.source r s i.tokens k.tokens like.tokens

pub like_some : (r s : List Token) (i k : Input) → Like r s i k → length r < length i.tokens → 0 < length k.tokens
like_some r s i k like n = let first = alike_first i.source k.source r s i.tokens k.tokens like.tokens n in omega (arith, ap length first.two)

less_many : {A : Type 0} (views : List View) (test : TokenTest) (p q : Reader A) → Inner views true p q → (turns : ℕ) (found : List A) (i : Input) (r : List A × Input) →
    many_from test p turns found i ≡ Ok r → length r.1.tokens ≤ length i.tokens
unfolding many_from
less_many views test p q one zero found i r e = let (same, there) = answer_ok found i r e in omega (arith, ap (λ (k : Input). length k.tokens) there)
less_many views test p q one (suc turns) found i r e = elim (choose_ok test _ _ i r e) [
  | inl h ↦
      let (m, em, e1) = sequence_ok p _ i r h.1 in
      omega (arith, one.less i m em, less_many views test p q one turns (found ++ m.0 ∷ []) m.1 r e1)
  | inr h ↦ let (same, there) = answer_ok found i r h.1 in omega (arith, ap (λ (k : Input). length k.tokens) there)
]

within_many : {A : Type 0} (views : List View) (test : TokenTest) (p q : Reader A) → Inner views true p q → (turns : ℕ) (found : List A) (i : Input) (f : Refusal) (left : ℕ) →
    many_from test p turns found i ≡ Err f → RefusedAt left f → left ≤ length i.tokens
unfolding many_from answer
within_many views test p q one zero found i f left e at = absurd (let b : ⊥ = cc in b)
within_many views test p q one (suc turns) found i f left e at = elim (choose_err test _ _ i f e) [
  | inl k ↦ elim (sequence_err p _ i f k.1) [
    | inl h ↦ one.within i f left h at
    | inr h ↦ omega (arith, one.less i h.0 h.1, within_many views test p q one turns (found ++ h.0.0 ∷ []) h.0.1 f left h.2 at)
  ]
  | inr k ↦ absurd (let f = k.1 in let b : ⊥ = cc in b)
]

again_many : {A : Type 0} (view : View) (views : List View) (test : TokenTest) → Shown view test → (p q : Reader A) → Inner views true p q →
    (turns : ℕ) (found : List A) (i k : Input) (r s : List Token) (g : List A × Input) → length i.tokens ≤ turns → many_from test p turns found i ≡ Ok g → Like r s i k →
    length r ≤ length g.1.tokens → (length r ≡ length g.1.tokens → Stops (view ∷ views) k.source s) → (more : ℕ) → length k.tokens ≤ more →
    Again (many_from test q more found) k r s g
unfolding many_from
again_many {A} view views test shown p q one zero found i k r s g n e like less stop more enough =
    let (same, there) = answer_ok found i g e in
    let size = ap (λ (k : Input). length k.tokens) there in
    let all : length r ≡ length i.tokens = omega (arith, like_length r s i k like) in
    record {
      end = k;
      reads =
          no_more test q more found k (next_shows view test shown k s (like_rest r s i k like all) ∙ (stop (omega (arith, size, all))).0) ∙
          ap (λ l. ok l k) same;
      like = subst (λ j. Like r s j k) there like;
      source = refl;
    } where
      ok : List A → Input → Result (List A × Input) Refusal
      ok l i = Ok (l, i)
again_many {A} view views test shown p q one (suc turns) found i k r s g n e like less stop more enough = elim (choose_ok test _ _ i g e) [
  | inl h ↦
      let (m, em, e1) = sequence_ok p _ i g h.1 in
      let rest : length g.1.tokens ≤ length m.1.tokens = less_many views test p q one turns (found ++ m.0 ∷ []) m.1 g e1 in
      let moved : length m.1.tokens < length i.tokens = one.moves refl i m em in
      let first = one.again i k r s m em like (omega arith) (λ same. (stop (omega arith)).1) in
      let size = like_size r s i k like in
      let size_behind = like_size r s m.1 first.end first.like in
      let others = again_many view views test shown p q one turns (found ++ m.0 ∷ []) m.1 first.end r s g (omega arith) e1 first.like less
      (λ same. subst (λ x. Stops (view ∷ views) x s) (sym first.source) (stop same)) (more - 1) (omega arith) in
      record {
        end = others.end;
        reads = one_more test q more found k m.0 first.end (next_like view test shown r s i k like (omega arith) ∙ h.0) (omega (arith, like_some r s i k like (omega arith))) first.reads ∙ others.reads;
        like = others.like;
        source = others.source ∙ first.source;
      }
  | inr h ↦
      let (same, there) = answer_ok found i g h.1 in
      let size = ap (λ (k : Input). length k.tokens) there in
      record {
        end = k;
        reads = no_more test q more found k (unseen size h.0) ∙ ap (λ l. ok l k) same;
        like = subst (λ j. Like r s j k) there like;
        source = refl;
      }
] where
  ok : List A → Input → Result (List A × Input) Refusal
  ok l i = Ok (l, i)

  unseen : length i.tokens ≡ length g.1.tokens → next_passes test i ≡ false → next_passes test k ≡ false
  unseen size t = elim (below_or_same (length r) (length i.tokens) (like_length r s i k like)) [
    | inl below ↦ next_like view test shown r s i k like below ∙ t
    | inr same ↦ next_shows view test shown k s (like_rest r s i k like same) ∙ (stop (same ∙ size)).0
  ]

broken_first : {A : Type 0} (test : TokenTest) (item : Reader A) (turns : ℕ) (found : List A) (i : Input) (f : Refusal) →
    next_passes test i ≡ true → 0 < turns → item i ≡ Err f → many_from test item turns found i ≡ Err f
unfolding many_from choose sequence
broken_first test item zero found i f s n e = absurd (omega arith)
broken_first test item (suc turns) found i f s n e = rw (s, e) refl

lost_many : {A : Type 0} (view : View) (views : List View) (test : TokenTest) → Shown view test → (p q : Reader A) → Inner views true p q →
    (turns : ℕ) (found : List A) (i k : Input) (r s : List Token) (last : ℕ) (wanted : Expected) → many_from test p turns found i ≡ Err (Unexpected last wanted) → Like r s i k →
    length r < last → (more : ℕ) → length k.tokens ≤ more → Refuses (many_from test q more found k)
unfolding many_from answer
lost_many view views test shown p q one zero found i k r s last wanted e like n more enough = absurd (let b : ⊥ = cc in b)
lost_many view views test shown p q one (suc turns) found i k r s last wanted e like n more enough = elim (choose_err test _ _ i (Unexpected last wanted) e) [
  | inl t ↦ elim (sequence_err p _ i (Unexpected last wanted) t.1) [
    | inl h ↦
        let within = one.within i (Unexpected last wanted) last h refl in
        let (x, failed) = one.lost i k r s last wanted h like n in
        (x, broken_first test q more found k x (next_like view test shown r s i k like (omega arith) ∙ t.0) (omega (arith, like_some r s i k like (omega arith))) failed)
    | inr h ↦
        let within = within_many views test p q one turns (found ++ h.0.0 ∷ []) h.0.1 (Unexpected last wanted) last h.2 refl in
        let moved : length h.0.1.tokens < length i.tokens = one.moves refl i h.0 h.1 in
        let first = one.again i k r s h.0 h.1 like (omega arith) (λ same. absurd (omega arith)) in
        let size = like_size r s i k like in
        let size_behind = like_size r s h.0.1 first.end first.like in
        let (x, failed) = lost_many view views test shown p q one turns (found ++ h.0.0 ∷ []) h.0.1 first.end r s last wanted h.2 first.like n (more - 1) (omega arith) in (
          x,
          one_more test q more found k h.0.0 first.end (next_like view test shown r s i k like (omega arith) ∙ t.0) (omega (arith, like_some r s i k like (omega arith))) first.reads ∙ failed,
        )
  ]
  | inr t ↦ absurd (let f = t.1 in let b : ⊥ = cc in b)
]

-- words with which as many as there are come to their end
record CompletesMany {A : Type 0} (view : View) (views : List View) (test : TokenTest) (q : Reader A) (found : List A) (i : Input) (left : ℕ) : Type 0 where
  words : List Word
  written : are_words words ≡ true
  reads : (k : Input) (r tokens s : List Token) → Like r (tokens ++ s) i k → length r ≡ left → Spells k.source tokens words → Stops (view ∷ views) k.source s →
      (more : ℕ) → length k.tokens ≤ more → Reading (many_from test q more found) k s

-- none more is read where no such token follows
pub ends_here : {A : Type 0} (view : View) (test : TokenTest) → Shown view test → (q : Reader A) (more : ℕ) (found : List A) (k : Input) (s : List Token) → k.tokens ≡ s →
    first_shows view k.source s ≡ false → Reading (many_from test q more found) k s
ends_here view test shown q more found k s e stop = record {
  found = (found, k);
  reads = no_more test q more found k (next_shows view test shown k s e ∙ stop);
  rest = e;
  source = refl;
}

completes_many : {A : Type 0} (view : View) (views : List View) (test : TokenTest) → Shown view test → (p q : Reader A) → Inner views true p q →
    (turns : ℕ) (found : List A) (i : Input) (f : Refusal) (left : ℕ) → many_from test p turns found i ≡ Err f → RefusedAt left f → left < length i.tokens →
    CompletesMany view views test q found i left
unfolding many_from answer
completes_many view views test shown p q one zero found i f left e at n = absurd (let b : ⊥ = cc in b)
completes_many {A} view views test shown p q one (suc turns) found i f left e at n = elim (choose_err test _ _ i f e) [
  | inl t ↦ elim (sequence_err p _ i f t.1) [
    | inl h ↦ here t.0 (one.completes i f left h at n)
    | inr h ↦ elim (below_or_same left (length h.0.1.tokens) (within_many views test p q one turns (found ++ h.0.0 ∷ []) h.0.1 f left h.2 at)) [
      | inl below ↦ further t.0 h.0 h.1 below (completes_many view views test shown p q one turns (found ++ h.0.0 ∷ []) h.0.1 f left h.2 at below)
      | inr same ↦ behind t.0 h.0 h.1 same
    ]
  ]
  | inr t ↦ absurd (let f = t.1 in let b : ⊥ = cc in b)
] where
  here : next_passes test i ≡ true → Completes views q i left → CompletesMany view views test q found i left
  here t c = record {
    words = c.words;
    written = c.written;
    reads = λ k r tokens s like same spells stop more enough.
        let a = c.reads k r tokens s like same spells stop.1 in
        let b = ends_here view test shown q (more - 1) (found ++ a.found.0 ∷ []) a.found.1 s a.rest (subst (λ x. first_shows view x s ≡ false) (sym a.source) stop.0) in
        record {
          found = b.found;
          reads =
              one_more test q more found k a.found.0 a.found.1 (next_like view test shown r (tokens ++ s) i k like (omega arith) ∙ t)
              (omega (arith, like_some r (tokens ++ s) i k like (omega arith))) a.reads ∙ b.reads;
          rest = b.rest;
          source = b.source ∙ a.source;
        };
  }

  further : next_passes test i ≡ true → (m : A × Input) → p i ≡ Ok m → left < length m.1.tokens → CompletesMany view views test q (found ++ m.0 ∷ []) m.1 left →
      CompletesMany view views test q found i left
  further t m em below c = record {
    words = c.words;
    written = c.written;
    reads = λ k r tokens s like same spells stop more enough.
        let first = one.again i k r (tokens ++ s) m em like (omega arith) (λ there. absurd (omega arith)) in
        let moved : length m.1.tokens < length i.tokens = one.moves refl i m em in
        let size = like_size r (tokens ++ s) i k like in
        let size_behind = like_size r (tokens ++ s) m.1 first.end first.like in
        let b = c.reads first.end r tokens s first.like same (subst (λ x. Spells x tokens c.words) (sym first.source) spells)
        (subst (λ x. Stops (view ∷ views) x s) (sym first.source) stop) (more - 1) (omega arith) in
        record {
          found = b.found;
          reads =
              one_more test q more found k m.0 first.end (next_like view test shown r (tokens ++ s) i k like (omega arith) ∙ t)
              (omega (arith, like_some r (tokens ++ s) i k like (omega arith))) first.reads ∙ b.reads;
          rest = b.rest;
          source = b.source ∙ first.source;
        };
  }

  behind : next_passes test i ≡ true → (m : A × Input) → p i ≡ Ok m → left ≡ length m.1.tokens → CompletesMany view views test q found i left
  behind t m em there = record {
    words = [];
    written = refl;
    reads = λ k r tokens s like same spells stop more enough. ended k r tokens s like same spells stop more enough;
  } where
    ended : (k : Input) (r tokens s : List Token) → Like r (tokens ++ s) i k → length r ≡ left → Spells k.source tokens [] → Stops (view ∷ views) k.source s →
        (more : ℕ) → length k.tokens ≤ more → Reading (many_from test q more found) k s
    ended k r (x ∷ tokens) s like same spells stop more enough = absurd spells
    ended k r [] s like same spells stop more enough =
        let first = one.again i k r s m em like (omega arith) (λ so. stop.1) in
        let b = ends_here view test shown q (more - 1) (found ++ m.0 ∷ []) first.end s (like_rest r s m.1 first.end first.like (omega arith))
        (subst (λ x. first_shows view x s ≡ false) (sym first.source) stop.0) in
        record {
          found = b.found;
          reads =
              one_more test q more found k m.0 first.end (next_like view test shown r s i k like (omega arith) ∙ t)
              (omega (arith, like_some r s i k like (omega arith))) first.reads ∙ b.reads;
          rest = b.rest;
          source = b.source ∙ first.source;
        }

pub goes_many_behind : {A : Type 0} {view : View} {views : List View} {test : TokenTest} {p q : Reader A} (found : List A) → Shown view test → Inner views true p q →
    Goes (view ∷ views) [] (many_behind test p found) (many_behind test q found)
unfolding many_behind
goes_many_behind {A} {view} {views} {test} {p} {q} found shown one = record {
  inner = record {
    less = λ i g e. less_many views test p q one (length i.tokens) found i g e;
    moves = λ m i g e. absurd (let b : ⊥ = cc in b);
    within = λ i f left e at. within_many views test p q one (length i.tokens) found i f left e at;
    again = λ i k r s g e like n stop.
        let a = again_many view views test shown p q one (length i.tokens) found i k r s g (omega arith) e like n stop (length k.tokens) (omega arith) in
        record { end = a.end; reads = a.reads; like = a.like; source = a.source };
    lost = λ i k r s last wanted e like n. lost_many view views test shown p q one (length i.tokens) found i k r s last wanted e like n (length k.tokens) (omega arith);
    completes = λ i f left e at n.
        let c = completes_many view views test shown p q one (length i.tokens) found i f left e at n in
        record {
          words = c.words;
          written = c.written;
          reads = λ k r tokens s like same spells stop.
              let a = c.reads k r tokens s like same spells stop (length k.tokens) (omega arith) in
              record { found = a.found; reads = a.reads; rest = a.rest; source = a.source };
        };
  };
  starts = λ k tokens s same spells stop. nothing k tokens s same spells stop;
} where
  nothing : (k : Input) (tokens s : List Token) → k.tokens ≡ tokens ++ s → Spells k.source tokens [] → Stops (view ∷ views) k.source s →
      Reading (λ j. many_from test q (length j.tokens) found j) k s
  nothing k (x ∷ tokens) s same spells stop = absurd spells
  nothing k [] s same spells stop =
      let a = ends_here view test shown q (length k.tokens) found k s same stop.0 in
      record { found = a.found; reads = a.reads; rest = a.rest; source = a.source }

-- one at least
pub goes_some : {A : Type 0} {view : View} {views : List View} {words : List Word} {test : TokenTest} {p q : Reader A} → filled words ≡ true → Shown view test → Goes views words p q →
    Goes (views ++ view ∷ views) (words ++ []) (some_of test p) (some_of test q)
unfolding some_of
goes_some full shown one = goes_sequence one refl (λ first. goes_many_behind (first ∷ []) shown (moving full one))
