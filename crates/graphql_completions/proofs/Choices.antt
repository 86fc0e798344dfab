-- Readers whose refused tokens can be completed: one reader or another, and many.
use Rattle.std.proofs.Common.{◌≡◌, ℕ, ◌<◌, ◌≤◌, Bool, true, false, inl, inr, List, [], ◌∷◌, ◌++◌, length, refl, sym, subst, ◌∙◌, ap, arith}
use Rattle.graphql_tokens.specs.declared.token.Token.{Token}
use Rattle.graphql_syntax.specs.declared.refusals.Refusal.TheVariants.{Unexpected}
use Rattle.graphql_syntax.specs.Inputs.{Input, TokenTest, first_passes, next_passes, start_of, text_of}
use Rattle.graphql_syntax.specs.Reading.{Reader, choose, starting}
use Rattle.graphql_syntax.proofs.Locality.{Refuses}
use Rattle.graphql_syntax.proofs.ReaderLemmas.{choose_ok, choose_err, choose_first, choose_second}
use Rattle.graphql_completions.proofs.Likeness.{View, Shown, first_shows, Stops, Word, Spells, filled, Like, next_like, start_like, stops_first, stops_second}
use Rattle.graphql_completions.proofs.Completions.{Reading, Again, Completes, Inner, Goes, below_or_same, like_length, like_rest}

pub next_shows : (view : View) (test : TokenTest) → Shown view test → (k : Input) (tokens : List Token) → k.tokens ≡ tokens → next_passes test k ≡ first_shows view k.source tokens
unfolding next_passes
next_shows view test shown k tokens e = ap (first_passes test k.source) e ∙ by tokens where
  by : (tokens : List Token) → first_passes test k.source tokens ≡ first_shows view k.source tokens
  by [] = refl
  by (t ∷ rest) = shown.same k.source t

-- the outcome at k of what is read by a test that passes there, or does not
again_first : {A : Type 0} (test : TokenTest) (p q : Reader A) (k : Input) (r s : List Token) (found : A × Input) → next_passes test k ≡ true → Again p k r s found → Again (choose test p q) k r s found
again_first test p q k r s found t a = record { end = a.end; reads = choose_first test p q k t ∙ a.reads; like = a.like; source = a.source }

again_second : {A : Type 0} (test : TokenTest) (p q : Reader A) (k : Input) (r s : List Token) (found : A × Input) → next_passes test k ≡ false → Again q k r s found → Again (choose test p q) k r s found
again_second test p q k r s found t a = record { end = a.end; reads = choose_second test p q k t ∙ a.reads; like = a.like; source = a.source }

reading_first : {A : Type 0} (test : TokenTest) (p q : Reader A) (k : Input) (s : List Token) → next_passes test k ≡ true → Reading p k s → Reading (choose test p q) k s
reading_first test p q k s t a = record { found = a.found; reads = choose_first test p q k t ∙ a.reads; rest = a.rest; source = a.source }

reading_second : {A : Type 0} (test : TokenTest) (p q : Reader A) (k : Input) (s : List Token) → next_passes test k ≡ false → Reading q k s → Reading (choose test p q) k s
reading_second test p q k s t a = record { found = a.found; reads = choose_second test p q k t ∙ a.reads; rest = a.rest; source = a.source }

refuses_first : {A : Type 0} (test : TokenTest) (p q : Reader A) (k : Input) → next_passes test k ≡ true → Refuses (p k) → Refuses (choose test p q k)
refuses_first test p q k t f = (f.0, choose_first test p q k t ∙ f.1)

refuses_second : {A : Type 0} (test : TokenTest) (p q : Reader A) (k : Input) → next_passes test k ≡ false → Refuses (q k) → Refuses (choose test p q k)
refuses_second test p q k t f = (f.0, choose_second test p q k t ∙ f.1)

-- where only a token that stays is looked at
completes_first : {A : Type 0} (view : View) (views others : List View) (test : TokenTest) → Shown view test → (p q : Reader A) (i : Input) (left : ℕ) → next_passes test i ≡ true → left < length i.tokens →
    ((source : List ℕ) (s : List Token) → Stops others source s → Stops views source s) → Completes views p i left → Completes others (choose test p q) i left
completes_first view views others test shown p q i left t n weaker c = record {
  words = c.words;
  written = c.written;
  reads = λ k r tokens s like e spells stop.
      reading_first test p q k s (next_like view test shown r (tokens ++ s) i k like (omega arith) ∙ t) (c.reads k r tokens s like e spells (weaker k.source s stop));
}

completes_second : {A : Type 0} (view : View) (views others : List View) (test : TokenTest) → Shown view test → (p q : Reader A) (i : Input) (left : ℕ) → next_passes test i ≡ false → left < length i.tokens →
    ((source : List ℕ) (s : List Token) → Stops others source s → Stops views source s) → Completes views q i left → Completes others (choose test p q) i left
completes_second view views others test shown p q i left t n weaker c = record {
  words = c.words;
  written = c.written;
  reads = λ k r tokens s like e spells stop.
      reading_second test p q k s (next_like view test shown r (tokens ++ s) i k like (omega arith) ∙ t) (c.reads k r tokens s like e spells (weaker k.source s stop));
}

-- both read a token at least
pub inner_choose : {A : Type 0} {view : View} {test : TokenTest} {views others : List View} {p p2 q q2 : Reader A} → Shown view test → Inner views true p p2 → Inner others true q q2 →
    Inner (views ++ others) true (choose test p q) (choose test p2 q2)
inner_choose {A} {view} {test} {views} {others} {p} {p2} {q} {q2} shown f g = record {
  less = λ i found e. elim (choose_ok test p q i found e) [ inl h ↦ f.less i found h.1 | inr h ↦ g.less i found h.1 ];
  moves = λ m i found e. elim (choose_ok test p q i found e) [ inl h ↦ f.moves refl i found h.1 | inr h ↦ g.moves refl i found h.1 ];
  within = λ i r left e at. elim (choose_err test p q i r e) [ inl h ↦ f.within i r left h.1 at | inr h ↦ g.within i r left h.1 at ];
  again = λ i k r s found e like n stop. elim (choose_ok test p q i found e) [
    | inl h ↦
        let moved = f.moves refl i found h.1 in
        again_first test p2 q2 k r s found (next_like view test shown r s i k like (omega arith) ∙ h.0)
        (f.again i k r s found h.1 like n (λ same. stops_first views others k.source s (stop same)))
    | inr h ↦
        let moved = g.moves refl i found h.1 in
        again_second test p2 q2 k r s found (next_like view test shown r s i k like (omega arith) ∙ h.0)
        (g.again i k r s found h.1 like n (λ same. stops_second views others k.source s (stop same)))
  ];
  lost = λ i k r s last wanted e like n. elim (choose_err test p q i (Unexpected last wanted) e) [
    | inl h ↦
        let within = f.within i (Unexpected last wanted) last h.1 refl in
        refuses_first test p2 q2 k (next_like view test shown r s i k like (omega arith) ∙ h.0) (f.lost i k r s last wanted h.1 like n)
    | inr h ↦
        let within = g.within i (Unexpected last wanted) last h.1 refl in
        refuses_second test p2 q2 k (next_like view test shown r s i k like (omega arith) ∙ h.0) (g.lost i k r s last wanted h.1 like n)
  ];
  completes = λ i r left e at n. elim (choose_err test p q i r e) [
    | inl h ↦ completes_first view views (views ++ others) test shown p2 q2 i left h.0 n (λ source s. stops_first views others source s) (f.completes i r left h.1 at n)
    | inr h ↦ completes_second view others (views ++ others) test shown p2 q2 i left h.0 n (λ source s. stops_second views others source s) (g.completes i r left h.1 at n)
  ];
}

-- the first of the words passes the test, or does not
abbrev pub shows_at : View → List Word → Bool
shows_at view [] = false
shows_at view (w ∷ words) = view w.0 w.1

pub shows_first : (view : View) (test : TokenTest) → Shown view test → (words : List Word) (b : Bool) (k : Input) (tokens s : List Token) → filled words ≡ true → shows_at view words ≡ b →
    k.tokens ≡ tokens ++ s → Spells k.source tokens words → next_passes test k ≡ b
shows_first view test shown [] b k tokens s full e same spells = absurd (let h : ⊥ = cc in h)
shows_first view test shown (w ∷ words) b k [] s full e same spells = absurd spells
shows_first view test shown (w ∷ words) b k (t ∷ tokens) s full e same spells =
    next_shows view test shown k (t ∷ tokens ++ s) same ∙ ap (λ a. view a (text_of k.source t)) spells.0 ∙ ap (view w.0) spells.1 ∙ e

pub goes_first : {A : Type 0} {view : View} {test : TokenTest} {views others : List View} {words : List Word} {p p2 q q2 : Reader A} → Shown view test → shows_at view words ≡ true → filled words ≡ true →
    Goes views words p p2 → Inner others true q q2 → Goes (views ++ others) words (choose test p q) (choose test p2 q2)
goes_first {A} {view} {test} {views} {others} {words} {p} {p2} {q} {q2} shown e full f g = record {
  inner = subst (λ b. Inner (views ++ others) b (choose test p q) (choose test p2 q2)) (sym full) (inner_choose shown (subst (λ b. Inner views b p p2) full f.inner) g);
  starts = λ k tokens s same spells stop. reading_first test p2 q2 k s (shows_first view test shown words true k tokens s full e same spells)
      (f.starts k tokens s same spells (stops_first views others k.source s stop));
}

pub goes_second : {A : Type 0} {view : View} {test : TokenTest} {views others : List View} {words : List Word} {p p2 q q2 : Reader A} → Shown view test → shows_at view words ≡ false → filled words ≡ true →
    Inner views true p p2 → Goes others words q q2 → Goes (views ++ others) words (choose test p q) (choose test p2 q2)
goes_second {A} {view} {test} {views} {others} {words} {p} {p2} {q} {q2} shown e full f g = record {
  inner = subst (λ b. Inner (views ++ others) b (choose test p q) (choose test p2 q2)) (sym full) (inner_choose shown f (subst (λ b. Inner others b q q2) full g.inner));
  starts = λ k tokens s same spells stop. reading_second test p2 q2 k s (shows_first view test shown words false k tokens s full e same spells)
      (g.starts k tokens s same spells (stops_second views others k.source s stop));
}

-- the second may read nothing: so it is where no such token follows
pub goes_optional : {A : Type 0} {view : View} {test : TokenTest} {views others : List View} {p p2 q q2 : Reader A} → Shown view test → Inner views true p p2 → Goes others [] q q2 →
    Goes (view ∷ views ++ others) [] (choose test p q) (choose test p2 q2)
goes_optional {A} {view} {test} {views} {others} {p} {p2} {q} {q2} shown f g = record {
  inner = record {
    less = λ i found e. elim (choose_ok test p q i found e) [ inl h ↦ f.less i found h.1 | inr h ↦ g.inner.less i found h.1 ];
    moves = λ m i found e. absurd (let b : ⊥ = cc in b);
    within = λ i r left e at. elim (choose_err test p q i r e) [ inl h ↦ f.within i r left h.1 at | inr h ↦ g.inner.within i r left h.1 at ];
    again = λ i k r s found e like n stop. elim (choose_ok test p q i found e) [
      | inl h ↦
          let moved = f.moves refl i found h.1 in
          again_first test p2 q2 k r s found (next_like view test shown r s i k like (omega arith) ∙ h.0)
          (f.again i k r s found h.1 like n (λ same. stops_first views others k.source s (stop same).1))
      | inr h ↦
          again_second test p2 q2 k r s found (unseen i k r s found like (g.inner.less i found h.1) n stop h.0)
          (g.inner.again i k r s found h.1 like n (λ same. stops_second views others k.source s (stop same).1))
    ];
    lost = λ i k r s last wanted e like n. elim (choose_err test p q i (Unexpected last wanted) e) [
      | inl h ↦
          let within = f.within i (Unexpected last wanted) last h.1 refl in
          refuses_first test p2 q2 k (next_like view test shown r s i k like (omega arith) ∙ h.0) (f.lost i k r s last wanted h.1 like n)
      | inr h ↦
          let within = g.inner.within i (Unexpected last wanted) last h.1 refl in
          refuses_second test p2 q2 k (next_like view test shown r s i k like (omega arith) ∙ h.0) (g.inner.lost i k r s last wanted h.1 like n)
    ];
    completes = λ i r left e at n. elim (choose_err test p q i r e) [
      | inl h ↦ completes_first view views (view ∷ views ++ others) test shown p2 q2 i left h.0 n (λ source s stop. stops_first views others source s stop.1) (f.completes i r left h.1 at n)
      | inr h ↦ completes_second view others (view ∷ views ++ others) test shown p2 q2 i left h.0 n (λ source s stop. stops_second views others source s stop.1) (g.inner.completes i r left h.1 at n)
    ];
  };
  starts = λ k tokens s same spells stop. nothing k tokens s same spells stop;
} where
  unseen : (i k : Input) (r s : List Token) (found : A × Input) → Like r s i k → length found.1.tokens ≤ length i.tokens → length r ≤ length found.1.tokens →
      (length r ≡ length found.1.tokens → Stops (view ∷ views ++ others) k.source s) → next_passes test i ≡ false → next_passes test k ≡ false
  unseen i k r s found like less n stop t = elim (below_or_same (length r) (length i.tokens) (like_length r s i k like)) [
    | inl below ↦ next_like view test shown r s i k like below ∙ t
    | inr same ↦ next_shows view test shown k s (like_rest r s i k like same) ∙ (stop (omega arith)).0
  ]

  nothing : (k : Input) (tokens s : List Token) → k.tokens ≡ tokens ++ s → Spells k.source tokens [] → Stops (view ∷ views ++ others) k.source s → Reading (choose test p2 q2) k s
  nothing k [] s same spells stop =
      reading_second test p2 q2 k s (next_shows view test shown k s same ∙ stop.0) (g.starts k [] s same tt (stops_second views others k.source s stop.1))
  nothing k (t ∷ tokens) s same spells stop = absurd spells

-- a reader that knows where it began, and reads a token at least
pub inner_starting : {A : Type 0} {views : List View} {f f2 : ℕ → Reader A} → ((start : ℕ) → Inner views true (f start) (f2 start)) → Inner views true (starting f) (starting f2)
unfolding starting
inner_starting {A} {views} {f} {f2} g = record {
  less = λ i found e. (g (start_of i)).less i found e;
  moves = λ m i found e. (g (start_of i)).moves m i found e;
  within = λ i r left e at. (g (start_of i)).within i r left e at;
  again = λ i k r s found e like n stop.
      let moved = (g (start_of i)).moves refl i found e in
      let a = (g (start_of i)).again i k r s found e like n stop in
      record { end = a.end; reads = ap (λ x. f2 x k) (start_like r s i k like (omega arith)) ∙ a.reads; like = a.like; source = a.source };
  lost = λ i k r s last wanted e like n.
      let within = (g (start_of i)).within i (Unexpected last wanted) last e refl in
      let (x, failed) = (g (start_of i)).lost i k r s last wanted e like n in
      (x, ap (λ x. f2 x k) (start_like r s i k like (omega arith)) ∙ failed);
  completes = λ i r left e at n.
      let c = (g (start_of i)).completes i r left e at n in
      record {
        words = c.words;
        written = c.written;
        reads = λ k r tokens s like e spells stop.
            let a = c.reads k r tokens s like e spells stop in
            record { found = a.found; reads = ap (λ x. f2 x k) (start_like r (tokens ++ s) i k like (omega arith)) ∙ a.reads; rest = a.rest; source = a.source };
      };
}

pub goes_starting : {A : Type 0} {views : List View} {words : List Word} {f f2 : ℕ → Reader A} → filled words ≡ true → ((start : ℕ) → Goes views words (f start) (f2 start)) →
    Goes views words (starting f) (starting f2)
unfolding starting
goes_starting {A} {views} {words} {f} {f2} full g = record {
  inner = subst (λ b. Inner views b (starting f) (starting f2)) (sym full) (inner_starting (λ start. subst (λ b. Inner views b (f start) (f2 start)) full (g start).inner));
  starts = λ k tokens s same spells stop.
      let a = (g (start_of k)).starts k tokens s same spells stop in
      record { found = a.found; reads = a.reads; rest = a.rest; source = a.source };
}
