-- Readers whose refused tokens can be completed: what is to have one part at least.
use Rattle.std.proofs.Common.{◌≡◌, ℕ, ◌<◌, ◌≤◌, ◌-◌, Bool, true, false, ◌||◌, ◌⊎◌, inl, inr, List, [], ◌∷◌, ◌++◌, length, Result, Ok, Err, refl, sym, subst, ◌∙◌, ap, arith}
use Rattle.std.proofs.lemmas.List.{length-append}
use Rattle.graphql_nodes.specs.declared.spans.SourceSpan.{SourceSpan}
use Rattle.graphql_tokens.specs.declared.token.Token.{Token}
use Rattle.graphql_syntax.specs.declared.refusals.Expected.TheVariants as expected
use Rattle.graphql_syntax.specs.declared.refusals.Refusal.{Refusal}
use Rattle.graphql_syntax.specs.declared.refusals.Refusal.TheVariants.{Unexpected}
use Rattle.graphql_syntax.specs.Inputs.{Input, TokenTest, span_from}
use Rattle.graphql_syntax.specs.Many.{Many, nothing, more}
use Rattle.graphql_syntax.specs.Reading.{Reader, and_then, answer, refuse, sequence, choose, place, many_behind}
use Rattle.graphql_syntax.proofs.AsciiLemmas.{one_of}
use Rattle.graphql_syntax.proofs.Locality.{RefusedAt}
use Rattle.graphql_syntax.proofs.ManyLemmas.{one_more}
use Rattle.graphql_syntax.proofs.ReaderLemmas.{sequence_ok, sequence_read, sequence_err, sequence_fails, sequence_fails_behind, choose_ok, placed_ok, answer_ok}
use Rattle.graphql_syntax.proofs.RepetitionLemmas.{many_sound, many_less}
use Rattle.graphql_type_system_syntax.specs.BodyReaders.{is_filled, with_part}
use Rattle.graphql_completions.proofs.Likeness.{View, Shown, first_shows, Stops, Word, Spells, filled}
use Rattle.graphql_completions.proofs.Completions.{Reading, Again, Completes, Inner, Starts, Goes}
use Rattle.graphql_completions.proofs.Choices.{shows_at, shows_first}
use Rattle.graphql_completions.proofs.Repetitions.{like_size, ends_here}

-- the same answers
pub same_goes : {A : Type 0} {views : List View} {words : List Word} (p q p2 q2 : Reader A) → ((i : Input) → p2 i ≡ p i) → ((i : Input) → q2 i ≡ q i) → Goes views words p q → Goes views words p2 q2
same_goes {A} {views} {words} p q p2 q2 e f g = record {
  inner = record {
    less = λ i found h. g.inner.less i found (sym (e i) ∙ h);
    moves = λ m i found h. g.inner.moves m i found (sym (e i) ∙ h);
    within = λ i r left h at. g.inner.within i r left (sym (e i) ∙ h) at;
    again = λ i k r s found h like n stop.
        let a = g.inner.again i k r s found (sym (e i) ∙ h) like n stop in
        record { end = a.end; reads = f k ∙ a.reads; like = a.like; source = a.source };
    lost = λ i k r s last wanted h like n. let (x, failed) = g.inner.lost i k r s last wanted (sym (e i) ∙ h) like n in (x, f k ∙ failed);
    completes = λ i r left h at n.
        let c = g.inner.completes i r left (sym (e i) ∙ h) at n in
        record {
          words = c.words;
          written = c.written;
          reads = λ k r tokens s like same spells stop.
              let a = c.reads k r tokens s like same spells stop in record { found = a.found; reads = f k ∙ a.reads; rest = a.rest; source = a.source };
        };
  };
  starts = λ k tokens s same spells stop. let a = g.starts k tokens s same spells stop in record { found = a.found; reads = f k ∙ a.reads; rest = a.rest; source = a.source };
}

-- one reader after another, in whatever order they are put together
behind_both : {A B C : Type 0} (o : Result (A × Input) Refusal) (q : A → Reader B) (k : B → Reader C) →
    and_then (and_then o (λ found. q found.0 found.1)) (λ found. k found.0 found.1) ≡ and_then o (λ found. and_then (q found.0 found.1) (λ found. k found.0 found.1))
behind_both (Ok x) q k = refl
behind_both (Err f) q k = refl

pub sequence_behind : {A B C : Type 0} (p : Reader A) (q : A → Reader B) (k : B → Reader C) (i : Input) →
    sequence (sequence p q) k i ≡ sequence p (λ x. sequence (q x) k) i
unfolding sequence
sequence_behind p q k i = behind_both (p i) q k

pub sequence_same : {A B : Type 0} (p : Reader A) (q r : A → Reader B) (i : Input) → ((x : A) (m : Input) → q x m ≡ r x m) → sequence p q i ≡ sequence p r i
unfolding sequence
sequence_same {A} {B} p q r i e = by (p i) where
  by : (o : Result (A × Input) Refusal) → and_then o (λ found. q found.0 found.1) ≡ and_then o (λ found. r found.0 found.1)
  by (Ok x) = e x.0 x.1
  by (Err f) = refl

pub sequence_twice : {A B C D : Type 0} (p : Reader A) (q : A → Reader B) (r : A → B → Reader C) (k : C → Reader D) (i : Input) →
    sequence (sequence p (λ x. sequence (q x) (r x))) k i ≡ sequence p (λ x. sequence (q x) (λ y. sequence (r x y) k)) i
sequence_twice p q r k i =
    sequence_behind p (λ x. sequence (q x) (r x)) k i ∙
    sequence_same p (λ x. sequence (sequence (q x) (r x)) k) (λ x. sequence (q x) (λ y. sequence (r x y) k)) i (λ x m. sequence_behind (q x) (r x) k m)

-- what is made of the place, and has a part
pub placed_part : {A : Type 0} (start : ℕ) (make : SourceSpan → A) (test : A → Bool) (i : Input) →
    sequence (sequence (place start) (λ span. answer (make span))) (λ x. with_part (test x) x) i ≡ sequence (place start) (λ span. with_part (test (make span)) (make span)) i
unfolding sequence place answer
placed_part start make test i = refl

-- something is read where the test passes, and else nothing
pub record Shows {A : Type 0} (test : A → Bool) (p : Reader A) : Type 0 where
  pub none : (i : Input) (found : A × Input) → p i ≡ Ok found → test found.0 ≡ false → found.1 ≡ i
  pub some : (i : Input) (found : A × Input) → p i ≡ Ok found → test found.0 ≡ true → length found.1.tokens < length i.tokens

pub shows_many : {A : Type 0} (test : TokenTest) (p : Reader A) → ((i : Input) (found : A × Input) → p i ≡ Ok found → length found.1.tokens < length i.tokens) →
    Shows is_filled (many_behind test p [])
shows_many {A} test p moves = record {
  none = λ i found e n. by_none i found.0 found.1 (are i found e) n;
  some = λ i found e n. by_some i found.0 found.1 (are i found e) n;
} where
  One : Input → A → Input → Type 0
  One i x j = p i ≡ Ok (x, j)

  one_moves : (i : Input) (x : A) (j : Input) → One i x j → length j.tokens < length i.tokens
  one_moves i x j e = moves i (x, j) e

  are : (i : Input) (found : List A × Input) → many_behind test p [] i ≡ Ok found → Many One i found.0 found.1
  are i found e = many_sound One test p (λ i r e. e) i found e

  by_none : (i : Input) (xs : List A) (j : Input) → Many One i xs j → is_filled xs ≡ false → j ≡ i
  by_none _ _ _ (nothing i) n = refl
  by_none _ _ _ (more i m j x xs is others) n = absurd (let b : ⊥ = cc in b)

  by_some : (i : Input) (xs : List A) (j : Input) → Many One i xs j → is_filled xs ≡ true → length j.tokens < length i.tokens
  by_some _ _ _ (nothing i) n = absurd (let b : ⊥ = cc in b)
  by_some _ _ _ (more i m j x xs is others) n = omega (arith, one_moves i x m is, many_less One one_moves m xs j others)

pub shows_optional : {A : Type 0} (views : List View) (test : TokenTest) (p q : Reader (List A)) → Inner views true p q →
    ((i : Input) (found : List A × Input) → p i ≡ Ok found → is_filled found.0 ≡ true) → Shows is_filled (choose test p (answer []))
shows_optional {A} views test p q one full = record {
  none = λ i found e n. elim (choose_ok test p (answer []) i found e) [
    | inl h ↦ let filled_it = full i found h.1 in absurd (let b : ⊥ = cc in b)
    | inr h ↦ sym (answer_ok {A = List A} [] i found h.1).1
  ];
  some = λ i found e n. elim (choose_ok test p (answer []) i found e) [
    | inl h ↦ one.moves refl i found h.1
    | inr h ↦ absurd (empty found.0 (answer_ok {A = List A} [] i found h.1).0 n)
  ];
} where
  empty : (xs : List A) → [] ≡ xs → is_filled xs ≡ true → ⊥
  empty [] e n = let b : ⊥ = cc in b
  empty (x ∷ xs) e n = let b : ⊥ = cc in b

-- none of two
neither : (a b : Bool) → (a || b) ≡ false → (a ≡ false) × (b ≡ false)
neither true b e = absurd (let h : ⊥ = cc in h)
neither false b e = (refl, e)

pub shows_one : {A B : Type 0} (p : Reader (List A)) (start : ℕ) (make : List A → SourceSpan → B) (test : B → Bool) → Shows is_filled p →
    ((x : List A) (span : SourceSpan) → test (make x span) ≡ is_filled x) → Shows test (sequence p (λ x. sequence (place start) (λ span. answer (make x span))))
shows_one {A} {B} p start make test f same = record {
  none = λ i found e n.
      let (m, em, e1) = sequence_ok p _ i found e in
      let (made, there) = placed_ok start (make m.0) m.1 found e1 in
      sym there ∙ f.none i m em (sym (same m.0 (span_from start m.1)) ∙ ap test made ∙ n);
  some = λ i found e n.
      let (m, em, e1) = sequence_ok p _ i found e in
      let (made, there) = placed_ok start (make m.0) m.1 found e1 in
      let less = f.some i m em (sym (same m.0 (span_from start m.1)) ∙ ap test made ∙ n) in
      omega (arith, less, ap (λ (j : Input). length j.tokens) there);
}

pub shows_two : {A B C : Type 0} (p : Reader (List A)) (q : Reader (List B)) (start : ℕ) (make : List A → List B → SourceSpan → C) (test : C → Bool) → Shows is_filled p → Shows is_filled q →
    ((i : Input) (found : List A × Input) → p i ≡ Ok found → length found.1.tokens ≤ length i.tokens) → ((i : Input) (found : List B × Input) → q i ≡ Ok found → length found.1.tokens ≤ length i.tokens) →
    ((x : List A) (y : List B) (span : SourceSpan) → test (make x y span) ≡ (is_filled x || is_filled y)) →
    Shows test (sequence p (λ x. sequence q (λ y. sequence (place start) (λ span. answer (make x y span)))))
shows_two {A} {B} {C} p q start make test f g less less_second same = record {
  none = λ i found e n.
      let (m, em, e1) = sequence_ok p _ i found e in
      let (k, ek, e2) = sequence_ok q _ m.1 found e1 in
      let (made, there) = placed_ok start (make m.0 k.0) k.1 found e2 in
      let (first, second) = neither (is_filled m.0) (is_filled k.0) (sym (same m.0 k.0 (span_from start k.1)) ∙ ap test made ∙ n) in
      sym there ∙ g.none m.1 k ek second ∙ f.none i m em first;
  some = λ i found e n.
      let (m, em, e1) = sequence_ok p _ i found e in
      let (k, ek, e2) = sequence_ok q _ m.1 found e1 in
      let (made, there) = placed_ok start (make m.0 k.0) k.1 found e2 in
      elim (one_of (is_filled m.0) (is_filled k.0) (sym (same m.0 k.0 (span_from start k.1)) ∙ ap test made ∙ n)) [
        | inl h ↦ omega (arith, f.some i m em h, less_second m.1 k ek, ap (λ (j : Input). length j.tokens) there)
        | inr h ↦ omega (arith, less i m em, g.some m.1 k ek h, ap (λ (j : Input). length j.tokens) there)
      ];
}

pub shows_three : {A B C D : Type 0} (p : Reader (List A)) (q : Reader (List B)) (r : Reader (List C)) (start : ℕ) (make : List A → List B → List C → SourceSpan → D) (test : D → Bool) →
    Shows is_filled p → Shows is_filled q → Shows is_filled r →
    ((i : Input) (found : List A × Input) → p i ≡ Ok found → length found.1.tokens ≤ length i.tokens) → ((i : Input) (found : List B × Input) → q i ≡ Ok found → length found.1.tokens ≤ length i.tokens) →
    ((i : Input) (found : List C × Input) → r i ≡ Ok found → length found.1.tokens ≤ length i.tokens) →
    ((x : List A) (y : List B) (z : List C) (span : SourceSpan) → test (make x y z span) ≡ (is_filled x || (is_filled y || is_filled z))) →
    Shows test (sequence p (λ x. sequence q (λ y. sequence r (λ z. sequence (place start) (λ span. answer (make x y z span))))))
shows_three {A} {B} {C} {D} p q r start make test f g h less less_second less_third same = record {
  none = λ i found e n.
      let (m, em, e1) = sequence_ok p _ i found e in
      let (k, ek, e2) = sequence_ok q _ m.1 found e1 in
      let (l, el, e3) = sequence_ok r _ k.1 found e2 in
      let (made, there) = placed_ok start (make m.0 k.0 l.0) l.1 found e3 in
      let (first, others) = neither (is_filled m.0) (is_filled k.0 || is_filled l.0) (sym (same m.0 k.0 l.0 (span_from start l.1)) ∙ ap test made ∙ n) in
      let (second, third) = neither (is_filled k.0) (is_filled l.0) others in
      sym there ∙ h.none k.1 l el third ∙ g.none m.1 k ek second ∙ f.none i m em first;
  some = λ i found e n.
      let (m, em, e1) = sequence_ok p _ i found e in
      let (k, ek, e2) = sequence_ok q _ m.1 found e1 in
      let (l, el, e3) = sequence_ok r _ k.1 found e2 in
      let (made, there) = placed_ok start (make m.0 k.0 l.0) l.1 found e3 in
      let end = ap (λ (j : Input). length j.tokens) there in
      elim (one_of (is_filled m.0) (is_filled k.0 || is_filled l.0) (sym (same m.0 k.0 l.0 (span_from start l.1)) ∙ ap test made ∙ n)) [
        | inl c ↦ omega (arith, f.some i m em c, less_second m.1 k ek, less_third k.1 l el, end)
        | inr c ↦ elim (one_of (is_filled k.0) (is_filled l.0) c) [
          | inl d ↦ omega (arith, less i m em, g.some m.1 k ek d, less_third k.1 l el, end)
          | inr d ↦ omega (arith, less i m em, less_second m.1 k ek, h.some k.1 l el d, end)
        ]
      ];
}

-- one of many
pub starts_many : {A : Type 0} (view : View) (views : List View) (words : List Word) (test : TokenTest) (p q : Reader A) → Shown view test → filled words ≡ true → shows_at view words ≡ true →
    Goes views words p q → Starts (view ∷ views) words (many_behind test q [])
unfolding many_behind
starts_many {A} view views words test p q shown full shows one k tokens s same spells stop =
    let a = one.starts k tokens s same spells stop.1 in
    let size = ap (λ (l : List Token). length l) same in
    let some = spelled k.source tokens words full spells in
    let b = ends_here view test shown q (length k.tokens - 1) (a.found.0 ∷ []) a.found.1 s a.rest (subst (λ x. first_shows view x s ≡ false) (sym a.source) stop.0) in
    record {
      found = b.found;
      reads = one_more test q (length k.tokens) [] k a.found.0 a.found.1 (shows_first view test shown words true k tokens s full shows same spells) (omega (arith, size, length-append tokens s)) a.reads ∙ b.reads;
      rest = b.rest;
      source = b.source ∙ a.source;
    } where
      spelled : (source : List ℕ) (tokens : List Token) (words : List Word) → filled words ≡ true → Spells source tokens words → 0 < length tokens
      spelled source tokens [] e s = absurd (let b : ⊥ = cc in b)
      spelled source [] (w ∷ words) e s = absurd s
      spelled source (t ∷ tokens) (w ∷ words) e s = omega arith

-- with a part
part_ok : {A : Type 0} (b : Bool) (x : A) (m : Input) (found : A × Input) → with_part b x m ≡ Ok found → (b ≡ true) × ((x, m) ≡ found)
unfolding with_part answer refuse
part_ok true x m found e = (refl, let same : (x, m) ≡ found = cc in same)
part_ok false x m found e = absurd (let h : ⊥ = cc in h)

part_err : {A : Type 0} (b : Bool) (x : A) (m : Input) (f : Refusal) → with_part b x m ≡ Err f → (b ≡ false) × (f ≡ Unexpected (length m.tokens) expected.ExtensionPart)
unfolding with_part answer refuse
part_err true x m f e = absurd (let h : ⊥ = cc in h)
part_err false x m f e = (refl, let same : f ≡ Unexpected (length m.tokens) expected.ExtensionPart = cc in same)

part_read : {A : Type 0} (b : Bool) (x : A) (m : Input) → b ≡ true → with_part b x m ≡ Ok (x, m)
unfolding with_part answer
part_read b x m e = rw e refl

part_fails : {A : Type 0} (b : Bool) (x : A) (m : Input) → b ≡ false → with_part b x m ≡ Err (Unexpected (length m.tokens) expected.ExtensionPart)
unfolding with_part refuse
part_fails b x m e = rw e refl

either : (b : Bool) → (b ≡ true) ⊎ (b ≡ false)
either true = inl refl
either false = inr refl

pub goes_part : {A : Type 0} {views : List View} {words : List Word} (test : A → Bool) (p q : Reader A) → Goes views [] p q → Shows test p → Shows test q → filled words ≡ true → Starts views words q →
    Goes views words (sequence p (λ x. with_part (test x) x)) (sequence q (λ x. with_part (test x) x))
goes_part {A} {views} {words} test p q one first second full starts = record {
  inner = record {
    less = λ i found e. let less = moved i found e in omega arith;
    moves = λ m i found e. moved i found e;
    within = λ i f left e at. elim (sequence_err p _ i f e) [
      | inl h ↦ one.inner.within i f left h at
      | inr h ↦
          let (fails, which) = part_err (test h.0.0) h.0.0 h.0.1 f h.2 in
          let n : length h.0.1.tokens ≡ left = subst (RefusedAt left) which at in
          omega (arith, one.inner.less i h.0 h.1)
    ];
    again = λ i k r s found e like n stop.
        let (m, em, e1) = sequence_ok p _ i found e in
        let (passes, same) = part_ok (test m.0) m.0 m.1 found e1 in
        subst (λ (g : A × Input). Again (sequence q (λ x. with_part (test x) x)) k r s g) same
        (there i k r s m passes (one.inner.again i k r s m em like (subst (λ (g : A × Input). length r ≤ length g.1.tokens) (sym same) n)
        (subst (λ (g : A × Input). length r ≡ length g.1.tokens → Stops views k.source s) (sym same) stop)));
    lost = λ i k r s last wanted e like n. elim (sequence_err p _ i (Unexpected last wanted) e) [
      | inl h ↦ let (x, failed) = one.inner.lost i k r s last wanted h like n in (x, sequence_fails q _ k x failed)
      | inr h ↦
          let (fails, which) = part_err (test h.0.0) h.0.0 h.0.1 (Unexpected last wanted) h.2 in
          let m : last ≡ length h.0.1.tokens = cc in
          let a = one.inner.again i k r s h.0 h.1 like (omega arith) (λ same. absurd (omega arith)) in
          (_, sequence_fails_behind q _ k h.0.0 a.end _ a.reads (part_fails (test h.0.0) h.0.0 a.end fails))
    ];
    completes = λ i f left e at n. elim (sequence_err p _ i f e) [
      | inl h ↦ completed i left n (one.inner.completes i f left h at n)
      | inr h ↦
          let (fails, which) = part_err (test h.0.0) h.0.0 h.0.1 f h.2 in
          let m : length h.0.1.tokens ≡ left = subst (RefusedAt left) which at in
          absurd (omega (arith, ap (λ (j : Input). length j.tokens) (first.none i h.0 h.1 fails)))
    ];
  };
  starts = λ k tokens s same spells stop.
      let a = starts k tokens s same spells stop in
      with_it k s a (λ e. spelled k.source tokens words full spells s (sym same ∙ e));
} where
  Whole : Reader A
  Whole = sequence q (λ x. with_part (test x) x)

  moved : (i : Input) (found : A × Input) → sequence p (λ x. with_part (test x) x) i ≡ Ok found → length found.1.tokens < length i.tokens
  moved i found e =
      let (m, em, e1) = sequence_ok p _ i found e in
      let (passes, same) = part_ok (test m.0) m.0 m.1 found e1 in
      subst (λ (g : A × Input). length g.1.tokens < length i.tokens) same (first.some i m em passes)

  there : (i k : Input) (r s : List Token) (m : A × Input) → test m.0 ≡ true → Again q k r s m → Again (sequence q (λ x. with_part (test x) x)) k r s m
  there i k r s m passes a = record {
    end = a.end;
    reads = sequence_read q _ k m.0 a.end (m.0, a.end) a.reads (part_read (test m.0) m.0 a.end passes);
    like = a.like;
    source = a.source;
  }

  -- something is read
  with_it : (k : Input) (s : List Token) (a : Reading q k s) → (k.tokens ≡ s → ⊥) → Reading (sequence q (λ x. with_part (test x) x)) k s
  with_it k s a some = elim (either (test a.found.0)) [
    | inl passes ↦ record {
      found = a.found;
      reads = sequence_read q _ k a.found.0 a.found.1 a.found a.reads (part_read (test a.found.0) a.found.0 a.found.1 passes);
      rest = a.rest;
      source = a.source;
    }
    | inr fails ↦ absurd (some (ap (λ (j : Input). j.tokens) (sym (second.none k a.found a.reads fails)) ∙ a.rest))
  ]

  spelled : (source : List ℕ) (tokens : List Token) (words : List Word) → filled words ≡ true → Spells source tokens words → (s : List Token) → tokens ++ s ≡ s → ⊥
  spelled source tokens [] e spells s same = let b : ⊥ = cc in b
  spelled source [] (w ∷ words) e spells s same = spells
  spelled source (t ∷ tokens) (w ∷ words) e spells s same = omega (arith, ap (λ (l : List Token). length l) same, length-append tokens s)

  completed : (i : Input) (left : ℕ) → left < length i.tokens → Completes views q i left → Completes views (sequence q (λ x. with_part (test x) x)) i left
  completed i left n c = record {
    words = c.words;
    written = c.written;
    reads = λ k r tokens s like same spells stop.
        with_it k s (c.reads k r tokens s like same spells stop) (λ e.
        let size = like_size r (tokens ++ s) i k like in
        omega (arith, size, same, n, length-append tokens s, ap (λ (l : List Token). length l) e));
  }
