-- Lines, one after another, and the steps of the walks over them.
use Rattle.std.proofs.Common.{◌≡◌, ℕ, zero, suc, ◌+◌, ◌-◌, ◌<◌, ◌≤◌, Bool, Bor, get_or, set, true, false, not, cond, ◌&&◌, ◌==◌, nat_lt, List, [], ◌∷◌, ◌++◌, length, take, drop, map, position, unwrap_or, Option, Some, None, option_and_then, refl, sym, subst, ap, ◌∙◌, append_assoc, arith}
use Rattle.std.specs.List.{list_all, position_or_len}
use Rattle.std.proofs.lemmas.Bool.Decides.{nat_tests}
use Rattle.std.proofs.lemmas.List.{map-id, length-drop}
use Rattle.graphql_tokens.specs.Characters.{is_line_byte}
use Rattle.graphql_tokens.proofs.ScanLemmas.{and_then_is, guarded, both_pass, not_true}
use Rattle.graphql_strings.specs.BlockStrings.{in_first_line, split_lines, common_indent, without_indent, without_common_indent}
use Rattle.graphql_strings.specs.Scans.{after_terminator, line_at}

-- no indent in common is one of no characters
pub indent_or_none : (common : Option ℕ) (lines : List (List ℕ)) → without_indent common lines ≡ map (drop (unwrap_or common 0)) lines
indent_or_none None lines = sym (map-id lines)
indent_or_none (Some n) lines = refl

-- the first lines, so many, cut by an indent, and those behind them as they are
abbrev pub cut_first : ℕ → ℕ → List (List ℕ) → List (List ℕ)
cut_first n zero lines = lines
cut_first n (suc k) [] = []
cut_first n (suc k) (line ∷ lines) = drop n line ∷ cut_first n k lines

-- the same of the lines up to a place, but the very first as it is
abbrev pub cut_up_to : ℕ → ℕ → List (List ℕ) → List (List ℕ)
cut_up_to n i [] = []
cut_up_to n i (line ∷ lines) = line ∷ cut_first n (i - 1) lines

cut_next : (n k : ℕ) (old : List (List ℕ)) (new : List (Bor (List ℕ))) (x d : Bor (List ℕ)) → k < length old →
    map (λ line. line.now) new ≡ cut_first n k old → x.now ≡ drop n (get_or new k d).now →
    map (λ line. line.now) (set new k x) ≡ cut_first n (suc k) old
cut_next n zero (o ∷ os) (m ∷ ms) x d h e w = cc
cut_next n (suc k) (o ∷ os) (m ∷ ms) x d h e w =
    let here : m.now ≡ drop n o = cc in
    let behind : map (λ line. line.now) ms ≡ cut_first n k os = cc in
    let next : map (λ line. line.now) (set ms k x) ≡ cut_first n (suc k) os = cut_next n k os ms x d (omega arith) behind w in
    cc
cut_next n k [] new x d h e w = absurd (omega arith)
cut_next n zero (o ∷ os) [] x d h e w = absurd (let b : ⊥ = cc in b)
cut_next n (suc k) (o ∷ os) [] x d h e w = absurd (let b : ⊥ = cc in b)

-- a step of the walk over lines that cuts all but the first
pub cut_more : (n i : ℕ) (old : List (List ℕ)) (new : List (Bor (List ℕ))) (x d : Bor (List ℕ)) → 1 ≤ i → i < length old →
    map (λ line. line.now) new ≡ cut_up_to n i old → x.now ≡ drop n (get_or new i d).now →
    map (λ line. line.now) (set new i x) ≡ cut_up_to n (i + 1) old
cut_more n zero old new x d l h e w = absurd (omega arith)
cut_more n (suc k) [] new x d l h e w = absurd (omega arith)
cut_more n (suc k) (o ∷ os) [] x d l h e w = absurd (let b : ⊥ = cc in b)
cut_more n (suc k) (o ∷ os) (m ∷ ms) x d l h e w =
    let one_less : suc k - 1 ≡ k = omega arith in
    let still : suc k + 1 - 1 ≡ suc k = omega arith in
    let here : m.now ≡ o = cc in
    let behind : map (λ line. line.now) ms ≡ cut_first n (suc k - 1) os = cc in
    let so_far : map (λ line. line.now) ms ≡ cut_first n k os = rw one_less at behind in
    let next : map (λ line. line.now) (set ms k x) ≡ cut_first n (suc k) os = cut_next n k os ms x d (omega arith) so_far w in
    rw still cc

-- no line is cut yet
pub cut_none : (n : ℕ) (lines : List (List ℕ)) → lines ≡ cut_up_to n 1 lines
cut_none n [] = refl
cut_none n (line ∷ lines) = refl

cut_each : (n k : ℕ) (lines : List (List ℕ)) → length lines ≤ k → cut_first n k lines ≡ map (drop n) lines
cut_each n zero [] h = refl
cut_each n zero (line ∷ lines) h = absurd (omega arith)
cut_each n (suc k) [] h = refl
cut_each n (suc k) (line ∷ lines) h = ap (λ (l : List (List ℕ)). drop n line ∷ l) (cut_each n k lines (omega arith))

-- all are cut
pub cut_all : (n i : ℕ) (lines : List (List ℕ)) → length lines ≤ i → n ≡ unwrap_or (common_indent (drop 1 lines)) 0 →
    cut_up_to n i lines ≡ without_common_indent lines
cut_all n i [] h e = refl
cut_all n i (line ∷ lines) h e =
    ap (λ (l : List (List ℕ)). line ∷ l)
    (cut_each n (i - 1) lines (omega arith) ∙ rw e (sym (indent_or_none (common_indent lines) lines)))

-- the place of the first line byte, behind one byte more
first_later : (c : ℕ) (cs : List ℕ) (k : ℕ) → is_line_byte c ≡ false → position is_line_byte cs ≡ Some k → position is_line_byte (c ∷ cs) ≡ Some (suc k)
first_later c cs k n e =
    let (within, same) = guarded (nat_lt (position_or_len is_line_byte cs) (length cs)) (position_or_len is_line_byte cs) k e in
    let still : nat_lt (1 + position_or_len is_line_byte cs) (suc (length cs)) ≡ true = grind (arith, nat_tests) in
    let place : 1 + position_or_len is_line_byte cs ≡ suc k = omega arith in
    rw (n, still, place) refl

first_never : (c : ℕ) (cs : List ℕ) → is_line_byte c ≡ false → position is_line_byte cs ≡ None → position is_line_byte (c ∷ cs) ≡ None
first_never c cs n e = by (nat_lt (position_or_len is_line_byte cs) (length cs)) refl e where
  by : (b : Bool) → nat_lt (position_or_len is_line_byte cs) (length cs) ≡ b → cond b (Some (position_or_len is_line_byte cs)) None ≡ None → position is_line_byte (c ∷ cs) ≡ None
  by true q e = absurd (let h : ⊥ = cc in h)
  by false q e =
      let still : nat_lt (1 + position_or_len is_line_byte cs) (suc (length cs)) ≡ false = grind (arith, nat_tests) in
      rw (n, still) refl

-- lines, where one ends here, and where none does
line_here : (c : ℕ) (cs : List ℕ) → is_line_byte c ≡ true → line_at (c ∷ cs) ≡ Some ([], after_terminator (c ∷ cs))
unfolding line_at
line_here c cs e = let within : nat_lt 0 (suc (length cs)) ≡ true = grind (arith, nat_tests) in rw (e, within) refl

line_later : (c : ℕ) (cs : List ℕ) (p : List ℕ × List ℕ) → is_line_byte c ≡ false → line_at cs ≡ Some p → line_at (c ∷ cs) ≡ Some (c ∷ p.0, p.1)
unfolding line_at
line_later c cs p n e =
    let (k, there, e1) = and_then_is (λ (k : ℕ). Some (take k cs, after_terminator (drop k cs))) (position is_line_byte cs) p e in
    let both : (take k cs, after_terminator (drop k cs)) ≡ p = cc in
    rw (first_later c cs k n there) (ap (λ (p : List ℕ × List ℕ). Some (c ∷ p.0, p.1)) both)

line_never : (c : ℕ) (cs : List ℕ) → is_line_byte c ≡ false → line_at cs ≡ None → line_at (c ∷ cs) ≡ None
unfolding line_at
line_never c cs n e = by (position is_line_byte cs) refl e where
  by : (o : Option ℕ) → position is_line_byte cs ≡ o → option_and_then {U = List ℕ × List ℕ} (λ (k : ℕ). Some (take k cs, after_terminator (drop k cs))) o ≡ None → line_at (c ∷ cs) ≡ None
  by None q e = rw (first_never c cs n q) refl
  by (Some k) q e = absurd (let h : ⊥ = cc in h)

-- a byte that ends no line is no carriage return
no_return : (c : ℕ) → is_line_byte c ≡ false → (c == 13) ≡ false
no_return c n = grind (arith, nat_tests)

split_later : (c : ℕ) (cs line : List ℕ) (lines : List (List ℕ)) → is_line_byte c ≡ false → split_lines cs ≡ line ∷ lines → split_lines (c ∷ cs) ≡ (c ∷ line) ∷ lines
split_later c [] line lines n e = rw n (ap (in_first_line c) e)
split_later c (d ∷ rest) line lines n e = rw (n, no_return c n) (ap (in_first_line c) e)

split_here : (c : ℕ) (cs : List ℕ) → is_line_byte c ≡ true → split_lines (c ∷ cs) ≡ [] ∷ split_lines (after_terminator (c ∷ cs))
split_here c [] e = rw e refl
split_here c (d ∷ rest) e = by (c == 13 && d == 10) refl where
  by : (b : Bool) → (c == 13 && d == 10) ≡ b → split_lines (c ∷ d ∷ rest) ≡ [] ∷ split_lines (after_terminator (c ∷ d ∷ rest))
  by true q = rw q refl
  by false q = rw (q, e) refl

pub lines_none : (t : List ℕ) → line_at t ≡ None → split_lines t ≡ t ∷ []
lines_none [] e = refl
lines_none (c ∷ cs) e = by (is_line_byte c) refl (line_at cs) refl (lines_none cs) where
  by : (b : Bool) → is_line_byte c ≡ b → (o : Option (List ℕ × List ℕ)) → line_at cs ≡ o → (line_at cs ≡ None → split_lines cs ≡ cs ∷ []) → split_lines (c ∷ cs) ≡ (c ∷ cs) ∷ []
  by true n o q next = absurd (let h = line_here c cs n in let k : ⊥ = cc in k)
  by false n None q next = split_later c cs cs [] n (next q)
  by false n (Some p) q next = absurd (let h = line_later c cs p n q in let k : ⊥ = cc in k)

nothing_here : line_at [] ≡ None
unfolding line_at
nothing_here = refl

pub lines_more : (t : List ℕ) (p : List ℕ × List ℕ) → line_at t ≡ Some p → split_lines t ≡ p.0 ∷ split_lines p.1
lines_more [] p e = absurd (let h = nothing_here in let k : ⊥ = cc in k)
lines_more (c ∷ cs) p e = by (is_line_byte c) refl (line_at cs) refl (lines_more cs) where
  by : (b : Bool) → is_line_byte c ≡ b → (o : Option (List ℕ × List ℕ)) → line_at cs ≡ o →
      ((q : List ℕ × List ℕ) → line_at cs ≡ Some q → split_lines cs ≡ q.0 ∷ split_lines q.1) → split_lines (c ∷ cs) ≡ p.0 ∷ split_lines p.1
  by true n o q next =
      let h = line_here c cs n in
      let same : ([], after_terminator (c ∷ cs)) ≡ p = cc in
      subst (λ (p : List ℕ × List ℕ). split_lines (c ∷ cs) ≡ p.0 ∷ split_lines p.1) same (split_here c cs n)
  by false n None q next = absurd (let h = line_never c cs n q in let k : ⊥ = cc in k)
  by false n (Some r) q next =
      let h = line_later c cs r n q in
      let same : (c ∷ r.0, r.1) ≡ p = cc in
      subst (λ (p : List ℕ × List ℕ). split_lines (c ∷ cs) ≡ p.0 ∷ split_lines p.1) same (split_later c cs r.0 (split_lines r.1) n (next r q))

after_shorter : (l : List ℕ) → 0 < length l → length (after_terminator l) < length l
after_shorter [] h = h
after_shorter (c ∷ []) h = omega arith
after_shorter (c ∷ d ∷ rest) h = by (c == 13 && d == 10) refl where
  by : (b : Bool) → (c == 13 && d == 10) ≡ b → length (after_terminator (c ∷ d ∷ rest)) < suc (suc (length rest))
  by true q = rw q (omega arith)
  by false q = rw q (omega arith)

pub line_shrinks : (t : List ℕ) (p : List ℕ × List ℕ) → line_at t ≡ Some p → length p.1 < length t
unfolding line_at
line_shrinks t p e =
    let (k, there, e1) = and_then_is (λ (k : ℕ). Some (take k t, after_terminator (drop k t))) (position is_line_byte t) p e in
    let both : (take k t, after_terminator (drop k t)) ≡ p = cc in
    let (within, same) = guarded (nat_lt (position_or_len is_line_byte t) (length t)) (position_or_len is_line_byte t) k there in
    let below : k < length t = grind (arith, nat_tests) in
    let rest : after_terminator (drop k t) ≡ p.1 = ap (λ (p : List ℕ × List ℕ). p.1) both in
    rw (← rest) (omega (arith, after_shorter (drop k t) (omega (arith, length-drop k t)), length-drop k t))

-- steps of the walk over lines: those found, and those to come
pub one_line_more : (old new : List (List ℕ)) (rest line behind : List ℕ) (whole : List (List ℕ)) → line_at rest ≡ Some (line, behind) →
    new ≡ old ++ line ∷ [] → old ++ split_lines rest ≡ whole → new ++ split_lines behind ≡ whole
one_line_more old new rest line behind whole e pushed so_far =
    rw (pushed, append_assoc old (line ∷ []) (split_lines behind)) (rw (lines_more rest (line, behind) e) at so_far)

-- no line ends in a text with no line terminator
pub no_line_at : (t : List ℕ) → list_all (λ c. not (is_line_byte c)) t ≡ true → line_at t ≡ None
no_line_at [] e = nothing_here
no_line_at (c ∷ cs) e =
    let (here, behind) = both_pass (not (is_line_byte c)) (list_all (λ c. not (is_line_byte c)) cs) e in
    line_never c cs (not_true (is_line_byte c) here) (no_line_at cs behind)
