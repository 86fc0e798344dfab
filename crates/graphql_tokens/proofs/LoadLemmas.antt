-- From the mask of one load to the run of bytes with which it begins, and from that to the run of the whole text.
use Rattle.std.proofs.Common.{◌≡◌, ℕ, zero, suc, ◌+◌, ◌%◌, ◌^◌, ◌<◌, ◌≤◌, Bool, true, false, not, List, [], ◌∷◌, map, length, get_or, take, drop, replicate, Fits, w8, refl, sym, ap, ap₂, ◌∙◌, arith}
use Rattle.std.proofs.lemmas.Bool.{agree_below, agree_below_at}
use Rattle.std.proofs.lemmas.List.{length-map}
use Rattle.std.proofs.lemmas.List.Sums.{prefix_len-le-length}
use Rattle.std.proofs.lemmas.Simd.{map-map, mask_l-mod, length-chunk, chunk-fits, first_set_mask_l}
use Rattle.std.specs.List.{prefix_len}
use lib.Lanes.{Each1, zip2, mask_l, top}
use Rattle.graphql_tokens.specs.Scans.{after_run, first_set}

zip2-map : (h : ℕ → ℕ → ℕ) (f g : ℕ → ℕ) (xs : List ℕ) → zip2 h (map f xs) (map g xs) ≡ map (λ x. h (f x) (g x)) xs
zip2-map h f g [] = refl
zip2-map h f g (x ∷ xs) = ap (λ r. h (f x) (g x) ∷ r) (zip2-map h f g xs)

-- an operation on two loads that were computed lane by lane from the bytes
pub joined : (h : ℕ → ℕ → ℕ) (f g : ℕ → ℕ) (bytes : List ℕ) {a b : List ℕ} → a ≡ map f bytes → b ≡ map g bytes → zip2 h a b ≡ map (λ x. h (f x) (g x)) bytes
joined h f g bytes p q = ap₂ (zip2 h) p q ∙ zip2-map h f g bytes

pub splat_is : (bytes : List ℕ) (n y : ℕ) → length bytes ≡ n → replicate n y ≡ map (λ _. y) bytes
splat_is [] n y e = ap (λ k. replicate k y) (sym e)
splat_is (x ∷ xs) n y e = ap (λ k. replicate k y) (sym e) ∙ ap (λ r. y ∷ r) (splat_is xs (length xs) y refl)

-- two tests that agree on all bytes
same_prefix : (p q : ℕ → Bool) (bytes : List ℕ) → Each1 (Fits w8) bytes → agree_below p q 256 ≡ true → prefix_len p bytes ≡ prefix_len q bytes
same_prefix p q [] fits all = refl
same_prefix p q (x ∷ xs) fits all = rw (agree_below_at p q 256 x all fits.0.fits, same_prefix p q xs fits.1 all) refl

-- the lowest lane at which a load stops, where it goes on at the bytes that pass
pub load_run : (test : ℕ → Bool) (text : List ℕ) (run : ℕ) (z : List ℕ) → 16 ≤ length text → ((k : ℕ) → Fits w8 (get_or text k 0)) →
    run ≡ first_set (mask_l (map (top 7) z) % 2 ^ 64) → (f : ℕ → ℕ) → z ≡ map f (take 16 text) →
    agree_below (λ x. not (top 7 (f x))) test 256 ≡ true → run ≡ prefix_len test (take 16 text)
load_run test text run z room fits found f lanes all =
    let bytes = take 16 text in
    let stops : ℕ → Bool = λ x. top 7 (f x) in
    let long : length bytes ≡ 16 = length-chunk 0 16 text room in
    let mask : mask_l (map (top 7) z) % 2 ^ 64 ≡ mask_l (map stops bytes) =
    ap (λ l. mask_l l % 2 ^ 64) (ap (map (top 7)) lanes ∙ map-map (top 7) f bytes) ∙ mask_l-mod (map stops bytes) 64 (omega (arith, length-map bytes stops, long)) in
    found ∙ ap first_set mask ∙ first_set_mask_l stops bytes 16 long (omega arith)
    ∙ same_prefix (λ x. not (stops x)) test bytes (chunk-fits w8 0 16 text fits) all

-- where all of the first bytes pass, the run goes on behind them
pub run_on : (test : ℕ → Bool) (n : ℕ) (text : List ℕ) → n ≤ length text → n ≤ prefix_len test (take n text) → after_run test (drop n text) ≡ after_run test text
run_on test zero text room all = refl
run_on test (suc n) [] room all = absurd (omega arith)
run_on test (suc n) (c ∷ cs) room all = by (test c) refl all (run_on test n cs) where
  by : (b : Bool) → test c ≡ b → suc n ≤ prefix_len test (c ∷ take n cs) → (n ≤ length cs → n ≤ prefix_len test (take n cs) → after_run test (drop n cs) ≡ after_run test cs) →
      after_run test (drop n cs) ≡ after_run test (c ∷ cs)
  by true e all next = let more = rw e at all in rw e (next (omega (arith, room)) (omega (arith, more)))
  by false e all next = let none = rw e at all in absurd (omega (arith, none))

-- where fewer do, it ends behind them
pub run_ends : (test : ℕ → Bool) (n : ℕ) (text : List ℕ) → n ≤ length text → prefix_len test (take n text) < n → drop (prefix_len test (take n text)) text ≡ after_run test text
run_ends test zero text room fewer = absurd (omega arith)
run_ends test (suc n) [] room fewer = absurd (omega arith)
run_ends test (suc n) (c ∷ cs) room fewer = by (test c) refl fewer (run_ends test n cs) where
  by : (b : Bool) → test c ≡ b → prefix_len test (c ∷ take n cs) < suc n →
      (n ≤ length cs → prefix_len test (take n cs) < n → drop (prefix_len test (take n cs)) cs ≡ after_run test cs) →
      drop (prefix_len test (c ∷ take n cs)) (c ∷ cs) ≡ after_run test (c ∷ cs)
  by true e fewer next =
      let less = rw e at fewer in
      let same : 1 + prefix_len test (take n cs) ≡ suc (prefix_len test (take n cs)) = omega arith in
      rw (e, same) (next (omega (arith, room)) (omega (arith, less)))
  by false e fewer next = rw e refl

-- a load of the text, and the text behind its run
pub load_within : (test : ℕ → Bool) (text : List ℕ) (run : ℕ) → 16 ≤ length text → run ≡ prefix_len test (take 16 text) → run ≤ length text
load_within test text run room found = omega (arith, prefix_len-le-length test (take 16 text), length-chunk 0 16 text (omega (arith, room)))

pub load_passed : (test : ℕ → Bool) (text behind : List ℕ) (run : ℕ) → 16 ≤ length text → run ≡ prefix_len test (take 16 text) → behind ≡ drop run text →
    16 ≤ run → after_run test behind ≡ after_run test text
load_passed test text behind run room found cut all =
    let whole : run ≡ 16 = omega (arith, found, all, prefix_len-le-length test (take 16 text), length-chunk 0 16 text (omega (arith, room))) in
    ap (after_run test) (cut ∙ ap (λ n. drop n text) whole) ∙ run_on test 16 text room (omega (arith, found, all))

pub load_ended : (test : ℕ → Bool) (text behind : List ℕ) (run : ℕ) → 16 ≤ length text → run ≡ prefix_len test (take 16 text) → behind ≡ drop run text →
    run < 16 → behind ≡ after_run test text
load_ended test text behind run room found cut fewer =
    cut ∙ ap (λ n. drop n text) found ∙ run_ends test 16 text room (omega (arith, found, fewer))
