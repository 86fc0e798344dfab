-- Names are ASCII, and so they are UTF-8.
use Rattle.std.proofs.Common.{◌≡◌, ℕ, Bool, true, false, ◌&&◌, ◌<◌, List, [], ◌∷◌, refl, arith}
use Rattle.std.specs.List.{list_all}
use Rattle.std.specs.Char.{is_ascii}
use Rattle.std.specs.Str.{IsAscii, IsUtf8}
use Rattle.std.proofs.lemmas.Bool.Decides.{nat_tests}
use Rattle.std.proofs.lemmas.Str.{IsUtf8-from_ascii}
use Rattle.std.proofs.lemmas.Str.Ascii.{IsAscii-nil, IsAscii-cons}
use Rattle.graphql_nodes.specs.Names.{is_name, starts_name, continues_name}

both_pass : (a b : Bool) → (a && b) ≡ true → (a ≡ true) × (b ≡ true)
both_pass true b e = (refl, e)
both_pass false b e = absurd (let h : ⊥ = cc in h)

continues_ascii : (c : ℕ) → continues_name c ≡ true → is_ascii c ≡ true
continues_ascii c e = grind (arith, nat_tests)

starts_ascii : (c : ℕ) → starts_name c ≡ true → is_ascii c ≡ true
starts_ascii c e = grind (arith, nat_tests)

-- where each byte that passes a test is ASCII, so are bytes that all pass it
pub all_ascii : (test : ℕ → Bool) → ((c : ℕ) → test c ≡ true → is_ascii c ≡ true) → (cs : List ℕ) → list_all test cs ≡ true → list_all is_ascii cs ≡ true
all_ascii test step [] e = refl
all_ascii test step (c ∷ cs) e =
    let h = both_pass (test c) (list_all test cs) e in
    rw (step c h.0) (all_ascii test step cs h.1)

pub name_ascii : (text : List ℕ) → is_name text ≡ true → list_all is_ascii text ≡ true
name_ascii [] e = absurd (let b : ⊥ = cc in b)
name_ascii (c ∷ cs) e =
    let h = both_pass (starts_name c) (list_all continues_name cs) e in
    rw (starts_ascii c h.0) (all_ascii continues_name continues_ascii cs h.1)

below_128 : (c : ℕ) → is_ascii c ≡ true → c < 128
below_128 c e = grind (arith, nat_tests)

each_below : (bytes : List ℕ) → list_all is_ascii bytes ≡ true → IsAscii bytes
each_below [] e = IsAscii-nil
each_below (c ∷ cs) e =
    let h = both_pass (is_ascii c) (list_all is_ascii cs) e in
    IsAscii-cons c cs (below_128 c h.0) (each_below cs h.1)

pub ascii_utf8 : (bytes : List ℕ) → list_all is_ascii bytes ≡ true → IsUtf8 bytes
ascii_utf8 bytes e = IsUtf8-from_ascii bytes (each_below bytes e)

pub name_utf8 : (text : List ℕ) → is_name text ≡ true → IsUtf8 text
name_utf8 text e = ascii_utf8 text (name_ascii text e)
