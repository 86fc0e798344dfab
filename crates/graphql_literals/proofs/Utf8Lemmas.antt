-- Texts stay UTF-8 if whole characters become blank.
use Rattle.std.proofs.Common.{◌≡◌, inl, inr, ℕ, ◌+◌, ◌-◌, ◌<◌, ◌≤◌, ◌++◌, List, All, length, take, drop, get_or, min, sym, subst, ◌∙◌, ap, arith, length-take, length-take-le, length-drop, get_or-take, get_or-drop, ext_get_or, take-append-drop, drop-drop}
use Rattle.std.specs.Str.{IsCharBoundary, IsUtf8}
use Rattle.std.proofs.lemmas.Bool.Decides.{nat_tests}
use Rattle.std.proofs.lemmas.List.Elements.{All-get_or, All-weaker}
use Rattle.std.proofs.lemmas.Str.{IsCharBoundary-after_ascii, IsCharBoundary-before_ascii, IsCharBoundary-start, IsUtf8-append, IsUtf8-drop, IsUtf8-from_ascii, IsUtf8-take}
use Rattle.std.proofs.lemmas.Str.Ascii.{IsAscii-from_reads}
use Rattle.graphql_blanks.specs.declared.Part.{Part}
use Rattle.graphql_literals.specs.declared.literals.Literal.{Literal}
use Rattle.graphql_literals.specs.Literals.{blank_in, blank_in_any, HasAsciiEdges, HasAsciiEnds, IsHole, IsLiteral}

before_part : (start end k b : ℕ) → k < start → blank_in (record { start = start; end = end }) k b ≡ b
before_part start end k b h = grind (arith, nat_tests)

after_part : (start end k b : ℕ) → end ≤ k → blank_in (record { start = start; end = end }) k b ≡ b
after_part start end k b h = grind (arith, nat_tests)

in_part : (start end k b : ℕ) → start ≤ k → k < end → blank_in (record { start = start; end = end }) k b < 128
in_part start end k b h g = grind (arith, nat_tests)

small_any : (parts : List Part) (k b : ℕ) → b < 128 → blank_in_any parts k b < 128
small_any parts k b h = grind (arith, nat_tests)

take_same : (old new : List ℕ) (n : ℕ) → length new ≡ length old → ((k : ℕ) → k < length old → k < n → get_or new k 0 ≡ get_or old k 0) → take n new ≡ take n old
take_same old new n e each =
    ext_get_or 0 (take n new) (take n old) (length-take n new ∙ ap (λ m. min n m) e ∙ sym (length-take n old))
    (λ i h.
    let low : i < n = omega (arith, length-take n new) in
    let within : i < length old = omega (arith, length-take n new) in
    get_or-take n new i 0 low ∙ each i within low ∙ sym (get_or-take n old i 0 low))

drop_same : (old new : List ℕ) (n : ℕ) → length new ≡ length old → ((k : ℕ) → k < length old → n ≤ k → get_or new k 0 ≡ get_or old k 0) → drop n new ≡ drop n old
drop_same old new n e each =
    ext_get_or 0 (drop n new) (drop n old) (length-drop n new ∙ ap (λ m. m - n) e ∙ sym (length-drop n old))
    (λ i h.
    let within : n + i < length old = omega (arith, length-drop n new) in
    get_or-drop n new i 0 ∙ each (n + i) within (omega arith) ∙ sym (get_or-drop n old i 0))

-- a text stays UTF-8 if a part that begins and ends at characters becomes blank
pub blank_keeps_utf8 : (old new : List ℕ) (start end : ℕ) → length new ≡ length old →
    ((k : ℕ) → k < length old → get_or new k 0 ≡ blank_in (record { start = start; end = end }) k (get_or old k 0)) →
    start ≤ end → end ≤ length old → IsCharBoundary old start → IsCharBoundary old end → IsUtf8 old → IsUtf8 new
blank_keeps_utf8 old new start end e each ordered within first last u =
    let n : ℕ = end - start in
    let head = take_same old new start e (λ k h low. each k h ∙ before_part start end k _ low) in
    let tail = drop_same old new end e (λ k h high. each k h ∙ after_part start end k _ high) in
    let at_end : start + n ≡ end = omega arith in
    let rest : drop n (drop start new) ≡ drop end new = drop-drop n start new ∙ ap (λ m. drop m new) at_end in
    let middle = take n (drop start new) in
    let read : (k : ℕ) → k < n → get_or middle k 0 < 128 = λ k h.
    let inside : start + k < length old = omega arith in
    let small = in_part start end (start + k) (get_or old (start + k) 0) (omega arith) (omega arith) in
    omega (arith, get_or-take n (drop start new) k 0 h, get_or-drop start new k 0, each (start + k) inside, small) in
    let blank : IsUtf8 middle = IsUtf8-from_ascii middle (IsAscii-from_reads middle n (omega (arith, length-take n (drop start new))) read) in
    let behind : IsUtf8 (middle ++ drop n (drop start new)) =
    IsUtf8-append middle _ blank (subst IsUtf8 (sym (rest ∙ tail)) (IsUtf8-drop old end u last)) in
    let split = ap (λ l. take start new ++ l) (take-append-drop n (drop start new)) ∙ take-append-drop start new in
    subst IsUtf8 split (IsUtf8-append (take start new) _ (subst IsUtf8 (sym head) (IsUtf8-take old start u first)) behind)

-- the same for a part whose first and last bytes are ASCII
part_keeps_utf8 : (old new : List ℕ) (part : Part) → length new ≡ length old → ((k : ℕ) → k < length old → get_or new k 0 ≡ blank_in part k (get_or old k 0)) →
    HasAsciiEnds old part → IsUtf8 old → IsUtf8 new
part_keeps_utf8 old new part e each ends u =
    let ordered = ends.ordered in
    let within = ends.within in
    let at_end : (part.end - 1) + 1 ≡ part.end = omega arith in
    blank_keeps_utf8 old new part.start part.end e each (omega arith) within (IsCharBoundary-before_ascii old part.start (omega arith) ends.first)
    (subst (IsCharBoundary old) at_end (IsCharBoundary-after_ascii old (part.end - 1) u (omega arith) ends.last)) u

-- the same for what is before a literal
pub before_keeps_utf8 : (old new : List ℕ) (literal : Literal) → length new ≡ length old →
    ((k : ℕ) → k < length old → get_or new k 0 ≡ blank_in (record { start = 0; end = literal.start }) k (get_or old k 0)) →
    HasAsciiEdges old literal → IsUtf8 old → IsUtf8 new
before_keeps_utf8 old new literal e each edges u =
    let positive = edges.positive in
    let within = edges.within in
    let at_end : (literal.start - 1) + 1 ≡ literal.start = omega arith in
    blank_keeps_utf8 old new 0 literal.start e each (omega arith) within (IsCharBoundary-start old u)
    (subst (IsCharBoundary old) at_end (IsCharBoundary-after_ascii old (literal.start - 1) u (omega arith) edges.before)) u

-- ASCII ends of a part stay ASCII
ends_kept : (old new : List ℕ) (part : Part) → length new ≡ length old → ((k : ℕ) → k < length old → get_or old k 0 < 128 → get_or new k 0 < 128) →
    HasAsciiEnds old part → HasAsciiEnds new part
ends_kept old new part e kept ends =
    let ordered = ends.ordered in
    let within = ends.within in
    record {
      ordered = ordered;
      within = omega arith;
      first = kept part.start (omega arith) ends.first;
      last = kept (part.end - 1) (omega arith) ends.last;
    }

-- one more hole becomes blank
pub hole_keeps_utf8 : (holes : List Part) (i : ℕ) (d : Part) (first now new : List ℕ) → i < length holes → length now ≡ length first → length new ≡ length now →
    ((k : ℕ) → k < length first → get_or now k 0 ≡ blank_in_any (take i holes) k (get_or first k 0)) →
    ((k : ℕ) → k < length now → get_or new k 0 ≡ blank_in (get_or holes i d) k (get_or now k 0)) →
    All (HasAsciiEnds first) holes → IsUtf8 now → IsUtf8 new
hole_keeps_utf8 holes i d first now new h e f before after ends u =
    part_keeps_utf8 now new (get_or holes i d) f after
    (ends_kept first now (get_or holes i d) e
    (λ k below small. let fits = small_any (take i holes) k (get_or first k 0) small in omega (arith, before k below, fits))
    (All-get_or (HasAsciiEnds first) holes i d h ends))
    u

-- the holes that are blank after what is before the literal
pub holes_kept : (old new : List ℕ) (literal : Literal) → length new ≡ length old →
    ((k : ℕ) → k < length old → get_or new k 0 ≡ blank_in (record { start = 0; end = literal.start }) k (get_or old k 0)) →
    HasAsciiEdges old literal → All (HasAsciiEnds new) literal.holes.items
holes_kept old new literal e each edges =
    All-weaker (HasAsciiEnds old) (HasAsciiEnds new)
    (λ hole ends. ends_kept old new hole e (λ k below small. let fits = small_part 0 literal.start k (get_or old k 0) small in omega (arith, each k below, fits)) ends)
    literal.holes.items edges.holes
  where
    small_part : (start end k b : ℕ) → b < 128 → blank_in (record { start = start; end = end }) k b < 128
    small_part start end k b h = grind (arith, nat_tests)

-- a hole in the text up to the end of its literal
hole_ends : (program : List ℕ) (start end : ℕ) (hole : Part) → end ≤ length program → IsHole program start end hole → HasAsciiEnds (take end program) hole
hole_ends program start end hole h is = elim is.kind [
  | inl it ↦
      let ordered = it.ordered in
      let within = is.before_end in
      record {
        ordered = omega arith;
        within = omega (arith, length-take-le end program h);
        first = omega (arith, get_or-take end program hole.start 0 (omega arith), it.begins.dollar);
        last = omega (arith, get_or-take end program (hole.end - 1) 0 (omega arith), it.ends);
      }
  | inr it ↦
      let one = it.one in
      let within = is.before_end in
      let same : hole.end - 1 ≡ hole.start = omega arith in
      let first : get_or (take end program) hole.start 0 < 128 = omega (arith, get_or-take end program hole.start 0 (omega arith), it.backslash) in
      record {
        ordered = omega arith;
        within = omega (arith, length-take-le end program h);
        first = first;
        last = omega (arith, ap (λ k. get_or (take end program) k 0) same, first);
      }
]

-- the text up to the end of a literal, and the edges of the literal there
pub prefix_edges : (program prefix : List ℕ) (literal : Literal) → prefix ≡ take literal.end program → IsLiteral program literal → HasAsciiEdges prefix literal
prefix_edges program prefix literal e is =
    let ordered = is.ordered in
    let within = is.within in
    let positive = is.not_first in
    subst (λ text. HasAsciiEdges text literal) (sym e) (record {
      positive = positive;
      within = omega (arith, length-take-le literal.end program (omega arith));
      before = omega (arith, get_or-take literal.end program (literal.start - 1) 0 (omega arith), is.opening);
      holes = All-weaker (IsHole program literal.start literal.end) (HasAsciiEnds (take literal.end program))
          (λ hole it. hole_ends program literal.start literal.end hole (omega arith) it) literal.holes.items is.holes;
    })

pub prefix_utf8 : (program prefix : List ℕ) (literal : Literal) → prefix ≡ take literal.end program → IsLiteral program literal → IsUtf8 program → IsUtf8 prefix
prefix_utf8 program prefix literal e is u =
    let within = is.within in
    subst IsUtf8 (sym e) (IsUtf8-take program literal.end u (IsCharBoundary-before_ascii program literal.end within (omega (arith, is.closing))))
