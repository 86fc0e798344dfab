-- The row behind one of several alternatives.
use Rattle.std.proofs.Common.{◌≡◌, ◌∙◌, ◌+◌, ◌<◌, ◌≤◌, ◌++◌, ℕ, Bool, false, List, [], ◌∷◌, arith, get_or, inl, inr, length, replicate, sym, ap, subst, take}
use Rattle.std.specs.Prelude.{◌⊎◌, Any, Vec}
use Rattle.std.specs.declared.alloc.Global.{Global}
use Rattle.std.proofs.lemmas.List.{get_or-replicate, get_or_append_left, length-append, length-replicate, take_all, take_more}
use Rattle.std.proofs.lemmas.List.Quantifiers.{Any-push}
use Rattle.std.proofs.Math.Seq.{get_or-append_seam}
use Rattle.gqlvalidate_patterns.specs.Patterns.{EitherMatches, PiecesMatch}
use Rattle.gqlvalidate_patterns.specs.Rows.{IsRowBehind, RowsMeet, between}
use Rattle.gqlvalidate_patterns.specs.declared.patterns.Piece.{Piece}

pub no_alternative : (path : List ℕ) (begins : List Bool) (places : ℕ) → places ≡ length path + 1 →
    IsRowBehind (EitherMatches []) path begins (replicate places false)
no_alternative path begins places is = record {
  long = length-replicate places false ∙ is;
  each = λ place within. (
    λ marked. let unmarked = get_or-replicate places place false false (omega arith) in absurd (cc),
    λ found. let none = found.3.2 in absurd (omega arith),
  );
}

-- an element of a list that has one more is the last, or one of the others
any_of_more : {X : Type 0} (P : X → Type 0) (xs : List X) (x : X) → Any P (xs ++ x ∷ []) → Any P xs ⊎ P x
any_of_more {X} P xs x (k, y, within, is, holds) =
    elim (below_or_last k (length xs) (subst (λ n. k < n) (length-append xs (x ∷ [])) within)) [
      | inl earlier ↦ inl (k, y, earlier, sym (get_or_append_left xs (x ∷ []) y k earlier) ∙ is, holds)
      | inr last ↦ inr (subst P (sym (sym (get_or-append_seam xs x [] y) ∙ ap (λ n. get_or (xs ++ x ∷ []) n y) (sym last) ∙ is)) holds)
    ]
  where
    below_or_last : (a b : ℕ) → a < b + 1 → (a < b) ⊎ (a ≡ b)
    below_or_last a b h = grind arith

any_of_fewer : {X : Type 0} (P : X → Type 0) (xs ys : List X) → Any P xs → Any P (xs ++ ys)
any_of_fewer P xs ys (k, y, within, is, holds) = (k, y, omega (arith, length-append xs ys), get_or_append_left xs ys y k within ∙ is, holds)

pub one_more_alternative : (alternatives : List (Vec Piece Global)) (index : ℕ) (pieces : Vec Piece Global) (path : List ℕ) (begins old further new : List Bool) →
    index < length alternatives → pieces ≡ get_or alternatives index pieces → IsRowBehind (EitherMatches (take index alternatives)) path begins old →
    IsRowBehind (PiecesMatch pieces.items) path begins further → RowsMeet old further new →
    IsRowBehind (EitherMatches (take (index + 1) alternatives)) path begins new
one_more_alternative alternatives index pieces path begins old further new within is first second meet =
    subst (λ ys. IsRowBehind (EitherMatches ys) path begins new) (sym (take_more alternatives index pieces within ∙ ap (λ y. take index alternatives ++ y ∷ []) (sym is)))
    (record {
      long = meet.long ∙ first.long;
      each = λ place within. (
        λ marked. elim ((meet.each place (subst (λ n. place < n) (sym first.long) (omega arith))).0 marked) [
          | inl earlier ↦ let found = (first.each place within).0 earlier in (found.0, found.1, found.2, any_of_fewer _ (take index alternatives) (pieces ∷ []) found.3)
          | inr here ↦ let found = (second.each place within).0 here in (found.0, found.1, found.2, Any-push (λ p. PiecesMatch p.items (between path found.0 place)) (take index alternatives) pieces found.3)
        ],
        λ found. (meet.each place (subst (λ n. place < n) (sym first.long) (omega arith))).1
            (elim (any_of_more (λ p. PiecesMatch p.items (between path found.0 place)) (take index alternatives) pieces found.3) [
              | inl earlier ↦ inl ((first.each place within).1 (found.0, found.1, found.2, earlier))
              | inr here ↦ inr ((second.each place within).1 (found.0, found.1, found.2, here))
            ]),
      );
    })

pub all_alternatives : (alternatives : List (Vec Piece Global)) (index : ℕ) (path : List ℕ) (begins row : List Bool) → length alternatives ≤ index →
    IsRowBehind (EitherMatches (take index alternatives)) path begins row → IsRowBehind (EitherMatches alternatives) path begins row
all_alternatives alternatives index path begins row past = subst (λ ys. IsRowBehind (EitherMatches ys) path begins row) (take_all index alternatives past)
