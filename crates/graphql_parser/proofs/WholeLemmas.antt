-- All tokens are a document, or not.
use Rattle.std.proofs.Common.{◌≡◌, ℕ, suc, ◌+◌, ◌-◌, ◌<◌, ◌≤◌, false, cond, nat_lt, ◌⊎◌, inl, inr, List, [], ◌∷◌, ◌++◌, length, take, drop, None, Some, Result, Ok, Err, refl, sym, subst, ◌∙◌, ap, arith}
use Rattle.std.proofs.lemmas.Bool.Decides.{nat_tests}
use Rattle.std.proofs.Math.Seq.{drop-length}
use Rattle.std.proofs.lemmas.List.{length-append, length-drop, take-append-drop}
use Rattle.graphql_tokens.specs.declared.token.Token.{Token}
use Rattle.graphql_tokens.specs.Lexical.{Lexes, nothing, ignored, token, token_between}
use Rattle.graphql_trees.specs.declared.documents.Document.{Document}
use Rattle.graphql_syntax.specs.Depths.{OpensTooDeep}
use Rattle.graphql_syntax.specs.declared.refusals.Expected.{Expected}
use Rattle.graphql_syntax.specs.declared.refusals.Refusal.{Refusal}
use Rattle.graphql_syntax.specs.declared.refusals.Refusal.TheVariants.{Unexpected, TooDeep}
use Rattle.graphql_syntax.specs.Inputs.{Input}
use Rattle.graphql_syntax.specs.Reading.{and_then}
use Rattle.graphql_parser.specs.Documents.{IsDocument}
use Rattle.graphql_parser.specs.DocumentReaders.{document_at, no_more, whole_document_at}
use Rattle.graphql_parser.specs.Refusals.{first_token, refused_token}
use Rattle.graphql_parser.proofs.DocumentLemmas.{document_sound, document_read, document_local, document_grows_by}

-- a part of a chain
pub and_then_ok : {A B : Type 0} (r : Result A Refusal) (f : A → Result B Refusal) (y : B) → and_then r f ≡ Ok y → (x : A) × (r ≡ Ok x) × (f x ≡ Ok y)
and_then_ok (Ok x) f y e = (x, refl, e)
and_then_ok (Err g) f y e = absurd (let b : ⊥ = cc in b)

pub and_then_err : {A B : Type 0} (r : Result A Refusal) (f : A → Result B Refusal) (g : Refusal) → and_then r f ≡ Err g → (r ≡ Err g) ⊎ ((x : A) × (r ≡ Ok x) × (f x ≡ Err g))
and_then_err (Ok x) f g e = inr (x, refl, e)
and_then_err (Err h) f g e = let same : h ≡ g = cc in inl (ap Err same)

pub no_more_is : (x y : Document) (end : Input) (tokens : List Token) → no_more x end tokens ≡ Ok y → (tokens ≡ []) × (x ≡ y)
no_more_is x y end [] e = (refl, let same : x ≡ y = cc in same)
no_more_is x y end (t ∷ rest) e = absurd (let b : ⊥ = cc in b)

pub whole_sound : (depth : ℕ) (i : Input) (tree : Document) → whole_document_at depth i ≡ Ok tree → (end : Input) × IsDocument depth i tree end × (end.tokens ≡ [])
unfolding whole_document_at
whole_sound depth i tree e =
    let (found, ef, e1) = and_then_ok (document_at depth i) (λ found. no_more found.0 found.1 found.1.tokens) tree e in
    let (ends, same) = no_more_is found.0 tree found.1 found.1.tokens e1 in
    (found.1, subst (λ x. IsDocument depth i x found.1) same (document_sound depth i found ef), ends)

pub whole_read : (depth : ℕ) (i : Input) (tree : Document) (end : Input) → IsDocument depth i tree end → end.tokens ≡ [] → whole_document_at depth i ≡ Ok tree
unfolding whole_document_at
whole_read depth i tree end is whole = rw (document_read depth i tree end is whole, whole) refl

-- what is read or refused, but for its depth, is so where more levels may be
pub read_further : (more depth : ℕ) (i : Input) (found : Document × Input) → document_at depth i ≡ Ok found → document_at (more + depth) i ≡ Ok found
read_further more depth i found e = by ((document_grows_by more depth).same i) where
  by : (document_at depth i ≡ document_at (more + depth) i) ⊎ ((left : ℕ) × (document_at depth i ≡ Err (TooDeep left))) → document_at (more + depth) i ≡ Ok found
  by (inl same) = sym same ∙ e
  by (inr h) = absurd (let f = h.1 in let b : ⊥ = cc in b)

pub refused_further : (more depth : ℕ) (i : Input) (left : ℕ) (wanted : Expected) → whole_document_at depth i ≡ Err (Unexpected left wanted) →
    whole_document_at (more + depth) i ≡ Err (Unexpected left wanted)
unfolding whole_document_at
refused_further more depth i left wanted e = by ((document_grows_by more depth).same i) where
  by : (document_at depth i ≡ document_at (more + depth) i) ⊎ ((left : ℕ) × (document_at depth i ≡ Err (TooDeep left))) →
      and_then (document_at (more + depth) i) (λ found. no_more found.0 found.1 found.1.tokens) ≡ Err (Unexpected left wanted)
  by (inl same) = rw (← same) e
  by (inr h) = absurd (let deep = h.1 in let f = rw deep at e in let b : ⊥ = cc in b)

-- what is refused at any token, or at the end, is no document, however deep
pub whole_unfinished : (depth : ℕ) (i : Input) (left : ℕ) (wanted : Expected) → whole_document_at depth i ≡ Err (Unexpected left wanted) →
    (any : ℕ) (tree : Document) (end : Input) → IsDocument any i tree end → end.tokens ≡ [] → ⊥
unfolding whole_document_at
whole_unfinished depth i left wanted e any tree end is whole =
    let same : depth + any ≡ any + depth = omega arith in
    let read = read_further depth any i (tree, end) (document_read any i tree end is whole) in
    let there : document_at (any + depth) i ≡ Ok (tree, end) = rw (← same) read in
    let refused = refused_further any depth i left wanted e in
    let answered : and_then (document_at (any + depth) i) (λ found. no_more found.0 found.1 found.1.tokens) ≡ Ok tree = rw (there, whole) refl in
    let b : ⊥ = cc in b

-- two documents of the same tokens are one
pub one_tree : (i : Input) (a b : ℕ) (x y : Document) (j k : Input) → IsDocument a i x j → j.tokens ≡ [] → IsDocument b i y k → k.tokens ≡ [] → x ≡ y
one_tree i a b x y j k is whole other ends =
    let same : b + a ≡ a + b = omega arith in
    let first = read_further b a i (x, j) (document_read a i x j is whole) in
    let second = read_further a b i (y, k) (document_read b i y k other ends) in
    let there : document_at (a + b) i ≡ Ok (x, j) = rw (← same) first in
    let both : (x, j) ≡ (y, k) = cc in
    ap (λ (q : Document × Input). q.0) both

pub whole_deep : (depth : ℕ) (i : Input) (left : ℕ) → whole_document_at depth i ≡ Err (TooDeep left) → OpensTooDeep depth i.tokens left
unfolding whole_document_at
whole_deep depth i left e = elim (and_then_err (document_at depth i) (λ found. no_more found.0 found.1 found.1.tokens) (TooDeep left) e) [
  | inl h ↦ (document_local depth).deep i left h
  | inr h ↦ absurd (not_deep h.0 h.0.1.tokens h.2)
] where
  not_deep : (found : Document × Input) (tokens : List Token) → no_more found.0 found.1 tokens ≡ Err (TooDeep left) → ⊥
  not_deep found [] f = let b : ⊥ = cc in b
  not_deep found (t ∷ rest) f = let b : ⊥ = cc in b

-- the first tokens of a text
pub lexes_first : (total : ℕ) (text : List ℕ) (tokens : List Token) (rest : List ℕ) → Lexes total text tokens rest → (front more : List Token) → tokens ≡ front ++ more →
    (middle : List ℕ) × Lexes total text front middle
lexes_first total _ _ _ (nothing rest) [] more e = (rest, nothing rest)
lexes_first total _ _ _ (nothing rest) (t ∷ front) more e = absurd (let b : ⊥ = cc in b)
lexes_first total _ _ _ (ignored text middle rest tokens is are) front more e =
    let (m, l) = lexes_first total middle tokens rest are front more e in (m, ignored text middle m front is l)
lexes_first total _ _ _ (token kind text middle rest tokens is are) [] more e = (text, nothing text)
lexes_first total _ _ _ (token kind text middle rest tokens is are) (t ∷ front) more e =
    let first : token_between total kind text middle ≡ t = cc in
    let behind : tokens ≡ front ++ more = cc in
    let (m, l) = lexes_first total middle tokens rest are front more behind in
    (m, subst (λ x. Lexes total text (x ∷ front) m) first (token kind text middle m front is l))

-- the token from which on so many are left
pub token_there : (left : ℕ) (tokens : List Token) → 0 < left → left ≤ length tokens →
    (before : List Token) × (t : Token) × (after : List Token) × (tokens ≡ before ++ t ∷ after) × (refused_token left tokens ≡ Some t) × (left ≡ suc (length after))
unfolding refused_token
token_there left tokens some within =
    let within_test : nat_lt (length tokens) left ≡ false = grind (arith, nat_tests) in
    by (drop (length tokens - left) tokens) refl (length-drop (length tokens - left) tokens) within_test where
      by : (rest : List Token) → drop (length tokens - left) tokens ≡ rest → length (drop (length tokens - left) tokens) ≡ length tokens - (length tokens - left) →
          nat_lt (length tokens) left ≡ false →
          (before : List Token) × (t : Token) × (after : List Token) × (tokens ≡ before ++ t ∷ after) ×
          (cond (nat_lt (length tokens) left) None (first_token (drop (length tokens - left) tokens)) ≡ Some t) × (left ≡ suc (length after))
      by [] e n s = absurd (omega (arith, ap length e))
      by (t ∷ rest) e n s = (
        take (length tokens - left) tokens,
        t,
        rest,
        sym (take-append-drop (length tokens - left) tokens) ∙ ap (λ l. take (length tokens - left) tokens ++ l) e,
        rw (s, e) refl,
        omega (arith, ap length e),
      )

pub no_token_there : (tokens : List Token) → refused_token 0 tokens ≡ None
unfolding refused_token
no_token_there tokens =
    let all : length tokens - 0 ≡ length tokens = omega arith in
    let within : nat_lt (length tokens) 0 ≡ false = grind (arith, nat_tests) in
    rw (within, all, drop-length tokens) refl

-- a list is split in one way where what is behind has one length
pub same_split : (a b : List Token) (t u : Token) (r s : List Token) → a ++ t ∷ r ≡ b ++ u ∷ s → length r ≡ length s → (a ≡ b) × (t ≡ u)
same_split [] [] t u r s e n = (refl, let same : t ≡ u = cc in same)
same_split [] (x ∷ b) t u r s e n =
    let behind : r ≡ b ++ u ∷ s = cc in absurd (omega (arith, ap length behind, length-append b (u ∷ s)))
same_split (y ∷ a) [] t u r s e n =
    let behind : a ++ t ∷ r ≡ s = cc in absurd (omega (arith, ap length behind, length-append a (t ∷ r)))
same_split (y ∷ a) (x ∷ b) t u r s e n =
    let first : y ≡ x = cc in
    let behind : a ++ t ∷ r ≡ b ++ u ∷ s = cc in
    let (same, one) = same_split a b t u r s behind n in
    (ap (λ l. y ∷ l) same ∙ ap (λ z. z ∷ b) first, one)
