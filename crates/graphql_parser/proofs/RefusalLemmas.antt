-- A syntax error has one place.
use Rattle.std.proofs.Common.{◌≡◌, ℕ, ◌+◌, ◌-◌, ◌<◌, ◌≤◌, List, [], ◌∷◌, ◌++◌, length, take, Option, None, Some, refl, sym, subst, ◌∙◌, ap, arith}
use Rattle.std.proofs.lemmas.List.{append_assoc, length-append}
use Rattle.graphql_nodes.specs.declared.spans.FileId.{FileId}
use Rattle.graphql_tokens.specs.Lexical.{Lexes, token_between}
use Rattle.graphql_tokens.specs.declared.token.Token.{Token}
use Rattle.graphql_tokens.proofs.LexingLemmas.{Settled, end_settled, stuck_settled, one_reading, then_token}
use Rattle.graphql_syntax.specs.Depths.{OpensTooDeep}
use Rattle.graphql_completions.proofs.WrittenTexts.{EndBy, lexes_end_by}
use Rattle.graphql_parser.specs.declared.bounds.Bounds.{Bounds}
use Rattle.graphql_parser.specs.declared.errors.SyntaxError.{SyntaxError}
use Rattle.graphql_parser.specs.declared.errors.SyntaxError.TheVariants as errors
use Rattle.graphql_parser.specs.Documents.{IsDocument}
use Rattle.graphql_parser.specs.Parses.{whole_input}
use Rattle.graphql_parser.specs.Refusals.{error_at, error_token, AreBefore, IsUnexpected, IsTooDeep, IsRefusal}
use Rattle.graphql_parser.proofs.LevelLemmas.{deep_before}
use Rattle.graphql_parser.proofs.PlaceLemmas.{placed, same_beginning, settled_last, same, earlier, later, compared}

-- the tokens before a place with an error
record Before (bounds : Bounds) (file_id : FileId) (text : List ℕ) (at : ℕ) (tokens : List Token) : Type 0 where
  are_before : AreBefore bounds file_id text at tokens
  ends : EndBy at tokens
  within : at ≤ length text
  few : length tokens ≤ bounds.tokens

-- why there is an error behind them: a token that is behind no error, or one too many, or none at all
data Fault (bounds : Bounds) (file_id : FileId) (text : List ℕ) (tokens : List Token) : ℕ → Option Token → Type 0 where
  at_token : (t : Token) (rest : List ℕ) → Lexes (length text) text (tokens ++ t ∷ []) rest → length tokens < bounds.tokens →
      ((others : List Token) (at : ℕ) (zs : List Token) → Before bounds file_id text at others → others ≡ (tokens ++ t ∷ []) ++ zs → ⊥) →
      Fault bounds file_id text tokens t.start (Some t)
  too_many : (t : Token) (rest : List ℕ) → Lexes (length text) text (tokens ++ t ∷ []) rest → length tokens ≡ bounds.tokens → Fault bounds file_id text tokens t.start None
  at_end : (rest : List ℕ) → Lexes (length text) text tokens rest → Settled rest → Fault bounds file_id text tokens (length text - length rest) None

record Faulty (bounds : Bounds) (file_id : FileId) (text : List ℕ) (at : ℕ) (named : Option Token) : Type 0 where
  tokens : List Token
  before : Before bounds file_id text at tokens
  fault : Fault bounds file_id text tokens at named

longer : (xs ys zs : List Token) (t : Token) → ys ≡ (xs ++ t ∷ []) ++ zs → length xs < length ys
longer xs ys zs t e = omega (arith, ap length e, length-append (xs ++ t ∷ []) zs, length-append xs (t ∷ []))

-- two of them are one
one_fault : (bounds : Bounds) (file_id : FileId) (text : List ℕ) (xs ys : List Token) (at place : ℕ) (named other : Option Token) → Before bounds file_id text at xs → Before bounds file_id text place ys →
    Fault bounds file_id text xs at named → Fault bounds file_id text ys place other → (at ≡ place) × (named ≡ other)
one_fault bounds file_id text xs ys _ _ _ _ p q (at_token t r a few stops) (at_token u s b less halts) = elim (compared (length text) text xs t ys u r s a b) [
  | same lists ones ↦ (ap (λ (z : Token). z.start) ones, ap Some ones)
  | earlier zs e ↦ absurd (stops ys u.start zs q e)
  | later zs e ↦ absurd (halts xs t.start zs p e)
]
one_fault bounds file_id text xs ys _ _ _ _ p q (at_token t r a few stops) (too_many u s b all) = elim (compared (length text) text xs t ys u r s a b) [
  | same lists ones ↦ absurd (omega (arith, few, all, ap length lists))
  | earlier zs e ↦ absurd (stops ys u.start zs q e)
  | later zs e ↦ absurd (omega (arith, few, all, longer ys xs zs u e))
]
one_fault bounds file_id text xs ys _ _ _ _ p q (at_token t r a few stops) (at_end s b settled) =
    let (zs, e) = settled_last (length text) text (xs ++ t ∷ []) ys r s a b settled in
    absurd (stops ys (length text - length s) zs q e)
one_fault bounds file_id text xs ys _ _ _ _ p q (too_many t r a all) (at_token u s b less halts) = elim (compared (length text) text xs t ys u r s a b) [
  | same lists ones ↦ absurd (omega (arith, less, all, ap length lists))
  | earlier zs e ↦ absurd (omega (arith, less, all, longer xs ys zs t e))
  | later zs e ↦ absurd (halts xs t.start zs p e)
]
one_fault bounds file_id text xs ys _ _ _ _ p q (too_many t r a all) (too_many u s b every) = elim (compared (length text) text xs t ys u r s a b) [
  | same lists ones ↦ (ap (λ (z : Token). z.start) ones, refl)
  | earlier zs e ↦ absurd (omega (arith, all, every, longer xs ys zs t e))
  | later zs e ↦ absurd (omega (arith, all, every, longer ys xs zs u e))
]
one_fault bounds file_id text xs ys _ _ _ _ p q (too_many t r a all) (at_end s b settled) =
    let (zs, e) = settled_last (length text) text (xs ++ t ∷ []) ys r s a b settled in
    absurd (omega (arith, all, q.few, longer xs ys zs t e))
one_fault bounds file_id text xs ys _ _ _ _ p q (at_end r a settled) (at_token u s b less halts) =
    let (zs, e) = settled_last (length text) text (ys ++ u ∷ []) xs s r b a settled in
    absurd (halts xs (length text - length r) zs p e)
one_fault bounds file_id text xs ys _ _ _ _ p q (at_end r a settled) (too_many u s b every) =
    let (zs, e) = settled_last (length text) text (ys ++ u ∷ []) xs s r b a settled in
    absurd (omega (arith, every, p.few, longer ys xs zs u e))
one_fault bounds file_id text xs ys _ _ _ _ p q (at_end r a settled) (at_end s b ended) =
    (ap (λ l. length text - length l) (one_reading (length text) text xs ys r s settled ended a b).1, refl)

-- what each error says
before_token : (bounds : Bounds) (file_id : FileId) (text : List ℕ) (tokens : List Token) (t : Token) (rest : List ℕ) → Lexes (length text) text (tokens ++ t ∷ []) rest →
    length tokens < bounds.tokens → AreBefore bounds file_id text t.start tokens → Before bounds file_id text t.start tokens
before_token bounds file_id text tokens t rest lexes few are =
    let p = placed text tokens t rest lexes in
    record {
      are_before = are;
      ends = subst (λ n. EndBy n tokens) (sym p.start) (lexes_end_by (length text) text tokens p.begins p.lexes);
      within = omega (arith, p.start);
      few = omega arith;
    }

token_within : (n : ℕ) (tokens : List Token) (t : Token) (more : List Token) → EndBy n ((tokens ++ t ∷ []) ++ more) → t.end ≤ n
token_within n [] t more e = e.0
token_within n (x ∷ tokens) t more e = token_within n tokens t more e.1

unexpected_faulty : (bounds : Bounds) (file_id : FileId) (text : List ℕ) (t : Token) → IsUnexpected bounds file_id text t → Faulty bounds file_id text t.start (Some t)
unexpected_faulty bounds file_id text t is = record {
  tokens = is.before;
  before = before_token bounds file_id text is.before t is.rest is.lexes is.few is.are_before;
  fault = at_token t is.rest is.lexes is.few stops;
} where
  stops : (others : List Token) (at : ℕ) (zs : List Token) → Before bounds file_id text at others → others ≡ (is.before ++ t ∷ []) ++ zs → ⊥
  stops others at zs b e =
      let begins = b.are_before.begins in
      let within = token_within at is.before t zs (subst (EndBy at) e b.ends) in
      let all : others ++ begins.others ≡ is.before ++ t ∷ (zs ++ begins.others) =
      ap (λ l. l ++ begins.others) e ∙ append_assoc (is.before ++ t ∷ []) zs begins.others ∙ append_assoc is.before (t ∷ []) (zs ++ begins.others) in
      is.none (take at text ++ begins.more) (same_beginning text begins.more at t.end within b.within) (zs ++ begins.others) begins.depth begins.tree begins.end
      (subst (λ l. IsDocument begins.depth (whole_input file_id (take at text ++ begins.more) l) begins.tree begins.end) all begins.is_document) begins.whole

too_deep_faulty : (bounds : Bounds) (file_id : FileId) (text : List ℕ) (t : Token) → IsTooDeep bounds file_id text t → Faulty bounds file_id text t.start (Some t)
too_deep_faulty bounds file_id text t is = record {
  tokens = is.before;
  before = before_token bounds file_id text is.before t is.rest is.lexes is.few is.are_before;
  fault = at_token t is.rest is.lexes is.few (λ others at zs b e.
      b.are_before.shallow _ (subst (λ l. OpensTooDeep bounds.depth l (1 + length zs)) (sym e) (deep_before bounds.depth (is.before ++ t ∷ []) zs 1 is.opens)));
}

faulty : (bounds : Bounds) (file_id : FileId) (text : List ℕ) (error : SyntaxError) → IsRefusal bounds file_id text error → (error ≡ errors.OutOfMemory → ⊥) →
    Faulty bounds file_id text (error_at text error) (error_token error)
faulty bounds file_id text errors.OutOfMemory is n = absurd (n refl)
faulty bounds file_id text (errors.NoToken at) (tokens, breaks, few, are) n =
    subst (λ k. Faulty bounds file_id text k None) (sym breaks.place) (record {
      tokens = tokens;
      before = record {
        are_before = subst (λ k. AreBefore bounds file_id text k tokens) breaks.place are;
        ends = lexes_end_by (length text) text tokens breaks.rest breaks.lexes;
        within = omega arith;
        few = few;
      };
      fault = at_end breaks.rest breaks.lexes (stuck_settled breaks.rest breaks.stuck);
    })
faulty bounds file_id text (errors.TooManyTokens at) (tokens, goes, all, are) n =
    let t = token_between (length text) goes.kind goes.rest goes.behind in
    subst (λ k. Faulty bounds file_id text k None) (sym goes.place) (record {
      tokens = tokens;
      before = record {
        are_before = subst (λ k. AreBefore bounds file_id text k tokens) goes.place are;
        ends = lexes_end_by (length text) text tokens goes.rest goes.lexes;
        within = omega arith;
        few = omega (arith, all);
      };
      fault = too_many t goes.behind (then_token (length text) text tokens goes.rest goes.behind goes.kind goes.lexes goes.one_more) all;
    })
faulty bounds file_id text (errors.Unexpected None expected) (tokens, are_tokens, few, none, are) n =
    let whole : length text - 0 ≡ length text = omega arith in
    subst (λ k. Faulty bounds file_id text k None) whole (record {
      tokens = tokens;
      before = record {
        are_before = subst (λ k. AreBefore bounds file_id text k tokens) (sym whole) are;
        ends = lexes_end_by (length text) text tokens [] are_tokens;
        within = omega arith;
        few = few;
      };
      fault = at_end [] are_tokens end_settled;
    })
faulty bounds file_id text (errors.Unexpected (Some t) expected) is n = unexpected_faulty bounds file_id text t is
faulty bounds file_id text (errors.TooDeep t) is n = too_deep_faulty bounds file_id text t is

pub one_place : (bounds : Bounds) (file_id : FileId) (text : List ℕ) (error other : SyntaxError) → IsRefusal bounds file_id text error → IsRefusal bounds file_id text other →
    (error ≡ errors.OutOfMemory → ⊥) → (other ≡ errors.OutOfMemory → ⊥) → (error_at text error ≡ error_at text other) × (error_token error ≡ error_token other)
one_place bounds file_id text error other is so n m =
    let a = faulty bounds file_id text error is n in
    let b = faulty bounds file_id text other so m in
    one_fault bounds file_id text a.tokens b.tokens _ _ _ _ a.before b.before a.fault b.fault
