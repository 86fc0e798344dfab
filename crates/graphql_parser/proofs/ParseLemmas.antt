-- A text that is a document is read as it, and an error says what it is to say.
use Rattle.std.proofs.Common.{◌≡◌, ℕ, zero, suc, ◌-◌, ◌≤◌, List, [], ◌∷◌, ◌++◌, length, take, drop, None, Some, Result, Ok, Err, refl, sym, subst, ◌∙◌, ap, arith}
use Rattle.std.proofs.lemmas.List.{append_assoc, append-nil, length-append, take-append-drop}
use Rattle.graphql_nodes.specs.declared.spans.FileId.{FileId}
use Rattle.graphql_tokens.specs.Lexical.{AreTokens, Lexes, Scans}
use Rattle.graphql_tokens.specs.declared.lexer.Stop.{Stop}
use Rattle.graphql_tokens.specs.declared.lexer.Stop.TheVariants.{End, NoToken, TooMany}
use Rattle.graphql_tokens.specs.declared.token.Token.{Token}
use Rattle.graphql_tokens.proofs.LexingLemmas.{one_list, scan_only}
use Rattle.graphql_trees.specs.declared.documents.Document.{Document}
use Rattle.graphql_syntax.specs.declared.refusals.Expected.{Expected}
use Rattle.graphql_syntax.specs.declared.refusals.Refusal.{Refusal}
use Rattle.graphql_syntax.specs.declared.refusals.Refusal.TheVariants as refusal
use Rattle.graphql_syntax.specs.Inputs.{Input}
use Rattle.graphql_syntax.specs.Reading.{Fails}
use Rattle.graphql_syntax.proofs.Locality.{Reaches, RefusedAt}
use Rattle.graphql_completions.proofs.Likeness.{Alike}
use Rattle.graphql_completions.proofs.WrittenTexts.{EndBy, alike_kept}
use Rattle.graphql_parser.specs.declared.bounds.Bounds.{Bounds}
use Rattle.graphql_parser.specs.declared.errors.SyntaxError.{SyntaxError}
use Rattle.graphql_parser.specs.declared.errors.SyntaxError.TheVariants as errors
use Rattle.graphql_parser.specs.Documents.{IsDocument}
use Rattle.graphql_parser.specs.DocumentReaders.{whole_document_at}
use Rattle.graphql_parser.specs.Parses.{whole_input, ParsesDocument}
use Rattle.graphql_parser.specs.Refusals.{AreBefore, IsUnexpected, IsTooDeep, IsRefusal, stop_error, refusal_error}
use Rattle.graphql_parser.proofs.CompletionLemmas.{Completed, are_before, read_completed, read_reaches, whole_completed, whole_reaches, whole_unlike, whole_within}
use Rattle.graphql_parser.proofs.PlaceLemmas.{placed}
use Rattle.graphql_parser.proofs.WholeLemmas.{whole_sound, whole_read, whole_unfinished, whole_deep, lexes_first, token_there, no_token_there, same_split, one_tree}

-- the tokens of a scan are those that the text begins with
pub scanned : (bound : ℕ) (text : List ℕ) (tokens : List Token) (stop : Stop) → Scans bound text tokens stop → (rest : List ℕ) × Lexes (length text) text tokens rest
scanned bound text tokens End s = ([], s.0)
scanned bound text tokens (NoToken at) s = (s.0.rest, s.0.lexes)
scanned bound text tokens (TooMany at) s = (s.0.rest, s.0.lexes)

pub parsed : (bounds : Bounds) (file_id : FileId) (text : List ℕ) (tokens : List Token) (tree : Document) → Scans bounds.tokens text tokens End →
    whole_document_at bounds.depth (whole_input file_id text tokens) ≡ Ok tree → ParsesDocument bounds file_id text tree
parsed bounds file_id text tokens tree s e =
    let (end, is, whole) = whole_sound bounds.depth (whole_input file_id text tokens) tree e in
    record { tokens = tokens; end = end; are_tokens = s.0; few = s.1; is_document = is; whole = whole }

-- the same tokens are read so
pub reads : (bounds : Bounds) (file_id : FileId) (text : List ℕ) (tokens : List Token) (tree : Document) → AreTokens text tokens →
    ParsesDocument bounds file_id text tree → whole_document_at bounds.depth (whole_input file_id text tokens) ≡ Ok tree
reads bounds file_id text tokens tree are is =
    let same = one_list text is.tokens tokens is.are_tokens are in
    subst (λ ts. whole_document_at bounds.depth (whole_input file_id text ts) ≡ Ok tree) same
    (whole_read bounds.depth (whole_input file_id text is.tokens) tree is.end is.is_document is.whole)

pub one_document : (bounds others : Bounds) (file_id : FileId) (text : List ℕ) (a b : Document) → ParsesDocument bounds file_id text a → ParsesDocument others file_id text b → a ≡ b
one_document bounds others file_id text a b x y =
    let same = one_list text y.tokens x.tokens y.are_tokens x.are_tokens in
    one_tree (whole_input file_id text x.tokens) bounds.depth others.depth a b x.end y.end x.is_document x.whole
    (subst (λ ts. IsDocument others.depth (whole_input file_id text ts) b y.end) same y.is_document) y.whole

-- the tokens before one from which on so many are left
before_refused : (bounds : Bounds) (file_id : FileId) (text : List ℕ) (tokens : List Token) (r : Refusal) (left : ℕ) → whole_document_at bounds.depth (whole_input file_id text tokens) ≡ Err r →
    RefusedAt left r → (before after : List Token) (rest : List ℕ) (at : ℕ) → tokens ≡ before ++ after → length after ≡ left → Lexes (length text) text before rest →
    at ≡ length text - length rest → AreBefore bounds file_id text at before
before_refused bounds file_id text tokens r left e refused before after rest at split size lexes place =
    let i = whole_input file_id text tokens in
    are_before bounds file_id text before after rest at lexes place
    (subst (λ n. Completed bounds.depth (whole_input file_id text (before ++ after)) n) (sym size)
    (subst (λ ts. Completed bounds.depth (whole_input file_id text ts) left) split (whole_completed bounds.depth i r left e refused)))
    (subst (λ n. Reaches bounds.depth (before ++ after) n) (sym size) (subst (λ ts. Reaches bounds.depth ts left) split (whole_reaches bounds.depth i r left e refused)))

-- as many as may be at most
scanned_few : (bound : ℕ) (text : List ℕ) (tokens : List Token) (stop : Stop) → Scans bound text tokens stop → length tokens ≤ bound
scanned_few bound text tokens End s = s.1
scanned_few bound text tokens (NoToken at) s = s.1
scanned_few bound text tokens (TooMany at) s = omega (arith, s.1)

-- the refused token
unexpected_there : (bounds : Bounds) (file_id : FileId) (text : List ℕ) (tokens : List Token) (stop : Stop) (last : ℕ) (wanted : Expected) → Scans bounds.tokens text tokens stop →
    whole_document_at bounds.depth (whole_input file_id text tokens) ≡ Err (refusal.Unexpected (suc last) wanted) →
    IsRefusal bounds file_id text (refusal_error (refusal.Unexpected (suc last) wanted) tokens stop)
unexpected_there bounds file_id text tokens stop last wanted s e =
    let i = whole_input file_id text tokens in
    let within = whole_within bounds.depth i (refusal.Unexpected (suc last) wanted) (suc last) e refl in
    let (before, t, after, split, found, size) = token_there (suc last) tokens (omega arith) within in
    let (rest, lexes) = scanned bounds.tokens text tokens stop s in
    let (middle, first) = lexes_first (length text) text tokens rest lexes (before ++ t ∷ []) after (split ∙ sym (append_assoc before (t ∷ []) after)) in
    let p = placed text before t middle first in
    let is : IsUnexpected bounds file_id text t = record {
      before = before;
      rest = middle;
      lexes = first;
      few = omega (arith, scanned_few bounds.tokens text tokens stop s, ap length split, length-append before (t ∷ after));
      are_before = before_refused bounds file_id text tokens (refusal.Unexpected (suc last) wanted) (suc last) e refl before (t ∷ after) p.begins t.start split (omega (arith, size)) p.lexes p.start;
      none = λ other same others any tree end document whole.
          whole_unlike bounds.depth i last wanted e (whole_input file_id other (before ++ t ∷ others)) after others
          (record { file_id = refl; ended = refl; tokens = alike text other before t after others tokens split p.ends p.within same }) (omega (arith, size)) any tree end document whole;
    } in
    rw (found, IsRefusal) is where
      alike : (text other : List ℕ) (before : List Token) (t : Token) (after others tokens : List Token) → tokens ≡ before ++ t ∷ after → EndBy t.end (before ++ t ∷ []) → t.end ≤ length text →
          take t.end other ≡ take t.end text → Alike text other after others tokens (before ++ t ∷ others)
      alike text other before t after others tokens split ends within same =
          subst (λ ts. Alike text other after others ts (before ++ t ∷ others)) (append_assoc before (t ∷ []) after ∙ sym split)
          (subst (λ ts. Alike text other after others ((before ++ t ∷ []) ++ after) ts) (append_assoc before (t ∷ []) others)
          (subst (λ o. Alike text o after others ((before ++ t ∷ []) ++ after) ((before ++ t ∷ []) ++ others)) (ap (λ l. l ++ drop t.end other) (sym same) ∙ take-append-drop t.end other)
          (alike_kept text (drop t.end other) t.end (before ++ t ∷ []) after others within ends)))

-- where all tokens are read and more are to come, or none is refused
at_stop : (bounds : Bounds) (file_id : FileId) (text : List ℕ) (tokens : List Token) (rest : List ℕ) (at : ℕ) → Completed bounds.depth (whole_input file_id text tokens) 0 →
    Reaches bounds.depth tokens 0 → Lexes (length text) text tokens rest → at ≡ length text - length rest → AreBefore bounds file_id text at tokens
at_stop bounds file_id text tokens rest at c reaches lexes place =
    are_before bounds file_id text tokens [] rest at lexes place (subst (λ ts. Completed bounds.depth (whole_input file_id text ts) 0) (sym (append-nil tokens)) c)
    (subst (λ ts. Reaches bounds.depth ts 0) (sym (append-nil tokens)) reaches)

unexpected_end : (bounds : Bounds) (file_id : FileId) (text : List ℕ) (tokens : List Token) (stop : Stop) (wanted : Expected) → Scans bounds.tokens text tokens stop →
    whole_document_at bounds.depth (whole_input file_id text tokens) ≡ Err (refusal.Unexpected 0 wanted) →
    IsRefusal bounds file_id text (refusal_error (refusal.Unexpected 0 wanted) tokens stop)
unexpected_end bounds file_id text tokens stop wanted s e =
    by stop s (whole_completed bounds.depth (whole_input file_id text tokens) (refusal.Unexpected 0 wanted) 0 e refl)
    (whole_reaches bounds.depth (whole_input file_id text tokens) (refusal.Unexpected 0 wanted) 0 e refl) where
      by : (stop : Stop) → Scans bounds.tokens text tokens stop → Completed bounds.depth (whole_input file_id text tokens) 0 → Reaches bounds.depth tokens 0 →
          IsRefusal bounds file_id text (refusal_error (refusal.Unexpected 0 wanted) tokens stop)
      by End s c reaches =
          rw (no_token_there tokens, IsRefusal) (
            tokens,
            s.0,
            s.1,
            λ any tree end is whole. whole_unfinished bounds.depth (whole_input file_id text tokens) 0 wanted e any tree end is whole,
            at_stop bounds file_id text tokens [] (length text) c reaches s.0 (omega arith),
          )
      by (NoToken at) s c reaches = rw (no_token_there tokens, IsRefusal) (tokens, s.0, s.1, at_stop bounds file_id text tokens s.0.rest at c reaches s.0.lexes s.0.place)
      by (TooMany at) s c reaches = rw (no_token_there tokens, IsRefusal) (tokens, s.0, s.1, at_stop bounds file_id text tokens s.0.rest at c reaches s.0.lexes s.0.place)

too_deep_there : (bounds : Bounds) (file_id : FileId) (text : List ℕ) (tokens : List Token) (stop : Stop) (left : ℕ) → Scans bounds.tokens text tokens stop →
    whole_document_at bounds.depth (whole_input file_id text tokens) ≡ Err (refusal.TooDeep left) →
    IsRefusal bounds file_id text (refusal_error (refusal.TooDeep left) tokens stop)
too_deep_there bounds file_id text tokens stop left s e =
    let deep = whole_deep bounds.depth (whole_input file_id text tokens) left e in
    let all = deep.all in
    let size = deep.place in
    let (before, t, after, split, found, count) = token_there left tokens (omega arith) (omega (arith, ap length all, length-append deep.before (deep.opening ∷ deep.after))) in
    let (rest, lexes) = scanned bounds.tokens text tokens stop s in
    let (middle, first) = lexes_first (length text) text tokens rest lexes (before ++ t ∷ []) after (split ∙ sym (append_assoc before (t ∷ []) after)) in
    let (same_before, same_token) = same_split before deep.before t deep.opening after deep.after (sym split ∙ all) (omega arith) in
    let opens = deep.opens in
    let as_many = deep.as_many in
    let p = placed text before t middle first in
    let is : IsTooDeep bounds file_id text t = record {
      before = before;
      rest = middle;
      lexes = first;
      few = omega (arith, scanned_few bounds.tokens text tokens stop s, ap length split, length-append before (t ∷ after));
      are_before = before_refused bounds file_id text tokens (refusal.TooDeep left) left e refl before (t ∷ after) p.begins t.start split (omega (arith, count)) p.lexes p.start;
      opens = record {
        before = before;
        opening = t;
        after = [];
        all = refl;
        place = refl;
        opens = rw same_token opens;
        as_many = rw same_before as_many;
      };
    } in
    rw (found, IsRefusal) is

-- what is answered, by what the tokens are
pub refused : (bounds : Bounds) (file_id : FileId) (text : List ℕ) (tokens : List Token) (stop : Stop) (r : Refusal) → Scans bounds.tokens text tokens stop →
    Fails r (whole_document_at bounds.depth (whole_input file_id text tokens)) → IsRefusal bounds file_id text (refusal_error r tokens stop)
refused bounds file_id text tokens stop refusal.OutOfMemory s e = tt
refused bounds file_id text tokens stop (refusal.Unexpected zero wanted) s e = unexpected_end bounds file_id text tokens stop wanted s e
refused bounds file_id text tokens stop (refusal.Unexpected (suc last) wanted) s e = unexpected_there bounds file_id text tokens stop last wanted s e
refused bounds file_id text tokens stop (refusal.TooDeep left) s e = too_deep_there bounds file_id text tokens stop left s e

-- where the text is a document, the scan came to its end, and the tokens are read so
pub only : (bounds : Bounds) (file_id : FileId) (text : List ℕ) (tokens : List Token) (stop : Stop) (tree : Document) → Scans bounds.tokens text tokens stop →
    ParsesDocument bounds file_id text tree → (stop ≡ End) × (whole_document_at bounds.depth (whole_input file_id text tokens) ≡ Ok tree)
only bounds file_id text tokens stop tree s is =
    let (end, same) = scan_only bounds.tokens text tokens is.tokens stop s is.are_tokens is.few in (
      end,
      subst (λ ts. whole_document_at bounds.depth (whole_input file_id text ts) ≡ Ok tree) (sym same)
          (reads bounds file_id text is.tokens tree is.are_tokens is),
    )

pub failed_only : (tokens : List Token) (stop : Stop) (tree : Document) (read : Result Document Refusal) (r : Refusal) → Fails r read → read ≡ Ok tree →
    refusal_error r tokens stop ≡ errors.OutOfMemory
failed_only tokens stop tree read refusal.OutOfMemory f e = refl
failed_only tokens stop tree read (refusal.Unexpected left wanted) f e = absurd (let b : ⊥ = cc in b)
failed_only tokens stop tree read (refusal.TooDeep left) f e = absurd (let b : ⊥ = cc in b)

pub no_stop : (stop : Stop) → stop_error stop ≡ None → stop ≡ End
no_stop End e = refl
no_stop (NoToken at) e = absurd (let b : ⊥ = cc in b)
no_stop (TooMany at) e = absurd (let b : ⊥ = cc in b)

pub end_no_error : (stop : Stop) (error : SyntaxError) → stop ≡ End → stop_error stop ≡ Some error → ⊥
end_no_error End error s e = let b : ⊥ = cc in b
end_no_error (NoToken at) error s e = let b : ⊥ = cc in b
end_no_error (TooMany at) error s e = let b : ⊥ = cc in b

pub stopped : (bounds : Bounds) (file_id : FileId) (text : List ℕ) (tokens : List Token) (stop : Stop) (error : SyntaxError) (tree : Document) → Scans bounds.tokens text tokens stop →
    stop_error stop ≡ Some error → whole_document_at bounds.depth (whole_input file_id text tokens) ≡ Ok tree → IsRefusal bounds file_id text error
stopped bounds file_id text tokens stop error tree s e read =
    by stop s e (read_completed bounds.depth (whole_input file_id text tokens) tree read) (read_reaches bounds.depth (whole_input file_id text tokens) tree read) where
      by : (stop : Stop) → Scans bounds.tokens text tokens stop → stop_error stop ≡ Some error → Completed bounds.depth (whole_input file_id text tokens) 0 → Reaches bounds.depth tokens 0 →
          IsRefusal bounds file_id text error
      by End s e c reaches = absurd (let b : ⊥ = cc in b)
      by (NoToken at) s e c reaches =
          let same : errors.NoToken at ≡ error = cc in
          subst (IsRefusal bounds file_id text) same (tokens, s.0, s.1, at_stop bounds file_id text tokens s.0.rest at c reaches s.0.lexes s.0.place)
      by (TooMany at) s e c reaches =
          let same : errors.TooManyTokens at ≡ error = cc in
          subst (IsRefusal bounds file_id text) same (tokens, s.0, s.1, at_stop bounds file_id text tokens s.0.rest at c reaches s.0.lexes s.0.place)

-- a cursor before all tokens
pub same_input : (i : Input) (file_id : FileId) (text : List ℕ) (tokens : List Token) → i.file_id ≡ file_id → i.source ≡ text → i.tokens ≡ tokens → i.ended ≡ 0 →
    i ≡ whole_input file_id text tokens
same_input i file_id text tokens a b c d =
    ap (λ x. of x i.source i.tokens i.ended) a ∙ ap (λ x. of file_id x i.tokens i.ended) b ∙ ap (λ x. of file_id text x i.ended) c ∙
    ap (λ x. of file_id text tokens x) d where
      of : FileId → List ℕ → List Token → ℕ → Input
      of f s t e = record { file_id = f; source = s; tokens = t; ended = e }
