-- The tokens before one that is refused begin some document.
use Rattle.std.proofs.Common.{◌≡◌, ℕ, suc, ◌+◌, ◌-◌, ◌≤◌, true, ◌||◌, inl, inr, List, [], ◌∷◌, ◌++◌, length, take, Ok, Err, refl, sym, subst, ◌∙◌, ap, arith}
use Rattle.std.proofs.lemmas.List.{append-nil}
use Rattle.graphql_nodes.specs.declared.spans.FileId.{FileId}
use Rattle.graphql_tokens.specs.Lexical.{Lexes}
use Rattle.graphql_tokens.specs.declared.token.Token.{Token}
use Rattle.graphql_tokens.specs.declared.token.TokenKind.TheVariants.{LeftBrace}
use Rattle.graphql_trees.specs.declared.documents.Document.{Document}
use Rattle.graphql_syntax.specs.declared.keywords.Keyword.TheVariants as keyword
use Rattle.graphql_syntax.specs.declared.refusals.Expected.{Expected}
use Rattle.graphql_syntax.specs.declared.refusals.Expected.TheVariants as expected
use Rattle.graphql_syntax.specs.declared.refusals.Refusal.{Refusal}
use Rattle.graphql_syntax.specs.declared.refusals.Refusal.TheVariants.{Unexpected}
use Rattle.graphql_syntax.specs.Inputs.{same_kind, Input}
use Rattle.graphql_syntax.proofs.Locality.{RefusedAt, Reaches, levels_left}
use Rattle.graphql_executable_syntax.specs.Operations.{begins_operation}
use Rattle.graphql_type_system_syntax.specs.DefinitionReaders.{begins_type_system_definition}
use Rattle.graphql_completions.proofs.Likeness.{View, Shown, Stops, Word, Spells, are_words, Like}
use Rattle.graphql_completions.proofs.Completions.{Completes, Goes, below_or_same, like_rest, moving, goes_answer, goes_place, goes_sequence, inner_refuse}
use Rattle.graphql_completions.proofs.Choices.{goes_first, goes_second, inner_choose, goes_starting}
use Rattle.graphql_completions.proofs.DefinitionReaders as type_system
use Rattle.graphql_completions.proofs.ExecutableReaders.{set_words, operation_goes, fragment_goes}
use Rattle.graphql_completions.proofs.ExtensionReaders.{extension_views, extension_goes}
use Rattle.graphql_completions.proofs.Repetitions.{goes_some, like_some}
use Rattle.graphql_completions.proofs.TokenReaders.{keyword_view, string_view, keyword_shown}
use Rattle.graphql_completions.proofs.WrittenTexts.{goes_on_with, EndBy, lexes_end_by, alike_kept}
use Rattle.graphql_parser.specs.declared.bounds.Bounds.{Bounds}
use Rattle.graphql_parser.specs.Documents.{IsDocument}
use Rattle.graphql_parser.specs.DocumentReaders.{executable_definition_at, definition_at, document_at, no_more, whole_document_at}
use Rattle.graphql_parser.specs.Parses.{whole_input}
use Rattle.graphql_parser.specs.Refusals.{AreBefore}
use Rattle.graphql_parser.proofs.DocumentLemmas.{document_sound, document_read, document_local}
use Rattle.graphql_parser.proofs.LevelLemmas.{not_too_deep, same_front}
use Rattle.graphql_parser.proofs.WholeLemmas.{and_then_ok, and_then_err, no_more_is, read_further, refused_further}

-- what definitions begin with
abbrev type_system_view : View
type_system_view = λ kind text.
    string_view kind text || ((keyword_view keyword.Schema kind text || keyword_view keyword.Directive kind text) ||
    ((keyword_view keyword.Scalar kind text || (keyword_view keyword.«Type» kind text || keyword_view keyword.Interface kind text)) ||
    (keyword_view keyword.Union kind text || (keyword_view keyword.Enum kind text || keyword_view keyword.Input kind text))))

type_system_shown : Shown type_system_view begins_type_system_definition
type_system_shown = record { same = λ source t. refl }

abbrev operation_view : View
operation_view = λ kind text.
    same_kind kind LeftBrace || (keyword_view keyword.Query kind text || (keyword_view keyword.Mutation kind text || keyword_view keyword.Subscription kind text))

operation_shown : Shown operation_view begins_operation
operation_shown = record { same = λ source t. refl }

abbrev every_view : View
every_view = λ kind text. true

every_shown : Shown every_view (λ source t. true)
every_shown = record { same = λ source t. refl }

abbrev definition_views : List View
definition_views = extension_views ++ type_system.definition_views ++ []

definition_goes : (depth : ℕ) → Goes definition_views set_words (definition_at depth) (definition_at (suc depth))
unfolding definition_at executable_definition_at same_kind
definition_goes depth =
    goes_second (keyword_shown keyword.Extend) refl refl (moving refl (extension_goes depth))
    (goes_second type_system_shown refl refl (moving refl (type_system.definition_goes depth))
    (goes_first operation_shown refl refl (goes_sequence (operation_goes depth) refl (λ x. goes_answer _))
    (inner_choose (keyword_shown keyword.Fragment) (moving refl (goes_sequence (fragment_goes depth) refl (λ x. goes_answer _))) (inner_refuse [] true expected.Definition))))

abbrev document_views : List View
document_views = definition_views ++ every_view ∷ definition_views

document_goes : (depth : ℕ) → Goes document_views set_words (document_at depth) (document_at (suc depth))
unfolding document_at same_kind
document_goes depth =
    goes_starting refl (λ start. goes_sequence (goes_some refl every_shown (definition_goes depth)) refl (λ definitions. goes_sequence (goes_place start) refl (λ span. goes_answer _)))

-- the end stops each reader
end_stops : (views : List View) (source : List ℕ) → Stops views source []
end_stops [] source = tt
end_stops (view ∷ views) source = (refl, end_stops views source)

-- words with which the tokens before the last so many are a document
pub record Completed (depth : ℕ) (i : Input) (left : ℕ) : Type 0 where
  pub words : List Word
  pub written : are_words words ≡ true
  pub reads : (k : Input) (r tokens : List Token) → Like r tokens i k → length r ≡ left → Spells k.source tokens words →
      (found : Document × Input) × (document_at (suc depth) k ≡ Ok found) × (found.1.tokens ≡ [])

by_words : (depth : ℕ) (i : Input) (left : ℕ) → Completes document_views (document_at (suc depth)) i left → Completed depth i left
by_words depth i left c = record {
  words = c.words;
  written = c.written;
  reads = λ k r tokens like same spells.
      let a = c.reads k r tokens [] (subst (λ l. Like r l i k) (sym (append-nil tokens)) like) same spells (end_stops document_views k.source) in
      (a.found, a.reads, a.rest);
}

set_are_words : are_words set_words ≡ true
unfolding same_kind
set_are_words = refl

by_start : (depth : ℕ) (i : Input) (left : ℕ) → left ≡ length i.tokens → Completed depth i left
by_start depth i left here = record {
  words = set_words;
  written = set_are_words;
  reads = λ k r tokens like same spells.
      let a = (document_goes depth).starts k tokens [] (like_rest r tokens i k like (omega (arith, same, here)) ∙ sym (append-nil tokens)) spells (end_stops document_views k.source) in
      (a.found, a.reads, a.rest);
}

pub by_reading : (depth : ℕ) (i : Input) (found : Document × Input) (left : ℕ) → document_at depth i ≡ Ok found → length found.1.tokens ≡ left → Completed depth i left
by_reading depth i found left e n = record {
  words = [];
  written = refl;
  reads = λ k r tokens like same spells. none k r tokens like same spells;
} where
  none : (k : Input) (r tokens : List Token) → Like r tokens i k → length r ≡ left → Spells k.source tokens [] →
      (found : Document × Input) × (document_at (suc depth) k ≡ Ok found) × (found.1.tokens ≡ [])
  none k r (t ∷ tokens) like same spells = absurd spells
  none k r [] like same spells =
      let a = (document_goes depth).inner.again i k r [] found e like (omega (arith, same, n)) (λ all. end_stops document_views k.source) in
      ((found.0, a.end), a.reads, like_rest r [] found.1 a.end a.like (omega (arith, same, n)))

-- what is behind a document is refused
pub no_more_err : (x : Document) (end : Input) (tokens : List Token) (f : Refusal) → no_more x end tokens ≡ Err f → f ≡ Unexpected (length end.tokens) expected.Definition
no_more_err x end [] f e = absurd (let b : ⊥ = cc in b)
no_more_err x end (t ∷ rest) f e = let same : f ≡ Unexpected (length end.tokens) expected.Definition = cc in same

pub whole_completed : (depth : ℕ) (i : Input) (f : Refusal) (left : ℕ) → whole_document_at depth i ≡ Err f → RefusedAt left f → Completed depth i left
unfolding whole_document_at
whole_completed depth i f left e at = elim (and_then_err (document_at depth i) (λ found. no_more found.0 found.1 found.1.tokens) f e) [
  | inl h ↦ elim (below_or_same left (length i.tokens) ((document_goes depth).inner.within i f left h at)) [
    | inl below ↦ by_words depth i left ((document_goes depth).inner.completes i f left h at below)
    | inr same ↦ by_start depth i left same
  ]
  | inr h ↦ by_reading depth i h.0 left h.1 (subst (RefusedAt left) (no_more_err h.0.0 h.0.1 h.0.1.tokens f h.2) at)
]

pub read_completed : (depth : ℕ) (i : Input) (tree : Document) → whole_document_at depth i ≡ Ok tree → Completed depth i 0
unfolding whole_document_at
read_completed depth i tree e =
    let (found, ef, e1) = and_then_ok (document_at depth i) (λ found. no_more found.0 found.1 found.1.tokens) tree e in
    by_reading depth i found 0 ef (ap length (no_more_is found.0 tree found.1 found.1.tokens e1).0)

-- the refused token is one of them, or their end
pub whole_within : (depth : ℕ) (i : Input) (f : Refusal) (left : ℕ) → whole_document_at depth i ≡ Err f → RefusedAt left f → left ≤ length i.tokens
unfolding whole_document_at
whole_within depth i f left e at = elim (and_then_err (document_at depth i) (λ found. no_more found.0 found.1 found.1.tokens) f e) [
  | inl h ↦ (document_goes depth).inner.within i f left h at
  | inr h ↦
      let n : length h.0.1.tokens ≡ left = subst (RefusedAt left) (no_more_err h.0.0 h.0.1 h.0.1.tokens f h.2) at in
      omega (arith, (document_goes depth).inner.less i h.0 h.1)
]

-- where the tokens up to the refused one begin another text too, no document begins with them
pub whole_unlike : (depth : ℕ) (i : Input) (last : ℕ) (wanted : Expected) → whole_document_at depth i ≡ Err (Unexpected (suc last) wanted) → (k : Input) (r s : List Token) → Like r s i k →
    length r ≡ last → (any : ℕ) (tree : Document) (end : Input) → IsDocument any k tree end → end.tokens ≡ [] → ⊥
unfolding whole_document_at
whole_unlike depth i last wanted e k r s like n any tree end is whole =
    let same : suc depth + any ≡ suc (any + depth) = omega arith in
    let read = read_further (suc depth) any k (tree, end) (document_read any k tree end is whole) in
    let there : document_at (suc (any + depth)) k ≡ Ok (tree, end) = rw (← same) read in
    let refused = refused_further any depth i (suc last) wanted e in
    elim (and_then_err (document_at (any + depth) i) (λ found. no_more found.0 found.1 found.1.tokens) (Unexpected (suc last) wanted) refused) [
      | inl h ↦ let (x, failed) = (document_goes (any + depth)).inner.lost i k r s (suc last) wanted h like (omega arith) in let b : ⊥ = cc in b
      | inr h ↦ left h.0 h.1 (no_more_err h.0.0 h.0.1 h.0.1.tokens _ h.2) there
    ] where
      left : (found : Document × Input) → document_at (any + depth) i ≡ Ok found → Unexpected (suc last) wanted ≡ Unexpected (length found.1.tokens) expected.Definition →
          document_at (suc (any + depth)) k ≡ Ok (tree, end) → ⊥
      left found ef so there =
          let size : suc last ≡ length found.1.tokens = cc in
          let a = (document_goes (any + depth)).inner.again i k r s found ef like (omega arith) (λ all. absurd (omega arith)) in
          let again = a.reads in
          let both : (found.0, a.end) ≡ (tree, end) = cc in
          let none : a.end.tokens ≡ [] = ap (λ (q : Document × Input). q.1.tokens) both ∙ whole in
          omega (arith, like_some r s found.1 a.end a.like (omega arith), ap length none)

-- no more opens than may be in what is read
reached : (depth : ℕ) (i : Input) (found : Document × Input) (left : ℕ) → document_at depth i ≡ Ok found → length found.1.tokens ≡ left → Reaches depth i.tokens left
reached depth i found left e n =
    let s = (document_local depth).steps i found e in
    record { front = s.front; rest = found.1.tokens; split = s.split; place = n; room = depth; levels = s.levels }

-- no more opens than may be before what is refused, or in all that is read
pub whole_reaches : (depth : ℕ) (i : Input) (f : Refusal) (left : ℕ) → whole_document_at depth i ≡ Err f → RefusedAt left f → Reaches depth i.tokens left
unfolding whole_document_at
whole_reaches depth i f left e at = elim (and_then_err (document_at depth i) (λ found. no_more found.0 found.1 found.1.tokens) f e) [
  | inl h ↦ (document_local depth).reaches i f left h at
  | inr h ↦ reached depth i h.0 left h.1 (subst (RefusedAt left) (no_more_err h.0.0 h.0.1 h.0.1.tokens f h.2) at)
]

pub read_reaches : (depth : ℕ) (i : Input) (tree : Document) → whole_document_at depth i ≡ Ok tree → Reaches depth i.tokens 0
unfolding whole_document_at
read_reaches depth i tree e =
    let (found, ef, e1) = and_then_ok (document_at depth i) (λ found. no_more found.0 found.1 found.1.tokens) tree e in
    reached depth i found 0 ef (ap length (no_more_is found.0 tree found.1 found.1.tokens e1).0)

-- the tokens before what is refused
pub are_before : (bounds : Bounds) (file_id : FileId) (text : List ℕ) (before after : List Token) (rest : List ℕ) (at : ℕ) → Lexes (length text) text before rest →
    at ≡ length text - length rest → Completed bounds.depth (whole_input file_id text (before ++ after)) (length after) → Reaches bounds.depth (before ++ after) (length after) →
    AreBefore bounds file_id text at before
are_before bounds file_id text before after rest at lexes place c reaches =
    let g = goes_on_with text before rest at c.words lexes place c.written in
    let within : at ≤ length text = omega arith in
    let like : Like after g.tokens (whole_input file_id text (before ++ after)) (whole_input file_id (take at text ++ g.more) (before ++ g.tokens)) = record {
      file_id = refl;
      ended = refl;
      tokens = alike_kept text g.more at before after g.tokens within (subst (λ n. EndBy n before) (sym place) (lexes_end_by (length text) text before rest lexes));
    } in
    let (found, reads, whole) = c.reads (whole_input file_id (take at text ++ g.more) (before ++ g.tokens)) after g.tokens like refl g.spells in
    record {
      begins = record {
        more = g.more;
        others = g.tokens;
        depth = suc bounds.depth;
        tree = found.0;
        end = found.1;
        are_tokens = g.are_tokens;
        is_document = document_sound (suc bounds.depth) _ found reads;
        whole = whole;
      };
      shallow = λ left deep.
          not_too_deep bounds.depth reaches.room before left
          (ap (levels_left bounds.depth) (sym (same_front reaches.front before reaches.rest after (sym reaches.split) reaches.place)) ∙ reaches.levels) deep;
    }
