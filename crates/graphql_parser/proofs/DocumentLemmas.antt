-- The readers of documents answer by their grammar.
use Rattle.std.proofs.Common.{◌≡◌, ℕ, zero, suc, ◌+◌, ◌<◌, true, inl, inr, [], length, Result, Ok, refl, sym, subst, ◌∙◌, ap, arith}
use Rattle.graphql_trees.specs.declared.documents.Definition.{Definition}
use Rattle.graphql_trees.specs.declared.documents.Document.{Document}
use Rattle.graphql_syntax.specs.declared.keywords.Keyword.TheVariants as keyword
use Rattle.graphql_syntax.specs.declared.production.More.TheVariants.{UntilEnd}
use Rattle.graphql_syntax.specs.declared.refusals.Refusal.{Refusal}
use Rattle.graphql_syntax.specs.Inputs.{Input, next_passes}
use Rattle.graphql_syntax.specs.Reading.{more_test}
use Rattle.graphql_syntax.proofs.Deepening.{Grows, grows_itself, grows_further, grows_sequence, grows_choose, grows_starting, grows_some}
use Rattle.graphql_syntax.proofs.Locality.{Local, Moves, local_sequence, local_choose, local_answer, local_refuse, local_place, local_starting}
use Rattle.graphql_syntax.proofs.NextLemmas.{at_end, other_keyword}
use Rattle.graphql_syntax.proofs.ReaderLemmas.{sequence_ok, sequence_read, choose_ok, choose_first, choose_second, starting_ok, starting_read, placed_is, placed_read, answer_is, answer_read, refuse_not_ok}
use Rattle.graphql_syntax.proofs.RepetitionLemmas.{Item, some_sound, some_read, local_some}
use Rattle.graphql_executable_syntax.proofs.Deepening.{operation_grows, fragment_grows}
use Rattle.graphql_type_system_syntax.proofs.Deepening as deeper
use Rattle.graphql_executable_syntax.proofs.FragmentLemmas.{fragment_begins, fragment_sound, fragment_read, fragment_moves, fragment_local}
use Rattle.graphql_executable_syntax.proofs.OperationLemmas.{operation_begins, no_operation_begins, operation_sound, operation_read, operation_moves, operation_local}
use Rattle.graphql_type_system_syntax.proofs.DefinitionLemmas as type_system
use Rattle.graphql_type_system_syntax.proofs.BeginningLemmas.{end_follows, keyword_follows, definition_follows, extension_follows, begins_no_extend, fragment_begins_none}
use Rattle.graphql_type_system_syntax.proofs.MemberLemmas.{DefinitionEnds}
use Rattle.graphql_parser.specs.Documents.{IsDefinition, operation, fragment, type_system, extension, IsDocument}
use Rattle.graphql_parser.specs.DocumentReaders.{definition_at, document_at, executable_definition_at}
use Rattle.graphql_parser.proofs.BeginningLemmas.{some_token, operation_follows, operation_no_extension, operation_no_type_system}

executable_sound : (depth : ℕ) (i : Input) (r : Definition × Input) → executable_definition_at depth i ≡ Ok r → IsDefinition depth i r.0 r.1
unfolding executable_definition_at
executable_sound depth i r e = elim (choose_ok _ _ _ _ _ e) [
  | inl h ↦
      let (x, ex, e1) = sequence_ok _ _ _ _ h.1 in
      subst (λ (q : Definition × Input). IsDefinition depth i q.0 q.1) (answer_is _ _ _ e1) (operation i x.1 x.0 (operation_sound depth i x ex))
  | inr h ↦ elim (choose_ok _ _ _ _ _ h.1) [
    | inl k ↦
        let (x, ex, e1) = sequence_ok _ _ _ _ k.1 in
        subst (λ (q : Definition × Input). IsDefinition depth i q.0 q.1) (answer_is _ _ _ e1) (fragment i x.1 x.0 (fragment_sound depth i x ex))
    | inr k ↦ absurd (refuse_not_ok _ i r k.1)
  ]
]

definition_sound : (depth : ℕ) (i : Input) (r : Definition × Input) → definition_at depth i ≡ Ok r → IsDefinition depth i r.0 r.1
unfolding definition_at
definition_sound depth i r e = elim (choose_ok _ _ _ _ _ e) [
  | inl h ↦ extension i r.1 r.0 (type_system.extension_sound depth i r h.1)
  | inr h ↦ elim (choose_ok _ _ _ _ _ h.1) [
    | inl k ↦ type_system i r.1 r.0 (type_system.definition_sound depth i r k.1)
    | inr k ↦ executable_sound depth i r k.1
  ]
]

definition_read : (depth : ℕ) (i : Input) (x : Definition) (j : Input) → IsDefinition depth i x j → DefinitionEnds j → definition_at depth i ≡ Ok (x, j)
unfolding definition_at executable_definition_at
definition_read depth _ _ _ (operation i j x is) ends =
    let begins = operation_begins depth i x j is in
    choose_second _ _ _ i (operation_no_extension i begins) ∙ choose_second _ _ _ i (operation_no_type_system i begins) ∙ choose_first _ _ _ i begins ∙
    sequence_read _ _ i x j _ (operation_read depth i x j is) (answer_read _ j)
definition_read depth _ _ _ (fragment i j x is) ends =
    let begins = fragment_begins depth i x j is in
    choose_second _ _ _ i (other_keyword keyword.Fragment keyword.Extend i refl begins) ∙ choose_second _ _ _ i (fragment_begins_none i begins) ∙
    choose_second _ _ _ i (no_operation_begins i begins) ∙ choose_first _ _ _ i begins ∙
    sequence_read _ _ i x j _ (fragment_read depth i x j is) (answer_read _ j)
definition_read depth _ _ _ (type_system i j x is) ends =
    let begins = type_system.definition_begins depth i x j is in
    choose_second _ _ _ i (begins_no_extend i begins) ∙ choose_first _ _ _ i begins ∙ type_system.definition_read depth i x j is ends
definition_read depth _ _ _ (extension i j x is) ends =
    choose_first _ _ _ i (type_system.extension_begins depth i x j is) ∙ type_system.extension_read depth i x j is ends

follows : (depth : ℕ) (i : Input) (x : Definition) (j : Input) → IsDefinition depth i x j → DefinitionEnds i
follows depth _ _ _ (operation i j x is) = operation_follows i (operation_begins depth i x j is)
follows depth _ _ _ (fragment i j x is) = keyword_follows keyword.Fragment i refl (fragment_begins depth i x j is)
follows depth _ _ _ (type_system i j x is) = definition_follows i (type_system.definition_begins depth i x j is)
follows depth _ _ _ (extension i j x is) = extension_follows i (type_system.extension_begins depth i x j is)

definition_passes : (depth : ℕ) (i : Input) (x : Definition) (j : Input) → IsDefinition depth i x j → next_passes (more_test UntilEnd) i ≡ true
definition_passes depth _ _ _ (operation i j x is) = some_token _ i (operation_begins depth i x j is)
definition_passes depth _ _ _ (fragment i j x is) = some_token _ i (fragment_begins depth i x j is)
definition_passes depth _ _ _ (type_system i j x is) = some_token _ i (type_system.definition_begins depth i x j is)
definition_passes depth _ _ _ (extension i j x is) = some_token _ i (type_system.extension_begins depth i x j is)

definition_moves : (depth : ℕ) (i : Input) (x : Definition) (j : Input) → IsDefinition depth i x j → length j.tokens < length i.tokens
definition_moves depth _ _ _ (operation i j x is) = operation_moves depth i x j is
definition_moves depth _ _ _ (fragment i j x is) = fragment_moves depth i x j is
definition_moves depth _ _ _ (type_system i j x is) = type_system.definition_moves depth i x j is
definition_moves depth _ _ _ (extension i j x is) = type_system.extension_moves depth i x j is

definition_reader_moves : (depth : ℕ) → Moves (definition_at depth)
definition_reader_moves depth i r e = definition_moves depth i r.0 r.1 (definition_sound depth i r e)

definition_local : (depth : ℕ) → Local depth (definition_at depth)
unfolding definition_at executable_definition_at
definition_local depth =
    local_choose depth _ _ _ (type_system.extension_local depth) (local_choose depth _ _ _ (type_system.definition_local depth)
    (local_choose depth _ _ _ (local_sequence depth _ _ (operation_local depth) (λ x. local_answer depth _))
    (local_choose depth _ _ _ (local_sequence depth _ _ (fragment_local depth) (λ x. local_answer depth _)) (local_refuse depth _))))

definition_item : (depth : ℕ) → Item (IsDefinition depth) (more_test UntilEnd) (definition_at depth) DefinitionEnds
definition_item depth = record {
  reads = definition_read depth;
  passes = definition_passes depth;
  follows = follows depth;
  moves = definition_moves depth;
}

pub document_sound : (depth : ℕ) (i : Input) (r : Document × Input) → document_at depth i ≡ Ok r → IsDocument depth i r.0 r.1
unfolding document_at
document_sound depth i r e =
    let (definitions, ed, e1) = sequence_ok _ _ _ _ (starting_ok _ _ _ e) in
    subst (λ (q : Document × Input). IsDocument depth i q.0 q.1) (placed_is _ (λ span. record { definitions = definitions.0; span = span }) _ _ e1)
    (record { definitions = some_sound (IsDefinition depth) _ _ (definition_sound depth) i definitions ed; span = refl })

-- a document behind which no token comes is read
pub document_read : (depth : ℕ) (i : Input) (x : Document) (j : Input) → IsDocument depth i x j → j.tokens ≡ [] → document_at depth i ≡ Ok (x, j)
unfolding document_at
document_read depth i x j is whole =
    starting_read _ i _ (sequence_read _ _ i x.definitions j _
    (some_read (IsDefinition depth) _ _ DefinitionEnds (definition_item depth) i x.definitions j is.definitions (end_follows j whole) (at_end (more_test UntilEnd) j whole))
    (placed_read _ (λ span. record { definitions = x.definitions; span = span }) j ∙ ap (λ s. ok (record { definitions = x.definitions; span = s })) (sym is.span))) where
      ok : Document → Result (Document × Input) Refusal
      ok y = Ok (y, j)

pub document_local : (depth : ℕ) → Local depth (document_at depth)
unfolding document_at
document_local depth =
    local_starting depth _ (λ start. local_sequence depth _ _ (local_some depth _ _ (definition_local depth) (definition_reader_moves depth)) (λ definitions.
    local_sequence depth _ _ (local_place depth start) (λ span. local_answer depth _)))

-- and the same where it may go deeper
definition_grows : (depth : ℕ) → Grows (definition_at depth) (definition_at (suc depth))
unfolding definition_at executable_definition_at
definition_grows depth =
    grows_choose _ _ _ _ _ (deeper.extension_grows depth) (grows_choose _ _ _ _ _ (deeper.definition_grows depth)
    (grows_choose _ _ _ _ _ (grows_sequence _ _ _ _ (operation_grows depth) (λ x. grows_itself _))
    (grows_choose _ _ _ _ _ (grows_sequence _ _ _ _ (fragment_grows depth) (λ x. grows_itself _)) (grows_itself _))))

document_grows : (depth : ℕ) → Grows (document_at depth) (document_at (suc depth))
unfolding document_at
document_grows depth =
    grows_starting _ _ (λ start. grows_sequence _ _ _ _ (grows_some _ _ _ (definition_grows depth)) (λ definitions. grows_itself _))

-- by any number of levels
pub document_grows_by : (more depth : ℕ) → Grows (document_at depth) (document_at (more + depth))
document_grows_by zero depth = let same : 0 + depth ≡ depth = omega arith in rw same (grows_itself _)
document_grows_by (suc more) depth =
    let same : suc more + depth ≡ suc (more + depth) = omega arith in
    rw same (grows_further _ _ _ (document_grows_by more depth) (document_grows (more + depth)))
