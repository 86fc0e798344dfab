-- The reader of variable definitions answers by their grammar.
use Rattle.std.proofs.Common.{◌≡◌, ℕ, ◌<◌, ◌≤◌, true, false, not, List, [], length, Option, Ok, Result, inl, inr, refl, sym, ◌∙◌, ap, arith}
use Rattle.graphql_nodes.specs.declared.spans.SourceSpan.{SourceSpan}
use Rattle.graphql_tokens.specs.declared.token.TokenKind.TheVariants.{Colon, Dollar, Equals, ExclamationMark, LeftParenthesis, RightParenthesis}
use Rattle.graphql_trees.specs.declared.executable.VariableDefinition.{VariableDefinition}
use Rattle.graphql_trees.specs.declared.values.Value.{Value}
use Rattle.graphql_syntax.specs.declared.production.More.TheVariants.{Until}
use Rattle.graphql_syntax.specs.declared.refusals.Expected.TheVariants as expected
use Rattle.graphql_syntax.specs.declared.refusals.Refusal.{Refusal}
use Rattle.graphql_syntax.specs.DefaultValues.{IsDefaultValue}
use Rattle.graphql_syntax.specs.DefaultValueReaders.{default_value_at}
use Rattle.graphql_syntax.specs.Directives.{AreDirectives}
use Rattle.graphql_syntax.specs.Inputs.{same_kind, Input, is_kind, sees, next_passes, start_of}
use Rattle.graphql_syntax.specs.Many.{Perhaps, PerhapsList, absent, present}
use Rattle.graphql_syntax.specs.Reading.{expect, more_test, some_of}
use Rattle.graphql_syntax.specs.DirectiveReaders.{directives_at}
use Rattle.graphql_syntax.specs.TypeReaders.{type_at}
use Rattle.graphql_syntax.specs.ValueReaders.{variable_at}
use Rattle.graphql_syntax.proofs.DefaultValueLemmas.{default_value_sound, default_value_read, default_value_less, default_value_apart, default_value_local}
use Rattle.graphql_syntax.proofs.DirectiveLemmas.{directives_apart, directives_sound, directives_read, directives_less, directives_local}
use Rattle.graphql_syntax.proofs.Locality.{Local, Moves, takes_less, local_answer, local_place, local_sequence, local_choose, local_starting, kind_is_plain}
use Rattle.graphql_syntax.proofs.TokenLocality.{local_take_one}
use Rattle.graphql_syntax.proofs.NextLemmas.{closing_parenthesis_ends, closing_stops, passes_not, passes_so, Ends, not_mark, not_parenthesis, not_at, not_equals}
use Rattle.graphql_syntax.proofs.ReaderLemmas.{answered, placed, sequence_ok, sequence_read, choose_ok, choose_first, choose_second, starting_ok, starting_read, placed_read, answer_read, take_one_ok, take_one_read}
use Rattle.graphql_syntax.proofs.RepetitionLemmas.{Item, some_sound, some_read, some_moves, local_some}
use Rattle.graphql_syntax.proofs.TypeLemmas.{type_sound, type_read, type_moves, type_local}
use Rattle.graphql_syntax.proofs.ValueLemmas.{variable_sound, variable_read, variable_moves, variable_local}
use Rattle.graphql_executable_syntax.specs.Operations.{IsVariableDefinition, AreVariableDefinitions}
use Rattle.graphql_executable_syntax.specs.OperationReaders.{variable_definition_at, variable_definitions_in, variable_definitions_at}

-- no `!` and no `=` comes before what is behind the type where none may follow
no_mark_before_default : (depth : ℕ) (i : Input) (x : Option Value) (j : Input) → Perhaps (IsDefaultValue depth) i x j → sees ExclamationMark j ≡ false → sees ExclamationMark i ≡ false
unfolding same_kind
no_mark_before_default depth i x j is s = default_value_apart depth (λ k. same_kind k ExclamationMark) refl i x j is s

no_mark_before : (i : Input) (depth : ℕ) (j : Input) (x : VariableDefinition) → AreDirectives true depth i x.directives j → Ends j → sees ExclamationMark i ≡ false
unfolding same_kind
no_mark_before i depth j x are s = directives_apart true depth (λ k. same_kind k ExclamationMark) refl i x.directives j are (not_mark j s)

no_equals_before : (i : Input) (depth : ℕ) (j : Input) (x : VariableDefinition) → AreDirectives true depth i x.directives j → Ends j → sees Equals i ≡ false
unfolding same_kind
no_equals_before i depth j x are s = directives_apart true depth (λ k. same_kind k Equals) refl i x.directives j are (not_equals j s)

-- one definition
variable_definition_sound : (depth : ℕ) (i : Input) (r : VariableDefinition × Input) → variable_definition_at depth i ≡ Ok r → IsVariableDefinition depth i r.0 r.1
unfolding variable_definition_at
variable_definition_sound depth i r e =
    let (m, em, e1) = sequence_ok variable_at _ i r (starting_ok _ i (Ok r) e) in
    let (n, en, e2) = sequence_ok (expect Colon) _ m.1 r e1 in
    let (k, ek, e3) = sequence_ok (type_at depth) _ n.1 r e2 in
    let (l, el, e4) = sequence_ok (default_value_at depth) _ k.1 r e3 in
    let (q, eq, e5) = sequence_ok (directives_at true depth) _ l.1 r e4 in
    placed (IsVariableDefinition depth i) (start_of i)
    (λ span. record { variable = m.0; type_reference = k.0; default_value = l.0; directives = q.0; span = span }) q.1 r e5 (record {
      behind_variable = m.1;
      behind_colon = n.1;
      behind_type = k.1;
      behind_default = l.1;
      variable = variable_sound i m em;
      colon = take_one_ok (is_kind Colon) (expected.Token Colon) m.1 n en;
      type_reference = type_sound depth n.1 k ek;
      default_value = default_value_sound depth k.1 l el;
      directives = directives_sound true depth l.1 q eq;
      span = refl;
    })

with_span : VariableDefinition → SourceSpan → VariableDefinition
with_span x span = record x { span = span }

variable_definition_read : (depth : ℕ) (i : Input) (x : VariableDefinition) (j : Input) → IsVariableDefinition depth i x j → Ends j → variable_definition_at depth i ≡ Ok (x, j)
unfolding variable_definition_at with_span
variable_definition_read depth i x j is ends =
    let m = is.behind_variable in
    let n = is.behind_colon in
    let k = is.behind_type in
    let l = is.behind_default in
    starting_read _ i _ (sequence_read _ _ i x.variable m _ (variable_read i x.variable m is.variable)
    (sequence_read _ _ m tt n _ (take_one_read _ _ m n is.colon)
    (sequence_read _ _ n x.type_reference k _
    (type_read depth n x.type_reference k is.type_reference (no_mark_before_default depth k x.default_value l is.default_value (no_mark_before l depth j x is.directives ends)))
    (sequence_read _ _ k x.default_value l _ (default_value_read depth k x.default_value l is.default_value (no_equals_before l depth j x is.directives ends))
    (sequence_read _ _ l x.directives j _ (directives_read true depth l x.directives j is.directives (not_parenthesis j ends) (not_at j ends))
    (placed_read (start_of i) (with_span x) j ∙ ap (λ span. ok (with_span x span)) (sym is.span))))))) where
      ok : VariableDefinition → Result (VariableDefinition × Input) Refusal
      ok y = Ok (y, j)

variable_definition_moves : (depth : ℕ) (i : Input) (x : VariableDefinition) (j : Input) → IsVariableDefinition depth i x j → length j.tokens < length i.tokens
variable_definition_moves depth i x j is =
    omega (
      arith,
      variable_moves i x.variable is.behind_variable is.variable,
      takes_less _ is.behind_variable is.behind_colon is.colon,
      type_moves depth is.behind_colon x.type_reference is.behind_type is.type_reference,
      default_value_less depth is.behind_type x.default_value is.behind_default is.default_value,
      directives_less true depth is.behind_default x.directives j is.directives,
    )

variable_definition_local : (depth : ℕ) → Local depth (variable_definition_at depth)
unfolding variable_definition_at
variable_definition_local depth =
    local_starting depth _ (λ start. local_sequence depth _ _ (variable_local depth) (λ variable.
    local_sequence depth _ _ (local_take_one depth _ _ (kind_is_plain Colon refl refl)) (λ colon.
    local_sequence depth _ _ (type_local depth) (λ type_reference.
    local_sequence depth _ _ (default_value_local depth) (λ default_value.
    local_sequence depth _ _ (directives_local true depth) (λ directives.
    local_sequence depth _ _ (local_place depth start) (λ span. local_answer depth _)))))))

dollar_goes_on : (i : Input) → sees Dollar i ≡ true → next_passes (more_test (Until RightParenthesis)) i ≡ true
unfolding same_kind
dollar_goes_on i s = passes_so (λ k. same_kind k Dollar) (λ k. not (same_kind k RightParenthesis)) refl i s

dollar_ends : (i : Input) → sees Dollar i ≡ true → Ends i
unfolding same_kind
dollar_ends i s = passes_not (λ k. same_kind k Dollar) _ refl i s

definition_item : (depth : ℕ) → Item (IsVariableDefinition depth) (more_test (Until RightParenthesis)) (variable_definition_at depth) Ends
definition_item depth = record {
  reads = variable_definition_read depth;
  passes = λ i x j is. dollar_goes_on i is.variable.dollar.comes;
  follows = λ i x j is. dollar_ends i is.variable.dollar.comes;
  moves = variable_definition_moves depth;
}

-- all of an operation
pub variable_definitions_sound : (depth : ℕ) (i : Input) (r : List VariableDefinition × Input) → variable_definitions_at depth i ≡ Ok r →
    PerhapsList (AreVariableDefinitions depth) i r.0 r.1
unfolding variable_definitions_at variable_definitions_in
variable_definitions_sound depth i r e = elim (choose_ok (is_kind LeftParenthesis) _ _ i r e) [
  | inl h ↦
      let (m, em, e1) = sequence_ok (expect LeftParenthesis) _ i r h.1 in
      let (n, en, e2) = sequence_ok (some_of (more_test (Until RightParenthesis)) (variable_definition_at depth)) _ m.1 r e1 in
      let (k, ek, e3) = sequence_ok (expect RightParenthesis) _ n.1 r e2 in
      answered (PerhapsList (AreVariableDefinitions depth) i) n.0 k.1 r e3 (present i k.1 n.0 (record {
        inside = m.1;
        before_closing = n.1;
        opening = take_one_ok (is_kind LeftParenthesis) (expected.Token LeftParenthesis) i m em;
        definitions = some_sound (IsVariableDefinition depth) _ _ (variable_definition_sound depth) m.1 n en;
        closing = take_one_ok (is_kind RightParenthesis) (expected.Token RightParenthesis) n.1 k ek;
      }))
  | inr h ↦ answered (PerhapsList (AreVariableDefinitions depth) i) [] i r h.1 (absent i)
]

pub variable_definitions_read : (depth : ℕ) (i : Input) (xs : List VariableDefinition) (j : Input) → PerhapsList (AreVariableDefinitions depth) i xs j →
    sees LeftParenthesis j ≡ false → variable_definitions_at depth i ≡ Ok (xs, j)
unfolding variable_definitions_at variable_definitions_in
variable_definitions_read depth _ _ _ (absent i) s = choose_second _ _ _ i s ∙ answer_read [] i
variable_definitions_read depth _ _ _ (present i j xs are) s =
    let m = are.inside in
    let n = are.before_closing in
    choose_first _ _ _ i are.opening.comes ∙
    sequence_read _ _ i tt m _ (take_one_read _ _ i m are.opening)
    (sequence_read _ _ m xs n _
    (some_read (IsVariableDefinition depth) _ _ Ends (definition_item depth) m xs n are.definitions (closing_parenthesis_ends n are.closing.comes) (closing_stops RightParenthesis n are.closing.comes))
    (sequence_read _ _ n tt j _ (take_one_read _ _ n j are.closing) (answer_read xs j)))

pub variable_definitions_less : (depth : ℕ) (i : Input) (xs : List VariableDefinition) (j : Input) → PerhapsList (AreVariableDefinitions depth) i xs j → length j.tokens ≤ length i.tokens
variable_definitions_less depth _ _ _ (absent i) = omega arith
variable_definitions_less depth _ _ _ (present i j xs are) =
    omega (
      arith,
      takes_less _ i are.inside are.opening,
      some_moves (IsVariableDefinition depth) (variable_definition_moves depth) are.inside xs are.before_closing are.definitions,
      takes_less _ are.before_closing j are.closing,
    )

definition_reader_moves : (depth : ℕ) → Moves (variable_definition_at depth)
definition_reader_moves depth i r e = variable_definition_moves depth i r.0 r.1 (variable_definition_sound depth i r e)

pub variable_definitions_local : (depth : ℕ) → Local depth (variable_definitions_at depth)
unfolding variable_definitions_at variable_definitions_in
variable_definitions_local depth =
    local_choose depth _ _ _
    (local_sequence depth _ _ (local_take_one depth _ _ (kind_is_plain LeftParenthesis refl refl)) (λ opening.
    local_sequence depth _ _ (local_some depth _ _ (variable_definition_local depth) (definition_reader_moves depth)) (λ found.
    local_sequence depth _ _ (local_take_one depth _ _ (kind_is_plain RightParenthesis refl refl)) (λ closing. local_answer depth _))))
    (local_answer depth _)
