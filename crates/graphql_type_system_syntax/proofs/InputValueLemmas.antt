-- Descriptions and definitions of input values are read by the grammar, both ways, and locally.
use Rattle.std.proofs.Common.{◌≡◌, ℕ, ◌<◌, ◌≤◌, Bool, true, false, not, ◌||◌, inl, inr, List, length, Result, Ok, Option, Some, refl, sym, subst, ◌∙◌, ap, arith}
use Rattle.graphql_tokens.specs.declared.token.TokenKind.{TokenKind}
use Rattle.graphql_tokens.specs.declared.token.TokenKind.TheVariants.{Name, Colon, Equals, ExclamationMark, LeftParenthesis, RightParenthesis}
use Rattle.graphql_trees.specs.declared.type_system.InputValueDefinition.{InputValueDefinition}
use Rattle.graphql_trees.specs.declared.type_system.Description.{Description}
use Rattle.graphql_nodes.specs.declared.spans.SourceSpan.{SourceSpan}
use Rattle.graphql_syntax.specs.declared.keywords.Keyword.{Keyword}
use Rattle.graphql_syntax.specs.declared.production.More.TheVariants.{Until}
use Rattle.graphql_syntax.specs.declared.refusals.Refusal.{Refusal}
use Rattle.graphql_syntax.specs.Inputs.{same_kind, Input, is_string, next_passes, sees, between, TakesKeyword}
use Rattle.graphql_syntax.specs.Many.{Perhaps, PerhapsList}
use Rattle.graphql_syntax.specs.Reading.{Reader, more_test}
use Rattle.graphql_syntax.proofs.DirectiveLemmas.{directives_sound, directives_read, directives_less, directives_local, directives_apart}
use Rattle.graphql_syntax.proofs.Locality.{Local, Moves, takes_less, local_sequence, local_choose, local_answer, local_place, local_starting, kind_is_plain, string_is_plain}
use Rattle.graphql_syntax.proofs.TokenLocality.{local_take_one, local_name}
use Rattle.graphql_syntax.proofs.NextLemmas.{by_kind, all_kinds, passes_so, passes_not, keyword_is_name, is_string_kind, goes_on, Ends, not_mark, not_parenthesis, not_at, not_equals, name_no_string, closing_parenthesis_ends, closing_stops}
use Rattle.graphql_syntax.proofs.ReaderLemmas.{sequence_ok, sequence_read, choose_ok, choose_first, choose_second, starting_ok, starting_read, placed_is, placed_read, answer_is, answer_read, take_one_ok, take_one_read, name_ok, name_read}
use Rattle.graphql_syntax.proofs.RepetitionLemmas.{Item, some_sound, some_read, some_moves, local_some}
use Rattle.graphql_syntax.proofs.TypeLemmas.{type_sound, type_read, type_moves, type_local}
use Rattle.graphql_syntax.proofs.DefaultValueLemmas.{default_value_sound, default_value_read, default_value_less, default_value_apart, default_value_local}
use Rattle.graphql_type_system_syntax.specs.InputValues.{IsDescription, IsInputValueDefinition, AreArgumentDefinitions}
use Rattle.graphql_type_system_syntax.specs.InputValueReaders.{described_at, description_at, input_value_definition_at, argument_definitions_in, argument_definitions_at}

-- a keyword is no string
pub keyword_no_string : (keyword : Keyword) (i j : Input) → TakesKeyword keyword i j → next_passes is_string i ≡ false
keyword_no_string keyword i j is = name_no_string i (keyword_is_name keyword i is.comes)

-- descriptions
abbrev described : SourceSpan → Option Description
described span = Some (record { span = span })

pub description_sound : (i : Input) (r : Option Description × Input) → description_at i ≡ Ok r → Perhaps IsDescription i r.0 r.1
unfolding description_at described_at
description_sound i r e = elim (choose_ok _ _ _ _ _ e) [
  | inl h ↦
      let (string, es, e1) = sequence_ok _ _ _ _ (starting_ok _ _ _ h.1) in
      subst (λ (q : Option Description × Input). Perhaps IsDescription i q.0 q.1) (placed_is _ described _ _ e1)
      (Perhaps.present i string.1 (record { span = between i string.1 }) (record { takes = take_one_ok _ _ _ _ es; span = refl }))
  | inr h ↦ subst (λ (q : Option Description × Input). Perhaps IsDescription i q.0 q.1) (answer_is _ _ _ h.1) (Perhaps.absent i)
]

pub description_read : (i : Input) (x : Option Description) (j : Input) → Perhaps IsDescription i x j → next_passes is_string j ≡ false → description_at i ≡ Ok (x, j)
unfolding description_at described_at
description_read _ _ _ (Perhaps.absent i) apart = choose_second _ _ _ i apart ∙ answer_read _ i
description_read _ _ _ (Perhaps.present i j x is) apart =
    choose_first _ _ _ i is.takes.comes ∙
    starting_read _ i _ (sequence_read _ _ i tt j _ (take_one_read _ _ _ _ is.takes)
    (placed_read _ described j ∙ ap (λ s. ok (described s)) (sym is.span))) where
      ok : Option Description → Result (Option Description × Input) Refusal
      ok y = Ok (y, j)

pub description_less : (i : Input) (x : Option Description) (j : Input) → Perhaps IsDescription i x j → length j.tokens ≤ length i.tokens
description_less _ _ _ (Perhaps.absent i) = omega arith
description_less _ _ _ (Perhaps.present i j x is) = omega (arith, takes_less _ _ _ is.takes)

pub description_local : (depth : ℕ) → Local depth description_at
unfolding description_at described_at
description_local depth =
    local_choose depth _ _ _
    (local_starting depth _ (λ start. local_sequence depth _ _ (local_take_one depth _ _ string_is_plain) (λ string.
    local_sequence depth _ _ (local_place depth start) (λ span. local_answer depth _))))
    (local_answer depth _)

-- a string, or a name: with such a token begins what may have a description
abbrev pub begins_described : TokenKind → Bool
begins_described k = same_kind k Name || is_string_kind k

pub described_begins : (i : Input) (x : Option Description) (j : Input) → Perhaps IsDescription i x j → sees Name j ≡ true → next_passes (by_kind begins_described) i ≡ true
unfolding same_kind
described_begins _ _ _ (Perhaps.absent i) e = passes_so (λ k. same_kind k Name) begins_described refl i e
described_begins _ _ _ (Perhaps.present i j x is) e = passes_so is_string_kind begins_described refl i is.takes.comes

-- what begins so is one of several up to a closing token
pub described_item : {A : Type 0} (R : Input → A → Input → Type 0) (item : Reader A) (closing : TokenKind) →
    all_kinds (λ k. not (begins_described k) || not (same_kind k closing)) ≡ true →
    ((i : Input) (x : A) (j : Input) → R i x j → Ends j → item i ≡ Ok (x, j)) →
    ((i : Input) (x : A) (j : Input) → R i x j → next_passes (by_kind begins_described) i ≡ true) →
    ((i : Input) (x : A) (j : Input) → R i x j → length j.tokens < length i.tokens) →
    Item R (more_test (Until closing)) item Ends
unfolding same_kind
described_item R item closing all reads begins moves = record {
  reads = reads;
  passes = λ i x j is. passes_so begins_described (λ k. not (same_kind k closing)) all i (begins i x j is);
  follows = λ i x j is. passes_not begins_described goes_on refl i (begins i x j is);
  moves = moves;
}

pub reader_moves : {A : Type 0} (R : Input → A → Input → Type 0) (item : Reader A) → ((i : Input) (r : A × Input) → item i ≡ Ok r → R i r.0 r.1) →
    ((i : Input) (x : A) (j : Input) → R i x j → length j.tokens < length i.tokens) → Moves item
reader_moves R item sound moves i r e = moves i r.0 r.1 (sound i r e)

-- input values
pub input_value_sound : (depth : ℕ) (i : Input) (r : InputValueDefinition × Input) → input_value_definition_at depth i ≡ Ok r → IsInputValueDefinition depth i r.0 r.1
unfolding input_value_definition_at
input_value_sound depth i r e =
    let (description, ed, e1) = sequence_ok _ _ _ _ (starting_ok _ _ _ e) in
    let (name, en, e2) = sequence_ok _ _ _ _ e1 in
    let (colon, ec, e3) = sequence_ok _ _ _ _ e2 in
    let (type, et, e4) = sequence_ok _ _ _ _ e3 in
    let (default, ef, e5) = sequence_ok _ _ _ _ e4 in
    let (directives, es, e6) = sequence_ok _ _ _ _ e5 in
    subst (λ (q : InputValueDefinition × Input). IsInputValueDefinition depth i q.0 q.1)
    (placed_is _ (λ span. record {
      description = description.0;
      name = name.0;
      type_reference = type.0;
      default_value = default.0;
      directives = directives.0;
      span = span;
    }) _ _ e6)
    (record {
      behind_description = description.1;
      behind_name = name.1;
      behind_colon = colon.1;
      behind_type = type.1;
      behind_default = default.1;
      description = description_sound i description ed;
      name = name_ok _ _ en;
      colon = take_one_ok _ _ _ _ ec;
      type_reference = type_sound depth colon.1 type et;
      default_value = default_value_sound depth type.1 default ef;
      directives = directives_sound true depth default.1 directives es;
      span = refl;
    })

pub input_value_read : (depth : ℕ) (i : Input) (x : InputValueDefinition) (j : Input) → IsInputValueDefinition depth i x j → Ends j → input_value_definition_at depth i ≡ Ok (x, j)
unfolding input_value_definition_at same_kind
input_value_read depth i x j is ends =
    starting_read _ i _
    (sequence_read _ _ i x.description is.behind_description _ (description_read _ _ _ is.description (name_no_string _ is.name.takes.comes))
    (sequence_read _ _ is.behind_description x.name is.behind_name _ (name_read _ _ _ is.name)
    (sequence_read _ _ is.behind_name tt is.behind_colon _ (take_one_read _ _ _ _ is.colon)
    (sequence_read _ _ is.behind_colon x.type_reference is.behind_type _
    (type_read depth _ _ _ is.type_reference
    (default_value_apart depth (λ k. same_kind k ExclamationMark) refl _ _ _ is.default_value
    (directives_apart true depth (λ k. same_kind k ExclamationMark) refl _ _ _ is.directives (not_mark j ends))))
    (sequence_read _ _ is.behind_type x.default_value is.behind_default _
    (default_value_read depth _ _ _ is.default_value (directives_apart true depth (λ k. same_kind k Equals) refl _ _ _ is.directives (not_equals j ends)))
    (sequence_read _ _ is.behind_default x.directives j _ (directives_read true depth _ _ _ is.directives (not_parenthesis j ends) (not_at j ends))
    (placed_read _ make j ∙ ap (λ s. ok (make s)) (sym is.span)))))))) where
      make : SourceSpan → InputValueDefinition
      make span = record {
        description = x.description;
        name = x.name;
        type_reference = x.type_reference;
        default_value = x.default_value;
        directives = x.directives;
        span = span;
      }

      ok : InputValueDefinition → Result (InputValueDefinition × Input) Refusal
      ok y = Ok (y, j)

pub input_value_begins : (depth : ℕ) (i : Input) (x : InputValueDefinition) (j : Input) → IsInputValueDefinition depth i x j → next_passes (by_kind begins_described) i ≡ true
input_value_begins depth i x j is = described_begins _ _ _ is.description is.name.takes.comes

pub input_value_moves : (depth : ℕ) (i : Input) (x : InputValueDefinition) (j : Input) → IsInputValueDefinition depth i x j → length j.tokens < length i.tokens
input_value_moves depth i x j is =
    omega (
      arith,
      description_less _ _ _ is.description,
      takes_less _ _ _ is.name.takes,
      takes_less _ _ _ is.colon,
      type_moves depth _ _ _ is.type_reference,
      default_value_less depth _ _ _ is.default_value,
      directives_less true depth _ _ _ is.directives,
    )

pub input_value_local : (depth : ℕ) → Local depth (input_value_definition_at depth)
unfolding input_value_definition_at
input_value_local depth =
    local_starting depth _ (λ start.
    local_sequence depth _ _ (description_local depth) (λ description.
    local_sequence depth _ _ (local_name depth) (λ name.
    local_sequence depth _ _ (local_take_one depth _ _ (kind_is_plain Colon refl refl)) (λ colon.
    local_sequence depth _ _ (type_local depth) (λ type.
    local_sequence depth _ _ (default_value_local depth) (λ default.
    local_sequence depth _ _ (directives_local true depth) (λ directives.
    local_sequence depth _ _ (local_place depth start) (λ span. local_answer depth _))))))))

pub input_value_reader_moves : (depth : ℕ) → Moves (input_value_definition_at depth)
input_value_reader_moves depth = reader_moves (IsInputValueDefinition depth) _ (input_value_sound depth) (input_value_moves depth)

pub input_value_item : (depth : ℕ) (closing : TokenKind) → all_kinds (λ k. not (begins_described k) || not (same_kind k closing)) ≡ true →
    Item (IsInputValueDefinition depth) (more_test (Until closing)) (input_value_definition_at depth) Ends
input_value_item depth closing all =
    described_item (IsInputValueDefinition depth) _ closing all (input_value_read depth) (input_value_begins depth) (input_value_moves depth)

-- definitions of arguments in parentheses, or none
pub argument_definitions_sound : (depth : ℕ) (i : Input) (r : List InputValueDefinition × Input) → argument_definitions_at depth i ≡ Ok r →
    PerhapsList (AreArgumentDefinitions depth) i r.0 r.1
unfolding argument_definitions_at argument_definitions_in
argument_definitions_sound depth i r e = elim (choose_ok _ _ _ _ _ e) [
  | inl h ↦
      let (opening, eo, e1) = sequence_ok _ _ _ _ h.1 in
      let (found, ef, e2) = sequence_ok _ _ _ _ e1 in
      let (closing, ec, e3) = sequence_ok _ _ _ _ e2 in
      subst (λ (q : List InputValueDefinition × Input). PerhapsList (AreArgumentDefinitions depth) i q.0 q.1) (answer_is _ _ _ e3)
      (PerhapsList.present i closing.1 found.0 (record {
        inside = opening.1;
        before_closing = found.1;
        opening = take_one_ok _ _ _ _ eo;
        arguments = some_sound (IsInputValueDefinition depth) _ _ (input_value_sound depth) opening.1 found ef;
        closing = take_one_ok _ _ _ _ ec;
      }))
  | inr h ↦ subst (λ (q : List InputValueDefinition × Input). PerhapsList (AreArgumentDefinitions depth) i q.0 q.1) (answer_is _ _ _ h.1) (PerhapsList.absent i)
]

pub argument_definitions_read : (depth : ℕ) (i : Input) (xs : List InputValueDefinition) (j : Input) → PerhapsList (AreArgumentDefinitions depth) i xs j →
    sees LeftParenthesis j ≡ false → argument_definitions_at depth i ≡ Ok (xs, j)
unfolding argument_definitions_at argument_definitions_in same_kind
argument_definitions_read depth _ _ _ (PerhapsList.absent i) free = choose_second _ _ _ i free ∙ answer_read _ i
argument_definitions_read depth _ _ _ (PerhapsList.present i j xs are) free =
    choose_first _ _ _ i are.opening.comes ∙
    sequence_read _ _ i tt are.inside _ (take_one_read _ _ _ _ are.opening)
    (sequence_read _ _ are.inside xs are.before_closing _
    (some_read (IsInputValueDefinition depth) _ _ Ends (input_value_item depth RightParenthesis refl) are.inside xs are.before_closing are.arguments
    (closing_parenthesis_ends are.before_closing are.closing.comes) (closing_stops RightParenthesis are.before_closing are.closing.comes))
    (sequence_read _ _ are.before_closing tt j _ (take_one_read _ _ _ _ are.closing) (answer_read xs j)))

pub argument_definitions_less : (depth : ℕ) (i : Input) (xs : List InputValueDefinition) (j : Input) → PerhapsList (AreArgumentDefinitions depth) i xs j →
    length j.tokens ≤ length i.tokens
argument_definitions_less depth _ _ _ (PerhapsList.absent i) = omega arith
argument_definitions_less depth _ _ _ (PerhapsList.present i j xs are) =
    omega (
      arith,
      takes_less _ _ _ are.opening,
      some_moves (IsInputValueDefinition depth) (input_value_moves depth) are.inside xs are.before_closing are.arguments,
      takes_less _ _ _ are.closing,
    )

pub argument_definitions_local : (depth : ℕ) → Local depth (argument_definitions_at depth)
unfolding argument_definitions_at argument_definitions_in
argument_definitions_local depth =
    local_choose depth _ _ _
    (local_sequence depth _ _ (local_take_one depth _ _ (kind_is_plain LeftParenthesis refl refl)) (λ opening.
    local_sequence depth _ _ (local_some depth _ _ (input_value_local depth) (input_value_reader_moves depth)) (λ found.
    local_sequence depth _ _ (local_take_one depth _ _ (kind_is_plain RightParenthesis refl refl)) (λ closing. local_answer depth _))))
    (local_answer depth _)
