-- Fields and interfaces are read by the grammar, both ways, and locally.
use Rattle.std.proofs.Common.{◌≡◌, ℕ, ◌<◌, ◌≤◌, true, false, not, ◌&&◌, inl, inr, List, length, Result, Ok, refl, sym, subst, ◌∙◌, ap, arith}
use Rattle.graphql_nodes.specs.Names.{NameText}
use Rattle.graphql_nodes.specs.declared.spans.SourceSpan.{SourceSpan}
use Rattle.graphql_tokens.specs.declared.token.TokenKind.{TokenKind}
use Rattle.graphql_tokens.specs.declared.token.TokenKind.TheVariants.{Name, At, Ampersand, Colon, ExclamationMark, LeftParenthesis, RightBrace}
use Rattle.graphql_trees.specs.declared.directives.Directive.{Directive}
use Rattle.graphql_trees.specs.declared.type_system.FieldDefinition.{FieldDefinition}
use Rattle.graphql_syntax.specs.declared.keywords.Keyword.{Keyword}
use Rattle.graphql_syntax.specs.declared.keywords.Keyword.TheVariants as keyword
use Rattle.graphql_syntax.specs.declared.production.More.TheVariants.{Until}
use Rattle.graphql_syntax.specs.declared.refusals.Refusal.{Refusal}
use Rattle.graphql_syntax.specs.Directives.{AreDirectives}
use Rattle.graphql_syntax.specs.Inputs.{same_kind, Input, IsName, next_passes, sees, sees_keyword}
use Rattle.graphql_syntax.specs.Many.{nothing, more, PerhapsList}
use Rattle.graphql_syntax.specs.Reading.{more_test, name_at}
use Rattle.graphql_syntax.proofs.DirectiveLemmas.{directives_sound, directives_read, directives_less, directives_local, directives_apart}
use Rattle.graphql_syntax.proofs.Locality.{Local, Moves, takes_less, local_sequence, local_choose, local_answer, local_place, local_starting, kind_is_plain, keyword_is_plain}
use Rattle.graphql_syntax.proofs.TokenLocality.{local_take_one, local_name}
use Rattle.graphql_syntax.proofs.NextLemmas.{by_kind, all_kinds, passes_not, no_name_no_keyword, Ends, not_mark, not_parenthesis, not_at, name_no_string, brace_no_name}
use Rattle.graphql_syntax.proofs.ReaderLemmas.{sequence_ok, sequence_read, choose_ok, choose_first, choose_second, starting_ok, starting_read, placed_is, placed_read, answer_is, answer_read, take_one_ok, take_one_read, name_ok, name_read}
use Rattle.graphql_syntax.proofs.RepetitionLemmas.{Item}
use Rattle.graphql_syntax.proofs.TypeLemmas.{type_sound, type_read, type_moves, type_local}
use Rattle.graphql_type_system_syntax.specs.Bodies.{PerhapsInBraces, InBraces, in_braces}
use Rattle.graphql_type_system_syntax.specs.Fields.{IsFieldDefinition, AreInterfaces}
use Rattle.graphql_type_system_syntax.specs.FieldReaders.{field_definition_at, interfaces_in, interfaces_at}
use Rattle.graphql_type_system_syntax.proofs.InputValueLemmas.{description_sound, description_read, description_less, description_local, begins_described, described_begins, described_item, reader_moves, argument_definitions_sound, argument_definitions_read, argument_definitions_less, argument_definitions_local}
use Rattle.graphql_type_system_syntax.proofs.SeparatorLemmas.{Plain, separated_sound, separated_read, separated_moves, separated_local}

-- fields
pub field_sound : (depth : ℕ) (i : Input) (r : FieldDefinition × Input) → field_definition_at depth i ≡ Ok r → IsFieldDefinition depth i r.0 r.1
unfolding field_definition_at
field_sound depth i r e =
    let (description, ed, e1) = sequence_ok _ _ _ _ (starting_ok _ _ _ e) in
    let (name, en, e2) = sequence_ok _ _ _ _ e1 in
    let (arguments, ea, e3) = sequence_ok _ _ _ _ e2 in
    let (colon, ec, e4) = sequence_ok _ _ _ _ e3 in
    let (type, et, e5) = sequence_ok _ _ _ _ e4 in
    let (directives, es, e6) = sequence_ok _ _ _ _ e5 in
    subst (λ (q : FieldDefinition × Input). IsFieldDefinition depth i q.0 q.1)
    (placed_is _ (λ span. record {
      description = description.0;
      name = name.0;
      arguments = arguments.0;
      type_reference = type.0;
      directives = directives.0;
      span = span;
    }) _ _ e6)
    (record {
      behind_description = description.1;
      behind_name = name.1;
      behind_arguments = arguments.1;
      behind_colon = colon.1;
      behind_type = type.1;
      description = description_sound i description ed;
      name = name_ok _ _ en;
      arguments = argument_definitions_sound depth name.1 arguments ea;
      colon = take_one_ok _ _ _ _ ec;
      type_reference = type_sound depth colon.1 type et;
      directives = directives_sound true depth type.1 directives es;
      span = refl;
    })

pub field_read : (depth : ℕ) (i : Input) (x : FieldDefinition) (j : Input) → IsFieldDefinition depth i x j → Ends j → field_definition_at depth i ≡ Ok (x, j)
unfolding field_definition_at same_kind
field_read depth i x j is ends =
    starting_read _ i _
    (sequence_read _ _ i x.description is.behind_description _ (description_read _ _ _ is.description (name_no_string _ is.name.takes.comes))
    (sequence_read _ _ is.behind_description x.name is.behind_name _ (name_read _ _ _ is.name)
    (sequence_read _ _ is.behind_name x.arguments is.behind_arguments _
    (argument_definitions_read depth _ _ _ is.arguments (passes_not (λ k. same_kind k Colon) (λ k. same_kind k LeftParenthesis) refl _ is.colon.comes))
    (sequence_read _ _ is.behind_arguments tt is.behind_colon _ (take_one_read _ _ _ _ is.colon)
    (sequence_read _ _ is.behind_colon x.type_reference is.behind_type _
    (type_read depth _ _ _ is.type_reference (directives_apart true depth (λ k. same_kind k ExclamationMark) refl _ _ _ is.directives (not_mark j ends)))
    (sequence_read _ _ is.behind_type x.directives j _ (directives_read true depth _ _ _ is.directives (not_parenthesis j ends) (not_at j ends))
    (placed_read _ make j ∙ ap (λ s. ok (make s)) (sym is.span)))))))) where
      make : SourceSpan → FieldDefinition
      make span = record {
        description = x.description;
        name = x.name;
        arguments = x.arguments;
        type_reference = x.type_reference;
        directives = x.directives;
        span = span;
      }

      ok : FieldDefinition → Result (FieldDefinition × Input) Refusal
      ok y = Ok (y, j)

field_begins : (depth : ℕ) (i : Input) (x : FieldDefinition) (j : Input) → IsFieldDefinition depth i x j → next_passes (by_kind begins_described) i ≡ true
field_begins depth i x j is = described_begins _ _ _ is.description is.name.takes.comes

pub field_moves : (depth : ℕ) (i : Input) (x : FieldDefinition) (j : Input) → IsFieldDefinition depth i x j → length j.tokens < length i.tokens
field_moves depth i x j is =
    omega (
      arith,
      description_less _ _ _ is.description,
      takes_less _ _ _ is.name.takes,
      argument_definitions_less depth _ _ _ is.arguments,
      takes_less _ _ _ is.colon,
      type_moves depth _ _ _ is.type_reference,
      directives_less true depth _ _ _ is.directives,
    )

pub field_local : (depth : ℕ) → Local depth (field_definition_at depth)
unfolding field_definition_at
field_local depth =
    local_starting depth _ (λ start.
    local_sequence depth _ _ (description_local depth) (λ description.
    local_sequence depth _ _ (local_name depth) (λ name.
    local_sequence depth _ _ (argument_definitions_local depth) (λ arguments.
    local_sequence depth _ _ (local_take_one depth _ _ (kind_is_plain Colon refl refl)) (λ colon.
    local_sequence depth _ _ (type_local depth) (λ type.
    local_sequence depth _ _ (directives_local true depth) (λ directives.
    local_sequence depth _ _ (local_place depth start) (λ span. local_answer depth _))))))))

pub field_reader_moves : (depth : ℕ) → Moves (field_definition_at depth)
field_reader_moves depth = reader_moves (IsFieldDefinition depth) _ (field_sound depth) (field_moves depth)

pub field_item : (depth : ℕ) → Item (IsFieldDefinition depth) (more_test (Until RightBrace)) (field_definition_at depth) Ends
unfolding same_kind
field_item depth = described_item (IsFieldDefinition depth) _ RightBrace refl (field_read depth) (field_begins depth) (field_moves depth)

-- names
pub name_plain : (separator : TokenKind) → all_kinds (λ k. not (same_kind k Name && same_kind k separator)) ≡ true → Plain separator IsName name_at
unfolding same_kind
name_plain separator all = record {
  sound = name_ok;
  reads = name_read;
  apart = λ i x j is. passes_not (λ k. same_kind k Name) (λ k. same_kind k separator) all i is.takes.comes;
  moves = λ i x j is. omega (arith, takes_less _ _ _ is.takes);
}

ampersand_plain : Plain Ampersand IsName name_at
unfolding same_kind
ampersand_plain = name_plain Ampersand refl

-- interfaces
pub interfaces_sound : (i : Input) (r : List NameText × Input) → interfaces_at i ≡ Ok r → PerhapsList AreInterfaces i r.0 r.1
unfolding interfaces_at interfaces_in
interfaces_sound i r e = elim (choose_ok _ _ _ _ _ e) [
  | inl h ↦
      let (word, ew, e1) = sequence_ok _ _ _ _ h.1 in
      PerhapsList.present i r.1 r.0
      (record { behind_implements = word.1; word = take_one_ok _ _ _ _ ew; names = separated_sound Ampersand IsName _ ampersand_plain word.1 r e1 })
  | inr h ↦ subst (λ (q : List NameText × Input). PerhapsList AreInterfaces i q.0 q.1) (answer_is _ _ _ h.1) (PerhapsList.absent i)
]

pub interfaces_read : (i : Input) (xs : List NameText) (j : Input) → PerhapsList AreInterfaces i xs j → sees_keyword keyword.Implements j ≡ false → sees Ampersand j ≡ false →
    interfaces_at i ≡ Ok (xs, j)
unfolding interfaces_at interfaces_in
interfaces_read _ _ _ (PerhapsList.absent i) apart free = choose_second _ _ _ i apart ∙ answer_read _ i
interfaces_read _ _ _ (PerhapsList.present i j xs are) apart free =
    choose_first _ _ _ i are.word.comes ∙
    sequence_read _ _ i tt are.behind_implements _ (take_one_read _ _ _ _ are.word)
    (separated_read Ampersand IsName _ ampersand_plain are.behind_implements xs j are.names free)

pub interfaces_less : (i : Input) (xs : List NameText) (j : Input) → PerhapsList AreInterfaces i xs j → length j.tokens ≤ length i.tokens
interfaces_less _ _ _ (PerhapsList.absent i) = omega arith
interfaces_less _ _ _ (PerhapsList.present i j xs are) =
    omega (arith, takes_less _ _ _ are.word, separated_moves Ampersand IsName _ ampersand_plain are.behind_implements xs j are.names)

pub interfaces_local : (depth : ℕ) → Local depth interfaces_at
unfolding interfaces_at interfaces_in
interfaces_local depth =
    local_choose depth _ _ _
    (local_sequence depth _ _ (local_take_one depth _ _ (keyword_is_plain keyword.Implements)) (λ word.
    separated_local depth Ampersand _ refl refl (local_name depth)))
    (local_answer depth _)

-- a keyword that does not come behind directives or braces does not come before them
pub directives_no_keyword : (keyword : Keyword) (depth : ℕ) (i : Input) (xs : List Directive) (j : Input) → AreDirectives true depth i xs j →
    sees_keyword keyword j ≡ false → sees_keyword keyword i ≡ false
unfolding same_kind
directives_no_keyword keyword depth _ _ _ (nothing i) e = e
directives_no_keyword keyword depth _ _ _ (more i m j x xs is are) e =
    no_name_no_keyword keyword i (passes_not (λ k. same_kind k At) (λ k. same_kind k Name) refl i is.at.comes)

pub braces_no_keyword : {A : Type 0} (R : ℕ → Input → A → Input → Type 0) (keyword : Keyword) (depth : ℕ) (i : Input) (xs : List A) (j : Input) →
    PerhapsInBraces R depth i xs j → sees_keyword keyword j ≡ false → sees_keyword keyword i ≡ false
unfolding same_kind
braces_no_keyword R keyword depth _ _ _ (PerhapsInBraces.absent i unseen) e = e
braces_no_keyword {A} R keyword depth _ _ _ (PerhapsInBraces.present i j xs is) e = by depth i xs j is where
  by : (depth : ℕ) (i : Input) (xs : List A) (j : Input) → InBraces R depth i xs j → sees_keyword keyword i ≡ false
  by _ _ _ _ (in_braces i m n j xs opens are closes) =
      no_name_no_keyword keyword i (brace_no_name i opens.comes)
