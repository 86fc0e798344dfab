-- Members of unions and values of enums are read by the grammar, both ways, and locally.
use Rattle.std.proofs.Common.{◌≡◌, ℕ, ◌<◌, ◌≤◌, true, false, inl, inr, List, length, Result, Ok, refl, sym, subst, ◌∙◌, ap, arith}
use Rattle.graphql_nodes.specs.Names.{NameText}
use Rattle.graphql_nodes.specs.declared.spans.SourceSpan.{SourceSpan}
use Rattle.graphql_tokens.specs.declared.token.TokenKind.TheVariants.{At, Equals, LeftParenthesis, RightBrace, VerticalBar}
use Rattle.graphql_trees.specs.declared.type_system.EnumValueDefinition.{EnumValueDefinition}
use Rattle.graphql_syntax.specs.declared.keywords.Keyword.TheVariants as keyword
use Rattle.graphql_syntax.specs.declared.production.More.TheVariants.{Until}
use Rattle.graphql_syntax.specs.declared.refusals.Refusal.{Refusal}
use Rattle.graphql_syntax.specs.Inputs.{same_kind, Input, IsName, next_passes, sees, sees_keyword}
use Rattle.graphql_syntax.specs.Many.{PerhapsList}
use Rattle.graphql_syntax.specs.Reading.{more_test, name_at}
use Rattle.graphql_syntax.specs.Values.{IsEnumValueName}
use Rattle.graphql_syntax.proofs.DirectiveLemmas.{directives_sound, directives_read, directives_less, directives_local}
use Rattle.graphql_syntax.proofs.Locality.{Local, Moves, takes_less, local_sequence, local_choose, local_answer, local_refuse, local_place, local_starting, kind_is_plain}
use Rattle.graphql_syntax.proofs.TokenLocality.{local_take_one, local_name}
use Rattle.graphql_syntax.proofs.NextLemmas.{by_kind, passes_not, Ends, not_parenthesis, not_at, name_no_string}
use Rattle.graphql_syntax.proofs.ReaderLemmas.{sequence_ok, sequence_read, choose_ok, choose_first, choose_second, starting_ok, starting_read, placed_is, placed_read, answer_is, answer_read, take_one_ok, take_one_read, name_ok, name_read, refuse_not_ok}
use Rattle.graphql_syntax.proofs.RepetitionLemmas.{Item}
use Rattle.graphql_type_system_syntax.specs.InputValues.{IsInputValueDefinition}
use Rattle.graphql_type_system_syntax.specs.InputValueReaders.{input_value_definition_at}
use Rattle.graphql_type_system_syntax.specs.TypeDefinitions.{AreMembers, IsEnumValueDefinition}
use Rattle.graphql_type_system_syntax.specs.TypeDefinitionReaders.{members_in, members_at, enum_value_name_at, enum_value_definition_at}
use Rattle.graphql_type_system_syntax.proofs.FieldLemmas.{name_plain}
use Rattle.graphql_type_system_syntax.proofs.InputValueLemmas.{description_sound, description_read, description_less, description_local, begins_described, described_begins, described_item, reader_moves, input_value_item}
use Rattle.graphql_type_system_syntax.proofs.SeparatorLemmas.{Plain, separated_sound, separated_read, separated_moves, separated_local}

-- what may follow a definition: no token that goes on it, and no `implements`
pub record DefinitionEnds (j : Input) : Type 0 where
  pub ends : Ends j
  pub no_interfaces : sees_keyword keyword.Implements j ≡ false

-- members of unions
bar_plain : Plain VerticalBar IsName name_at
unfolding same_kind
bar_plain = name_plain VerticalBar refl

pub members_sound : (i : Input) (r : List NameText × Input) → members_at i ≡ Ok r → PerhapsList AreMembers i r.0 r.1
unfolding members_at members_in
members_sound i r e = elim (choose_ok _ _ _ _ _ e) [
  | inl h ↦
      let (equals, ee, e1) = sequence_ok _ _ _ _ h.1 in
      PerhapsList.present i r.1 r.0
      (record { behind_equals = equals.1; equals = take_one_ok _ _ _ _ ee; names = separated_sound VerticalBar IsName _ bar_plain equals.1 r e1 })
  | inr h ↦ subst (λ (q : List NameText × Input). PerhapsList AreMembers i q.0 q.1) (answer_is _ _ _ h.1) (PerhapsList.absent i)
]

pub members_read : (i : Input) (xs : List NameText) (j : Input) → PerhapsList AreMembers i xs j → sees Equals j ≡ false → sees VerticalBar j ≡ false → members_at i ≡ Ok (xs, j)
unfolding members_at members_in
members_read _ _ _ (PerhapsList.absent i) apart free = choose_second _ _ _ i apart ∙ answer_read _ i
members_read _ _ _ (PerhapsList.present i j xs are) apart free =
    choose_first _ _ _ i are.equals.comes ∙
    sequence_read _ _ i tt are.behind_equals _ (take_one_read _ _ _ _ are.equals)
    (separated_read VerticalBar IsName _ bar_plain are.behind_equals xs j are.names free)

pub members_less : (i : Input) (xs : List NameText) (j : Input) → PerhapsList AreMembers i xs j → length j.tokens ≤ length i.tokens
members_less _ _ _ (PerhapsList.absent i) = omega arith
members_less _ _ _ (PerhapsList.present i j xs are) =
    omega (arith, takes_less _ _ _ are.equals, separated_moves VerticalBar IsName _ bar_plain are.behind_equals xs j are.names)

-- neither a parenthesis nor `@` comes before members, if none comes behind them
pub members_free : (i : Input) (xs : List NameText) (j : Input) → PerhapsList AreMembers i xs j → Ends j → (sees LeftParenthesis i ≡ false) × (sees At i ≡ false)
unfolding same_kind
members_free _ _ _ (PerhapsList.absent i) ends = (not_parenthesis i ends, not_at i ends)
members_free _ _ _ (PerhapsList.present i j xs are) ends = (
  passes_not (λ k. same_kind k Equals) (λ k. same_kind k LeftParenthesis) refl i are.equals.comes,
  passes_not (λ k. same_kind k Equals) (λ k. same_kind k At) refl i are.equals.comes,
)

pub members_local : (depth : ℕ) → Local depth members_at
unfolding members_at members_in
members_local depth =
    local_choose depth _ _ _
    (local_sequence depth _ _ (local_take_one depth _ _ (kind_is_plain Equals refl refl)) (λ equals.
    separated_local depth VerticalBar _ refl refl (local_name depth)))
    (local_answer depth _)

-- enum values
enum_name_sound : (i : Input) (r : NameText × Input) → enum_value_name_at i ≡ Ok r → IsEnumValueName i r.0 r.1
unfolding enum_value_name_at
enum_name_sound i r e = elim (choose_ok _ _ _ _ _ e) [
  | inl h ↦ absurd (refuse_not_ok _ i r h.1)
  | inr h ↦ elim (choose_ok _ _ _ _ _ h.1) [
    | inl k ↦ absurd (refuse_not_ok _ i r k.1)
    | inr k ↦ elim (choose_ok _ _ _ _ _ k.1) [
      | inl l ↦ absurd (refuse_not_ok _ i r l.1)
      | inr l ↦ record { is_name = name_ok _ _ l.1; not_true = h.0; not_false = k.0; not_null = l.0 }
    ]
  ]
]

enum_name_read : (i : Input) (x : NameText) (j : Input) → IsEnumValueName i x j → enum_value_name_at i ≡ Ok (x, j)
unfolding enum_value_name_at
enum_name_read i x j is =
    choose_second _ _ _ i is.not_true ∙ choose_second _ _ _ i is.not_false ∙ choose_second _ _ _ i is.not_null ∙ name_read _ _ _ is.is_name

enum_name_local : (depth : ℕ) → Local depth enum_value_name_at
unfolding enum_value_name_at
enum_name_local depth =
    local_choose depth _ _ _ (local_refuse depth _)
    (local_choose depth _ _ _ (local_refuse depth _) (local_choose depth _ _ _ (local_refuse depth _) (local_name depth)))

pub enum_value_sound : (depth : ℕ) (i : Input) (r : EnumValueDefinition × Input) → enum_value_definition_at depth i ≡ Ok r → IsEnumValueDefinition depth i r.0 r.1
unfolding enum_value_definition_at
enum_value_sound depth i r e =
    let (description, ed, e1) = sequence_ok _ _ _ _ (starting_ok _ _ _ e) in
    let (name, en, e2) = sequence_ok _ _ _ _ e1 in
    let (directives, es, e3) = sequence_ok _ _ _ _ e2 in
    subst (λ (q : EnumValueDefinition × Input). IsEnumValueDefinition depth i q.0 q.1)
    (placed_is _ (λ span. record { description = description.0; name = name.0; directives = directives.0; span = span }) _ _ e3)
    (record {
      behind_description = description.1;
      behind_name = name.1;
      description = description_sound i description ed;
      name = enum_name_sound _ _ en;
      directives = directives_sound true depth name.1 directives es;
      span = refl;
    })

enum_value_read : (depth : ℕ) (i : Input) (x : EnumValueDefinition) (j : Input) → IsEnumValueDefinition depth i x j → Ends j → enum_value_definition_at depth i ≡ Ok (x, j)
unfolding enum_value_definition_at
enum_value_read depth i x j is ends =
    starting_read _ i _
    (sequence_read _ _ i x.description is.behind_description _ (description_read _ _ _ is.description (name_no_string _ is.name.is_name.takes.comes))
    (sequence_read _ _ is.behind_description x.name is.behind_name _ (enum_name_read _ _ _ is.name)
    (sequence_read _ _ is.behind_name x.directives j _ (directives_read true depth _ _ _ is.directives (not_parenthesis j ends) (not_at j ends))
    (placed_read _ make j ∙ ap (λ s. ok (make s)) (sym is.span))))) where
      make : SourceSpan → EnumValueDefinition
      make span = record { description = x.description; name = x.name; directives = x.directives; span = span }

      ok : EnumValueDefinition → Result (EnumValueDefinition × Input) Refusal
      ok y = Ok (y, j)

enum_value_begins : (depth : ℕ) (i : Input) (x : EnumValueDefinition) (j : Input) → IsEnumValueDefinition depth i x j → next_passes (by_kind begins_described) i ≡ true
enum_value_begins depth i x j is = described_begins _ _ _ is.description is.name.is_name.takes.comes

pub enum_value_moves : (depth : ℕ) (i : Input) (x : EnumValueDefinition) (j : Input) → IsEnumValueDefinition depth i x j → length j.tokens < length i.tokens
enum_value_moves depth i x j is =
    omega (arith, description_less _ _ _ is.description, takes_less _ _ _ is.name.is_name.takes, directives_less true depth _ _ _ is.directives)

pub enum_value_local : (depth : ℕ) → Local depth (enum_value_definition_at depth)
unfolding enum_value_definition_at
enum_value_local depth =
    local_starting depth _ (λ start.
    local_sequence depth _ _ (description_local depth) (λ description.
    local_sequence depth _ _ (enum_name_local depth) (λ name.
    local_sequence depth _ _ (directives_local true depth) (λ directives.
    local_sequence depth _ _ (local_place depth start) (λ span. local_answer depth _)))))

pub enum_value_reader_moves : (depth : ℕ) → Moves (enum_value_definition_at depth)
enum_value_reader_moves depth = reader_moves (IsEnumValueDefinition depth) _ (enum_value_sound depth) (enum_value_moves depth)

pub enum_value_item : (depth : ℕ) → Item (IsEnumValueDefinition depth) (more_test (Until RightBrace)) (enum_value_definition_at depth) Ends
unfolding same_kind
enum_value_item depth = described_item (IsEnumValueDefinition depth) _ RightBrace refl (enum_value_read depth) (enum_value_begins depth) (enum_value_moves depth)

pub input_value_in_braces : (depth : ℕ) → Item (IsInputValueDefinition depth) (more_test (Until RightBrace)) (input_value_definition_at depth) Ends
unfolding same_kind
input_value_in_braces depth = input_value_item depth RightBrace refl
