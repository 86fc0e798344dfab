-- Definitions of unions, enums and input objects are read by the grammar, both ways, and locally.
use Rattle.std.proofs.Common.{◌≡◌, ℕ, ◌<◌, true, length, Result, Ok, Option, refl, sym, subst, ◌∙◌, ap, arith}
use Rattle.graphql_nodes.specs.declared.spans.SourceSpan.{SourceSpan}
use Rattle.graphql_trees.specs.declared.type_system.EnumTypeDefinition.{EnumTypeDefinition}
use Rattle.graphql_trees.specs.declared.type_system.InputObjectTypeDefinition.{InputObjectTypeDefinition}
use Rattle.graphql_trees.specs.declared.type_system.UnionTypeDefinition.{UnionTypeDefinition}
use Rattle.graphql_trees.specs.declared.type_system.Description.{Description}
use Rattle.graphql_syntax.specs.declared.keywords.Keyword.TheVariants as keyword
use Rattle.graphql_syntax.specs.declared.refusals.Refusal.{Refusal}
use Rattle.graphql_syntax.specs.Directives.{AreDirectives}
use Rattle.graphql_syntax.specs.Inputs.{same_kind, Input, IsName, start_of, span_from, TakesKeyword}
use Rattle.graphql_syntax.specs.Many.{Perhaps, PerhapsList}
use Rattle.graphql_syntax.proofs.DirectiveLemmas.{directives_sound, directives_read, directives_less, directives_local}
use Rattle.graphql_syntax.proofs.Locality.{Local, takes_less, local_sequence, local_answer, local_place, keyword_is_plain}
use Rattle.graphql_syntax.proofs.TokenLocality.{local_take_one, local_name}
use Rattle.graphql_syntax.proofs.NextLemmas.{not_parenthesis, not_at, not_equals, not_bar}
use Rattle.graphql_syntax.proofs.ReaderLemmas.{sequence_ok, sequence_read, placed_is, placed_read, take_one_ok, take_one_read, name_ok, name_read}
use Rattle.graphql_type_system_syntax.specs.Bodies.{PerhapsInBraces}
use Rattle.graphql_type_system_syntax.specs.InputValues.{IsDescription, IsInputValueDefinition}
use Rattle.graphql_type_system_syntax.specs.TypeDefinitions.{AreMembers, IsEnumValueDefinition, IsUnionTypeDefinition, IsEnumTypeDefinition, IsInputObjectTypeDefinition}
use Rattle.graphql_type_system_syntax.specs.TypeDefinitionReaders.{union_behind, enum_behind, input_object_behind}
use Rattle.graphql_type_system_syntax.proofs.BraceLemmas.{perhaps_sound, perhaps_read, perhaps_less, perhaps_ends, perhaps_local}
use Rattle.graphql_type_system_syntax.proofs.InputValueLemmas.{input_value_sound, input_value_moves, input_value_local, input_value_reader_moves}
use Rattle.graphql_type_system_syntax.proofs.MemberLemmas.{DefinitionEnds, enum_value_item, enum_value_local, enum_value_moves, enum_value_reader_moves, enum_value_sound, input_value_in_braces, members_free, members_less, members_local, members_read, members_sound}

-- unions
pub record UnionBehind (depth start : ℕ) (description : Option Description) (m : Input) (x : UnionTypeDefinition) (j : Input) : Type 0 where
  pub behind_word : Input
  pub behind_name : Input
  pub behind_directives : Input
  pub word : TakesKeyword keyword.Union m behind_word
  pub name : IsName behind_word x.name behind_name
  pub directives : AreDirectives true depth behind_name x.directives behind_directives
  pub members : PerhapsList AreMembers behind_directives x.members j
  pub same_description : x.description ≡ description
  pub span : x.span ≡ span_from start j

pub union_behind_sound : (depth start : ℕ) (description : Option Description) (m : Input) (r : UnionTypeDefinition × Input) → union_behind depth start description m ≡ Ok r →
    UnionBehind depth start description m r.0 r.1
unfolding union_behind
union_behind_sound depth start description m r e =
    let (word, ew, e1) = sequence_ok _ _ _ _ e in
    let (name, en, e2) = sequence_ok _ _ _ _ e1 in
    let (directives, es, e3) = sequence_ok _ _ _ _ e2 in
    let (members, eb, e4) = sequence_ok _ _ _ _ e3 in
    subst (λ (q : UnionTypeDefinition × Input). UnionBehind depth start description m q.0 q.1)
    (placed_is _ (λ span. record { description = description; name = name.0; directives = directives.0; members = members.0; span = span }) _ _ e4)
    (record {
      behind_word = word.1;
      behind_name = name.1;
      behind_directives = directives.1;
      word = take_one_ok _ _ _ _ ew;
      name = name_ok _ _ en;
      directives = directives_sound true depth name.1 directives es;
      members = members_sound directives.1 members eb;
      same_description = refl;
      span = refl;
    })

pub union_behind_read : (depth start : ℕ) (description : Option Description) (m : Input) (x : UnionTypeDefinition) (j : Input) → UnionBehind depth start description m x j → DefinitionEnds j →
    union_behind depth start description m ≡ Ok (x, j)
unfolding union_behind same_kind
union_behind_read depth start description m x j is free =
    let before = members_free _ _ _ is.members free.ends in
    sequence_read _ _ m tt is.behind_word _ (take_one_read _ _ _ _ is.word)
    (sequence_read _ _ is.behind_word x.name is.behind_name _ (name_read _ _ _ is.name)
    (sequence_read _ _ is.behind_name x.directives is.behind_directives _ (directives_read true depth _ _ _ is.directives before.0 before.1)
    (sequence_read _ _ is.behind_directives x.members j _ (members_read _ _ _ is.members (not_equals j free.ends) (not_bar j free.ends))
    (placed_read start (make description) j ∙ ap (λ d. ok (make d (span_from start j))) (sym is.same_description) ∙ ap (λ s. ok (make x.description s)) (sym is.span))))) where
      make : Option Description → SourceSpan → UnionTypeDefinition
      make description span = record { description = description; name = x.name; directives = x.directives; members = x.members; span = span }

      ok : UnionTypeDefinition → Result (UnionTypeDefinition × Input) Refusal
      ok y = Ok (y, j)

pub union_behind_moves : (depth start : ℕ) (description : Option Description) (m : Input) (x : UnionTypeDefinition) (j : Input) → UnionBehind depth start description m x j →
    length j.tokens < length m.tokens
union_behind_moves depth start description m x j is =
    omega (arith, takes_less _ _ _ is.word, takes_less _ _ _ is.name.takes, directives_less true depth _ _ _ is.directives, members_less _ _ _ is.members)

pub union_behind_local : (depth start : ℕ) (description : Option Description) → Local depth (union_behind depth start description)
unfolding union_behind
union_behind_local depth start description =
    local_sequence depth _ _ (local_take_one depth _ _ (keyword_is_plain keyword.Union)) (λ word.
    local_sequence depth _ _ (local_name depth) (λ name.
    local_sequence depth _ _ (directives_local true depth) (λ directives.
    local_sequence depth _ _ (members_local depth) (λ members.
    local_sequence depth _ _ (local_place depth start) (λ span. local_answer depth _)))))

pub union_defined : (depth : ℕ) (i m : Input) (description : Option Description) (x : UnionTypeDefinition) (j : Input) → Perhaps IsDescription i description m →
    UnionBehind depth (start_of i) description m x j → IsUnionTypeDefinition depth i x j
union_defined depth i m description x j described is =
    record {
      behind_description = m;
      behind_word = is.behind_word;
      behind_name = is.behind_name;
      behind_directives = is.behind_directives;
      description = subst (λ d. Perhaps IsDescription i d m) (sym is.same_description) described;
      word = is.word;
      name = is.name;
      directives = is.directives;
      members = is.members;
      span = is.span;
    }

pub union_of : (depth : ℕ) (i : Input) (x : UnionTypeDefinition) (j : Input) (is : IsUnionTypeDefinition depth i x j) → UnionBehind depth (start_of i) x.description is.behind_description x j
union_of depth i x j is =
    record {
      behind_word = is.behind_word;
      behind_name = is.behind_name;
      behind_directives = is.behind_directives;
      word = is.word;
      name = is.name;
      directives = is.directives;
      members = is.members;
      same_description = refl;
      span = is.span;
    }

-- enums
pub record EnumBehind (depth start : ℕ) (description : Option Description) (m : Input) (x : EnumTypeDefinition) (j : Input) : Type 0 where
  pub behind_word : Input
  pub behind_name : Input
  pub behind_directives : Input
  pub word : TakesKeyword keyword.Enum m behind_word
  pub name : IsName behind_word x.name behind_name
  pub directives : AreDirectives true depth behind_name x.directives behind_directives
  pub values : PerhapsInBraces IsEnumValueDefinition depth behind_directives x.values j
  pub same_description : x.description ≡ description
  pub span : x.span ≡ span_from start j

pub enum_behind_sound : (depth start : ℕ) (description : Option Description) (m : Input) (r : EnumTypeDefinition × Input) → enum_behind depth start description m ≡ Ok r →
    EnumBehind depth start description m r.0 r.1
unfolding enum_behind
enum_behind_sound depth start description m r e =
    let (word, ew, e1) = sequence_ok _ _ _ _ e in
    let (name, en, e2) = sequence_ok _ _ _ _ e1 in
    let (directives, es, e3) = sequence_ok _ _ _ _ e2 in
    let (values, eb, e4) = sequence_ok _ _ _ _ e3 in
    subst (λ (q : EnumTypeDefinition × Input). EnumBehind depth start description m q.0 q.1)
    (placed_is _ (λ span. record { description = description; name = name.0; directives = directives.0; values = values.0; span = span }) _ _ e4)
    (record {
      behind_word = word.1;
      behind_name = name.1;
      behind_directives = directives.1;
      word = take_one_ok _ _ _ _ ew;
      name = name_ok _ _ en;
      directives = directives_sound true depth name.1 directives es;
      values = perhaps_sound IsEnumValueDefinition _ enum_value_sound depth directives.1 values eb;
      same_description = refl;
      span = refl;
    })

pub enum_behind_read : (depth start : ℕ) (description : Option Description) (m : Input) (x : EnumTypeDefinition) (j : Input) → EnumBehind depth start description m x j → DefinitionEnds j →
    enum_behind depth start description m ≡ Ok (x, j)
unfolding enum_behind same_kind
enum_behind_read depth start description m x j is free =
    let before = perhaps_ends IsEnumValueDefinition depth _ _ _ is.values free.ends in
    sequence_read _ _ m tt is.behind_word _ (take_one_read _ _ _ _ is.word)
    (sequence_read _ _ is.behind_word x.name is.behind_name _ (name_read _ _ _ is.name)
    (sequence_read _ _ is.behind_name x.directives is.behind_directives _ (directives_read true depth _ _ _ is.directives (not_parenthesis _ before) (not_at _ before))
    (sequence_read _ _ is.behind_directives x.values j _ (perhaps_read IsEnumValueDefinition _ enum_value_item depth _ _ _ is.values)
    (placed_read start (make description) j ∙ ap (λ d. ok (make d (span_from start j))) (sym is.same_description) ∙ ap (λ s. ok (make x.description s)) (sym is.span))))) where
      make : Option Description → SourceSpan → EnumTypeDefinition
      make description span = record { description = description; name = x.name; directives = x.directives; values = x.values; span = span }

      ok : EnumTypeDefinition → Result (EnumTypeDefinition × Input) Refusal
      ok y = Ok (y, j)

pub enum_behind_moves : (depth start : ℕ) (description : Option Description) (m : Input) (x : EnumTypeDefinition) (j : Input) → EnumBehind depth start description m x j →
    length j.tokens < length m.tokens
enum_behind_moves depth start description m x j is =
    omega (arith, takes_less _ _ _ is.word, takes_less _ _ _ is.name.takes, directives_less true depth _ _ _ is.directives, perhaps_less IsEnumValueDefinition enum_value_moves depth _ _ _ is.values)

pub enum_behind_local : (depth start : ℕ) (description : Option Description) → Local depth (enum_behind depth start description)
unfolding enum_behind
enum_behind_local depth start description =
    local_sequence depth _ _ (local_take_one depth _ _ (keyword_is_plain keyword.Enum)) (λ word.
    local_sequence depth _ _ (local_name depth) (λ name.
    local_sequence depth _ _ (directives_local true depth) (λ directives.
    local_sequence depth _ _ (perhaps_local _ enum_value_local enum_value_reader_moves depth) (λ values.
    local_sequence depth _ _ (local_place depth start) (λ span. local_answer depth _)))))

pub enum_defined : (depth : ℕ) (i m : Input) (description : Option Description) (x : EnumTypeDefinition) (j : Input) → Perhaps IsDescription i description m →
    EnumBehind depth (start_of i) description m x j → IsEnumTypeDefinition depth i x j
enum_defined depth i m description x j described is =
    record {
      behind_description = m;
      behind_word = is.behind_word;
      behind_name = is.behind_name;
      behind_directives = is.behind_directives;
      description = subst (λ d. Perhaps IsDescription i d m) (sym is.same_description) described;
      word = is.word;
      name = is.name;
      directives = is.directives;
      values = is.values;
      span = is.span;
    }

pub enum_of : (depth : ℕ) (i : Input) (x : EnumTypeDefinition) (j : Input) (is : IsEnumTypeDefinition depth i x j) → EnumBehind depth (start_of i) x.description is.behind_description x j
enum_of depth i x j is =
    record {
      behind_word = is.behind_word;
      behind_name = is.behind_name;
      behind_directives = is.behind_directives;
      word = is.word;
      name = is.name;
      directives = is.directives;
      values = is.values;
      same_description = refl;
      span = is.span;
    }

-- input objects
pub record InputObjectBehind (depth start : ℕ) (description : Option Description) (m : Input) (x : InputObjectTypeDefinition) (j : Input) : Type 0 where
  pub behind_word : Input
  pub behind_name : Input
  pub behind_directives : Input
  pub word : TakesKeyword keyword.Input m behind_word
  pub name : IsName behind_word x.name behind_name
  pub directives : AreDirectives true depth behind_name x.directives behind_directives
  pub fields : PerhapsInBraces IsInputValueDefinition depth behind_directives x.fields j
  pub same_description : x.description ≡ description
  pub span : x.span ≡ span_from start j

pub input_object_behind_sound : (depth start : ℕ) (description : Option Description) (m : Input) (r : InputObjectTypeDefinition × Input) → input_object_behind depth start description m ≡ Ok r →
    InputObjectBehind depth start description m r.0 r.1
unfolding input_object_behind
input_object_behind_sound depth start description m r e =
    let (word, ew, e1) = sequence_ok _ _ _ _ e in
    let (name, en, e2) = sequence_ok _ _ _ _ e1 in
    let (directives, es, e3) = sequence_ok _ _ _ _ e2 in
    let (fields, eb, e4) = sequence_ok _ _ _ _ e3 in
    subst (λ (q : InputObjectTypeDefinition × Input). InputObjectBehind depth start description m q.0 q.1)
    (placed_is _ (λ span. record { description = description; name = name.0; directives = directives.0; fields = fields.0; span = span }) _ _ e4)
    (record {
      behind_word = word.1;
      behind_name = name.1;
      behind_directives = directives.1;
      word = take_one_ok _ _ _ _ ew;
      name = name_ok _ _ en;
      directives = directives_sound true depth name.1 directives es;
      fields = perhaps_sound IsInputValueDefinition _ input_value_sound depth directives.1 fields eb;
      same_description = refl;
      span = refl;
    })

pub input_object_behind_read : (depth start : ℕ) (description : Option Description) (m : Input) (x : InputObjectTypeDefinition) (j : Input) → InputObjectBehind depth start description m x j → DefinitionEnds j →
    input_object_behind depth start description m ≡ Ok (x, j)
unfolding input_object_behind same_kind
input_object_behind_read depth start description m x j is free =
    let before = perhaps_ends IsInputValueDefinition depth _ _ _ is.fields free.ends in
    sequence_read _ _ m tt is.behind_word _ (take_one_read _ _ _ _ is.word)
    (sequence_read _ _ is.behind_word x.name is.behind_name _ (name_read _ _ _ is.name)
    (sequence_read _ _ is.behind_name x.directives is.behind_directives _ (directives_read true depth _ _ _ is.directives (not_parenthesis _ before) (not_at _ before))
    (sequence_read _ _ is.behind_directives x.fields j _ (perhaps_read IsInputValueDefinition _ input_value_in_braces depth _ _ _ is.fields)
    (placed_read start (make description) j ∙ ap (λ d. ok (make d (span_from start j))) (sym is.same_description) ∙ ap (λ s. ok (make x.description s)) (sym is.span))))) where
      make : Option Description → SourceSpan → InputObjectTypeDefinition
      make description span = record { description = description; name = x.name; directives = x.directives; fields = x.fields; span = span }

      ok : InputObjectTypeDefinition → Result (InputObjectTypeDefinition × Input) Refusal
      ok y = Ok (y, j)

pub input_object_behind_moves : (depth start : ℕ) (description : Option Description) (m : Input) (x : InputObjectTypeDefinition) (j : Input) → InputObjectBehind depth start description m x j →
    length j.tokens < length m.tokens
input_object_behind_moves depth start description m x j is =
    omega (arith, takes_less _ _ _ is.word, takes_less _ _ _ is.name.takes, directives_less true depth _ _ _ is.directives, perhaps_less IsInputValueDefinition input_value_moves depth _ _ _ is.fields)

pub input_object_behind_local : (depth start : ℕ) (description : Option Description) → Local depth (input_object_behind depth start description)
unfolding input_object_behind
input_object_behind_local depth start description =
    local_sequence depth _ _ (local_take_one depth _ _ (keyword_is_plain keyword.Input)) (λ word.
    local_sequence depth _ _ (local_name depth) (λ name.
    local_sequence depth _ _ (directives_local true depth) (λ directives.
    local_sequence depth _ _ (perhaps_local _ input_value_local input_value_reader_moves depth) (λ fields.
    local_sequence depth _ _ (local_place depth start) (λ span. local_answer depth _)))))

pub input_object_defined : (depth : ℕ) (i m : Input) (description : Option Description) (x : InputObjectTypeDefinition) (j : Input) → Perhaps IsDescription i description m →
    InputObjectBehind depth (start_of i) description m x j → IsInputObjectTypeDefinition depth i x j
input_object_defined depth i m description x j described is =
    record {
      behind_description = m;
      behind_word = is.behind_word;
      behind_name = is.behind_name;
      behind_directives = is.behind_directives;
      description = subst (λ d. Perhaps IsDescription i d m) (sym is.same_description) described;
      word = is.word;
      name = is.name;
      directives = is.directives;
      fields = is.fields;
      span = is.span;
    }

pub input_object_of : (depth : ℕ) (i : Input) (x : InputObjectTypeDefinition) (j : Input) (is : IsInputObjectTypeDefinition depth i x j) → InputObjectBehind depth (start_of i) x.description is.behind_description x j
input_object_of depth i x j is =
    record {
      behind_word = is.behind_word;
      behind_name = is.behind_name;
      behind_directives = is.behind_directives;
      word = is.word;
      name = is.name;
      directives = is.directives;
      fields = is.fields;
      same_description = refl;
      span = is.span;
    }
