-- Definitions of scalars, objects and interfaces are read by the grammar, both ways, and locally.
use Rattle.std.proofs.Common.{◌≡◌, ℕ, ◌<◌, true, length, Result, Ok, Option, refl, sym, subst, ◌∙◌, ap, arith}
use Rattle.graphql_nodes.specs.declared.spans.SourceSpan.{SourceSpan}
use Rattle.graphql_tokens.specs.declared.token.TokenKind.TheVariants.{Ampersand}
use Rattle.graphql_trees.specs.declared.type_system.InterfaceTypeDefinition.{InterfaceTypeDefinition}
use Rattle.graphql_trees.specs.declared.type_system.ObjectTypeDefinition.{ObjectTypeDefinition}
use Rattle.graphql_trees.specs.declared.type_system.ScalarTypeDefinition.{ScalarTypeDefinition}
use Rattle.graphql_trees.specs.declared.type_system.Description.{Description}
use Rattle.graphql_syntax.specs.declared.keywords.Keyword.TheVariants as keyword
use Rattle.graphql_syntax.specs.declared.refusals.Refusal.{Refusal}
use Rattle.graphql_syntax.specs.Directives.{AreDirectives}
use Rattle.graphql_syntax.specs.Inputs.{same_kind, Input, IsName, start_of, span_from, TakesKeyword}
use Rattle.graphql_syntax.specs.Many.{Perhaps, PerhapsList}
use Rattle.graphql_syntax.proofs.DirectiveLemmas.{directives_sound, directives_read, directives_less, directives_local, directives_apart}
use Rattle.graphql_syntax.proofs.Locality.{Local, takes_less, local_sequence, local_answer, local_place, keyword_is_plain}
use Rattle.graphql_syntax.proofs.TokenLocality.{local_take_one, local_name}
use Rattle.graphql_syntax.proofs.NextLemmas.{not_parenthesis, not_at, not_ampersand}
use Rattle.graphql_syntax.proofs.ReaderLemmas.{sequence_ok, sequence_read, placed_is, placed_read, take_one_ok, take_one_read, name_ok, name_read}
use Rattle.graphql_type_system_syntax.specs.Bodies.{PerhapsInBraces}
use Rattle.graphql_type_system_syntax.specs.Fields.{IsFieldDefinition, AreInterfaces}
use Rattle.graphql_type_system_syntax.specs.InputValues.{IsDescription}
use Rattle.graphql_type_system_syntax.specs.TypeDefinitions.{IsScalarTypeDefinition, IsObjectTypeDefinition, IsInterfaceTypeDefinition}
use Rattle.graphql_type_system_syntax.specs.TypeDefinitionReaders.{scalar_behind, object_behind, interface_behind}
use Rattle.graphql_type_system_syntax.proofs.BraceLemmas.{perhaps_sound, perhaps_read, perhaps_less, perhaps_ends, perhaps_local}
use Rattle.graphql_type_system_syntax.proofs.FieldLemmas.{field_sound, field_moves, field_local, field_reader_moves, field_item, interfaces_sound, interfaces_read, interfaces_less, interfaces_local, directives_no_keyword, braces_no_keyword}
use Rattle.graphql_type_system_syntax.proofs.MemberLemmas.{DefinitionEnds}

-- scalars
pub record ScalarBehind (depth start : ℕ) (description : Option Description) (m : Input) (x : ScalarTypeDefinition) (j : Input) : Type 0 where
  pub behind_word : Input
  pub behind_name : Input
  pub word : TakesKeyword keyword.Scalar m behind_word
  pub name : IsName behind_word x.name behind_name
  pub directives : AreDirectives true depth behind_name x.directives j
  pub same_description : x.description ≡ description
  pub span : x.span ≡ span_from start j

pub scalar_behind_sound : (depth start : ℕ) (description : Option Description) (m : Input) (r : ScalarTypeDefinition × Input) → scalar_behind depth start description m ≡ Ok r →
    ScalarBehind depth start description m r.0 r.1
unfolding scalar_behind
scalar_behind_sound depth start description m r e =
    let (word, ew, e1) = sequence_ok _ _ _ _ e in
    let (name, en, e2) = sequence_ok _ _ _ _ e1 in
    let (directives, es, e3) = sequence_ok _ _ _ _ e2 in
    subst (λ (q : ScalarTypeDefinition × Input). ScalarBehind depth start description m q.0 q.1)
    (placed_is _ (λ span. record { description = description; name = name.0; directives = directives.0; span = span }) _ _ e3)
    (record {
      behind_word = word.1;
      behind_name = name.1;
      word = take_one_ok _ _ _ _ ew;
      name = name_ok _ _ en;
      directives = directives_sound true depth name.1 directives es;
      same_description = refl;
      span = refl;
    })

pub scalar_behind_read : (depth start : ℕ) (description : Option Description) (m : Input) (x : ScalarTypeDefinition) (j : Input) → ScalarBehind depth start description m x j → DefinitionEnds j →
    scalar_behind depth start description m ≡ Ok (x, j)
unfolding scalar_behind same_kind
scalar_behind_read depth start description m x j is free =
    sequence_read _ _ m tt is.behind_word _ (take_one_read _ _ _ _ is.word)
    (sequence_read _ _ is.behind_word x.name is.behind_name _ (name_read _ _ _ is.name)
    (sequence_read _ _ is.behind_name x.directives j _ (directives_read true depth _ _ _ is.directives (not_parenthesis j free.ends) (not_at j free.ends))
    (placed_read start (make description) j ∙ ap (λ d. ok (make d (span_from start j))) (sym is.same_description) ∙ ap (λ s. ok (make x.description s)) (sym is.span)))) where
      make : Option Description → SourceSpan → ScalarTypeDefinition
      make description span = record { description = description; name = x.name; directives = x.directives; span = span }

      ok : ScalarTypeDefinition → Result (ScalarTypeDefinition × Input) Refusal
      ok y = Ok (y, j)

pub scalar_behind_moves : (depth start : ℕ) (description : Option Description) (m : Input) (x : ScalarTypeDefinition) (j : Input) → ScalarBehind depth start description m x j →
    length j.tokens < length m.tokens
scalar_behind_moves depth start description m x j is =
    omega (arith, takes_less _ _ _ is.word, takes_less _ _ _ is.name.takes, directives_less true depth _ _ _ is.directives)

pub scalar_behind_local : (depth start : ℕ) (description : Option Description) → Local depth (scalar_behind depth start description)
unfolding scalar_behind
scalar_behind_local depth start description =
    local_sequence depth _ _ (local_take_one depth _ _ (keyword_is_plain keyword.Scalar)) (λ word.
    local_sequence depth _ _ (local_name depth) (λ name.
    local_sequence depth _ _ (directives_local true depth) (λ directives.
    local_sequence depth _ _ (local_place depth start) (λ span. local_answer depth _))))

pub scalar_defined : (depth : ℕ) (i m : Input) (description : Option Description) (x : ScalarTypeDefinition) (j : Input) → Perhaps IsDescription i description m →
    ScalarBehind depth (start_of i) description m x j → IsScalarTypeDefinition depth i x j
scalar_defined depth i m description x j described is =
    record {
      behind_description = m;
      behind_word = is.behind_word;
      behind_name = is.behind_name;
      description = subst (λ d. Perhaps IsDescription i d m) (sym is.same_description) described;
      word = is.word;
      name = is.name;
      directives = is.directives;
      span = is.span;
    }

pub scalar_of : (depth : ℕ) (i : Input) (x : ScalarTypeDefinition) (j : Input) (is : IsScalarTypeDefinition depth i x j) → ScalarBehind depth (start_of i) x.description is.behind_description x j
scalar_of depth i x j is =
    record {
      behind_word = is.behind_word;
      behind_name = is.behind_name;
      word = is.word;
      name = is.name;
      directives = is.directives;
      same_description = refl;
      span = is.span;
    }

-- objects
pub record ObjectBehind (depth start : ℕ) (description : Option Description) (m : Input) (x : ObjectTypeDefinition) (j : Input) : Type 0 where
  pub behind_word : Input
  pub behind_name : Input
  pub behind_interfaces : Input
  pub behind_directives : Input
  pub word : TakesKeyword keyword.«Type» m behind_word
  pub name : IsName behind_word x.name behind_name
  pub interfaces : PerhapsList AreInterfaces behind_name x.interfaces behind_interfaces
  pub directives : AreDirectives true depth behind_interfaces x.directives behind_directives
  pub fields : PerhapsInBraces IsFieldDefinition depth behind_directives x.fields j
  pub same_description : x.description ≡ description
  pub span : x.span ≡ span_from start j

pub object_behind_sound : (depth start : ℕ) (description : Option Description) (m : Input) (r : ObjectTypeDefinition × Input) → object_behind depth start description m ≡ Ok r →
    ObjectBehind depth start description m r.0 r.1
unfolding object_behind
object_behind_sound depth start description m r e =
    let (word, ew, e1) = sequence_ok _ _ _ _ e in
    let (name, en, e2) = sequence_ok _ _ _ _ e1 in
    let (interfaces, ef, e3) = sequence_ok _ _ _ _ e2 in
    let (directives, es, e4) = sequence_ok _ _ _ _ e3 in
    let (fields, eb, e5) = sequence_ok _ _ _ _ e4 in
    subst (λ (q : ObjectTypeDefinition × Input). ObjectBehind depth start description m q.0 q.1)
    (placed_is _ (λ span. record { description = description; name = name.0; interfaces = interfaces.0; directives = directives.0; fields = fields.0; span = span }) _ _ e5)
    (record {
      behind_word = word.1;
      behind_name = name.1;
      behind_interfaces = interfaces.1;
      behind_directives = directives.1;
      word = take_one_ok _ _ _ _ ew;
      name = name_ok _ _ en;
      interfaces = interfaces_sound name.1 interfaces ef;
      directives = directives_sound true depth interfaces.1 directives es;
      fields = perhaps_sound IsFieldDefinition _ field_sound depth directives.1 fields eb;
      same_description = refl;
      span = refl;
    })

pub object_behind_read : (depth start : ℕ) (description : Option Description) (m : Input) (x : ObjectTypeDefinition) (j : Input) → ObjectBehind depth start description m x j → DefinitionEnds j →
    object_behind depth start description m ≡ Ok (x, j)
unfolding object_behind same_kind
object_behind_read depth start description m x j is free =
    let before = perhaps_ends IsFieldDefinition depth _ _ _ is.fields free.ends in
    sequence_read _ _ m tt is.behind_word _ (take_one_read _ _ _ _ is.word)
    (sequence_read _ _ is.behind_word x.name is.behind_name _ (name_read _ _ _ is.name)
    (sequence_read _ _ is.behind_name x.interfaces is.behind_interfaces _
    (interfaces_read _ _ _ is.interfaces
    (directives_no_keyword keyword.Implements depth _ _ _ is.directives (braces_no_keyword IsFieldDefinition keyword.Implements depth _ _ _ is.fields free.no_interfaces))
    (directives_apart true depth (λ k. same_kind k Ampersand) refl _ _ _ is.directives (not_ampersand _ before)))
    (sequence_read _ _ is.behind_interfaces x.directives is.behind_directives _ (directives_read true depth _ _ _ is.directives (not_parenthesis _ before) (not_at _ before))
    (sequence_read _ _ is.behind_directives x.fields j _ (perhaps_read IsFieldDefinition _ field_item depth _ _ _ is.fields)
    (placed_read start (make description) j ∙ ap (λ d. ok (make d (span_from start j))) (sym is.same_description) ∙ ap (λ s. ok (make x.description s)) (sym is.span)))))) where
      make : Option Description → SourceSpan → ObjectTypeDefinition
      make description span = record { description = description; name = x.name; interfaces = x.interfaces; directives = x.directives; fields = x.fields; span = span }

      ok : ObjectTypeDefinition → Result (ObjectTypeDefinition × Input) Refusal
      ok y = Ok (y, j)

pub object_behind_moves : (depth start : ℕ) (description : Option Description) (m : Input) (x : ObjectTypeDefinition) (j : Input) → ObjectBehind depth start description m x j →
    length j.tokens < length m.tokens
object_behind_moves depth start description m x j is =
    omega (arith, takes_less _ _ _ is.word, takes_less _ _ _ is.name.takes, interfaces_less _ _ _ is.interfaces, directives_less true depth _ _ _ is.directives, perhaps_less IsFieldDefinition field_moves depth _ _ _ is.fields)

pub object_behind_local : (depth start : ℕ) (description : Option Description) → Local depth (object_behind depth start description)
unfolding object_behind
object_behind_local depth start description =
    local_sequence depth _ _ (local_take_one depth _ _ (keyword_is_plain keyword.«Type»)) (λ word.
    local_sequence depth _ _ (local_name depth) (λ name.
    local_sequence depth _ _ (interfaces_local depth) (λ interfaces.
    local_sequence depth _ _ (directives_local true depth) (λ directives.
    local_sequence depth _ _ (perhaps_local _ field_local field_reader_moves depth) (λ fields.
    local_sequence depth _ _ (local_place depth start) (λ span. local_answer depth _))))))

pub object_defined : (depth : ℕ) (i m : Input) (description : Option Description) (x : ObjectTypeDefinition) (j : Input) → Perhaps IsDescription i description m →
    ObjectBehind depth (start_of i) description m x j → IsObjectTypeDefinition depth i x j
object_defined depth i m description x j described is =
    record {
      behind_description = m;
      behind_word = is.behind_word;
      behind_name = is.behind_name;
      behind_interfaces = is.behind_interfaces;
      behind_directives = is.behind_directives;
      description = subst (λ d. Perhaps IsDescription i d m) (sym is.same_description) described;
      word = is.word;
      name = is.name;
      interfaces = is.interfaces;
      directives = is.directives;
      fields = is.fields;
      span = is.span;
    }

pub object_of : (depth : ℕ) (i : Input) (x : ObjectTypeDefinition) (j : Input) (is : IsObjectTypeDefinition depth i x j) → ObjectBehind depth (start_of i) x.description is.behind_description x j
object_of depth i x j is =
    record {
      behind_word = is.behind_word;
      behind_name = is.behind_name;
      behind_interfaces = is.behind_interfaces;
      behind_directives = is.behind_directives;
      word = is.word;
      name = is.name;
      interfaces = is.interfaces;
      directives = is.directives;
      fields = is.fields;
      same_description = refl;
      span = is.span;
    }

-- interfaces
pub record InterfaceBehind (depth start : ℕ) (description : Option Description) (m : Input) (x : InterfaceTypeDefinition) (j : Input) : Type 0 where
  pub behind_word : Input
  pub behind_name : Input
  pub behind_interfaces : Input
  pub behind_directives : Input
  pub word : TakesKeyword keyword.Interface m behind_word
  pub name : IsName behind_word x.name behind_name
  pub interfaces : PerhapsList AreInterfaces behind_name x.interfaces behind_interfaces
  pub directives : AreDirectives true depth behind_interfaces x.directives behind_directives
  pub fields : PerhapsInBraces IsFieldDefinition depth behind_directives x.fields j
  pub same_description : x.description ≡ description
  pub span : x.span ≡ span_from start j

pub interface_behind_sound : (depth start : ℕ) (description : Option Description) (m : Input) (r : InterfaceTypeDefinition × Input) → interface_behind depth start description m ≡ Ok r →
    InterfaceBehind depth start description m r.0 r.1
unfolding interface_behind
interface_behind_sound depth start description m r e =
    let (word, ew, e1) = sequence_ok _ _ _ _ e in
    let (name, en, e2) = sequence_ok _ _ _ _ e1 in
    let (interfaces, ef, e3) = sequence_ok _ _ _ _ e2 in
    let (directives, es, e4) = sequence_ok _ _ _ _ e3 in
    let (fields, eb, e5) = sequence_ok _ _ _ _ e4 in
    subst (λ (q : InterfaceTypeDefinition × Input). InterfaceBehind depth start description m q.0 q.1)
    (placed_is _ (λ span. record { description = description; name = name.0; interfaces = interfaces.0; directives = directives.0; fields = fields.0; span = span }) _ _ e5)
    (record {
      behind_word = word.1;
      behind_name = name.1;
      behind_interfaces = interfaces.1;
      behind_directives = directives.1;
      word = take_one_ok _ _ _ _ ew;
      name = name_ok _ _ en;
      interfaces = interfaces_sound name.1 interfaces ef;
      directives = directives_sound true depth interfaces.1 directives es;
      fields = perhaps_sound IsFieldDefinition _ field_sound depth directives.1 fields eb;
      same_description = refl;
      span = refl;
    })

pub interface_behind_read : (depth start : ℕ) (description : Option Description) (m : Input) (x : InterfaceTypeDefinition) (j : Input) → InterfaceBehind depth start description m x j → DefinitionEnds j →
    interface_behind depth start description m ≡ Ok (x, j)
unfolding interface_behind same_kind
interface_behind_read depth start description m x j is free =
    let before = perhaps_ends IsFieldDefinition depth _ _ _ is.fields free.ends in
    sequence_read _ _ m tt is.behind_word _ (take_one_read _ _ _ _ is.word)
    (sequence_read _ _ is.behind_word x.name is.behind_name _ (name_read _ _ _ is.name)
    (sequence_read _ _ is.behind_name x.interfaces is.behind_interfaces _
    (interfaces_read _ _ _ is.interfaces
    (directives_no_keyword keyword.Implements depth _ _ _ is.directives (braces_no_keyword IsFieldDefinition keyword.Implements depth _ _ _ is.fields free.no_interfaces))
    (directives_apart true depth (λ k. same_kind k Ampersand) refl _ _ _ is.directives (not_ampersand _ before)))
    (sequence_read _ _ is.behind_interfaces x.directives is.behind_directives _ (directives_read true depth _ _ _ is.directives (not_parenthesis _ before) (not_at _ before))
    (sequence_read _ _ is.behind_directives x.fields j _ (perhaps_read IsFieldDefinition _ field_item depth _ _ _ is.fields)
    (placed_read start (make description) j ∙ ap (λ d. ok (make d (span_from start j))) (sym is.same_description) ∙ ap (λ s. ok (make x.description s)) (sym is.span)))))) where
      make : Option Description → SourceSpan → InterfaceTypeDefinition
      make description span = record { description = description; name = x.name; interfaces = x.interfaces; directives = x.directives; fields = x.fields; span = span }

      ok : InterfaceTypeDefinition → Result (InterfaceTypeDefinition × Input) Refusal
      ok y = Ok (y, j)

pub interface_behind_moves : (depth start : ℕ) (description : Option Description) (m : Input) (x : InterfaceTypeDefinition) (j : Input) → InterfaceBehind depth start description m x j →
    length j.tokens < length m.tokens
interface_behind_moves depth start description m x j is =
    omega (arith, takes_less _ _ _ is.word, takes_less _ _ _ is.name.takes, interfaces_less _ _ _ is.interfaces, directives_less true depth _ _ _ is.directives, perhaps_less IsFieldDefinition field_moves depth _ _ _ is.fields)

pub interface_behind_local : (depth start : ℕ) (description : Option Description) → Local depth (interface_behind depth start description)
unfolding interface_behind
interface_behind_local depth start description =
    local_sequence depth _ _ (local_take_one depth _ _ (keyword_is_plain keyword.Interface)) (λ word.
    local_sequence depth _ _ (local_name depth) (λ name.
    local_sequence depth _ _ (interfaces_local depth) (λ interfaces.
    local_sequence depth _ _ (directives_local true depth) (λ directives.
    local_sequence depth _ _ (perhaps_local _ field_local field_reader_moves depth) (λ fields.
    local_sequence depth _ _ (local_place depth start) (λ span. local_answer depth _))))))

pub interface_defined : (depth : ℕ) (i m : Input) (description : Option Description) (x : InterfaceTypeDefinition) (j : Input) → Perhaps IsDescription i description m →
    InterfaceBehind depth (start_of i) description m x j → IsInterfaceTypeDefinition depth i x j
interface_defined depth i m description x j described is =
    record {
      behind_description = m;
      behind_word = is.behind_word;
      behind_name = is.behind_name;
      behind_interfaces = is.behind_interfaces;
      behind_directives = is.behind_directives;
      description = subst (λ d. Perhaps IsDescription i d m) (sym is.same_description) described;
      word = is.word;
      name = is.name;
      interfaces = is.interfaces;
      directives = is.directives;
      fields = is.fields;
      span = is.span;
    }

pub interface_of : (depth : ℕ) (i : Input) (x : InterfaceTypeDefinition) (j : Input) (is : IsInterfaceTypeDefinition depth i x j) → InterfaceBehind depth (start_of i) x.description is.behind_description x j
interface_of depth i x j is =
    record {
      behind_word = is.behind_word;
      behind_name = is.behind_name;
      behind_interfaces = is.behind_interfaces;
      behind_directives = is.behind_directives;
      word = is.word;
      name = is.name;
      interfaces = is.interfaces;
      directives = is.directives;
      fields = is.fields;
      same_description = refl;
      span = is.span;
    }
