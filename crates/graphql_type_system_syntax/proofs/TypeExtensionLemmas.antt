-- Extensions of types are read by the grammar, both ways, and locally.
use Rattle.std.proofs.Common.{◌≡◌, ℕ, ◌<◌, true, false, inl, inr, length, Ok, None, refl, subst, ◌∙◌, arith}
use Rattle.graphql_trees.specs.declared.type_system.EnumTypeDefinition.{EnumTypeDefinition}
use Rattle.graphql_trees.specs.declared.type_system.InputObjectTypeDefinition.{InputObjectTypeDefinition}
use Rattle.graphql_trees.specs.declared.type_system.InterfaceTypeDefinition.{InterfaceTypeDefinition}
use Rattle.graphql_trees.specs.declared.type_system.ObjectTypeDefinition.{ObjectTypeDefinition}
use Rattle.graphql_trees.specs.declared.type_system.ScalarTypeDefinition.{ScalarTypeDefinition}
use Rattle.graphql_trees.specs.declared.type_system.TypeDefinition.{TypeDefinition}
use Rattle.graphql_trees.specs.declared.type_system.UnionTypeDefinition.{UnionTypeDefinition}
use Rattle.graphql_syntax.specs.declared.keywords.Keyword.TheVariants as keyword
use Rattle.graphql_syntax.specs.Directives.{IsDirective}
use Rattle.graphql_syntax.specs.Inputs.{Input, start_of, sees_keyword, TakesKeyword}
use Rattle.graphql_syntax.proofs.Locality.{Local, takes_less, local_sequence, local_choose, local_answer, local_refuse}
use Rattle.graphql_syntax.proofs.NextLemmas.{other_keyword}
use Rattle.graphql_syntax.proofs.ReaderLemmas.{sequence_ok, sequence_read, choose_ok, choose_first, choose_second, answer_is, answer_read, refuse_not_ok}
use Rattle.graphql_type_system_syntax.specs.InputValues.{IsInputValueDefinition}
use Rattle.graphql_type_system_syntax.specs.TypeDefinitions.{IsEnumValueDefinition}
use Rattle.graphql_type_system_syntax.specs.TypeExtensions.{IsScalarTypeExtension, IsObjectTypeExtension, IsInterfaceTypeExtension, IsUnionTypeExtension, IsEnumTypeExtension, IsInputObjectTypeExtension, IsTypeExtension}
use Rattle.graphql_type_system_syntax.specs.TypeExtensions as grammar
use Rattle.graphql_type_system_syntax.specs.TypeExtensionReaders.{scalar_added, object_added, interface_added, union_added, enum_added, input_object_added, type_extension_behind}
use Rattle.graphql_type_system_syntax.proofs.BraceLemmas.{with_part_ok, with_part_read, with_part_local, many_some, some_many, some_filled, addition_of, parts_of}
use Rattle.graphql_type_system_syntax.proofs.MemberLemmas.{DefinitionEnds}
use Rattle.graphql_type_system_syntax.proofs.FieldTypeLemmas.{ScalarBehind, ObjectBehind, InterfaceBehind, scalar_behind_sound, scalar_behind_read, scalar_behind_moves, scalar_behind_local, object_behind_sound, object_behind_read, object_behind_moves, object_behind_local, interface_behind_sound, interface_behind_read, interface_behind_moves, interface_behind_local}
use Rattle.graphql_type_system_syntax.proofs.MemberTypeLemmas.{UnionBehind, EnumBehind, InputObjectBehind, union_behind_sound, union_behind_read, union_behind_moves, union_behind_local, enum_behind_sound, enum_behind_read, enum_behind_moves, enum_behind_local, input_object_behind_sound, input_object_behind_read, input_object_behind_moves, input_object_behind_local}
use Rattle.graphql_type_system_syntax.proofs.AdditionLemmas.{fields_addition_of, fields_parts, members_addition_of, members_parts}

-- scalars
scalar_sound : (depth : ℕ) (i m : Input) (r : ScalarTypeDefinition × Input) → TakesKeyword keyword.Extend i m → scalar_added depth (start_of i) m ≡ Ok r → IsScalarTypeExtension depth i r.0 r.1
unfolding scalar_added
scalar_sound depth i m r extends e =
    let (x, ex, e1) = sequence_ok _ _ _ _ e in
    let (filled, same) = with_part_ok _ _ _ _ e1 in
    let is = scalar_behind_sound _ _ _ _ _ ex in
    subst (λ (q : ScalarTypeDefinition × Input). IsScalarTypeExtension depth i q.0 q.1) same
    (record {
      behind_name = is.behind_name;
      name = record { behind_extend = m; behind_word = is.behind_word; extend = extends; word = is.word; name = is.name };
      directives = many_some (IsDirective true depth) _ _ _ is.directives filled;
      description = is.same_description;
      span = is.span;
    })

scalar_of : (depth : ℕ) (i : Input) (x : ScalarTypeDefinition) (j : Input) (is : IsScalarTypeExtension depth i x j) → ScalarBehind depth (start_of i) None is.name.behind_extend x j
scalar_of depth i x j is =
    record {
      behind_word = is.name.behind_word;
      behind_name = is.behind_name;
      word = is.name.word;
      name = is.name.name;
      directives = some_many (IsDirective true depth) _ _ _ is.directives;
      same_description = is.description;
      span = is.span;
    }

scalar_filled_read : (depth : ℕ) (i : Input) (x : ScalarTypeDefinition) (j : Input) (is : IsScalarTypeExtension depth i x j) → DefinitionEnds j →
    scalar_added depth (start_of i) is.name.behind_extend ≡ Ok (x, j)
unfolding scalar_added
scalar_filled_read depth i x j is free =
    sequence_read _ _ is.name.behind_extend x j _ (scalar_behind_read depth _ _ _ x j (scalar_of depth i x j is) free) (with_part_read _ x j (some_filled (IsDirective true depth) _ _ _ is.directives))

scalar_local : (depth start : ℕ) → Local depth (scalar_added depth start)
unfolding scalar_added
scalar_local depth start = local_sequence depth _ _ (scalar_behind_local depth start None) (λ x. with_part_local depth _ x)

-- objects
object_sound : (depth : ℕ) (i m : Input) (r : ObjectTypeDefinition × Input) → TakesKeyword keyword.Extend i m → object_added depth (start_of i) m ≡ Ok r → IsObjectTypeExtension depth i r.0 r.1
unfolding object_added
object_sound depth i m r extends e =
    let (x, ex, e1) = sequence_ok _ _ _ _ e in
    let (filled, same) = with_part_ok _ _ _ _ e1 in
    let is = object_behind_sound _ _ _ _ _ ex in
    subst (λ (q : ObjectTypeDefinition × Input). IsObjectTypeExtension depth i q.0 q.1) same
    (record {
      behind_name = is.behind_name;
      name = record { behind_extend = m; behind_word = is.behind_word; extend = extends; word = is.word; name = is.name };
      addition = fields_addition_of depth _ _ _ _ _ _ _ is.interfaces is.directives is.fields filled;
      description = is.same_description;
      span = is.span;
    })

object_of : (depth : ℕ) (i : Input) (x : ObjectTypeDefinition) (j : Input) (is : IsObjectTypeExtension depth i x j) → ObjectBehind depth (start_of i) None is.name.behind_extend x j
object_of depth i x j is =
    let parts = fields_parts depth _ _ _ _ _ is.addition in
    record {
      behind_word = is.name.behind_word;
      behind_name = is.behind_name;
      behind_interfaces = parts.behind_interfaces;
      behind_directives = parts.behind_directives;
      word = is.name.word;
      name = is.name.name;
      interfaces = parts.implemented;
      directives = parts.applied;
      fields = parts.body;
      same_description = is.description;
      span = is.span;
    }

object_filled_read : (depth : ℕ) (i : Input) (x : ObjectTypeDefinition) (j : Input) (is : IsObjectTypeExtension depth i x j) → DefinitionEnds j →
    object_added depth (start_of i) is.name.behind_extend ≡ Ok (x, j)
unfolding object_added
object_filled_read depth i x j is free =
    sequence_read _ _ is.name.behind_extend x j _ (object_behind_read depth _ _ _ x j (object_of depth i x j is) free) (with_part_read _ x j ((fields_parts depth _ _ _ _ _ is.addition).filled))

object_local : (depth start : ℕ) → Local depth (object_added depth start)
unfolding object_added
object_local depth start = local_sequence depth _ _ (object_behind_local depth start None) (λ x. with_part_local depth _ x)

-- interfaces
interface_sound : (depth : ℕ) (i m : Input) (r : InterfaceTypeDefinition × Input) → TakesKeyword keyword.Extend i m → interface_added depth (start_of i) m ≡ Ok r → IsInterfaceTypeExtension depth i r.0 r.1
unfolding interface_added
interface_sound depth i m r extends e =
    let (x, ex, e1) = sequence_ok _ _ _ _ e in
    let (filled, same) = with_part_ok _ _ _ _ e1 in
    let is = interface_behind_sound _ _ _ _ _ ex in
    subst (λ (q : InterfaceTypeDefinition × Input). IsInterfaceTypeExtension depth i q.0 q.1) same
    (record {
      behind_name = is.behind_name;
      name = record { behind_extend = m; behind_word = is.behind_word; extend = extends; word = is.word; name = is.name };
      addition = fields_addition_of depth _ _ _ _ _ _ _ is.interfaces is.directives is.fields filled;
      description = is.same_description;
      span = is.span;
    })

interface_of : (depth : ℕ) (i : Input) (x : InterfaceTypeDefinition) (j : Input) (is : IsInterfaceTypeExtension depth i x j) → InterfaceBehind depth (start_of i) None is.name.behind_extend x j
interface_of depth i x j is =
    let parts = fields_parts depth _ _ _ _ _ is.addition in
    record {
      behind_word = is.name.behind_word;
      behind_name = is.behind_name;
      behind_interfaces = parts.behind_interfaces;
      behind_directives = parts.behind_directives;
      word = is.name.word;
      name = is.name.name;
      interfaces = parts.implemented;
      directives = parts.applied;
      fields = parts.body;
      same_description = is.description;
      span = is.span;
    }

interface_filled_read : (depth : ℕ) (i : Input) (x : InterfaceTypeDefinition) (j : Input) (is : IsInterfaceTypeExtension depth i x j) → DefinitionEnds j →
    interface_added depth (start_of i) is.name.behind_extend ≡ Ok (x, j)
unfolding interface_added
interface_filled_read depth i x j is free =
    sequence_read _ _ is.name.behind_extend x j _ (interface_behind_read depth _ _ _ x j (interface_of depth i x j is) free) (with_part_read _ x j ((fields_parts depth _ _ _ _ _ is.addition).filled))

interface_local : (depth start : ℕ) → Local depth (interface_added depth start)
unfolding interface_added
interface_local depth start = local_sequence depth _ _ (interface_behind_local depth start None) (λ x. with_part_local depth _ x)

-- unions
union_sound : (depth : ℕ) (i m : Input) (r : UnionTypeDefinition × Input) → TakesKeyword keyword.Extend i m → union_added depth (start_of i) m ≡ Ok r → IsUnionTypeExtension depth i r.0 r.1
unfolding union_added
union_sound depth i m r extends e =
    let (x, ex, e1) = sequence_ok _ _ _ _ e in
    let (filled, same) = with_part_ok _ _ _ _ e1 in
    let is = union_behind_sound _ _ _ _ _ ex in
    subst (λ (q : UnionTypeDefinition × Input). IsUnionTypeExtension depth i q.0 q.1) same
    (record {
      behind_name = is.behind_name;
      name = record { behind_extend = m; behind_word = is.behind_word; extend = extends; word = is.word; name = is.name };
      addition = members_addition_of depth _ _ _ _ _ is.directives is.members filled;
      description = is.same_description;
      span = is.span;
    })

union_of : (depth : ℕ) (i : Input) (x : UnionTypeDefinition) (j : Input) (is : IsUnionTypeExtension depth i x j) → UnionBehind depth (start_of i) None is.name.behind_extend x j
union_of depth i x j is =
    let parts = members_parts depth _ _ _ _ is.addition in
    record {
      behind_word = is.name.behind_word;
      behind_name = is.behind_name;
      behind_directives = parts.behind_directives;
      word = is.name.word;
      name = is.name.name;
      directives = parts.applied;
      members = parts.body;
      same_description = is.description;
      span = is.span;
    }

union_filled_read : (depth : ℕ) (i : Input) (x : UnionTypeDefinition) (j : Input) (is : IsUnionTypeExtension depth i x j) → DefinitionEnds j →
    union_added depth (start_of i) is.name.behind_extend ≡ Ok (x, j)
unfolding union_added
union_filled_read depth i x j is free =
    sequence_read _ _ is.name.behind_extend x j _ (union_behind_read depth _ _ _ x j (union_of depth i x j is) free) (with_part_read _ x j ((members_parts depth _ _ _ _ is.addition).filled))

union_local : (depth start : ℕ) → Local depth (union_added depth start)
unfolding union_added
union_local depth start = local_sequence depth _ _ (union_behind_local depth start None) (λ x. with_part_local depth _ x)

-- enums
enum_sound : (depth : ℕ) (i m : Input) (r : EnumTypeDefinition × Input) → TakesKeyword keyword.Extend i m → enum_added depth (start_of i) m ≡ Ok r → IsEnumTypeExtension depth i r.0 r.1
unfolding enum_added
enum_sound depth i m r extends e =
    let (x, ex, e1) = sequence_ok _ _ _ _ e in
    let (filled, same) = with_part_ok _ _ _ _ e1 in
    let is = enum_behind_sound _ _ _ _ _ ex in
    subst (λ (q : EnumTypeDefinition × Input). IsEnumTypeExtension depth i q.0 q.1) same
    (record {
      behind_name = is.behind_name;
      name = record { behind_extend = m; behind_word = is.behind_word; extend = extends; word = is.word; name = is.name };
      addition = addition_of IsEnumValueDefinition depth _ _ _ _ _ is.directives is.values filled;
      description = is.same_description;
      span = is.span;
    })

enum_of : (depth : ℕ) (i : Input) (x : EnumTypeDefinition) (j : Input) (is : IsEnumTypeExtension depth i x j) → EnumBehind depth (start_of i) None is.name.behind_extend x j
enum_of depth i x j is =
    let parts = parts_of IsEnumValueDefinition depth _ _ _ _ is.addition in
    record {
      behind_word = is.name.behind_word;
      behind_name = is.behind_name;
      behind_directives = parts.behind_directives;
      word = is.name.word;
      name = is.name.name;
      directives = parts.are;
      values = parts.body;
      same_description = is.description;
      span = is.span;
    }

enum_filled_read : (depth : ℕ) (i : Input) (x : EnumTypeDefinition) (j : Input) (is : IsEnumTypeExtension depth i x j) → DefinitionEnds j →
    enum_added depth (start_of i) is.name.behind_extend ≡ Ok (x, j)
unfolding enum_added
enum_filled_read depth i x j is free =
    sequence_read _ _ is.name.behind_extend x j _ (enum_behind_read depth _ _ _ x j (enum_of depth i x j is) free) (with_part_read _ x j ((parts_of IsEnumValueDefinition depth _ _ _ _ is.addition).filled))

enum_local : (depth start : ℕ) → Local depth (enum_added depth start)
unfolding enum_added
enum_local depth start = local_sequence depth _ _ (enum_behind_local depth start None) (λ x. with_part_local depth _ x)

-- input objects
input_object_sound : (depth : ℕ) (i m : Input) (r : InputObjectTypeDefinition × Input) → TakesKeyword keyword.Extend i m → input_object_added depth (start_of i) m ≡ Ok r → IsInputObjectTypeExtension depth i r.0 r.1
unfolding input_object_added
input_object_sound depth i m r extends e =
    let (x, ex, e1) = sequence_ok _ _ _ _ e in
    let (filled, same) = with_part_ok _ _ _ _ e1 in
    let is = input_object_behind_sound _ _ _ _ _ ex in
    subst (λ (q : InputObjectTypeDefinition × Input). IsInputObjectTypeExtension depth i q.0 q.1) same
    (record {
      behind_name = is.behind_name;
      name = record { behind_extend = m; behind_word = is.behind_word; extend = extends; word = is.word; name = is.name };
      addition = addition_of IsInputValueDefinition depth _ _ _ _ _ is.directives is.fields filled;
      description = is.same_description;
      span = is.span;
    })

input_object_of : (depth : ℕ) (i : Input) (x : InputObjectTypeDefinition) (j : Input) (is : IsInputObjectTypeExtension depth i x j) → InputObjectBehind depth (start_of i) None is.name.behind_extend x j
input_object_of depth i x j is =
    let parts = parts_of IsInputValueDefinition depth _ _ _ _ is.addition in
    record {
      behind_word = is.name.behind_word;
      behind_name = is.behind_name;
      behind_directives = parts.behind_directives;
      word = is.name.word;
      name = is.name.name;
      directives = parts.are;
      fields = parts.body;
      same_description = is.description;
      span = is.span;
    }

input_object_filled_read : (depth : ℕ) (i : Input) (x : InputObjectTypeDefinition) (j : Input) (is : IsInputObjectTypeExtension depth i x j) → DefinitionEnds j →
    input_object_added depth (start_of i) is.name.behind_extend ≡ Ok (x, j)
unfolding input_object_added
input_object_filled_read depth i x j is free =
    sequence_read _ _ is.name.behind_extend x j _ (input_object_behind_read depth _ _ _ x j (input_object_of depth i x j is) free) (with_part_read _ x j ((parts_of IsInputValueDefinition depth _ _ _ _ is.addition).filled))

input_object_local : (depth start : ℕ) → Local depth (input_object_added depth start)
unfolding input_object_added
input_object_local depth start = local_sequence depth _ _ (input_object_behind_local depth start None) (λ x. with_part_local depth _ x)

-- an extension of a type, behind `extend`, by its keyword
pub type_extension_sound : (depth : ℕ) (i m : Input) (r : TypeDefinition × Input) → TakesKeyword keyword.Extend i m →
    type_extension_behind depth (start_of i) m ≡ Ok r → IsTypeExtension depth i r.0 r.1
unfolding type_extension_behind
type_extension_sound depth i m r extends e = elim (choose_ok _ _ _ _ _ e) [
  | inl h ↦
      let (x, ex, e1) = sequence_ok _ _ _ _ h.1 in
      subst (λ (q : TypeDefinition × Input). IsTypeExtension depth i q.0 q.1) (answer_is _ _ _ e1) (grammar.scalar i x.1 x.0 (scalar_sound depth i m x extends ex))
  | inr h ↦ elim (choose_ok _ _ _ _ _ h.1) [
    | inl k ↦
        let (x, ex, e1) = sequence_ok _ _ _ _ k.1 in
        subst (λ (q : TypeDefinition × Input). IsTypeExtension depth i q.0 q.1) (answer_is _ _ _ e1) (grammar.object i x.1 x.0 (object_sound depth i m x extends ex))
    | inr k ↦ elim (choose_ok _ _ _ _ _ k.1) [
      | inl l ↦
          let (x, ex, e1) = sequence_ok _ _ _ _ l.1 in
          subst (λ (q : TypeDefinition × Input). IsTypeExtension depth i q.0 q.1) (answer_is _ _ _ e1) (grammar.interface i x.1 x.0 (interface_sound depth i m x extends ex))
      | inr l ↦ elim (choose_ok _ _ _ _ _ l.1) [
        | inl n ↦
            let (x, ex, e1) = sequence_ok _ _ _ _ n.1 in
            subst (λ (q : TypeDefinition × Input). IsTypeExtension depth i q.0 q.1) (answer_is _ _ _ e1) (grammar.union i x.1 x.0 (union_sound depth i m x extends ex))
        | inr n ↦ elim (choose_ok _ _ _ _ _ n.1) [
          | inl o ↦
              let (x, ex, e1) = sequence_ok _ _ _ _ o.1 in
              subst (λ (q : TypeDefinition × Input). IsTypeExtension depth i q.0 q.1) (answer_is _ _ _ e1) (grammar.enum i x.1 x.0 (enum_sound depth i m x extends ex))
          | inr o ↦ elim (choose_ok _ _ _ _ _ o.1) [
            | inl p ↦
                let (x, ex, e1) = sequence_ok _ _ _ _ p.1 in
                subst (λ (q : TypeDefinition × Input). IsTypeExtension depth i q.0 q.1) (answer_is _ _ _ e1) (grammar.input_object i x.1 x.0 (input_object_sound depth i m x extends ex))
            | inr p ↦ absurd (refuse_not_ok _ m r p.1)
          ]
        ]
      ]
    ]
  ]
]

-- how an extension of a type is read behind `extend`
pub record ExtensionRead (depth : ℕ) (i : Input) (x : TypeDefinition) (j : Input) : Type 0 where
  pub behind_extend : Input
  pub extends : TakesKeyword keyword.Extend i behind_extend
  pub no_schema : sees_keyword keyword.Schema behind_extend ≡ false
  pub reads : DefinitionEnds j → type_extension_behind depth (start_of i) behind_extend ≡ Ok (x, j)
  pub moves : length j.tokens < length i.tokens

pub type_extension_read : (depth : ℕ) (i : Input) (x : TypeDefinition) (j : Input) → IsTypeExtension depth i x j → ExtensionRead depth i x j
unfolding type_extension_behind
type_extension_read depth _ _ _ (grammar.scalar i j x is) =
    record {
      behind_extend = is.name.behind_extend;
      extends = is.name.extend;
      no_schema = other_keyword keyword.Scalar keyword.Schema is.name.behind_extend refl is.name.word.comes;
      reads = λ free.
          choose_first _ _ _ is.name.behind_extend is.name.word.comes ∙
          sequence_read _ _ is.name.behind_extend x j _ (scalar_filled_read depth i x j is free) (answer_read _ j);
      moves = omega (arith, takes_less _ _ _ is.name.extend, scalar_behind_moves depth _ _ _ x j (scalar_of depth i x j is));
    }
type_extension_read depth _ _ _ (grammar.object i j x is) =
    record {
      behind_extend = is.name.behind_extend;
      extends = is.name.extend;
      no_schema = other_keyword keyword.«Type» keyword.Schema is.name.behind_extend refl is.name.word.comes;
      reads = λ free.
          choose_second _ _ _ is.name.behind_extend (other_keyword keyword.«Type» keyword.Scalar is.name.behind_extend refl is.name.word.comes) ∙
          choose_first _ _ _ is.name.behind_extend is.name.word.comes ∙
          sequence_read _ _ is.name.behind_extend x j _ (object_filled_read depth i x j is free) (answer_read _ j);
      moves = omega (arith, takes_less _ _ _ is.name.extend, object_behind_moves depth _ _ _ x j (object_of depth i x j is));
    }
type_extension_read depth _ _ _ (grammar.interface i j x is) =
    record {
      behind_extend = is.name.behind_extend;
      extends = is.name.extend;
      no_schema = other_keyword keyword.Interface keyword.Schema is.name.behind_extend refl is.name.word.comes;
      reads = λ free.
          choose_second _ _ _ is.name.behind_extend (other_keyword keyword.Interface keyword.Scalar is.name.behind_extend refl is.name.word.comes) ∙
          choose_second _ _ _ is.name.behind_extend (other_keyword keyword.Interface keyword.«Type» is.name.behind_extend refl is.name.word.comes) ∙
          choose_first _ _ _ is.name.behind_extend is.name.word.comes ∙
          sequence_read _ _ is.name.behind_extend x j _ (interface_filled_read depth i x j is free) (answer_read _ j);
      moves = omega (arith, takes_less _ _ _ is.name.extend, interface_behind_moves depth _ _ _ x j (interface_of depth i x j is));
    }
type_extension_read depth _ _ _ (grammar.union i j x is) =
    record {
      behind_extend = is.name.behind_extend;
      extends = is.name.extend;
      no_schema = other_keyword keyword.Union keyword.Schema is.name.behind_extend refl is.name.word.comes;
      reads = λ free.
          choose_second _ _ _ is.name.behind_extend (other_keyword keyword.Union keyword.Scalar is.name.behind_extend refl is.name.word.comes) ∙
          choose_second _ _ _ is.name.behind_extend (other_keyword keyword.Union keyword.«Type» is.name.behind_extend refl is.name.word.comes) ∙
          choose_second _ _ _ is.name.behind_extend (other_keyword keyword.Union keyword.Interface is.name.behind_extend refl is.name.word.comes) ∙
          choose_first _ _ _ is.name.behind_extend is.name.word.comes ∙
          sequence_read _ _ is.name.behind_extend x j _ (union_filled_read depth i x j is free) (answer_read _ j);
      moves = omega (arith, takes_less _ _ _ is.name.extend, union_behind_moves depth _ _ _ x j (union_of depth i x j is));
    }
type_extension_read depth _ _ _ (grammar.enum i j x is) =
    record {
      behind_extend = is.name.behind_extend;
      extends = is.name.extend;
      no_schema = other_keyword keyword.Enum keyword.Schema is.name.behind_extend refl is.name.word.comes;
      reads = λ free.
          choose_second _ _ _ is.name.behind_extend (other_keyword keyword.Enum keyword.Scalar is.name.behind_extend refl is.name.word.comes) ∙
          choose_second _ _ _ is.name.behind_extend (other_keyword keyword.Enum keyword.«Type» is.name.behind_extend refl is.name.word.comes) ∙
          choose_second _ _ _ is.name.behind_extend (other_keyword keyword.Enum keyword.Interface is.name.behind_extend refl is.name.word.comes) ∙
          choose_second _ _ _ is.name.behind_extend (other_keyword keyword.Enum keyword.Union is.name.behind_extend refl is.name.word.comes) ∙
          choose_first _ _ _ is.name.behind_extend is.name.word.comes ∙
          sequence_read _ _ is.name.behind_extend x j _ (enum_filled_read depth i x j is free) (answer_read _ j);
      moves = omega (arith, takes_less _ _ _ is.name.extend, enum_behind_moves depth _ _ _ x j (enum_of depth i x j is));
    }
type_extension_read depth _ _ _ (grammar.input_object i j x is) =
    record {
      behind_extend = is.name.behind_extend;
      extends = is.name.extend;
      no_schema = other_keyword keyword.Input keyword.Schema is.name.behind_extend refl is.name.word.comes;
      reads = λ free.
          choose_second _ _ _ is.name.behind_extend (other_keyword keyword.Input keyword.Scalar is.name.behind_extend refl is.name.word.comes) ∙
          choose_second _ _ _ is.name.behind_extend (other_keyword keyword.Input keyword.«Type» is.name.behind_extend refl is.name.word.comes) ∙
          choose_second _ _ _ is.name.behind_extend (other_keyword keyword.Input keyword.Interface is.name.behind_extend refl is.name.word.comes) ∙
          choose_second _ _ _ is.name.behind_extend (other_keyword keyword.Input keyword.Union is.name.behind_extend refl is.name.word.comes) ∙
          choose_second _ _ _ is.name.behind_extend (other_keyword keyword.Input keyword.Enum is.name.behind_extend refl is.name.word.comes) ∙
          choose_first _ _ _ is.name.behind_extend is.name.word.comes ∙
          sequence_read _ _ is.name.behind_extend x j _ (input_object_filled_read depth i x j is free) (answer_read _ j);
      moves = omega (arith, takes_less _ _ _ is.name.extend, input_object_behind_moves depth _ _ _ x j (input_object_of depth i x j is));
    }

pub type_extension_local : (depth start : ℕ) → Local depth (type_extension_behind depth start)
unfolding type_extension_behind
type_extension_local depth start =
    local_choose depth _ _ _ (local_sequence depth _ _ (scalar_local depth start) (λ x. local_answer depth _))
    (local_choose depth _ _ _ (local_sequence depth _ _ (object_local depth start) (λ x. local_answer depth _))
    (local_choose depth _ _ _ (local_sequence depth _ _ (interface_local depth start) (λ x. local_answer depth _))
    (local_choose depth _ _ _ (local_sequence depth _ _ (union_local depth start) (λ x. local_answer depth _))
    (local_choose depth _ _ _ (local_sequence depth _ _ (enum_local depth start) (λ x. local_answer depth _))
    (local_choose depth _ _ _ (local_sequence depth _ _ (input_object_local depth start) (λ x. local_answer depth _))
    (local_refuse depth _))))))
