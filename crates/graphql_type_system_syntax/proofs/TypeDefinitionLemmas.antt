-- Definitions of types are read by the grammar, both ways, and locally. What is behind a description or `extend` is read first.
use Rattle.std.proofs.Common.{◌≡◌, ℕ, ◌<◌, true, false, inl, inr, length, Ok, Option, refl, subst, ◌∙◌, arith}
use Rattle.graphql_trees.specs.declared.type_system.TypeDefinition.{TypeDefinition}
use Rattle.graphql_trees.specs.declared.type_system.Description.{Description}
use Rattle.graphql_syntax.specs.declared.keywords.Keyword.{Keyword}
use Rattle.graphql_syntax.specs.declared.keywords.Keyword.TheVariants as keyword
use Rattle.graphql_syntax.specs.Inputs.{Input, next_passes, start_of, sees_keyword}
use Rattle.graphql_syntax.specs.Many.{Perhaps}
use Rattle.graphql_syntax.proofs.Locality.{Local, local_sequence, local_choose, local_answer, local_refuse}
use Rattle.graphql_syntax.proofs.NextLemmas.{other_keyword}
use Rattle.graphql_syntax.proofs.ReaderLemmas.{sequence_ok, sequence_read, choose_ok, choose_first, choose_second, answer_is, answer_read, refuse_not_ok}
use Rattle.graphql_type_system_syntax.specs.DefinitionReaders.{begins_type_definition}
use Rattle.graphql_type_system_syntax.specs.InputValues.{IsDescription}
use Rattle.graphql_type_system_syntax.specs.TypeDefinitions.{IsTypeDefinition}
use Rattle.graphql_type_system_syntax.specs.TypeDefinitions as grammar
use Rattle.graphql_type_system_syntax.specs.TypeDefinitionReaders.{type_definition_behind}
use Rattle.graphql_type_system_syntax.proofs.FirstTokens.{scalar_begins, object_begins, interface_begins, union_begins, enum_begins, input_object_begins}
use Rattle.graphql_type_system_syntax.proofs.InputValueLemmas.{description_less}
use Rattle.graphql_type_system_syntax.proofs.MemberLemmas.{DefinitionEnds}
use Rattle.graphql_type_system_syntax.proofs.FieldTypeLemmas.{interface_behind_local, interface_behind_moves, interface_behind_read, interface_behind_sound, interface_defined, interface_of, object_behind_local, object_behind_moves, object_behind_read, object_behind_sound, object_defined, object_of, scalar_behind_local, scalar_behind_moves, scalar_behind_read, scalar_behind_sound, scalar_defined, scalar_of}
use Rattle.graphql_type_system_syntax.proofs.MemberTypeLemmas.{enum_behind_local, enum_behind_moves, enum_behind_read, enum_behind_sound, enum_defined, enum_of, input_object_behind_local, input_object_behind_moves, input_object_behind_read, input_object_behind_sound, input_object_defined, input_object_of, union_behind_local, union_behind_moves, union_behind_read, union_behind_sound, union_defined, union_of}

-- a definition of a type, by its keyword
pub type_sound : (depth : ℕ) (i m : Input) (description : Option Description) (r : TypeDefinition × Input) → Perhaps IsDescription i description m →
    type_definition_behind depth (start_of i) description m ≡ Ok r → IsTypeDefinition depth i r.0 r.1
unfolding type_definition_behind
type_sound depth i m description r described e = elim (choose_ok _ _ _ _ _ e) [
  | inl h ↦
      let (x, ex, e1) = sequence_ok _ _ _ _ h.1 in
      subst (λ (q : TypeDefinition × Input). IsTypeDefinition depth i q.0 q.1) (answer_is _ _ _ e1)
      (grammar.scalar i x.1 x.0 (scalar_defined depth i m description x.0 x.1 described (scalar_behind_sound _ _ _ _ _ ex)))
  | inr h ↦ elim (choose_ok _ _ _ _ _ h.1) [
    | inl k ↦
        let (x, ex, e1) = sequence_ok _ _ _ _ k.1 in
        subst (λ (q : TypeDefinition × Input). IsTypeDefinition depth i q.0 q.1) (answer_is _ _ _ e1)
        (grammar.object i x.1 x.0 (object_defined depth i m description x.0 x.1 described (object_behind_sound _ _ _ _ _ ex)))
    | inr k ↦ elim (choose_ok _ _ _ _ _ k.1) [
      | inl l ↦
          let (x, ex, e1) = sequence_ok _ _ _ _ l.1 in
          subst (λ (q : TypeDefinition × Input). IsTypeDefinition depth i q.0 q.1) (answer_is _ _ _ e1)
          (grammar.interface i x.1 x.0 (interface_defined depth i m description x.0 x.1 described (interface_behind_sound _ _ _ _ _ ex)))
      | inr l ↦ elim (choose_ok _ _ _ _ _ l.1) [
        | inl n ↦
            let (x, ex, e1) = sequence_ok _ _ _ _ n.1 in
            subst (λ (q : TypeDefinition × Input). IsTypeDefinition depth i q.0 q.1) (answer_is _ _ _ e1)
            (grammar.union i x.1 x.0 (union_defined depth i m description x.0 x.1 described (union_behind_sound _ _ _ _ _ ex)))
        | inr n ↦ elim (choose_ok _ _ _ _ _ n.1) [
          | inl o ↦
              let (x, ex, e1) = sequence_ok _ _ _ _ o.1 in
              subst (λ (q : TypeDefinition × Input). IsTypeDefinition depth i q.0 q.1) (answer_is _ _ _ e1)
              (grammar.enum i x.1 x.0 (enum_defined depth i m description x.0 x.1 described (enum_behind_sound _ _ _ _ _ ex)))
          | inr o ↦ elim (choose_ok _ _ _ _ _ o.1) [
            | inl p ↦
                let (x, ex, e1) = sequence_ok _ _ _ _ p.1 in
                subst (λ (q : TypeDefinition × Input). IsTypeDefinition depth i q.0 q.1) (answer_is _ _ _ e1)
                (grammar.input_object i x.1 x.0 (input_object_defined depth i m description x.0 x.1 described (input_object_behind_sound _ _ _ _ _ ex)))
            | inr p ↦ absurd (refuse_not_ok _ m r p.1)
          ]
        ]
      ]
    ]
  ]
]

-- how a definition of a type is read behind its description
pub record TypeRead (depth : ℕ) (i : Input) (x : TypeDefinition) (j : Input) : Type 0 where
  pub description : Option Description
  pub behind_description : Input
  pub kind : Keyword
  pub described : Perhaps IsDescription i description behind_description
  pub comes : sees_keyword kind behind_description ≡ true
  pub no_schema : sees_keyword keyword.Schema behind_description ≡ false
  pub no_directive : sees_keyword keyword.Directive behind_description ≡ false
  pub begins : next_passes begins_type_definition behind_description ≡ true
  pub reads : DefinitionEnds j → type_definition_behind depth (start_of i) description behind_description ≡ Ok (x, j)
  pub moves : length j.tokens < length i.tokens

pub type_read : (depth : ℕ) (i : Input) (x : TypeDefinition) (j : Input) → IsTypeDefinition depth i x j → TypeRead depth i x j
unfolding type_definition_behind
type_read depth _ _ _ (grammar.scalar i j x is) =
    record {
      description = x.description;
      behind_description = is.behind_description;
      kind = keyword.Scalar;
      described = is.description;
      comes = is.word.comes;
      no_schema = other_keyword keyword.Scalar keyword.Schema is.behind_description refl is.word.comes;
      no_directive = other_keyword keyword.Scalar keyword.Directive is.behind_description refl is.word.comes;
      reads = λ free.
          choose_first _ _ _ is.behind_description is.word.comes ∙
          sequence_read _ _ is.behind_description x j _ (scalar_behind_read depth _ _ _ x j (scalar_of depth i x j is) free) (answer_read _ j);
      moves = omega (arith, description_less _ _ _ is.description, scalar_behind_moves depth _ _ _ x j (scalar_of depth i x j is));
      begins = scalar_begins is.behind_description is.word.comes;
    }
type_read depth _ _ _ (grammar.object i j x is) =
    record {
      description = x.description;
      behind_description = is.behind_description;
      kind = keyword.«Type»;
      described = is.description;
      comes = is.word.comes;
      no_schema = other_keyword keyword.«Type» keyword.Schema is.behind_description refl is.word.comes;
      no_directive = other_keyword keyword.«Type» keyword.Directive is.behind_description refl is.word.comes;
      reads = λ free.
          choose_second _ _ _ is.behind_description (other_keyword keyword.«Type» keyword.Scalar is.behind_description refl is.word.comes) ∙
          choose_first _ _ _ is.behind_description is.word.comes ∙
          sequence_read _ _ is.behind_description x j _ (object_behind_read depth _ _ _ x j (object_of depth i x j is) free) (answer_read _ j);
      moves = omega (arith, description_less _ _ _ is.description, object_behind_moves depth _ _ _ x j (object_of depth i x j is));
      begins = object_begins is.behind_description is.word.comes;
    }
type_read depth _ _ _ (grammar.interface i j x is) =
    record {
      description = x.description;
      behind_description = is.behind_description;
      kind = keyword.Interface;
      described = is.description;
      comes = is.word.comes;
      no_schema = other_keyword keyword.Interface keyword.Schema is.behind_description refl is.word.comes;
      no_directive = other_keyword keyword.Interface keyword.Directive is.behind_description refl is.word.comes;
      reads = λ free.
          choose_second _ _ _ is.behind_description (other_keyword keyword.Interface keyword.Scalar is.behind_description refl is.word.comes) ∙
          choose_second _ _ _ is.behind_description (other_keyword keyword.Interface keyword.«Type» is.behind_description refl is.word.comes) ∙
          choose_first _ _ _ is.behind_description is.word.comes ∙
          sequence_read _ _ is.behind_description x j _ (interface_behind_read depth _ _ _ x j (interface_of depth i x j is) free) (answer_read _ j);
      moves = omega (arith, description_less _ _ _ is.description, interface_behind_moves depth _ _ _ x j (interface_of depth i x j is));
      begins = interface_begins is.behind_description is.word.comes;
    }
type_read depth _ _ _ (grammar.union i j x is) =
    record {
      description = x.description;
      behind_description = is.behind_description;
      kind = keyword.Union;
      described = is.description;
      comes = is.word.comes;
      no_schema = other_keyword keyword.Union keyword.Schema is.behind_description refl is.word.comes;
      no_directive = other_keyword keyword.Union keyword.Directive is.behind_description refl is.word.comes;
      reads = λ free.
          choose_second _ _ _ is.behind_description (other_keyword keyword.Union keyword.Scalar is.behind_description refl is.word.comes) ∙
          choose_second _ _ _ is.behind_description (other_keyword keyword.Union keyword.«Type» is.behind_description refl is.word.comes) ∙
          choose_second _ _ _ is.behind_description (other_keyword keyword.Union keyword.Interface is.behind_description refl is.word.comes) ∙
          choose_first _ _ _ is.behind_description is.word.comes ∙
          sequence_read _ _ is.behind_description x j _ (union_behind_read depth _ _ _ x j (union_of depth i x j is) free) (answer_read _ j);
      moves = omega (arith, description_less _ _ _ is.description, union_behind_moves depth _ _ _ x j (union_of depth i x j is));
      begins = union_begins is.behind_description is.word.comes;
    }
type_read depth _ _ _ (grammar.enum i j x is) =
    record {
      description = x.description;
      behind_description = is.behind_description;
      kind = keyword.Enum;
      described = is.description;
      comes = is.word.comes;
      no_schema = other_keyword keyword.Enum keyword.Schema is.behind_description refl is.word.comes;
      no_directive = other_keyword keyword.Enum keyword.Directive is.behind_description refl is.word.comes;
      reads = λ free.
          choose_second _ _ _ is.behind_description (other_keyword keyword.Enum keyword.Scalar is.behind_description refl is.word.comes) ∙
          choose_second _ _ _ is.behind_description (other_keyword keyword.Enum keyword.«Type» is.behind_description refl is.word.comes) ∙
          choose_second _ _ _ is.behind_description (other_keyword keyword.Enum keyword.Interface is.behind_description refl is.word.comes) ∙
          choose_second _ _ _ is.behind_description (other_keyword keyword.Enum keyword.Union is.behind_description refl is.word.comes) ∙
          choose_first _ _ _ is.behind_description is.word.comes ∙
          sequence_read _ _ is.behind_description x j _ (enum_behind_read depth _ _ _ x j (enum_of depth i x j is) free) (answer_read _ j);
      moves = omega (arith, description_less _ _ _ is.description, enum_behind_moves depth _ _ _ x j (enum_of depth i x j is));
      begins = enum_begins is.behind_description is.word.comes;
    }
type_read depth _ _ _ (grammar.input_object i j x is) =
    record {
      description = x.description;
      behind_description = is.behind_description;
      kind = keyword.Input;
      described = is.description;
      comes = is.word.comes;
      no_schema = other_keyword keyword.Input keyword.Schema is.behind_description refl is.word.comes;
      no_directive = other_keyword keyword.Input keyword.Directive is.behind_description refl is.word.comes;
      reads = λ free.
          choose_second _ _ _ is.behind_description (other_keyword keyword.Input keyword.Scalar is.behind_description refl is.word.comes) ∙
          choose_second _ _ _ is.behind_description (other_keyword keyword.Input keyword.«Type» is.behind_description refl is.word.comes) ∙
          choose_second _ _ _ is.behind_description (other_keyword keyword.Input keyword.Interface is.behind_description refl is.word.comes) ∙
          choose_second _ _ _ is.behind_description (other_keyword keyword.Input keyword.Union is.behind_description refl is.word.comes) ∙
          choose_second _ _ _ is.behind_description (other_keyword keyword.Input keyword.Enum is.behind_description refl is.word.comes) ∙
          choose_first _ _ _ is.behind_description is.word.comes ∙
          sequence_read _ _ is.behind_description x j _ (input_object_behind_read depth _ _ _ x j (input_object_of depth i x j is) free) (answer_read _ j);
      moves = omega (arith, description_less _ _ _ is.description, input_object_behind_moves depth _ _ _ x j (input_object_of depth i x j is));
      begins = input_object_begins is.behind_description is.word.comes;
    }

pub type_behind_local : (depth start : ℕ) (description : Option Description) → Local depth (type_definition_behind depth start description)
unfolding type_definition_behind
type_behind_local depth start description =
    local_choose depth _ _ _ (local_sequence depth _ _ (scalar_behind_local depth start description) (λ x. local_answer depth _))
    (local_choose depth _ _ _ (local_sequence depth _ _ (object_behind_local depth start description) (λ x. local_answer depth _))
    (local_choose depth _ _ _ (local_sequence depth _ _ (interface_behind_local depth start description) (λ x. local_answer depth _))
    (local_choose depth _ _ _ (local_sequence depth _ _ (union_behind_local depth start description) (λ x. local_answer depth _))
    (local_choose depth _ _ _ (local_sequence depth _ _ (enum_behind_local depth start description) (λ x. local_answer depth _))
    (local_choose depth _ _ _ (local_sequence depth _ _ (input_object_behind_local depth start description) (λ x. local_answer depth _))
    (local_refuse depth _))))))
