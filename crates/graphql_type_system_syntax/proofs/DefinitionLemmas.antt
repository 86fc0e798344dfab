-- Definitions and extensions of the type system are read by the grammar, both ways, and locally.
use Rattle.std.proofs.Common.{◌≡◌, ℕ, ◌<◌, true, inl, inr, length, Ok, Option, refl, subst, ◌∙◌}
use Rattle.graphql_trees.specs.declared.documents.Definition.{Definition}
use Rattle.graphql_trees.specs.declared.type_system.Description.{Description}
use Rattle.graphql_syntax.specs.declared.keywords.Keyword.TheVariants as keyword
use Rattle.graphql_syntax.specs.Inputs.{Input, next_passes, sees_keyword}
use Rattle.graphql_syntax.specs.Many.{Perhaps}
use Rattle.graphql_syntax.proofs.Locality.{Local, local_sequence, local_choose, local_answer, local_starting, keyword_is_plain}
use Rattle.graphql_syntax.proofs.TokenLocality.{local_take_one}
use Rattle.graphql_syntax.proofs.NextLemmas.{keyword_is_name, other_keyword, name_no_string}
use Rattle.graphql_syntax.proofs.ReaderLemmas.{sequence_ok, sequence_read, choose_ok, choose_first, choose_second, starting_ok, starting_read, answer_is, answer_read, take_one_ok, take_one_read}
use Rattle.graphql_type_system_syntax.specs.Definitions.{IsTypeSystemDefinition, IsTypeSystemExtension}
use Rattle.graphql_type_system_syntax.specs.DefinitionReaders.{begins_type_system_definition, definition_behind, type_system_definition_at, extension_behind, extension_at}
use Rattle.graphql_type_system_syntax.specs.InputValues.{IsDescription}
use Rattle.graphql_type_system_syntax.proofs.FirstTokens.{string_begins, schema_begins, directive_begins, type_begins}
use Rattle.graphql_type_system_syntax.proofs.DirectiveDefinitionLemmas.{directive_sound, directive_read, directive_moves, directive_local}
use Rattle.graphql_type_system_syntax.proofs.InputValueLemmas.{keyword_no_string, description_sound, description_read, description_local}
use Rattle.graphql_type_system_syntax.proofs.SchemaLemmas.{schema_sound, schema_read, schema_moves, schema_local, schema_added_sound, schema_added_read, schema_added_moves, schema_added_local}
use Rattle.graphql_type_system_syntax.proofs.MemberLemmas.{DefinitionEnds}
use Rattle.graphql_type_system_syntax.proofs.TypeDefinitionLemmas.{type_sound, type_read, type_behind_local}
use Rattle.graphql_type_system_syntax.proofs.TypeExtensionLemmas.{type_extension_sound, type_extension_read, type_extension_local}

-- definitions
pub definition_sound : (depth : ℕ) (i : Input) (r : Definition × Input) → type_system_definition_at depth i ≡ Ok r → IsTypeSystemDefinition depth i r.0 r.1
unfolding type_system_definition_at definition_behind
definition_sound depth i r e =
    let (description, ed, e1) = sequence_ok _ _ _ _ (starting_ok _ _ _ e) in
    let described = description_sound i description ed in
    elim (choose_ok _ _ _ _ _ e1) [
      | inl h ↦
          let (x, ex, e2) = sequence_ok _ _ _ _ h.1 in
          subst (λ (q : Definition × Input). IsTypeSystemDefinition depth i q.0 q.1) (answer_is _ _ _ e2)
          (IsTypeSystemDefinition.schema i x.1 x.0 (schema_sound depth i description.1 description.0 x described ex))
      | inr h ↦ elim (choose_ok _ _ _ _ _ h.1) [
        | inl k ↦
            let (x, ex, e2) = sequence_ok _ _ _ _ k.1 in
            subst (λ (q : Definition × Input). IsTypeSystemDefinition depth i q.0 q.1) (answer_is _ _ _ e2)
            (IsTypeSystemDefinition.directive i x.1 x.0 (directive_sound depth i description.1 description.0 x described ex))
        | inr k ↦
            let (x, ex, e2) = sequence_ok _ _ _ _ k.1 in
            subst (λ (q : Definition × Input). IsTypeSystemDefinition depth i q.0 q.1) (answer_is _ _ _ e2)
            (IsTypeSystemDefinition.type_definition i x.1 x.0 (type_sound depth i description.1 description.0 x described ex))
      ]
    ]

pub definition_read : (depth : ℕ) (i : Input) (x : Definition) (j : Input) → IsTypeSystemDefinition depth i x j → DefinitionEnds j →
    type_system_definition_at depth i ≡ Ok (x, j)
unfolding type_system_definition_at definition_behind
definition_read depth _ _ _ (IsTypeSystemDefinition.schema i j x is) free =
    starting_read _ i _
    (sequence_read _ _ i x.description is.behind_description _ (description_read _ _ _ is.description (keyword_no_string keyword.Schema _ _ is.word))
    (choose_first _ _ _ is.behind_description is.word.comes ∙
    sequence_read _ _ is.behind_description x j _ (schema_read depth i x j is) (answer_read _ j)))
definition_read depth _ _ _ (IsTypeSystemDefinition.directive i j x is) free =
    starting_read _ i _
    (sequence_read _ _ i x.description is.behind_description _ (description_read _ _ _ is.description (keyword_no_string keyword.Directive _ _ is.word))
    (choose_second _ _ _ is.behind_description (other_keyword keyword.Directive keyword.Schema is.behind_description refl is.word.comes) ∙
    choose_first _ _ _ is.behind_description is.word.comes ∙
    sequence_read _ _ is.behind_description x j _ (directive_read depth i x j is free.ends) (answer_read _ j)))
definition_read depth _ _ _ (IsTypeSystemDefinition.type_definition i j x is) free =
    let read = type_read depth i x j is in
    starting_read _ i _
    (sequence_read _ _ i read.description read.behind_description _
    (description_read _ _ _ read.described (name_no_string _ (keyword_is_name read.kind _ read.comes)))
    (choose_second _ _ _ read.behind_description read.no_schema ∙
    choose_second _ _ _ read.behind_description read.no_directive ∙
    sequence_read _ _ read.behind_description x j _ (read.reads free) (answer_read _ j)))

pub definition_moves : (depth : ℕ) (i : Input) (x : Definition) (j : Input) → IsTypeSystemDefinition depth i x j → length j.tokens < length i.tokens
definition_moves depth _ _ _ (IsTypeSystemDefinition.schema i j x is) = schema_moves depth i x j is
definition_moves depth _ _ _ (IsTypeSystemDefinition.directive i j x is) = directive_moves depth i x j is
definition_moves depth _ _ _ (IsTypeSystemDefinition.type_definition i j x is) = (type_read depth i x j is).moves

-- a string begins it, or what is behind the description
described_or : (i : Input) (x : Option Description) (m : Input) → Perhaps IsDescription i x m → next_passes begins_type_system_definition m ≡ true →
    next_passes begins_type_system_definition i ≡ true
described_or _ _ _ (Perhaps.absent i) e = e
described_or _ _ _ (Perhaps.present i m x is) e = string_begins i is.takes.comes

pub definition_begins : (depth : ℕ) (i : Input) (x : Definition) (j : Input) → IsTypeSystemDefinition depth i x j → next_passes begins_type_system_definition i ≡ true
definition_begins depth _ _ _ (IsTypeSystemDefinition.schema i j x is) = described_or _ _ _ is.description (schema_begins _ is.word.comes)
definition_begins depth _ _ _ (IsTypeSystemDefinition.directive i j x is) = described_or _ _ _ is.description (directive_begins _ is.word.comes)
definition_begins depth _ _ _ (IsTypeSystemDefinition.type_definition i j x is) =
    let read = type_read depth i x j is in described_or _ _ _ read.described (type_begins _ read.begins)

pub definition_local : (depth : ℕ) → Local depth (type_system_definition_at depth)
unfolding type_system_definition_at definition_behind
definition_local depth =
    local_starting depth _ (λ start.
    local_sequence depth _ _ (description_local depth) (λ description.
    local_choose depth _ _ _ (local_sequence depth _ _ (schema_local depth start description) (λ x. local_answer depth _))
    (local_choose depth _ _ _ (local_sequence depth _ _ (directive_local depth start description) (λ x. local_answer depth _))
    (local_sequence depth _ _ (type_behind_local depth start description) (λ x. local_answer depth _)))))

-- extensions
pub extension_sound : (depth : ℕ) (i : Input) (r : Definition × Input) → extension_at depth i ≡ Ok r → IsTypeSystemExtension depth i r.0 r.1
unfolding extension_at extension_behind
extension_sound depth i r e =
    let (word, ew, e1) = sequence_ok _ _ _ _ (starting_ok _ _ _ e) in
    let extends = take_one_ok _ _ _ _ ew in
    elim (choose_ok _ _ _ _ _ e1) [
      | inl h ↦
          let (x, ex, e2) = sequence_ok _ _ _ _ h.1 in
          subst (λ (q : Definition × Input). IsTypeSystemExtension depth i q.0 q.1) (answer_is _ _ _ e2)
          (IsTypeSystemExtension.schema i x.1 x.0 (schema_added_sound depth i word.1 x extends ex))
      | inr h ↦
          let (x, ex, e2) = sequence_ok _ _ _ _ h.1 in
          subst (λ (q : Definition × Input). IsTypeSystemExtension depth i q.0 q.1) (answer_is _ _ _ e2)
          (IsTypeSystemExtension.type_extension i x.1 x.0 (type_extension_sound depth i word.1 x extends ex))
    ]

pub extension_read : (depth : ℕ) (i : Input) (x : Definition) (j : Input) → IsTypeSystemExtension depth i x j → DefinitionEnds j → extension_at depth i ≡ Ok (x, j)
unfolding extension_at extension_behind
extension_read depth _ _ _ (IsTypeSystemExtension.schema i j x is) free =
    starting_read _ i _
    (sequence_read _ _ i tt is.behind_extend _ (take_one_read _ _ _ _ is.extend)
    (choose_first _ _ _ is.behind_extend is.word.comes ∙
    sequence_read _ _ is.behind_extend x j _ (schema_added_read depth i x j is free.ends) (answer_read _ j)))
extension_read depth _ _ _ (IsTypeSystemExtension.type_extension i j x is) free =
    let read = type_extension_read depth i x j is in
    starting_read _ i _
    (sequence_read _ _ i tt read.behind_extend _ (take_one_read _ _ _ _ read.extends)
    (choose_second _ _ _ read.behind_extend read.no_schema ∙ sequence_read _ _ read.behind_extend x j _ (read.reads free) (answer_read _ j)))

pub extension_moves : (depth : ℕ) (i : Input) (x : Definition) (j : Input) → IsTypeSystemExtension depth i x j → length j.tokens < length i.tokens
extension_moves depth _ _ _ (IsTypeSystemExtension.schema i j x is) = schema_added_moves depth i x j is
extension_moves depth _ _ _ (IsTypeSystemExtension.type_extension i j x is) = (type_extension_read depth i x j is).moves

pub extension_begins : (depth : ℕ) (i : Input) (x : Definition) (j : Input) → IsTypeSystemExtension depth i x j → sees_keyword keyword.Extend i ≡ true
extension_begins depth _ _ _ (IsTypeSystemExtension.schema i j x is) = is.extend.comes
extension_begins depth _ _ _ (IsTypeSystemExtension.type_extension i j x is) = let read = type_extension_read depth i x j is in read.extends.comes

pub extension_local : (depth : ℕ) → Local depth (extension_at depth)
unfolding extension_at extension_behind
extension_local depth =
    local_starting depth _ (λ start.
    local_sequence depth _ _ (local_take_one depth _ _ (keyword_is_plain keyword.Extend)) (λ word.
    local_choose depth _ _ _ (local_sequence depth _ _ (schema_added_local depth start) (λ x. local_answer depth _))
    (local_sequence depth _ _ (type_extension_local depth start) (λ x. local_answer depth _))))
