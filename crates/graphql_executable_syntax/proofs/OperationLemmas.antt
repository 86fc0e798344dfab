-- The reader of operations answers by their grammar.
use Rattle.std.proofs.Common.{◌≡◌, ℕ, ◌<◌, ◌≤◌, Bool, true, false, inl, inr, List, [], length, Option, None, Some, Ok, Result, refl, sym, ◌∙◌, ap, arith, IsTrue}
use Rattle.graphql_nodes.specs.Names.{NameText}
use Rattle.graphql_nodes.specs.declared.spans.SourceSpan.{SourceSpan}
use Rattle.graphql_tokens.specs.declared.token.TokenKind.TheVariants.{Name, LeftBrace, LeftParenthesis}
use Rattle.graphql_trees.specs.declared.directives.Directive.{Directive}
use Rattle.graphql_trees.specs.declared.executable.OperationDefinition.{OperationDefinition}
use Rattle.graphql_nodes.specs.declared.operation_types.OperationType.{OperationType}
use Rattle.graphql_nodes.specs.declared.operation_types.OperationType.TheVariants as tree
use Rattle.graphql_trees.specs.declared.executable.SelectionSet.{SelectionSet}
use Rattle.graphql_trees.specs.declared.executable.VariableDefinition.{VariableDefinition}
use Rattle.graphql_syntax.specs.declared.keywords.Keyword.TheVariants as keyword
use Rattle.graphql_syntax.specs.declared.refusals.Refusal.{Refusal}
use Rattle.graphql_syntax.specs.Directives.{AreDirectives}
use Rattle.graphql_syntax.specs.Inputs.{same_kind, Input, is_kind, is_keyword, sees, sees_keyword, next_passes, start_of, between, IsName}
use Rattle.graphql_syntax.specs.Many.{Perhaps, PerhapsList, absent, present}
use Rattle.graphql_syntax.specs.OperationTypes.{is_operation_type}
use Rattle.graphql_syntax.specs.OperationTypeReaders.{operation_type_at}
use Rattle.graphql_syntax.specs.Reading.{name_at}
use Rattle.graphql_syntax.specs.DirectiveReaders.{directives_at}
use Rattle.graphql_syntax.proofs.DirectiveLemmas.{directives_apart, directives_sound, directives_read, directives_less, directives_local}
use Rattle.graphql_syntax.proofs.Locality.{Local, takes_less, local_answer, local_place, local_sequence, local_choose, local_starting}
use Rattle.graphql_syntax.proofs.TokenLocality.{local_name}
use Rattle.graphql_syntax.proofs.NextLemmas.{passes_not, passes_left, passes_right, passes_or, name_no_brace, brace_no_name, brace_ends, no_name_no_keyword, other_keyword, not_parenthesis, not_at}
use Rattle.graphql_syntax.proofs.OperationTypeLemmas.{operation_type_sound, operation_type_read, operation_type_moves, operation_type_local, operation_type_passes, operation_type_name}
use Rattle.graphql_syntax.proofs.ReaderLemmas.{answered, placed, sequence_ok, sequence_read, choose_ok, choose_first, choose_second, starting_ok, starting_read, placed_read, answer_read, name_ok, name_read}
use Rattle.graphql_executable_syntax.specs.Operations.{AreVariableDefinitions, IsFullOperation, IsShorthand, IsOperationDefinition, full, shorthand, begins_operation}
use Rattle.graphql_executable_syntax.specs.OperationReaders.{operation_name_at, variable_definitions_at, shorthand_at, full_operation_at, operation_definition_at}
use Rattle.graphql_executable_syntax.specs.SelectionReaders.{selection_set_at}
use Rattle.graphql_executable_syntax.proofs.SelectionLocality.{selection_set_local}
use Rattle.graphql_executable_syntax.proofs.SelectionReading.{set_begins, selection_set_moves, selection_set_read}
use Rattle.graphql_executable_syntax.proofs.SelectionSoundness.{selection_set_sound}
use Rattle.graphql_executable_syntax.proofs.VariableDefinitionLemmas.{variable_definitions_sound, variable_definitions_read, variable_definitions_less, variable_definitions_local}

-- its name
operation_name_sound : (i : Input) (r : Option NameText × Input) → operation_name_at i ≡ Ok r → Perhaps IsName i r.0 r.1
unfolding operation_name_at
operation_name_sound i r e = elim (choose_ok (is_kind Name) _ _ i r e) [
  | inl h ↦
      let (m, em, e1) = sequence_ok name_at _ i r h.1 in
      answered (Perhaps IsName i) (Some m.0) m.1 r e1 (present i m.1 m.0 (name_ok i m em))
  | inr h ↦ answered (Perhaps IsName i) None i r h.1 (absent i)
]

operation_name_read : (i : Input) (x : Option NameText) (j : Input) → Perhaps IsName i x j → sees Name j ≡ false → operation_name_at i ≡ Ok (x, j)
unfolding operation_name_at
operation_name_read _ _ _ (absent i) s = choose_second _ _ _ i s ∙ answer_read None i
operation_name_read _ _ _ (present i j x is) s =
    choose_first _ _ _ i is.takes.comes ∙ sequence_read _ _ i x j _ (name_read i x j is) (answer_read (Some x) j)

operation_name_less : (i : Input) (x : Option NameText) (j : Input) → Perhaps IsName i x j → length j.tokens ≤ length i.tokens
operation_name_less _ _ _ (absent i) = omega arith
operation_name_less _ _ _ (present i j x is) = omega (arith, takes_less _ i j is.takes)

operation_name_local : (depth : ℕ) → Local depth operation_name_at
unfolding operation_name_at
operation_name_local depth = local_choose depth _ _ _ (local_sequence depth _ _ (local_name depth) (λ name. local_answer depth _)) (local_answer depth _)

-- what comes before the braces of its selection set
no_name_before_variables : (depth : ℕ) (i : Input) (xs : List VariableDefinition) (j : Input) → PerhapsList (AreVariableDefinitions depth) i xs j → sees Name j ≡ false → sees Name i ≡ false
unfolding same_kind
no_name_before_variables depth _ _ _ (absent i) s = s
no_name_before_variables depth _ _ _ (present i j xs are) s = passes_not (λ k. same_kind k LeftParenthesis) (λ k. same_kind k Name) refl i are.opening.comes

no_name_before_directives : (depth : ℕ) (i : Input) (xs : List Directive) (j : Input) → AreDirectives false depth i xs j → sees Name j ≡ false → sees Name i ≡ false
unfolding same_kind
no_name_before_directives depth i xs j are s = directives_apart false depth (λ k. same_kind k Name) refl i xs j are s

no_parenthesis_before : (depth : ℕ) (i : Input) (xs : List Directive) (j : Input) → AreDirectives false depth i xs j → sees LeftParenthesis j ≡ false → sees LeftParenthesis i ≡ false
unfolding same_kind
no_parenthesis_before depth i xs j are s = directives_apart false depth (λ k. same_kind k LeftParenthesis) refl i xs j are s

-- what it begins with
pub operation_begins : (depth : ℕ) (i : Input) (x : OperationDefinition) (j : Input) → IsOperationDefinition depth i x j → IsTrue (next_passes begins_operation i)
operation_begins depth _ _ _ (full i j x is) =
    passes_right (is_kind LeftBrace) is_operation_type i (operation_type_passes i x.operation_type is.behind_type is.operation_type)
operation_begins depth _ _ _ (shorthand i j x is) = passes_left (is_kind LeftBrace) is_operation_type i (set_begins depth i x.selection_set j is.selection_set)

-- where an operation begins no fragment does
pub no_fragment_begins : (i : Input) → next_passes begins_operation i ≡ true → sees_keyword keyword.Fragment i ≡ false
no_fragment_begins i e = elim (passes_or (is_kind LeftBrace) is_operation_type i e) [
  | inl h ↦ no_name_no_keyword keyword.Fragment i (brace_no_name i h)
  | inr h ↦ elim (passes_or (is_keyword keyword.Query) _ i h) [
    | inl k ↦ other_keyword keyword.Query keyword.Fragment i refl k
    | inr k ↦ elim (passes_or (is_keyword keyword.Mutation) (is_keyword keyword.Subscription) i k) [
      | inl l ↦ other_keyword keyword.Mutation keyword.Fragment i refl l
      | inr l ↦ other_keyword keyword.Subscription keyword.Fragment i refl l
    ]
  ]
]

-- and where a fragment begins no operation does
pub no_operation_begins : (i : Input) → sees_keyword keyword.Fragment i ≡ true → next_passes begins_operation i ≡ false
no_operation_begins i s = by (next_passes begins_operation i) refl where
  by : (b : Bool) → next_passes begins_operation i ≡ b → b ≡ false
  by true e = absurd (let other = no_fragment_begins i e in let h : ⊥ = cc in h)
  by false e = refl

-- an operation
shorthand_sound : (depth : ℕ) (i : Input) (r : OperationDefinition × Input) → shorthand_at depth i ≡ Ok r → IsOperationDefinition depth i r.0 r.1
unfolding shorthand_at
shorthand_sound depth i r e =
    let (m, em, e1) = sequence_ok (selection_set_at depth) _ i r (starting_ok _ i (Ok r) e) in
    let made : SourceSpan → OperationDefinition =
    λ span. record { operation_type = tree.Query; name = None; variables = []; directives = []; selection_set = m.0; span = span } in
    placed (IsOperationDefinition depth i) (start_of i) made m.1 r e1 (shorthand i m.1 (made (between i m.1)) (record {
      operation_type = refl;
      name = refl;
      variables = refl;
      directives = refl;
      selection_set = selection_set_sound depth i m em;
      span = refl;
    }))

full_sound : (depth : ℕ) (i : Input) (r : OperationDefinition × Input) → full_operation_at depth i ≡ Ok r → IsOperationDefinition depth i r.0 r.1
unfolding full_operation_at
full_sound depth i r e =
    let (m, em, e1) = sequence_ok operation_type_at _ i r (starting_ok _ i (Ok r) e) in
    let (n, en, e2) = sequence_ok operation_name_at _ m.1 r e1 in
    let (k, ek, e3) = sequence_ok (variable_definitions_at depth) _ n.1 r e2 in
    let (l, el, e4) = sequence_ok (directives_at false depth) _ k.1 r e3 in
    let (q, eq, e5) = sequence_ok (selection_set_at depth) _ l.1 r e4 in
    let made : SourceSpan → OperationDefinition =
    λ span. record { operation_type = m.0; name = n.0; variables = k.0; directives = l.0; selection_set = q.0; span = span } in
    placed (IsOperationDefinition depth i) (start_of i) made q.1 r e5 (full i q.1 (made (between i q.1)) (record {
      behind_type = m.1;
      behind_name = n.1;
      behind_variables = k.1;
      behind_directives = l.1;
      operation_type = operation_type_sound i m em;
      name = operation_name_sound m.1 n en;
      variables = variable_definitions_sound depth n.1 k ek;
      directives = directives_sound false depth k.1 l el;
      selection_set = selection_set_sound depth l.1 q eq;
      span = refl;
    }))

pub operation_sound : (depth : ℕ) (i : Input) (r : OperationDefinition × Input) → operation_definition_at depth i ≡ Ok r → IsOperationDefinition depth i r.0 r.1
unfolding operation_definition_at
operation_sound depth i r e = elim (choose_ok (is_kind LeftBrace) _ _ i r e) [
  | inl h ↦ shorthand_sound depth i r h.1
  | inr h ↦ full_sound depth i r h.1
]

with_span : OperationDefinition → SourceSpan → OperationDefinition
with_span x span = record x { span = span }

of_parts : (t : OperationType) (n : Option NameText) (v : List VariableDefinition) (d : List Directive) (s : SelectionSet) (span place : SourceSpan) →
    t ≡ tree.Query → n ≡ None → v ≡ [] → d ≡ [] → span ≡ place →
    ◌≡◌ {A = OperationDefinition} (record { operation_type = tree.Query; name = None; variables = []; directives = []; selection_set = s; span = place })
    (record { operation_type = t; name = n; variables = v; directives = d; selection_set = s; span = span })
of_parts t n v d s span place a b c e f = rw (a, b, c, e, f) refl

shorthand_read : (depth : ℕ) (i : Input) (x : OperationDefinition) (j : Input) → IsShorthand depth i x j → shorthand_at depth i ≡ Ok (x, j)
unfolding shorthand_at
shorthand_read depth i x j is =
    let same = of_parts x.operation_type x.name x.variables x.directives x.selection_set x.span (between i j)
    is.operation_type is.name is.variables is.directives is.span in
    starting_read _ i _ (sequence_read _ _ i x.selection_set j _ (selection_set_read depth i x.selection_set j is.selection_set)
    (placed_read (start_of i) made j ∙ ap ok same)) where
      made : SourceSpan → OperationDefinition
      made span = record { operation_type = tree.Query; name = None; variables = []; directives = []; selection_set = x.selection_set; span = span }

      ok : OperationDefinition → Result (OperationDefinition × Input) Refusal
      ok y = Ok (y, j)

full_read : (depth : ℕ) (i : Input) (x : OperationDefinition) (j : Input) → IsFullOperation depth i x j → full_operation_at depth i ≡ Ok (x, j)
unfolding full_operation_at with_span
full_read depth i x j is =
    let m = is.behind_type in
    let n = is.behind_name in
    let k = is.behind_variables in
    let l = is.behind_directives in
    let opens = set_begins depth l x.selection_set j is.selection_set in
    let ends = brace_ends l opens in
    let no_name = no_name_before_variables depth n x.variables k is.variables (no_name_before_directives depth k x.directives l is.directives (brace_no_name l opens)) in
    let no_parenthesis = no_parenthesis_before depth k x.directives l is.directives (not_parenthesis l ends) in
    starting_read _ i _ (sequence_read _ _ i x.operation_type m _ (operation_type_read i x.operation_type m is.operation_type)
    (sequence_read _ _ m x.name n _ (operation_name_read m x.name n is.name no_name)
    (sequence_read _ _ n x.variables k _ (variable_definitions_read depth n x.variables k is.variables no_parenthesis)
    (sequence_read _ _ k x.directives l _ (directives_read false depth k x.directives l is.directives (not_parenthesis l ends) (not_at l ends))
    (sequence_read _ _ l x.selection_set j _ (selection_set_read depth l x.selection_set j is.selection_set)
    (placed_read (start_of i) (with_span x) j ∙ ap (λ span. ok (with_span x span)) (sym is.span))))))) where
      ok : OperationDefinition → Result (OperationDefinition × Input) Refusal
      ok y = Ok (y, j)

pub operation_read : (depth : ℕ) (i : Input) (x : OperationDefinition) (j : Input) → IsOperationDefinition depth i x j → operation_definition_at depth i ≡ Ok (x, j)
unfolding operation_definition_at
operation_read depth _ _ _ (full i j x is) =
    choose_second _ _ _ i (name_no_brace i (operation_type_name i x.operation_type is.behind_type is.operation_type)) ∙
    full_read depth i x j is
operation_read depth _ _ _ (shorthand i j x is) =
    choose_first _ _ _ i (set_begins depth i x.selection_set j is.selection_set) ∙ shorthand_read depth i x j is

pub operation_moves : (depth : ℕ) (i : Input) (x : OperationDefinition) (j : Input) → IsOperationDefinition depth i x j → length j.tokens < length i.tokens
operation_moves depth _ _ _ (full i j x is) =
    omega (
      arith,
      operation_type_moves i x.operation_type is.behind_type is.operation_type,
      operation_name_less is.behind_type x.name is.behind_name is.name,
      variable_definitions_less depth is.behind_name x.variables is.behind_variables is.variables,
      directives_less false depth is.behind_variables x.directives is.behind_directives is.directives,
      selection_set_moves depth is.behind_directives x.selection_set j is.selection_set,
    )
operation_moves depth _ _ _ (shorthand i j x is) = selection_set_moves depth i x.selection_set j is.selection_set

pub operation_local : (depth : ℕ) → Local depth (operation_definition_at depth)
unfolding operation_definition_at shorthand_at full_operation_at
operation_local depth =
    local_choose depth _ _ _
    (local_starting depth _ (λ start. local_sequence depth _ _ (selection_set_local depth) (λ selection_set.
    local_sequence depth _ _ (local_place depth start) (λ span. local_answer depth _))))
    (local_starting depth _ (λ start. local_sequence depth _ _ (operation_type_local depth) (λ operation_type.
    local_sequence depth _ _ (operation_name_local depth) (λ name.
    local_sequence depth _ _ (variable_definitions_local depth) (λ variables.
    local_sequence depth _ _ (directives_local false depth) (λ directives.
    local_sequence depth _ _ (selection_set_local depth) (λ selection_set.
    local_sequence depth _ _ (local_place depth start) (λ span. local_answer depth _))))))))
