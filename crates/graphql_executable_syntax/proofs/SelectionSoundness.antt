-- What the reader of selection sets answers is what the grammar has.
use Rattle.std.proofs.Common.{◌≡◌, ℕ, zero, suc, false, List, Option, None, Some, Ok, inl, inr, refl}
use Rattle.graphql_nodes.specs.Names.{NameText}
use Rattle.graphql_nodes.specs.declared.spans.SourceSpan.{SourceSpan}
use Rattle.graphql_tokens.specs.declared.token.TokenKind.TheVariants.{Name, Colon, LeftBrace, RightBrace, Spread}
use Rattle.graphql_trees.specs.declared.executable.Field.{roll-Field}
use Rattle.graphql_trees.specs.declared.executable.FragmentSpread.{FragmentSpread}
use Rattle.graphql_trees.specs.declared.executable.Selection.{Selection}
use Rattle.graphql_trees.specs.declared.executable.Selection.TheVariants as tree
use Rattle.graphql_trees.specs.declared.executable.SelectionSet.{SelectionSet}
use Rattle.graphql_syntax.specs.declared.keywords.Keyword.TheVariants as keyword
use Rattle.graphql_syntax.specs.declared.production.More.TheVariants.{Until}
use Rattle.graphql_syntax.specs.declared.refusals.Expected.TheVariants as expected
use Rattle.graphql_syntax.specs.Inputs.{Input, is_kind, is_keyword, start_of, between, Takes, IsName}
use Rattle.graphql_syntax.specs.Many.{Many, nothing, more, Some1, some, Perhaps, absent, present}
use Rattle.graphql_syntax.specs.Reading.{Reader, expect, expect_keyword, name_at, more_test, some_of}
use Rattle.graphql_syntax.specs.DirectiveReaders.{arguments_at, directives_at}
use Rattle.graphql_syntax.proofs.ReaderLemmas.{answered, placed, sequence_ok, choose_ok, starting_ok, refuse_not_ok, too_deep_not_ok, take_one_ok, name_ok}
use Rattle.graphql_syntax.proofs.RepetitionLemmas.{some_sound}
use Rattle.graphql_executable_syntax.specs.Selections.{IsAlias, IsFragmentName, IsTypeCondition, IsSelectionSet, in_braces, AreSelections, no_selections, more_selections, PerhapsSelectionSet, no_selection_set, some_selection_set, IsSelection, field, fragment_spread, inline_fragment}
use Rattle.graphql_executable_syntax.specs.SelectionReaders.{fragment_name_at, type_condition_at, fragment_spread_behind, inline_fragment_behind, conditioned_behind, spread_with, perhaps_set_with, field_behind, aliased_behind, field_with, selection_with, selection_set_with, selection_set_at, selection_at}
use Rattle.graphql_syntax.proofs.DirectiveLemmas.{arguments_sound, directives_sound}

pub fragment_name_sound : (i : Input) (r : NameText × Input) → fragment_name_at i ≡ Ok r → IsFragmentName i r.0 r.1
unfolding fragment_name_at
fragment_name_sound i r e = elim (choose_ok (is_keyword keyword.On) _ _ i r e) [
  | inl h ↦ absurd (refuse_not_ok expected.FragmentName i r h.1)
  | inr h ↦ record { is_name = name_ok i r h.1; not_on = h.0 }
]

pub type_condition_sound : (i : Input) (r : NameText × Input) → type_condition_at i ≡ Ok r → IsTypeCondition i r.0 r.1
unfolding type_condition_at
type_condition_sound i r e =
    let (m, em, e1) = sequence_ok (expect_keyword keyword.On) _ i r e in
    let (n, en, e2) = sequence_ok name_at _ m.1 r e1 in
    answered (IsTypeCondition i) n.0 n.1 r e2 (record {
      behind_on = m.1;
      on = take_one_ok (is_keyword keyword.On) (expected.Keyword keyword.On) i m em;
      named_type = name_ok m.1 n en;
    })

-- a reader of selection sets at a depth
abbrev pub SetSound : ℕ → Reader SelectionSet → Type 0
SetSound depth set = (i : Input) (r : SelectionSet × Input) → set i ≡ Ok r → IsSelectionSet depth i r.0 r.1

spread_name_sound : (depth : ℕ) (i m : Input) (r : Selection × Input) → Takes Spread i m → fragment_spread_behind depth (start_of i) m ≡ Ok r → IsSelection depth i r.0 r.1
unfolding fragment_spread_behind
spread_name_sound depth i m r dots e =
    let (n, en, e1) = sequence_ok fragment_name_at _ m r e in
    let (l, el, e2) = sequence_ok (directives_at false depth) _ n.1 r e1 in
    let tree_at : SourceSpan → FragmentSpread = λ span. record { name = n.0; directives = l.0; span = span } in
    placed (IsSelection depth i) (start_of i) (λ span. tree.FragmentSpread (tree_at span)) l.1 r e2
    (fragment_spread i l.1 (tree_at (between i l.1)) (record {
      behind_dots = m;
      behind_name = n.1;
      dots = dots;
      name = fragment_name_sound m n en;
      directives = directives_sound false depth n.1 l el;
      span = refl;
    }))

inline_sound : (depth : ℕ) (set : Reader SelectionSet) → SetSound depth set → (i m n : Input) (condition : Option NameText) (r : Selection × Input) →
    Takes Spread i m → Perhaps IsTypeCondition m condition n → inline_fragment_behind depth set (start_of i) condition n ≡ Ok r → IsSelection depth i r.0 r.1
unfolding inline_fragment_behind
inline_sound depth set sound i m n condition r dots conditioned e =
    let (l, el, e1) = sequence_ok (directives_at false depth) _ n r e in
    let (q, eq, e2) = sequence_ok set _ l.1 r e1 in
    placed (IsSelection depth i) (start_of i)
    (λ span. tree.InlineFragment (record { type_condition = condition; directives = l.0; selection_set = q.0; span = span })) q.1 r e2
    (inline_fragment i m n l.1 q.1 condition l.0 q.0 dots conditioned (directives_sound false depth n l el) (sound l.1 q eq))

conditioned_sound : (depth : ℕ) (set : Reader SelectionSet) → SetSound depth set → (i m : Input) (r : Selection × Input) →
    Takes Spread i m → conditioned_behind depth set (start_of i) m ≡ Ok r → IsSelection depth i r.0 r.1
conditioned_sound depth set sound i m r dots e =
    let (n, en, e1) = sequence_ok type_condition_at _ m r e in
    inline_sound depth set sound i m n.1 (Some n.0) r dots (present m n.1 n.0 (type_condition_sound m n en)) e1

spread_sound : (depth : ℕ) (set : Reader SelectionSet) → SetSound depth set → (i : Input) (r : Selection × Input) → spread_with depth set i ≡ Ok r → IsSelection depth i r.0 r.1
unfolding spread_with
spread_sound depth set sound i r e =
    let (m, em, e1) = sequence_ok (expect Spread) _ i r (starting_ok _ i (Ok r) e) in
    let dots = take_one_ok (is_kind Spread) (expected.Token Spread) i m em in
    elim (choose_ok (is_keyword keyword.On) _ _ m.1 r e1) [
      | inl h ↦ conditioned_sound depth set sound i m.1 r dots h.1
      | inr h ↦ elim (choose_ok (is_kind Name) _ _ m.1 r h.1) [
        | inl k ↦ spread_name_sound depth i m.1 r dots k.1
        | inr k ↦ inline_sound depth set sound i m.1 m.1 None r dots (absent m.1) k.1
      ]
    ]

perhaps_set_sound : (depth : ℕ) (set : Reader SelectionSet) → SetSound depth set → (i : Input) (r : Option SelectionSet × Input) →
    perhaps_set_with set i ≡ Ok r → PerhapsSelectionSet depth i r.0 r.1
unfolding perhaps_set_with
perhaps_set_sound depth set sound i r e = elim (choose_ok (is_kind LeftBrace) _ _ i r e) [
  | inl h ↦
      let (m, em, e1) = sequence_ok set _ i r h.1 in
      answered (PerhapsSelectionSet depth i) (Some m.0) m.1 r e1 (some_selection_set i m.1 m.0 (sound i m em))
  | inr h ↦ answered (PerhapsSelectionSet depth i) None i r h.1 (no_selection_set i)
]

field_behind_sound : (depth : ℕ) (set : Reader SelectionSet) → SetSound depth set → (i m n : Input) (alias : Option NameText) (name : NameText) (r : Selection × Input) →
    Perhaps IsAlias i alias m → IsName m name n → field_behind depth set (start_of i) alias name n ≡ Ok r → IsSelection depth i r.0 r.1
unfolding field_behind
field_behind_sound depth set sound i m n alias name r aliased named e =
    let (k, ek, e1) = sequence_ok (arguments_at false depth) _ n r e in
    let (l, el, e2) = sequence_ok (directives_at false depth) _ k.1 r e1 in
    let (q, eq, e3) = sequence_ok (perhaps_set_with set) _ l.1 r e2 in
    placed (IsSelection depth i) (start_of i)
    (λ span. tree.Field (roll-Field (record { alias = alias; name = name; arguments = k.0; directives = l.0; selection_set = q.0; span = span }))) q.1 r e3
    (field i m n k.1 l.1 q.1 alias name k.0 l.0 q.0 aliased named (arguments_sound false depth n k ek) (directives_sound false depth k.1 l el)
    (perhaps_set_sound depth set sound l.1 q eq))

aliased_sound : (depth : ℕ) (set : Reader SelectionSet) → SetSound depth set → (i m : Input) (alias : NameText) (r : Selection × Input) →
    IsName i alias m → aliased_behind depth set (start_of i) alias m ≡ Ok r → IsSelection depth i r.0 r.1
aliased_sound depth set sound i m alias r named e =
    let (k, ek, e1) = sequence_ok (expect Colon) _ m r e in
    let (n, en, e2) = sequence_ok name_at _ k.1 r e1 in
    field_behind_sound depth set sound i k.1 n.1 (Some alias) n.0 r
    (present i k.1 alias (record { behind_name = m; name = named; colon = take_one_ok (is_kind Colon) (expected.Token Colon) m k ek }))
    (name_ok k.1 n en) e2

field_sound : (depth : ℕ) (set : Reader SelectionSet) → SetSound depth set → (i : Input) (r : Selection × Input) → field_with depth set i ≡ Ok r → IsSelection depth i r.0 r.1
unfolding field_with
field_sound depth set sound i r e =
    let (m, em, e1) = sequence_ok name_at _ i r (starting_ok _ i (Ok r) e) in
    elim (choose_ok (is_kind Colon) _ _ m.1 r e1) [
      | inl h ↦ aliased_sound depth set sound i m.1 m.0 r (name_ok i m em) h.1
      | inr h ↦ field_behind_sound depth set sound i i m.1 None m.0 r (absent i) (name_ok i m em) h.1
    ]

selection_with_sound : (depth : ℕ) (set : Reader SelectionSet) → SetSound depth set → (i : Input) (r : Selection × Input) → selection_with depth set i ≡ Ok r → IsSelection depth i r.0 r.1
unfolding selection_with
selection_with_sound depth set sound i r e = elim (choose_ok (is_kind Spread) _ _ i r e) [
  | inl h ↦ spread_sound depth set sound i r h.1
  | inr h ↦ elim (choose_ok (is_kind Name) _ _ i r h.1) [
    | inl k ↦ field_sound depth set sound i r k.1
    | inr k ↦ absurd (refuse_not_ok expected.Selection i r k.1)
  ]
]

-- one after another, as the grammar of selections says it
pub are_selections : (depth : ℕ) (i : Input) (xs : List Selection) (j : Input) → Many (IsSelection depth) i xs j → AreSelections depth i xs j
are_selections depth _ _ _ (nothing i) = no_selections i
are_selections depth _ _ _ (more i m j x xs is are) = more_selections i m j x xs is (are_selections depth m xs j are)

braces_sound : (depth : ℕ) (i m n j : Input) (xs : List Selection) → Takes LeftBrace i m → Some1 (IsSelection depth) m xs n → Takes RightBrace n j →
    IsSelectionSet (suc depth) i (record { selections = xs; span = between i j }) j
braces_sound depth i _ _ j _ opening (some m k n x xs is are) closing = in_braces i m k n j x xs opening is (are_selections depth k xs n are) closing

set_with_sound : (depth : ℕ) (selection : Reader Selection) → ((i : Input) (r : Selection × Input) → selection i ≡ Ok r → IsSelection depth i r.0 r.1) →
    SetSound (suc depth) (selection_set_with selection)
unfolding selection_set_with
set_with_sound depth selection sound i r e =
    let (m, em, e1) = sequence_ok (expect LeftBrace) _ i r (starting_ok _ i (Ok r) e) in
    let (n, en, e2) = sequence_ok (some_of (more_test (Until RightBrace)) selection) _ m.1 r e1 in
    let (k, ek, e3) = sequence_ok (expect RightBrace) _ n.1 r e2 in
    placed (IsSelectionSet (suc depth) i) (start_of i) (λ span. record { selections = n.0; span = span }) k.1 r e3
    (braces_sound depth i m.1 n.1 k.1 n.0 (take_one_ok (is_kind LeftBrace) (expected.Token LeftBrace) i m em)
    (some_sound (IsSelection depth) (more_test (Until RightBrace)) selection sound m.1 n en) (take_one_ok (is_kind RightBrace) (expected.Token RightBrace) n.1 k ek))

pub selection_set_sound : (depth : ℕ) → SetSound depth (selection_set_at depth)
unfolding selection_set_at
selection_set_sound zero i r e = elim (choose_ok (is_kind LeftBrace) _ _ i r e) [
  | inl h ↦ absurd (too_deep_not_ok i r h.1)
  | inr h ↦ absurd (refuse_not_ok (expected.Token LeftBrace) i r h.1)
]
selection_set_sound (suc depth) i r e =
    set_with_sound depth (selection_at depth) (selection_with_sound depth (selection_set_at depth) (selection_set_sound depth)) i r e

pub selection_sound : (depth : ℕ) (i : Input) (r : Selection × Input) → selection_at depth i ≡ Ok r → IsSelection depth i r.0 r.1
selection_sound depth = selection_with_sound depth (selection_set_at depth) (selection_set_sound depth)
