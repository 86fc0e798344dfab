-- The reader of fragments answers by their grammar.
use Rattle.std.proofs.Common.{◌≡◌, ℕ, ◌<◌, false, length, Ok, Result, refl, sym, ◌∙◌, ap, arith, IsTrue}
use Rattle.graphql_nodes.specs.declared.spans.SourceSpan.{SourceSpan}
use Rattle.graphql_trees.specs.declared.executable.FragmentDefinition.{FragmentDefinition}
use Rattle.graphql_syntax.specs.declared.keywords.Keyword.TheVariants as keyword
use Rattle.graphql_syntax.specs.declared.refusals.Expected.TheVariants as expected
use Rattle.graphql_syntax.specs.declared.refusals.Refusal.{Refusal}
use Rattle.graphql_syntax.specs.Inputs.{Input, is_keyword, sees_keyword, start_of}
use Rattle.graphql_syntax.specs.Reading.{expect_keyword}
use Rattle.graphql_syntax.specs.DirectiveReaders.{directives_at}
use Rattle.graphql_syntax.proofs.DirectiveLemmas.{directives_sound, directives_read, directives_less, directives_local}
use Rattle.graphql_syntax.proofs.Locality.{Local, takes_less, local_answer, local_place, local_sequence, local_starting, keyword_is_plain}
use Rattle.graphql_syntax.proofs.TokenLocality.{local_take_one}
use Rattle.graphql_syntax.proofs.NextLemmas.{brace_ends, not_parenthesis, not_at}
use Rattle.graphql_syntax.proofs.ReaderLemmas.{placed, sequence_ok, sequence_read, starting_ok, starting_read, placed_read, take_one_ok, take_one_read}
use Rattle.graphql_executable_syntax.specs.Fragments.{IsFragmentDefinition}
use Rattle.graphql_executable_syntax.specs.FragmentReaders.{fragment_definition_at}
use Rattle.graphql_executable_syntax.specs.SelectionReaders.{fragment_name_at, type_condition_at, selection_set_at}
use Rattle.graphql_executable_syntax.proofs.SelectionLocality.{fragment_name_local, type_condition_local, selection_set_local}
use Rattle.graphql_executable_syntax.proofs.SelectionReading.{set_begins, fragment_name_read, type_condition_read, selection_set_moves, selection_set_read}
use Rattle.graphql_executable_syntax.proofs.SelectionSoundness.{fragment_name_sound, type_condition_sound, selection_set_sound}

pub fragment_begins : (depth : ℕ) (i : Input) (x : FragmentDefinition) (j : Input) → IsFragmentDefinition depth i x j → IsTrue (sees_keyword keyword.Fragment i)
fragment_begins depth i x j is = is.fragment.comes

pub fragment_sound : (depth : ℕ) (i : Input) (r : FragmentDefinition × Input) → fragment_definition_at depth i ≡ Ok r → IsFragmentDefinition depth i r.0 r.1
unfolding fragment_definition_at
fragment_sound depth i r e =
    let (m, em, e1) = sequence_ok (expect_keyword keyword.Fragment) _ i r (starting_ok _ i (Ok r) e) in
    let (n, en, e2) = sequence_ok fragment_name_at _ m.1 r e1 in
    let (k, ek, e3) = sequence_ok type_condition_at _ n.1 r e2 in
    let (l, el, e4) = sequence_ok (directives_at false depth) _ k.1 r e3 in
    let (q, eq, e5) = sequence_ok (selection_set_at depth) _ l.1 r e4 in
    let made : SourceSpan → FragmentDefinition = λ span. record { name = n.0; type_condition = k.0; directives = l.0; selection_set = q.0; span = span } in
    placed (IsFragmentDefinition depth i) (start_of i) made q.1 r e5 (record {
      behind_fragment = m.1;
      behind_name = n.1;
      behind_condition = k.1;
      behind_directives = l.1;
      fragment = take_one_ok (is_keyword keyword.Fragment) (expected.Keyword keyword.Fragment) i m em;
      name = fragment_name_sound m.1 n en;
      type_condition = type_condition_sound n.1 k ek;
      directives = directives_sound false depth k.1 l el;
      selection_set = selection_set_sound depth l.1 q eq;
      span = refl;
    })

with_span : FragmentDefinition → SourceSpan → FragmentDefinition
with_span x span = record x { span = span }

pub fragment_read : (depth : ℕ) (i : Input) (x : FragmentDefinition) (j : Input) → IsFragmentDefinition depth i x j → fragment_definition_at depth i ≡ Ok (x, j)
unfolding fragment_definition_at with_span
fragment_read depth i x j is =
    let m = is.behind_fragment in
    let n = is.behind_name in
    let k = is.behind_condition in
    let l = is.behind_directives in
    let ends = brace_ends l (set_begins depth l x.selection_set j is.selection_set) in
    starting_read _ i _ (sequence_read _ _ i tt m _ (take_one_read _ _ i m is.fragment)
    (sequence_read _ _ m x.name n _ (fragment_name_read m x.name n is.name)
    (sequence_read _ _ n x.type_condition k _ (type_condition_read n x.type_condition k is.type_condition)
    (sequence_read _ _ k x.directives l _ (directives_read false depth k x.directives l is.directives (not_parenthesis l ends) (not_at l ends))
    (sequence_read _ _ l x.selection_set j _ (selection_set_read depth l x.selection_set j is.selection_set)
    (placed_read (start_of i) (with_span x) j ∙ ap (λ span. ok (with_span x span)) (sym is.span))))))) where
      ok : FragmentDefinition → Result (FragmentDefinition × Input) Refusal
      ok y = Ok (y, j)

pub fragment_moves : (depth : ℕ) (i : Input) (x : FragmentDefinition) (j : Input) → IsFragmentDefinition depth i x j → length j.tokens < length i.tokens
fragment_moves depth i x j is =
    omega (
      arith,
      takes_less _ i is.behind_fragment is.fragment,
      takes_less _ is.behind_fragment is.behind_name is.name.is_name.takes,
      takes_less _ is.behind_name is.type_condition.behind_on is.type_condition.on,
      takes_less _ is.type_condition.behind_on is.behind_condition is.type_condition.named_type.takes,
      directives_less false depth is.behind_condition x.directives is.behind_directives is.directives,
      selection_set_moves depth is.behind_directives x.selection_set j is.selection_set,
    )

pub fragment_local : (depth : ℕ) → Local depth (fragment_definition_at depth)
unfolding fragment_definition_at
fragment_local depth =
    local_starting depth _ (λ start. local_sequence depth _ _ (local_take_one depth _ _ (keyword_is_plain keyword.Fragment)) (λ word.
    local_sequence depth _ _ (fragment_name_local depth) (λ name.
    local_sequence depth _ _ (type_condition_local depth) (λ condition.
    local_sequence depth _ _ (directives_local false depth) (λ directives.
    local_sequence depth _ _ (selection_set_local depth) (λ selection_set.
    local_sequence depth _ _ (local_place depth start) (λ span. local_answer depth _)))))))
