-- The reader of selection sets answers by what it reads and the token behind it.
use Rattle.std.proofs.Common.{ℕ, zero, suc, false, refl}
use Rattle.graphql_tokens.specs.declared.token.TokenKind.TheVariants.{Colon, LeftBrace, RightBrace, Spread}
use Rattle.graphql_trees.specs.declared.executable.SelectionSet.{SelectionSet}
use Rattle.graphql_nodes.specs.Names.{NameText}
use Rattle.std.proofs.Common.{Option}
use Rattle.graphql_syntax.specs.declared.keywords.Keyword.TheVariants as keyword
use Rattle.graphql_syntax.specs.Reading.{Reader}
use Rattle.graphql_syntax.proofs.Locality.{Local, Moves, local_answer, local_place, local_refuse, local_sequence, local_choose, local_starting, kind_is_plain, keyword_is_plain}
use Rattle.graphql_syntax.proofs.TokenLocality.{local_take_one, local_name, local_too_deep, local_bracketed}
use Rattle.graphql_syntax.proofs.RepetitionLemmas.{local_some}
use Rattle.graphql_executable_syntax.specs.SelectionReaders.{fragment_name_at, type_condition_at, fragment_spread_behind, inline_fragment_behind, spread_with, perhaps_set_with, field_behind, field_with, selection_with, selection_set_with, selection_set_at, selection_at}
use Rattle.graphql_syntax.proofs.DirectiveLemmas.{arguments_local, directives_local}
use Rattle.graphql_executable_syntax.proofs.SelectionReading.{selection_moves}
use Rattle.graphql_executable_syntax.proofs.SelectionSoundness.{selection_sound}

pub fragment_name_local : (depth : ℕ) → Local depth fragment_name_at
unfolding fragment_name_at
fragment_name_local depth = local_choose depth _ _ _ (local_refuse depth _) (local_name depth)

pub type_condition_local : (depth : ℕ) → Local depth type_condition_at
unfolding type_condition_at
type_condition_local depth =
    local_sequence depth _ _ (local_take_one depth _ _ (keyword_is_plain keyword.On)) (λ on.
    local_sequence depth _ _ (local_name depth) (λ name. local_answer depth _))

spread_behind_local : (depth start : ℕ) → Local depth (fragment_spread_behind depth start)
unfolding fragment_spread_behind
spread_behind_local depth start =
    local_sequence depth _ _ (fragment_name_local depth) (λ name.
    local_sequence depth _ _ (directives_local false depth) (λ directives.
    local_sequence depth _ _ (local_place depth start) (λ span. local_answer depth _)))

inline_local : (depth : ℕ) (set : Reader SelectionSet) → Local depth set → (start : ℕ) (condition : Option NameText) → Local depth (inline_fragment_behind depth set start condition)
unfolding inline_fragment_behind
inline_local depth set inside start condition =
    local_sequence depth _ _ (directives_local false depth) (λ directives.
    local_sequence depth _ _ inside (λ selection_set.
    local_sequence depth _ _ (local_place depth start) (λ span. local_answer depth _)))

spread_local : (depth : ℕ) (set : Reader SelectionSet) → Local depth set → Local depth (spread_with depth set)
unfolding spread_with
spread_local depth set inside =
    local_starting depth _ (λ start. local_sequence depth _ _ (local_take_one depth _ _ (kind_is_plain Spread refl refl)) (λ dots.
    local_choose depth _ _ _
    (local_sequence depth _ _ (type_condition_local depth) (λ condition. inline_local depth set inside start _))
    (local_choose depth _ _ _ (spread_behind_local depth start) (inline_local depth set inside start _))))

perhaps_set_local : (depth : ℕ) (set : Reader SelectionSet) → Local depth set → Local depth (perhaps_set_with set)
unfolding perhaps_set_with
perhaps_set_local depth set inside =
    local_choose depth _ _ _ (local_sequence depth _ _ inside (λ x. local_answer depth _)) (local_answer depth _)

field_behind_local : (depth : ℕ) (set : Reader SelectionSet) → Local depth set → (start : ℕ) (alias : Option NameText) (name : NameText) → Local depth (field_behind depth set start alias name)
unfolding field_behind
field_behind_local depth set inside start alias name =
    local_sequence depth _ _ (arguments_local false depth) (λ arguments.
    local_sequence depth _ _ (directives_local false depth) (λ directives.
    local_sequence depth _ _ (perhaps_set_local depth set inside) (λ selection_set.
    local_sequence depth _ _ (local_place depth start) (λ span. local_answer depth _))))

field_local : (depth : ℕ) (set : Reader SelectionSet) → Local depth set → Local depth (field_with depth set)
unfolding field_with
field_local depth set inside =
    local_starting depth _ (λ start. local_sequence depth _ _ (local_name depth) (λ first.
    local_choose depth _ _ _
    (local_sequence depth _ _ (local_take_one depth _ _ (kind_is_plain Colon refl refl)) (λ colon.
    local_sequence depth _ _ (local_name depth) (λ name. field_behind_local depth set inside start _ name)))
    (field_behind_local depth set inside start _ first)))

selection_with_local : (depth : ℕ) (set : Reader SelectionSet) → Local depth set → Local depth (selection_with depth set)
unfolding selection_with
selection_with_local depth set inside =
    local_choose depth _ _ _ (spread_local depth set inside) (local_choose depth _ _ _ (field_local depth set inside) (local_refuse depth _))

selection_reader_moves : (depth : ℕ) → Moves (selection_at depth)
selection_reader_moves depth i r e = selection_moves depth i r.0 r.1 (selection_sound depth i r e)

pub selection_set_local : (depth : ℕ) → Local depth (selection_set_at depth)
unfolding selection_set_at selection_set_with
selection_set_local zero = local_too_deep LeftBrace _ refl (local_refuse 0 _)
selection_set_local (suc depth) =
    local_starting (suc depth) _ (λ start. local_bracketed depth LeftBrace RightBrace _ _ refl refl refl refl
    (local_some depth _ _ (selection_with_local depth (selection_set_at depth) (selection_set_local depth)) (selection_reader_moves depth)) (λ selections.
    local_sequence (suc depth) _ _ (local_place (suc depth) start) (λ span. local_answer (suc depth) _)))
